-- From what clap says of a parse to what the words ask for.
use Rattle.std.proofs.Common.{◌≡◌, ◌∙◌, ℕ, Bool, true, false, List, [], ◌∷◌, map, refl, subst, inl, inr, Option, None}
use Rattle.std.proofs.Common.{option_map, codes}
use Rattle.std.specs.Prelude.{find, slice_get, option_and_then, Result, Err}
use Rattle.std.specs.Str.{bytes_eq}
use Rattle.std.specs.Borrow.{Bor}
use Rattle.clap.specs.Words.{App, Kinds, HasKind, IsAmong, HasMatchesOf, fault_of, is_simple, is_simple_and_free}
use Rattle.clap.specs.Words.{first_of, first_value, found_of, rows_of, kind_of}
use Rattle.clap.specs.Walk.{row_of}
use Rattle.clap.specs.declared.parser.matches.MatchedArg.{MatchedArg}
use Rattle.clap.specs.declared.error.Error.{Error}
use Rattle.clap.specs.declared.error.kind.ErrorKind.{ErrorKind}
use Rattle.clap.specs.declared.error.kind.ErrorKind.TheVariants.{OutOfMemory}
use Rattle.clap.specs.declared.parser.matches.Found.{Found}
use Rattle.clap.specs.declared.parser.matches.ArgMatches.{ArgMatches}
use Rattle.pungi_config.specs.declared.asked.Settings.{Settings}
use Rattle.pungi_config.specs.declared.words_fault.WordsFault.{WordsFault}
use Rattle.pungi_config.specs.declared.words_fault.WordsFault.TheVariants.{Words, Memory}
use Rattle.pungi_config.specs.Command.{AnswersAsked, IsFaultOf, command, asked, asked_of, is_accepted, Asked}

abbrev Entry : Type 0
Entry = Bor (List ℕ) × MatchedArg

first_text : (vs : List (Bor (List ℕ))) → option_map (λ s. s.now) (slice_get vs 0) ≡ slice_get (map (λ s. s.now) vs) 0
first_text [] = refl
first_text (v ∷ vs) = refl

-- the first text of an id, in the entries and in the rows
found_first : (id : List ℕ) (es : List Entry)
    → option_and_then (λ a. option_map (λ s. s.now) (slice_get a.vals.items 0))
    (option_map (λ e. e.1) (find (λ e. bytes_eq e.0.now id) es)) ≡ first_of id (map row_of es)
found_first id [] = refl
found_first id (e ∷ es) = go (bytes_eq e.0.now id) refl (found_first id es)
  where
    go : (t : Bool) → bytes_eq e.0.now id ≡ t
        → option_and_then (λ a. option_map (λ s. s.now) (slice_get a.vals.items 0))
        (option_map (λ e. e.1) (find (λ e. bytes_eq e.0.now id) es)) ≡ first_of id (map row_of es)
        → option_and_then (λ a. option_map (λ s. s.now) (slice_get a.vals.items 0))
        (option_map (λ e. e.1) (find (λ e. bytes_eq e.0.now id) (e ∷ es))) ≡ first_of id (map row_of (e ∷ es))
    go true t h = rw t (first_text e.1.vals.items)
    go false t h = rw t h

pub first_value_is : (id : List ℕ) (f : Found) → first_value f id ≡ first_of id (rows_of f)
first_value_is id f = found_first id f.entries.items

command_simple : is_simple command ≡ true
command_simple = refl

command_free : is_simple_and_free command ≡ true
command_free = refl

accepted_nil : (k : Kinds) → k ≡ [] → is_accepted k ≡ true
accepted_nil k e = rw e refl

accepted_among : (k : ErrorKind) (ks : Kinds) → IsAmong k ks → is_accepted ks ≡ false
accepted_among k [] h = elim h [ ]
accepted_among k (x ∷ xs) h = refl

-- where clap gives matches
pub matched : (app : App) (words : List (List ℕ)) (m : ArgMatches) → app ≡ command → HasMatchesOf app words m
    → (is_simple_and_free app ≡ true → fault_of app words ≡ [])
    → asked_of words ≡ asked (first_value (found_of m) (codes "file")) (first_value (found_of m) (codes "trial"))
    (first_value (found_of m) (codes "config"))
matched app words m e h k =
    let has : HasMatchesOf command words m = subst (λ (a : App). HasMatchesOf a words m) e h in
    let none : is_simple_and_free command ≡ true
    → fault_of command words ≡ [] = subst (λ (a : App). is_simple_and_free a ≡ true → fault_of a words ≡ []) e k
    in
    let rows = (has command_simple).0 in
    rw (
      accepted_nil _ (none command_free),
      ← rows,
      first_value_is (codes "file") (found_of m),
      first_value_is
          (codes "trial") (found_of m),
      first_value_is (codes "config") (found_of m),
    ) refl

-- where clap refuses, and memory is there
pub refused : (app : App) (words : List (List ℕ)) (e : Error) → app ≡ command
    → (is_simple_and_free app ≡ true → HasKind (fault_of app words) e) → (kind_of e ≡ OutOfMemory → ⊥)
    → asked_of words ≡ None
refused app words e is h free =
    let has : is_simple_and_free command ≡ true
    → HasKind (fault_of command words) e = subst (λ (a : App). is_simple_and_free a ≡ true
    → HasKind (fault_of a words) e) is h in
    elim (has command_free) [
      | inl m ↦ absurd (free m)
      | inr m ↦ rw (accepted_among (kind_of e) (fault_of command words) m) refl
    ]

pub answered : (a : Option Asked) (f f' t t' c c' : Option (List ℕ)) (r : Result Settings WordsFault)
    → a ≡ asked f' t' c'
    → f ≡ f' → t ≡ t' → c ≡ c' → AnswersAsked (asked f t c) r → AnswersAsked a r
answered a f f' t t' c c' r e p q s h = rw (e, ← p, ← q, ← s) h

pub failed : (a : Option Asked) (k k' : ErrorKind) (w : WordsFault) → IsFaultOf k w → k ≡ k'
    → ((k' ≡ OutOfMemory → ⊥) → a ≡ None) → AnswersAsked a (Err w)
failed a k k' Memory h e f = tt
failed a k k' Words h e f = f (λ m. h (e ∙ m))
