-- Where each name in the tokens of a text is known, so is each name in what they become.
use Rattle.std.proofs.Common.{◌≡◌, ◌+◌, ◌<◌, ℕ, zero, suc, Bool, true, false, cond, ◌==◌, ◌&&◌, List, [], ◌∷◌, ◌++◌}
use Rattle.std.proofs.Common.{length, get_or, get_or-take, drop, set, Option, Some, None, refl, sym, ap, subst, ◌∙◌}
use Rattle.std.proofs.Common.{arith, true≢false}
use Rattle.std.specs.Prelude.{Result, Ok, Err, IfOk}
use Rattle.std.specs.List.{All, list_all}
use Rattle.std.proofs.lemmas.List.{length-take}
use Rattle.std.proofs.lemmas.List.Elements.{All-nil, All-cons, All-append, All-map, All-head, All-tail, All-set}
use Rattle.std.proofs.lemmas.List.Elements.{All-push, All-drop, All-from_recursion}
use Rattle.pungi_base.specs.declared.pos.Pos.{Pos}
use Rattle.pungi_base.specs.declared.kind.Kind.{Kind}
use Rattle.pungi_base.specs.declared.kind.Kind.TheVariants as kind
use Rattle.pungi_base.specs.declared.punct.Punct.TheVariants as punct
use Rattle.pungi_base.specs.declared.token.Token.{Token}
use Rattle.pungi_base.specs.Numbers.{py_return_none, py_return_true, py_return_false, py_begin_allow_threads}
use Rattle.pungi_base.specs.Numbers.{py_end_allow_threads, py_modinit_func, py_object_head, py_object_var_head, py_lt}
use Rattle.pungi_base.specs.Numbers.{py_le, py_eq, py_ne, py_gt, py_ge, py_object, py_var_object, py_none, py_true}
use Rattle.pungi_base.specs.Numbers.{py_false, py_new_ref, ob_base}
use Rattle.pungi_base.specs.CWords.{is_c_word, IsCWord}
use Rattle.pungi_base.specs.Words.{BeginWithWords, builtin_words}
use Rattle.pungi_lex.specs.declared.macro_fault.MacroFault.{MacroFault}
use Rattle.pungi_lex.specs.Directive.{Defines, Define, OfFunction, Again, Joint, Obeys, Inclusion, Definition, Other}
use Rattle.pungi_lex.specs.Directive.{kinds_in}
use Rattle.pungi_lex.specs.Expander.{Part, tokens_in, Runs, Ends, Directs, Expanded, IsExpanded}
use Rattle.pungi_lex.specs.Known.{IsKnown, AreKnown}
use Rattle.pungi_lex.specs.Macros.{Macros, Expands, Nothing, Kept, Replaced, body_of, placed}
use Rattle.pungi_lex.specs.Predefined.{predefined, first_body, returned, headed, number, word}

abbrev AreKnownKinds : List (List ℕ) → List Kind → Type 0
AreKnownKinds names kinds = All (IsKnown names) kinds

abbrev IsKnownBody : List (List ℕ) → Option (List Kind) → Type 0
IsKnownBody names None = Unit {0}
IsKnownBody names (Some kinds) = AreKnownKinds names kinds

abbrev AreKnownMacros : List (List ℕ) → Macros → Type 0
AreKnownMacros names macros = All (IsKnownBody names) macros

-- ---- the predefined macros

one : (names : List (List ℕ)) (k : Kind) → IsKnown names k → AreKnownKinds names (k ∷ [])
one names k h = All-cons (IsKnown names) k [] h (All-nil (IsKnown names))

more : (names : List (List ℕ)) (k : Kind) (ks : List Kind) → IsKnown names k → AreKnownKinds names ks
    → AreKnownKinds names (k ∷ ks)
more names k ks h t = All-cons (IsKnown names) k ks h t

-- the words that are known before a text are words of C
words_fit : list_all is_c_word builtin_words ≡ true
words_fit = refl

and_left : (a b : Bool) → (a && b) ≡ true → a ≡ true
and_left true b h = refl
and_left false b h = absurd (true≢false (sym h))

and_right : (a b : Bool) → (a && b) ≡ true → b ≡ true
and_right true b h = h
and_right false b h = absurd (true≢false (sym h))

all_at : (p : List ℕ → Bool) (words : List (List ℕ)) (n : ℕ) → list_all p words ≡ true → n < length words
    → p (get_or words n []) ≡ true
all_at p [] n h lt = absurd (omega (arith, lt))
all_at p (w ∷ words) zero h lt = and_left (p w) (list_all p words) h
all_at p (w ∷ words) (suc n) h lt = all_at p words n (and_right (p w) (list_all p words) h) (omega (arith, lt))

word_known : (names : List (List ℕ)) (n : ℕ) → BeginWithWords names → n < length builtin_words → IsCWord names n
word_known names n words lt =
    let many : n < length names = omega (arith, ap length words, length-take (length builtin_words) names) in
    let same : get_or builtin_words n [] ≡ get_or names n [] = ap (λ (l : List (List ℕ)). get_or l n []) (sym words)
    ∙ get_or-take (length builtin_words) names n [] lt in
    (many, ap is_c_word (sym same) ∙ all_at is_c_word builtin_words n words_fit lt)

returned_known : (names : List (List ℕ)) (object : ℕ) → BeginWithWords names → object < length builtin_words
    → AreKnownKinds names (returned object)
returned_known names object words known =
    All-from_recursion (IsKnown names) (returned object) (
      tt,
      (
        word_known names py_new_ref words (omega arith),
        (tt, (word_known names object words known, (tt, tt))),
      ),
    )

headed_known : (names : List (List ℕ)) (struct : ℕ) → BeginWithWords names → struct < length builtin_words
    → AreKnownKinds names (headed struct)
headed_known names struct words known =
    All-from_recursion (IsKnown names) (headed struct) (
      word_known names struct words known,
      (word_known names ob_base words (omega arith), (tt, tt)),
    )

pointer_known : (names : List (List ℕ)) → BeginWithWords names
    → AreKnownKinds names (word py_object ∷ kind.Punct punct.Star ∷ [])
pointer_known names words =
    All-from_recursion (IsKnown names) (word py_object ∷ kind.Punct punct.Star ∷ [])
    (word_known names py_object words (omega arith), (tt, tt))

record KnownBody (names : List (List ℕ)) (body : Option (List Kind)) : Type 0 where
  pub is : IsKnownBody names body

choose : (names : List (List ℕ)) (b : Bool) (kinds : List Kind) (others : Option (List Kind))
    → AreKnownKinds names kinds → KnownBody names others → KnownBody names (cond b (Some kinds) others)
choose names true kinds others here there = record { is = here }
choose names false kinds others here there = there

nothing_known : (names : List (List ℕ)) → KnownBody names None
nothing_known names = record { is = tt }

first_known : (names : List (List ℕ)) (n : ℕ) → BeginWithWords names → KnownBody names (first_body n)
first_known names n words =
    choose names (n == py_return_none) (returned py_none) _ (returned_known names py_none words (omega arith))
    (choose names (n == py_return_true) (returned py_true) _ (returned_known names py_true words (omega arith))
    (choose names (n == py_return_false) (returned py_false) _ (returned_known names py_false words (omega arith))
    (choose names (n == py_begin_allow_threads) (kind.Punct punct.LeftBrace ∷ []) _
    (one names (kind.Punct punct.LeftBrace) tt)
    (choose names (n == py_end_allow_threads) (kind.Punct punct.RightBrace ∷ []) _
    (one names (kind.Punct punct.RightBrace) tt)
    (choose names (n == py_modinit_func) (word py_object ∷ kind.Punct punct.Star ∷ []) _ (pointer_known names words)
    (choose names (n == py_object_head) (headed py_object) _ (headed_known names py_object words (omega arith))
    (choose names (n == py_object_var_head) (headed py_var_object) _ (headed_known names py_var_object words
    (omega arith))
    (choose names (n == py_lt) (number 0) _ (number_known names 0)
    (choose names (n == py_le) (number 1) _ (number_known names 1)
    (choose names (n == py_eq) (number 2) _ (number_known names 2)
    (choose names (n == py_ne) (number 3) _ (number_known names 3)
    (choose names (n == py_gt) (number 4) _ (number_known names 4)
    (choose names (n == py_ge) (number 5) None (number_known names 5) (nothing_known names))))))))))))))
  where
    number_known : (names : List (List ℕ)) (value : ℕ) → AreKnownKinds names (number value)
    number_known names value = All-from_recursion (IsKnown names) (number value) (tt, tt)

predefined_known : (names : List (List ℕ)) (count : ℕ) → BeginWithWords names → AreKnownMacros names (predefined count)
predefined_known names zero words = All-nil (IsKnownBody names)
predefined_known names (suc count) words =
    All-push (IsKnownBody names) (predefined count) (first_body count) (predefined_known names count words)
    (first_known names count words).is

-- ---- expansions

body_known : (names : List (List ℕ)) (macros : Macros) (n : ℕ) (body : List Kind) → AreKnownMacros names macros
    → body_of macros n ≡ Some body → AreKnownKinds names body
body_known names [] n body all e = absurd cc
body_known names (b ∷ macros) zero body all e = subst (IsKnownBody names) e (All-head (IsKnownBody names) b macros all)
body_known names (b ∷ macros) (suc n) body all e =
    body_known names macros n body (All-tail (IsKnownBody names) b macros all) e

expands_known : (names : List (List ℕ)) (macros : Macros) (ks out : List Kind) (n : ℕ) → Expands macros ks out n
    → AreKnownMacros names macros → AreKnownKinds names ks → AreKnownKinds names out
expands_known names macros ks out n (Nothing _) all known = known
expands_known names macros ks out n (Kept _ k rest o i e x) all known =
    more names k o (All-head (IsKnown names) k rest known) (expands_known names macros rest o i x all
    (All-tail (IsKnown names) k rest known))
expands_known names macros ks out n (Replaced _ k name body rest inner o i j w e x y) all known =
    All-append (IsKnown names) inner o
    (expands_known names (set macros name None) body inner i x (All-set (IsKnownBody names) macros name None tt all)
    (body_known names macros name body all e))
    (expands_known names macros rest o j y all (All-tail (IsKnown names) k rest known))

-- ---- directives

kinds_known : (names : List (List ℕ)) (tokens : List Token) → AreKnown names tokens
    → AreKnownKinds names (kinds_in tokens)
kinds_known names tokens known = All-map (IsKnown names) (λ (t : Token). t.kind) tokens known

defines_known : (names : List (List ℕ)) (macros : Macros) (name : ℕ) (at : Pos) (body : List Token)
    (r : Result Macros MacroFault) → Defines macros name at body r → AreKnownMacros names macros
    → AreKnown names body
    → IfOk r (λ next. AreKnownMacros names next)
defines_known names macros name at body r (Define _ f d n) all known =
    All-set (IsKnownBody names) macros name (Some (kinds_in body)) (kinds_known names body known) all
defines_known names macros name at body r (OfFunction _ f) all known = tt
defines_known names macros name at body r (Again _ f d) all known = tt
defines_known names macros name at body r (Joint _ i t f d j is) all known = tt

obeys_known : (names : List (List ℕ)) (macros : Macros) (hash : Token) (words : List Token)
    (r : Result Macros MacroFault) → Obeys macros hash words r → AreKnownMacros names macros → AreKnown names words
    → IfOk r (λ next. AreKnownMacros names next)
obeys_known names macros hash words r (Inclusion _ i) all known = all
obeys_known names macros hash words r (Definition _ name at _ i d x) all known =
    defines_known names macros name at (drop 2 words) r x all (All-drop (λ (t : Token). IsKnown names t.kind) 2
    words known)
obeys_known names macros hash words r (Other _ i d) all known = tt

-- ---- the whole

abbrev IsKnownToken : List (List ℕ) → Token → Type 0
IsKnownToken names t = IsKnown names t.kind

append_front : (names : List (List ℕ)) (a b : List Token) → AreKnown names (a ++ b) → AreKnown names a
append_front names [] b known = All-nil (IsKnownToken names)
append_front names (t ∷ a) b known =
    All-cons (IsKnownToken names) t a (All-head (IsKnownToken names) t (a ++ b) known)
    (append_front names a b (All-tail (IsKnownToken names) t (a ++ b) known))

append_back : (names : List (List ℕ)) (a b : List Token) → AreKnown names (a ++ b) → AreKnown names b
append_back names [] b known = known
append_back names (t ∷ a) b known = append_back names a b (All-tail (IsKnownToken names) t (a ++ b) known)

runs_known : (names : List (List ℕ)) (macros : Macros) (n : ℕ) (parts : List Part) (out : List Token)
    (last : Macros) (m : ℕ) → Runs macros n parts out last m → AreKnownMacros names macros
    → AreKnown names (tokens_in parts) → AreKnown names out
runs_known names macros n parts out last m (Ends _ _) all known = known
runs_known names macros n parts out last m (Directs _ next _ _ _ hash words rest _ obeys runs) all known =
    let behind : AreKnown names (words ++ tokens_in rest) = All-tail (IsKnownToken names) hash
    (words ++ tokens_in rest) known in
    runs_known names next n rest out last m runs (obeys_known names macros hash words (Ok next) obeys all
    (append_front names words (tokens_in rest) behind)) (append_back names words (tokens_in rest) behind)
runs_known names macros n parts out last m (Expanded _ _ _ k _ t kinds rest later expands few runs) all known =
    All-append (IsKnownToken names) (placed t kinds) later
    (All-map (IsKnownToken names) (λ (x : Kind). record t { kind = x }) kinds
    (expands_known names macros (t.kind ∷ []) kinds k expands all (one names t.kind
    (All-head (IsKnownToken names) t (tokens_in rest) known))))
    (runs_known names macros (n + k) rest later last m runs all (All-tail (IsKnownToken names) t (tokens_in rest)
    known))

pub expansion_known : {A : Type 0} (items : A → List Token) (names : List (List ℕ)) (tokens : List Token)
    (r : Result A MacroFault) → BeginWithWords names → AreKnown names tokens
    → IfOk r (λ found. IsExpanded (length names) tokens (items found)) → IfOk r (λ found. AreKnown names (items found))
expansion_known items names tokens (Ok found) words known x =
    runs_known names (predefined (length names)) 0 x.parts (items found) x.last x.count x.runs
    (predefined_known names (length names) words)
    (append_front names (tokens_in x.parts) [] (subst (AreKnown names) x.whole known))
expansion_known items names tokens (Err f) words known x = tt
