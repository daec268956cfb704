-- What the set of refused functions says of a function: only what it says of the words that the function calls, and
-- more where it holds more.
use Rattle.std.proofs.Common.{◌≡◌, ℕ, Bool, true, false, List, [], ◌∷◌, refl, sym, arith}
use Rattle.std.specs.Prelude.{◌==◌, ◌&&◌, ◌||◌, not, is_some}
use Rattle.std.specs.List.{list_any}
use Rattle.std.proofs.lemmas.Bool.Decides.{nat_tests}
use Rattle.pungi_types.specs.Files.{SourceFile, Definition, definitions, definition_in}
use Rattle.pungi_types.specs.Names.{is_among, is_some_definition}
use Rattle.pungi_types.specs.Functions.{refusal}
use Rattle.pungi_check.specs.Calls.{called_words}
use Rattle.pungi_check.proofs.Places.{World, refused_call}
use Rattle.pungi_check.proofs.Agreement.{Agree, none_agree, or-left, or-right}
use Rattle.pungi_check.proofs.SameFunctions.{world_of, refusal-same}
use Rattle.pungi_check.proofs.FindsFunctions.{refusal-finds}

pub same_word : (w : ℕ) → (w == w) ≡ true
same_word w = grind (arith, nat_tests)

agree-each : (x : World) (s t ws : List ℕ) → ((w : ℕ) → is_among ws w ≡ true → is_among s w ≡ is_among t w)
    → Agree x s t ws
agree-each x s t [] h = tt
agree-each x s t (w ∷ ws) h =
    let e = h w (or-left (w == w) (is_among ws w) (same_word w)) in
    (rw e refl, agree-each x s t ws (λ v k. h v (or-right (v == w) (is_among ws v) k)))

-- under two sets that say the same of each word that it calls, a function is refused alike
pub refusal-agrees : (file : SourceFile) (s t : List ℕ) (d : Definition)
    → ((w : ℕ) → is_among (called_words d) w ≡ true → is_among s w ≡ is_among t w)
    → refusal file s d ≡ refusal file t d
refusal-agrees file s t d h = refusal-same file s t d (agree-each (world_of file d) s t (called_words d) h)

both_true : (a b c : Bool) → (a && (b && c)) ≡ true → (a ≡ true) × (b ≡ true) × (c ≡ true)
both_true true true true h = (refl, refl, refl)
both_true true true false h = absurd (cc)
both_true true false c h = absurd (cc)
both_true false b c h = absurd (cc)

pub in_set : (x : World) (t : List ℕ) (w : ℕ) → refused_call x t w ≡ true → is_among t w ≡ true
in_set x t w h =
    (both_true (is_some_definition (definition_in (definitions x.file.items) w)) (not (w == x.self)) (is_among t w)
    h).2

call-grows : (x : World) (s t : List ℕ) → ((w : ℕ) → is_among s w ≡ true → is_among t w ≡ true) → (w : ℕ)
    → refused_call x s w ≡ true → refused_call x t w ≡ true
call-grows x s t g w h =
    let b = both_true (is_some_definition (definition_in (definitions x.file.items) w)) (not (w == x.self))
    (is_among s w) h in
    rw (b.0, b.1, g w b.2) refl

or_false-right : (a b : Bool) → (a || b) ≡ false → b ≡ false
or_false-right true b h = absurd (cc)
or_false-right false b h = h

pub none_of : (p q : ℕ → Bool) (ws : List ℕ) → ((w : ℕ) → p w ≡ true → q w ≡ true) → list_any q ws ≡ false
    → list_any p ws ≡ false
none_of p q [] g h = refl
none_of p q (w ∷ ws) g h = elim (p w) as (λ b. (p w ≡ b) → (b || list_any p ws) ≡ false) [
  | true ↦ λ e. let k = g w e in absurd (cc)
  | false ↦ λ e. none_of p q ws g (or_false-right (q w) (list_any q ws) h)
] refl

-- a function that calls none of the set is refused as under the empty set
pub refusal-alone : (file : SourceFile) (t : List ℕ) (d : Definition)
    → list_any (refused_call (world_of file d) t) (called_words d) ≡ false → refusal file t d ≡ refusal file [] d
refusal-alone file t d h = sym (refusal-same file [] t d (none_agree (world_of file d) t (called_words d) h))

-- under a larger set a refused function is refused
pub refusal-grows : (file : SourceFile) (s t : List ℕ) (d : Definition)
    → ((w : ℕ) → is_among s w ≡ true → is_among t w ≡ true) → is_some (refusal file s d) ≡ true
    → is_some (refusal file t d) ≡ true
refusal-grows file s t d g h =
    let x = world_of file d in
    elim (list_any (refused_call x t) (called_words d)) as (λ b. (list_any (refused_call x t) (called_words d) ≡ b)
    → is_some (refusal file t d) ≡ true) [
      | true ↦ λ e. refusal-finds file t d e
      | false ↦ λ e.
          let a = refusal-alone file t d e in
          let b = refusal-alone file s d (none_of (refused_call x s) (refused_call x t) (called_words d)
          (call-grows x s t g) e) in
          rw (a, ← b) h
    ] refl
