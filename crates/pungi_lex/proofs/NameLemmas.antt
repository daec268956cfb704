-- A text that has a number is among the names.
use Rattle.std.proofs.Common.{◌≡◌, ℕ, zero, suc, Bool, true, false, ◌||◌, List, [], ◌∷◌, Some, refl, ap}
use Rattle.std.specs.Prelude.{slice_get}
use Rattle.std.specs.Str.{bytes_eq}
use Rattle.std.proofs.lemmas.Slice.Eq.{bytes_eq-Decides}
use Rattle.pungi_base.specs.Names.{has_text, with_text}

or_right : (a b : Bool) → b ≡ true → (a || b) ≡ true
or_right a b h = elim a as (λ (x : Bool). (x || b) ≡ true) [ true ↦ refl | false ↦ h ]

numbered : (texts : List (List ℕ)) (n : ℕ) (text : List ℕ) → slice_get texts n ≡ Some text → has_text texts text ≡ true
numbered [] n text is = absurd cc
numbered (t ∷ texts) zero text is =
    let same : text ≡ t = cc in
    ap (λ (b : Bool). b || has_text texts text) ((bytes_eq-Decides text t).1 same)
numbered (t ∷ texts) (suc n) text is = or_right (bytes_eq text t) (has_text texts text) (numbered texts n text is)

pub numbered_stays : (texts : List (List ℕ)) (n : ℕ) (text : List ℕ) → slice_get texts n ≡ Some text
    → texts ≡ with_text texts text
numbered_stays texts n text is = rw (numbered texts n text is) refl
