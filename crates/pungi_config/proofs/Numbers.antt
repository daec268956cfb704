-- The number of a name among names, and names once one more is among them.
use Rattle.std.proofs.Common.{◌≡◌, ℕ, zero, suc, ◌+◌, ◌≤◌, Bool, true, false, not, cond, List, [], ◌∷◌, ◌++◌, length}
use Rattle.std.proofs.Common.{Some}
use Rattle.std.proofs.Common.{refl, sym, ap, subst, ◌∙◌, arith, append-nil, append_assoc, length-append}
use Rattle.std.proofs.Common.{true≢false, one-add}
use Rattle.std.specs.Prelude.{slice_get, if◌then◌else◌}
use Rattle.std.specs.List.{AllByRecursion, IsDistinct}
use Rattle.std.specs.Str.{bytes_eq}
use Rattle.std.proofs.lemmas.Slice.Eq.{bytes_eq-Decides}
use Rattle.pungi_api.specs.declared.row.Row.{Row}
use Rattle.pungi_base.specs.CWords.{is_c_word}
use Rattle.pungi_base.specs.Names.{has_text, with_text, AreDistinct, AreNames, Extends}
use Rattle.pungi_config.specs.Configuration.{number_of, is_free, is_free_number}
use Rattle.pungi_config.proofs.Parts.{some_same}

pub same_bytes : (a b : List ℕ) → a ≡ b → bytes_eq a b ≡ true
same_bytes a b e = (bytes_eq-Decides a b).1 e

turned : (a b : List ℕ) → bytes_eq a b ≡ false → bytes_eq b a ≡ false
turned a b h = go (bytes_eq b a) refl
  where
    go : (t : Bool) → bytes_eq b a ≡ t → bytes_eq b a ≡ false
    go false e = e
    go true e = absurd (true≢false (sym (same_bytes a b (sym ((bytes_eq-Decides b a).0 e))) ∙ h))

-- a text that none of these is
apart_at : (y : List ℕ) (ys : List (List ℕ)) (n : ℕ) (x : List ℕ) → AllByRecursion (λ z. bytes_eq y z ≡ false) ys
    → slice_get ys n ≡ Some x → bytes_eq y x ≡ false
apart_at y [] n x h e = absurd cc
apart_at y (z ∷ ys) zero x h e = subst (λ (w : List ℕ). bytes_eq y w ≡ false) (some_same z x e) h.0
apart_at y (z ∷ ys) (suc n) x h e = apart_at y ys n x h.1 e

number_at : (names : List (List ℕ)) (name : List ℕ) (n : ℕ) → AreDistinct names → slice_get names n ≡ Some name
    → number_of names name ≡ n
unfolding IsDistinct
number_at [] name n d e = absurd cc
number_at (x ∷ xs) name zero d e = rw (same_bytes name x (sym (some_same x name e))) refl
number_at (x ∷ xs) name (suc n) d e =
    rw (turned x name (apart_at x xs n name d.0 e), number_at xs name n d.1 e) (one-add n)

number_last : (names : List (List ℕ)) (name : List ℕ) → number_of (names ++ name ∷ []) name ≡ number_of names name
number_last [] name = rw (same_bytes name name refl) refl
number_last (x ∷ xs) name = ap (λ n. cond (not (bytes_eq name x)) (1 + n) 0) (number_last xs name)

number_with : (names : List (List ℕ)) (name : List ℕ) → number_of (with_text names name) name ≡ number_of names name
number_with names name = go (has_text names name)
  where
    go : (t : Bool) → number_of (if t then names else names ++ name ∷ []) name ≡ number_of names name
    go true = refl
    go false = number_last names name

-- a name has the number under which it stands once it is among the names
pub number_is : (names new : List (List ℕ)) (name : List ℕ) (n : ℕ) → new ≡ with_text names name → AreNames new
    → slice_get new n ≡ Some name → n ≡ number_of names name
number_is names new name n is distinct at =
    sym (number_at new name n distinct.distinct at) ∙ ap (λ (l : List (List ℕ)). number_of l name) is
    ∙ number_with names name

pub extends_same : (a b : List (List ℕ)) → b ≡ a → Extends a b
extends_same a b e = ([], e ∙ sym (append-nil a))

pub extends_on : (a b c : List (List ℕ)) → Extends a b → Extends b c → Extends a c
extends_on a b c x y = (x.0 ++ y.0, y.1 ∙ ap (λ (l : List (List ℕ)). l ++ y.0) x.1 ∙ append_assoc a x.0 y.0)

pub extends_with : (names new : List (List ℕ)) (name : List ℕ) → new ≡ with_text names name → Extends names new
extends_with names new name is = subst (λ (l : List (List ℕ)). Extends names l) (sym is) (go (has_text names name))
  where
    go : (t : Bool) → Extends names (if t then names else names ++ name ∷ [])
    go true = extends_same names names refl
    go false = (name ∷ [], refl)

pub few_with : (names new : List (List ℕ)) (name : List ℕ) → new ≡ with_text names name → length new ≤ length names + 1
few_with names new name is =
    subst (λ (l : List (List ℕ)). length l ≤ length names + 1) (sym is) (go (has_text names name))
  where
    go : (t : Bool) → length (if t then names else names ++ name ∷ []) ≤ length names + 1
    go true = omega arith
    go false = omega (arith, length-append names (name ∷ []))

at_append : (a more : List (List ℕ)) (n : ℕ) (x : List ℕ) → slice_get a n ≡ Some x → slice_get (a ++ more) n ≡ Some x
at_append [] more n x e = absurd cc
at_append (y ∷ a) more zero x e = e
at_append (y ∷ a) more (suc n) x e = at_append a more n x e

pub at_extended : (a b : List (List ℕ)) (n : ℕ) (x : List ℕ) → Extends a b → slice_get a n ≡ Some x
    → slice_get b n ≡ Some x
at_extended a b n x grown e =
    subst (λ (l : List (List ℕ)). slice_get l n ≡ Some x) (sym grown.1) (at_append a grown.0 n x e)

-- the same for a name that is spelled by a text
module _ (names new : List (List ℕ)) (name text : List ℕ) (n : ℕ) (same : text ≡ name) (is : new ≡ with_text names text)
    (distinct : AreNames new) (at : slice_get new n ≡ Some text) where
  pub number_of_text : n ≡ number_of names name
  number_of_text = number_is names new text n is distinct at ∙ ap (number_of names) same

  -- whether the name is free, by the number that it has
  pub free_text : (rows : List (ℕ × Row)) (b : Bool) → is_c_word name ≡ true → b ≡ is_free_number rows n
      → b ≡ is_free rows names name
  free_text rows b word e = rw (word, ← number_of_text) e
