-- Balances: how large they are, and that scenes stay such where they change.
use Rattle.std.proofs.Common.{◌≡◌, ◌∙◌, ℕ, ◌+◌, ◌^◌, ◌<◌, ◌-◌, ℤ, pos, length, None, Some, refl, sym, ap}
use Rattle.std.proofs.Common.{subst, arith, lit<, inl, inr}
use Rattle.std.proofs.lemmas.Int.{ints}
use Rattle.std.proofs.lemmas.Bool.{cases_lt}
use Rattle.std.proofs.lemmas.List.{length-replicate}
use Rattle.std.proofs.lemmas.List.Elements.{All-from_get_or, All-get_or, All-set}
use Rattle.std.proofs.Math.ListN.{get_or-eq_default, length-set}
use Rattle.std.specs.List.{All, slice_index_or}
use Rattle.pungi_domain.specs.Vectors.{at, IsWithin}
use Rattle.pungi_shape.specs.Bounds.{HasBalances, HasWidth, IsScene}
use Rattle.pungi_shape.specs.declared.holding.Holding.{Holding}
use Rattle.pungi_shape.specs.declared.holding.Holding.TheVariants.{Dead, Unset, Null, Text, Known, Number, Token}
use Rattle.pungi_shape.specs.Forms.{Form, zero_form, plus, constant, IsStorable}
use Rattle.pungi_shape.specs.Scenes.{Scene, form_or, balance_at, add_form, add_to_holding}
use Rattle.pungi_shape.proofs.FormBounds.{at-plus, length-plus, constant-parts, constant-width, parts-within}
use Rattle.pungi_shape.proofs.FormBounds.{zero-parts}

pub all-plus : (j k : ℕ) (f g : Form) → length f ≡ length g → All (IsWithin j) f → All (IsWithin k) g
    → All (IsWithin (j + k)) (plus f g)
all-plus j k f g e hf hg = All-from_get_or (λ (z : ℤ). IsWithin (j + k) z) (plus f g) (pos 0) each
  where
    each : (i : ℕ) → i < length (plus f g) → IsWithin (j + k) (at (plus f g) i)
    each i below =
        let l = length-plus f g e in
        let a = hf i (pos 0) (omega (arith, below, l)) in
        let b = hg i (pos 0) (omega (arith, below, l, e)) in
        let c = at-plus f g i e in
        (omega (arith, ints, a.0, b.0, c), omega (arith, ints, a.1, b.1, c))

pub within-storable : (k : ℕ) (f : Form) → k < 2 ^ 63 → All (IsWithin k) f → IsStorable f
within-storable k f lt h = λ i d below. (
    let a = h i d below in
    (omega (arith, ints, a.0, lt), omega (arith, ints, a.1, lt))
    )

pub constant-within : (w : ℕ) (n : ℤ) → IsWithin 1 n → All (IsWithin 1) (constant w n)
constant-within w n h = parts-within n 1 0 (constant w n) (constant-parts w n) h (omega arith)

pub zero_within : (w j : ℕ) → All (IsWithin j) (zero_form w)
zero_within w j =
    parts-within (pos 0) j 0 (zero_form w) (zero-parts w) (omega (arith, ints), omega (arith, ints)) (omega arith)

pub balance_at-within : (s : Scene) (t j : ℕ) → HasBalances j s → All (IsWithin j) (balance_at s t)
balance_at-within s t j h = elim (cases_lt t (length s.balances)) [
  | inl lt ↦ All-get_or (λ o. All (IsWithin j) (form_or s.width o)) s.balances t None lt h
  | inr le ↦ subst (λ o. All (IsWithin j) (form_or s.width o)) (sym (get_or-eq_default s.balances None le))
      (zero_within s.width j)
]

pub balance_at-width : (s : Scene) (t : ℕ) → IsScene s → HasWidth s.width (balance_at s t)
balance_at-width s t h = elim (cases_lt t (length s.balances)) [
  | inl lt ↦ All-get_or (λ o. HasWidth s.width (form_or s.width o)) s.balances t None lt h.balance_widths
  | inr le ↦ ap (λ o. length (form_or s.width o)) (get_or-eq_default s.balances None le)
      ∙ length-replicate s.width (pos 0)
]

pub changed-within : (s : Scene) (t j : ℕ) (n : ℤ) → IsScene s → HasBalances j s → IsWithin 1 n
    → All (IsWithin (j + 1)) (plus (balance_at s t) (constant s.width n))
changed-within s t j n h hb hn =
    all-plus j 1 (balance_at s t) (constant s.width n) (balance_at-width s t h ∙ sym (constant-width s.width n))
    (balance_at-within s t j hb) (constant-within s.width n hn)

pub changed-storable : (s : Scene) (t j : ℕ) (n : ℤ) → IsScene s → HasBalances j s → IsWithin 1 n → j < 2 ^ 63 - 1
    → IsStorable (plus (balance_at s t) (constant s.width n))
changed-storable s t j n h hb hn lt =
    within-storable (j + 1) (plus (balance_at s t) (constant s.width n)) (omega (arith, lt))
    (changed-within s t j n h hb hn)

pub merged-within : (s : Scene) (t u j : ℕ) → IsScene s → HasBalances j s
    → All (IsWithin (j + j)) (plus (balance_at s t) (balance_at s u))
merged-within s t u j h hb =
    all-plus j j (balance_at s t) (balance_at s u) (balance_at-width s t h ∙ sym (balance_at-width s u h))
    (balance_at-within s t j hb) (balance_at-within s u j hb)

pub merged-storable : (s : Scene) (t u : ℕ) → IsScene s → HasBalances 1 s
    → IsStorable (plus (balance_at s t) (balance_at s u))
merged-storable s t u h hb =
    within-storable 2 (plus (balance_at s t) (balance_at s u)) (lit< tt) (merged-within s t u 1 h hb)

-- ---- scenes after a change

pub add_form-scene : (s : Scene) (t : ℕ) (f : Form) → IsScene s → HasWidth s.width f → IsScene (add_form t f s)
add_form-scene s t f h w = record {
  vars = h.vars;
  entry = h.entry;
  balances = length-set s.balances t (Some (plus (balance_at s t) f)) ∙ h.balances;
  var_widths = h.var_widths;
  returned_width = h.returned_width;
  entry_widths = h.entry_widths;
  balance_widths = All-set (λ o. HasWidth s.width (form_or s.width o)) s.balances t
      (Some (plus (balance_at s t) f))
      (length-plus (balance_at s t) f (balance_at-width s t h ∙ sym w) ∙ balance_at-width s t h) h.balance_widths;
  tokens = h.tokens;
}

pub add_to_holding-scene : (h : Holding) (n : ℤ) (s : Scene) → IsScene s → IsScene (add_to_holding h n s)
add_to_holding-scene (Token t) n s k = add_form-scene s t (constant s.width n) k (constant-width s.width n)
add_to_holding-scene Dead n s k = k
add_to_holding-scene Unset n s k = k
add_to_holding-scene Null n s k = k
add_to_holding-scene Text n s k = k
add_to_holding-scene (Known m) n s k = k
add_to_holding-scene Number n s k = k

loose : (j : ℕ) (z : ℤ) → IsWithin j z → IsWithin (j + 1) z
loose j z h = (omega (arith, ints, h.0), omega (arith, ints, h.1))

pub loose_balances : (j : ℕ) (s : Scene) → HasBalances j s → HasBalances (j + 1) s
loose_balances j s h =
    λ k d below i e lt. loose j (slice_index_or (form_or s.width (slice_index_or s.balances k d)) i e)
    (h k d below i e lt)

pub add_to_holding-balances : (h : Holding) (n : ℤ) (j : ℕ) (s : Scene) → IsScene s → IsWithin 1 n
    → HasBalances j s → HasBalances (j + 1) (add_to_holding h n s)
add_to_holding-balances (Token t) n j s k hn hb =
    All-set (λ o. All (IsWithin (j + 1)) (form_or s.width o)) s.balances t
    (Some (plus (balance_at s t) (constant s.width n))) (changed-within s t j n k hb hn) (loose_balances j s hb)
add_to_holding-balances Dead n j s k hn hb = loose_balances j s hb
add_to_holding-balances Unset n j s k hn hb = loose_balances j s hb
add_to_holding-balances Null n j s k hn hb = loose_balances j s hb
add_to_holding-balances Text n j s k hn hb = loose_balances j s hb
add_to_holding-balances (Known m) n j s k hn hb = loose_balances j s hb
add_to_holding-balances Number n j s k hn hb = loose_balances j s hb

pub add_to_holding-width : (h : Holding) (n : ℤ) (s : Scene) → (add_to_holding h n s).width ≡ s.width
add_to_holding-width (Token t) n s = refl
add_to_holding-width Dead n s = refl
add_to_holding-width Unset n s = refl
add_to_holding-width Null n s = refl
add_to_holding-width Text n s = refl
add_to_holding-width (Known m) n s = refl
add_to_holding-width Number n s = refl

pub add_to_holding-shape : (h : Holding) (n : ℤ) (s : Scene) → (add_to_holding h n s).shape ≡ s.shape
add_to_holding-shape (Token t) n s = refl
add_to_holding-shape Dead n s = refl
add_to_holding-shape Unset n s = refl
add_to_holding-shape Null n s = refl
add_to_holding-shape Text n s = refl
add_to_holding-shape (Known m) n s = refl
add_to_holding-shape Number n s = refl
