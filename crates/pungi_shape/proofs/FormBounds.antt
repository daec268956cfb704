-- How large the coefficients of forms are.
--   HasParts n k f          the leading coefficient is n, and the others are at most k in absolute value
--   lead_of o, lead a       the leading coefficient of an atom, as a number: its constant, or 0
use Rattle.std.proofs.Common.{◌≡◌, ◌∙◌, ℕ, zero, suc, ◌+◌, ◌^◌, ◌<◌, ◌≤◌, ℤ, pos, negsuc, ◌+ℤ◌, ◌*ℤ◌}
use Rattle.std.proofs.Common.{[], ◌∷◌, length, Option, None, Some, refl, sym, ap, subst, arith, lit<}
use Rattle.std.proofs.Common.{◌==◌, if◌then◌else◌, inl, inr}
use Rattle.std.proofs.lemmas.Int.{ints}
use Rattle.std.proofs.lemmas.Bool.{cases_lt}
use Rattle.std.proofs.lemmas.Bool.Decides.{nat_tests}
use Rattle.std.proofs.lemmas.List.{length-map, length-replicate}
use Rattle.std.proofs.lemmas.List.Elements.{All-from_get_or, All-get_or}
use Rattle.std.proofs.lemmas.List.FromFn.{get_or-map-range_with_len, length-map-range_with_len}
use Rattle.std.proofs.Math.ListN.{get_or-eq_default}
use Rattle.std.specs.List.{All}
use Rattle.pungi_domain.specs.Vectors.{at, IsWithin, IsEquation}
use Rattle.pungi_code.specs.declared.atom.Atom.{Atom}
use Rattle.pungi_code.specs.declared.atom.Atom.TheVariants as atom
use Rattle.pungi_shape.specs.Bounds.{HasWidth, IsCoordinate, IsFresh, IsPlain, IsScene}
use Rattle.pungi_shape.specs.Forms.{Form, zero_form, unit, plus, minus, times, constant, IsFactor, IsStorable}
use Rattle.pungi_shape.specs.Numbers.{constant_of}
use Rattle.pungi_shape.specs.Scenes.{Scene, form_at, form_of}

pub record HasParts (n : ℤ) (k : ℕ) (f : Form) : Type 0 where
  pub leading : 0 < length f → at f 0 ≡ n
  pub within : (i : ℕ) → 0 < i → i < length f → IsWithin k (at f i)

-- ---- widths

pub length-plus : (f g : Form) → length f ≡ length g → length (plus f g) ≡ length f
length-plus [] g e = refl
length-plus (a ∷ f) [] e = sym e
length-plus (a ∷ f) (b ∷ g) e = (let h = length-plus f g (omega (arith, e)) in omega (arith, h))

pub length-times : (n : ℤ) (f : Form) → length (times n f) ≡ length f
length-times n f = length-map f (λ c. n *ℤ c)

pub length-unit : (w k : ℕ) → length (unit w k) ≡ w
length-unit w k = length-map-range_with_len (λ i. if i == k then pos 1 else pos 0) 0 w

-- ---- coefficients

pub at-plus : (f g : Form) (i : ℕ) → length f ≡ length g → at (plus f g) i ≡ at f i +ℤ at g i
at-plus [] [] i e = refl
at-plus [] (b ∷ g) i e = absurd (omega (arith, e))
at-plus (a ∷ f) [] i e = absurd (omega (arith, e))
at-plus (a ∷ f) (b ∷ g) zero e = refl
at-plus (a ∷ f) (b ∷ g) (suc i) e = at-plus f g i (omega (arith, e))

pub at-times : (n : ℤ) (f : Form) (i : ℕ) → at (times n f) i ≡ n *ℤ at f i
at-times n [] i = omega (arith, ints)
at-times n (c ∷ f) zero = refl
at-times n (c ∷ f) (suc i) = at-times n f i

off_lead : (i : ℕ) → 0 < i → (if i == 0 then pos 1 else pos 0) ≡ pos 0
off_lead i lt = grind (arith, nat_tests)

pub at-unit_zero : (w i : ℕ) → 0 < i → i < w → at (unit w 0) i ≡ pos 0
at-unit_zero w i lt below =
    get_or-map-range_with_len (λ j. if j == 0 then pos 1 else pos 0) 0 w i i (pos 0) below (omega arith)
    ∙ off_lead i lt

pub at-unit_lead : (w : ℕ) → 0 < w → at (unit w 0) 0 ≡ pos 1
at-unit_lead w below =
    get_or-map-range_with_len (λ j. if j == 0 then pos 1 else pos 0) 0 w 0 0 (pos 0) below (omega arith)

-- ---- parts

pub zero-parts : (w : ℕ) → HasParts (pos 0) 0 (zero_form w)
zero-parts zero = record { leading = λ h. refl; within = λ i h k. absurd (omega (arith, k)) }
zero-parts (suc w) = record { leading = λ h. refl; within = λ i h k. zeros (suc w) i }
  where
    zeros : (n i : ℕ) → IsWithin 0 (at (zero_form n) i)
    zeros zero i = (omega (arith, ints), omega (arith, ints))
    zeros (suc n) zero = (omega (arith, ints), omega (arith, ints))
    zeros (suc n) (suc i) = zeros n i

pub plus-parts : (m n : ℤ) (j k : ℕ) (f g : Form) → length f ≡ length g → HasParts m j f → HasParts n k g
    → HasParts (m +ℤ n) (j + k) (plus f g)
plus-parts m n j k f g e hf hg = record {
  leading = λ h. (
      let l = length-plus f g e in
      let a = hf.leading (omega (arith, h, l)) in
      let b = hg.leading (omega (arith, h, l, e)) in
      let c = at-plus f g 0 e in
      cc
      );
  within = λ i lt below. (
      let l = length-plus f g e in
      let a = hf.within i lt (omega (arith, below, l)) in
      let b = hg.within i lt (omega (arith, below, l, e)) in
      let c = at-plus f g i e in
      (omega (arith, ints, a.0, b.0, c), omega (arith, ints, a.1, b.1, c))
      );
}

-- a coordinate is within 1
times_within : (j : ℕ) (m z : ℤ) → IsWithin j m → IsWithin 1 z → IsWithin j (m *ℤ z)
times_within j m (pos zero) h k = (omega (arith, ints), omega (arith, ints))
times_within j m (pos (suc zero)) h k = (omega (arith, ints, h.0), omega (arith, ints, h.1))
times_within j m (pos (suc (suc n))) h k = absurd (let a = k.0 in omega (arith, ints, a))
times_within j m (negsuc zero) h k = (omega (arith, ints, h.0, h.1), omega (arith, ints, h.0, h.1))
times_within j m (negsuc (suc n)) h k = absurd (let b = k.1 in omega (arith, ints, b))

pub times-parts : (m n : ℤ) (j : ℕ) (f : Form) → IsWithin j m → HasParts n 1 f → HasParts (m *ℤ n) j (times m f)
times-parts m n j f hm hf = record {
  leading = λ h. at-times m f 0 ∙ ap (λ z. m *ℤ z) (hf.leading (omega (arith, h, length-times m f)));
  within = λ i lt below. subst (λ (z : ℤ). IsWithin j z) (sym (at-times m f i))
      (times_within j m (at f i) hm (hf.within i lt (omega (arith, below, length-times m f))));
}

pub loose-parts : (n : ℤ) (j k : ℕ) (f : Form) → j ≤ k → HasParts n j f → HasParts n k f
loose-parts n j k f le h = record {
  leading = h.leading;
  within = λ i lt below. (let a = h.within i lt below in (omega (arith, ints, a.0, le), omega (arith, ints, a.1, le)));
}

pub constant-parts : (w : ℕ) (n : ℤ) → HasParts n 0 (constant w n)
constant-parts w n = record {
  leading = λ h. (
      let a = at-times n (unit w 0) 0 in
      let b = at-unit_lead w (omega (arith, h, length-times n (unit w 0), length-unit w 0)) in
      let c = ap (λ z. n *ℤ z) b in
      omega (arith, ints, a, c)
      );
  within = λ i lt below. (
      let a = at-times n (unit w 0) i in
      let b = at-unit_zero w i lt (omega (arith, below, length-times n (unit w 0), length-unit w 0)) in
      let c = ap (λ z. n *ℤ z) b in
      (omega (arith, ints, a, c), omega (arith, ints, a, c))
      );
}

pub coordinate-parts : (f : Form) → IsCoordinate f → HasParts (pos 0) 1 f
coordinate-parts f h = record {
  leading = λ lt. h.leading;
  within = λ i lt below. h.within i (pos 0) below;
}

-- ---- atoms

abbrev pub lead_of : Option ℤ → ℤ
lead_of None = pos 0
lead_of (Some n) = n

abbrev pub lead : Atom → ℤ
lead a = lead_of (constant_of a)

pub fresh-plain : (s : Scene) → IsFresh s → IsPlain s
fresh-plain s h = record { vars = h.vars; balances = h.balances }

pub form_at-parts : (s : Scene) (x : ℕ) → IsPlain s → HasParts (pos 0) 1 (form_at s x)
form_at-parts s x h = elim (cases_lt x (length s.vars)) [
  | inl lt ↦ coordinate-parts (form_at s x)
      (All-get_or (λ (f : Form). IsCoordinate f) s.vars x (zero_form s.width) lt h.vars)
  | inr le ↦ subst (λ (f : Form). HasParts (pos 0) 1 f) (sym (get_or-eq_default s.vars (zero_form s.width) le))
      (loose-parts (pos 0) 0 1 (zero_form s.width) (omega arith) (zero-parts s.width))
]

pub form_of-parts : (s : Scene) (a : Atom) → IsPlain s → HasParts (lead a) 1 (form_of s a)
form_of-parts s (atom.Var x) h = form_at-parts s x.0 h
form_of-parts s (atom.Int n) h = loose-parts n 0 1 (constant s.width n) (omega arith) (constant-parts s.width n)
form_of-parts s atom.Null h = loose-parts (pos 0) 0 1 (zero_form s.width) (omega arith) (zero-parts s.width)
form_of-parts s atom.Text h = loose-parts (pos 0) 0 1 (zero_form s.width) (omega arith) (zero-parts s.width)
form_of-parts s (atom.Static k) h = loose-parts (pos 0) 0 1 (zero_form s.width) (omega arith) (zero-parts s.width)

pub form_at-width : (s : Scene) (x : ℕ) → IsScene s → HasWidth s.width (form_at s x)
form_at-width s x h = elim (cases_lt x (length s.vars)) [
  | inl lt ↦ All-get_or (λ (f : Form). HasWidth s.width f) s.vars x (zero_form s.width) lt h.var_widths
  | inr le ↦ ap length (get_or-eq_default s.vars (zero_form s.width) le) ∙ length-replicate s.width (pos 0)
]

pub constant-width : (w : ℕ) (n : ℤ) → HasWidth w (constant w n)
constant-width w n = length-times n (unit w 0) ∙ length-unit w 0

pub form_of-width : (s : Scene) (a : Atom) → IsScene s → HasWidth s.width (form_of s a)
form_of-width s (atom.Var x) h = form_at-width s x.0 h
form_of-width s (atom.Int n) h = constant-width s.width n
form_of-width s atom.Null h = length-replicate s.width (pos 0)
form_of-width s atom.Text h = length-replicate s.width (pos 0)
form_of-width s (atom.Static k) h = length-replicate s.width (pos 0)

-- ---- what parts show

pub parts-storable : (n : ℤ) (k : ℕ) (f : Form) → HasParts n k f → IsFactor n → k < 2 ^ 63 → IsStorable f
parts-storable n k f h hn lt = All-from_get_or (λ (z : ℤ). IsFactor z) f (pos 0) each
  where
    each : (i : ℕ) → i < length f → IsFactor (at f i)
    each zero below = subst (λ (z : ℤ). IsFactor z) (sym (h.leading below)) hn
    each (suc i) below = (let a = h.within (suc i) (omega arith) below in
        (omega (arith, ints, a.0, lt), omega (arith, ints, a.1, lt)))

pub parts-within : (n : ℤ) (j k : ℕ) (f : Form) → HasParts n k f → IsWithin j n → k ≤ j → All (IsWithin j) f
parts-within n j k f h hn le = All-from_get_or (λ (z : ℤ). IsWithin j z) f (pos 0) each
  where
    each : (i : ℕ) → i < length f → IsWithin j (at f i)
    each zero below = subst (λ (z : ℤ). IsWithin j z) (sym (h.leading below)) hn
    each (suc i) below = (let a = h.within (suc i) (omega arith) below in
        (omega (arith, ints, a.0, le), omega (arith, ints, a.1, le)))

pub parts-equation : (w : ℕ) (n : ℤ) (k : ℕ) (f : Form) → HasWidth w f → HasParts n k f → k ≤ 2 ^ 20
    → IsEquation w f
parts-equation w n k f e h le = record {
  width = e;
  within = λ i lt below. (
      let a = h.within i lt (omega (arith, below, e)) in
      (omega (arith, ints, a.0, le), omega (arith, ints, a.1, le))
      );
}

-- ---- results

pub sum-storable : (s : Scene) (a b : Atom) → IsScene s → IsFresh s → IsFactor (lead a +ℤ lead b)
    → IsStorable (plus (form_of s a) (form_of s b))
sum-storable s a b h fresh hn =
    parts-storable (lead a +ℤ lead b) 2 (plus (form_of s a) (form_of s b))
    (plus-parts (lead a) (lead b) 1 1 (form_of s a) (form_of s b)
    (form_of-width s a h ∙ sym (form_of-width s b h)) (form_of-parts s a (fresh-plain s fresh))
    (form_of-parts s b (fresh-plain s fresh))) hn (lit< tt)

pub opposite-parts : (s : Scene) (b : Atom) → IsPlain s
    → HasParts (negsuc 0 *ℤ lead b) 1 (times (negsuc 0) (form_of s b))
opposite-parts s b fresh =
    times-parts (negsuc 0) (lead b) 1 (form_of s b) (omega (arith, ints), omega (arith, ints)) (form_of-parts s b fresh)

pub difference-parts : (s : Scene) (a b : Atom) → IsScene s → IsPlain s
    → HasParts (lead a +ℤ (negsuc 0 *ℤ lead b)) 2 (minus (form_of s a) (form_of s b))
difference-parts s a b h fresh =
    plus-parts (lead a) (negsuc 0 *ℤ lead b) 1 1 (form_of s a) (times (negsuc 0) (form_of s b))
    (form_of-width s a h ∙ sym (length-times (negsuc 0) (form_of s b) ∙ form_of-width s b h))
    (form_of-parts s a fresh) (opposite-parts s b fresh)

pub difference-storable : (s : Scene) (a b : Atom) → IsScene s → IsFresh s
    → IsFactor (lead a +ℤ (negsuc 0 *ℤ lead b)) → IsStorable (minus (form_of s a) (form_of s b))
difference-storable s a b h fresh hn =
    parts-storable (lead a +ℤ (negsuc 0 *ℤ lead b)) 2 (minus (form_of s a) (form_of s b))
    (difference-parts s a b h (fresh-plain s fresh)) hn (lit< tt)

pub multiple-storable : (s : Scene) (m : ℤ) (a : Atom) → IsFresh s → IsWithin (2 ^ 20) m → IsFactor (m *ℤ lead a)
    → IsStorable (times m (form_of s a))
multiple-storable s m a fresh hm hn =
    parts-storable (m *ℤ lead a) (2 ^ 20) (times m (form_of s a))
    (times-parts m (lead a) (2 ^ 20) (form_of s a) hm (form_of-parts s a (fresh-plain s fresh))) hn (lit< tt)
