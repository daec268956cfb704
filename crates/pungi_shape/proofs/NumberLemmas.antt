-- How large results are that have a place in a kind's range.
--   IsConstant o            a constant, if there is one, is one of 64 bits; and so is its opposite
use Rattle.std.proofs.Common.{◌≡◌, ◌∙◌, ◌^◌, ◌-◌, ℤ, pos, negsuc, ◌+ℤ◌, ◌*ℤ◌, ◌-ℤ◌, ◌≤ℤ◌, refl, sym, ap, subst}
use Rattle.std.proofs.Common.{Bool, true, false, Option, None, Some, arith, lit<}
use Rattle.std.specs.Prelude.{if◌then◌else◌, ◌&&◌, int_le, is_none, IfSome}
use Rattle.std.proofs.lemmas.Int.{ints, to_z-of_z}
use Rattle.std.specs.Cmp.{int_ranked}
use Rattle.std.specs.Ordering.{MatchOrdering, int_cmp}
use Rattle.std.specs.declared.cmp.Ordering.{Ordering}
use Rattle.std.specs.declared.cmp.Ordering.TheVariants.{Equal}
use lib.Signed.{◌<ℤ◌}
use mir.Syntax.{w64}
use mir.Val.{SFits, of_z, to_z}
use Rattle.pungi_domain.specs.Ring.{mul_comm}
use Rattle.pungi_types.specs.declared.kind.ValueKind.{ValueKind}
use Rattle.pungi_types.specs.declared.kind.ValueKind.TheVariants as kinds
use Rattle.pungi_meaning.specs.declared.op.Op.TheVariants as ops
use Rattle.pungi_meaning.specs.Values.{fits, in_range}
use Rattle.pungi_world.specs.Choices.{is_between}
use Rattle.pungi_code.specs.declared.atom.Atom.{Atom}
use Rattle.pungi_code.specs.declared.atom.Atom.TheVariants as atom
use Rattle.pungi_domain.specs.Vectors.{IsWithin}
use Rattle.pungi_shape.specs.Bounds.{IsFresh, IsScene, has_opposite}
use Rattle.pungi_shape.specs.Forms.{IsFactor, IsStorable, minus, times}
use Rattle.pungi_shape.specs.Numbers.{constant_of, either, if_small, known_by, small_constant, stays_out, value_by}
use Rattle.pungi_shape.specs.Scenes.{Scene, form_of}
use Rattle.pungi_shape.proofs.FormBounds.{lead_of, lead, difference-storable, multiple-storable}
use Rattle.pungi_shape.proofs.FormBounds.{fresh-plain, opposite-parts, parts-storable}

pub both_true : (x y : Bool) → (x && y) ≡ true → (x ≡ true) × (y ≡ true)
both_true true y h = (refl, h)
both_true false y h = absurd (cc)

le_of : (a b : ℤ) → int_le a b ≡ true → a ≤ℤ b
le_of a b h = grind (arith, ints)

pub between_of : (low high n : ℤ) → is_between low high n ≡ true → (low ≤ℤ n) × (n ≤ℤ high)
between_of low high n h =
    let e = both_true (int_le low n) (int_le n high) h in
    (le_of low n e.0, le_of n high e.1)

int_factor : (n : ℤ) → (negsuc (2 ^ 31 - 1) ≤ℤ n) × (n ≤ℤ pos (2 ^ 31 - 1)) → IsFactor n
int_factor n h = (omega (arith, ints, h.1), omega (arith, ints, h.0))

long_factor : (n : ℤ) → (negsuc (2 ^ 63 - 1) ≤ℤ n) × (n ≤ℤ pos (2 ^ 63 - 1)) → IsFactor n
long_factor n h = (omega (arith, ints, h.1), omega (arith, ints, h.0))

pub fits-factor : (kind : ValueKind) (n : ℤ) → fits kind n ≡ true → IsFactor n
fits-factor kinds.Int n h = int_factor n (between_of (negsuc (2 ^ 31 - 1)) (pos (2 ^ 31 - 1)) n h)
fits-factor kinds.Long n h = long_factor n (between_of (negsuc (2 ^ 63 - 1)) (pos (2 ^ 63 - 1)) n h)
fits-factor kinds.Size n h = long_factor n (between_of (negsuc (2 ^ 63 - 1)) (pos (2 ^ 63 - 1)) n h)
fits-factor kinds.Text n h = long_factor n (between_of (negsuc (2 ^ 63 - 1)) (pos (2 ^ 63 - 1)) n h)
fits-factor (kinds.Object name) n h = long_factor n (between_of (negsuc (2 ^ 63 - 1)) (pos (2 ^ 63 - 1)) n h)
fits-factor kinds.Null n h = long_factor n (between_of (negsuc (2 ^ 63 - 1)) (pos (2 ^ 63 - 1)) n h)
fits-factor kinds.Void n h = long_factor n (between_of (negsuc (2 ^ 63 - 1)) (pos (2 ^ 63 - 1)) n h)

some_fits : (kind : ValueKind) (n : ℤ) (b : Bool) → fits kind n ≡ b → is_none (in_range kind n) ≡ false
    → fits kind n ≡ true
some_fits kind n true e h = e
some_fits kind n false e h = absurd (let k : true ≡ false = rw e at h in cc)

pub in_range-factor : (kind : ValueKind) (n : ℤ) → is_none (in_range kind n) ≡ false → IsFactor n
in_range-factor kind n h = fits-factor kind n (some_fits kind n (fits kind n) refl h)

-- ---- constants

pub record IsConstant (o : Option ℤ) : Type 0 where
  pub factor : IfSome o (λ n. IsFactor n)
  pub opposite : IfSome o (λ n. IsFactor (negsuc 0 *ℤ n))

pub constant-opposite : (a : Atom) → has_opposite a ≡ true → IfSome (constant_of a) (λ n. IsFactor n)
    → IsConstant (constant_of a)
constant-opposite (atom.Int n) h k =
    let low = le_of (negsuc (2 ^ 63 - 2)) n h in
    record { factor = k; opposite = (omega (arith, ints, low, k.0, k.1), omega (arith, ints, low, k.0, k.1)) }
constant-opposite (atom.Var x) h k = record { factor = k; opposite = k }
constant-opposite atom.Null h k = record { factor = k; opposite = k }
constant-opposite atom.Text h k = record { factor = k; opposite = k }
constant-opposite (atom.Static n) h k = record { factor = k; opposite = k }

pub opposite-factor : (o : Option ℤ) → IsConstant o → IsFactor (negsuc 0 *ℤ lead_of o)
opposite-factor (Some n) h = h.opposite
opposite-factor None h = (omega (arith, ints), omega (arith, ints))

pub opposite-storable : (s : Scene) (b : Atom) → IsFresh s → IsConstant (constant_of b)
    → IsStorable (times (negsuc 0) (form_of s b))
opposite-storable s b fresh h =
    parts-storable (negsuc 0 *ℤ lead b) 1 (times (negsuc 0) (form_of s b))
    (opposite-parts s b (fresh-plain s fresh))
    (opposite-factor (constant_of b) h) (lit< tt)

zero_factor : IsFactor (pos 0)
zero_factor = (omega (arith, ints), omega (arith, ints))

same_factor : (m n : ℤ) → m ≡ n → IsFactor n → IsFactor m
same_factor m n e h = subst (λ (z : ℤ). IsFactor z) (sym e) h

pub sum-factor : (kind : ValueKind) (o p : Option ℤ) → IsConstant o → IsConstant p
    → stays_out ops.Add kind o p ≡ false → IsFactor (lead_of o +ℤ lead_of p)
sum-factor kind (Some m) (Some n) ho hp h = in_range-factor kind (m +ℤ n) h
sum-factor kind (Some m) None ho hp h = same_factor (m +ℤ pos 0) m (omega (arith, ints)) ho.factor
sum-factor kind None (Some n) ho hp h = same_factor (pos 0 +ℤ n) n (omega (arith, ints)) hp.factor
sum-factor kind None None ho hp h = zero_factor

pub difference-factor : (kind : ValueKind) (o p : Option ℤ) → IsConstant o → IsConstant p
    → stays_out ops.Sub kind o p ≡ false → IsFactor (lead_of o +ℤ (negsuc 0 *ℤ lead_of p))
difference-factor kind (Some m) (Some n) ho hp h =
    same_factor (m +ℤ (negsuc 0 *ℤ n)) (m -ℤ n) (omega (arith, ints)) (in_range-factor kind (m -ℤ n) h)
difference-factor kind (Some m) None ho hp h =
    same_factor (m +ℤ (negsuc 0 *ℤ pos 0)) m (omega (arith, ints)) ho.factor
difference-factor kind None (Some n) ho hp h =
    same_factor (pos 0 +ℤ (negsuc 0 *ℤ n)) (negsuc 0 *ℤ n) (omega (arith, ints)) hp.opposite
difference-factor kind None None ho hp h = zero_factor

-- equal constants have the difference 0
pub equal-factor : (o p : Option ℤ) → IsConstant o → IsConstant p
    → ((m n : ℤ) → o ≡ Some m → p ≡ Some n → m ≡ n) → IsFactor (lead_of o +ℤ (negsuc 0 *ℤ lead_of p))
equal-factor (Some m) (Some n) ho hp h =
    let e = h m n refl refl in
    same_factor (m +ℤ (negsuc 0 *ℤ n)) (pos 0) (omega (arith, ints, e)) zero_factor
equal-factor (Some m) None ho hp h =
    same_factor (m +ℤ (negsuc 0 *ℤ pos 0)) m (omega (arith, ints)) ho.factor
equal-factor None (Some n) ho hp h =
    same_factor (pos 0 +ℤ (negsuc 0 *ℤ n)) (negsuc 0 *ℤ n) (omega (arith, ints)) hp.opposite
equal-factor None None ho hp h = zero_factor

-- ---- products

pub small-within : (o : Option ℤ) (m : ℤ) → if_small o ≡ Some m → (o ≡ Some m) × IsWithin (2 ^ 20) m
small-within None m h = absurd (cc)
small-within (Some n) m h = small_case n m (is_between (negsuc (2 ^ 20 - 1)) (pos (2 ^ 20)) n) refl h
  where
    small_case : (n m : ℤ) (b : Bool) → is_between (negsuc (2 ^ 20 - 1)) (pos (2 ^ 20)) n ≡ b
        → (if b then Some n else None) ≡ Some m → (Some n ≡ Some m) × IsWithin (2 ^ 20) m
    small_case n m true e h =
        let k = between_of (negsuc (2 ^ 20 - 1)) (pos (2 ^ 20)) n e in
        let same : n ≡ m = cc in
        (h, (omega (arith, ints, k.1, same), omega (arith, ints, k.0, same)))
    small_case n m false e h = absurd (cc)

pub left-factor : (kind : ValueKind) (m : ℤ) (p : Option ℤ) → stays_out ops.Mul kind (Some m) p ≡ false
    → IsFactor (m *ℤ lead_of p)
left-factor kind m (Some n) h = in_range-factor kind (m *ℤ n) h
left-factor kind m None h = same_factor (m *ℤ pos 0) (pos 0) (omega (arith, ints)) zero_factor

pub right-factor : (kind : ValueKind) (o : Option ℤ) (n : ℤ) → stays_out ops.Mul kind o (Some n) ≡ false
    → IsFactor (n *ℤ lead_of o)
right-factor kind (Some m) n h = same_factor (n *ℤ m) (m *ℤ n) (mul_comm n m) (in_range-factor kind (m *ℤ n) h)
right-factor kind None n h = same_factor (n *ℤ pos 0) (pos 0) (omega (arith, ints)) zero_factor

small_fits : (m : ℤ) → IsWithin (2 ^ 20) m → SFits w64 m
small_fits m h = grind (arith, ints, h)

-- as the code passes the factor
passed_storable : (s : Scene) (m : ℤ) (a : Atom) → IsFresh s → IsWithin (2 ^ 20) m → IsFactor (m *ℤ lead a)
    → IsStorable (times (to_z w64 (of_z w64 m)) (form_of s a))
passed_storable s m a fresh hm hn =
    subst (λ z. IsStorable (times z (form_of s a))) (sym (to_z-of_z w64 m (small_fits m hm)))
    (multiple-storable s m a fresh hm hn)

pub left-storable : (s : Scene) (kind : ValueKind) (a b : Atom) (m : ℤ) → IsFresh s → small_constant a ≡ Some m
    → stays_out ops.Mul kind (constant_of a) (constant_of b) ≡ false
    → IsStorable (times (to_z w64 (of_z w64 m)) (form_of s b))
left-storable s kind a b m fresh e h =
    let k = small-within (constant_of a) m e in
    passed_storable s m b fresh k.1 (left-factor kind m (constant_of b)
    (subst (λ o. stays_out ops.Mul kind o (constant_of b) ≡ false) k.0 h))

pub right-storable : (s : Scene) (kind : ValueKind) (a b : Atom) (n : ℤ) → IsFresh s → small_constant b ≡ Some n
    → stays_out ops.Mul kind (constant_of a) (constant_of b) ≡ false
    → IsStorable (times (to_z w64 (of_z w64 n)) (form_of s a))
right-storable s kind a b n fresh e h =
    let k = small-within (constant_of b) n e in
    passed_storable s n a fresh k.1 (right-factor kind (constant_of a) n
    (subst (λ o. stays_out ops.Mul kind (constant_of a) o ≡ false) k.0 h))

-- ---- numbers that are compared

pub value-constant : (s : Scene) (a : Atom) (m n : ℤ) → value_by s a ≡ Some m → constant_of a ≡ Some n → n ≡ m
value-constant s a m n e k = (
    let h : value_by s a ≡ Some n = ap (λ o. either o (known_by s a)) k in
    cc
    )

pub compared-equal : (m n : ℤ) (o : Ordering) → SFits w64 m → SFits w64 n
    → o ≡ int_cmp (to_z w64 (of_z w64 m)) (to_z w64 (of_z w64 n)) → o ≡ Equal → m ≡ n
compared-equal m n o hm hn e k =
    let f : o ≡ int_cmp m n =
    e ∙ ap (λ z. int_cmp z (to_z w64 (of_z w64 n))) (to_z-of_z w64 m hm)
    ∙ ap (λ z. int_cmp m z) (to_z-of_z w64 n hn) in
    subst (λ (r : Ordering). MatchOrdering r (m <ℤ n) (m ≡ n) (n <ℤ m)) k (int_ranked m n o f)

-- constants that compare as equal are
pub equal-storable : (s : Scene) (a b : Atom) → IsScene s → IsFresh s → has_opposite a ≡ true → has_opposite b ≡ true
    → IfSome (constant_of a) (λ n. IsFactor n) → IfSome (constant_of b) (λ n. IsFactor n)
    → ((m n : ℤ) → value_by s a ≡ Some m → value_by s b ≡ Some n → m ≡ n)
    → IsStorable (minus (form_of s a) (form_of s b))
equal-storable s a b h fresh ha hb ka kb same =
    difference-storable s a b h fresh
    (equal-factor (constant_of a) (constant_of b) (constant-opposite a ha ka) (constant-opposite b hb kb)
    (λ m n e f. same m n (ap (λ o. either o (known_by s a)) e) (ap (λ o. either o (known_by s b)) f)))
