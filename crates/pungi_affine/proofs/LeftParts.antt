-- What is left of a vector that is 0 at the pivots: a multiple of it, with the same part.
use Rattle.std.proofs.Common.{◌≡◌, ◌∙◌, ℕ, zero, suc, ◌*◌, ◌<◌, ◌^◌, ℤ, pos, ◌*ℤ◌, ◌<ℤ◌, List, [], ◌∷◌, length, map}
use Rattle.std.proofs.Common.{Option, None, Some, refl, sym, ap, arith}
use Rattle.std.proofs.lemmas.Int.{ints}
use Rattle.std.proofs.lemmas.List.{length-map}
use Rattle.pungi_domain.specs.Vectors.{at, IsWithin}
use Rattle.pungi_domain.specs.Ring.{mul_assoc, mul_zero}
use Rattle.pungi_affine.specs.Forms.{Line, line, IsBox, WithinBox}
use Rattle.pungi_affine.specs.Parts.{IsPartOf}
use Rattle.pungi_affine.specs.Mixes.{IsResidual, IsLeftPart}
use Rattle.pungi_affine.specs.declared.part.WideRow.{WideRow}
use Rattle.pungi_affine.proofs.Closure.{product_not_zero}
use Rattle.pungi_affine.proofs.Fills.{fill_nothing}
use Rattle.pungi_affine.proofs.Next.{not_zero_if}
use Rattle.pungi_affine.proofs.Products.{product_within}

abbrev times : ℤ → List ℤ → List ℤ
times d v = map (λ x. d *ℤ x) v

times_at : (d : ℤ) (v : List ℤ) (i : ℕ) → i < length v → at (times d v) i ≡ d *ℤ at v i
times_at d [] i lt = absurd (omega arith)
times_at d (x ∷ v) zero lt = refl
times_at d (x ∷ v) (suc i) lt = times_at d v i (omega (arith, lt))

times_length : (d : ℤ) (v : List ℤ) → length (times d v) ≡ length v
times_length d v = length-map v (λ x. d *ℤ x)

in_list : (d : ℤ) (v : List ℤ) (i : ℕ) → i < length (times d v) → i < length v
in_list d v i lt = (let n = times_length d v in omega (arith, n, lt))

wider : (z : ℤ) → IsWithin (2 ^ 31 * 2 ^ 31) z → IsWithin (2 ^ 71) z
wider z h = ((let a = h.0 in omega (arith, ints, a)), (let b = h.1 in omega (arith, ints, b)))

zero_residual : (d : ℤ) (ls : List Line) (v : List ℤ) → IsBox d → WithinBox v
    → ((k : ℕ) → k < length ls → at v (line ls k).pivot ≡ pos 0) → IsResidual d ls v (times d v)
zero_residual d ls v box small zeros = record {
  lengths = times_length d v;
  each = λ i lt. (let e = times_at d v i lt in let f = fill_nothing (at v) ls i zeros in omega (arith, ints, e, f));
  within = λ i lt. rw (times_at d v i lt) (wider (d *ℤ at v i) (product_within d (at v i) (2 ^ 31) (2 ^ 31) box
      (small i lt)));
}

same_part : (d : ℤ) (v : List ℤ) → pos 0 <ℤ d → (o : Option WideRow) → IsPartOf v o → IsPartOf (times d v) o
same_part d v positive None h = λ i lt. times_at d v i (in_list d v i lt)
    ∙ ap (λ z. d *ℤ z) (h i (in_list d v i lt)) ∙ mul_zero d
same_part d v positive (Some r) h = record {
  within = (let n = times_length d v in let a = h.within in omega (arith, n, a));
  before = h.before;
  is = record {
    lengths = h.is.lengths ∙ sym (times_length d v);
    times = d *ℤ h.is.times;
    not_zero = product_not_zero d h.is.times (not_zero_if d positive) h.is.not_zero;
    exact = λ i lt. times_at d v i (in_list d v i lt) ∙ ap (λ z. d *ℤ z) (h.is.exact i (in_list d v i lt))
        ∙ sym (mul_assoc d h.is.times (at r.entries.items i));
    positive = h.is.positive;
    coprime = λ m e all. h.is.coprime m e (λ i lt. all i (let n = times_length d v in omega (arith, n, lt)));
  };
}

pub zero_left_part : (d : ℤ) (ls : List Line) (v : List ℤ) → IsBox d → pos 0 <ℤ d → WithinBox v
    → ((k : ℕ) → k < length ls → at v (line ls k).pivot ≡ pos 0) → (o : Option WideRow) → IsPartOf v o
    → IsLeftPart d ls v o
zero_left_part d ls v box positive small zeros o h =
    (times d v, zero_residual d ls v box small zeros, same_part d v positive o h)
