use Rattle.std.proofs.Common.{◌<◌, ◌^◌, ℤ, arith, rules, subst, sym}
use Rattle.std.proofs.lemmas.Int.{ints}
use Rattle.pungi_domain.specs.Vectors.{at, IsWithin}
use Rattle.pungi_affine.specs.Rows.{row_entries}
use Rattle.pungi_affine.proofs.Dots.{dot_more, tight_more}
use Rattle.pungi_affine.proofs.Products.{product_within}
use Rattle.pungi_affine.proofs.row.dot_product.Goals as goal

pub overflow_add-sum : goal.overflow_add-sum
overflow_add-sum c = (let w = c.term-sum.ensures.within in grind (arith, ints, w))

pub loop-i-init : goal.loop-i-init
loop-i-init c =
    record {
      value = search rules;
      within = (omega (arith, ints), omega (arith, ints));
      tight = λ h.
          (omega (arith, ints), omega (arith, ints));
    }

pub loop-i-preserved : goal.loop-i-preserved
loop-i-preserved c =
    let w = c.term-sum.ensures.within in
    let s = c.term-sum.ensures.value in
    let i = c.loop-i.invariant.within in
    let m = dot_more c.args.coefficients.now (at (row_entries c.args.row.now)) c.loop-i.i (omega arith) in
    record {
      value = omega (arith, ints, w, s, m);
      within = (omega (arith, ints, w), omega (arith, ints, w));
      tight = λ h.
          let n : 0 < c.loop-i.i → IsWithin (2 ^ 51) c.term-sum.result = λ gt. subst
          (λ (z : ℤ). IsWithin (2 ^ 51) z) (sym s) (product_within (at c.args.coefficients.now c.loop-i.i)
          (at (row_entries c.args.row.now) c.loop-i.i) (2 ^ 20) (2 ^ 31) (h c.loop-i.i gt (omega arith))
          (c.requires.small c.loop-i.i (omega arith))) in
          tight_more c.args.coefficients.now (at (row_entries c.args.row.now)) c.loop-i.i _ c.term-sum.result _
          c.loop-i.invariant.value (c.loop-i.invariant.tight h) w n (omega (arith, ints, w, i));
    }

pub returns-clause-wide : goal.returns-clause-wide
returns-clause-wide c =
    λ h. (let t = c.loop-i.invariant.tight h in let n = c.requires.narrow in
    (omega (arith, ints, t, n), omega (arith, ints, t, n)))
