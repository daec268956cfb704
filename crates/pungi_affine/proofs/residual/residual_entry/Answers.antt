use Rattle.std.proofs.Common.{arith}
use Rattle.std.proofs.lemmas.Int.{ints, to_z-of_z}
use mir.Syntax.{w64}
use Rattle.pungi_affine.proofs.residual.residual_entry.Goals as goal

pub overflow_sub-result : goal.overflow_sub-result
overflow_sub-result c =
    (let a = c.scaled_entry.ensures.within in let b = c.filled_entry.ensures.within in grind (arith, ints, a, b))

pub returns-clause-value : goal.returns-clause-value
returns-clause-value c =
    let a = c.scaled_entry.ensures.within in
    let b = c.filled_entry.ensures.within in
    let s = rw (to_z-of_z w64 c.args.d c.ranges.d) at c.scaled_entry.ensures.value in
    let f = c.filled_entry.ensures.value in
    omega (arith, ints, a, b, s, f)

pub returns-clause-within : goal.returns-clause-within
returns-clause-within c =
    let a = c.scaled_entry.ensures.within in
    let b = c.filled_entry.ensures.within in
    (omega (arith, ints, a, b), omega (arith, ints, a, b))
