use Rattle.std.proofs.Common.{arith}
use Rattle.std.proofs.lemmas.Int.{ints}
use Rattle.pungi_affine.proofs.extend.mixed_entry.Goals as goal

pub overflow_sub-result : goal.overflow_sub-result
overflow_sub-result c =
    (let a = c.times.ensures.within in let b = c.times-2.ensures.within in grind (arith, ints, a, b))

pub returns-clause-value : goal.returns-clause-value
returns-clause-value c =
    (let a = c.times.ensures.within in let b = c.times-2.ensures.within in let s = c.times.ensures.value in let t
    = c.times-2.ensures.value in omega (arith, ints, a, b, s, t))

pub returns-clause-within : goal.returns-clause-within
returns-clause-within c =
    (let a = c.times.ensures.within in let b = c.times-2.ensures.within in
    (omega (arith, ints, a, b), omega (arith, ints, a, b)))
