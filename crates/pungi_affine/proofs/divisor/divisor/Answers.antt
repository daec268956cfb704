use Rattle.std.proofs.Common.{ℤ, arith, subst, sym}
use Rattle.std.proofs.lemmas.Int.{ints, to_z_pos}
use mir.Syntax.{w128}
use Rattle.pungi_affine.specs.Divisors.{IsDivisor}
use Rattle.pungi_affine.proofs.Coprime.{content_divisor, content_positive}
use Rattle.pungi_affine.proofs.divisor.divisor.Goals as goal

pub overflow_cast-result : goal.overflow_cast-result
overflow_cast-result c =
    let h = content_positive c.args.entries.now c.content.result c.args.i c.content.ensures c.requires.within
    c.requires.entry in
    let f = c.requires.long in
    grind (arith, ints, h, f)

pub returns-clause-positive : goal.returns-clause-positive
returns-clause-positive c =
    let h = content_positive c.args.entries.now c.content.result c.args.i c.content.ensures c.requires.within
    c.requires.entry in
    let f = c.requires.long in
    omega (arith, ints, h, f)

pub returns-clause-divisor : goal.returns-clause-divisor
returns-clause-divisor c =
    let h = content_positive c.args.entries.now c.content.result c.args.i c.content.ensures c.requires.within
    c.requires.entry in
    let f = c.requires.long in
    subst (λ (z : ℤ). IsDivisor c.args.entries.now z) (sym (to_z_pos w128 c.content.result
    (omega (arith, ints, h, f)))) (content_divisor c.args.entries.now c.content.result c.content.ensures)
