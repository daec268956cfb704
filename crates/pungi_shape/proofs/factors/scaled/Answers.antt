use Rattle.std.proofs.Common.{◌*ℤ◌, pos, get_or, refl}
use Rattle.std.proofs.lemmas.Int.{to_z-of_z}
use Rattle.std.proofs.lemmas.List.{map-append, take_more}
use Rattle.pungi_shape.proofs.FactorLemmas.{coefficient-at, factor_each, factor_fits}
use Rattle.pungi_shape.specs.Forms.{IsFactor}
use Rattle.pungi_shape.proofs.factors.scaled.Goals as goal
use mir.Syntax.{w64}

pub overflow_mul-n : goal.overflow_mul-n
overflow_mul-n c =
    let p = get_or c.args.fs.now c.loop-p.p-index (0, pos 0) in
    let each = factor_each c.args.fs.now 0 c.loop-p.p-index (0, pos 0) c.requires.sorted c.loop-p-test.true in
    let f = factor_fits _ each in
    let e = coefficient-at c.args.fs.now 0 c.loop-p.p-index (0, pos 0) c.requires.sorted c.loop-p-test.true in
    let is : IsFactor (c.args.n *ℤ p.1) = rw (← e) (c.requires.storable p.0) in
    rw (to_z-of_z w64 c.args.n c.ranges.n, to_z-of_z w64 p.1 f) (factor_fits _ is)

pub loop-p-preserved : goal.loop-p-preserved
loop-p-preserved c =
    let p = get_or c.args.fs.now c.loop-p.p-index (0, pos 0) in
    let each = factor_each c.args.fs.now 0 c.loop-p.p-index (0, pos 0) c.requires.sorted c.loop-p-test.true in
    let f = factor_fits _ each in
    let e = coefficient-at c.args.fs.now 0 c.loop-p.p-index (0, pos 0) c.requires.sorted c.loop-p-test.true in
    let is : IsFactor (c.args.n *ℤ p.1) = rw (← e) (c.requires.storable p.0) in
    rw (
      c.in_ok-push.ensures.ok,
      c.loop-p.invariant,
      to_z-of_z w64 c.args.n c.ranges.n,
      to_z-of_z w64 p.1 f,
      to_z-of_z w64 _ (factor_fits _ is),
      take_more c.args.fs.now c.loop-p.p-index (0, pos 0) c.loop-p-test.true,
      map-append,
    ) refl
