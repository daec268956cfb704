use Rattle.std.proofs.Common.{◌≡◌, ◌≢◌, pos, refl, arith}
use Rattle.std.proofs.lemmas.Int.{ints, to_z-of_z}
use Rattle.pungi_shape.proofs.FactorLemmas.{scale_sparse}
use Rattle.pungi_shape.proofs.FormLemmas.{times_dense, times_none, times_storable}
use Rattle.pungi_shape.proofs.form.Form.times.Goals as goal
use mir.Syntax.{w64}

pub returns-then-n-eq0 : goal.returns-then-n-eq0
returns-then-n-eq0 c =
    let z : c.args.n ≡ pos 0 = omega (arith, ints, c.if-n-eq0.true, c.ranges.n) in
    rw (c.zero.ensures, z) (times_none _ _ _ c.self.view_is)

pub scaled-requires-clause-storable : goal.scaled-requires-clause-storable
scaled-requires-clause-storable c =
    rw (to_z-of_z w64 c.args.n c.ranges.n, c.as_slice.ensures) (times_storable _ _ _ _ c.self.view_is c.self.invariant
    c.requires)

pub invariant_of-result : goal.invariant_of-result
invariant_of-result c =
    let ne : c.args.n ≢ pos 0 = λ z. c.if-n-eq0.false (rw z refl) in
    let s = rw (to_z-of_z w64 c.args.n c.ranges.n, c.as_slice.ensures) at c.in_ok-factors.ensures in
    rw s (scale_sparse _ _ _ ne c.self.invariant (times_storable _ _ _ _ c.self.view_is c.self.invariant c.requires))

pub returns : goal.returns
returns c =
    let s = rw (to_z-of_z w64 c.args.n c.ranges.n, c.as_slice.ensures) at c.in_ok-factors.ensures in
    times_dense _ _ _ _ _ c.self.view_is s
