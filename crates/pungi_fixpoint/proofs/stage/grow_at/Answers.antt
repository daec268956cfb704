use Rattle.std.proofs.Common.{◌≡◌, ◌+◌, ◌-◌, Some, length, refl}
use Rattle.std.specs.Prelude.{slice_get}
use Rattle.std.proofs.lemmas.Option.{slice_get_read, slice_get_within}
use Rattle.pungi_domain.specs.Spans.{LargeGrow}
use Rattle.pungi_fixpoint.proofs.Faults.{range_result}
use Rattle.pungi_fixpoint.proofs.Gets.{sum_set}
use Rattle.pungi_fixpoint.proofs.Stages.{room_falls}
use Rattle.pungi_fixpoint.proofs.stage.grow_at.Goals as goal

pub returns-clause-rose : goal.returns-clause-rose
returns-clause-rose g c = λ ok.
    let d = g.D.Domain in
    let xs = c.args.values.now.items in
    let lt = slice_get_within xs c.args.k c.requires.within.0 c.requires.within.1 in
    let is = slice_get_read xs (length xs) c.args.k c.index_mut.result.now refl lt c.index_mut.ensures.value in
    sum_set (λ x. d.width_of x + 1 - d.rank x) xs c.args.k c.index_mut.result.now c.grow.new.self is
    (room_falls (d.width_of c.index_mut.result.now) (d.width_of c.grow.new.self) (d.rank c.index_mut.result.now)
    (d.rank c.grow.new.self) c.grow.ensures.width (c.grow.ensures.rose ok) c.grow.ensures.bounded)

pub returns-clause-range : goal.returns-clause-range
returns-clause-range g c =
    let d = g.D.Domain in
    let xs = c.args.values.now.items in
    let t = c.index_mut.result.now in
    let v = c.args.value.now in
    let lt = slice_get_within xs c.args.k c.requires.within.0 c.requires.within.1 in
    let is = slice_get_read xs (length xs) c.args.k t refl lt c.index_mut.ensures.value in
    range_result d.least (LargeGrow (d.width_of t) (d.member t) (d.member v))
    (λ r. (x : g.row.D.Denot) × (slice_get xs c.args.k ≡ Some x)
    × LargeGrow (d.width_of x) (d.member x) (d.member v) r) c.grow.result (λ r h. (t, is, h)) c.grow.ensures.range
