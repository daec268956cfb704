use Rattle.std.proofs.Common.{Option, option_map, reverse, subst}
use Rattle.pungi_tree.specs.UnitView.{unit_view}
use Rattle.pungi_names.specs.Depth.{known_at}
use Rattle.pungi_names.specs.Finds.{reached_view}
use Rattle.pungi_names.specs.Walk.{EndsAt}
use Rattle.pungi_names.specs.declared.step.TypedefTarget.{TypedefTarget}
use Rattle.pungi_names.proofs.DepthLemmas.{circular}
use Rattle.pungi_names.proofs.walk.follow.Goals as goal

pub go_back-requires-in-None-clause-end : goal.go_back-requires-in-None-clause-end
go_back-requires-in-None-clause-end c =
    let step = known_at (unit_view c.args.unit.now) in
    let walk = c.in_ok-walked.walked in
    let ps = reverse walk.path.items in
    let P : Option TypedefTarget → Type 0 = λ o. EndsAt step ps walk.at (option_map reached_view o) in
    let back = subst P c.in-None.is c.in_ok-walked.ensures.1 in
    circular step c.args.start ps walk.at c.in_ok-walked.ensures.0 back walk.at back 0
