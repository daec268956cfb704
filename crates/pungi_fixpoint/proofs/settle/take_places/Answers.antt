use Rattle.std.proofs.Common.{Some, None, length, refl}
use Rattle.std.proofs.lemmas.Result.{err_from_is_err_and}
use Rattle.pungi_links.specs.Pending.{Takes}
use Rattle.pungi_fixpoint.specs.Solver.{calls}
use Rattle.pungi_fixpoint.specs.Summaries.{exit_of}
use Rattle.pungi_fixpoint.proofs.Places.{searching_took, settled, taken_took, took_place, work_took}
use Rattle.pungi_fixpoint.proofs.Steps.{searching_same}
use Rattle.pungi_fixpoint.proofs.settle.take_places.Goals as goal

pub take_place-requires-clause-place : goal.take_place-requires-clause-place
take_place-requires-clause-place g c =
    let took : Takes c.places.pending c.take.new.self (Some c.in-Some.k) = rw c.in-Some.is at c.take.ensures.takes in
    took_place c.places.pending c.take.new.self c.in-Some.k (length c.args.program.now.widths)
    c.places.invariant.searching.places c.places.invariant.searching.limit took

pub take_place-requires-clause-searching : goal.take_place-requires-clause-searching
take_place-requires-clause-searching g c =
    let took : Takes c.places.pending c.take.new.self (Some c.in-Some.k) = rw c.in-Some.is at c.take.ensures.takes in
    searching_took g.D.Domain.least g.D.Domain.member g.D.Domain.width_of c.args.program.now
    (exit_of c.args.summaries.now.exits) (calls g.D.Domain.member c.args.summaries.now.exits) c.places.stage
    c.places.pending c.take.new.self c.in-Some.k c.places.invariant.searching c.take.ensures.pending took

pub take_place-requires-clause-taken : goal.take_place-requires-clause-taken
take_place-requires-clause-taken g c =
    let took : Takes c.places.pending c.take.new.self (Some c.in-Some.k) = rw c.in-Some.is at c.take.ensures.takes in
    taken_took g.D.Domain.least g.D.Domain.member g.D.Domain.width_of c.args.program.now
    (exit_of c.args.summaries.now.exits) (calls g.D.Domain.member c.args.summaries.now.exits) c.places.stage
    c.places.pending c.take.new.self c.in-Some.k took c.places.invariant.taken

pub returns-in_err-take_place-clause-safe : goal.returns-in_err-take_place-clause-safe
returns-in_err-take_place-clause-safe g c k e =
    let p = err_from_is_err_and c.from_residual.result c.from_residual.ensures.1 in
    c.take_place.ensures.safe k (cc (p.1, p.2, c.in_err-take_place.was, e))

pub returns-in_err-take_place-clause-range : goal.returns-in_err-take_place-clause-range
returns-in_err-take_place-clause-range g c k row e =
    let p = err_from_is_err_and c.from_residual.result c.from_residual.ensures.1 in
    c.take_place.ensures.range k row (cc (p.1, p.2, c.in_err-take_place.was, e))

pub places-smaller : goal.places-smaller
places-smaller g c =
    let took : Takes c.places.pending c.take.new.self (Some c.in-Some.k) = rw c.in-Some.is at c.take.ensures.takes in
    work_took g.D.Domain.least g.D.Domain.member g.D.Domain.width_of c.args.program.now
    (exit_of c.args.summaries.now.exits) (calls g.D.Domain.member c.args.summaries.now.exits) g.D.Domain.rank
    c.places.stage c.take_place.new.stage c.places.pending c.take.new.self c.take_place.new.pending c.in-Some.k took
    c.take_place.ensures.work

pub returns-clause-searching : goal.returns-clause-searching
returns-clause-searching g c =
    let took : Takes c.places.pending c.take.new.self None = rw c.in_default.is at c.take.ensures.takes in
    searching_same g.D.Domain.least g.D.Domain.member g.D.Domain.width_of c.args.program.now
    (exit_of c.args.summaries.now.exits) c.places.stage c.places.stage c.places.pending c.take.new.self refl took.1
    c.places.invariant.searching

pub returns-clause-settled : goal.returns-clause-settled
returns-clause-settled g c =
    let took : Takes c.places.pending c.take.new.self None = rw c.in_default.is at c.take.ensures.takes in
    settled g.D.Domain.least g.D.Domain.member g.D.Domain.width_of c.args.program.now
    (exit_of c.args.summaries.now.exits) (calls g.D.Domain.member c.args.summaries.now.exits) c.places.stage
    c.places.pending took.0 c.places.invariant.taken
