use Rattle.std.proofs.Common.{Some, None, length, refl}
use Rattle.pungi_links.specs.Pending.{Takes}
use Rattle.pungi_summary.proofs.Kept.{settling_end, settling_took, work_took}
use Rattle.pungi_summary.proofs.Walks.{took_within}
use Rattle.pungi_summary.proofs.settle.settle.Goals as goal

pub functions-init : goal.functions-init
functions-init g c = record {
  settling = c.requires.first c.in_ok-pending.pending.list c.in_ok-pending.ensures.all;
  pending = c.in_ok-pending.ensures.pending;
  limit = c.in_ok-pending.ensures.limit;
  states = refl;
}

pub take_function-requires-clause-function : goal.take_function-requires-clause-function
take_function-requires-clause-function g c =
    let took : Takes c.functions.pending c.take.new.self (Some c.in-Some.f) = rw c.in-Some.is at c.take.ensures.takes in
    took_within c.functions.pending c.take.new.self c.in-Some.f (length c.args.programs.now)
    c.functions.invariant.pending c.functions.invariant.limit took

pub take_function-requires-clause-settling : goal.take_function-requires-clause-settling
take_function-requires-clause-settling g c =
    let d = g.D.Domain in
    let took : Takes c.functions.pending c.take.new.self (Some c.in-Some.f) = rw c.in-Some.is at c.take.ensures.takes in
    settling_took d.least d.member d.width_of c.args.programs.now c.args.callees.now c.functions.summaries.exits
    c.functions.outcomes.items
    c.functions.pending c.take.new.self c.in-Some.f took c.functions.invariant.settling

pub functions-smaller : goal.functions-smaller
functions-smaller g c =
    let d = g.D.Domain in
    let took : Takes c.functions.pending c.take.new.self (Some c.in-Some.f) = rw c.in-Some.is at c.take.ensures.takes in
    work_took d.width_of d.rank c.args.sites.now c.functions.summaries.exits c.take_function.new.summaries.exits
    c.functions.pending c.take.new.self c.take_function.new.pending c.in-Some.f took c.in_ok-take_function.ensures.work

pub returns-clause-settled : goal.returns-clause-settled
returns-clause-settled g c =
    let d = g.D.Domain in
    let took : Takes c.functions.pending c.take.new.self None = rw c.in_default.is at c.take.ensures.takes in
    settling_end d.least d.member d.width_of c.args.programs.now c.args.callees.now c.functions.summaries.exits
    c.functions.outcomes.items
    c.functions.pending took.0 c.functions.invariant.settling
