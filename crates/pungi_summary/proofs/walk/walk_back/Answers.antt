use Rattle.std.proofs.Common.{◌∙◌, Some, None, length, arith, sym, ap, subst}
use Rattle.std.specs.List.{Contains}
use Rattle.std.proofs.lemmas.Option.{slice_get-get_or}
use Rattle.pungi_links.specs.Pending.{Takes}
use Rattle.pungi_summary.specs.Ways.{to_find}
use Rattle.pungi_summary.proofs.Lists.{read_or}
use Rattle.pungi_summary.proofs.Sited.{callers_within}
use Rattle.pungi_summary.proofs.Walks.{walking_first, walking_skip, walking_on, walked, less_took, took_within}
use Rattle.pungi_summary.proofs.walk.walk_back.Goals as goal

pub functions-init : goal.functions-init
functions-init c =
    walking_first c.args.programs.now c.args.callees.now c.args.starts.now c.in_ok-ways.ways.items
    c.in_ok-pending.pending
    c.requires.starts
    (record {
      count = c.in_ok-ways.ensures.count;
      sound = c.in_ok-ways.ensures.sound;
      there = λ f lt is. c.in_ok-ways.ensures.there f is;
    })
    c.in_ok-pending.ensures.pending c.in_ok-pending.ensures.limit c.in_ok-pending.ensures.all

pub index-requires : goal.index-requires
index-requires c =
    let took : Takes c.functions.pending c.take.new.self (Some c.in-Some.f) = rw c.in-Some.is at c.take.ensures.takes in
    let lt = took_within c.functions.pending c.take.new.self c.in-Some.f (length c.args.programs.now)
    c.functions.invariant.queue c.functions.invariant.limit took in
    let n = c.functions.invariant.count in
    omega (arith, lt, n, c.functions.ways.ok.0)

pub bounds-sites-f : goal.bounds-sites-f
bounds-sites-f c =
    let took : Takes c.functions.pending c.take.new.self (Some c.in-Some.f) = rw c.in-Some.is at c.take.ensures.takes in
    let lt = took_within c.functions.pending c.take.new.self c.in-Some.f (length c.args.programs.now)
    c.functions.invariant.queue c.functions.invariant.limit took in
    let n = c.requires.sites.count in
    omega (arith, lt, n)

pub visit_callers-requires-clause-callers : goal.visit_callers-requires-clause-callers
visit_callers-requires-clause-callers c = λ s m.
    let took : Takes c.functions.pending c.take.new.self (Some c.in-Some.f) = rw c.in-Some.is at c.take.ensures.takes in
    let lt = took_within c.functions.pending c.take.new.self c.in-Some.f (length c.args.programs.now)
    c.functions.invariant.queue c.functions.invariant.limit took in
    let n = c.requires.sites.count in
    let same = c.as_slice-callers.ensures ∙ read_or c.args.sites.now c.in-Some.f c.index-sites-f.result _
    (omega (arith, lt, n)) c.index-sites-f.is in
    let below = callers_within c.args.programs.now c.args.callees.now c.args.sites.now c.in-Some.f s
    c.requires.callable c.requires.sites
    (subst (λ l. Contains l s) same m) in
    let count = c.functions.invariant.count in
    omega (arith, below, count)

pub functions-preserved : goal.functions-preserved
functions-preserved c =
    let took : Takes c.functions.pending c.take.new.self (Some c.in-Some.f) = rw c.in-Some.is at c.take.ensures.takes in
    let lt = took_within c.functions.pending c.take.new.self c.in-Some.f (length c.args.programs.now)
    c.functions.invariant.queue c.functions.invariant.limit took in
    let n = c.functions.invariant.count in
    walking_skip c.args.programs.now c.args.callees.now c.args.starts.now c.functions.ways.items c.functions.pending
    c.take.new.self
    c.in-Some.f
    (slice_get-get_or c.functions.ways.items c.in-Some.f c.index.result.now (omega (arith, lt, n))
    ∙ ap Some (sym c.index.ensures ∙ c.in_default-index.is))
    c.functions.invariant c.take.ensures.pending took

pub functions-preserved-in-Some-index : goal.functions-preserved-in-Some-index
functions-preserved-in-Some-index c =
    let took : Takes c.functions.pending c.take.new.self (Some c.in-Some.f) = rw c.in-Some.is at c.take.ensures.takes in
    let lt = took_within c.functions.pending c.take.new.self c.in-Some.f (length c.args.programs.now)
    c.functions.invariant.queue c.functions.invariant.limit took in
    let n = c.functions.invariant.count in
    let m = c.requires.sites.count in
    let same = c.as_slice-callers.ensures ∙ read_or c.args.sites.now c.in-Some.f c.index-sites-f.result _
    (omega (arith, lt, m)) c.index-sites-f.is in
    walking_on c.args.programs.now c.args.callees.now c.args.starts.now c.args.sites.now c.functions.ways.items
    c.visit_callers.new.ways.items c.functions.pending c.take.new.self c.visit_callers.new.pending c.in-Some.f
    c.in-Some-index.way c.as_slice-callers.result.now c.requires.sites same
    (slice_get-get_or c.functions.ways.items c.in-Some.f c.index.result.now (omega (arith, lt, n))
    ∙ ap Some (sym c.index.ensures ∙ c.in-Some-index.is))
    c.functions.invariant took c.visit_callers.ensures.visited c.visit_callers.ensures.pending
    c.visit_callers.ensures.limit

pub functions-smaller : goal.functions-smaller
functions-smaller c =
    let took : Takes c.functions.pending c.take.new.self (Some c.in-Some.f) = rw c.in-Some.is at c.take.ensures.takes in
    less_took c.functions.pending c.take.new.self c.in-Some.f (to_find c.functions.ways.items) took

pub returns : goal.returns
returns c =
    let took : Takes c.functions.pending c.take.new.self None = rw c.in_default.is at c.take.ensures.takes in
    walked c.args.programs.now c.args.callees.now c.args.starts.now c.functions.ways.items c.functions.pending took.0
    c.functions.invariant
