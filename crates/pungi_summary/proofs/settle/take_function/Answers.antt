use Rattle.std.proofs.Common.{◌≡◌, ◌∙◌, ◌<◌, inl, inr, Some, [], length, arith, sym, ap, subst}
use Rattle.std.specs.List.{Contains}
use Rattle.std.specs.Prelude.{slice_get}
use Rattle.std.proofs.lemmas.Option.{slice_get-get_or}
use Rattle.pungi_summary.proofs.Lists.{program_here, read_or}
use Rattle.pungi_summary.proofs.Sited.{callers_within}
use Rattle.pungi_summary.proofs.Settles.{exits_fit}
use Rattle.pungi_summary.proofs.Kept.{settling_kept, settling_large, settling_skip, work_kept}
use Rattle.pungi_summary.proofs.settle.take_function.Goals as goal

pub returns-in_default-clause-settling : goal.returns-in_default-clause-settling
returns-in_default-clause-settling g c =
    let d = g.D.Domain in
    let here = program_here c.args.programs.now c.args.f c.index-programs-f.result c.requires.function
    c.index-programs-f.is in
    settling_skip d.least d.member d.width_of c.args.programs.now c.args.callees.now c.args.f c.args.summaries.now.exits
    c.args.outcomes.now.items c.args.pending.now.list (inl (here ∙ c.in_default.is)) c.requires.settling

pub returns-then-not-is_open-clause-settling : goal.returns-then-not-is_open-clause-settling
returns-then-not-is_open-clause-settling g c =
    let d = g.D.Domain in
    let count = c.requires.settling.said.count in
    let outcomes = c.args.outcomes.now.items in
    let o = c.index.result.now in
    let o_is : slice_get outcomes c.args.f ≡ Some o = slice_get-get_or outcomes c.args.f o
    (omega (arith, count, c.requires.function)) ∙ ap Some (sym c.index.ensures) in
    settling_skip d.least d.member d.width_of c.args.programs.now c.args.callees.now c.args.f c.args.summaries.now.exits
    outcomes
    c.args.pending.now.list (inr (o, o_is, sym c.is_open.ensures ∙ c.if-not-is_open.true)) c.requires.settling

pub attempt-requires-clause-well_formed : goal.attempt-requires-clause-well_formed
attempt-requires-clause-well_formed g c =
    let here = program_here c.args.programs.now c.args.f c.index-programs-f.result c.requires.function
    c.index-programs-f.is in
    c.requires.callable.well_formed c.args.f c.in-Some.program (here ∙ c.in-Some.is)

pub attempt-requires-clause-fits : goal.attempt-requires-clause-fits
attempt-requires-clause-fits g c =
    let here = program_here c.args.programs.now c.args.f c.index-programs-f.result c.requires.function
    c.index-programs-f.is in
    exits_fit g.D.Domain.width_of c.args.programs.now c.args.callees.now c.args.summaries.now.exits c.args.f
    c.in-Some.program
    c.requires.callable (here ∙ c.in-Some.is) c.requires.settling.fit

pub attempt-requires-clause-values : goal.attempt-requires-clause-values
attempt-requires-clause-values g c =
    let here = program_here c.args.programs.now c.args.f c.index-programs-f.result c.requires.function
    c.index-programs-f.is in
    c.requires.settling.fit.values c.args.f c.in-Some.program (here ∙ c.in-Some.is)

pub keep-requires-clause-callers : goal.keep-requires-clause-callers
keep-requires-clause-callers g c = λ s m.
    let n = c.requires.sites.count in
    let same = c.as_slice.ensures ∙ read_or c.args.sites.now c.args.f c.index-sites-f.result []
    (omega (arith, n, c.requires.function)) c.index-sites-f.is in
    let below = callers_within c.args.programs.now c.args.callees.now c.args.sites.now c.args.f s
    c.requires.callable c.requires.sites
    (subst (λ l. Contains l s) same m) in
    let limit = c.requires.limit in
    omega (arith, below, limit)

pub returns-in-Ok-clause-settling : goal.returns-in-Ok-clause-settling
returns-in-Ok-clause-settling g c =
    let d = g.D.Domain in
    let here = program_here c.args.programs.now c.args.f c.index-programs-f.result c.requires.function
    c.index-programs-f.is in
    let n = c.requires.sites.count in
    let same = c.as_slice.ensures ∙ read_or c.args.sites.now c.args.f c.index-sites-f.result []
    (omega (arith, n, c.requires.function)) c.index-sites-f.is in
    let count = c.requires.settling.said.count in
    let outcomes = c.args.outcomes.now.items in
    let o = c.index.result.now in
    let o_is : slice_get outcomes c.args.f ≡ Some o = slice_get-get_or outcomes c.args.f o
    (omega (arith, count, c.requires.function)) ∙ ap Some (sym c.index.ensures) in
    settling_kept d.least d.member d.width_of c.args.programs.now c.args.callees.now c.args.sites.now c.args.f
    c.in-Some.program o
    c.in-Ok.step.failing c.in-Ok.step.exits c.in-Ok.step.grew c.as_slice.result.now c.args.summaries.now.exits
    c.keep.new.summaries.exits outcomes c.keep.new.outcomes.items c.args.pending.now.list c.keep.new.pending.list
    c.requires.callable c.requires.sites same (here ∙ c.in-Some.is) o_is
    (sym c.is_open.ensures ∙ c.if-not-is_open.false)
    c.requires.settling c.in-Ok.ensures.step c.in-Ok.ensures.unchanged c.keep.ensures.kept

pub returns-in-Ok-clause-work : goal.returns-in-Ok-clause-work
returns-in-Ok-clause-work g c =
    let d = g.D.Domain in
    let n = c.requires.sites.count in
    let lt : c.args.f < length c.args.sites.now = omega (arith, n, c.requires.function) in
    let same = c.as_slice.ensures ∙ read_or c.args.sites.now c.args.f c.index-sites-f.result [] lt c.index-sites-f.is in
    let fit = c.requires.settling.fit.count in
    work_kept d.width_of d.rank c.args.sites.now c.in-Ok.step.failing c.in-Ok.step.exits c.in-Ok.step.grew c.args.f
    c.as_slice.result.now c.args.summaries.now.exits c.keep.new.summaries.exits c.args.outcomes.now.items
    c.keep.new.outcomes.items c.args.pending.now.list c.keep.new.pending.list same lt
    (omega (arith, fit, c.requires.function)) c.in-Ok.ensures.rose c.keep.ensures.kept

pub returns-in-Err-Range-clause-settling : goal.returns-in-Err-Range-clause-settling
returns-in-Err-Range-clause-settling g c =
    let d = g.D.Domain in
    let here = program_here c.args.programs.now c.args.f c.index-programs-f.result c.requires.function
    c.index-programs-f.is in
    let count = c.requires.settling.said.count in
    let outcomes = c.args.outcomes.now.items in
    let o = c.index.result.now in
    let o_is : slice_get outcomes c.args.f ≡ Some o = slice_get-get_or outcomes c.args.f o
    (omega (arith, count, c.requires.function)) ∙ ap Some (sym c.index.ensures) in
    let range = c.attempt.ensures.range c.in-Err-Range.place c.in-Err-Range.row (cc) in
    settling_large d.least d.member d.width_of c.args.programs.now c.args.callees.now c.args.f c.in-Err-Range.place
    c.in-Err-Range.row
    c.in-Some.program o c.args.summaries.now.exits outcomes c.args.pending.now.list (here ∙ c.in-Some.is) o_is
    (sym c.is_open.ensures ∙ c.if-not-is_open.false) c.requires.settling range.0 range.1
