use Rattle.std.proofs.Common.{◌≡◌, ◌∙◌, ◌<◌, [], length, slice_index_or, arith}
use Rattle.std.proofs.lemmas.List.{get_or_read}
use Rattle.pungi_fixpoint.specs.Solver.{calls}
use Rattle.pungi_fixpoint.specs.Summaries.{exit_of}
use Rattle.pungi_fixpoint.proofs.Places.{index_within, large_place, left_took}
use Rattle.pungi_fixpoint.proofs.settle.take_place.Goals as goal

pub take_edges-requires-clause-within : goal.take_edges-requires-clause-within
take_edges-requires-clause-within g c =
    let lists = c.args.sources.now in
    let all = c.requires.index.all in
    let within : c.args.place < length lists = omega (arith, all, c.requires.place) in
    let same : c.as_slice-numbers.result.now ≡ slice_index_or lists c.args.place [] = c.as_slice-numbers.ensures
    ∙ get_or_read lists c.args.place c.index-sources-place.result within c.index-sources-place.is [] in
    λ i s. index_within c.args.program.now.edges (length c.args.program.now.widths) lists c.args.place i
    c.as_slice-numbers.result.now c.requires.index same s

pub take_edges-requires-clause-left : goal.take_edges-requires-clause-left
take_edges-requires-clause-left g c =
    let lists = c.args.sources.now in
    let all = c.requires.index.all in
    let within : c.args.place < length lists = omega (arith, all, c.requires.place) in
    let same : c.as_slice-numbers.result.now ≡ slice_index_or lists c.args.place [] = c.as_slice-numbers.ensures
    ∙ get_or_read lists c.args.place c.index-sources-place.result within c.index-sources-place.is [] in
    left_took g.D.Domain.least g.D.Domain.member g.D.Domain.width_of c.args.program.now
    (exit_of c.args.summaries.now.exits) (calls g.D.Domain.member c.args.summaries.now.exits) c.args.stage.now
    c.args.pending.now.list c.args.place (length c.args.program.now.widths) lists c.as_slice-numbers.result.now
    c.requires.index same c.requires.taken

pub returns-in-Err-clause-safe : goal.returns-in-Err-clause-safe
returns-in-Err-clause-safe g c k e = c.fault_at.ensures.safe k (cc)

pub returns-in-Err-clause-range : goal.returns-in-Err-clause-range
returns-in-Err-clause-range g c k row e =
    let lists = c.args.sources.now in
    let all = c.requires.index.all in
    let within : c.args.place < length lists = omega (arith, all, c.requires.place) in
    let same : c.as_slice-numbers.result.now ≡ slice_index_or lists c.args.place [] = c.as_slice-numbers.ensures
    ∙ get_or_read lists c.args.place c.index-sources-place.result within c.index-sources-place.is [] in
    let f = c.fault_at.ensures.range k row (cc) in
    large_place g.D.Domain.least g.D.Domain.member c.args.program.now (exit_of c.args.summaries.now.exits)
    (length c.args.program.now.widths) lists c.args.place c.as_slice-numbers.result.now c.in-Err.fault k row
    c.requires.index same f.0 f.1 c.in-Err.ensures.range
