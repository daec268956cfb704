use Rattle.std.proofs.Common.{◌∙◌, length}
use Rattle.pungi_domain.specs.Builds.{built_first}
use Rattle.pungi_fixpoint.specs.Solver.{calls}
use Rattle.pungi_fixpoint.specs.Summaries.{exit_of}
use Rattle.pungi_fixpoint.proofs.Places.{index_same, searching_first, sources_within, taken_first}
use Rattle.pungi_fixpoint.proofs.settle.settle.Goals as goal

pub edges_by_source-requires : goal.edges_by_source-requires
edges_by_source-requires g c =
    rw c.as_slice.ensures (sources_within c.args.program.now c.len-places.result c.requires.well_formed
    c.len-places.ensures)

pub returns-in_err-sources-clause-built : goal.returns-in_err-sources-clause-built
returns-in_err-sources-clause-built g c = built_first c.args.stage.now c.requires.first

pub returns-in_err-pending-clause-built : goal.returns-in_err-pending-clause-built
returns-in_err-pending-clause-built g c = built_first c.args.stage.now c.requires.first

pub take_places-requires-clause-index : goal.take_places-requires-clause-index
take_places-requires-clause-index g c =
    index_same c.args.program.now.edges c.as_slice.result.now (length c.args.program.now.widths) c.len-places.result
    c.as_slice-2.result.now c.in_ok-sources.sources.items c.as_slice.ensures c.len-places.ensures
    c.as_slice-2.ensures.value c.in_ok-sources.ensures

pub take_places-requires-clause-searching : goal.take_places-requires-clause-searching
take_places-requires-clause-searching g c =
    searching_first g.D.Domain.least g.D.Domain.member g.D.Domain.width_of c.args.program.now
    (exit_of c.args.summaries.now.exits) (calls g.D.Domain.member c.args.summaries.now.exits) c.args.stage.now
    c.in_ok-pending.pending c.requires.widths c.requires.first c.in_ok-pending.ensures.pending
    (let limit = c.in_ok-pending.ensures.limit in let count = c.len-places.ensures in limit ∙ count)

pub take_places-requires-clause-taken : goal.take_places-requires-clause-taken
take_places-requires-clause-taken g c =
    taken_first g.D.Domain.least g.D.Domain.member g.D.Domain.width_of c.args.program.now
    (exit_of c.args.summaries.now.exits) (calls g.D.Domain.member c.args.summaries.now.exits) c.args.stage.now
    c.in_ok-pending.pending.list c.len-places.result c.requires.well_formed c.len-places.ensures
    c.in_ok-pending.ensures.all

pub returns-clause-widths : goal.returns-clause-widths
returns-clause-widths g c = c.take_places.ensures.searching.widths

pub returns-clause-built : goal.returns-clause-built
returns-clause-built g c = c.take_places.ensures.searching.built
