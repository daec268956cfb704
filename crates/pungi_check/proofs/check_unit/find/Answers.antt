use Rattle.std.proofs.Common.{List, map, refl, ap, ◌∙◌}
use Rattle.pungi_declared.specs.DeclaredView.{function_view}
use Rattle.pungi_names.specs.NamesView.{file_of}
use Rattle.pungi_types.specs.Files.{Definition, definitions, number_in}
use Rattle.pungi_check.specs.Graph.{node_view, node_of}
use Rattle.pungi_check.specs.declared.call_node.CallNode.{CallNode}
use Rattle.pungi_check.proofs.DistinctLemmas.{file-new}
use Rattle.pungi_check.proofs.OwnLemmas.{own-listed}
use Rattle.pungi_check.proofs.check_unit.find.Goals as goal

pub refused_set-requires-clause-graph : goal.refused_set-requires-clause-graph
refused_set-requires-clause-graph c =
    let file = file_of c.args.names.now in
    c.in_ok-graph.ensures
    ∙ ap (λ (ds : List Definition). map (node_of file (number_in 0 (definitions file.items))) ds) c.requires.listed

pub refusals-requires : goal.refusals-requires
refusals-requires c = ap (λ (fs : List CallNode). map node_view fs) c.deref.ensures.value ∙ c.in_ok-graph.ensures

pub resolutions-requires-clause-own : goal.resolutions-requires-clause-own
resolutions-requires-clause-own c =
    let file = file_of c.args.names.now in
    own-listed (definitions file.items) (definitions file.items) (map function_view c.args.list.now) refl
    c.requires.listed (file-new file c.requires.none)

pub resolutions-requires-clause-others : goal.resolutions-requires-clause-others
resolutions-requires-clause-others c = c.in_ok-refused.ensures.holds
