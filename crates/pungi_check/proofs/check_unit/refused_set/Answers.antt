use Rattle.std.proofs.Common.{Bool, List, [], map, ap, ◌∙◌}
use Rattle.pungi_declared.specs.DeclaredView.{function_view}
use Rattle.pungi_names.specs.NamesView.{file_of}
use Rattle.pungi_types.specs.Files.{Definition}
use Rattle.pungi_check.specs.declared.call_node.CallNode.{CallNode}
use Rattle.pungi_check.specs.Graph.{node_view, with_marked}
use Rattle.pungi_check.proofs.DistinctLemmas.{file-new}
use Rattle.pungi_check.proofs.RefusedSet.{marked-set}
use Rattle.pungi_check.proofs.check_unit.refused_set.Goals as goal

pub returns : goal.returns
returns c =
    let file = file_of c.args.names.now in
    let marks = c.in_ok-marks.marks.items in
    marked-set file c.deref.result.now marks c.in_ok-refused.refused.keys (file-new file c.requires.none)
    (ap (λ (fs : List CallNode). map node_view fs) c.deref.ensures.value ∙ c.requires.graph)
    (c.in_ok-marks.ensures.least file)
    (c.in_ok-refused.ensures ∙ ap (λ (ms : List Bool). with_marked [] (map function_view c.args.list.now) ms)
    c.deref-2.ensures.value
    ∙ ap (λ (ds : List Definition). with_marked [] ds marks) c.requires.listed)
