use Rattle.std.proofs.Common.{◌≡◌, ◌++◌, drop, map}
use Rattle.pungi_declared.specs.DeclaredView.{function_view}
use Rattle.pungi_names.specs.NamesView.{file_of}
use Rattle.pungi_check.specs.Graph.{node_view, node_of}
use Rattle.pungi_types.specs.Files.{definitions, number_in}
use Rattle.pungi_check.proofs.graph.graph.Given as goal

abbrev pub invariant-loop-f : goal.invariant-loop-f
invariant-loop-f l =
    map node_view l.nodes.items ++ map (node_of (file_of l.names) (number_in 0 (definitions (file_of l.names).items)))
    (map function_view (drop l.f-index l.list))
    ≡ map (node_of (file_of l.names) (number_in 0 (definitions (file_of l.names).items))) (map function_view l.list)
