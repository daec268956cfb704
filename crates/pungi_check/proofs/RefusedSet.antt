-- The refused functions of a file, from its call graph and the marks of the worklist.
use Rattle.std.proofs.Common.{◌≡◌, ℕ, Bool, true, List, [], map, sym, subst, ◌∙◌}
use Rattle.pungi_types.specs.Files.{SourceFile, definitions}
use Rattle.pungi_types.specs.Refused.{IsRefusedSet}
use Rattle.pungi_check.specs.CallGraph.{IsCallGraph, refused_names}
use Rattle.pungi_check.specs.declared.call_node.CallNode.{CallNode}
use Rattle.pungi_check.specs.Distinct.{are_new}
use Rattle.pungi_check.specs.Graph.{node_view, graph_of, with_marked}
use Rattle.pungi_check.proofs.DistinctLemmas.{refused-gathered}
use Rattle.pungi_check.proofs.GraphLemmas.{call-graph}

-- what the worklist marks is the least set of refused functions
pub marked-set : (file : SourceFile) (fs : List CallNode) (marks : List Bool) (keys : List ℕ)
    → are_new [] (definitions file.items) ≡ true → map node_view fs ≡ graph_of file
    → (IsCallGraph file fs → IsRefusedSet file (refused_names (definitions file.items) marks))
    → keys ≡ with_marked [] (definitions file.items) marks → IsRefusedSet file keys
marked-set file fs marks keys new graph least kept =
    let is : keys ≡ refused_names (definitions file.items) marks = kept
    ∙ refused-gathered (definitions file.items) marks new in
    subst (λ (ws : List ℕ). IsRefusedSet file ws) (sym is) (least (call-graph file fs new graph))
