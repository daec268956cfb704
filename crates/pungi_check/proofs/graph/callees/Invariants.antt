use Rattle.std.proofs.Common.{◌≡◌, ◌++◌, drop}
use Rattle.pungi_check.specs.Graph.{callees as callees_of}
use Rattle.pungi_names.specs.NamesView.{file_of}
use Rattle.pungi_types.specs.Files.{definitions, number_in}
use Rattle.pungi_check.proofs.graph.callees.Given as goal

abbrev pub invariant-loop-word : goal.invariant-loop-word
invariant-loop-word l =
    l.callees.items ++ callees_of (number_in 0 (definitions (file_of l.names).items)) (drop l.word-index l.words)
    ≡ callees_of (number_in 0 (definitions (file_of l.names).items)) l.words
