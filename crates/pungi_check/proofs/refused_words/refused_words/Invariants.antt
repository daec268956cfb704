use Rattle.std.proofs.Common.{◌≡◌, [], drop, map}
use Rattle.pungi_declared.specs.DeclaredView.{function_view}
use Rattle.pungi_check.specs.Graph.{with_marked}
use Rattle.pungi_check.proofs.refused_words.refused_words.Given as goal

abbrev pub invariant-loop-i : goal.invariant-loop-i
invariant-loop-i l =
    with_marked l.words.keys (map function_view (drop l.i l.list)) (drop l.i l.marks)
    ≡ with_marked [] (map function_view l.list) l.marks
