use Rattle.std.proofs.Common.{◌≡◌, ◌++◌, drop, map}
use Rattle.pungi_declared.specs.DeclaredView.{function_view}
use Rattle.pungi_check.proofs.check_unit.names_of.Given as goal

abbrev pub invariant-loop-f : goal.invariant-loop-f
invariant-loop-f l =
    l.names ++ map (λ d. d.name) (map function_view (drop l.f-index l.list))
    ≡ map (λ d. d.name) (map function_view l.list)
