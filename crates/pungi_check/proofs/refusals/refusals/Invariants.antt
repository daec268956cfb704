use Rattle.std.proofs.Common.{◌≡◌, ◌++◌, drop, map}
use Rattle.pungi_declared.specs.DeclaredView.{function_view}
use Rattle.pungi_names.specs.NamesView.{file_of}
use Rattle.pungi_types.specs.Functions.{refusal as refusal_of}
use Rattle.pungi_check.proofs.refusals.refusals.Given as goal

abbrev pub invariant-loop-i : goal.invariant-loop-i
invariant-loop-i l =
    l.all.items ++ map (refusal_of (file_of l.names) l.refused.keys) (map function_view (drop l.i l.list))
    ≡ map (refusal_of (file_of l.names) l.refused.keys) (map function_view l.list)
