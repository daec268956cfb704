use Rattle.std.proofs.Common.{◌≡◌, ◌++◌, drop, map}
use Rattle.std.specs.Prelude.{option_map}
use Rattle.pungi_resolved.specs.ActionView.{function_view}
use Rattle.pungi_layout.specs.code.Codes.{code_for}
use Rattle.pungi_emit.proofs.function.codes.lower_functions.Given as goal

abbrev pub invariant-loop-f : goal.invariant-loop-f
invariant-loop-f l =
    l.codes ++ map code_for (map (option_map function_view) (drop l.f-index l.functions))
    ≡ map code_for (map (option_map function_view) l.functions)
