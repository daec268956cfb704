use Rattle.std.proofs.Common.{◌≡◌, ◌++◌, drop, string_bytes}
use Rattle.std.specs.List.{flat_map}
use Rattle.pungi_base.specs.Witness.{argument_line}
use Rattle.pungi_base.proofs.witness.push_arguments.Given as goal

-- the lines so far and those that are left are all lines
abbrev pub invariant-loop-value : goal.invariant-loop-value
invariant-loop-value l =
    string_bytes l.text ++ flat_map argument_line (drop l.value-index l.args)
    ≡ string_bytes l.initial.text ++ flat_map argument_line l.args
