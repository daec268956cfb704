use Rattle.std.proofs.Common.{◌≡◌, drop}
use Rattle.pungi_code.specs.Registers.{all_values}
use Rattle.pungi_code.proofs.ValueLemmas.{known_before}
use Rattle.pungi_code.proofs.values.values_of.Given as goal

abbrev pub invariant-loop-atom : goal.invariant-loop-atom
invariant-loop-atom l =
    known_before l.values.items (all_values (drop l.atom-index l.atoms) l.vars) ≡ all_values l.atoms l.vars
