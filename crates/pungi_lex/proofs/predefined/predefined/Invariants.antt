use Rattle.std.proofs.Common.{◌≡◌}
use Rattle.pungi_lex.specs.Predefined.{predefined}
use Rattle.pungi_lex.proofs.predefined.predefined.Given as goal

abbrev pub invariant-loop-name : goal.invariant-loop-name
invariant-loop-name l = l.table.items ≡ predefined l.name
