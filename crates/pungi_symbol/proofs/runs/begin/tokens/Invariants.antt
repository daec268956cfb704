use Rattle.std.proofs.Common.{◌≡◌, ◌-◌, ◌≤◌, map}
use Rattle.std.specs.List.{range_with_len}
use Rattle.pungi_symbol.specs.declared.states.term.Term.TheVariants.{Token}
use Rattle.pungi_symbol.proofs.runs.begin.tokens.Given as goal

abbrev pub invariant-loop-t : goal.invariant-loop-t
invariant-loop-t l = record {
  behind : l.from ≤ l.t;
  within : l.t - l.from ≤ l.fn.end - l.from;
  so_far : l.vars.items ≡ map Token (range_with_len l.from (l.t - l.from));
}
