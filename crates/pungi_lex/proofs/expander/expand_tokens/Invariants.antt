use Rattle.std.proofs.Common.{◌-◌, ◌≤◌, length}
use Rattle.pungi_lex.specs.Limits.{token_limit}
use Rattle.pungi_lex.proofs.RunLemmas.{Progress}
use Rattle.pungi_lex.proofs.expander.expand_tokens.Given as goal

abbrev pub invariant-parts : goal.invariant-parts
invariant-parts l = record {
  progress : Progress (length l.names) l.tokens l.done l.table.items l.count l.out.items;
  within : l.done ≤ length l.tokens;
  few : l.count ≤ token_limit;
}

abbrev pub decreases-parts : goal.decreases-parts
decreases-parts l = length l.tokens - l.done
