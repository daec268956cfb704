use Rattle.std.proofs.Common.{◌-◌, ◌≤◌, length, take}
use Rattle.std.specs.List.{All}
use Rattle.pungi_lex.specs.Frames.{Stays}
use Rattle.pungi_lex.proofs.stay.stay_count.Given as goal

abbrev pub invariant-tokens : goal.invariant-tokens
invariant-tokens l = record {
  stay : All (Stays l.table.items) (take l.count l.tokens);
  within : l.count ≤ length l.tokens;
  few : l.count ≤ l.most;
}

abbrev pub decreases-tokens : goal.decreases-tokens
decreases-tokens l = length l.tokens - l.count
