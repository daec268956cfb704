use Rattle.std.proofs.Common.{◌≡◌, ◌+◌, ◌-◌, ◌≤◌, ◌++◌, drop, length}
use Rattle.pungi_lex.specs.Join.{joined_from, bytes_of, plain}
use Rattle.pungi_lex.proofs.join.join.Given as goal

abbrev pub invariant-fronts : goal.invariant-fronts
invariant-fronts l = record {
  bytes : plain l.text ≡ l.bytes.items ++ bytes_of (joined_from 0 l.at (drop l.done l.text));
  short : length l.bytes.items ≤ l.done;
  within : l.done ≤ length l.text;
  line : l.at.line ≤ 1 + l.done;
  col : l.at.col ≤ 1 + l.done;
}

abbrev pub decreases-fronts : goal.decreases-fronts
decreases-fronts l = length l.text - l.done
