use Rattle.std.proofs.Common.{◌≡◌, ◌+◌, ◌-◌, ◌≤◌, drop, length}
use Rattle.pungi_lex.specs.Number.{number_count, spelling_len}
use Rattle.pungi_lex.proofs.number.number_count.Given as goal

abbrev pub invariant-bytes : goal.invariant-bytes
invariant-bytes l = record {
  count : number_count l.text ≡ l.count + spelling_len l.prev (drop l.count l.text);
  within : l.count ≤ length l.text;
}

abbrev pub decreases-bytes : goal.decreases-bytes
decreases-bytes l = length l.text - l.count
