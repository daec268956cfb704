use Rattle.std.proofs.Common.{◌≡◌, ◌<◌, ◌^◌, take}
use Rattle.pungi_lex.specs.Number.{value_in}
use Rattle.pungi_lex.proofs.number.value_of.Given as goal

abbrev pub invariant-loop-b : goal.invariant-loop-b
invariant-loop-b l = record {
  value : l.value ≡ value_in l.base (take l.b-index l.digits);
  small : l.value < 2 ^ 127;
}
