use Rattle.std.proofs.Common.{◌≡◌, ◌+◌, ◌-◌, ◌≤◌, ◌++◌, drop, length}
use Rattle.std.specs.List.{All}
use Rattle.pungi_lex.specs.Join.{joined, joined_from, bytes_of, places_of, plain}
use Rattle.pungi_lex.specs.Stretch.{places_along, IsNarrow}
use Rattle.pungi_lex.proofs.join.stretches_of.Given as goal

abbrev pub invariant-fronts : goal.invariant-fronts
invariant-fronts l = record {
  places : places_of (joined l.text) ≡ places_along l.stretches.items
      ++ places_of (joined_from 0 l.at (drop l.done l.text));
  narrow : All IsNarrow l.stretches.items;
  count : length (plain l.text) ≡ l.count + length (bytes_of (joined_from 0 l.at (drop l.done l.text)));
  few : l.count ≤ l.done;
  within : l.done ≤ length l.text;
  line : l.at.line ≤ 1 + l.done;
  col : l.at.col ≤ 1 + l.done;
}

abbrev pub decreases-fronts : goal.decreases-fronts
decreases-fronts l = length l.text - l.done
