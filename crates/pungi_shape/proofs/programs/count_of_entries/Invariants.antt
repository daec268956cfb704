use Rattle.std.proofs.Common.{◌≡◌, ◌+◌, ◌≤◌, drop}
use Rattle.std.specs.List.{count_by}
use Rattle.pungi_shape.specs.Programs.{is_entry}
use Rattle.pungi_shape.specs.Ranks.{places_in}
use Rattle.pungi_shape.proofs.programs.count_of_entries.Given as goal

abbrev pub invariant-loop-k : goal.invariant-loop-k
invariant-loop-k l = record {
  all : l.count + count_by is_entry (drop l.k (places_in l.numbers.found.now))
      ≡ count_by is_entry (places_in l.numbers.found.now);
  few : l.count ≤ l.k;
}
