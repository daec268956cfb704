use Rattle.std.proofs.Common.{◌≡◌, ℕ, List, ◌++◌, length}
use Rattle.pungi.proofs.write.write_all.Given as goal

-- the bytes so far were taken
abbrev pub invariant-pieces : goal.invariant-pieces
invariant-pieces g l = record {
  bytes_written : (front : List ℕ) × (l.text ≡ front ++ l.rest) × (g.O.Sink.bytes_written l.out ≡ g.O.Sink.bytes_written l.fn.out ++ front);
  steady : g.O.Sink.faults l.out ≡ g.O.Sink.faults l.fn.out;
}

abbrev pub decreases-pieces : goal.decreases-pieces
decreases-pieces g l = length l.rest
