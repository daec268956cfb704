use Rattle.std.proofs.Common.{◌≡◌, ◌<◌, ◌≤◌, ℕ, ◌*ℤ◌}
use Rattle.pungi_domain.specs.Vectors.{at}
use Rattle.pungi_affine.proofs.divisor.take_out.Given as goal

abbrev pub invariant-loop-entry : goal.invariant-loop-entry
invariant-loop-entry l = record {
  done : (i : ℕ) → i < l.entry-index → l.fn.g *ℤ at l.entries i ≡ at l.initial.entries i;
  left : (i : ℕ) → l.entry-index ≤ i → at l.entries i ≡ at l.initial.entries i;
}
