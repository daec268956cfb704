use Rattle.std.proofs.Common.{◌≡◌, ℕ, ◌<◌, ◌≤◌, neg_ℤ}
use Rattle.pungi_domain.specs.Vectors.{at}
use Rattle.pungi_affine.proofs.part.negate.Given as goal

abbrev pub invariant-loop-entry : goal.invariant-loop-entry
invariant-loop-entry l = record {
  done : (i : ℕ) → i < l.entry-index → at l.entries i ≡ neg_ℤ (at l.initial.entries i);
  left : (i : ℕ) → l.entry-index ≤ i → at l.entries i ≡ at l.initial.entries i;
}
