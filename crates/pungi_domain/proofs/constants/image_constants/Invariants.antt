use Rattle.std.proofs.Common.{ℕ, ◌≡◌, ◌<◌, length}
use Rattle.pungi_domain.specs.Flat.{constant_at}
use Rattle.pungi_domain.specs.Constants.{IsImageConstant}
use Rattle.pungi_domain.proofs.constants.image_constants.Given as goal

abbrev pub invariant-loop-i : goal.invariant-loop-i
invariant-loop-i l = record {
  lengths : length l.images.items ≡ l.i;
  each : (k : ℕ) → k < l.i → IsImageConstant l.constants l.rows k (constant_at l.images.items k);
}
