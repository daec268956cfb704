use Rattle.std.proofs.Common.{◌≡◌, ◌+◌, ◌<◌, ℕ, length, get_or, drop, take}
use Rattle.pungi_inline.specs.Sites.{total}
use Rattle.pungi_inline.proofs.places.places_from.Given as goal

abbrev pub invariant-loop-size : goal.invariant-loop-size
invariant-loop-size l = record {
  at : l.at ≡ l.start + total (take l.size-index l.sizes);
  long : length l.starts.items ≡ l.size-index + 1;
  places : (k : ℕ) → k < l.size-index + 1 → get_or l.starts.items k 0 ≡ l.start + total (take k l.sizes);
  room : l.at + total (drop l.size-index l.sizes) ≡ l.start + total l.sizes;
}
