use Rattle.std.proofs.Common.{◌≡◌, ◌<◌, ℕ, length}
use Rattle.std.specs.List.{IsAmong}
use Rattle.pungi_links.specs.Ring.{Stands}
use Rattle.pungi_shape.specs.Callers.{callers_of}
use Rattle.pungi_shape.specs.Named.{callees_of}
use Rattle.pungi_shape.proofs.callers.callers.Given as goal

abbrev pub invariant-loop-f : goal.invariant-loop-f
invariant-loop-f l = record {
  count : length l.lists.items ≡ length l.codes.codes;
  there : (h g : ℕ) → h < l.f → IsAmong (callees_of l.codes h) g → Stands h (callers_of l.lists.items g);
  below : (h g : ℕ) → Stands h (callers_of l.lists.items g) → h < l.f;
}
