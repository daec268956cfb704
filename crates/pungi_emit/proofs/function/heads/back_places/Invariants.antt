use Rattle.std.proofs.Common.{◌≡◌, ◌<◌, ◌||◌, ℕ, length, get_or, drop, false}
use Rattle.pungi_layout.specs.code.Heads.{leads_back}
use Rattle.pungi_emit.proofs.function.heads.back_places.Given as goal

abbrev pub invariant-loop-place : goal.invariant-loop-place
invariant-loop-place l = record {
  long : length l.backs.items ≡ length l.code;
  found : (n : ℕ) → n < length l.code → (get_or l.backs.items n false || leads_back n l.place (drop l.place l.code))
      ≡ leads_back n 0 l.code;
}
