use Rattle.std.proofs.Common.{◌≡◌, ◌<◌, ℕ, length, get_or, drop, None}
use Rattle.pungi_layout.specs.code.Heads.{first_pos, loop_pos}
use Rattle.pungi_emit.proofs.function.heads.loop_places.Given as goal

abbrev pub invariant-loop-mark : goal.invariant-loop-mark
invariant-loop-mark l = record {
  long : length l.kept.items ≡ l.count;
  found : (n : ℕ) → n < l.count → first_pos (get_or l.kept.items n None) (loop_pos n (drop l.mark-index l.marks))
      ≡ loop_pos n l.marks;
}
