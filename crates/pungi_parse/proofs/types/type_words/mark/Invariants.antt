use Rattle.std.proofs.Common.{◌≡◌, ℕ, ◌+◌, ◌-◌, get_or, false, vec_len}
use Rattle.pungi_parse.proofs.types.type_words.mark.Given as goal

abbrev pub invariant-room : goal.invariant-room
invariant-room l = (k : ℕ) → get_or l.marks.items k false ≡ get_or l.initial.marks.items k false

abbrev pub decreases-room : goal.decreases-room
decreases-room l = l.number + 1 - vec_len l.marks
