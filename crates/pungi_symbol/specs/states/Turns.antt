-- How far a path goes through the loops of its code: it reaches each loop's head at most twice, and has at most 16,384
-- instructions.
--   most_times, most_steps        these bounds
--   is_head_at pc h               this head is the instruction at a place
--   no_head, head_note heads i    what stands where there is no head; a head
--   once_more h                   a head that is reached once more
--   head_there t pc               the head at a place, if there is one
--   is_bounded t pc               before the instruction at a place a bound is met, or a head is to be counted
--   blocked_by t o, blocked_at t pc    the place at which the path isn't followed, if a bound is met there
--   entered_by o t, entered t pc  the head at a place is reached once more
--   stepped t                     one more instruction is done
--   first_head h, first_place hs, first_turns hs    at the start of a code with these heads
use Rattle.std.specs.Prelude.{ℕ, ◌+◌, ◌==◌, nat_lt, nat_le, Bool, true, false, ◌&&◌, ◌||◌, List, [], ◌∷◌, map}
use Rattle.std.specs.Prelude.{get_or, slice_set, position, is_some, Option, Some, None, if◌then◌else◌}
use Rattle.pungi_base.specs.declared.pos.Pos.{Pos}
use Rattle.pungi_meaning.specs.Run.{nowhere}
use Rattle.pungi_code.specs.declared.code.Head.{Head}
use Rattle.pungi_symbol.specs.declared.states.turns.ReachedHead.{ReachedHead}
use Rattle.pungi_symbol.specs.declared.states.turns.Turns.{Turns}

abbrev pub most_times : ℕ
most_times = 2

abbrev pub most_steps : ℕ
most_steps = 16384

abbrev pub is_head_at : ℕ → ReachedHead → Bool
is_head_at pc h = h.label == pc

abbrev pub no_head : ReachedHead
no_head = record { label = 0; pos = nowhere; times = 0 }

abbrev pub head_note : List ReachedHead → ℕ → ReachedHead
head_note heads i = get_or heads i no_head

abbrev pub once_more : ReachedHead → ReachedHead
once_more h = record h { times = if nat_lt h.times most_times then h.times + 1 else h.times }

abbrev pub head_there : Turns → ℕ → Option ℕ
head_there t pc = position (is_head_at pc) t.heads

abbrev pub is_bounded_by : List ReachedHead → Turns → ℕ → Bool
is_bounded_by [] t pc = false
is_bounded_by (h ∷ hs) t pc = nat_le most_steps t.steps || (t.arriving && is_some (head_there t pc))

abbrev pub is_bounded : Turns → ℕ → Bool
is_bounded t pc = is_bounded_by t.heads t pc

abbrev pub blocked_by : Turns → Option ℕ → Option Pos
blocked_by t None = None
blocked_by t (Some i) =
    if nat_lt (head_note t.heads i).times most_times then None else Some (head_note t.heads i).pos

abbrev pub blocked_at : Turns → ℕ → Option Pos
blocked_at t pc = if nat_le most_steps t.steps then Some t.last else blocked_by t (head_there t pc)

abbrev pub entered_by : Option ℕ → Turns → Turns
entered_by None t = record t { arriving = false }
entered_by (Some i) t = record t {
  heads = slice_set t.heads i (once_more (head_note t.heads i));
  last = (head_note t.heads i).pos;
  arriving = false;
}

abbrev pub entered : Turns → ℕ → Turns
entered t pc = entered_by (head_there t pc) t

abbrev pub stepped : Turns → Turns
stepped t = record t { steps = if nat_lt t.steps most_steps then t.steps + 1 else t.steps; arriving = true }

-- ---- the start of a code

abbrev pub first_head : Head → ReachedHead
first_head h = record { label = h.label.0; pos = h.pos; times = 0 }

abbrev pub first_place : List Head → Pos
first_place [] = nowhere
first_place (h ∷ hs) = h.pos

abbrev pub first_turns : List Head → Turns
first_turns hs = record { heads = map first_head hs; steps = 0; last = first_place hs; arriving = true }
