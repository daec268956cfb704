-- When a run lies in a state: the values of the tokens fit it, the state shows what the run holds, and its balances are
-- what the objects are owed.
--   number_of_object v     the number of the object that a value is
--   slot_in, state_in      a slot of a run, as a state shows it
--   owed w o               what an object is owed: its change, less what escaped of it so far
--   IsOf n v               an object of a value is among the first n
--   place_in, slot_at_place    the slot that an instruction is about
--   is_this_made table made o, is_made_slot table made s    an object is one of those that were made, by their tokens;
--                          a slot is of such a one
--   IsFoundAt, IsWalked    what the search found is the one: a touched slot, or an object that was made; the slots and
--                          objects that it passed are others
--   answer table k q       what the values of the tokens answer to a question
--   Lies                   a run lies in a state
use Rattle.std.specs.Prelude.{◌≡◌, ℕ, ◌+◌, ◌-◌, ◌<◌, nat_lt, ℤ, pos, ◌+ℤ◌, ◌-ℤ◌, Bool, true, false, List, length, map}
use Rattle.std.specs.Prelude.{take, slice_get, Option, Some, None}
use Rattle.std.specs.List.{list_any}
use Rattle.std.specs.Ordering.{int_cmp}
use Rattle.pungi_base.specs.declared.value.Value.{Value}
use Rattle.pungi_base.specs.declared.value.Value.TheVariants as value
use Rattle.pungi_api.specs.declared.param.Param.{Param}
use Rattle.pungi_world.specs.declared.content.Content.{Content}
use Rattle.pungi_world.specs.declared.slot.Slot.{Slot}
use Rattle.pungi_world.specs.declared.slot.Slot.TheVariants as slot
use Rattle.pungi_world.specs.declared.slot.SlotState.{SlotState}
use Rattle.pungi_world.specs.declared.world.World.{World}
use Rattle.pungi_world.specs.World.{account_of}
use Rattle.pungi_world.specs.Escapes.{held_now, held_at_entry}
use Rattle.pungi_world.specs.Slots.{place_of as slot_place}
use Rattle.pungi_meaning.specs.Values.{is_equal}
use Rattle.pungi_code.specs.declared.code.Line.{Line}
use Rattle.pungi_code.specs.declared.instr.Instr.{Instr}
use Rattle.pungi_code.specs.declared.instr.Instr.TheVariants.{Load, Store}
use Rattle.pungi_code.specs.declared.place.Place.{Place}
use Rattle.pungi_code.specs.Registers.{Regs}
use Rattle.pungi_code.specs.Perform.{slot_of}
use Rattle.pungi_symbol.specs.declared.answers.decision.Decision.{Decision}
use Rattle.pungi_symbol.specs.declared.answers.decision.Decision.TheVariants.{Quiet, Outcome, Order, Same as IsSame}
use Rattle.pungi_symbol.specs.declared.states.known.Known.{Known}
use Rattle.pungi_symbol.specs.declared.questions.question.Question.{Question}
use Rattle.pungi_symbol.specs.declared.questions.question.Question.TheVariants.{Does, Touches, Overwrites}
use Rattle.pungi_symbol.specs.declared.questions.question.Question.TheVariants.{Null as AsksNull, Base, Answers, Same}
use Rattle.pungi_symbol.specs.declared.questions.question.Question.TheVariants.{Orders, Range, Computes, Unplain, Turn}
use Rattle.pungi_symbol.specs.declared.questions.question.Question.TheVariants.{Returns, Stops, Over}
use Rattle.pungi_symbol.specs.declared.states.spot.Progress.{Progress}
use Rattle.pungi_symbol.specs.declared.states.spot.Progress.TheVariants.{Looking, Found}
use Rattle.pungi_symbol.specs.declared.states.spot.Spot.{Spot}
use Rattle.pungi_symbol.specs.declared.states.spot.Spot.TheVariants.{Global, Field}
use Rattle.pungi_symbol.specs.declared.states.spot.Touched.{Touched}
use Rattle.pungi_symbol.specs.declared.states.state.State.{State}
use Rattle.pungi_symbol.specs.states.Terms.{Table, at, computed_at, content_of, sum_value, outcomes_of_mark}
use Rattle.pungi_symbol.specs.states.Terms.{outcomes_of_answer}
use Rattle.pungi_symbol.specs.states.Terms.{place_of}
use Rattle.pungi_symbol.specs.states.Known.{count, mark_of}
use Rattle.pungi_symbol.specs.answers.KnownAfter.{instr_of}
use Rattle.pungi_symbol.specs.answers.SymbolicState.{range_place}
use Rattle.pungi_symbol.specs.runs.Fits.{FitsState, is_the, named}

abbrev pub number_of_object : Value → ℕ
number_of_object value.Null = 0
number_of_object (value.Object k) = k
number_of_object (value.Int n) = 0
number_of_object value.Text = 0

abbrev pub slot_in : Table → Spot → Slot
slot_in table (Global n) = slot.Global n
slot_in table (Field t tag field) = slot.Field (number_of_object (at table t)) tag field

abbrev pub state_in : Table → Touched → SlotState
state_in table s =
    record { slot = slot_in table s.spot; at_entry = content_of table s.at_entry; held = content_of table s.held }

abbrev pub owed : World → ℕ → ℤ
owed w o = ((account_of w o).change -ℤ (account_of w o).handed -ℤ pos (held_now w o)) +ℤ pos (held_at_entry w o)

abbrev pub IsOf : ℕ → Value → Type 0
IsOf n value.Null = Unit {0}
IsOf n (value.Object k) = k < n
IsOf n (value.Int m) = Unit {0}
IsOf n value.Text = Unit {0}

abbrev pub place_in : Instr → Option Place
place_in (Load x place) = Some place
place_in (Store place a) = Some place
place_in i = None

abbrev pub slot_at_place : Option Place → List Content → Option (Slot × Param)
slot_at_place None vars = None
slot_at_place (Some place) vars = slot_of place vars

abbrev pub is_this_made : Table → List ℕ → ℕ → Bool
is_this_made table made o = list_any (λ t. is_the o (at table t)) made

abbrev pub is_made_slot : Table → List ℕ → Slot → Bool
is_made_slot table made (slot.Global n) = false
is_made_slot table made (slot.Field o tag field) = is_this_made table made o

-- made are the tokens of the objects that were made, whose places come after those of the slots
abbrev pub IsFoundAt : Bool → Table → List ℕ → List SlotState → ℕ → Slot → Type 0
IsFoundAt true table made slots i s = slot_place slots s ≡ Some i
IsFoundAt false table made slots i s = (slot_place slots s ≡ None) × (is_made_slot table made s ≡ true)

abbrev pub IsWalked : Table → List ℕ → List SlotState → Progress → Option (Slot × Param) → Type 0
IsWalked table made slots (Looking c) None = Unit {0}
IsWalked table made slots (Looking c) (Some s) =
    (slot_place (take c slots) s.0 ≡ None) × (is_made_slot table (take (c - length slots) made) s.0 ≡ false)
IsWalked table made slots (Found i) None = Unit {0}
IsWalked table made slots (Found i) (Some s) = IsFoundAt (nat_lt i (length slots)) table made slots i s.0

abbrev pub answer : Table → Known → Question → Decision
answer table k (Does d) = d
answer table k (Touches m) = Quiet
answer table k (Overwrites m) = Outcome (place_of (outcomes_of_mark m) (at table (count k)))
answer table k (AsksNull t) = Outcome (place_of (outcomes_of_mark (mark_of k t)) (at table t))
answer table k (Base t u i) = IsSame (is_equal (at table t) (at table u))
answer table k (Answers a) = Outcome (place_of (outcomes_of_answer a) (at table (count k)))
answer table k (Same t u) = IsSame (is_equal (at table t) (at table u))
answer table k (Orders a b) = Order (int_cmp (sum_value table a) (sum_value table b))
answer table k (Range kind a) = Outcome (range_place kind (sum_value table a))
answer table k (Computes kind o a b) = Outcome (range_place kind (computed_at table (length k.computed)))
answer table k Unplain = Quiet
answer table k Turn = Quiet
answer table k (Returns x) = Quiet
answer table k (Stops d) = d
answer table k Over = Quiet

-- so many tokens came before the first choice
pub record Lies (code : List Line) (table : Table) (base : ℕ) (m : Regs) (s : State) : Type 0 where
  pub fits : FitsState table s
  pub vars : m.vars ≡ map (content_of table) s.known.vars
  pub slots : m.world.slots ≡ map (state_in table) s.known.slots
  pub used : base + length m.used ≡ count s.known
  pub claims : (o : ℕ) → owed m.world o ≡ named o table.values s.balances
  pub below : (t : ℕ) → t < count s.known → IsOf (length m.world.accounts) (at table t)
  pub made : (o : ℕ) → (account_of m.world o).made ≡ is_this_made table s.known.made o
  pub walked : IsWalked table s.known.made m.world.slots s.known.progress (slot_at_place (place_in
      (instr_of (slice_get code s.known.pc))) m.vars)
