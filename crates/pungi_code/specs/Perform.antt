-- What one instruction does. Arithmetic, comparisons, loads, stores and calls are those of the meaning of functions.
--   with_number p o go          the run goes on with a result, where there is one
--   field_of, slot_of place vars    the slot that a place is, and what it holds; `None` where the base is no object
--   with_slot o p go            the run goes on with the slot, where there is one
--   load, store, call           a load, a store, a call of the API
--   perform choices i p next pc m    an instruction that stands at a place of the code and does a node at a place of
--                                    the text
-- Alone, a call of a function of the file stops; among the codes of its file it goes into another code.
use Rattle.std.specs.Prelude.{ℕ, ◌+◌, ℤ, List, [], ◌∷◌, Option, Some, None, if◌then◌else◌}
use Rattle.pungi_base.specs.declared.choice.Choice.{Choice}
use Rattle.pungi_base.specs.declared.names.Name.{Name}
use Rattle.pungi_base.specs.declared.pos.Pos.{Pos}
use Rattle.pungi_base.specs.declared.value.Value.{Value}
use Rattle.pungi_base.specs.declared.value.Value.TheVariants as value
use Rattle.pungi_api.specs.declared.param.Param.{Param}
use Rattle.pungi_api.specs.declared.signature.Signature.{Signature}
use Rattle.pungi_world.specs.declared.content.Content.{Content}
use Rattle.pungi_world.specs.declared.content.Content.TheVariants as content
use Rattle.pungi_world.specs.declared.slot.Slot.{Slot}
use Rattle.pungi_world.specs.declared.slot.Slot.TheVariants as slot
use Rattle.pungi_world.specs.Slots.{load_effect, store_effect}
use Rattle.pungi_world.specs.Calls.{call_effect}
use Rattle.pungi_meaning.specs.Values.{fits, is_true, truth, arithmetic, holds, number_of}
use Rattle.pungi_meaning.specs.Todo.{Computed, Fitted, Compared, Loaded, Stored, Called}
use Rattle.pungi_meaning.specs.Run.{Run, end_at_once, with_operations, Returned, Stopped}
use Rattle.pungi_code.specs.declared.atom.Var.{Var}
use Rattle.pungi_code.specs.declared.place.Place.{Place}
use Rattle.pungi_code.specs.declared.place.Place.TheVariants.{Global, Field}
use Rattle.pungi_code.specs.declared.instr.Instr.{Instr}
use Rattle.pungi_code.specs.declared.instr.Instr.TheVariants.{Set, Arith, Fit, Compare, Load, Store, Api, Call, Unset}
use Rattle.pungi_code.specs.declared.instr.Instr.TheVariants.{Jump, Branch, Return, Fall}
use Rattle.pungi_code.specs.Registers.{Regs, Next, put, content_of, with_value, all_values, with_values, choices_left}
use Rattle.pungi_code.specs.Registers.{after_effect, put_answer}

abbrev pub with_number : Pos → Option ℤ → (ℤ → Run) → Run
with_number p None go = end_at_once (Stopped p)
with_number p (Some n) go = go n

abbrev pub field_of : Content → Name → Name → Param → Option (Slot × Param)
field_of (content.Holds (value.Object o)) tag field kind = Some (slot.Field o tag field, kind)
field_of c tag field kind = None

abbrev pub slot_of : Place → List Content → Option (Slot × Param)
slot_of (Global n kind) vars = Some (slot.Global n, kind)
slot_of (Field base tag field kind) vars = field_of (content_of base vars) tag field kind

abbrev pub with_slot : Option (Slot × Param) → Pos → (Slot → Param → Run) → Run
with_slot None p go = end_at_once (Stopped p)
with_slot (Some s) p go = go s.0 s.1

abbrev pub load : List Choice → Var → Pos → Next → ℕ → Regs → Slot → Param → Run
load choices x p next pc m s kind =
    after_effect p (load_effect m.world s kind (choices_left choices m)) m
    (λ e r. with_operations (Loaded p s e.value ∷ []) (next (pc + 1) (put_answer (Some x) e.value r)))

abbrev pub store : List Choice → Pos → Next → ℕ → Regs → Value → Slot → Param → Run
store choices p next pc m v s kind =
    after_effect p (store_effect m.world s kind v (choices_left choices m)) m
    (λ e r. with_operations (Stored p s v ∷ []) (next (pc + 1) r))

abbrev pub call : List Choice → Option Var → Signature → Pos → Next → ℕ → Regs → List Value → Run
call choices x g p next pc m vs =
    after_effect p (call_effect m.world g vs (choices_left choices m)) m
    (λ e r. with_operations (Called p g vs e ∷ []) (next (pc + 1) (put_answer x e.value r)))

abbrev pub perform : List Choice → Instr → Pos → Next → ℕ → Regs → Run
perform choices (Set x a) p next pc m =
    with_value (content_of a m.vars) p (λ v. next (pc + 1) (put x (content.Holds v) m))
perform choices (Arith x kind o a b) p next pc m =
    with_value (content_of a m.vars) p (λ v. with_value (content_of b m.vars) p
    (λ w. with_number p (arithmetic o kind (number_of v) (number_of w)) (λ n. with_operations
    (Computed p o kind v w ∷ []) (next (pc
    + 1) (put x (content.Holds (value.Int n)) m)))))
perform choices (Fit x kind a) p next pc m =
    with_value (content_of a m.vars) p (λ v. if fits kind (number_of v) then with_operations
    (Fitted p kind v ∷ []) (next (pc + 1) (put x (content.Holds (value.Int (number_of v))) m)) else
    end_at_once (Stopped p))
perform choices (Compare x c a b) p next pc m =
    with_value (content_of a m.vars) p (λ v. with_value (content_of b m.vars) p
    (λ w. with_operations (Compared p c v w ∷ []) (next (pc
    + 1) (put x (content.Holds (truth (holds c v w))) m))))
perform choices (Load x place) p next pc m = with_slot (slot_of place m.vars) p (load choices x p next pc m)
perform choices (Store place a) p next pc m =
    with_value (content_of a m.vars) p (λ v. with_slot (slot_of place m.vars) p (store choices p next pc m v))
perform choices (Api x g as') p next pc m = with_values (all_values as' m.vars) p (call choices x g p next pc m)
perform choices (Call x f as') p next pc m = end_at_once (Stopped p)
perform choices (Unset x) p next pc m = next (pc + 1) (put x content.Unset m)
perform choices (Jump to) p next pc m = next to.0 m
perform choices (Branch a this other) p next pc m =
    with_value (content_of a m.vars) p (λ v. next (if is_true v then this.0 else other.0) m)
perform choices (Return None) p next pc m = end_at_once (Returned m.world None p m.used)
perform choices (Return (Some a)) p next pc m =
    with_value (content_of a m.vars) p (λ v. end_at_once (Returned m.world (Some v) p m.used))
perform choices Fall p next pc m = end_at_once (Stopped p)
