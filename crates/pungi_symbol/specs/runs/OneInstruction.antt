-- The instructions of a code as functions: where they lead, and what is held then.
--   on_value, on_slot, on_values, on_number   an operand is read, where there is one
--   on_effect                    what the world returns
--   Led, goes                    where a step leads, with what is held then; it goes on
--   leads choices i p pc m       where an instruction leads
--   leads_line, leads_at         where the next instruction leads
--   led_on choices code a m      where one more instruction leads; a run that is over stays where it is
--   machine_at choices code n m  where so many instructions lead from the start of a code, where m is held at first
use Rattle.std.specs.Prelude.{ℕ, zero, suc, ◌+◌, ℤ, List, ◌++◌, replicate, slice_get, Option, Some, None, Result, Ok}
use Rattle.std.specs.Prelude.{Err, if◌then◌else◌}
use Rattle.pungi_base.specs.declared.choice.Choice.{Choice}
use Rattle.pungi_base.specs.declared.pos.Pos.{Pos}
use Rattle.pungi_base.specs.declared.value.Value.{Value}
use Rattle.pungi_base.specs.declared.value.Value.TheVariants as value
use Rattle.pungi_api.specs.declared.param.Param.{Param}
use Rattle.pungi_world.specs.declared.content.Content.{Content}
use Rattle.pungi_world.specs.declared.content.Content.TheVariants as content
use Rattle.pungi_world.specs.declared.effect.Effect.{Effect}
use Rattle.pungi_world.specs.declared.halt.Halt.{Halt}
use Rattle.pungi_world.specs.declared.halt.Halt.TheVariants as halt
use Rattle.pungi_world.specs.declared.slot.Slot.{Slot}
use Rattle.pungi_world.specs.declared.world.World.{World}
use Rattle.pungi_world.specs.Slots.{load_effect, store_effect}
use Rattle.pungi_world.specs.Calls.{call_effect}
use Rattle.pungi_meaning.specs.Run.{nowhere}
use Rattle.pungi_meaning.specs.Values.{fits, is_true, truth, arithmetic, holds, number_of}
use Rattle.pungi_code.specs.declared.code.Line.{Line}
use Rattle.pungi_code.specs.declared.instr.Instr.{Instr}
use Rattle.pungi_code.specs.declared.instr.Instr.TheVariants.{Set, Arith, Fit, Compare, Load, Store, Api, Call, Unset}
use Rattle.pungi_code.specs.declared.instr.Instr.TheVariants.{Jump, Branch, Return, Fall}
use Rattle.pungi_code.specs.declared.registers.After.{After}
use Rattle.pungi_code.specs.declared.registers.After.TheVariants as after
use Rattle.pungi_code.specs.Registers.{Regs, put, content_of, all_values, choices_left, put_answer}
use Rattle.pungi_code.specs.Perform.{slot_of}

abbrev pub Led : Type 0
Led = After × Regs

abbrev pub on_value : Content → Pos → Regs → (Value → Led) → Led
on_value content.Unset p m go = (after.Stops p, m)
on_value (content.Holds v) p m go = go v

abbrev pub on_number : Option ℤ → Pos → Regs → (ℤ → Led) → Led
on_number None p m go = (after.Stops p, m)
on_number (Some n) p m go = go n

abbrev pub on_slot : Option (Slot × Param) → Pos → Regs → (Slot → Param → Led) → Led
on_slot None p m go = (after.Stops p, m)
on_slot (Some s) p m go = go s.0 s.1

abbrev pub on_values : Option (List Value) → Pos → Regs → (List Value → Led) → Led
on_values None p m go = (after.Stops p, m)
on_values (Some vs) p m go = go vs

abbrev pub on_effect : Pos → Result (Effect × World) Halt → Regs → (Effect → Regs → Led) → Led
on_effect p (Ok r) m go = go r.0 (record m { world = r.1; used = m.used ++ replicate r.0.used p })
on_effect p (Err halt.Stopped) m go = (after.Stops p, m)
on_effect p (Err halt.NeedsChoice) m go = (after.Wants, m)
on_effect p (Err halt.Memory) m go = (after.Wants, m)

abbrev pub goes : ℕ → Regs → Led
goes pc m = (after.Goes pc, m)

abbrev pub leads : List Choice → Instr → Pos → ℕ → Regs → Led
leads choices (Set x a) p pc m = on_value (content_of a m.vars) p m (λ v. goes (pc + 1) (put x (content.Holds v) m))
leads choices (Arith x kind o a b) p pc m =
    on_value (content_of a m.vars) p m (λ v. on_value (content_of b m.vars) p m
    (λ w. on_number (arithmetic o kind (number_of v) (number_of w)) p m (λ n. goes (pc + 1)
    (put x (content.Holds (value.Int n)) m))))
leads choices (Fit x kind a) p pc m =
    on_value (content_of a m.vars) p m (λ v. if fits kind (number_of v) then goes (pc + 1)
    (put x (content.Holds (value.Int (number_of v))) m) else (after.Stops p, m))
leads choices (Compare x c a b) p pc m =
    on_value (content_of a m.vars) p m (λ v. on_value (content_of b m.vars) p m
    (λ w. goes (pc + 1) (put x (content.Holds (truth (holds c v w))) m)))
leads choices (Load x place) p pc m =
    on_slot (slot_of place m.vars) p m (λ s kind. on_effect p (load_effect m.world s kind (choices_left choices m))
    m (λ e r. goes (pc + 1) (put_answer (Some x) e.value r)))
leads choices (Store place a) p pc m =
    on_value (content_of a m.vars) p m (λ v. on_slot (slot_of place m.vars) p m
    (λ s kind. on_effect p (store_effect m.world s kind v (choices_left choices m)) m (λ e r. goes (pc + 1) r)))
leads choices (Api x g as') p pc m =
    on_values (all_values as' m.vars) p m (λ vs. on_effect p (call_effect m.world g vs (choices_left choices m))
    m (λ e r. goes (pc + 1) (put_answer x e.value r)))
leads choices (Call x f as') p pc m = (after.Stops p, m)
leads choices (Unset x) p pc m = goes (pc + 1) (put x content.Unset m)
leads choices (Jump to) p pc m = goes to.0 m
leads choices (Branch a this other) p pc m =
    on_value (content_of a m.vars) p m (λ v. goes (if is_true v then this.0 else other.0) m)
leads choices (Return None) p pc m = (after.Leaves p None, m)
leads choices (Return (Some a)) p pc m = on_value (content_of a m.vars) p m (λ v. (after.Leaves p (Some v), m))
leads choices Fall p pc m = (after.Stops p, m)

abbrev pub leads_line : List Choice → Option Line → ℕ → Regs → Led
leads_line choices None pc m = (after.Stops nowhere, m)
leads_line choices (Some line) pc m = leads choices line.instr line.pos pc m

abbrev pub leads_at : List Choice → List Line → ℕ → Regs → Led
leads_at choices code pc m = leads_line choices (slice_get code pc) pc m

-- ---- many instructions

abbrev pub led_on : List Choice → List Line → After → Regs → Led
led_on choices code (after.Goes pc) m = leads_at choices code pc m
led_on choices code (after.Leaves p v) m = (after.Leaves p v, m)
led_on choices code (after.Stops p) m = (after.Stops p, m)
led_on choices code after.Wants m = (after.Wants, m)

abbrev pub machine_at : List Choice → List Line → ℕ → Regs → Led
machine_at choices code zero m = goes 0 m
machine_at choices code (suc n) m = led_on choices code (machine_at choices code n m).0 (machine_at choices code n m).1
