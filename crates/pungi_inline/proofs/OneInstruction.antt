-- The instructions of a code as functions: where each leads that neither calls a function of the file nor returns.
--   Outcome                    a run goes on at a place, or it ends and doesn't return
--   on_value, on_slot, on_values, on_number    an operand is read, where there is one
--   on_effect                  what the world returns
--   leads choices i p pc m     where an instruction leads
--   end_after next o           how a run ends after it
--   is_ordinary i              an instruction neither calls a function of the file nor returns
use Rattle.std.proofs.Common.{◌≡◌, ℕ, ◌+◌, ℤ, Bool, true, false, List, ◌++◌, refl, Option, Some, None, cond}
use Rattle.std.specs.Prelude.{replicate, Result, Ok, Err, if◌then◌else◌}
use Rattle.pungi_base.specs.declared.choice.Choice.{Choice}
use Rattle.pungi_base.specs.declared.pos.Pos.{Pos}
use Rattle.pungi_base.specs.declared.value.Value.{Value}
use Rattle.pungi_base.specs.declared.value.Value.TheVariants as value
use Rattle.pungi_api.specs.declared.param.Param.{Param}
use Rattle.pungi_world.specs.declared.content.Content.{Content}
use Rattle.pungi_world.specs.declared.content.Content.TheVariants as content
use Rattle.pungi_world.specs.declared.effect.Effect.{Effect}
use Rattle.pungi_world.specs.declared.halt.Halt.{Halt}
use Rattle.pungi_world.specs.declared.halt.Halt.TheVariants as halt
use Rattle.pungi_world.specs.declared.slot.Slot.{Slot}
use Rattle.pungi_world.specs.declared.world.World.{World}
use Rattle.pungi_world.specs.Slots.{load_effect, store_effect}
use Rattle.pungi_world.specs.Calls.{call_effect}
use Rattle.pungi_meaning.specs.Run.{Run, End, Stopped, NeedsChoice}
use Rattle.pungi_meaning.specs.Values.{fits, is_true, truth, arithmetic, holds, number_of}
use Rattle.pungi_code.specs.declared.instr.Instr.{Instr}
use Rattle.pungi_code.specs.declared.instr.Instr.TheVariants.{Set, Arith, Fit, Compare, Load, Store, Api, Call, Unset}
use Rattle.pungi_code.specs.declared.instr.Instr.TheVariants.{Jump, Branch, Return, Fall}
use Rattle.pungi_code.specs.Registers.{Regs, Next, put, content_of, all_values, choices_left, put_answer}
use Rattle.pungi_code.specs.Registers.{with_value, with_values, after_effect}
use Rattle.pungi_code.specs.Perform.{perform, with_number, slot_of, with_slot}

pub data Outcome : Type 0 where
  Goes : ℕ → Regs → Outcome
  Stops : Pos → Outcome
  Wants : Outcome

abbrev pub end_after : Next → Outcome → End
end_after next (Goes pc m) = (next pc m).end
end_after next (Stops p) = Stopped p
end_after next Wants = NeedsChoice

abbrev pub is_ordinary : Instr → Bool
is_ordinary (Call x f as') = false
is_ordinary (Return a) = false
is_ordinary i = true

-- ---- where an instruction leads

abbrev pub on_value : Content → Pos → (Value → Outcome) → Outcome
on_value content.Unset p go = Stops p
on_value (content.Holds v) p go = go v

abbrev pub on_number : Option ℤ → Pos → (ℤ → Outcome) → Outcome
on_number None p go = Stops p
on_number (Some n) p go = go n

abbrev pub on_slot : Option (Slot × Param) → Pos → (Slot → Param → Outcome) → Outcome
on_slot None p go = Stops p
on_slot (Some s) p go = go s.0 s.1

abbrev pub on_values : Option (List Value) → Pos → (List Value → Outcome) → Outcome
on_values None p go = Stops p
on_values (Some vs) p go = go vs

abbrev pub on_effect : Pos → Result (Effect × World) Halt → Regs → (Effect → Regs → Outcome) → Outcome
on_effect p (Ok r) m go = go r.0 (record m { world = r.1; used = m.used ++ replicate r.0.used p })
on_effect p (Err halt.Stopped) m go = Stops p
on_effect p (Err halt.NeedsChoice) m go = Wants
on_effect p (Err halt.Memory) m go = Wants

-- a call of a function of the file and a return lead anywhere
abbrev pub leads : List Choice → Instr → Pos → ℕ → Regs → Outcome
leads choices (Set x a) p pc m = on_value (content_of a m.vars) p (λ v. Goes (pc + 1) (put x (content.Holds v) m))
leads choices (Arith x kind o a b) p pc m =
    on_value (content_of a m.vars) p (λ v. on_value (content_of b m.vars) p
    (λ w. on_number (arithmetic o kind (number_of v) (number_of w)) p (λ n. Goes (pc + 1)
    (put x (content.Holds (value.Int n)) m))))
leads choices (Fit x kind a) p pc m =
    on_value (content_of a m.vars) p (λ v. if fits kind (number_of v) then Goes (pc + 1)
    (put x (content.Holds (value.Int (number_of v))) m) else Stops p)
leads choices (Compare x c a b) p pc m =
    on_value (content_of a m.vars) p (λ v. on_value (content_of b m.vars) p
    (λ w. Goes (pc + 1) (put x (content.Holds (truth (holds c v w))) m)))
leads choices (Load x place) p pc m =
    on_slot (slot_of place m.vars) p (λ s kind. on_effect p (load_effect m.world s kind (choices_left choices m)) m
    (λ e r. Goes (pc + 1) (put_answer (Some x) e.value r)))
leads choices (Store place a) p pc m =
    on_value (content_of a m.vars) p (λ v. on_slot (slot_of place m.vars) p
    (λ s kind. on_effect p (store_effect m.world s kind v (choices_left choices m)) m (λ e r. Goes (pc + 1) r)))
leads choices (Api x g as') p pc m =
    on_values (all_values as' m.vars) p (λ vs. on_effect p (call_effect m.world g vs (choices_left choices m)) m
    (λ e r. Goes (pc + 1) (put_answer x e.value r)))
leads choices (Call x f as') p pc m = Stops p
leads choices (Unset x) p pc m = Goes (pc + 1) (put x content.Unset m)
leads choices (Jump to) p pc m = Goes to.0 m
leads choices (Branch a this other) p pc m =
    on_value (content_of a m.vars) p (λ v. Goes (if is_true v then this.0 else other.0) m)
leads choices (Return a) p pc m = Stops p
leads choices Fall p pc m = Stops p

-- ---- an instruction of a run leads there

module _ (next : Next) where
  abbrev Is : Run → Outcome → Type 0
  Is r o = r.end ≡ end_after next o

  value_is : (c : Content) (p : Pos) (go : Value → Run) (on : Value → Outcome) → ((v : Value) → Is (go v) (on v))
      → Is (with_value c p go) (on_value c p on)
  value_is content.Unset p go on h = refl
  value_is (content.Holds v) p go on h = h v

  number_is : (o : Option ℤ) (p : Pos) (go : ℤ → Run) (on : ℤ → Outcome) → ((n : ℤ) → Is (go n) (on n))
      → Is (with_number p o go) (on_number o p on)
  number_is None p go on h = refl
  number_is (Some n) p go on h = h n

  slot_is : (o : Option (Slot × Param)) (p : Pos) (go : Slot → Param → Run) (on : Slot → Param → Outcome)
      → ((s : Slot) (k : Param) → Is (go s k) (on s k)) → Is (with_slot o p go) (on_slot o p on)
  slot_is None p go on h = refl
  slot_is (Some s) p go on h = h s.0 s.1

  values_is : (o : Option (List Value)) (p : Pos) (go : List Value → Run) (on : List Value → Outcome)
      → ((vs : List Value) → Is (go vs) (on vs)) → Is (with_values o p go) (on_values o p on)
  values_is None p go on h = refl
  values_is (Some vs) p go on h = h vs

  effect_is : (r : Result (Effect × World) Halt) (p : Pos) (m : Regs) (go : Effect → Regs → Run)
      (on : Effect → Regs → Outcome) → ((e : Effect) (m' : Regs) → Is (go e m') (on e m'))
      → Is (after_effect p r m go) (on_effect p r m on)
  effect_is (Ok r) p m go on h = h r.0 _
  effect_is (Err halt.Stopped) p m go on h = refl
  effect_is (Err halt.NeedsChoice) p m go on h = refl
  effect_is (Err halt.Memory) p m go on h = refl

  if_is : (b : Bool) (r s : Run) (l k : Outcome) → Is r l → Is s k → Is (cond b r s) (cond b l k)
  if_is true r s l k h g = h
  if_is false r s l k h g = g

pub perform_is : (next : Next) (choices : List Choice) (i : Instr) (p : Pos) (pc : ℕ) (m : Regs)
    → is_ordinary i ≡ true → (perform choices i p next pc m).end ≡ end_after next (leads choices i p pc m)
perform_is next choices (Set x a) p pc m e = value_is next (content_of a m.vars) p _ _ (λ v. refl)
perform_is next choices (Arith x kind o a b) p pc m e =
    value_is next (content_of a m.vars) p _ _ (λ v. value_is next (content_of b m.vars) p _ _
    (λ w. number_is next (arithmetic o kind (number_of v) (number_of w)) p _ _ (λ n. refl)))
perform_is next choices (Fit x kind a) p pc m e =
    value_is next (content_of a m.vars) p _ _
    (λ v. if_is next (fits kind (number_of v)) _ _ _ _ refl refl)
perform_is next choices (Compare x c a b) p pc m e =
    value_is next (content_of a m.vars) p _ _ (λ v. value_is next (content_of b m.vars) p _ _ (λ w. refl))
perform_is next choices (Load x place) p pc m e =
    slot_is next (slot_of place m.vars) p _ _ (λ s k. effect_is next
    (load_effect m.world s k (choices_left choices m)) p m _ _ (λ x' r. refl))
perform_is next choices (Store place a) p pc m e =
    value_is next (content_of a m.vars) p _ _ (λ v. slot_is next (slot_of place m.vars) p _ _
    (λ s k. effect_is next (store_effect m.world s k v (choices_left choices m)) p m _ _ (λ x' r. refl)))
perform_is next choices (Api x g as') p pc m e =
    values_is next (all_values as' m.vars) p _ _ (λ vs. effect_is next
    (call_effect m.world g vs (choices_left choices m)) p m _ _ (λ x' r. refl))
perform_is next choices (Call x f as') p pc m e = absurd (cc)
perform_is next choices (Unset x) p pc m e = refl
perform_is next choices (Jump to) p pc m e = refl
perform_is next choices (Branch a this other) p pc m e =
    value_is next (content_of a m.vars) p _ _ (λ v. refl)
perform_is next choices (Return a) p pc m e = absurd (cc)
perform_is next choices Fall p pc m e = refl
