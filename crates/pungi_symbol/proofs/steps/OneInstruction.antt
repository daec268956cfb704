-- One instruction of a run is the instruction as a function.
use Rattle.std.proofs.Common.{◌≡◌, ℕ, suc, ℤ, List, Bool, true, false, refl, Option, None, Some, cond}
use Rattle.std.specs.Prelude.{slice_get, Result, Ok, Err}
use Rattle.pungi_base.specs.declared.choice.Choice.{Choice}
use Rattle.pungi_base.specs.declared.pos.Pos.{Pos}
use Rattle.pungi_base.specs.declared.value.Value.{Value}
use Rattle.pungi_api.specs.declared.param.Param.{Param}
use Rattle.pungi_world.specs.declared.content.Content.{Content}
use Rattle.pungi_world.specs.declared.content.Content.TheVariants as content
use Rattle.pungi_world.specs.declared.effect.Effect.{Effect}
use Rattle.pungi_world.specs.declared.halt.Halt.{Halt}
use Rattle.pungi_world.specs.declared.halt.Halt.TheVariants as halt
use Rattle.pungi_world.specs.declared.slot.Slot.{Slot}
use Rattle.pungi_world.specs.declared.world.World.{World}
use Rattle.pungi_world.specs.Slots.{load_effect, store_effect}
use Rattle.pungi_world.specs.Calls.{call_effect}
use Rattle.pungi_meaning.specs.Run.{Run}
use Rattle.pungi_meaning.specs.Values.{fits, arithmetic, number_of}
use Rattle.pungi_code.specs.declared.code.Line.{Line}
use Rattle.pungi_code.specs.declared.instr.Instr.{Instr}
use Rattle.pungi_code.specs.declared.instr.Instr.TheVariants.{Set, Arith, Fit, Compare, Load, Store, Api, Call, Unset}
use Rattle.pungi_code.specs.declared.instr.Instr.TheVariants.{Jump, Branch, Return, Fall}
use Rattle.pungi_code.specs.Machine.{Reaches}
use Rattle.pungi_code.specs.Perform.{perform, with_number, slot_of, with_slot}
use Rattle.pungi_code.specs.Registers.{Regs, Next, content_of, all_values, choices_left, with_value, with_values}
use Rattle.pungi_code.specs.Registers.{after_effect}
use Rattle.pungi_code.specs.Run.{exec, fetch}
use Rattle.pungi_symbol.specs.runs.OneInstruction.{Led, on_value, on_number, on_slot, on_values, on_effect, leads}
use Rattle.pungi_symbol.specs.runs.OneInstruction.{leads_line, leads_at}

module _ (next : Next) where
  abbrev Is : Run → Led → Type 0
  Is r l = r.end ≡ (Reaches next l.0 l.1).end

  value_is : (c : Content) (p : Pos) (m : Regs) (go : Value → Run) (on : Value → Led)
      → ((v : Value) → Is (go v) (on v)) → Is (with_value c p go) (on_value c p m on)
  value_is content.Unset p m go on h = refl
  value_is (content.Holds v) p m go on h = h v

  number_is : (o : Option ℤ) (p : Pos) (m : Regs) (go : ℤ → Run) (on : ℤ → Led) → ((n : ℤ) → Is (go n) (on n))
      → Is (with_number p o go) (on_number o p m on)
  number_is None p m go on h = refl
  number_is (Some n) p m go on h = h n

  slot_is : (o : Option (Slot × Param)) (p : Pos) (m : Regs) (go : Slot → Param → Run) (on : Slot → Param → Led)
      → ((s : Slot) (k : Param) → Is (go s k) (on s k)) → Is (with_slot o p go) (on_slot o p m on)
  slot_is None p m go on h = refl
  slot_is (Some s) p m go on h = h s.0 s.1

  values_is : (o : Option (List Value)) (p : Pos) (m : Regs) (go : List Value → Run) (on : List Value → Led)
      → ((vs : List Value) → Is (go vs) (on vs)) → Is (with_values o p go) (on_values o p m on)
  values_is None p m go on h = refl
  values_is (Some vs) p m go on h = h vs

  effect_is : (r : Result (Effect × World) Halt) (p : Pos) (m : Regs) (go : Effect → Regs → Run)
      (on : Effect → Regs → Led) → ((e : Effect) (m' : Regs) → Is (go e m') (on e m'))
      → Is (after_effect p r m go) (on_effect p r m on)
  effect_is (Ok r) p m go on h = h r.0 _
  effect_is (Err halt.Stopped) p m go on h = refl
  effect_is (Err halt.NeedsChoice) p m go on h = refl
  effect_is (Err halt.Memory) p m go on h = refl

  if_is : (b : Bool) (r s : Run) (l k : Led) → Is r l → Is s k → Is (cond b r s) (cond b l k)
  if_is true r s l k h g = h
  if_is false r s l k h g = g

  pub perform_is : (choices : List Choice) (i : Instr) (p : Pos) (pc : ℕ) (m : Regs)
      → Is (perform choices i p next pc m) (leads choices i p pc m)
  perform_is choices (Set x a) p pc m = value_is (content_of a m.vars) p m _ _ (λ v. refl)
  perform_is choices (Arith x kind o a b) p pc m = value_is (content_of a m.vars) p m _ _
      (λ v. value_is (content_of b m.vars) p m _ _ (λ w. number_is (arithmetic o kind (number_of v) (number_of w)) p m
      _ _ (λ n. refl)))
  perform_is choices (Fit x kind a) p pc m = value_is (content_of a m.vars) p m _ _
      (λ v. if_is (fits kind (number_of v)) _ _ _ _ refl refl)
  perform_is choices (Compare x c a b) p pc m = value_is (content_of a m.vars) p m _ _
      (λ v. value_is (content_of b m.vars) p m _ _ (λ w. refl))
  perform_is choices (Load x place) p pc m = slot_is (slot_of place m.vars) p m _ _
      (λ s k. effect_is (load_effect m.world s k (choices_left choices m)) p m _ _ (λ e r. refl))
  perform_is choices (Store place a) p pc m = value_is (content_of a m.vars) p m _ _
      (λ v. slot_is (slot_of place m.vars) p m _ _ (λ s k. effect_is (store_effect m.world s k v
      (choices_left choices m)) p m _ _ (λ e r. refl)))
  perform_is choices (Api x shape as') p pc m = values_is (all_values as' m.vars) p m _ _
      (λ vs. effect_is (call_effect m.world shape vs (choices_left choices m)) p m _ _ (λ e r. refl))
  perform_is choices (Call x f as') p pc m = refl
  perform_is choices (Unset x) p pc m = refl
  perform_is choices (Jump to) p pc m = refl
  perform_is choices (Branch a this other) p pc m = value_is (content_of a m.vars) p m _ _ (λ v. refl)
  perform_is choices (Return None) p pc m = refl
  perform_is choices (Return (Some a)) p pc m = value_is (content_of a m.vars) p m _ _ (λ v. refl)
  perform_is choices Fall p pc m = refl

  fetch_is : (choices : List Choice) (line : Option Line) (pc : ℕ) (m : Regs)
      → Is (fetch choices line next pc m) (leads_line choices line pc m)
  fetch_is choices None pc m = refl
  fetch_is choices (Some line) pc m = perform_is choices line.instr line.pos pc m

pub exec_step : (choices : List Choice) (code : List Line) (fuel pc : ℕ) (m : Regs)
    → (exec choices code (suc fuel) pc m).end ≡ (Reaches (exec choices code fuel) (leads_at choices code pc m).0
    (leads_at choices code pc m).1).end
exec_step choices code fuel pc m = fetch_is (exec choices code fuel) choices (slice_get code pc) pc m
