-- A run of a code without loops is over after as many instructions as the code has.
use Rattle.std.proofs.Common.{◌≡◌, ℕ, zero, suc, ◌+◌, ◌<◌, ◌≤◌, ℤ, arith, Bool, true, false, List, [], ◌∷◌, length}
use Rattle.std.proofs.Common.{Option, Some, None, Result, Ok, Err, refl, subst}
use Rattle.std.specs.Prelude.{◌&&◌, ◌||◌, nat_lt, slice_get, if◌then◌else◌}
use Rattle.std.proofs.lemmas.Bool.Decides.{nat_tests}
use Rattle.std.proofs.lemmas.Option.{slice_get_within}
use Rattle.pungi_base.specs.declared.choice.Choice.{Choice}
use Rattle.pungi_base.specs.declared.pos.Pos.{Pos}
use Rattle.pungi_base.specs.declared.value.Value.{Value}
use Rattle.pungi_api.specs.declared.param.Param.{Param}
use Rattle.pungi_world.specs.declared.content.Content.{Content}
use Rattle.pungi_world.specs.declared.content.Content.TheVariants as content
use Rattle.pungi_world.specs.declared.effect.Effect.{Effect}
use Rattle.pungi_world.specs.declared.halt.Halt.{Halt}
use Rattle.pungi_world.specs.declared.halt.Halt.TheVariants as halt
use Rattle.pungi_world.specs.declared.slot.Slot.{Slot}
use Rattle.pungi_world.specs.declared.world.World.{World}
use Rattle.pungi_world.specs.Slots.{load_effect, store_effect}
use Rattle.pungi_world.specs.Calls.{call_effect}
use Rattle.pungi_meaning.specs.Values.{fits, arithmetic, is_true, number_of}
use Rattle.pungi_meaning.specs.Run.{Run, end_at_once, Stopped}
use Rattle.pungi_code.specs.declared.code.Head.{Head}
use Rattle.pungi_code.specs.declared.code.Line.{Line}
use Rattle.pungi_code.specs.declared.instr.Instr.{Instr}
use Rattle.pungi_code.specs.declared.instr.Instr.TheVariants.{Set, Arith, Fit, Compare, Load, Store, Api, Call, Unset}
use Rattle.pungi_code.specs.declared.instr.Instr.TheVariants.{Jump, Branch, Return, Fall}
use Rattle.pungi_code.specs.Alike.{IsOver}
use Rattle.pungi_code.specs.Perform.{with_number, slot_of, with_slot, perform}
use Rattle.pungi_code.specs.Registers.{Regs, Next, content_of, with_value, all_values, with_values, choices_left}
use Rattle.pungi_code.specs.Registers.{after_effect}
use Rattle.pungi_code.specs.Run.{fetch, exec}
use Rattle.pungi_code.specs.WellFormed.{goes_back}

-- each label leads on
abbrev pub LeadsOn : List Line → Type 0
LeadsOn code = (place : ℕ) (line : Line) → slice_get code place ≡ Some line → goes_back [] place line.instr ≡ true

-- ---- one instruction

value-over : (c : Content) (p : Pos) (go : Value → Run) → ((v : Value) → IsOver (go v).end)
    → IsOver (with_value c p go).end
value-over content.Unset p go h = tt
value-over (content.Holds v) p go h = h v

values-over : (o : Option (List Value)) (p : Pos) (go : List Value → Run) → ((vs : List Value) → IsOver (go vs).end)
    → IsOver (with_values o p go).end
values-over None p go h = tt
values-over (Some vs) p go h = h vs

computing-over : (o : Option ℤ) (p : Pos) (go : ℤ → Run) → ((n : ℤ) → IsOver (go n).end)
    → IsOver (with_number p o go).end
computing-over None p go h = tt
computing-over (Some n) p go h = h n

if-over : (b : Bool) (r : Run) (p : Pos) → IsOver r.end → IsOver (if b then r else end_at_once (Stopped p)).end
if-over true r p h = h
if-over false r p h = tt

slot-over : (s : Option (Slot × Param)) (p : Pos) (go : Slot → Param → Run)
    → ((x : Slot) (k : Param) → IsOver (go x k).end) → IsOver (with_slot s p go).end
slot-over None p go h = tt
slot-over (Some x) p go h = h x.0 x.1

reacting-over : (r : Result (Effect × World) Halt) (p : Pos) (m : Regs) (go : Effect → Regs → Run)
    → ((e : Effect) (q : Regs) → IsOver (go e q).end) → IsOver (after_effect p r m go).end
reacting-over (Ok r) p m go h = h r.0 _
reacting-over (Err halt.Stopped) p m go h = tt
reacting-over (Err halt.NeedsChoice) p m go h = tt
reacting-over (Err halt.Memory) p m go h = tt

less : (m n : ℕ) → nat_lt m n ≡ true → m < n
less m n h = grind (arith, nat_tests)

-- a label that no head excuses
later : (b rest : Bool) → ((b || false) && rest) ≡ true → (b ≡ true) × (rest ≡ true)
later true rest e = (refl, e)
later false rest e = absurd (cc)

jump-later : (pc to : ℕ) → ((nat_lt pc to || false) && true) ≡ true → pc < to
jump-later pc to e = less pc to (later (nat_lt pc to) true e).0

branch-later : (pc this other : ℕ) (b : Bool)
    → ((nat_lt pc this || false) && ((nat_lt pc other || false) && true)) ≡ true → pc < (if b then this else other)
branch-later pc this other true e = less pc this (later (nat_lt pc this) ((nat_lt pc other || false) && true) e).0
branch-later pc this other false e =
    jump-later pc other (later (nat_lt pc this) ((nat_lt pc other || false) && true) e).1

next-later : (pc : ℕ) → pc < pc + 1
next-later pc = omega arith

perform-over : (choices : List Choice) (go : Next) (i : Instr) (p : Pos) (pc : ℕ) (m : Regs)
    → ((to : ℕ) (r : Regs) → pc < to → IsOver (go to r).end) → goes_back [] pc i ≡ true
    → IsOver (perform choices i p go pc m).end
perform-over choices go (Set x a) p pc m h b = value-over (content_of a m.vars) p _ (λ v. h (pc + 1) _ (next-later pc))
perform-over choices go (Arith x kind o a c) p pc m h b =
    value-over (content_of a m.vars) p _ (λ v. value-over (content_of c m.vars) p _
    (λ w. computing-over (arithmetic o kind (number_of v) (number_of w)) p _ (λ n. h (pc + 1) _ (next-later pc))))
perform-over choices go (Fit x kind a) p pc m h b =
    value-over (content_of a m.vars) p _ (λ v. if-over (fits kind (number_of v)) _ p (h (pc + 1) _ (next-later pc)))
perform-over choices go (Compare x c a d) p pc m h b =
    value-over (content_of a m.vars) p _ (λ v. value-over (content_of d m.vars) p _
    (λ w. h (pc + 1) _ (next-later pc)))
perform-over choices go (Load x place) p pc m h b =
    slot-over (slot_of place m.vars) p _ (λ s k. reacting-over (load_effect m.world s k (choices_left choices m)) p
    m _ (λ e r. h (pc + 1) _ (next-later pc)))
perform-over choices go (Store place a) p pc m h b =
    value-over (content_of a m.vars) p _ (λ v. slot-over (slot_of place m.vars) p _
    (λ s k. reacting-over (store_effect m.world s k v (choices_left choices m)) p m _
    (λ e r. h (pc + 1) _ (next-later pc))))
perform-over choices go (Api x sig as') p pc m h b =
    values-over (all_values as' m.vars) p _ (λ vs. reacting-over (call_effect m.world sig vs
    (choices_left choices m)) p m _ (λ e r. h (pc + 1) _ (next-later pc)))
perform-over choices go (Call x f as') p pc m h b = tt
perform-over choices go (Unset x) p pc m h b = h (pc + 1) _ (next-later pc)
perform-over choices go (Jump to) p pc m h b = h to.0 m (jump-later pc to.0 b)
perform-over choices go (Branch a this other) p pc m h b =
    value-over (content_of a m.vars) p _ (λ v. h _ m (branch-later pc this.0 other.0 (is_true v) b))
perform-over choices go (Return None) p pc m h b = tt
perform-over choices go (Return (Some a)) p pc m h b = value-over (content_of a m.vars) p _ (λ v. tt)
perform-over choices go Fall p pc m h b = tt

-- ---- runs

fetch-over : (choices : List Choice) (go : Next) (o : Option Line) (pc : ℕ) (m : Regs)
    → ((line : Line) → o ≡ Some line → (goes_back [] pc line.instr ≡ true)
    × ((to : ℕ) (r : Regs) → pc < to → IsOver (go to r).end)) → IsOver (fetch choices o go pc m).end
fetch-over choices go None pc m h = tt
fetch-over choices go (Some line) pc m h =
    let k = h line refl in
    perform-over choices go line.instr line.pos pc m k.1 k.0

past-over : (code : List Line) (choices : List Choice) → LeadsOn code → (fuel pc : ℕ) (m : Regs)
    → length code ≤ pc + fuel → IsOver (exec choices code (suc fuel) pc m).end
past-over code choices on zero pc m le =
    fetch-over choices (exec choices code zero) (slice_get code pc) pc m (λ line e.
    let at = slice_get_within code pc line e in
    (on pc line e, λ to r lt. absurd (omega (arith, at, le))))
past-over code choices on (suc fuel) pc m le =
    fetch-over choices (exec choices code (suc fuel)) (slice_get code pc) pc m
    (λ line e. (on pc line e, λ to r lt. past-over code choices on fuel to r (omega (arith, lt, le))))

pub run-over : (code : List Line) (choices : List Choice) → LeadsOn code → (m : Regs)
    → IsOver (exec choices code (suc (length code)) 0 m).end
run-over code choices on m = past-over code choices on (length code) 0 m (omega arith)

-- ---- codes without heads

no-heads : (heads : List Head) → length heads ≡ 0 → heads ≡ []
no-heads [] e = refl
no-heads (h ∷ heads) e = absurd (omega (arith, e))

pub leads-on : (heads : List Head) (code : List Line) → length heads ≡ 0
    → ((place : ℕ) (line : Line) → slice_get code place ≡ Some line → goes_back heads place line.instr ≡ true)
    → LeadsOn code
leads-on heads code none back =
    λ place line e. subst (λ (hs : List Head). goes_back hs place line.instr ≡ true) (no-heads heads none)
    (back place line e)
