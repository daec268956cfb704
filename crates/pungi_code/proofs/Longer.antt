-- More fuel changes nothing of a run of a code that is over.
use Rattle.std.proofs.Common.{◌≡◌, ℕ, zero, suc, ◌+◌, ◌≤◌, ℤ, List, [], ◌∷◌, Option, Some, None, Result, Ok, Err}
use Rattle.std.proofs.Common.{refl, sym, ap, ◌∙◌, subst, arith, ⊎_elim, Bool, true, false, length, ◌==◌, if◌then◌else◌}
use Rattle.std.specs.Prelude.{slice_get}
use Rattle.std.proofs.lemmas.Bool.{cases_lt}
use Rattle.pungi_base.specs.declared.choice.Choice.{Choice}
use Rattle.pungi_base.specs.declared.pos.Pos.{Pos}
use Rattle.pungi_base.specs.declared.value.Value.{Value}
use Rattle.pungi_api.specs.declared.param.Param.{Param}
use Rattle.pungi_world.specs.declared.content.Content.{Content}
use Rattle.pungi_world.specs.declared.content.Content.TheVariants as content
use Rattle.pungi_world.specs.declared.effect.Effect.{Effect}
use Rattle.pungi_world.specs.declared.halt.Halt.{Halt}
use Rattle.pungi_world.specs.declared.halt.Halt.TheVariants as halt
use Rattle.pungi_world.specs.declared.slot.Slot.{Slot}
use Rattle.pungi_world.specs.declared.world.World.{World}
use Rattle.pungi_world.specs.Slots.{load_effect, store_effect}
use Rattle.pungi_world.specs.Calls.{call_effect}
use Rattle.pungi_meaning.specs.Values.{fits, arithmetic, number_of}
use Rattle.pungi_meaning.specs.Todo.{Operation, Computed, Fitted, Compared, Loaded, Stored, Called, Entered}
use Rattle.pungi_meaning.specs.Run.{Run, end_at_once, with_operations, Stopped}
use Rattle.pungi_code.specs.declared.atom.Var.{Var}
use Rattle.pungi_code.specs.declared.code.Code.{Code}
use Rattle.pungi_code.specs.declared.code.Line.{Line}
use Rattle.pungi_code.specs.declared.instr.Instr.{Instr}
use Rattle.pungi_code.specs.declared.instr.Instr.TheVariants.{Set, Arith, Fit, Compare, Load, Store, Api, Call, Unset}
use Rattle.pungi_code.specs.declared.instr.Instr.TheVariants.{Jump, Branch, Return, Fall}
use Rattle.pungi_code.specs.Registers.{Regs, Next, put, content_of, with_value, all_values, with_values, choices_left}
use Rattle.pungi_code.specs.Registers.{after_effect}
use Rattle.pungi_code.specs.Perform.{with_number, slot_of, with_slot, perform}
use Rattle.pungi_code.specs.Frames.{CodeFrame, code_numbered, Rest, enter, with_params, resume, resumed, leave}
use Rattle.pungi_code.specs.Run.{Around, among, calling, perform_in, fetch, exec, fetch_in, execute}
use Rattle.pungi_code.specs.Alike.{IsOver}

-- where f is over, g is over with the same end
abbrev pub Extends : Next → Next → Type 0
Extends f g = (pc : ℕ) (m : Regs) (o : Run) → IsOver o.end → f pc m ≡ o → g pc m ≡ o

value_extends : (c : Content) (p : Pos) (f g : Value → Run) (o : Run) → ((x : Value) → f x ≡ o → g x ≡ o)
    → with_value c p f ≡ o → with_value c p g ≡ o
value_extends content.Unset p f g o h e = e
value_extends (content.Holds x) p f g o h e = h x e

values_extend : (c : Option (List Value)) (p : Pos) (f g : List Value → Run) (o : Run)
    → ((x : List Value) → f x ≡ o → g x ≡ o) → with_values c p f ≡ o → with_values c p g ≡ o
values_extend None p f g o h e = e
values_extend (Some x) p f g o h e = h x e

computing_extends : (n : Option ℤ) (p : Pos) (f g : ℤ → Run) (o : Run) → ((x : ℤ) → f x ≡ o → g x ≡ o)
    → with_number p n f ≡ o → with_number p n g ≡ o
computing_extends None p f g o h e = e
computing_extends (Some x) p f g o h e = h x e

if_extends : (b : Bool) (f g : Run) (p : Pos) (o : Run) → (f ≡ o → g ≡ o)
    → (if b then f else end_at_once (Stopped p)) ≡ o → (if b then g else end_at_once (Stopped p)) ≡ o
if_extends true f g p o h e = h e
if_extends false f g p o h e = e

slot_extends : (s : Option (Slot × Param)) (p : Pos) (f g : Slot → Param → Run) (o : Run)
    → ((x : Slot) (k : Param) → f x k ≡ o → g x k ≡ o) → with_slot s p f ≡ o → with_slot s p g ≡ o
slot_extends None p f g o h e = e
slot_extends (Some x) p f g o h e = h x.0 x.1 e

reacting_extends : (r : Result (Effect × World) Halt) (p : Pos) (m : Regs) (f g : Effect → Regs → Run) (o : Run)
    → ((x : Effect) (q : Regs) → f x q ≡ o → g x q ≡ o) → after_effect p r m f ≡ o → after_effect p r m g ≡ o
reacting_extends (Ok r) p m f g o h e = h r.0 _ e
reacting_extends (Err halt.Stopped) p m f g o h e = e
reacting_extends (Err halt.NeedsChoice) p m f g o h e = e
reacting_extends (Err halt.Memory) p m f g o h e = e

noted_extends : (f g : Next) → Extends f g → (ops : List Operation) (pc : ℕ) (m : Regs) (o : Run) → IsOver o.end
    → with_operations ops (f pc m) ≡ o → with_operations ops (g pc m) ≡ o
noted_extends f g h ops pc m o end_at_once e =
    let is : IsOver (f pc m).end = subst IsOver (sym (ap (λ (r : Run). r.end) e)) end_at_once in
    ap (with_operations ops) (h pc m (f pc m) is refl) ∙ e

perform_extends : (choices : List Choice) (f g : Next) → Extends f g
    → (i : Instr) (p : Pos) (pc : ℕ) (m : Regs) (o : Run) → IsOver o.end → perform choices i p f pc m ≡ o
    → perform choices i p g pc m ≡ o
perform_extends choices f g h (Set x a) p pc m o is e =
    value_extends (content_of a m.vars) p _ _ o (λ v d. h (pc + 1) (put x (content.Holds v) m) o is d) e
perform_extends choices f g h (Arith x kind op a b) p pc m o is e =
    value_extends (content_of a m.vars) p _ _ o (λ v d. value_extends (content_of b m.vars) p _ _ o
    (λ w c. computing_extends (arithmetic op kind (number_of v) (number_of w)) p _ _ o
    (λ n q. noted_extends f g h (Computed p op kind v w ∷ []) (pc + 1) _ o is q) c) d) e
perform_extends choices f g h (Fit x kind a) p pc m o is e =
    value_extends (content_of a m.vars) p _ _ o (λ v d. if_extends (fits kind (number_of v)) _ _ p o
    (λ c. noted_extends f g h (Fitted p kind v ∷ []) (pc + 1) _ o is c) d) e
perform_extends choices f g h (Compare x c a b) p pc m o is e =
    value_extends (content_of a m.vars) p _ _ o (λ v d. value_extends (content_of b m.vars) p _ _ o
    (λ w q. noted_extends f g h (Compared p c v w ∷ []) (pc + 1) _ o is q) d) e
perform_extends choices f g h (Load x place) p pc m o is e =
    slot_extends (slot_of place m.vars) p _ _ o (λ s k d. reacting_extends
    (load_effect m.world s k (choices_left choices m)) p m _ _ o (λ x' q c. noted_extends f g h
    (Loaded p s x'.value ∷ []) (pc + 1) _ o is c) d) e
perform_extends choices f g h (Store place a) p pc m o is e =
    value_extends (content_of a m.vars) p _ _ o (λ v b. slot_extends (slot_of place m.vars) p _ _ o
    (λ s k d. reacting_extends (store_effect m.world s k v (choices_left choices m)) p m _ _ o
    (λ x' q c. noted_extends f g h (Stored p s v ∷ []) (pc + 1) _ o is c) d) b) e
perform_extends choices f g h (Api x g' as') p pc m o is e =
    values_extend (all_values as' m.vars) p _ _ o (λ vs d. reacting_extends
    (call_effect m.world g' vs (choices_left choices m)) p m _ _ o (λ x' q c. noted_extends f g h
    (Called p g' vs x' ∷ []) (pc + 1) _ o is c) d) e
perform_extends choices f g h (Call x n as') p pc m o is e = e
perform_extends choices f g h (Unset x) p pc m o is e = h (pc + 1) (put x content.Unset m) o is e
perform_extends choices f g h (Jump to) p pc m o is e = h to.0 m o is e
perform_extends choices f g h (Branch a this other) p pc m o is e =
    value_extends (content_of a m.vars) p _ _ o (λ v d. h _ m o is d) e
perform_extends choices f g h (Return None) p pc m o is e = e
perform_extends choices f g h (Return (Some a)) p pc m o is e = e
perform_extends choices f g h Fall p pc m o is e = e

-- ---- calls and returns

abbrev pub AllExtend : Rest → Rest → Type 0
AllExtend f g = (frames : List CodeFrame) (code : List Line) → Extends (f frames code) (g frames code)

entering_extends : (f g : Rest) → AllExtend f g → (frames : List CodeFrame) (b : CodeFrame) (n : ℕ) (vs : List Value)
    (m : Regs) (c : Option Code) (o : Run) → IsOver o.end → enter f frames b n vs m c ≡ o
    → enter g frames b n vs m c ≡ o
entering_extends f g h frames b n vs m None o is e = e
entering_extends f g h frames b n vs m (Some c) o is e =
    if_extends (length vs == c.params) _ _ b.call o
    (λ d. noted_extends (f (b ∷ frames) c.instrs) (g (b ∷ frames) c.instrs) (h (b ∷ frames) c.instrs)
    (Entered b.call n vs ∷ []) 0 (with_params c vs m) o is d) e

resuming_extends : (f g : Rest) → AllExtend f g → (frames : List CodeFrame) (b : CodeFrame) (w : World)
    (used : List Pos) (x : Option Var) (v : Option Value) (o : Run) → IsOver o.end
    → resume f frames b w used x v ≡ o → resume g frames b w used x v ≡ o
resuming_extends f g h frames b w used None v o is e = h frames b.instrs b.place (resumed b w used) o is e
resuming_extends f g h frames b w used (Some x) None o is e = e
resuming_extends f g h frames b w used (Some x) (Some v) o is e =
    h frames b.instrs b.place (put x (content.Holds v) (resumed b w used)) o is e

leaving_extends : (f g : Rest) → AllExtend f g → (frames : List CodeFrame) (w : World) (v : Option Value) (p : Pos)
    (used : List Pos) (o : Run) → IsOver o.end → leave f frames w v p used ≡ o → leave g frames w v p used ≡ o
leaving_extends f g h [] w v p used o is e = e
leaving_extends f g h (b ∷ frames) w v p used o is e = resuming_extends f g h frames b w used b.into v o is e

performing_extends : (a : Around) (f g : Rest) → AllExtend f g → (code : List Line) (i : Instr) (p : Pos) (pc : ℕ)
    (m : Regs) (o : Run) → IsOver o.end → perform_in a f code i p pc m ≡ o → perform_in a g code i p pc m ≡ o
performing_extends a f g h code (Call x n as') p pc m o is e =
    values_extend (all_values as' m.vars) p _ _ o
    (λ vs d. entering_extends f g h a.frames (calling p code pc x m) n vs m (code_numbered a.codes n) o is d) e
performing_extends a f g h code (Return None) p pc m o is e =
    leaving_extends f g h a.frames m.world None p m.used o is e
performing_extends a f g h code (Return (Some v)) p pc m o is e =
    value_extends (content_of v m.vars) p _ _ o
    (λ x d. leaving_extends f g h a.frames m.world (Some x) p m.used o is d) e
performing_extends a f g h code (Set x b) p pc m o is e =
    perform_extends a.choices (f a.frames code) (g a.frames code) (h a.frames code) (Set x b) p pc m o is e
performing_extends a f g h code (Arith x kind op b c) p pc m o is e =
    perform_extends a.choices (f a.frames code) (g a.frames code) (h a.frames code) (Arith x kind op b c) p pc m o is e
performing_extends a f g h code (Fit x kind b) p pc m o is e =
    perform_extends a.choices (f a.frames code) (g a.frames code) (h a.frames code) (Fit x kind b) p pc m o is e
performing_extends a f g h code (Compare x c b d) p pc m o is e =
    perform_extends a.choices (f a.frames code) (g a.frames code) (h a.frames code) (Compare x c b d) p pc m o is e
performing_extends a f g h code (Load x place) p pc m o is e =
    perform_extends a.choices (f a.frames code) (g a.frames code) (h a.frames code) (Load x place) p pc m o is e
performing_extends a f g h code (Store place b) p pc m o is e =
    perform_extends a.choices (f a.frames code) (g a.frames code) (h a.frames code) (Store place b) p pc m o is e
performing_extends a f g h code (Api x s as') p pc m o is e =
    perform_extends a.choices (f a.frames code) (g a.frames code) (h a.frames code) (Api x s as') p pc m o is e
performing_extends a f g h code (Unset x) p pc m o is e =
    perform_extends a.choices (f a.frames code) (g a.frames code) (h a.frames code) (Unset x) p pc m o is e
performing_extends a f g h code (Jump to) p pc m o is e =
    perform_extends a.choices (f a.frames code) (g a.frames code) (h a.frames code) (Jump to) p pc m o is e
performing_extends a f g h code (Branch b this other) p pc m o is e =
    perform_extends a.choices (f a.frames code) (g a.frames code) (h a.frames code) (Branch b this other) p pc m o is e
performing_extends a f g h code Fall p pc m o is e =
    perform_extends a.choices (f a.frames code) (g a.frames code) (h a.frames code) Fall p pc m o is e

fetching_extends : (a : Around) (f g : Rest) → AllExtend f g → (code : List Line) (l : Option Line) (pc : ℕ) (m : Regs)
    (o : Run) → IsOver o.end → fetch_in a f code l pc m ≡ o → fetch_in a g code l pc m ≡ o
fetching_extends a f g h code None pc m o is e = e
fetching_extends a f g h code (Some l) pc m o is e = performing_extends a f g h code l.instr l.pos pc m o is e

-- ---- runs

pub longer : (codes : List (Option Code)) (choices : List Choice) (m n : ℕ) → m ≤ n
    → AllExtend (execute codes choices m) (execute codes choices n)
longer codes choices zero n le frames code pc s o is e =
    absurd (subst IsOver (sym (ap (λ (r : Run). r.end) e)) is)
longer codes choices (suc m) zero le frames code pc s o is e = absurd (omega arith)
longer codes choices (suc m) (suc n) le frames code pc s o is e =
    fetching_extends (among codes choices frames) (execute codes choices m) (execute codes choices n)
    (longer codes choices m n (omega arith)) code (slice_get code pc) pc s o is e

-- a run has one end
pub one_end : (codes : List (Option Code)) (choices : List Choice) (frames : List CodeFrame) (code : List Line)
    (m n pc : ℕ) (r : Regs) (o p : Run) → IsOver o.end → IsOver p.end → execute codes choices m frames code pc r ≡ o
    → execute codes choices n frames code pc r ≡ p → o ≡ p
one_end codes choices frames code m n pc r o p over_o over_p e f =
    ⊎_elim
    (λ lt. sym (longer codes choices m n (omega arith) frames code pc r o over_o e) ∙ f)
    (λ le. sym e ∙ longer codes choices n m le frames code pc r p over_p f)
    (cases_lt m n)

-- ---- a code alone

fetch_extends : (choices : List Choice) (f g : Next) → Extends f g → (l : Option Line) (pc : ℕ) (m : Regs) (o : Run)
    → IsOver o.end → fetch choices l f pc m ≡ o → fetch choices l g pc m ≡ o
fetch_extends choices f g h None pc m o is e = e
fetch_extends choices f g h (Some l) pc m o is e = perform_extends choices f g h l.instr l.pos pc m o is e

pub longer_alone : (choices : List Choice) (code : List Line) (m n : ℕ) → m ≤ n
    → Extends (exec choices code m) (exec choices code n)
longer_alone choices code zero n le pc s o is e = absurd (subst IsOver (sym (ap (λ (r : Run). r.end) e)) is)
longer_alone choices code (suc m) zero le pc s o is e = absurd (omega arith)
longer_alone choices code (suc m) (suc n) le pc s o is e =
    fetch_extends choices (exec choices code m) (exec choices code n) (longer_alone choices code m n (omega arith))
    (slice_get code pc) pc s o is e

pub one_end_alone : (choices : List Choice) (code : List Line) (m n pc : ℕ) (r : Regs) (o p : Run) → IsOver o.end
    → IsOver p.end → exec choices code m pc r ≡ o → exec choices code n pc r ≡ p → o ≡ p
one_end_alone choices code m n pc r o p over_o over_p e f =
    ⊎_elim
    (λ lt. sym (longer_alone choices code m n (omega arith) pc r o over_o e) ∙ f)
    (λ le. sym e ∙ longer_alone choices code n m le pc r p over_p f)
    (cases_lt m n)
