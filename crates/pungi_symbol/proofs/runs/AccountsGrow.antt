-- How many objects are there after an instruction: as many as before, or one more, which its choice is.
use Rattle.std.proofs.Common.{◌≡◌, ◌==◌, ℕ, ◌+◌, ℤ, pos, negsuc, List, [], ◌∷◌, ◌++◌, length, Bool, true, false}
use Rattle.std.proofs.Common.{refl, ap, ◌∙◌, subst, arith, ◌⊎◌, inl, inr, Option, None, Some, cond, length-append}
use Rattle.std.specs.Prelude.{slice_get, replicate, Result as Res, Ok, Err}
use Rattle.std.proofs.lemmas.Bool.{eqb-true}
use Rattle.std.proofs.lemmas.List.{length-replicate}
use Rattle.std.proofs.Math.ListN.{length-set}
use Rattle.pungi_base.specs.declared.choice.Choice.{Choice}
use Rattle.pungi_base.specs.declared.pos.Pos.{Pos}
use Rattle.pungi_base.specs.declared.value.Value.{Value}
use Rattle.pungi_base.specs.declared.value.Value.TheVariants as value
use Rattle.pungi_api.specs.declared.answer.Answer.{Answer}
use Rattle.pungi_api.specs.declared.answer.Answer.TheVariants as answer
use Rattle.pungi_api.specs.declared.call_answer.CallAnswer.{CallAnswer}
use Rattle.pungi_api.specs.declared.call_answer.CallAnswer.TheVariants.{Of, Argument}
use Rattle.pungi_api.specs.declared.own_effect.OwnEffect.{OwnEffect}
use Rattle.pungi_api.specs.declared.own_effect.OwnEffect.TheVariants.{IncRef, DecRef}
use Rattle.pungi_api.specs.declared.param.Param.{Param}
use Rattle.pungi_api.specs.declared.signature.Signature.{Signature}
use Rattle.pungi_api.specs.declared.take.Take.{Take}
use Rattle.pungi_world.specs.declared.content.Content.{Content}
use Rattle.pungi_world.specs.declared.content.Content.TheVariants as content
use Rattle.pungi_world.specs.declared.effect.Effect.{Effect}
use Rattle.pungi_world.specs.declared.halt.Halt.{Halt}
use Rattle.pungi_world.specs.declared.halt.Halt.TheVariants as halt
use Rattle.pungi_world.specs.declared.slot.Slot.{Slot}
use Rattle.pungi_world.specs.declared.touch.Touch.{Touch}
use Rattle.pungi_world.specs.declared.world.World.{World}
use Rattle.pungi_world.specs.World.{fresh_account}
use Rattle.pungi_world.specs.Choices.{value_of, is_accepted, choose, answer_of}
use Rattle.pungi_world.specs.Counts.{with_object, with_value, count_value, mark_made, hand_over}
use Rattle.pungi_world.specs.Effects.{◌>>=◌, effect}
use Rattle.pungi_world.specs.Slots.{is_fresh, is_content, find_content, with_content, with_slot}
use Rattle.pungi_world.specs.Slots.{touch_at, touch, place_of, slot_at, after_load, put_at, load_effect, store_effect}
use Rattle.pungi_world.specs.Calls.{stops, call_answer, with_new_reference, with_answer, is_taken, take_over}
use Rattle.pungi_world.specs.Calls.{is_call_success, own_world, call_effect, first_of}
use Rattle.pungi_meaning.specs.Values.{fits, number_of, arithmetic}
use Rattle.pungi_code.specs.declared.code.Line.{Line}
use Rattle.pungi_code.specs.declared.atom.Var.{Var}
use Rattle.pungi_code.specs.declared.instr.Instr.{Instr}
use Rattle.pungi_code.specs.declared.instr.Instr.TheVariants.{Set, Arith, Fit, Compare, Load, Store, Api, Call}
use Rattle.pungi_code.specs.declared.instr.Instr.TheVariants.{Unset, Jump, Branch, Return, Fall}
use Rattle.pungi_code.specs.declared.registers.After.{After}
use Rattle.pungi_code.specs.declared.registers.After.TheVariants as after
use Rattle.pungi_code.specs.Perform.{slot_of}
use Rattle.pungi_code.specs.Registers.{Regs, content_of, all_values, choices_left, put_answer}
use Rattle.pungi_symbol.specs.runs.OneInstruction.{Led, on_value, on_number, on_slot, on_values, on_effect, goes, leads}
use Rattle.pungi_symbol.specs.runs.OneInstruction.{leads_line, leads_at}
use Rattle.pungi_symbol.proofs.steps.Worlds.{drop_head}

-- ---- worlds

-- with the object of a value there are as many objects as before, or one more, which it is
abbrev Sized : World → World → Value → Type 0
Sized w w' v =
    (length w'.accounts ≡ length w.accounts)
    ⊎ ((v ≡ value.Object (length w.accounts)) × (length w'.accounts ≡ length w.accounts + 1))

sized_then : (w w1 w2 : World) (v : Value) → Sized w w1 v → length w2.accounts ≡ length w1.accounts → Sized w w2 v
sized_then w w1 w2 v (inl e) f = inl (f ∙ e)
sized_then w w1 w2 v (inr h) f = inr (h.0, f ∙ h.1)

value_sized : (w : World) (v : Value) → Sized w (with_value w v) v
value_sized w value.Null = inl refl
value_sized w (value.Object k) = by (k == length w.accounts) refl
  where
    more : World
    more = record w { accounts = w.accounts ++ fresh_account ∷ [] }

    by : (b : Bool) → (k == length w.accounts) ≡ b → Sized w (with_object w k) (value.Object k)
    by true e = inr (
      ap value.Object (eqb-true k (length w.accounts) e),
      ap (λ b. length (cond b more w).accounts) e ∙ length-append w.accounts (fresh_account ∷ []),
    )
    by false e = inl (ap (λ b. length (cond b more w).accounts) e)
value_sized w (value.Int n) = inl refl
value_sized w value.Text = inl refl

counted_size : (w : World) (v : Value) (by : ℤ) → length (count_value w v by).accounts ≡ length w.accounts
counted_size w value.Null by = refl
counted_size w (value.Object k) by = length-set w.accounts k _
counted_size w (value.Int n) by = refl
counted_size w value.Text by = refl

marked_size : (w : World) (v : Value) → length (mark_made w v).accounts ≡ length w.accounts
marked_size w value.Null = refl
marked_size w (value.Object k) = length-set w.accounts k _
marked_size w (value.Int n) = refl
marked_size w value.Text = refl

handed_size : (w : World) (v : Value) → length (hand_over w v).accounts ≡ length w.accounts
handed_size w value.Null = refl
handed_size w (value.Object k) = length-set w.accounts k _
handed_size w (value.Int n) = refl
handed_size w value.Text = refl

taken_size : (w : World) (b : Bool) (ts : List Take) (vs : List Value)
    → length (take_over w b ts vs).accounts ≡ length w.accounts
taken_size w b [] vs = refl
taken_size w b (t ∷ ts) [] = refl
taken_size w b (t ∷ ts) (v ∷ vs) =
    taken_size (cond (is_taken b t) (hand_over w v) w) b ts vs ∙ one (is_taken b t)
  where
    one : (z : Bool) → length (cond z (hand_over w v) w).accounts ≡ length w.accounts
    one true = handed_size w v
    one false = refl

new_sized : (a : Answer) (w : World) (v : Value) → Sized w (with_new_reference a w (Some v)) v
new_sized answer.New w v =
    sized_then w (with_value w v) (count_value (with_value w v) v (pos 1)) v (value_sized w v)
    (counted_size (with_value w v) v (pos 1))
new_sized answer.Made w v =
    sized_then w (with_value w v) (mark_made (count_value (with_value w v) v (pos 1)) v) v (value_sized w v)
    (marked_size (count_value (with_value w v) v (pos 1)) v ∙ counted_size (with_value w v) v (pos 1))
new_sized answer.Borrowed w v = value_sized w v
new_sized answer.BorrowedSure w v = value_sized w v
new_sized answer.Status w v = value_sized w v
new_sized answer.Truth w v = value_sized w v
new_sized answer.Size w v = value_sized w v
new_sized answer.Int w v = value_sized w v
new_sized answer.Long w v = value_sized w v
new_sized answer.Text w v = value_sized w v
new_sized answer.Void w v = value_sized w v
new_sized answer.Null w v = value_sized w v
new_sized answer.Found w v = value_sized w v
new_sized (answer.Converted failures least most) w v = value_sized w v
new_sized answer.AnySize w v = value_sized w v
new_sized answer.Flag w v = value_sized w v
new_sized answer.TextSure w v = value_sized w v

-- ---- what the world returns

-- the world after a step that used so many of these choices
data Grown (w w' : World) (cs : List Choice) (used : ℕ) : Type 0 where
  as_many_as : length w'.accounts ≡ length w.accounts → Grown w w' cs used
  one_more : (c : Choice) (rest : List Choice) → cs ≡ c ∷ rest → value_of c ≡ value.Object (length w.accounts)
      → used ≡ 1 → length w'.accounts ≡ length w.accounts + 1 → Grown w w' cs used

chosen_grown : (w w' : World) (c : Choice) (rest : List Choice) → Sized w w' (value_of c) → Grown w w' (c ∷ rest) 1
chosen_grown w w' c rest (inl e) = as_many_as e
chosen_grown w w' c rest (inr h) = one_more c rest refl h.0 refl h.1

grown_then : (w w1 w2 : World) (cs : List Choice) (n : ℕ) → Grown w w1 cs n
    → length w2.accounts ≡ length w1.accounts → Grown w w2 cs n
grown_then w w1 w2 cs n (as_many_as e) f = as_many_as (f ∙ e)
grown_then w w1 w2 cs n (one_more c rest ec v u e) f = one_more c rest ec v u (f ∙ e)

abbrev Grows : World → List Choice → Res (Effect × World) Halt → Type 0
Grows w cs (Ok r) = Grown w r.1 cs r.0.used
Grows w cs (Err h) = Unit {0}

abbrev AnswerGrows : World → CallAnswer → List Choice → Res (Option Value × ℕ) Halt → Type 0
AnswerGrows w a cs (Ok r) = Grown w (with_answer a w r.0) cs r.1
AnswerGrows w a cs (Err h) = Unit {0}

choose_grows : (w : World) (a : Answer) (cs : List Choice)
    → AnswerGrows w (Of a) cs (choose (length w.accounts) a cs >>= (λ x. Ok (Some x, 1)))
choose_grows w a [] = tt
choose_grows w a (c ∷ cs) = by (is_accepted (length w.accounts) a c)
  where
    by : (b : Bool) → AnswerGrows w (Of a) (c ∷ cs) (cond b (Ok (value_of c)) (Err halt.NeedsChoice)
        >>= (λ x. Ok (Some x, 1)))
    by true = chosen_grown w (with_new_reference a w (Some (value_of c))) c cs (new_sized a w (value_of c))
    by false = tt

row_grows : (w : World) (a : Answer) (cs : List Choice) → AnswerGrows w (Of a) cs (answer_of (length w.accounts) a cs)
row_grows w answer.Void cs = as_many_as refl
row_grows w answer.Null cs = as_many_as refl
row_grows w answer.New cs = choose_grows w answer.New cs
row_grows w answer.Made cs = choose_grows w answer.Made cs
row_grows w answer.Borrowed cs = choose_grows w answer.Borrowed cs
row_grows w answer.BorrowedSure cs = choose_grows w answer.BorrowedSure cs
row_grows w answer.Status cs = choose_grows w answer.Status cs
row_grows w answer.Truth cs = choose_grows w answer.Truth cs
row_grows w answer.Size cs = choose_grows w answer.Size cs
row_grows w answer.Int cs = choose_grows w answer.Int cs
row_grows w answer.Long cs = choose_grows w answer.Long cs
row_grows w answer.Text cs = choose_grows w answer.Text cs
row_grows w answer.Found cs = choose_grows w answer.Found cs
row_grows w (answer.Converted failures least most) cs = choose_grows w (answer.Converted failures least most) cs
row_grows w answer.AnySize cs = choose_grows w answer.AnySize cs
row_grows w answer.Flag cs = choose_grows w answer.Flag cs
row_grows w answer.TextSure cs = choose_grows w answer.TextSure cs

answer_grows : (w : World) (a : CallAnswer) (args : List Value) (cs : List Choice)
    → AnswerGrows w a cs (call_answer (length w.accounts) a args cs)
answer_grows w (Of a) args cs = row_grows w a cs
answer_grows w Argument args cs = as_many_as refl

own_size : (own : Option OwnEffect) (g : Signature) (args : List Value) (w : World) (v : Option Value)
    → (length (own_world own g args w v).accounts ≡ length (with_answer g.answer w v).accounts)
    ⊎ (length (own_world own g args w v).accounts ≡ length w.accounts)
own_size None g args w v = inl (taken_size (with_answer g.answer w v) (is_call_success g.answer v) g.takes args)
own_size (Some IncRef) g args w v = inr (counted_size w (first_of args) (pos 1))
own_size (Some DecRef) g args w v = inr (counted_size w (first_of args) (negsuc 0))

call_grows : (w : World) (g : Signature) (args : List Value) (cs : List Choice)
    → Grows w cs (call_effect w g args cs)
call_grows w g args cs = by (stops g.params args)
  where
    go : (r : Res (Option Value × ℕ) Halt) → AnswerGrows w g.answer cs r
        → Grows w cs (r >>= (λ z. Ok (effect z.0 z.1, own_world g.own g args w z.0)))
    go (Err h) a = tt
    go (Ok z) a = elim (own_size g.own g args w z.0) [
      | inl e ↦ grown_then w (with_answer g.answer w z.0) (own_world g.own g args w z.0) cs z.1 a e
      | inr e ↦ as_many_as e
    ]

    by : (b : Bool) → Grows w cs (cond b (Err halt.Stopped) (call_answer (length w.accounts) g.answer args cs
        >>= (λ z. Ok (effect z.0 z.1, own_world g.own g args w z.0))))
    by true = tt
    by false = go (call_answer (length w.accounts) g.answer args cs) (answer_grows w g.answer args cs)

abbrev TouchGrows : World → List Choice → Res (Touch × World) Halt → Type 0
TouchGrows w cs (Ok t) = Grown w t.1 cs t.0.used
TouchGrows w cs (Err h) = Unit {0}

abbrev Touched : World → Slot → Content × ℕ → Res (Touch × World) Halt
Touched w s r = Ok (record { place = length w.slots; used = r.1 }, with_slot (with_content w r.0) s r.0)

touch_grows : (w : World) (s : Slot) (kind : Param) (cs : List Choice) → TouchGrows w cs (touch w s kind cs)
touch_grows w s kind cs = at (place_of w.slots s)
  where
    one : (c : Choice) (rest : List Choice) (b : Bool) → TouchGrows w (c ∷ rest)
        (cond b (Ok (content.Holds (value_of c), 1)) (Err halt.NeedsChoice) >>= Touched w s)
    one c rest true =
        let next = with_slot (with_value w (value_of c)) s (content.Holds (value_of c)) in
        chosen_grown w next c rest
        (sized_then w (with_value w (value_of c)) next (value_of c) (value_sized w (value_of c)) refl)
    one c rest false = tt

    found : (cs : List Choice) → TouchGrows w cs (find_content w kind cs >>= Touched w s)
    found [] = tt
    found (c ∷ rest) = one c rest (is_content w kind c)

    first : (b : Bool) → TouchGrows w cs (cond b (Ok (content.Unset, 0)) (find_content w kind cs) >>= Touched w s)
    first true = as_many_as refl
    first false = found cs

    at : (o : Option ℕ) → TouchGrows w cs (touch_at w s kind cs o)
    at (Some i) = as_many_as refl
    at None = first (is_fresh w s)

load_grows : (w : World) (s : Slot) (kind : Param) (cs : List Choice) → Grows w cs (load_effect w s kind cs)
load_grows w s kind cs = go (touch w s kind cs) (touch_grows w s kind cs)
  where
    by : (t : Touch × World) (x : Content) → Grown w t.1 cs t.0.used → Grows w cs (after_load x t.0.used t.1)
    by t content.Unset h = tt
    by t (content.Holds v) h = h

    go : (r : Res (Touch × World) Halt) → TouchGrows w cs r
        → Grows w cs (r >>= (λ t. after_load (slot_at t.1 t.0.place).held t.0.used t.1))
    go (Err h) a = tt
    go (Ok t) a = by t (slot_at t.1 t.0.place).held a

store_grows : (w : World) (s : Slot) (kind : Param) (v : Value) (cs : List Choice)
    → Grows w cs (store_effect w s kind v cs)
store_grows w s kind v cs = go (touch w s kind cs) (touch_grows w s kind cs)
  where
    go : (r : Res (Touch × World) Halt) → TouchGrows w cs r
        → Grows w cs (r >>= (λ t. Ok (effect None t.0.used, put_at t.1 t.0.place v)))
    go (Err h) a = tt
    go (Ok t) a = grown_then w t.1 (put_at t.1 t.0.place v) cs t.0.used a refl

-- ---- instructions

-- what is there after an instruction of a run that goes on
pub data Lengthened (choices : List Choice) (m m' : Regs) : Type 0 where
  as_before : length m'.world.accounts ≡ length m.world.accounts → Lengthened choices m m'
  longer : (c : Choice) → slice_get choices (length m.used) ≡ Some c
      → value_of c ≡ value.Object (length m.world.accounts)
      → length m'.used ≡ length m.used + 1 → length m'.world.accounts ≡ length m.world.accounts + 1
      → Lengthened choices m m'

module _ (choices : List Choice) (m : Regs) where
  abbrev Goes : After → Regs → Type 0
  Goes (after.Goes pc) m' = Lengthened choices m m'
  Goes (after.Leaves p v) m' = Unit {0}
  Goes (after.Stops p) m' = Unit {0}
  Goes after.Wants m' = Unit {0}

  abbrev Leads : Led → Type 0
  Leads led = Goes led.0 led.1

  value_leads : (c : Content) (p : Pos) (go : Value → Led) → ((v : Value) → Leads (go v)) → Leads (on_value c p m go)
  value_leads content.Unset p go h = tt
  value_leads (content.Holds v) p go h = h v

  number_leads : (o : Option ℤ) (p : Pos) (go : ℤ → Led) → ((n : ℤ) → Leads (go n)) → Leads (on_number o p m go)
  number_leads None p go h = tt
  number_leads (Some n) p go h = h n

  slot_leads : (o : Option (Slot × Param)) (p : Pos) (go : Slot → Param → Led)
      → ((s : Slot) (k : Param) → Leads (go s k)) → Leads (on_slot o p m go)
  slot_leads None p go h = tt
  slot_leads (Some s) p go h = h s.0 s.1

  values_lead : (o : Option (List Value)) (p : Pos) (go : List Value → Led) → ((vs : List Value) → Leads (go vs))
      → Leads (on_values o p m go)
  values_lead None p go h = tt
  values_lead (Some vs) p go h = h vs

  if_leads : (b : Bool) (x y : Led) → Leads x → Leads y → Leads (cond b x y)
  if_leads true x y f g = f
  if_leads false x y f g = g

  abbrev Keeps : (Effect → Regs → Regs) → Type 0
  Keeps put = (e : Effect) (r : Regs) → ((put e r).world ≡ r.world) × ((put e r).used ≡ r.used)

  effect_leads : (p : Pos) (r : Res (Effect × World) Halt) (put : Effect → Regs → Regs) (pc : ℕ) → Keeps put
      → Grows m.world (choices_left choices m) r → Leads (on_effect p r m (λ e r'. goes pc (put e r')))
  effect_leads p (Err halt.Stopped) put pc k h = tt
  effect_leads p (Err halt.NeedsChoice) put pc k h = tt
  effect_leads p (Err halt.Memory) put pc k h = tt
  effect_leads p (Ok r) put pc k h = by h
    where
      next : Regs
      next = record m { world = r.1; used = m.used ++ replicate r.0.used p }

      same : length (put r.0 next).world.accounts ≡ length r.1.accounts
      same = ap (λ w. length w.accounts) (k r.0 next).0

      by : Grown m.world r.1 (choices_left choices m) r.0.used → Lengthened choices m (put r.0 next)
      by (as_many_as e) = as_before (same ∙ e)
      by (one_more c rest ec v u e) =
          let a = ap length (k r.0 next).1 in
          let b = length-append m.used (replicate r.0.used p) in
          let d = length-replicate r.0.used p in
          longer c (drop_head choices rest (length m.used) c ec) v (omega (arith, a, b, d, u)) (same ∙ e)

  answer_keeps : (x : Option Var) → Keeps (λ e r. put_answer x e.value r)
  answer_keeps None e r = (refl, refl)
  answer_keeps (Some x) e r = by e.value
    where
      by : (o : Option Value) → ((put_answer (Some x) o r).world ≡ r.world)
          × ((put_answer (Some x) o r).used ≡ r.used)
      by None = (refl, refl)
      by (Some v) = (refl, refl)

  instr_leads : (i : Instr) (p : Pos) (pc : ℕ) → Leads (leads choices i p pc m)
  instr_leads (Set x a) p pc = value_leads (content_of a m.vars) p _ (λ v. as_before refl)
  instr_leads (Arith x kind o a b) p pc =
      value_leads (content_of a m.vars) p _ (λ v. value_leads (content_of b m.vars) p _
      (λ w. number_leads (arithmetic o kind (number_of v) (number_of w)) p _ (λ n. as_before refl)))
  instr_leads (Fit x kind a) p pc =
      value_leads (content_of a m.vars) p _ (λ v. if_leads (fits kind (number_of v)) _ _ (as_before refl) tt)
  instr_leads (Compare x c a b) p pc =
      value_leads (content_of a m.vars) p _ (λ v. value_leads (content_of b m.vars) p _ (λ w. as_before refl))
  instr_leads (Load x place) p pc =
      slot_leads (slot_of place m.vars) p _ (λ s kind. effect_leads p
      (load_effect m.world s kind (choices_left choices m)) (λ e r. put_answer (Some x) e.value r) (pc + 1)
      (answer_keeps (Some x)) (load_grows m.world s kind (choices_left choices m)))
  instr_leads (Store place a) p pc =
      value_leads (content_of a m.vars) p _ (λ v. slot_leads (slot_of place m.vars) p _ (λ s kind. effect_leads p
      (store_effect m.world s kind v (choices_left choices m)) (λ e r. r) (pc + 1) (λ e r. (refl, refl))
      (store_grows m.world s kind v (choices_left choices m))))
  instr_leads (Api x g as') p pc =
      values_lead (all_values as' m.vars) p _ (λ vs. effect_leads p
      (call_effect m.world g vs (choices_left choices m)) (λ e r. put_answer x e.value r) (pc + 1) (answer_keeps x)
      (call_grows m.world g vs (choices_left choices m)))
  instr_leads (Call x f as') p pc = tt
  instr_leads (Unset x) p pc = as_before refl
  instr_leads (Jump to) p pc = as_before refl
  instr_leads (Branch a this other) p pc = value_leads (content_of a m.vars) p _ (λ v. as_before refl)
  instr_leads (Return None) p pc = tt
  instr_leads (Return (Some a)) p pc = value_leads (content_of a m.vars) p _ (λ v. tt)
  instr_leads Fall p pc = tt

  line_leads : (o : Option Line) (pc : ℕ) → Leads (leads_line choices o pc m)
  line_leads None pc = tt
  line_leads (Some line) pc = instr_leads line.instr line.pos pc

  pub lengthened : (code : List Line) (pc pc' : ℕ) (m' : Regs) → leads_at choices code pc m ≡ (after.Goes pc', m')
      → Lengthened choices m m'
  lengthened code pc pc' m' e = subst Leads e (line_leads (slice_get code pc) pc)
