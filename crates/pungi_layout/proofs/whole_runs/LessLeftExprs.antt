-- A step of an expression leaves less to be done.
use Rattle.std.proofs.Common.{◌≡◌, ℕ, suc, ◌+◌, ◌≤◌, ℤ, List, [], ◌∷◌, length, drop, Option, Some, None, Result, Ok}
use Rattle.std.proofs.Common.{Err, refl, ap, ◌∙◌, arith, Bool, true, false, not, if◌then◌else◌}
use Rattle.pungi_base.specs.declared.choice.Choice.{Choice}
use Rattle.pungi_base.specs.declared.kind.Kind.{Kind}
use Rattle.pungi_base.specs.declared.kind.Kind.TheVariants as tokens
use Rattle.pungi_base.specs.declared.punct.Punct.TheVariants as puncts
use Rattle.pungi_base.specs.declared.names.Name.{Name}
use Rattle.pungi_base.specs.declared.pos.Pos.{Pos}
use Rattle.pungi_base.specs.declared.value.Value.{Value}
use Rattle.pungi_base.specs.declared.value.Value.TheVariants as value
use Rattle.pungi_api.specs.declared.signature.Signature.{Signature}
use Rattle.pungi_api.specs.Signatures.{output_signature}
use Rattle.pungi_types.specs.declared.kind.ValueKind.{ValueKind}
use Rattle.pungi_resolved.specs.declared.output_step.OutputStep.{OutputStep}
use Rattle.pungi_resolved.specs.declared.output_step.OutputStep.TheVariants.{Ends, Writes}
use Rattle.pungi_resolved.specs.Values as expr
use Rattle.pungi_types.specs.Operators.{is_same_kind}
use Rattle.pungi_world.specs.declared.content.Content.{Content}
use Rattle.pungi_world.specs.declared.content.Content.TheVariants.{Unset, Holds}
use Rattle.pungi_world.specs.declared.effect.Effect.{Effect}
use Rattle.pungi_world.specs.declared.halt.Halt.{Halt}
use Rattle.pungi_world.specs.declared.halt.Halt.TheVariants as halt
use Rattle.pungi_world.specs.declared.slot.Slot.{Slot}
use Rattle.pungi_world.specs.declared.slot.Slot.TheVariants as slot
use Rattle.pungi_world.specs.declared.world.World.{World}
use Rattle.pungi_world.specs.Slots.{load_effect, store_effect}
use Rattle.pungi_world.specs.Calls.{call_effect}
use Rattle.pungi_meaning.specs.declared.op.Op.{Op}
use Rattle.pungi_meaning.specs.declared.cmp.Cmp.TheVariants as cmps
use Rattle.pungi_meaning.specs.Values.{number_of, op_of, slot_kind, truth, wide, holds}
use Rattle.pungi_meaning.specs.Todo.{Operation, Fitted, Todo, ToEval, ToOld, ToCompute, ToFit, ToTruth}
use Rattle.pungi_meaning.specs.Todo.{ToStore, ToExec, ToChoose, ToRest, ToTest, ToTurn, ToAgain}
use Rattle.pungi_meaning.specs.Todo.{ToSwitch, Target, Row, Defined, State, Step, Goes, Calls, Returns, Stops, Wants}
use Rattle.pungi_meaning.specs.Todo.{ToOutputs, UnlessNull, WithOutputs, listed_values}
use Rattle.pungi_meaning.specs.Todo.{ToPostfix, ToEmpty}
use Rattle.pungi_meaning.specs.Exprs.{base_first, read_local, load_slot, load_field, after_load, load_old, store_slot}
use Rattle.pungi_meaning.specs.Exprs.{store_field, store, after_store, convert, sign, step, after_arithmetic}
use Rattle.pungi_meaning.specs.Exprs.{after_call, unless_null, call_row, call, next_arg, after_output, end_output}
use Rattle.pungi_meaning.specs.Exprs.{next_output, evaluate}
use Rattle.pungi_meaning.specs.Work.{top, below, newest, unused, content_at, after_effect, pop_value, replace_value}
use Rattle.pungi_layout.specs.alike.Weights.{expr_weight, place_weight, values_weight, args_weight, stmt_weight}
use Rattle.pungi_layout.specs.alike.Weights.{list_weight, loop_weight, switch_weight, other_weight, weight}
use Rattle.pungi_layout.proofs.simulation.Calls.{IsNext}

module _ (most : ℕ) where
  -- what may come again is within the bound
  abbrev pub IsLight : Todo → Type 0
  IsLight (ToExec a) = stmt_weight a ≤ most
  IsLight (ToRest block i) = list_weight block ≤ most
  IsLight (ToChoose a b) = (stmt_weight a ≤ most) × (other_weight b ≤ most)
  IsLight (ToTest loop) = loop_weight loop ≤ most
  IsLight (ToTurn loop) = loop_weight loop ≤ most
  IsLight (ToAgain loop) = loop_weight loop ≤ most
  IsLight (ToSwitch p a) = switch_weight a ≤ most
  IsLight t = Unit {0}

  abbrev pub AreLight : List Todo → Type 0
  AreLight [] = Unit {0}
  AreLight (t ∷ k) = IsLight t × AreLight k

  -- what a step leaves
  abbrev pub Leaves : ℕ → Step → Type 0
  Leaves n (Goes ops k s) = (weight k + 1 ≤ n) × AreLight k
  Leaves n (Calls p f b args k s) = (weight k + 1 ≤ n) × AreLight k
  Leaves n (Returns w v p u) = Unit {0}
  Leaves n (Stops p) = Unit {0}
  Leaves n Wants = Unit {0}

  pub at_most : {m n : ℕ} (st : Step) → m ≤ n → Leaves m st → Leaves n st
  at_most (Goes ops k s) le h = (omega (arith, le, h.0), h.1)
  at_most (Calls p f b args k s) le h = (omega (arith, le, h.0), h.1)
  at_most (Returns w v p u) le h = tt
  at_most (Stops p) le h = tt
  at_most Wants le h = tt

  -- ---- the world

  read_light : (c : Content) (p : Pos) (n : ℕ) (k : List Todo) (s : State) → weight k + 1 ≤ n → AreLight k
      → Leaves n (read_local c p k s)
  read_light Unset p n k s le h = tt
  read_light (Holds v) p n k s le h = (le, h)

  react_light : (r : Result (Effect × World) Halt) (p : Pos) (n : ℕ) (go : Effect → State → Step) (s : State)
      → ((e : Effect) (s' : State) → Leaves n (go e s')) → Leaves n (after_effect p r go s)
  react_light (Ok r) p n go s next = next r.0 _
  react_light (Err halt.Stopped) p n go s next = tt
  react_light (Err halt.NeedsChoice) p n go s next = tt
  react_light (Err halt.Memory) p n go s next = tt

  load_light : (choices : List Choice) (p : Pos) (kind : ValueKind) (s' : Slot) (n : ℕ) (k : List Todo) (s : State)
      → weight k + 1 ≤ n → AreLight k → Leaves n (load_slot choices p kind s' k s)
  load_light choices p kind s' n k s le h = react_light (load_effect s.world s' (slot_kind kind) (unused choices s))
      p n (after_load p s' k) s (λ e q. (le, h))

  pub field_light : (v : Value) (choices : List Choice) (p : Pos) (kind : ValueKind) (tag field : Name) (n : ℕ)
      (k : List Todo) (s : State) → weight k + 1 ≤ n → AreLight k
      → Leaves n (load_field choices p kind v tag field k s)
  field_light (value.Object o) choices p kind tag field n k s le h = load_light choices p kind
      (slot.Field o tag field) n k s le h
  field_light (value.Int i) choices p kind tag field n k s le h = tt
  field_light value.Null choices p kind tag field n k s le h = tt
  field_light value.Text choices p kind tag field n k s le h = tt

  pub old_light : (place : expr.Place) (choices : List Choice) (kind : ValueKind) (n : ℕ) (k : List Todo) (s : State)
      → weight k + 1 ≤ n → AreLight k → Leaves n (load_old choices kind place k s)
  old_light (expr.local_place p x) choices kind n k s le h = read_light (content_at s.locals x) p n k s le h
  old_light (expr.global_place p x) choices kind n k s le h = load_light choices p kind (slot.Global x) n k s le h
  old_light (expr.field_place p base tag field) choices kind n k s le h = field_light (top s.values) choices p kind
      tag field n k s le h
  old_light expr.no_place choices kind n k s le h = (le, h)

  store_slot_light : (choices : List Choice) (p : Pos) (kind : ValueKind) (s' : Slot) (v : Value) (vs : List Value)
      (n : ℕ) (k : List Todo) (s : State) → weight k + 1 ≤ n → AreLight k
      → Leaves n (store_slot choices p kind s' v vs k s)
  store_slot_light choices p kind s' v vs n k s le h = react_light (store_effect s.world s' (slot_kind kind) v
      (unused choices s)) p n (after_store p s' v vs k) s (λ e q. (le, h))

  store_field_light : (b : Value) (choices : List Choice) (p : Pos) (kind : ValueKind) (tag field : Name)
      (v : Value) (vs : List Value) (n : ℕ) (k : List Todo) (s : State) → weight k + 1 ≤ n → AreLight k
      → Leaves n (store_field choices p kind b tag field v vs k s)
  store_field_light (value.Object o) choices p kind tag field v vs n k s le h = store_slot_light choices p kind
      (slot.Field o tag field) v vs n k s le h
  store_field_light (value.Int i) choices p kind tag field v vs n k s le h = tt
  store_field_light value.Null choices p kind tag field v vs n k s le h = tt
  store_field_light value.Text choices p kind tag field v vs n k s le h = tt

  pub store_light : (place : expr.Place) (choices : List Choice) (kind : ValueKind) (n : ℕ) (k : List Todo) (s : State)
      → weight k + 1 ≤ n → AreLight k → Leaves n (store choices kind place k s)
  store_light (expr.local_place p x) choices kind n k s le h = (le, h)
  store_light (expr.global_place p x) choices kind n k s le h = store_slot_light choices p kind (slot.Global x)
      (top s.values) (below s.values) n k s le h
  store_light (expr.field_place p base tag field) choices kind n k s le h = store_field_light (top (below s.values))
      choices p kind tag field (top s.values) (below (below s.values)) n k s le h
  store_light expr.no_place choices kind n k s le h = (le, h)

  -- ---- operators

  pub computed_light : (r : Option ℤ) (p : Pos) (o : Op) (kind : ValueKind) (a b : Value)
      (go : List Operation → Value → List Todo → State → Step) (n : ℕ) (k : List Todo) (s : State)
      → ((os : List Operation) (v : Value) → Leaves n (go os v k s))
      → Leaves n (after_arithmetic p o kind a b r go k s)
  computed_light None p o kind a b go n k s next = tt
  computed_light (Some i) p o kind a b go n k s next = next _ _

  pub fit_light : (b : Bool) (p : Pos) (kind : ValueKind) (v : Value) (n : ℕ) (k : List Todo) (s : State)
      → weight k + 1 ≤ n → AreLight k → Leaves n (if b then Goes (Fitted p kind v ∷ [])
      k (record s { values = value.Int (number_of v) ∷ below s.values }) else Stops p)
  fit_light true p kind v n k s le h = (le, h)
  fit_light false p kind v n k s le h = tt

  pub right_light : (c on : Bool) (b : expr.Value) (n : ℕ) (k : List Todo) (s : State)
      → expr_weight b + 2 + weight k ≤ n
      → AreLight k
      → Leaves n (if c then pop_value (ToEval b ∷ ToTruth ∷ k) s else replace_value [] (truth (not on)) k s)
  right_light true on b n k s le h = (omega (arith, le), (tt, (tt, h)))
  right_light false on b n k s le h = (omega (arith, le), h)

  pub pick_light : (c : Bool) (a b : expr.Value) (n : ℕ) (k : List Todo) (s : State)
      → expr_weight a + expr_weight b + 1 + weight k ≤ n → AreLight k
      → Leaves n (pop_value (ToEval (if c then a else b) ∷ k) s)
  pick_light true a b n k s le h = (omega (arith, le), (tt, h))
  pick_light false a b n k s le h = (omega (arith, le), (tt, h))

  -- a conversion weighs one at most
  convert_light : (same : Bool) (p : Pos) (to : ValueKind) (k : List Todo) → AreLight k
      → (weight (if same then k else ToFit p to ∷ k) ≤ weight k + 1) × AreLight (if same then k else ToFit p to ∷ k)
  convert_light true p to k h = (omega arith, h)
  convert_light false p to k h = (omega arith, (tt, h))

  signing_light : (p : Pos) (m : Kind) (kind : ValueKind) (k : List Todo) → AreLight k
      → (weight (sign p m kind k) ≤ weight k + 1) × AreLight (sign p m kind k)
  signing_light p (tokens.Punct puncts.Minus) kind k h = (omega arith, (tt, h))
  signing_light p m kind k h = (omega arith, h)

  before_light : (place : expr.Place) (k : List Todo) → AreLight k
      → (weight (base_first place k) ≤ place_weight place + weight k) × AreLight (base_first place k)
  before_light (expr.local_place p x) k h = (omega arith, h)
  before_light (expr.global_place p x) k h = (omega arith, h)
  before_light (expr.field_place p base tag field) k h = (omega arith, (tt, h))
  before_light expr.no_place k h = (omega arith, h)

  pub stepping_light : (p : Pos) (m : Kind) (kind : ValueKind) (place : expr.Place) (k : List Todo) → AreLight k
      → (weight (step p m kind place k) ≤ weight k + 3) × AreLight (step p m kind place k)
  stepping_light p m kind place k h =
      let r = convert_light (is_same_kind (Some kind) (Some (wide kind))) p kind (ToStore kind place ∷ k) (tt, h) in
      (omega (arith, r.0), (tt, r.1))

  args_listed : (vs : expr.Values) → args_weight (listed_values vs) ≡ values_weight vs + 1
  args_listed expr.no_values = refl
  args_listed (expr.value_and v vs) = let e = args_listed vs in omega (arith, e)

  pub evaluate_light : (v : expr.Value) (choices : List Choice) (k : List Todo) (s : State) → AreLight k
      → Leaves (expr_weight v + weight k) (evaluate choices v k s)
  evaluate_light (expr.constant p n) choices k s h = (omega arith, h)
  evaluate_light (expr.text_of p ns) choices k s h = (omega arith, h)
  evaluate_light (expr.null_of p) choices k s h = (omega arith, h)
  evaluate_light (expr.static_of p n) choices k s h = (omega arith, h)
  evaluate_light (expr.module_of p n) choices k s h = (omega arith, h)
  evaluate_light (expr.read p kind (expr.local_place q x)) choices k s h = read_light (content_at s.locals x) q _ k
      s (omega arith) h
  evaluate_light (expr.read p kind (expr.global_place q x)) choices k s h = load_light choices q kind
      (slot.Global x) _ k s (omega arith) h
  evaluate_light (expr.read p kind (expr.field_place q base tag field)) choices k s h = (omega arith, (tt, (tt, h)))
  evaluate_light (expr.read p kind expr.no_place) choices k s h = (omega arith, h)
  evaluate_light (expr.inner p v) choices k s h = (omega arith, (tt, h))
  evaluate_light (expr.signed p m kind v) choices k s h = let r = signing_light p m kind k h in
      (omega (arith, r.0), (tt, r.1))
  evaluate_light (expr.negated p v) choices k s h = (omega arith, (tt, (tt, h)))
  evaluate_light (expr.stepped p false m kind place) choices k s h =
      let r = stepping_light p m kind place k h in
      let q = before_light place (ToOld kind place ∷ step p m kind place k) (tt, r.1) in (omega (arith, r.0, q.0), q.1)
  evaluate_light (expr.stepped p true m kind place) choices k s h =
      let q = before_light place (ToOld kind place ∷ ToPostfix p m kind place ∷ k) (tt, (tt, h)) in
      (omega (arith, q.0), q.1)
  evaluate_light (expr.emptied p kind place) choices k s h =
      let q = before_light place (ToOld kind place ∷ ToEmpty kind place ∷ k) (tt, (tt, h)) in (omega (arith, q.0), q.1)
  evaluate_light (expr.computed p m kind a b) choices k s h = (omega arith, (tt, (tt, (tt, h))))
  evaluate_light (expr.compared p m a b) choices k s h = (omega arith, (tt, (tt, (tt, h))))
  evaluate_light (expr.joined_by p m a b) choices k s h = (omega arith, (tt, (tt, h)))
  evaluate_light (expr.stored p kind place v) choices k s h =
      let q = before_light place (ToEval v ∷ ToStore kind place ∷ k) (tt, (tt, h)) in (omega (arith, q.0), q.1)
  evaluate_light (expr.updated p m counted kind place v) choices k s h =
      let r = convert_light (is_same_kind (Some kind) (Some counted)) p kind (ToStore kind place ∷ k) (tt, h) in
      let q = before_light place (ToOld kind place ∷ ToEval v ∷ ToCompute p (op_of m) counted
      ∷ convert p kind counted (ToStore kind place ∷ k)) (tt, (tt, (tt, r.1))) in (omega (arith, r.0, q.0), q.1)
  evaluate_light (expr.chosen p c a b) choices k s h = (omega arith, (tt, (tt, h)))
  evaluate_light (expr.converted p kind v) choices k s h = (omega arith, (tt, (tt, h)))
  evaluate_light (expr.cast_of p v) choices k s h = (omega arith, (tt, h))
  evaluate_light (expr.dropped p v) choices k s h = (omega arith, (tt, h))
  evaluate_light (expr.called p f vs) choices k s h = (omega (arith, args_listed vs), (tt, h))
  evaluate_light (expr.called_row p n sig vs) choices k s h = (omega (arith, args_listed vs), (tt, h))
  evaluate_light (expr.called_unless_null p n sig vs) choices k s h = (omega (arith, args_listed vs), (tt, h))
  evaluate_light (expr.called_with_outputs p n sig vs steps) choices k s h = (omega (arith, args_listed vs), (tt, h))
  evaluate_light (expr.nonsense p) choices k s h = tt

  row_light : (choices : List Choice) (p : Pos) (sig : Signature) (i n : ℕ) (k : List Todo) (s : State)
      → weight k + 1 ≤ n → AreLight k → Leaves n (call_row choices p sig i k s)
  row_light choices p sig i n k s le h =
      react_light (call_effect s.world sig (newest i s.values) (unused choices s)) p n
      (after_call p sig (newest i s.values) (drop i s.values) k) s (λ e q. (le, h))

  call_light : (choices : List Choice) (p : Pos) (target : Target) (i n : ℕ) (k : List Todo) (s : State)
      → weight k + 1 ≤ n → AreLight k → Leaves n (call choices p target i k s)
  call_light choices p (Defined f) i n k s le h = (le, h)
  call_light choices p (Row sig) i n k s le h = row_light choices p sig i n k s le h
  call_light choices p (UnlessNull sig) i n k s le h =
      row_light choices p (unless_null sig (newest i s.values)) i n k s le h
  call_light choices p (WithOutputs sig steps) i n k s le h =
      row_light choices p sig i n (ToOutputs p steps ∷ k) s (omega (arith, le)) (tt, h)

  -- what comes after a call that writes variables
  ended_light : (b gives : Bool) (p : Pos) (steps : List OutputStep) (os : List Operation) (n : ℕ) (k : List Todo)
      (s : State) → weight k + 1 ≤ n → AreLight k → Leaves n (end_output b gives p steps os k s)
  ended_light true gives p steps os n k s le h = (le, h)
  ended_light false gives p steps os n k s le h = (omega (arith, le), (tt, h))

  pub output_light : (steps : List OutputStep) (choices : List Choice) (p : Pos) (n : ℕ) (k : List Todo) (s : State)
      → weight k + 1 ≤ n → AreLight k → Leaves n (next_output choices p steps k s)
  output_light [] choices p n k s le h = (le, h)
  output_light (Ends i gives ∷ steps) choices p n k s le h =
      ended_light (holds cmps.Equal (top s.values) (value.Int i)) gives p steps _ n k s le h
  output_light (Writes x a ∷ steps) choices p n k s le h =
      react_light (call_effect s.world (output_signature a) [] (unused choices s)) p n (after_output p x a steps k) s
      (λ e q. (omega (arith, le), (tt, h)))

  pub arg_light : (o : Option expr.Value) (choices : List Choice) (p : Pos) (target : Target)
      (args : List expr.Value) (i : ℕ)
      (k : List Todo) (s : State) → IsNext args i o (drop i args) → AreLight k
      → Leaves (args_weight (drop i args) + weight k) (next_arg choices p target args i o k s)
  arg_light None choices p target args i k s e h =
      let d : args_weight (drop i args) ≡ 1 = ap args_weight e in call_light choices p target (length args) _ k s
      (omega (arith, d)) h
  arg_light (Some v) choices p target args i k s e h =
      let n : suc i ≡ i + 1 = omega arith in
      let d : args_weight (drop i args) ≡ expr_weight v + 1 + args_weight (drop (i + 1) args) = ap args_weight e
      ∙ ap (λ j. expr_weight v + 1 + args_weight (drop j args)) n in
      (omega (arith, d), (tt, (tt, h)))
