-- The code does the operators of a function: arithmetic, conversions, comparisons, truth and choices.
use Rattle.std.proofs.Common.{◌≡◌, ℕ, suc, ◌+◌, ℤ, pos, List, [], ◌∷◌, length, Option, Some, None, refl, sym, ◌∙◌}
use Rattle.std.proofs.Common.{subst, arith, inl, inr, Bool, true, false, not, if◌then◌else◌}
use Rattle.pungi_base.specs.declared.pos.Pos.{Pos}
use Rattle.pungi_base.specs.declared.value.Value.{Value}
use Rattle.pungi_base.specs.declared.value.Value.TheVariants as value
use Rattle.pungi_types.specs.declared.kind.ValueKind.{ValueKind}
use Rattle.pungi_resolved.specs.Values as expr
use Rattle.pungi_world.specs.declared.content.Content.{Content}
use Rattle.pungi_world.specs.declared.content.Content.TheVariants.{Holds}
use Rattle.pungi_world.specs.declared.world.World.{World}
use Rattle.pungi_meaning.specs.declared.op.Op.{Op}
use Rattle.pungi_meaning.specs.declared.op.Op.TheVariants as ops
use Rattle.pungi_meaning.specs.declared.cmp.Cmp.{Cmp}
use Rattle.pungi_meaning.specs.Values.{fits, is_true, truth, arithmetic, holds, number_of}
use Rattle.pungi_meaning.specs.Todo.{Computed, Fitted, Compared, Todo, ToEval, ToStep, ToMinus, ToCompute}
use Rattle.pungi_meaning.specs.Todo.{ToFit, ToCompare, ToNot, ToRight, ToTruth, ToPick, State, Stops}
use Rattle.pungi_meaning.specs.Todo.{ToYield}
use Rattle.pungi_meaning.specs.Exprs.{after_arithmetic, is_wanted}
use Rattle.pungi_meaning.specs.Run.{end_at_once, with_operations, Stopped, act}
use Rattle.pungi_meaning.specs.Work.{replace_two, replace_value, pop_value, below}
use Rattle.pungi_code.specs.declared.atom.Atom.TheVariants as atom
use Rattle.pungi_code.specs.declared.code.Line.{Line}
use Rattle.pungi_code.specs.declared.instr.Instr.TheVariants.{Set}
use Rattle.pungi_code.specs.Registers.{Regs, put, content_of}
use Rattle.pungi_code.specs.Run.{Around, exec_in}
use Rattle.pungi_layout.specs.code.Parts.{gives}
use Rattle.pungi_layout.specs.code.Sizes.{expr_size}
use Rattle.pungi_layout.specs.code.ExprCode.{to_var, var, bit, branch_on}
use Rattle.pungi_layout.specs.code.Scopes.{Env}
use Rattle.pungi_layout.proofs.relation.Waiting.{Waiting, w, pushed_if}
use Rattle.pungi_layout.proofs.relation.Waiting.{hidden}
use Rattle.pungi_layout.proofs.relation.Relation.{Does, IsTemp, ExprAt}
use Rattle.pungi_layout.proofs.relation.Remaining.{ItemAt, IsAt, at_once, over}
use Rattle.pungi_layout.proofs.relation.Values.{Match, pushed, popped}
use Rattle.pungi_layout.proofs.relation.Steps.{st, result_step, Continues, IsDone, set_step, branch_step}
use Rattle.pungi_layout.proofs.relation.Steps.{wanted_step, arith_step, compare_step, fit_step, still, one, two, moved}
use Rattle.pungi_layout.proofs.relation.Steps.{computed_by}

-- what a step makes of a result, for one value or for two
for_two_is : (r : Option ℤ) (p : Pos) (o : Op) (kind : ValueKind) (a b : Value) (k : List Todo) (s : State)
    → result_step r (Computed p o kind a b) p k (record s { values = below (below s.values) })
    ≡ after_arithmetic p o kind a b r replace_two k s
for_two_is None p o kind a b k s = refl
for_two_is (Some n) p o kind a b k s = refl

replace_is : (r : Option ℤ) (p : Pos) (o : Op) (kind : ValueKind) (a b : Value) (k : List Todo) (s : State)
    → result_step r (Computed p o kind a b) p k (record s { values = below s.values })
    ≡ after_arithmetic p o kind a b r replace_value k s
replace_is None p o kind a b k s = refl
replace_is (Some n) p o kind a b k s = refl

pub bit_is : (on : Bool) (vars : List Content) → content_of (bit on) vars ≡ Holds (truth on)
bit_is true vars = refl
bit_is false vars = refl

module _ (around : Around) (code : List Line) (nl room : ℕ) where
  pub compute_sim : (p : Pos) (o : Op) (kind : ValueKind) (k : List Todo) (x : World) (u : List Pos)
      (l : List Content) (vs : List Value) (env : Env) (pc : ℕ) (ks : List Waiting) (m : Regs)
      → ItemAt code nl room env (ToCompute p o kind ∷ k) pc ks → Match code nl room ks (st x u l vs) m
      → IsDone around code nl room (act around.choices (ToCompute p o kind ∷ k) (st x u l vs)) 0 pc m
  compute_sim p o kind k x u l vs env pc [] m h ma = absurd h.1
  compute_sim p o kind k x u l vs env pc (hidden a z ∷ ks) m h ma = absurd h.1
  compute_sim p o kind k x u l vs env pc (w a ∷ []) m h ma = absurd h.1
  compute_sim p o kind k x u l vs env pc (w a ∷ hidden b z ∷ ks) m h ma = absurd h.1
  compute_sim p o kind k x u l [] env pc (w a ∷ w b ∷ ks) m h ma = absurd ma.stack
  compute_sim p o kind k x u l (y ∷ []) env pc (w a ∷ w b ∷ ks) m h ma = absurd ma.stack.2
  compute_sim p o kind k x u l (y ∷ z ∷ vs) env pc (w a ∷ w b ∷ ks) m h ma =
      let r = arithmetic o kind (number_of z) (number_of y) in
      subst (λ g. IsDone around code nl room g 0 pc m) (for_two_is r p o kind z y k
      (st x u l (y ∷ z ∷ vs)))
      (computed_by around code nl room r (Computed p o kind z y) p h.0 k (st x u l vs) m pc
      env (w h.0 ∷ ks)
      (arith_step around code nl room pc p h.0 kind o (var b) (var a) m z y h.3 ma.stack.2.0 ma.stack.0)
      h.4
      (λ n. pushed code nl room (w a ∷ w b ∷ ks) (st x u l (y ∷ z ∷ vs)) m vs ks h.0 (value.Int n) h.2 ma ma.stack.2.2))

  pub step_sim : (p : Pos) (o : Op) (kind : ValueKind) (k : List Todo) (x : World) (u : List Pos) (l : List Content)
      (vs : List Value) (env : Env) (pc : ℕ) (ks : List Waiting) (m : Regs)
      → ItemAt code nl room env (ToStep p o kind ∷ k) pc ks → Match code nl room ks (st x u l vs) m
      → IsDone around code nl room (act around.choices (ToStep p o kind ∷ k) (st x u l vs)) 0 pc m
  step_sim p o kind k x u l vs env pc [] m h ma = absurd h.1
  step_sim p o kind k x u l vs env pc (hidden a z ∷ ks) m h ma = absurd h.1
  step_sim p o kind k x u l [] env pc (w a ∷ ks) m h ma = absurd ma.stack
  step_sim p o kind k x u l (y ∷ vs) env pc (w a ∷ ks) m h ma =
      let r = arithmetic o kind (number_of y) (pos 1) in
      subst (λ g. IsDone around code nl room g 0 pc m) (replace_is r p o kind y (value.Int (pos 1)) k
      (st x u l (y ∷ vs)))
      (computed_by around code nl room r (Computed p o kind y (value.Int (pos 1))) p h.0 k (st x u l vs) m pc env
      (w h.0 ∷ ks)
      (arith_step around code nl room pc p h.0 kind o (var a) (atom.Int (pos 1)) m y (value.Int (pos 1)) h.3
      ma.stack.0 refl)
      h.4
      (λ n. pushed code nl room (w a ∷ ks) (st x u l (y ∷ vs)) m vs ks h.0 (value.Int n) h.2 ma ma.stack.2))

  pub minus_sim : (p : Pos) (kind : ValueKind) (k : List Todo) (x : World) (u : List Pos) (l : List Content)
      (vs : List Value) (env : Env) (pc : ℕ) (ks : List Waiting) (m : Regs)
      → ItemAt code nl room env (ToMinus p kind ∷ k) pc ks → Match code nl room ks (st x u l vs) m
      → IsDone around code nl room (act around.choices (ToMinus p kind ∷ k) (st x u l vs)) 0 pc m
  minus_sim p kind k x u l vs env pc [] m h ma = absurd h.1
  minus_sim p kind k x u l vs env pc (hidden a z ∷ ks) m h ma = absurd h.1
  minus_sim p kind k x u l [] env pc (w a ∷ ks) m h ma = absurd ma.stack
  minus_sim p kind k x u l (y ∷ vs) env pc (w a ∷ ks) m h ma =
      let r = arithmetic ops.Sub kind (pos 0) (number_of y) in
      subst (λ g. IsDone around code nl room g 0 pc m) (replace_is r p ops.Sub kind (value.Int (pos 0)) y k
      (st x u l (y ∷ vs)))
      (computed_by around code nl room r (Computed p ops.Sub kind (value.Int (pos 0)) y) p h.0 k (st x u l vs) m pc
      env (w h.0 ∷ ks)
      (arith_step around code nl room pc p h.0 kind ops.Sub (atom.Int (pos 0)) (var a) m (value.Int (pos 0)) y
      h.3 refl ma.stack.0)
      h.4
      (λ n. pushed code nl room (w a ∷ ks) (st x u l (y ∷ vs)) m vs ks h.0 (value.Int n) h.2 ma ma.stack.2))

  fit_by : (b : Bool) (p : Pos) (kind : ValueKind) (v : Value) (t : ℕ) (k : List Todo) (s : State) (vs : List Value)
      (m : Regs) (pc : ℕ) (env : Env) (ks : List Waiting) → vs ≡ below s.values
      → ((j : ℕ) → exec_in around code (suc j) pc m ≡ (if b then with_operations (Fitted p kind v ∷ [])
      (exec_in around code j (pc + 1) (put (to_var t) (Holds (value.Int (number_of v))) m)) else
      end_at_once (Stopped p)))
      → IsAt code nl room env k (pc + 1) ks → Match code nl room ks (record s
      { values = value.Int (number_of v) ∷ below s.values }) (put (to_var t) (Holds (value.Int (number_of v))) m)
      → IsDone around code nl room (if b then replace_value (Fitted p kind v ∷ []) (value.Int (number_of v)) k s else
      Stops p) 0 pc m
  fit_by true p kind v t k s vs m pc env ks q e h ma =
      one around code nl room (Fitted p kind v ∷ []) k (record s { values = value.Int (number_of v) ∷ below s.values })
      0 pc m (pc + 1) (put (to_var t) (Holds (value.Int (number_of v))) m) env ks (omega arith) e h ma
  fit_by false p kind v t k s vs m pc env ks q e h ma = (1, e 0)

  pub fit_sim : (p : Pos) (kind : ValueKind) (k : List Todo) (x : World) (u : List Pos) (l : List Content)
      (vs : List Value) (env : Env) (pc : ℕ) (ks : List Waiting) (m : Regs)
      → ItemAt code nl room env (ToFit p kind ∷ k) pc ks → Match code nl room ks (st x u l vs) m
      → IsDone around code nl room (act around.choices (ToFit p kind ∷ k) (st x u l vs)) 0 pc m
  fit_sim p kind k x u l vs env pc [] m h ma = absurd h.1
  fit_sim p kind k x u l vs env pc (hidden a z ∷ ks) m h ma = absurd h.1
  fit_sim p kind k x u l [] env pc (w a ∷ ks) m h ma = absurd ma.stack
  fit_sim p kind k x u l (y ∷ vs) env pc (w a ∷ ks) m h ma =
      fit_by (fits kind (number_of y)) p kind y h.0 k (st x u l (y ∷ vs)) vs m pc env (w h.0 ∷ ks) refl
      (fit_step around code nl room pc p h.0 kind (var a) m y h.3 ma.stack.0)
      h.4
      (pushed code nl room (w a ∷ ks) (st x u l (y ∷ vs)) m vs ks h.0 (value.Int (number_of y)) h.2 ma ma.stack.2)

  pub compare_sim : (p : Pos) (c : Cmp) (k : List Todo) (x : World) (u : List Pos) (l : List Content)
      (vs : List Value) (env : Env) (pc : ℕ) (ks : List Waiting) (m : Regs)
      → ItemAt code nl room env (ToCompare p c ∷ k) pc ks → Match code nl room ks (st x u l vs) m
      → IsDone around code nl room (act around.choices (ToCompare p c ∷ k) (st x u l vs)) 0 pc m
  compare_sim p c k x u l vs env pc [] m h ma = absurd h.1
  compare_sim p c k x u l vs env pc (hidden a z ∷ ks) m h ma = absurd h.1
  compare_sim p c k x u l vs env pc (w a ∷ []) m h ma = absurd h.1
  compare_sim p c k x u l vs env pc (w a ∷ hidden b z ∷ ks) m h ma = absurd h.1
  compare_sim p c k x u l [] env pc (w a ∷ w b ∷ ks) m h ma = absurd ma.stack
  compare_sim p c k x u l (y ∷ []) env pc (w a ∷ w b ∷ ks) m h ma = absurd ma.stack.2
  compare_sim p c k x u l (y ∷ z ∷ vs) env pc (w a ∷ w b ∷ ks) m h ma =
      one around code nl room (Compared p c z y ∷ []) k (st x u l (truth (holds c z y) ∷ vs)) 0 pc m (pc + 1)
      (put (to_var h.0) (Holds (truth (holds c z y))) m) env (w h.0 ∷ ks) (omega arith)
      (compare_step around code nl room pc p h.0 c (var b) (var a) m z y h.3 ma.stack.2.0 ma.stack.0)
      h.4
      (pushed code nl room (w a ∷ w b ∷ ks) (st x u l (y ∷ z ∷ vs)) m vs ks h.0 (truth (holds c z y))
      h.2 ma ma.stack.2.2)

  -- ---- truth

  -- the other truth is set over the one that stands there
  set_truth : (pc : ℕ) (t : ℕ) (c : Bool) (m : Regs) → Does code nl room pc (Set (to_var t) (bit c)) → (j : ℕ)
      → exec_in around code (suc j) pc m ≡ exec_in around code j (pc + 1) (put (to_var t) (Holds (truth c)) m)
  set_truth pc t c m d j = set_step around code nl room pc t (bit c) m (truth c) d (bit_is c m.vars) j

  -- what stands below a value that goes becomes the value
  shown : (x : World) (u : List Pos) (l : List Content) (y z v : Value) (vs : List Value) (a b : ℕ)
      (ks : List Waiting) (m : Regs) → z ≡ v → Match code nl room (w a ∷ hidden b z ∷ ks) (st x u l (y ∷ vs)) m
      → Match code nl room (w b ∷ ks) (st x u l (v ∷ vs)) m
  shown x u l y z v vs a b ks m e ma =
      subst (λ q. Match code nl room (w b ∷ ks) (st x u l (q ∷ vs)) m) e
      (popped code nl room (w a ∷ hidden b z ∷ ks) (st x u l (y ∷ vs)) m (z ∷ vs) (w b ∷ ks) ma ma.stack.2)

  -- .. or a truth is written there
  written : (c : Bool) (x : World) (u : List Pos) (l : List Content) (y z : Value) (vs : List Value) (a b : ℕ)
      (ks : List Waiting) (m : Regs) → Match code nl room (w a ∷ hidden b z ∷ ks) (st x u l (y ∷ vs)) m
      → Match code nl room (w b ∷ ks) (st x u l (truth c ∷ vs)) (put (to_var b) (Holds (truth c)) m)
  written c x u l y z vs a b ks m ma =
      pushed code nl room (w a ∷ hidden b z ∷ ks) (st x u l (y ∷ vs)) m vs ks b (truth c) ma.stack.2.1 ma ma.stack.2.2

  set_other_truth : (c : Bool) (k : List Todo) (x : World) (u : List Pos) (l : List Content) (y z : Value)
      (vs : List Value) (env : Env) (pc a b : ℕ) (ks : List Waiting) (m : Regs)
      → ((j : ℕ) → exec_in around code (suc j) pc m ≡ exec_in around code j (pc + 1) m)
      → Does code nl room (pc + 1) (Set (to_var b) (bit c)) → IsAt code nl room env k (pc + 2) (w b ∷ ks)
      → Match code nl room (w a ∷ hidden b z ∷ ks) (st x u l (y ∷ vs)) m
      → Continues around code nl room [] k (st x u l (truth c ∷ vs)) 0 pc m
  set_other_truth c k x u l y z vs env pc a b ks m e d h ma =
      let q : pc + 1 + 1 ≡ pc + 2 = omega arith in
      two around code nl room [] k (st x u l (truth c ∷ vs)) pc m (pc + 1 + 1) (put (to_var b) (Holds (truth c)) m) env
      (w b ∷ ks) (λ j. e (suc j) ∙ set_truth (pc + 1) b c m d j)
      (moved around code nl room env k (pc + 2) (pc + 1 + 1) (w b ∷ ks) (sym q) h)
      (written c x u l y z vs a b ks m ma)

  truth_by : (on c : Bool) (k : List Todo) (x : World) (u : List Pos) (l : List Content) (y z : Value)
      (vs : List Value) (env : Env) (pc a b : ℕ) (ks : List Waiting) (m : Regs) → z ≡ truth (not on)
      → ((j : ℕ) → exec_in around code (suc j) pc m ≡ exec_in around code j
      (if is_wanted on c then pc + 1 else pc + 2) m)
      → Does code nl room (pc + 1) (Set (to_var b) (bit on)) → IsAt code nl room env k (pc + 2) (w b ∷ ks)
      → Match code nl room (w a ∷ hidden b z ∷ ks) (st x u l (y ∷ vs)) m
      → Continues around code nl room [] k (st x u l (truth c ∷ vs)) 0 pc m
  truth_by true true k x u l y z vs env pc a b ks m is e d h ma =
      set_other_truth true k x u l y z vs env pc a b ks m e d h ma
  truth_by true false k x u l y z vs env pc a b ks m is e d h ma =
      one around code nl room [] k (st x u l (truth false ∷ vs)) 0 pc m (pc + 2) m env (w b ∷ ks) (omega arith)
      e h (shown x u l y z (truth false) vs a b ks m is ma)
  truth_by false true k x u l y z vs env pc a b ks m is e d h ma =
      one around code nl room [] k (st x u l (truth true ∷ vs)) 0 pc m (pc + 2) m env (w b ∷ ks) (omega arith)
      e h (shown x u l y z (truth true) vs a b ks m is ma)
  truth_by false false k x u l y z vs env pc a b ks m is e d h ma =
      set_other_truth false k x u l y z vs env pc a b ks m e d h ma

  pub truth_sim : (k : List Todo) (x : World) (u : List Pos) (l : List Content) (vs : List Value) (env : Env)
      (pc : ℕ) (ks : List Waiting) (m : Regs) → ItemAt code nl room env (ToTruth ∷ k) pc ks
      → Match code nl room ks (st x u l vs) m → IsDone around code nl room (act around.choices (ToTruth ∷ k)
      (st x u l vs))
      0 pc m
  truth_sim k x u l vs env pc [] m h ma = absurd h.1
  truth_sim k x u l vs env pc (hidden a z ∷ ks) m h ma = absurd h.1
  truth_sim k x u l vs env pc (w a ∷ []) m h ma = absurd h.1
  truth_sim k x u l vs env pc (w a ∷ w b ∷ ks) m h ma = absurd h.1
  truth_sim k x u l [] env pc (w a ∷ hidden b z ∷ ks) m h ma = absurd ma.stack
  truth_sim k x u l (y ∷ vs) env pc (w a ∷ hidden b z ∷ ks) m h ma =
      truth_by h.0 (is_true y) k x u l y z vs env pc a b ks m h.1
      (wanted_step around code nl room h.0 pc a (pc + 1) (pc + 2) m y h.2.0 ma.stack.0) h.2.1 h.3 ma

  not_by : (c : Bool) (k : List Todo) (x : World) (u : List Pos) (l : List Content) (y z : Value) (vs : List Value)
      (env : Env) (pc a b : ℕ) (ks : List Waiting) (m : Regs) → z ≡ truth true
      → ((j : ℕ) → exec_in around code (suc j) pc m ≡ exec_in around code j (if c then pc + 1 else pc + 2) m)
      → Does code nl room (pc + 1) (Set (to_var b) (bit false)) → IsAt code nl room env k (pc + 2) (w b ∷ ks)
      → Match code nl room (w a ∷ hidden b z ∷ ks) (st x u l (y ∷ vs)) m
      → Continues around code nl room [] k (st x u l (truth (not c) ∷ vs)) 0 pc m
  not_by true k x u l y z vs env pc a b ks m is e d h ma =
      set_other_truth false k x u l y z vs env pc a b ks m e d h ma
  not_by false k x u l y z vs env pc a b ks m is e d h ma =
      one around code nl room [] k (st x u l (truth true ∷ vs)) 0 pc m (pc + 2) m env (w b ∷ ks) (omega arith)
      e h (shown x u l y z (truth true) vs a b ks m is ma)

  pub not_sim : (k : List Todo) (x : World) (u : List Pos) (l : List Content) (vs : List Value) (env : Env) (pc : ℕ)
      (ks : List Waiting) (m : Regs) → ItemAt code nl room env (ToNot ∷ k) pc ks → Match code nl room ks (st x u l vs) m
      → IsDone around code nl room (act around.choices (ToNot ∷ k) (st x u l vs)) 0 pc m
  not_sim k x u l vs env pc [] m h ma = absurd h.0
  not_sim k x u l vs env pc (hidden a z ∷ ks) m h ma = absurd h.0
  not_sim k x u l vs env pc (w a ∷ []) m h ma = absurd h.0
  not_sim k x u l vs env pc (w a ∷ w b ∷ ks) m h ma = absurd h.0
  not_sim k x u l [] env pc (w a ∷ hidden b z ∷ ks) m h ma = absurd ma.stack
  not_sim k x u l (y ∷ vs) env pc (w a ∷ hidden b z ∷ ks) m h ma =
      not_by (is_true y) k x u l y z vs env pc a b ks m h.0
      (branch_step around code nl room pc a (pc + 1) (pc + 2) m y h.1 ma.stack.0) h.2 h.3 ma

  -- a value in place of the newest, where it stands below it
  pub yield_sim : (v : Value) (k : List Todo) (x : World) (u : List Pos) (l : List Content) (vs : List Value)
      (env : Env) (pc : ℕ) (ks : List Waiting) (m : Regs) → ItemAt code nl room env (ToYield v ∷ k) pc ks
      → Match code nl room ks (st x u l vs) m
      → IsDone around code nl room (act around.choices (ToYield v ∷ k) (st x u l vs)) 0 pc m
  yield_sim v k x u l vs env pc [] m h ma = absurd h.0
  yield_sim v k x u l vs env pc (hidden a z ∷ ks) m h ma = absurd h.0
  yield_sim v k x u l vs env pc (w a ∷ []) m h ma = absurd h.0
  yield_sim v k x u l vs env pc (w a ∷ w b ∷ ks) m h ma = absurd h.0
  yield_sim v k x u l [] env pc (w a ∷ hidden b z ∷ ks) m h ma = absurd ma.stack
  yield_sim v k x u l (y ∷ vs) env pc (w a ∷ hidden b z ∷ ks) m h ma =
      still around code nl room k (st x u l (v ∷ vs)) pc m env (w b ∷ ks) h.1 (shown x u l y z v vs a b ks m h.0 ma)

  -- an operand whose value is wanted
  eval_at : (v : expr.Value) (k : List Todo) (env : Env) (pc t : ℕ) (ks : List Waiting) → gives v ≡ true
      → IsTemp code nl room (length ks) t → ExprAt code nl room (length ks) t pc v
      → IsAt code nl room env k (pc + expr_size v) (w t ∷ ks) → IsAt code nl room env (ToEval v ∷ k) pc ks
  eval_at v k env pc t ks g at e h = at_once code nl room env (ToEval v ∷ k) pc ks (
    t,
    at,
    e,
    subst (λ b. IsAt code nl room env k (pc + expr_size v)
        (pushed_if b t ks)) (sym g) h,
  )

  right_by : (c on : Bool) (v : expr.Value) (k : List Todo) (x : World) (u : List Pos) (l : List Content)
      (y z : Value) (vs : List Value) (env : Env) (pc a b : ℕ) (ks : List Waiting) (m : Regs)
      → ItemAt code nl room env (ToRight on v ∷ k) pc (w a ∷ hidden b z ∷ ks)
      → ((end : ℕ) → Does code nl room pc (branch_on on a (pc + 1) end) → (j : ℕ)
      → exec_in around code (suc j) pc m ≡ exec_in around code j (if c then pc + 1 else end) m)
      → Match code nl room (w a ∷ hidden b z ∷ ks) (st x u l (y ∷ vs)) m
      → IsDone around code nl room (if c then pop_value (ToEval v ∷ ToTruth ∷ k) (st x u l (y ∷ vs)) else
      replace_value [] (truth (not on)) k (st x u l (y ∷ vs))) 0 pc m
  right_by true on v k x u l y z vs env pc a b ks m h e ma =
      let ls = hidden b z ∷ ks in
      one around code nl room [] (ToEval v ∷ ToTruth ∷ k) (st x u l vs) 0 pc m (pc + 1) m env ls
      (omega arith) (e h.1 h.3)
      (eval_at v (ToTruth ∷ k) env (pc + 1) h.0 ls h.4 h.5 h.6
      (at_once code nl room env (ToTruth ∷ k) (pc + 1 + expr_size v) (w h.0 ∷ ls) (
        on,
        h.2,
        h.7,
        moved around code nl room env k h.1 (pc + 1 + expr_size v + 2) (w b ∷ ks) (sym h.8) h.9,
      )))
      (popped code nl room (w a ∷ ls) (st x u l (y ∷ vs)) m vs ls ma ma.stack.2)
  right_by false on v k x u l y z vs env pc a b ks m h e ma =
      one around code nl room [] k (st x u l (truth (not on) ∷ vs)) 0 pc m h.1 m env (w b ∷ ks) (omega arith) (e h.1
      h.3)
      h.9 (shown x u l y z (truth (not on)) vs a b ks m h.2 ma)

  pub right_sim : (on : Bool) (v : expr.Value) (k : List Todo) (x : World) (u : List Pos) (l : List Content)
      (vs : List Value) (env : Env) (pc : ℕ) (ks : List Waiting) (m : Regs)
      → ItemAt code nl room env (ToRight on v ∷ k) pc ks → Match code nl room ks (st x u l vs) m
      → IsDone around code nl room (act around.choices (ToRight on v ∷ k) (st x u l vs)) 0 pc m
  right_sim on v k x u l vs env pc [] m h ma = absurd h.2
  right_sim on v k x u l vs env pc (hidden a z ∷ ks) m h ma = absurd h.2
  right_sim on v k x u l vs env pc (w a ∷ []) m h ma = absurd h.2
  right_sim on v k x u l vs env pc (w a ∷ w b ∷ ks) m h ma = absurd h.2
  right_sim on v k x u l [] env pc (w a ∷ hidden b z ∷ ks) m h ma = absurd ma.stack
  right_sim on v k x u l (y ∷ vs) env pc (w a ∷ hidden b z ∷ ks) m h ma =
      right_by (is_wanted on (is_true y)) on v k x u l y z vs env pc a b ks m h
      (λ end d j. wanted_step around code nl room on pc a (pc + 1) end m y d ma.stack.0 j) ma

  -- ---- one of two values

  pick_by : (c : Bool) (v v' : expr.Value) (k : List Todo) (x : World) (u : List Pos) (l : List Content) (y : Value)
      (vs : List Value) (env : Env) (pc : ℕ) (a : ℕ) (ks : List Waiting) (m : Regs)
      → ItemAt code nl room env (ToPick v v' ∷ k) pc (w a ∷ ks)
      → ((j : ℕ) → exec_in around code (suc j) pc m ≡ exec_in around code j (if c then pc + 1 else pc + 1 + expr_size v
      + 1) m) → Match code nl room ks (st x u l vs) m
      → Continues around code nl room [] (ToEval (if c then v else v') ∷ k) (st x u l vs) 0 pc m
  pick_by true v v' k x u l y vs env pc a ks m h e ma =
      one around code nl room [] (ToEval v ∷ k) (st x u l vs) 0 pc m (pc + 1) m env ks (omega arith) e
      (eval_at v k env (pc + 1) h.0 ks h.5 h.3 h.6
      (over code nl room env k (pc + 1 + expr_size v) h.1 (w h.0 ∷ ks) (inr h.7) h.11)) ma
  pick_by false v v' k x u l y vs env pc a ks m h e ma =
      one around code nl room [] (ToEval v' ∷ k) (st x u l vs) 0 pc m (pc + 1 + expr_size v + 1) m env ks
      (omega arith) e
      (eval_at v' k env (pc + 1 + expr_size v + 1) h.0 ks h.8 h.3 h.9
      (over code nl room env k (pc + 1 + expr_size v + 1 + expr_size v') h.1 (w h.0 ∷ ks) (inl h.10) h.11)) ma

  pub pick_sim : (v v' : expr.Value) (k : List Todo) (x : World) (u : List Pos) (l : List Content) (vs : List Value)
      (env : Env) (pc : ℕ) (ks : List Waiting) (m : Regs) → ItemAt code nl room env (ToPick v v' ∷ k) pc ks
      → Match code nl room ks (st x u l vs) m → IsDone around code nl room (act around.choices (ToPick v v' ∷ k)
      (st x u l vs)) 0 pc m
  pick_sim v v' k x u l vs env pc [] m h ma = absurd h.2
  pick_sim v v' k x u l vs env pc (hidden a z ∷ ks) m h ma = absurd h.2
  pick_sim v v' k x u l [] env pc (w a ∷ ks) m h ma = absurd ma.stack
  pick_sim v v' k x u l (y ∷ vs) env pc (w a ∷ ks) m h ma =
      pick_by (is_true y) v v' k x u l y vs env pc a ks m h
      (branch_step around code nl room pc a (pc + 1) (pc + 1 + expr_size v + 1) m y h.4 ma.stack.0)
      (popped code nl room (w a ∷ ks) (st x u l (y ∷ vs)) m vs ks ma ma.stack.2)
