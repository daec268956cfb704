-- The code does the calls of a function.
use Rattle.std.proofs.Common.{◌≡◌, ℕ, zero, suc, ◌+◌, ◌≤◌, List, [], ◌∷◌, ◌++◌, length, map, take, drop, replicate}
use Rattle.std.proofs.Common.{Option, Some, None, refl, sym, ap, ◌∙◌, subst, arith, Bool, true, false, not}
use Rattle.std.proofs.Common.{if◌then◌else◌}
use mathlib.Core.List.{reverse_aux}
use Rattle.std.specs.Prelude.{◌||◌, slice_get}
use Rattle.pungi_base.specs.declared.pos.Pos.{Pos}
use Rattle.pungi_base.specs.declared.value.Value.{Value}
use Rattle.pungi_api.specs.declared.param.Param.{Param}
use Rattle.pungi_api.specs.declared.param.Param.TheVariants as param
use Rattle.pungi_api.specs.declared.signature.Signature.{Signature}
use Rattle.pungi_api.specs.Signatures.{null_signature}
use Rattle.pungi_resolved.specs.Values as expr
use Rattle.pungi_world.specs.declared.content.Content.{Content}
use Rattle.pungi_world.specs.declared.content.Content.TheVariants.{Unset, Holds}
use Rattle.pungi_world.specs.declared.effect.Effect.{Effect}
use Rattle.pungi_world.specs.Calls.{call_effect}
use Rattle.pungi_meaning.specs.Values.{is_true}
use Rattle.pungi_meaning.specs.Todo.{Operation, Called, Todo, ToEval, ToArgs, ToOutputs, State, Target, Row, Defined}
use Rattle.pungi_meaning.specs.Todo.{UnlessNull, WithOutputs}
use Rattle.pungi_types.specs.Operators.{is_void}
use Rattle.pungi_meaning.specs.Exprs.{after_call, has_missing, call_row, call, next_arg}
use Rattle.pungi_meaning.specs.Run.{with_operations, act}
use Rattle.pungi_meaning.specs.Work.{newest, unused, with_result, content_at}
use Rattle.pungi_code.specs.declared.code.Line.{Line}
use Rattle.pungi_code.specs.declared.atom.Var.{Var}
use Rattle.pungi_code.specs.declared.instr.Instr.TheVariants.{Api, Jump}
use Rattle.pungi_code.specs.Registers.{Regs, put, both_values, all_values, with_values, after_effect, choices_left}
use Rattle.pungi_code.specs.Registers.{put_answer}
use Rattle.pungi_code.specs.Perform as does
use Rattle.pungi_code.specs.Run.{Around, exec_in}
use Rattle.pungi_code.proofs.Simulation.{ahead, After}
use Rattle.pungi_layout.specs.code.Parts.{has_call_value}
use Rattle.pungi_layout.specs.code.Sizes.{expr_size, args_size}
use Rattle.pungi_layout.specs.code.ExprCode.{to_var, var, at_label}
use Rattle.pungi_layout.specs.code.Scopes.{Env}
use Rattle.pungi_layout.proofs.relation.Waiting.{Waiting, w, vars_of, answer_var, target_gives, pushed_if}
use Rattle.pungi_layout.proofs.relation.Waiting.{hidden, HasMany}
use Rattle.pungi_layout.proofs.relation.Relation.{Stands, Does, IsTemp, RowAt, MissingAt, CallAt, ListArgsAt}
use Rattle.pungi_layout.proofs.relation.Remaining.{ItemAt, IsAt, at_once}
use Rattle.pungi_layout.proofs.relation.Values.{Stack, Match, pushed, popped, elsewhere, reacted}
use Rattle.pungi_layout.proofs.simulation.WorldAnswers.{IsAnswer, effect_value}
use Rattle.pungi_layout.proofs.relation.Steps.{At, ahead_sum, Continues, IsDone, first, jump_step, branch_step, still}
use Rattle.pungi_layout.proofs.relation.Steps.{react_by}

-- what a list goes on with at a place
abbrev pub IsNext : {A : Type 0} → List A → ℕ → Option A → List A → Type 0
IsNext xs i None rest = rest ≡ []
IsNext xs i (Some a) rest = rest ≡ a ∷ drop (suc i) xs

pub is_next : {A : Type 0} (xs : List A) (i : ℕ) → IsNext xs i (slice_get xs i) (drop i xs)
is_next [] zero = refl
is_next [] (suc i) = refl
is_next (x ∷ xs) zero = refl
is_next (x ∷ xs) (suc i) = is_later x xs i (slice_get xs i) (is_next xs i)
  where
    is_later : {A : Type 0} (x : A) (xs : List A) (i : ℕ) (o : Option A) → IsNext xs i o (drop i xs)
        → IsNext (x ∷ xs) (suc i) o (drop i xs)
    is_later x xs i None h = h
    is_later x xs i (Some a) h = h

-- a value and values that are there
both_are : (c : Content) (o : Option (List Value)) (all : List Value) → both_values c o ≡ Some all
    → (v : Value) × (vs : List Value) × (c ≡ Holds v) × (o ≡ Some vs) × (all ≡ v ∷ vs)
both_are Unset o all e = absurd (cc)
both_are (Holds v) None all e = absurd (cc)
both_are (Holds v) (Some vs) all e = (v, vs, refl, refl, cc)

pub all_dropped : {A : Type 0} (xs : List A) (i : ℕ) → i ≤ length xs → drop i xs ≡ [] → i ≡ length xs
all_dropped [] zero le e = refl
all_dropped [] (suc i) le e = absurd (omega (arith, le))
all_dropped (x ∷ xs) zero le e = absurd (cc)
all_dropped (x ∷ xs) (suc i) le e = ap suc (all_dropped xs i (omega (arith, le)) e)

module _ (around : Around) (code : List Line) (nl room : ℕ) where
  -- the values of the newest variables, before others
  values_before : (n : ℕ) (vars : List Content) (vs : List Value) (ks : List Waiting) (others : List ℕ)
      (known : List Value) → HasMany n ks → Stack code nl room vars vs ks
      → all_values (map var others) vars ≡ Some known
      → all_values (map var (reverse_aux (vars_of (take n ks)) others)) vars ≡ Some (reverse_aux (take n vs) known)
  values_before zero vars vs ks others known le sk e = e
  values_before (suc n) vars vs [] others known le sk e = absurd le
  values_before (suc n) vars vs (hidden t v ∷ ks) others known le sk e = absurd le
  values_before (suc n) vars [] (w t ∷ ks) others known le sk e = absurd sk
  values_before (suc n) vars (v ∷ vs) (w t ∷ ks) others known le sk e =
      values_before n vars vs ks (t ∷ others) (v ∷ known) le sk.2
      (ap (λ c. both_values c (all_values (map var others) vars)) sk.0 ∙ ap (λ o. both_values (Holds v) o) e)

  pub newest_values : (n : ℕ) (vars : List Content) (vs : List Value) (ks : List Waiting) → HasMany n ks
      → Stack code nl room vars vs ks → all_values (map var (reverse_aux (vars_of (take n ks)) [])) vars
      ≡ Some (newest n vs)
  newest_values n vars vs ks le sk = values_before n vars vs ks [] [] le sk refl

  -- the values below
  pub stack_drop : (n : ℕ) (vars : List Content) (vs : List Value) (ks : List Waiting) → HasMany n ks
      → Stack code nl room vars vs ks → Stack code nl room vars (drop n vs) (drop n ks)
  stack_drop zero vars vs ks le sk = sk
  stack_drop (suc n) vars vs [] le sk = absurd le
  stack_drop (suc n) vars vs (hidden t v ∷ ks) le sk = absurd le
  stack_drop (suc n) vars [] (w t ∷ ks) le sk = absurd sk
  stack_drop (suc n) vars (v ∷ vs) (w t ∷ ks) le sk = stack_drop n vars vs ks le sk.2

  answered_by : (g : Bool) (o : Option Value) → IsAnswer g o
      → (op : Operation) (t : ℕ) (k : List Todo) (s : State) (env : Env) (count pc to : ℕ) (ks ls : List Waiting)
      (vs : List Value) (m q : Regs) → ((j : ℕ)
      → exec_in around code (ahead count j) pc m ≡ with_operations (op
      ∷ []) (exec_in around code j to (put_answer (answer_var g t) o q))) → IsTemp code nl room (length ks) t
      → IsAt code nl room env k to (pushed_if g t ks) → Match code nl room ls s q
      → Stack code nl room q.vars vs ks → Continues around code nl room (op ∷ []) k
      (record s { values = with_result o vs }) 0 pc m
  answered_by true None has op t k s env count pc to ks ls vs m q e at is ma sk = absurd
      (let h : None ≡ Some has.0 = has.1 in cc)
  answered_by true (Some v) has op t k s env count pc to ks ls vs m q e at is ma sk = record {
    count = count;
    least = omega arith;
    place = to;
    regs = put (to_var t) (Holds v) q;
    by = e;
    stands = (env, w t ∷ ks, is, pushed code nl room ls s q vs ks t v at ma sk);
  }
  answered_by false (Some v) has op t k s env count pc to ks ls vs m q e at is ma sk = absurd (cc)
  answered_by false None has op t k s env count pc to ks ls vs m q e at is ma sk = record {
    count = count;
    least = omega arith;
    place = to;
    regs = q;
    by = e;
    stands = (env, ks, is, popped code nl room ls s q vs ks ma sk);
  }

  -- whatever a function of the file leaves, what remains stands after its call
  called_after : (b : Bool) (t : ℕ) (k : List Todo) (s : State) (vs : List Value) (env : Env) (pc : ℕ)
      (ks ls : List Waiting) (m : Regs) → IsTemp code nl room (length ks) t
      → IsAt code nl room env k (pc + 1) (pushed_if b t ks) → Match code nl room ls s m
      → Stack code nl room m.vars vs ks
      → After (At nl room) code k s.locals vs (pc + 1) m.vars b (answer_var b t)
  called_after true t k s vs env pc ks ls m at is ma sk = λ x u v. (
    env,
    w t ∷ ks,
    is,
    pushed code nl room ls (record s { world = x; used = u }) (record m { world = x; used = u }) vs ks t v at
        (elsewhere code nl room ls s m x u ma) sk,
  )
  called_after false t k s vs env pc ks ls m at is ma sk = λ x u. (
    env,
    ks,
    is,
    popped code nl room ls (record s { world = x; used = u }) (record m { world = x; used = u }) vs ks
        (elsewhere code nl room ls s m x u ma) sk,
  )

  -- ---- calls of the API

  pub api_step : (p : Pos) (sig : Signature) (into : Option Var) (ts : List ℕ) (vals : List Value) (s : State) (pc : ℕ)
      (m : Regs) → Stands code nl room pc p (Api into sig (map var ts)) → all_values (map var ts) m.vars ≡ Some vals
      → m.world ≡ s.world → m.used ≡ s.used → (j : ℕ) → exec_in around code (suc j) pc m
      ≡ after_effect p (call_effect s.world sig vals (unused around.choices s)) m (λ x q. with_operations
      (Called p sig vals x ∷ []) (exec_in around code j (pc + 1) (put_answer into x.value q)))
  api_step p sig into ts vals s pc m h e ew eu j =
      let go = λ (x : Effect) (q : Regs). with_operations (Called p sig vals x ∷ [])
      (exec_in around code j (pc + 1) (put_answer into x.value q)) in
      first around code nl room pc p (Api into sig (map var ts)) m h j
      ∙ ap (λ o. with_values o p (does.call around.choices into sig p (exec_in around code j) pc m)) e
      ∙ ap (λ x. after_effect p (call_effect x sig vals (choices_left around.choices m)) m go) ew
      ∙ ap (λ us. after_effect p (call_effect s.world sig vals (drop (length us) around.choices)) m go) eu

  -- one that the code goes to, and goes on from
  row_sim : (p : Pos) (sig : Signature) (n t : ℕ) (k : List Todo) (s : State) (env : Env) (before after pc here to : ℕ)
      (ks : List Waiting) (m : Regs) → HasMany n ks
      → ((j : ℕ) → exec_in around code (ahead before j) pc m ≡ exec_in around code j here m)
      → ((j : ℕ) (q : Regs) → exec_in around code (ahead after j) (here + 1) q ≡ exec_in around code j to q)
      → RowAt code nl room p sig t (reverse_aux (vars_of (take n ks)) []) here
      → IsTemp code nl room (length (drop n ks)) t
      → IsAt code nl room env k to (pushed_if (has_call_value sig.answer) t (drop n ks)) → Match code nl room ks s m
      → IsDone around code nl room (call_row around.choices p sig n k s) 0 pc m
  row_sim p sig n t k s env before after pc here to ks m le comes goes h at is ma =
      let g = has_call_value sig.answer in
      let ts = reverse_aux (vars_of (take n ks)) [] in
      let vals = newest n s.values in
      let count = before + suc after in
      react_by around code nl room count 0 (call_effect s.world sig vals (unused around.choices s)) p s m pc
      (after_call p sig vals (drop n s.values) k) (λ j x q. with_operations (Called p sig vals x ∷ [])
      (exec_in around code (ahead after j) (here + 1) (put_answer (answer_var g t) x.value q)))
      (λ j. ap (λ i. exec_in around code i pc m) (ahead_sum before (suc after) j)
      ∙ comes (suc (ahead after j))
      ∙ api_step p sig (answer_var g t) ts vals s here m h (newest_values n m.vars s.values ks le ma.stack) ma.world
      ma.used (ahead after j))
      (λ x is' step.
      let q = record m { world = x.1; used = m.used ++ replicate x.0.used p } in
      answered_by g x.0.value (effect_value s.world sig vals (unused around.choices s) x is')
      (Called p sig vals x.0) t k (record s { world = x.1; used = s.used ++ replicate x.0.used p }) env count pc to
      (drop n ks) ks (drop n s.values) m q
      (λ j. step j
      ∙ ap (with_operations (Called p sig vals x.0 ∷ [])) (goes j (put_answer (answer_var g t) x.0.value q)))
      at is (reacted code nl room ks s m x.1 x.0.used p ma) (stack_drop n m.vars s.values ks le ma.stack))

  -- where an argument is missing, the branches lead to the other call
  missing_by : (b has : Bool) (pc go other : ℕ) (m : Regs)
      → ((j : ℕ) → exec_in around code (suc j) pc m ≡ exec_in around code j (if b then pc + 1 else other) m)
      → (c : ℕ) × ((j : ℕ) → exec_in around code (ahead c j) (pc + 1) m
      ≡ exec_in around code j (if has then other else go) m)
      → (c : ℕ) × ((j : ℕ) → exec_in around code (ahead c j) pc m
      ≡ exec_in around code j (if not b || has then other else go) m)
  missing_by true has pc go other m e r = (suc r.0, λ j. e (ahead r.0 j) ∙ r.1 j)
  missing_by false has pc go other m e r = (1, e)

  missing_sim : (ps : List Param) (ts : List ℕ) (vals : List Value) (pc go other : ℕ) (m : Regs)
      → MissingAt code nl room ps ts pc go other → all_values (map var ts) m.vars ≡ Some vals
      → (c : ℕ) × ((j : ℕ) → exec_in around code (ahead c j) pc m
      ≡ exec_in around code j (if has_missing ps vals then other else go) m)
  missing_sim [] ts vals pc go other m h e = (0, λ j. ap (λ i. exec_in around code j i m) h)
  missing_sim (q ∷ ps) [] [] pc go other m h e = (0, λ j. ap (λ i. exec_in around code j i m) h)
  missing_sim (q ∷ ps) [] (v ∷ vals) pc go other m h e = absurd (cc)
  missing_sim (param.ObjectOrNull ∷ ps) (t ∷ ts) vals pc go other m h e =
      let b = both_are (content_at m.vars t) (all_values (map var ts) m.vars) vals e in
      subst (λ l. (c : ℕ) × ((j : ℕ) → exec_in around code (ahead c j) pc m
      ≡ exec_in around code j (if has_missing (param.ObjectOrNull ∷ ps) l then other else go) m)) (sym b.4)
      (missing_by (is_true b.0) (has_missing ps b.1) pc go other m
      (branch_step around code nl room pc t (pc + 1) other m b.0 h.0 b.2)
      (missing_sim ps ts b.1 (pc + 1) go other m h.1 b.3))
  missing_sim (q ∷ ps) (t ∷ ts) vals pc go other m h e =
      let b = both_are (content_at m.vars t) (all_values (map var ts) m.vars) vals e in
      subst (λ l. (c : ℕ) × ((j : ℕ) → exec_in around code (ahead c j) pc m
      ≡ exec_in around code j (if has_missing (q ∷ ps) l then other else go) m)) (sym b.4)
      (missing_sim ps ts b.1 pc go other m h b.3)

  unless_by : (b : Bool) (p : Pos) (g : Signature) (n t : ℕ) (k : List Todo) (s : State) (env : Env)
      (before pc go end : ℕ) (ks : List Waiting) (m : Regs) → HasMany n ks
      → ((j : ℕ) → exec_in around code (ahead before j) pc m ≡ exec_in around code j (if b then go + 2 else go) m)
      → has_call_value g.answer ≡ true → RowAt code nl room p g t (reverse_aux (vars_of (take n ks)) []) go
      → Does code nl room (go + 1) (Jump (at_label end))
      → RowAt code nl room p (null_signature g) t (reverse_aux (vars_of (take n ks)) []) (go + 2) → go + 3 ≡ end
      → IsTemp code nl room (length (drop n ks)) t
      → IsAt code nl room env k end (pushed_if (has_call_value g.answer) t (drop n ks)) → Match code nl room ks s m
      → IsDone around code nl room (call_row around.choices p (if b then null_signature g else g) n k s) 0 pc m
  unless_by true p g n t k s env before pc go end ks m le comes has row jump null e at is ma =
      let e' : end ≡ go + 2 + 1 = omega (arith, e) in
      row_sim p (null_signature g) n t k s env before 0 pc (go + 2) (go + 2 + 1) ks m le comes (λ j q. refl) null at
      (subst (λ x. IsAt code nl room env k x (pushed_if true t (drop n ks))) e'
      (subst (λ b. IsAt code nl room env k end (pushed_if b t (drop n ks))) has is)) ma
  unless_by false p g n t k s env before pc go end ks m le comes has row jump null e at is ma =
      row_sim p g n t k s env before 1 pc go end ks m le comes
      (λ j q. jump_step around code nl room (go + 1) end q jump j) row at is ma

  -- a call with its arguments
  call_sim : (p : Pos) (target : Target) (n t : ℕ) (k : List Todo) (s : State) (env : Env) (pc end : ℕ)
      (ks : List Waiting) (m : Regs) → HasMany n ks
      → CallAt code nl room p target (length (drop n ks)) t (reverse_aux (vars_of (take n ks)) []) pc end
      → IsTemp code nl room (length (drop n ks)) t
      → IsAt code nl room env k end (pushed_if (target_gives target) t (drop n ks))
      → Match code nl room ks s m
      → IsDone around code nl room (call around.choices p target n k s) 0 pc m
  call_sim p (Defined f) n t k s env pc end ks m le h at is ma =
      let b = not (is_void f.result) in
      let is' = subst (λ x. IsAt code nl room env k x (pushed_if b t (drop n ks))) (sym h.1) is in (
        refl,
        record {
          into = answer_var b t;
          atoms = map var (reverse_aux (vars_of (take n ks)) []);
          line = h.0;
          values = newest_values n m.vars s.values ks le ma.stack;
          world = ma.world;
          used = ma.used;
          after = called_after b t k s (drop n s.values) env pc (drop n ks) ks m at is' ma
              (stack_drop n m.vars s.values ks le ma.stack);
        },
      )
  call_sim p (Row g) n t k s env pc end ks m le h at is ma =
      row_sim p g n t k s env 0 0 pc pc end ks m le (λ j. refl) (λ j q. ap (λ x. exec_in around code j x q) h.1) h.0 at
      is ma
  call_sim p (UnlessNull g) n t k s env pc end ks m le h at is ma =
      let ts = reverse_aux (vars_of (take n ks)) [] in
      let vals = newest n s.values in
      let z = missing_sim g.params ts vals pc h.0 (h.0 + 2) m h.2 (newest_values n m.vars s.values ks le ma.stack) in
      unless_by (has_missing g.params vals) p g n t k s env z.0 pc h.0 end ks m le z.1 h.1 h.3 h.4 h.5 h.6 at is ma
  call_sim p (WithOutputs g steps) n t k s env pc end ks m le h at is ma =
      let next = subst (λ b. IsAt code nl room env (ToOutputs p steps ∷ k) (pc + 1) (pushed_if b h.0 (drop n ks)))
      (sym h.1)
      (at_once code nl room env (ToOutputs p steps ∷ k) (pc + 1) (w h.0 ∷ drop n ks) (t, end, tt, at, h.4, is))
      in
      row_sim p g n h.0 (ToOutputs p steps ∷ k) s env 0 0 pc pc (pc + 1) ks m le (λ j. refl) (λ j q. refl) h.3 h.2 next
      ma

  -- the next argument stands in its variable
  next_by : (o : Option expr.Value) (p : Pos) (target : Target) (args : List expr.Value) (i : ℕ)
      (others : List expr.Value) (k : List Todo) (s : State) (env : Env) (pc end : ℕ) (ks : List Waiting) (m : Regs)
      (ts : List ℕ) (t : ℕ) → IsNext args i o others → drop i args ≡ others → i ≤ length args → HasMany i ks
      → ListArgsAt code nl room (length ks) ts pc others → IsTemp code nl room (length (drop i ks)) t
      → CallAt code nl room p target (length (drop i ks)) t (reverse_aux (vars_of (take i ks)) ts)
      (pc + args_size others) end → IsAt code nl room env k end (pushed_if (target_gives target) t (drop i ks))
      → Match code nl room ks s m → IsDone around code nl room (next_arg around.choices p target args i o k s) 0 pc m
  next_by None p target args i others k s env pc end ks m ts t ne same le le' at tmp h is ma =
      let d = length (drop i ks) in
      let e0 : i ≡ length args = all_dropped args i le (same ∙ ne) in
      let at' : ts ≡ [] = subst (λ xs. ListArgsAt code nl room (length ks) ts pc xs) ne at in
      let size : args_size others ≡ 0 = ap args_size ne in
      let q : pc + args_size others ≡ pc = omega (arith, size) in
      let h' = subst (λ us. CallAt code nl room p target d t (reverse_aux (vars_of (take i ks)) us) pc end) at'
      (subst (λ x. CallAt code nl room p target d t (reverse_aux (vars_of (take i ks)) ts) x end) q h) in
      subst (λ n. IsDone around code nl room (call around.choices p target n k s) 0 pc m) e0
      (call_sim p target i t k s env pc end ks m le' h' tmp is ma)
  next_by (Some v) p target args i others k s env pc end ks m [] t ne same le le' at tmp h is ma =
      absurd (subst (λ xs. ListArgsAt code nl room (length ks) [] pc xs) ne at)
  next_by (Some v) p target args i others k s env pc end ks m (t0 ∷ ts) t ne same le le' at tmp h is ma =
      let at' = subst (λ xs. ListArgsAt code nl room (length ks) (t0 ∷ ts) pc xs) ne at in
      let rest' = drop (suc i) args in
      let size : args_size others ≡ expr_size v + args_size rest' = ap args_size ne in
      let q : pc + args_size others ≡ pc + expr_size v + args_size rest' = omega (arith, size) in
      let ei : suc i ≡ i + 1 = omega arith in
      let le2 : suc i ≤ length args = next_within args i v (same ∙ ne) in
      let h' = subst (λ x. CallAt code nl room p target (length (drop i ks)) t
      (reverse_aux (vars_of (take i ks)) (t0 ∷ ts)) x end) q h in
      let next = ToArgs p target args (i + 1) ∷ k in
      still around code nl room (ToEval v ∷ next) s pc m env ks (at_once code nl room env (ToEval v ∷ next) pc ks (
        t0,
        at'.1,
        at'.2,
        subst (λ b. IsAt code nl room env next (pc + expr_size v) (pushed_if b t0 ks)) (sym at'.0)
            (subst (λ n. IsAt code nl room env (ToArgs p target args n ∷ k) (pc + expr_size v) (w t0 ∷ ks)) ei
            (at_once code nl room env (ToArgs p target args (suc i) ∷ k) (pc + expr_size v) (w t0 ∷ ks)
            (ts, t, end, le2, le', at'.3, tmp, h', is))),
      )) ma
    where
      next_within : {A : Type 0} (xs : List A) (i : ℕ) (x : A) → drop i xs ≡ x ∷ drop (suc i) xs → suc i ≤ length xs
      next_within [] zero x e = absurd (cc)
      next_within [] (suc i) x e = absurd (cc)
      next_within (y ∷ xs) zero x e = omega arith
      next_within (y ∷ xs) (suc i) x e = omega (arith, next_within xs i x e)

  pub args_sim : (p : Pos) (target : Target) (args : List expr.Value) (i : ℕ) (k : List Todo) (s : State) (env : Env)
      (pc : ℕ) (ks : List Waiting) (m : Regs) → ItemAt code nl room env (ToArgs p target args i ∷ k) pc ks
      → Match code nl room ks s m → IsDone around code nl room (act around.choices
      (ToArgs p target args i ∷ k) s) 0 pc m
  args_sim p target args i k s env pc ks m h ma =
      next_by (slice_get args i) p target args i (drop i args) k s env pc h.2 ks m h.0 h.1 (is_next args i) refl h.3
      h.4 h.5 h.6 h.7 h.8 ma
