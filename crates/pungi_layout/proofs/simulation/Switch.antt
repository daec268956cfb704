-- The code does the `switch` of a function: it compares the value with the cases in order, and goes on where the
-- meaning does.
use Rattle.std.proofs.Common.{◌≡◌, ℕ, suc, ◌+◌, ◌*◌, ℤ, List, [], ◌∷◌, ◌++◌, length, drop, Option, Some, None, refl}
use Rattle.std.proofs.Common.{sym, ap, ◌∙◌, subst, arith, Bool, true, false, if◌then◌else◌}
use Rattle.pungi_base.specs.declared.pos.Pos.{Pos}
use Rattle.pungi_base.specs.declared.value.Value.{Value}
use Rattle.pungi_base.specs.declared.value.Value.TheVariants as value
use Rattle.pungi_resolved.specs.Actions as stmt
use Rattle.pungi_world.specs.declared.content.Content.{Content}
use Rattle.pungi_world.specs.declared.content.Content.TheVariants.{Holds}
use Rattle.pungi_world.specs.declared.world.World.{World}
use Rattle.pungi_meaning.specs.declared.cmp.Cmp.TheVariants as cmps
use Rattle.pungi_meaning.specs.Values.{is_equal, truth}
use Rattle.pungi_meaning.specs.Todo.{Compared, Todo, ToSwitch, State, listed}
use Rattle.pungi_meaning.specs.Todo.{ToRest, ToSwitchEnd}
use Rattle.pungi_meaning.specs.Stmts.{bears_case, is_default, cases_of, block_cases, case_comparisons, first_from}
use Rattle.pungi_meaning.specs.Stmts.{target, enter_at}
use Rattle.pungi_meaning.specs.Run.{with_operations, act}
use Rattle.pungi_meaning.specs.Work.{content_at, or_else, block_locals, unset_locals}
use Rattle.pungi_code.specs.declared.atom.Atom.TheVariants as atom
use Rattle.pungi_code.specs.declared.code.Line.{Line}
use Rattle.pungi_code.specs.Registers.{Regs, put}
use Rattle.pungi_code.specs.Run.{Around, exec_in}
use Rattle.pungi_code.proofs.Simulation.{ahead}
use Rattle.pungi_layout.specs.code.Sizes.{stmt_size, stmts_size}
use Rattle.pungi_layout.specs.code.ExprCode.{to_var, var}
use Rattle.pungi_layout.specs.code.Scopes.{Env, label_or, placed_cases, list_cases, list_default, in_block, in_switch}
use Rattle.pungi_layout.proofs.relation.Waiting.{Waiting, switch_first}
use Rattle.pungi_layout.proofs.relation.Waiting.{hidden, w}
use Rattle.pungi_layout.proofs.relation.Relation.{IsTemp, ComparedAt, ListAt}
use Rattle.pungi_layout.proofs.relation.Remaining.{ItemAt, IsAt, at_once}
use Rattle.pungi_layout.proofs.relation.Values.{Stack, Match, popped, written_above, set_same}
use Rattle.pungi_layout.proofs.relation.Steps.{st, true_of, ahead_sum, IsDone, jump_step, branch_step, compare_step}
use Rattle.pungi_layout.proofs.relation.Steps.{moved}
use Rattle.pungi_layout.proofs.relation.Jumps.{drop_next}
use Rattle.pungi_layout.proofs.simulation.Stmts.{unset_sim, list_at, step_to}

-- where the comparisons lead
abbrev pub first_place : Value → List (ℤ × ℕ) → ℕ → ℕ
first_place v [] other = other
first_place v (c ∷ cs) other = if is_equal v (value.Int c.0) then c.1 else first_place v cs other

abbrev pub numbers : List (ℤ × ℕ) → List ℤ
numbers [] = []
numbers (c ∷ cs) = c.0 ∷ numbers cs

numbers_append : (as' bs : List (ℤ × ℕ)) → numbers (as' ++ bs) ≡ numbers as' ++ numbers bs
numbers_append [] bs = refl
numbers_append (a ∷ as') bs = ap (λ l. a.0 ∷ l) (numbers_append as' bs)

placed_numbers : (pc : ℕ) (cs : List ℤ) → numbers (placed_cases pc cs) ≡ cs
placed_numbers pc [] = refl
placed_numbers pc (c ∷ cs) = ap (λ l. c ∷ l) (placed_numbers pc cs)

pub list_numbers : (list : List stmt.Action) (pc : ℕ) → numbers (list_cases pc list) ≡ block_cases list
list_numbers [] pc = refl
list_numbers (a ∷ list) pc =
    numbers_append (placed_cases pc (cases_of a)) (list_cases (pc + stmt_size a) list)
    ∙ ap (λ l. l ++ numbers (list_cases (pc + stmt_size a) list)) (placed_numbers pc (cases_of a))
    ∙ ap (λ l. cases_of a ++ l) (list_numbers list (pc + stmt_size a))

-- the cases of one statement lead to its place
case_by : (b c : Bool) (pc n : ℕ) → (if b then pc else (if c then pc else n))
    ≡ (if (if b then true else c) then pc else n)
case_by true c pc n = refl
case_by false c pc n = refl

pub bears_first : (a : stmt.Action) (v : Value) (pc : ℕ) (others : List (ℤ × ℕ)) (other : ℕ)
    → first_place v (placed_cases pc (cases_of a) ++ others) other
    ≡ (if bears_case v a then pc else first_place v others other)
bears_first (stmt.case p n a) v pc others other =
    ap (λ x. if is_equal v (value.Int n) then pc else x) (bears_first a v pc others other)
    ∙ case_by (is_equal v (value.Int n)) (bears_case v a) pc (first_place v others other)
bears_first (stmt.default p a) v pc others other = bears_first a v pc others other
bears_first (stmt.label p l a) v pc others other = bears_first a v pc others other
bears_first a v pc others other = refl

module _ (around : Around) (code : List Line) (nl room : ℕ) where
  -- what was found stands at its place
  abbrev pub Found : Env → List stmt.Action → ℕ → Option ℕ → ℕ → ℕ → Type 0
  Found env block end None n other = n ≡ other
  Found env block end (Some j) n other = ListAt code nl room env n (drop j block) end

  found_by : (b : Bool) (env : Env) (block : List stmt.Action) (i pc end : ℕ) (o : Option ℕ) (n other : ℕ)
      → ListAt code nl room env pc (drop i block) end → Found env block end o n other
      → Found env block end (if b then Some i else o) (if b then pc else n) other
  found_by true env block i pc end o n other h g = h
  found_by false env block i pc end o n other h g = g

  pub find_case : (v : Value) (list block : List stmt.Action) (i pc end other : ℕ) (env : Env) → drop i block ≡ list
      → ListAt code nl room env pc list end → Found env block end (first_from (bears_case v) i list)
      (first_place v (list_cases pc list) other) other
  find_case v [] block i pc end other env e h = refl
  find_case v (a ∷ list) block i pc end other env e h =
      let s : suc i ≡ i + 1 = omega arith in
      let d = subst (λ n. drop n block ≡ list) s (drop_next block i a list e) in
      subst (λ n. Found env block end (first_from (bears_case v) i (a ∷ list)) n other)
      (sym (bears_first a v pc (list_cases (pc + stmt_size a) list) other))
      (found_by (bears_case v a) env block i pc end (first_from (bears_case v) (i + 1) list)
      (first_place v (list_cases (pc + stmt_size a) list) other) other
      (subst (λ l. ListAt code nl room env pc l end) (sym e) h) (find_case v list block (i + 1) (pc + stmt_size a)
      end other env d h.1))

  default_by : (b : Bool) (pc : ℕ) (o : Option ℕ) (n : ℕ)
      → label_or (if b then Some pc else o) n ≡ (if b then pc else label_or o n)
  default_by true pc o n = refl
  default_by false pc o n = refl

  pub find_default : (list block : List stmt.Action) (i pc end : ℕ) (env : Env) → drop i block ≡ list
      → ListAt code nl room env pc list end → Found env block end (first_from is_default i list)
      (label_or (list_default pc list) end) end
  find_default [] block i pc end env e h = refl
  find_default (a ∷ list) block i pc end env e h =
      let s : suc i ≡ i + 1 = omega arith in
      let d = subst (λ n. drop n block ≡ list) s (drop_next block i a list e) in
      subst (λ n. Found env block end (first_from is_default i (a ∷ list)) n end)
      (sym (default_by (is_default a) pc (list_default (pc + stmt_size a) list) end))
      (found_by (is_default a) env block i pc end (first_from is_default (i + 1) list)
      (label_or (list_default (pc + stmt_size a) list) end) end
      (subst (λ l. ListAt code nl room env pc l end) (sym e) h) (find_default list block (i + 1) (pc + stmt_size a)
      end env d h.1))

  found_or : (o o' : Option ℕ) (env : Env) (block : List stmt.Action) (end n other : ℕ)
      → Found env block end o n other → Found env block end o' other end → Found env block end (or_else o o') n end
  found_or None o' env block end n other e h = subst (λ x. Found env block end o' x end) (sym e) h
  found_or (Some j) o' env block end n other h g = h

  -- the comparisons, one after another
  pub record Compares (p : Pos) (v : Value) (cs : List (ℤ × ℕ)) (to pc : ℕ) (ks : List Waiting) (s : State)
      (m : Regs) : Type 0 where
    pub count : ℕ
    pub regs : Regs
    pub by : (j : ℕ) → exec_in around code (ahead count j) pc m
        ≡ with_operations (case_comparisons p v (numbers cs)) (exec_in around code j to regs)
    pub matches : Match code nl room ks s regs

  compared_by : (b : Bool) (p : Pos) (v : Value) (c : ℤ × ℕ) (cs : List (ℤ × ℕ)) (other pc : ℕ) (ks : List Waiting)
      (s : State) (m q : Regs) → ((j : ℕ) → exec_in around code (suc (suc j)) pc m
      ≡ with_operations (Compared p cmps.Equal v (value.Int c.0)
      ∷ []) (exec_in around code j (if b then c.1 else pc + 2) q)) → Match code nl room ks s q
      → Compares p v cs (first_place v cs other) (pc + 2) ks s q
      → (r : ℕ × Regs) × ((j : ℕ) → exec_in around code (ahead r.0 j) pc m
      ≡ with_operations (Compared p cmps.Equal v (value.Int c.0)
      ∷ (if b then [] else case_comparisons p v (numbers cs))) (exec_in around code j
      (if b then c.1 else first_place v cs other) r.1)) × Match code nl room ks s r.1
  compared_by true p v c cs other pc ks s m q e ma g = ((2, q), e, ma)
  compared_by false p v c cs other pc ks s m q e ma g = (
    (suc (suc g.count), g.regs),
    λ j. e (ahead g.count j)
        ∙ ap (with_operations (Compared p cmps.Equal v (value.Int c.0) ∷ [])) (g.by j),
    g.matches,
  )

  pub compares : (cs : List (ℤ × ℕ)) (p : Pos) (a y other pc : ℕ) (v : Value) (s : State) (m : Regs)
      → ComparedAt code nl room p a y pc cs other → IsTemp code nl room 1 y → s.values ≡ v ∷ []
      → Match code nl room (w a ∷ []) s m → content_at m.vars a ≡ Holds v
      → Compares p v cs (first_place v cs other) pc (w a ∷ []) s m
  compares [] p a y other pc v s m h at vs ma e = record {
    count = 1;
    regs = m;
    by = jump_step around code nl room
        pc other m h;
    matches = ma;
  }
  compares (c ∷ cs) p a y other pc v s m h at vs ma e =
      let b = is_equal v (value.Int c.0) in
      let q = put (to_var y) (Holds (truth b)) m in
      let ma' = written_above code nl room (w a ∷ []) s m y (Holds (truth b)) at ma in
      let long : length m.vars ≡ room = ma.long in
      let here = set_same m.vars y (Holds (truth b)) (omega (arith, at.2, long)) in
      let e' : pc + 1 + 1 ≡ pc + 2 = omega arith in
      let g = compares cs p a y other (pc + 2) v s q h.2 at vs ma' (still_holds s q v vs ma') in
      let r = compared_by b p v c cs other pc (w a ∷ []) s m q
      (λ j. compare_step around code nl room pc p y cmps.Equal (var a) (atom.Int c.0) m v (value.Int c.0) h.0 e
      refl (suc j)
      ∙ ap (with_operations (Compared p cmps.Equal v (value.Int c.0) ∷ [])) (branch_step around code nl room
      (pc + 1) y c.1 (pc + 2) q (truth b) h.1 here j ∙ ap (λ x. exec_in around code j (if x then c.1 else pc + 2) q)
      (true_of b))) ma' g in
      record { count = r.0.0; regs = r.0.1; by = r.1; matches = r.2 }
    where
      still_holds : (s : State) (q : Regs) (v : Value) → s.values ≡ v ∷ [] → Match code nl room (w a ∷ []) s q
          → content_at q.vars a ≡ Holds v
      still_holds s q v vs mq = (subst (λ xs. Stack code nl room q.vars xs (w a ∷ [])) vs mq.stack).0

  -- where a `switch` goes on
  entered_at : (o : Option ℕ) (k : List Todo) (env : Env) (list : List stmt.Action) (first n end : ℕ)
      → Found (in_block (in_switch env end) first list) list end o n end
      → ListAt code nl room (in_block (in_switch env end) first list) first list end → IsAt code nl room env k end []
      → (e : Env) × IsAt code nl room e (enter_at list o k) n []
  entered_at None k env list first n end f h is = (env, moved around code nl room env k end n [] (sym f) is)
  entered_at (Some j) k env list first n end f h is = (
    in_block (in_switch env end) first list,
    at_once code nl room (in_block (in_switch env end) first list) (ToRest list j ∷ ToSwitchEnd ∷ k) n [] (
      in_switch env end,
      end,
      refl,
      f,
      record {
        first = first;
        list = h;
        breaks = refl;
        continues = refl;
        labels = λ
            l. refl;
      },
      at_once code nl room (in_switch env end) (ToSwitchEnd ∷ k) end [] (env, refl, refl, refl, λ l. refl, is),
    ),
  )

  pub switch_sim : (p : Pos) (a : stmt.Action) (k : List Todo) (x : World) (u : List Pos) (l : List Content)
      (vs : List Value) (env : Env) (pc : ℕ) (ks : List Waiting) (m : Regs)
      → ItemAt code nl room env (ToSwitch p a ∷ k) pc ks → Match code nl room ks (st x u l vs) m
      → IsDone around code nl room (act around.choices (ToSwitch p a ∷ k) (st x u l vs)) 0 pc m
  switch_sim p a k x u l vs env pc [] m h ma = absurd h.0
  switch_sim p a k x u l vs env pc (hidden q z ∷ ks) m h ma = absurd h.0
  switch_sim p a k x u l [] env pc (w q ∷ ks) m h ma = absurd ma.stack
  switch_sim p a k x u l (v ∷ vs) env pc (w q ∷ q2 ∷ ks) m h ma = absurd (let z : q2 ∷ ks ≡ [] = h.1 in cc)
  switch_sim p a k x u l (v ∷ w2 ∷ vs) env pc (w q ∷ []) m h ma = absurd ma.stack.2
  switch_sim p (stmt.block t ss r) k x u l (v ∷ []) env pc (w q ∷ []) m h ma =
      let list = listed ss in
      let own = block_locals list in
      let n = length own in
      let first = switch_first pc n ss in
      let end = first + stmts_size ss in
      let inner = in_block (in_switch env end) first list in
      let other = label_or (list_default first list) end in
      let cs = list_cases first list in
      let z = unset_sim around code nl room own pc (w q ∷ []) (st x u l (v ∷ [])) m h.2.0 ma in
      let s' = st x u (unset_locals own l) (v ∷ []) in
      let g = compares cs p q h.2.1.0 other (pc + n) v s' z.0 h.2.1.2 h.2.1.1 refl z.2 z.2.stack.0 in
      let here = list_at around code nl room ss inner first h.2.2 in
      let f = found_or (first_from (bears_case v) 0 list) (first_from is_default 0 list) inner list end
      (first_place v cs other) other (find_case v list list 0 first end other inner refl here)
      (find_default list list 0 first end inner refl here) in
      let e : pc + (n + 2 * length (block_cases list) + 1 + stmts_size ss) ≡ end = omega arith in
      let at = entered_at (target v list) k env list first (first_place v cs other) end f here
      (moved around code nl room env k _ _ [] e h.3) in
      record {
        count = n + g.count;
        least = omega arith;
        place = first_place v cs other;
        regs = g.regs;
        by = λ j.
            ap (λ i. exec_in around code i pc m) (ahead_sum n g.count j)
            ∙ z.1 (ahead g.count j)
            ∙ g.by j
            ∙ ap (λ os. with_operations (case_comparisons p v os) (exec_in around code j (first_place v cs other)
            g.regs)) (list_numbers list first);
        stands = (at.0, [], at.1, popped code nl room (w q ∷ []) s' g.regs [] [] g.matches tt);
      }
  switch_sim p a k x u l (v ∷ []) env pc (w q ∷ []) m h ma =
      step_to around code nl room k (st x u l []) 0 pc m (pc + 1 + stmt_size a) m env (omega arith)
      (jump_step around code nl room pc (pc + 1 + stmt_size a) m h.2.0)
      (let e : pc + (1 + stmt_size a) ≡ pc + 1 + stmt_size a = omega arith in moved around code nl room env k _ _
      [] e h.3)
      (popped code nl room (w q ∷ []) (st x u l (v ∷ [])) m [] [] ma tt)
