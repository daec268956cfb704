-- Where `break`, `continue` and `goto` lead in the code.
use Rattle.std.proofs.Common.{◌≡◌, ℕ, zero, suc, ◌+◌, ◌==◌, List, [], ◌∷◌, drop, length, Option, Some, None, refl, sym}
use Rattle.std.proofs.Common.{subst, arith, inr, Bool, true, false, if◌then◌else◌}
use Rattle.pungi_base.specs.declared.names.Name.{Name}
use Rattle.pungi_base.specs.declared.pos.Pos.{Pos}
use Rattle.pungi_resolved.specs.Actions as stmt
use Rattle.pungi_meaning.specs.Todo.{Loop, Todo, ToEval, ToLoad, ToOld, ToStep, ToPostfix, ToEmpty, ToYield}
use Rattle.pungi_meaning.specs.Todo.{ToMinus, ToCompute, ToFit, ToCompare, ToNot, ToRight, ToTruth, ToPick, ToStore}
use Rattle.pungi_meaning.specs.Todo.{ToArgs}
use Rattle.pungi_meaning.specs.Todo.{ToOutputs, ToExec, ToForget, ToDeclare, ToBind, ToChoose, ToRest, ToTest}
use Rattle.pungi_meaning.specs.Todo.{ToTurn, ToAgain, ToSwitch, ToSwitchEnd, ToReturn, ToEnd}
use Rattle.pungi_meaning.specs.Jumps.{a_loop, enter, enter_among, found_or, from_label, after_break, after_continue}
use Rattle.pungi_meaning.specs.Work.{or_else}
use Rattle.pungi_code.specs.declared.code.Line.{Line}
use Rattle.pungi_layout.specs.code.Sizes.{expr_size, option_size, declare_size, test_size, stmt_size}
use Rattle.pungi_layout.specs.code.Scopes.{Env, label_or, stmt_label, list_label, in_loop, in_switch}
use Rattle.pungi_layout.proofs.relation.Waiting.{Waiting, loop_body, loop_again, end_of_loop}
use Rattle.pungi_layout.proofs.relation.Relation.{StmtAt, LoopAt, ListAt, Inside}
use Rattle.pungi_layout.proofs.relation.Remaining.{ItemAt, IsAt, at_once, over}

pub drop_next : {A : Type 0} (xs : List A) (i : ℕ) (x : A) (ys : List A) → drop i xs ≡ x ∷ ys → drop (suc i) xs ≡ ys
drop_next [] zero x ys e = absurd (cc)
drop_next [] (suc i) x ys e = absurd (cc)
drop_next (y ∷ xs) zero x ys e = cc
drop_next (y ∷ xs) (suc i) x ys e = drop_next xs i x ys e

module _ (code : List Line) (nl room : ℕ) where
  -- at another name for a place
  shift : (env : Env) (k : List Todo) (a b : ℕ) → a ≡ b → IsAt code nl room env k a [] → IsAt code nl room env k b []
  shift env k a b e h = subst (λ x. IsAt code nl room env k x []) e h

  -- the end of a function, wherever a jump to it stands
  at_end : (env : Env) (p : Pos) (v : Bool) (k : List Todo) (pc n : ℕ) (ks : List Waiting)
      → ItemAt code nl room env (ToEnd p v ∷ k) pc ks → n ≡ pc → IsAt code nl room env (ToEnd p v ∷ k) n []
  at_end env p v k pc n ks h e =
      shift env (ToEnd p v ∷ k) pc n (sym e) (at_once code nl room env (ToEnd p v ∷ k) pc [] (refl, h.1, h.2, h.3, h.4))

  -- ---- break

  pub break_leads : (k : List Todo) (env : Env) (pc : ℕ) (ks : List Waiting) → IsAt code nl room env k pc ks
      → (outer : Env) × IsAt code nl room outer (after_break k) env.breaks []
  break_leads [] env pc ks h = absurd h.3
  break_leads (ToEnd p v ∷ k) env pc ks h = (env, at_end env p v k h.1 env.breaks ks h.3 h.3.1)
  break_leads (ToAgain loop ∷ k) env pc ks h = (h.3.0, shift h.3.0 k _ _ (sym h.3.5) h.3.8)
  break_leads (ToSwitchEnd ∷ k) env pc ks h = (h.3.0, shift h.3.0 k _ _ (sym h.3.2) h.3.5)
  break_leads (ToRest block i ∷ k) env pc ks h =
      let r = break_leads k h.3.0 _ _ h.3.5 in (r.0, shift r.0 (after_break k) _ _ (sym h.3.4.breaks) r.1)
  break_leads (ToSwitch p a ∷ k) env pc ks h = break_leads k env _ _ h.3.3
  break_leads (ToEval v ∷ k) env pc ks h = break_leads k env _ _ h.3.3
  break_leads (ToLoad p kind tag field ∷ k) env pc ks h = break_leads k env _ _ h.3.4
  break_leads (ToOld kind place ∷ k) env pc ks h = break_leads k env _ _ h.3.4
  break_leads (ToStep p o kind ∷ k) env pc ks h = break_leads k env _ _ h.3.4
  break_leads (ToPostfix p m kind place ∷ k) env pc ks h = break_leads k env _ _ h.3.7
  break_leads (ToEmpty kind place ∷ k) env pc ks h = break_leads k env _ _ h.3.8
  break_leads (ToYield v ∷ k) env pc ks h = break_leads k env _ _ h.3.1
  break_leads (ToMinus p kind ∷ k) env pc ks h = break_leads k env _ _ h.3.4
  break_leads (ToCompute p o kind ∷ k) env pc ks h = break_leads k env _ _ h.3.4
  break_leads (ToFit p kind ∷ k) env pc ks h = break_leads k env _ _ h.3.4
  break_leads (ToCompare p c ∷ k) env pc ks h = break_leads k env _ _ h.3.4
  break_leads (ToNot ∷ k) env pc ks h = break_leads k env _ _ h.3.3
  break_leads (ToRight on b ∷ k) env pc ks h = break_leads k env _ _ h.3.9
  break_leads (ToTruth ∷ k) env pc ks h = break_leads k env _ _ h.3.3
  break_leads (ToPick a b ∷ k) env pc ks h = break_leads k env _ _ h.3.11
  break_leads (ToStore kind place ∷ k) env pc ks h = break_leads k env _ _ h.3.5
  break_leads (ToArgs p target args i ∷ k) env pc ks h = break_leads k env _ _ h.3.8
  break_leads (ToOutputs p steps ∷ k) env pc ks h = break_leads k env _ _ h.3.5
  break_leads (ToExec a ∷ k) env pc ks h = break_leads k env _ _ h.3.2
  break_leads (ToForget ∷ k) env pc ks h = break_leads k env _ _ h.3
  break_leads (ToDeclare rs ∷ k) env pc ks h = break_leads k env _ _ h.3.2
  break_leads (ToBind x ∷ k) env pc ks h = break_leads k env _ _ h.3.4
  break_leads (ToChoose a b ∷ k) env pc ks h = break_leads k env _ _ h.3.7
  break_leads (ToTurn loop ∷ k) env pc ks h = break_leads k env _ _ h.3.5
  break_leads (ToTest loop ∷ k) env pc ks h = break_leads k env _ _ h.3.4
  break_leads (ToReturn p ∷ k) env pc ks h = break_leads k env _ _ h.3.2

  -- ---- continue

  pub continue_leads : (k : List Todo) (env : Env) (pc : ℕ) (ks : List Waiting) → IsAt code nl room env k pc ks
      → (outer : Env) × IsAt code nl room outer (after_continue k) env.continues []
  continue_leads [] env pc ks h = absurd h.3
  continue_leads (ToEnd p v ∷ k) env pc ks h = (env, at_end env p v k h.1 env.continues ks h.3 h.3.2)
  continue_leads (ToAgain loop ∷ k) env pc ks h = (
    env,
    shift env (ToAgain loop ∷ k) h.1 env.continues (sym h.3.6) (at_once code nl room env (ToAgain loop ∷ k) h.1 []
        (h.3.0, h.3.1, refl, h.3.3, h.3.4, h.3.5, h.3.6, h.3.7, h.3.8)),
  )
  continue_leads (ToSwitchEnd ∷ k) env pc ks h =
      let r = continue_leads k h.3.0 _ _ h.3.5 in (r.0, shift r.0 (after_continue k) _ _ (sym h.3.3) r.1)
  continue_leads (ToRest block i ∷ k) env pc ks h =
      let r = continue_leads k h.3.0 _ _ h.3.5 in (r.0, shift r.0 (after_continue k) _ _ (sym h.3.4.continues) r.1)
  continue_leads (ToSwitch p a ∷ k) env pc ks h = continue_leads k env _ _ h.3.3
  continue_leads (ToEval v ∷ k) env pc ks h = continue_leads k env _ _ h.3.3
  continue_leads (ToLoad p kind tag field ∷ k) env pc ks h = continue_leads k env _ _ h.3.4
  continue_leads (ToOld kind place ∷ k) env pc ks h = continue_leads k env _ _ h.3.4
  continue_leads (ToStep p o kind ∷ k) env pc ks h = continue_leads k env _ _ h.3.4
  continue_leads (ToPostfix p m kind place ∷ k) env pc ks h = continue_leads k env _ _ h.3.7
  continue_leads (ToEmpty kind place ∷ k) env pc ks h = continue_leads k env _ _ h.3.8
  continue_leads (ToYield v ∷ k) env pc ks h = continue_leads k env _ _ h.3.1
  continue_leads (ToMinus p kind ∷ k) env pc ks h = continue_leads k env _ _ h.3.4
  continue_leads (ToCompute p o kind ∷ k) env pc ks h = continue_leads k env _ _ h.3.4
  continue_leads (ToFit p kind ∷ k) env pc ks h = continue_leads k env _ _ h.3.4
  continue_leads (ToCompare p c ∷ k) env pc ks h = continue_leads k env _ _ h.3.4
  continue_leads (ToNot ∷ k) env pc ks h = continue_leads k env _ _ h.3.3
  continue_leads (ToRight on b ∷ k) env pc ks h = continue_leads k env _ _ h.3.9
  continue_leads (ToTruth ∷ k) env pc ks h = continue_leads k env _ _ h.3.3
  continue_leads (ToPick a b ∷ k) env pc ks h = continue_leads k env _ _ h.3.11
  continue_leads (ToStore kind place ∷ k) env pc ks h = continue_leads k env _ _ h.3.5
  continue_leads (ToArgs p target args i ∷ k) env pc ks h = continue_leads k env _ _ h.3.8
  continue_leads (ToOutputs p steps ∷ k) env pc ks h = continue_leads k env _ _ h.3.5
  continue_leads (ToExec a ∷ k) env pc ks h = continue_leads k env _ _ h.3.2
  continue_leads (ToForget ∷ k) env pc ks h = continue_leads k env _ _ h.3
  continue_leads (ToDeclare rs ∷ k) env pc ks h = continue_leads k env _ _ h.3.2
  continue_leads (ToBind x ∷ k) env pc ks h = continue_leads k env _ _ h.3.4
  continue_leads (ToChoose a b ∷ k) env pc ks h = continue_leads k env _ _ h.3.7
  continue_leads (ToTurn loop ∷ k) env pc ks h = continue_leads k env _ _ h.3.5
  continue_leads (ToTest loop ∷ k) env pc ks h = continue_leads k env _ _ h.3.4
  continue_leads (ToReturn p ∷ k) env pc ks h = continue_leads k env _ _ h.3.2

  -- ---- goto

  -- what remains from a label on stands at the label's place; without the label neither is there
  abbrev pub Reaches : Option (List Todo) → Option ℕ → Type 0
  Reaches None None = Unit {0}
  Reaches None (Some n) = ⊥
  Reaches (Some k) None = ⊥
  Reaches (Some k) (Some n) = (env : Env) × IsAt code nl room env k n []

  reaches_or : (a b : Option (List Todo)) (m n : Option ℕ) → Reaches a m → Reaches b n
      → Reaches (or_else a b) (or_else m n)
  reaches_or None b None n h g = g
  reaches_or None b (Some m) n h g = absurd h
  reaches_or (Some k) b None n h g = absurd h
  reaches_or (Some k) b (Some m) n h g = h

  reaches_if : (c : Bool) (k : List Todo) (a : Option (List Todo)) (n : ℕ) (m : Option ℕ)
      → Reaches (Some k) (Some n) → Reaches a m → Reaches (if c then Some k else a) (if c then Some n else m)
  reaches_if true k a n m h g = h
  reaches_if false k a n m h g = g

  -- a loop's label stands in its body
  loop_reaches : (loop : Loop) (l : Name) (env : Env) (head : ℕ) (k : List Todo) → LoopAt code nl room env head loop
      → IsAt code nl room env k (end_of_loop head loop) []
      → ((inner : Env) (k' : List Todo) (pc : ℕ) → StmtAt code nl room inner pc loop.body
      → IsAt code nl room inner k' (pc + stmt_size loop.body) []
      → Reaches (enter l loop.body k') (stmt_label l pc loop.body))
      → Reaches (enter l loop.body (ToAgain loop ∷ k)) (stmt_label l (loop_body head loop.test) loop.body)
  loop_reaches loop l env head k h is next =
      next (in_loop env (loop_again head loop.test loop.body) (end_of_loop head loop)) (ToAgain loop ∷ k)
      (loop_body head loop.test) h.1
      (at_once code nl room (in_loop env (loop_again head loop.test loop.body) (end_of_loop head loop))
      (ToAgain loop ∷ k)
      (loop_body head loop.test + stmt_size loop.body) [] (env, head, refl, h, refl, refl, refl, λ l'. refl, is))

  pub enter_leads : (a : stmt.Action) (l : Name) (env : Env) (k : List Todo) (pc : ℕ) → StmtAt code nl room env pc a
      → IsAt code nl room env k (pc + stmt_size a) [] → Reaches (enter l a k) (stmt_label l pc a)
  enter_leads (stmt.label p n a) l env k pc h is =
      reaches_if (n.0 == l.0) (ToExec a ∷ k) (enter l a k) pc (stmt_label l pc a)
      (env, at_once code nl room env (ToExec a ∷ k) pc [] (refl, h, is))
      (enter_leads a l env k pc h is)
  enter_leads (stmt.case p n a) l env k pc h is = enter_leads a l env k pc h is
  enter_leads (stmt.default p a) l env k pc h is = enter_leads a l env k pc h is
  enter_leads (stmt.if_only p c a) l env k pc h is =
      let e : pc + expr_size c + 1 + stmt_size a ≡ pc + (expr_size c + 1 + stmt_size a) = omega arith in
      enter_leads a l env k (pc + expr_size c + 1) h.1 (shift env k _ _ (sym e) is)
  enter_leads (stmt.if_else p c a b) l env k pc h is =
      let end = pc + expr_size c + 1 + stmt_size a + 1 + stmt_size b in
      let e : pc + (expr_size c + 1 + stmt_size a + 1 + stmt_size b) ≡ end = omega arith in
      let is' = shift env k _ end e is in
      reaches_or (enter l a k) (enter l b k) (stmt_label l (pc + expr_size c + 1) a)
      (stmt_label l (pc + expr_size c + 1 + stmt_size a + 1) b)
      (enter_leads a l env k (pc + expr_size c + 1) h.1 (over code nl room env k _ end [] (inr h.2) is'))
      (enter_leads b l env k (pc + expr_size c + 1 + stmt_size a + 1) h.3 is')
  enter_leads (stmt.while p c a) l env k pc h is =
      let e : pc + (expr_size c + 1 + stmt_size a + 1) ≡ pc + (expr_size c + 1) + stmt_size a + 0 + 1 = omega arith in
      loop_reaches (a_loop (Some c) None a) l env pc k (h.0, h.1, tt, h.2) (shift env k _ _ e is)
      (λ inner k' at g j. enter_leads a l inner k' at g j)
  enter_leads (stmt.do_while p a c) l env k pc h is =
      let e : pc + (1 + expr_size c + 1 + stmt_size a + 1)
      ≡ pc + 1 + (expr_size c + 1) + stmt_size a + 0 + 1 = omega arith in
      loop_reaches (a_loop (Some c) None a) l env (pc + 1) k (h.1, h.2, tt, h.3) (shift env k _ _ e is)
      (λ inner k' at g j. enter_leads a l inner k' at g j)
  enter_leads (stmt.for p rs u c w a) l env k pc h is =
      let e : pc + (length rs + declare_size rs + option_size u + test_size c + stmt_size a + option_size w + 1)
      ≡ pc + length rs + declare_size rs + option_size u + test_size c + stmt_size a + option_size w
      + 1 = omega arith in
      loop_reaches (a_loop c w a) l env (pc + length rs + declare_size rs + option_size u) k (h.3, h.4, h.5, h.6)
      (shift env k _ _ e is) (λ inner k' at g j. enter_leads a l inner k' at g j)
  enter_leads (stmt.switch p v (stmt.block q ss r)) l env k pc h is = tt
  enter_leads (stmt.switch p v a) l env k pc h is =
      let e : pc + (expr_size v + (1 + stmt_size a)) ≡ pc + expr_size v + 1 + stmt_size a = omega arith in
      enter_leads a l (in_switch env (pc + expr_size v + 1 + stmt_size a)) (ToSwitchEnd ∷ k) (pc + expr_size v + 1)
      h.5
      (at_once code nl room (in_switch env (pc + expr_size v + 1 + stmt_size a)) (ToSwitchEnd ∷ k)
      (pc + expr_size v + 1 + stmt_size a) [] (env, refl, refl, refl, λ l'. refl, shift env k _ _ e is))
  enter_leads (stmt.block p ss q) l env k pc h is = tt
  enter_leads (stmt.declare p rs) l env k pc h is = tt
  enter_leads (stmt.do_expr p v) l env k pc h is = tt
  enter_leads (stmt.goto p n) l env k pc h is = tt
  enter_leads (stmt.break p) l env k pc h is = tt
  enter_leads (stmt.continue p) l env k pc h is = tt
  enter_leads (stmt.return p kind v) l env k pc h is = tt

  among_leads : (list block : List stmt.Action) (i : ℕ) (l : Name) (env outer : Env) (k : List Todo) (pc end : ℕ)
      → drop i block ≡ list → ListAt code nl room env pc list end → Inside code nl room env outer block end
      → IsAt code nl room outer k end [] → Reaches (enter_among l block i list k) (list_label l pc list)
  among_leads [] block i l env outer k pc end e h inside is = tt
  among_leads (a ∷ list) block i l env outer k pc end e h inside is =
      let s : suc i ≡ i + 1 = omega arith in
      let d = subst (λ n. drop n block ≡ list) s (drop_next block i a list e) in
      let next = subst (λ xs. ListAt code nl room env (pc + stmt_size a) xs end) (sym d) h.1 in
      reaches_or (enter l a (ToRest block (i + 1) ∷ k)) (enter_among l block (i + 1) list k) (stmt_label l pc a)
      (list_label l (pc + stmt_size a) list)
      (enter_leads a l env (ToRest block (i + 1) ∷ k) pc h.0
      (at_once code nl room env (ToRest block (i + 1) ∷ k) (pc + stmt_size a) [] (outer, end, refl, next, inside, is)))
      (among_leads list block (i + 1) l env outer k (pc + stmt_size a) end d h.1 inside is)

  goto_by : (o : Option (List Todo)) (n : Option ℕ) (other : List Todo) (m : ℕ) → Reaches o n
      → (e : Env) × IsAt code nl room e other m []
      → (e : Env) × IsAt code nl room e (found_or o other) (label_or n m) []
  goto_by None None other m r q = q
  goto_by None (Some n) other m r q = absurd r
  goto_by (Some k) None other m r q = absurd r
  goto_by (Some k) (Some n) other m r q = r

  pub goto_leads : (l : Name) (k : List Todo) (env : Env) (pc : ℕ) (ks : List Waiting)
      → IsAt code nl room env k pc ks → (outer : Env) × IsAt code nl room outer (from_label l k) (env.labels l) []
  goto_leads l [] env pc ks h = absurd h.3
  goto_leads l (ToEnd p v ∷ k) env pc ks h = (env, at_end env p v k h.1 (env.labels l) ks h.3 (h.3.3 l))
  goto_leads l (ToAgain loop ∷ k) env pc ks h =
      let r = goto_leads l k h.3.0 _ _ h.3.8 in (r.0, shift r.0 (from_label l k) _ _ (sym (h.3.7 l)) r.1)
  goto_leads l (ToSwitchEnd ∷ k) env pc ks h =
      let r = goto_leads l k h.3.0 _ _ h.3.5 in (r.0, shift r.0 (from_label l k) _ _ (sym (h.3.4 l)) r.1)
  goto_leads l (ToRest block i ∷ k) env pc ks h =
      let inside = h.3.4 in
      let r = goto_by (enter_among l block 0 block k) (list_label l inside.first block) (from_label l k)
      (h.3.0.labels l)
      (among_leads block block 0 l env h.3.0 k inside.first h.3.1 refl inside.list inside h.3.5)
      (goto_leads l k h.3.0 _ _ h.3.5) in
      (r.0, shift r.0 (found_or (enter_among l block 0 block k) (from_label l k)) _ _ (sym (inside.labels l)) r.1)
  goto_leads l (ToSwitch p a ∷ k) env pc ks h = goto_leads l k env _ _ h.3.3
  goto_leads l (ToEval v ∷ k) env pc ks h = goto_leads l k env _ _ h.3.3
  goto_leads l (ToLoad p kind tag field ∷ k) env pc ks h = goto_leads l k env _ _ h.3.4
  goto_leads l (ToOld kind place ∷ k) env pc ks h = goto_leads l k env _ _ h.3.4
  goto_leads l (ToStep p o kind ∷ k) env pc ks h = goto_leads l k env _ _ h.3.4
  goto_leads l (ToPostfix p m kind place ∷ k) env pc ks h = goto_leads l k env _ _ h.3.7
  goto_leads l (ToEmpty kind place ∷ k) env pc ks h = goto_leads l k env _ _ h.3.8
  goto_leads l (ToYield v ∷ k) env pc ks h = goto_leads l k env _ _ h.3.1
  goto_leads l (ToMinus p kind ∷ k) env pc ks h = goto_leads l k env _ _ h.3.4
  goto_leads l (ToCompute p o kind ∷ k) env pc ks h = goto_leads l k env _ _ h.3.4
  goto_leads l (ToFit p kind ∷ k) env pc ks h = goto_leads l k env _ _ h.3.4
  goto_leads l (ToCompare p c ∷ k) env pc ks h = goto_leads l k env _ _ h.3.4
  goto_leads l (ToNot ∷ k) env pc ks h = goto_leads l k env _ _ h.3.3
  goto_leads l (ToRight on b ∷ k) env pc ks h = goto_leads l k env _ _ h.3.9
  goto_leads l (ToTruth ∷ k) env pc ks h = goto_leads l k env _ _ h.3.3
  goto_leads l (ToPick a b ∷ k) env pc ks h = goto_leads l k env _ _ h.3.11
  goto_leads l (ToStore kind place ∷ k) env pc ks h = goto_leads l k env _ _ h.3.5
  goto_leads l (ToArgs p target args i ∷ k) env pc ks h = goto_leads l k env _ _ h.3.8
  goto_leads l (ToOutputs p steps ∷ k) env pc ks h = goto_leads l k env _ _ h.3.5
  goto_leads l (ToExec a ∷ k) env pc ks h = goto_leads l k env _ _ h.3.2
  goto_leads l (ToForget ∷ k) env pc ks h = goto_leads l k env _ _ h.3
  goto_leads l (ToDeclare rs ∷ k) env pc ks h = goto_leads l k env _ _ h.3.2
  goto_leads l (ToBind x ∷ k) env pc ks h = goto_leads l k env _ _ h.3.4
  goto_leads l (ToChoose a b ∷ k) env pc ks h = goto_leads l k env _ _ h.3.7
  goto_leads l (ToTurn loop ∷ k) env pc ks h = goto_leads l k env _ _ h.3.5
  goto_leads l (ToTest loop ∷ k) env pc ks h = goto_leads l k env _ _ h.3.4
  goto_leads l (ToReturn p ∷ k) env pc ks h = goto_leads l k env _ _ h.3.2
