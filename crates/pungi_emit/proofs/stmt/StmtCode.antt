-- Instructions that are put one after another are those of the statement.
use Rattle.std.proofs.Common.{◌≡◌, ℕ, ◌+◌, ◌*◌, List, [], ◌∷◌, ◌++◌, length, Option, false, refl, sym, ap, ◌∙◌, subst}
use Rattle.std.proofs.Common.{arith, append_assoc}
use Rattle.pungi_base.specs.declared.pos.Pos.{Pos}
use Rattle.pungi_resolved.specs.Values as expr
use Rattle.pungi_resolved.specs.Actions as stmt
use Rattle.pungi_resolved.specs.ActionView.{actions_of}
use Rattle.pungi_meaning.specs.Stmts.{block_cases}
use Rattle.pungi_meaning.specs.Todo.{listed}
use Rattle.pungi_meaning.specs.Work.{block_locals}
use Rattle.pungi_code.specs.declared.code.Line.{Line}
use Rattle.pungi_code.specs.declared.instr.Instr.TheVariants.{Jump}
use Rattle.pungi_layout.specs.code.Sizes.{expr_size, option_size, declare_size, test_size, stmt_size, stmts_size}
use Rattle.pungi_layout.specs.code.Temporaries.{temp, temp_of}
use Rattle.pungi_layout.specs.code.ExprCode.{line, at_label}
use Rattle.pungi_layout.specs.code.Scopes.{Env, for_head, label_or, list_cases, list_default, in_block, in_loop}
use Rattle.pungi_layout.specs.code.Scopes.{in_switch}
use Rattle.pungi_layout.specs.code.StmtCode.{unset_code, value_code, option_code, declare_code, test_code, tested_code}
use Rattle.pungi_layout.specs.code.StmtCode.{case_code, stmt_code, stmts_code}
use Rattle.pungi_emit.specs.planning.LabelPlaces.{list_starts}
use Rattle.pungi_emit.specs.stmt.Cases.{cases_at, default_at, is_block, skipped_code}
use Rattle.pungi_emit.specs.planning.Plans.{switch_from}
use Rattle.pungi_layout.proofs.code.StmtLengths.{unset_long, value_long, option_long, declare_long, test_long}
use Rattle.pungi_layout.proofs.code.StmtLengths.{tested_long, case_long, cases_long, stmt_long}
use Rattle.pungi_emit.proofs.expr.ExprCode.{glued, grown, moved}
use Rattle.pungi_emit.proofs.stmt.Cases.{cases_placed, default_placed}

pub as_actions : (list : List stmt.Action) → listed (actions_of list) ≡ list
as_actions [] = refl
as_actions (a ∷ list) = ap (λ l. a ∷ l) (as_actions list)

-- a `switch` over what is no block
pub skipped_is : (nl : ℕ) (env : Env) (pc : ℕ) (p : Pos) (v : expr.Value) (a : stmt.Action) → is_block a ≡ false
    → stmt_code nl env pc (stmt.switch p v a) ≡ skipped_code nl env pc p v a
skipped_is nl env pc p v (stmt.block r ss q) h = absurd cc
skipped_is nl env pc p v (stmt.declare p' rs) h = refl
skipped_is nl env pc p v (stmt.do_expr p' u) h = refl
skipped_is nl env pc p v (stmt.if_only p' c a) h = refl
skipped_is nl env pc p v (stmt.if_else p' c a b) h = refl
skipped_is nl env pc p v (stmt.while p' c a) h = refl
skipped_is nl env pc p v (stmt.do_while p' a c) h = refl
skipped_is nl env pc p v (stmt.for p' rs u c w a) h = refl
skipped_is nl env pc p v (stmt.switch p' u a) h = refl
skipped_is nl env pc p v (stmt.case p' n a) h = refl
skipped_is nl env pc p v (stmt.default p' a) h = refl
skipped_is nl env pc p v (stmt.label p' l a) h = refl
skipped_is nl env pc p v (stmt.goto p' l) h = refl
skipped_is nl env pc p v (stmt.break p') h = refl
skipped_is nl env pc p v (stmt.continue p') h = refl
skipped_is nl env pc p v (stmt.return p' k u) h = refl

-- where the statements of a list go on
pub next_start : (a : stmt.Action) (rest : List stmt.Action) (pc n : ℕ) (s0 s1 : List ℕ) → s1 ≡ s0 ++ pc ∷ []
    → n ≡ pc + stmt_size a → s0 ++ list_starts pc (a ∷ rest) ≡ s1 ++ list_starts n rest
next_start a rest pc n s0 s1 e f =
    sym (append_assoc s0 (pc ∷ []) (list_starts (pc + stmt_size a) rest))
    ∙ ap (λ l. l ++ list_starts (pc + stmt_size a) rest) (sym e) ∙ ap (λ i. s1 ++ list_starts i rest) (sym f)

module _ (nl : ℕ) (env : Env) where
  -- the place after a test
  pub test_place : (c : expr.Value) (go other : ℕ) (c0 c1 : List Line)
      → c1 ≡ c0 ++ test_code nl (length c0) c go other → length c1 ≡ length c0 + expr_size c + 1
  test_place c go other c0 c1 e =
      let n = grown c0 c1 (test_code nl (length c0) c go other) (expr_size c + 1) e
      (test_long c nl (length c0) go other) in
      omega (arith, n)

  -- the place after a statement
  pub stmt_place : (inner : Env) (a : stmt.Action) (c0 c1 : List Line) → c1 ≡ c0 ++ stmt_code nl inner (length c0) a
      → length c1 ≡ length c0 + stmt_size a
  stmt_place inner a c0 c1 e = grown c0 c1 (stmt_code nl inner (length c0) a) (stmt_size a) e
      (stmt_long a nl inner (length c0))

  pub if_laid : (p : Pos) (c : expr.Value) (a : stmt.Action) (other : ℕ) (c0 c1 c2 : List Line) →
      c1 ≡ c0 ++ test_code nl (length c0) c (length c0 + expr_size c + 1) other →
      c2 ≡ c1 ++ stmt_code nl env (length c1) a →
      other ≡ length c0 + expr_size c + 1 + stmt_size a →
      c2 ≡ c0 ++ stmt_code nl env (length c0) (stmt.if_only p c a)
  if_laid p c a other c0 c1 c2 e1 e2 e3 =
      let at = length c0 + expr_size c + 1 in
      let n1 : length c1 ≡ at = test_place c at other c0 c1 e1 in
      glued c0 c1 c2 (test_code nl (length c0) c at (at + stmt_size a)) (stmt_code nl env at a)
      (e1 ∙ ap (λ n. c0 ++ test_code nl (length c0) c at n) e3) (moved (λ n. stmt_code nl env n a) c1 c2 at n1 e2)

  pub else_laid : (p : Pos) (c : expr.Value) (a b : stmt.Action) (other end : ℕ) (c0 c1 c2 c3 c4 : List Line) →
      c1 ≡ c0 ++ test_code nl (length c0) c (length c0 + expr_size c + 1) other →
      c2 ≡ c1 ++ stmt_code nl env (length c1) a →
      c3 ≡ c2 ++ line p (Jump (at_label end)) ∷ [] →
      other ≡ length c0 + expr_size c + 1 + stmt_size a + 1 →
      c4 ≡ c3 ++ stmt_code nl env (length c3) b →
      end ≡ length c0 + expr_size c + 1 + stmt_size a + 1 + stmt_size b →
      c4 ≡ c0 ++ stmt_code nl env (length c0) (stmt.if_else p c a b)
  else_laid p c a b other end c0 c1 c2 c3 c4 e1 e2 e3 e4 e5 e6 =
      let at = length c0 + expr_size c + 1 in
      let bt = at + stmt_size a + 1 in
      let n1 : length c1 ≡ at = test_place c at other c0 c1 e1 in
      let n2 = stmt_place env a c1 c2 e2 in
      let n3 = grown c2 c3 (line p (Jump (at_label end)) ∷ []) 1 e3 refl in
      let n3' : length c3 ≡ bt = omega (arith, n1, n2, n3) in
      let f3 : c3 ≡ c2 ++ line p (Jump (at_label (bt + stmt_size b))) ∷ [] = e3
      ∙ ap (λ n. c2 ++ line p (Jump (at_label n)) ∷ []) e6 in
      let rest = line p (Jump (at_label (bt + stmt_size b))) ∷ stmt_code nl env bt b in
      let h : c4 ≡ c2 ++ rest = glued c2 c3 c4 (line p (Jump (at_label (bt + stmt_size b))) ∷ [])
      (stmt_code nl env bt b) f3 (moved (λ n. stmt_code nl env n b) c3 c4 bt n3' e5) in
      glued c0 c1 c4 (test_code nl (length c0) c at bt) (stmt_code nl env at a ++ rest)
      (e1 ∙ ap (λ n. c0 ++ test_code nl (length c0) c at n) e4)
      (glued c1 c2 c4 (stmt_code nl env at a) rest (moved (λ n. stmt_code nl env n a) c1 c2 at n1 e2) h)

  -- .. loops
  -- the body of a loop at a known place
  pub body_moved : (a : stmt.Action) (again end go last next : ℕ) (c1 c2 : List Line) →
      c2 ≡ c1 ++ stmt_code nl (in_loop env again end) (length c1) a → length c1 ≡ go → again ≡ last → end ≡ next →
      c2 ≡ c1 ++ stmt_code nl (in_loop env last next) go a
  body_moved a again end go last next c1 c2 e n m k =
      moved (λ i. stmt_code nl (in_loop env again end) i a) c1 c2 go n e
      ∙ ap (λ i. c1 ++ stmt_code nl (in_loop env i end) go a) m
      ∙ ap (λ i. c1 ++ stmt_code nl (in_loop env last i) go a) k

  pub while_laid : (p : Pos) (c : expr.Value) (a : stmt.Action) (head again end : ℕ) (c0 c1 c2 c3 : List Line) →
      head ≡ length c0 →
      end ≡ again + 1 →
      c1 ≡ c0 ++ test_code nl (length c0) c (length c0 + expr_size c + 1) end →
      c2 ≡ c1 ++ stmt_code nl (in_loop env again end) (length c1) a →
      again ≡ length c0 + (expr_size c + 1) + stmt_size a →
      c3 ≡ c2 ++ line p (Jump (at_label head)) ∷ [] →
      c3 ≡ c0 ++ stmt_code nl env (length c0) (stmt.while p c a)
  while_laid p c a head again end c0 c1 c2 c3 h k e1 e2 e3 e4 =
      let at = length c0 + expr_size c + 1 in
      let go = length c0 + (expr_size c + 1) in
      let last = go + stmt_size a in
      let next = last + 0 + 1 in
      let same : at ≡ go = omega arith in
      let n1 = test_place c at end c0 c1 e1 in
      let n1' : length c1 ≡ go = omega (arith, n1) in
      let q : end ≡ next = omega (arith, e3, k) in
      let f1 = e1 ∙ ap (λ i. c0 ++ test_code nl (length c0) c i end) same
      ∙ ap (λ i. c0 ++ test_code nl (length c0) c go i) q in
      let body = stmt_code nl (in_loop env last next) go a in
      let back = line p (Jump (at_label (length c0))) in
      glued c0 c1 c3 (test_code nl (length c0) c go next) (body ++ back ∷ []) f1
      (glued c1 c2 c3 body (back ∷ []) (body_moved a again end go last next c1 c2 e2 n1' e3 q)
      (e4 ∙ ap (λ i. c2 ++ line p (Jump (at_label i)) ∷ []) h))

  pub until_laid : (p : Pos) (c : expr.Value) (a : stmt.Action) (head go again end : ℕ) (c0 c1 c2 c3 c4 : List Line) →
      end ≡ again + 1 →
      c1 ≡ c0 ++ line p (Jump (at_label go)) ∷ [] →
      head ≡ length c1 →
      c2 ≡ c1 ++ test_code nl (length c1) c (length c1 + expr_size c + 1) end →
      go ≡ length c0 + 1 + (expr_size c + 1) →
      c3 ≡ c2 ++ stmt_code nl (in_loop env again end) (length c2) a →
      again ≡ length c0 + 1 + (expr_size c + 1) + stmt_size a →
      c4 ≡ c3 ++ line p (Jump (at_label head)) ∷ [] →
      c4 ≡ c0 ++ stmt_code nl env (length c0) (stmt.do_while p a c)
  until_laid p c a head go again end c0 c1 c2 c3 c4 k e0 h e1 g e2 e3 e4 =
      let top = length c0 + 1 in
      let place = top + (expr_size c + 1) in
      let last = place + stmt_size a in
      let next = last + 0 + 1 in
      let n0 : length c1 ≡ top = grown c0 c1 (line p (Jump (at_label go)) ∷ []) 1 e0 refl in
      let n1 = test_place c (length c1 + expr_size c + 1) end c1 c2 e1 in
      let n1' : length c2 ≡ place = omega (arith, n0, n1) in
      let q : end ≡ next = omega (arith, e3, k) in
      let in_front : length c1 + expr_size c + 1 ≡ place = omega (arith, n0) in
      let f0 : c1 ≡ c0 ++ line p (Jump (at_label place)) ∷ [] = e0
      ∙ ap (λ i. c0 ++ line p (Jump (at_label i)) ∷ []) g in
      let f1 : c2 ≡ c1 ++ test_code nl top c place next = e1
      ∙ ap (λ i. c1 ++ test_code nl (length c1) c i end) in_front
      ∙ ap (λ i. c1 ++ test_code nl (length c1) c place i) q
      ∙ ap (λ i. c1 ++ test_code nl i c place next) n0 in
      let body = stmt_code nl (in_loop env last next) place a in
      let back = line p (Jump (at_label top)) in
      let f4 : c4 ≡ c3 ++ back ∷ [] = e4 ∙ ap (λ i. c3 ++ line p (Jump (at_label i)) ∷ []) (h ∙ n0) in
      let f2 = body_moved a again end place last next c2 c3 e2 n1' e3 q in
      glued c0 c1 c4 (line p (Jump (at_label place)) ∷ []) (test_code nl top c place next ++ (body ++ back ∷ [])) f0
      (glued c1 c2 c4 (test_code nl top c place next) (body ++ back ∷ []) f1 (glued c2 c3 c4 body (back ∷ []) f2 f4))

  -- the place after what a `for` does first
  pub for_place : (p : Pos) (rs : List stmt.DeclaredLocal) (u : Option expr.Value) (c0 c1 c2 c3 : List Line) →
      c1 ≡ c0 ++ unset_code p rs →
      c2 ≡ c1 ++ declare_code nl (length c1) rs →
      c3 ≡ c2 ++ option_code nl (length c2) u →
      length c3 ≡ for_head (length c0) rs u
  for_place p rs u c0 c1 c2 c3 e1 e2 e3 =
      let n1 = grown c0 c1 (unset_code p rs) (length rs) e1 (unset_long rs p) in
      let n2 = grown c1 c2 (declare_code nl (length c1) rs) (declare_size rs) e2 (declare_long rs nl (length c1)) in
      let n3 = grown c2 c3 (option_code nl (length c2) u) (option_size u) e3 (option_long u nl (length c2)) in
      omega (arith, n1, n2, n3)

  pub tested_place : (c : Option expr.Value) (go other : ℕ) (c0 c1 : List Line)
      → c1 ≡ c0 ++ tested_code nl (length c0) c go other → length c1 ≡ length c0 + test_size c
  tested_place c go other c0 c1 e = grown c0 c1 (tested_code nl (length c0) c go other) (test_size c) e
      (tested_long c nl (length c0) go other)

  -- the place of the body of a `for`
  pub for_body : (p : Pos) (rs : List stmt.DeclaredLocal) (u c : Option expr.Value) (end : ℕ)
      (c0 c1 c2 c3 c4 : List Line) →
      c1 ≡ c0 ++ unset_code p rs →
      c2 ≡ c1 ++ declare_code nl (length c1) rs →
      c3 ≡ c2 ++ option_code nl (length c2) u →
      c4 ≡ c3 ++ tested_code nl (length c3) c (length c3 + test_size c) end →
      length c4 ≡ for_head (length c0) rs u + test_size c
  for_body p rs u c end c0 c1 c2 c3 c4 e1 e2 e3 e4 =
      tested_place c (length c3 + test_size c) end c3 c4 e4
      ∙ ap (λ i. i + test_size c) (for_place p rs u c0 c1 c2 c3 e1 e2 e3)

  pub for_laid : (p : Pos) (rs : List stmt.DeclaredLocal) (u c w : Option expr.Value) (a : stmt.Action)
      (head again end : ℕ) (c0 c1 c2 c3 c4 c5 c6 c7 : List Line) →
      c1 ≡ c0 ++ unset_code p rs →
      c2 ≡ c1 ++ declare_code nl (length c1) rs →
      c3 ≡ c2 ++ option_code nl (length c2) u →
      head ≡ length c3 →
      c4 ≡ c3 ++ tested_code nl (length c3) c (length c3 + test_size c) end →
      c5 ≡ c4 ++ stmt_code nl (in_loop env again end) (length c4) a →
      again ≡ for_head (length c0) rs u + test_size c + stmt_size a →
      c6 ≡ c5 ++ option_code nl (length c5) w →
      c7 ≡ c6 ++ line p (Jump (at_label head)) ∷ [] →
      end ≡ for_head (length c0) rs u + test_size c + stmt_size a + option_size w + 1 →
      c7 ≡ c0 ++ stmt_code nl env (length c0) (stmt.for p rs u c w a)
  for_laid p rs u c w a head again end c0 c1 c2 c3 c4 c5 c6 c7 e1 e2 e3 h e4 e5 e6 e7 e8 e9 =
      let top = for_head (length c0) rs u in
      let go = top + test_size c in
      let last = go + stmt_size a in
      let next = last + option_size w + 1 in
      let n1 = grown c0 c1 (unset_code p rs) (length rs) e1 (unset_long rs p) in
      let n2 = grown c1 c2 (declare_code nl (length c1) rs) (declare_size rs) e2 (declare_long rs nl (length c1)) in
      let n3 : length c3 ≡ top = for_place p rs u c0 c1 c2 c3 e1 e2 e3 in
      let n4 = tested_place c (length c3 + test_size c) end c3 c4 e4 in
      let n4' : length c4 ≡ go = omega (arith, n3, n4) in
      let n5 = stmt_place (in_loop env again end) a c4 c5 e5 in
      let n5' : length c5 ≡ last = omega (arith, n4', n5) in
      let at2 = length c0 + length rs in
      let at3 = length c0 + length rs + declare_size rs in
      let n2' : length c2 ≡ at3 = omega (arith, n1, n2) in
      let in_front : length c3 + test_size c ≡ go = omega (arith, n3) in
      let f2 : c2 ≡ c1 ++ declare_code nl at2 rs = moved (λ i. declare_code nl i rs) c1 c2 at2 n1 e2 in
      let f3 : c3 ≡ c2 ++ option_code nl at3 u = moved (λ i. option_code nl i u) c2 c3 at3 n2' e3 in
      let f4 : c4 ≡ c3 ++ tested_code nl top c go next = e4
      ∙ ap (λ i. c3 ++ tested_code nl (length c3) c i end) in_front
      ∙ ap (λ i. c3 ++ tested_code nl (length c3) c go i) e9
      ∙ ap (λ i. c3 ++ tested_code nl i c go next) n3 in
      let body = stmt_code nl (in_loop env last next) go a in
      let f5 : c5 ≡ c4 ++ body = body_moved a again end go last next c4 c5 e5 n4' e6 e9 in
      let step = option_code nl last w in
      let f6 : c6 ≡ c5 ++ step = moved (λ i. option_code nl i w) c5 c6 last n5' e7 in
      let back = line p (Jump (at_label top)) in
      let f7 : c7 ≡ c6 ++ back ∷ [] = e8 ∙ ap (λ i. c6 ++ line p (Jump (at_label i)) ∷ []) (h ∙ n3) in
      let h6 : c7 ≡ c5 ++ (step ++ back ∷ []) = glued c5 c6 c7 step (back ∷ []) f6 f7 in
      let h5 : c7 ≡ c4 ++ (body ++ (step ++ back ∷ [])) = glued c4 c5 c7 body (step ++ back ∷ []) f5 h6 in
      let h4 : c7 ≡ c3 ++ (tested_code nl top c go next ++ (body ++ (step ++ back ∷ []))) = glued c3 c4 c7
      (tested_code nl top c go next) (body ++ (step ++ back ∷ [])) f4 h5 in
      let rest4 = tested_code nl top c go next ++ (body ++ (step ++ back ∷ [])) in
      let h3 : c7 ≡ c2 ++ (option_code nl at3 u ++ rest4) = glued c2 c3 c7 (option_code nl at3 u) rest4 f3 h4 in
      let h2 : c7 ≡ c1 ++ (declare_code nl at2 rs ++ (option_code nl at3 u ++ rest4)) = glued c1 c2 c7
      (declare_code nl at2 rs) (option_code nl at3 u ++ rest4) f2 h3 in
      glued c0 c1 c7 (unset_code p rs) (declare_code nl at2 rs ++ (option_code nl at3 u ++ rest4)) e1 h2

  -- .. blocks and `switch`
  pub skipped_laid : (p : Pos) (v : expr.Value) (a : stmt.Action) (end : ℕ) (c0 c1 c2 c3 : List Line) →
      c1 ≡ c0 ++ value_code nl (length c0) v →
      c2 ≡ c1 ++ line p (Jump (at_label end)) ∷ [] →
      c3 ≡ c2 ++ stmt_code nl (in_switch env end) (length c2) a →
      end ≡ length c0 + expr_size v + 1 + stmt_size a →
      c3 ≡ c0 ++ skipped_code nl env (length c0) p v a
  skipped_laid p v a end c0 c1 c2 c3 e1 e2 e3 e4 =
      let at = length c0 + expr_size v + 1 in
      let n1 = grown c0 c1 (value_code nl (length c0) v) (expr_size v) e1 (value_long v nl (length c0)) in
      let n2 = grown c1 c2 (line p (Jump (at_label end)) ∷ []) 1 e2 refl in
      let n2' : length c2 ≡ at = omega (arith, n1, n2) in
      let f2 : c2 ≡ c1 ++ line p (Jump (at_label (at + stmt_size a))) ∷ [] = e2
      ∙ ap (λ i. c1 ++ line p (Jump (at_label i)) ∷ []) e4 in
      let f3 : c3 ≡ c2 ++ stmt_code nl (in_switch env (at + stmt_size a)) at a = moved
      (λ i. stmt_code nl (in_switch env end) i a) c2 c3 at n2' e3
      ∙ ap (λ i. c2 ++ stmt_code nl (in_switch env i) at a) e4 in
      glued c0 c1 c3 (value_code nl (length c0) v) (line p (Jump (at_label (at + stmt_size a)))
      ∷ stmt_code nl (in_switch env (at + stmt_size a)) at a) e1
      (glued c1 c2 c3 (line p (Jump (at_label (at + stmt_size a)))
      ∷ []) (stmt_code nl (in_switch env (at + stmt_size a)) at a) f2 f3)

  pub skipped_place : (p : Pos) (v : expr.Value) (end : ℕ) (c0 c1 c2 : List Line)
      → c1 ≡ c0 ++ value_code nl (length c0) v → c2 ≡ c1 ++ line p (Jump (at_label end)) ∷ []
      → length c2 ≡ length c0 + expr_size v + 1
  skipped_place p v end c0 c1 c2 e1 e2 =
      let n1 = grown c0 c1 (value_code nl (length c0) v) (expr_size v) e1 (value_long v nl (length c0)) in
      let n2 = grown c1 c2 (line p (Jump (at_label end)) ∷ []) 1 e2 refl in
      omega (arith, n1, n2)

  pub block_laid : (p q : Pos) (list : List stmt.Action) (c0 c1 c2 : List Line) →
      c1 ≡ c0 ++ unset_code p (block_locals list) →
      c2 ≡ c1 ++ stmts_code nl (in_block env (length c1) list) (length c1) (actions_of list) →
      c2 ≡ c0 ++ stmt_code nl env (length c0) (stmt.block p (actions_of list) q)
  block_laid p q list c0 c1 c2 e1 e2 =
      let at = length c0 + length (block_locals list) in
      let n1 : length c1 ≡ at = grown c0 c1 (unset_code p (block_locals list)) (length (block_locals list)) e1
      (unset_long (block_locals list) p) in
      let whole : c2 ≡ c0 ++ (unset_code p (block_locals list)
      ++ stmts_code nl (in_block env at list) at (actions_of list)) =
      glued c0 c1 c2 (unset_code p (block_locals list)) (stmts_code nl (in_block env at list) at (actions_of list))
      e1 (moved (λ i. stmts_code nl (in_block env i list) i (actions_of list)) c1 c2 at n1 e2) in
      subst (λ l. c2 ≡ c0 ++ (unset_code p (block_locals l)
      ++ stmts_code nl (in_block env (length c0 + length (block_locals l)) l)
      (length c0 + length (block_locals l)) (actions_of list))) (sym (as_actions list)) whole

  -- the place after the comparisons of a `switch`
  pub switch_place : (p : Pos) (v : expr.Value) (list : List stmt.Action) (x y : ℕ) (starts : List ℕ) (last : Line)
      (c0 c1 c2 c3 c4 : List Line) →
      c1 ≡ c0 ++ value_code nl (length c0) v →
      c2 ≡ c1 ++ unset_code p (block_locals list) →
      c3 ≡ c2 ++ case_code p x y (length c2) (cases_at list starts) →
      c4 ≡ c3 ++ last ∷ [] →
      starts ≡ list_starts (switch_from (length c0 + expr_size v) list) list →
      length c4 ≡ switch_from (length c0 + expr_size v) list
  switch_place p v list x y starts last c0 c1 c2 c3 c4 e1 e2 e3 e4 h =
      let from = switch_from (length c0 + expr_size v) list in
      let cases = cases_at list starts in
      let cs : cases ≡ list_cases from list = ap (cases_at list) h ∙ cases_placed list from in
      let many : length (case_code p x y (length c2) cases)
      ≡ 2 * length (block_cases list) = case_long cases p x y (length c2) ∙ ap (λ l. 2 * length l) cs
      ∙ ap (λ i. 2 * i) (cases_long list from) in
      let n1 = grown c0 c1 (value_code nl (length c0) v) (expr_size v) e1 (value_long v nl (length c0)) in
      let n2 = grown c1 c2 (unset_code p (block_locals list)) (length (block_locals list)) e2
      (unset_long (block_locals list) p) in
      let n3 = grown c2 c3 (case_code p x y (length c2) cases) (2 * length (block_cases list)) e3 many in
      let n4 = grown c3 c4 (last ∷ []) 1 e4 refl in
      omega (arith, n1, n2, n3, n4)

  pub switch_laid : (p r q : Pos) (v : expr.Value) (list : List stmt.Action) (x y end : ℕ) (starts : List ℕ)
      (c0 c1 c2 c3 c4 c5 : List Line) →
      x ≡ temp_of nl 0 v →
      y ≡ temp nl 1 0 →
      c1 ≡ c0 ++ value_code nl (length c0) v →
      c2 ≡ c1 ++ unset_code p (block_locals list) →
      c3 ≡ c2 ++ case_code p x y (length c2) (cases_at list starts) →
      c4 ≡ c3 ++ line p (Jump (at_label (label_or (default_at list starts) end))) ∷ [] →
      c5 ≡ c4 ++ stmts_code nl (in_block (in_switch env end) (length c4) list) (length c4) (actions_of list) →
      starts ≡ list_starts (switch_from (length c0 + expr_size v) list) list →
      end ≡ switch_from (length c0 + expr_size v) list + stmts_size (actions_of list) →
      c5 ≡ c0 ++ stmt_code nl env (length c0) (stmt.switch p v (stmt.block r (actions_of list) q))
  switch_laid p r q v list x y end starts c0 c1 c2 c3 c4 c5 hx hy e1 e2 e3 e4 e5 hs end' =
      let own = block_locals list in
      let at = length c0 + expr_size v + length own in
      let from = switch_from (length c0 + expr_size v) list in
      let last = from + stmts_size (actions_of list) in
      let n1 = grown c0 c1 (value_code nl (length c0) v) (expr_size v) e1 (value_long v nl (length c0)) in
      let n2 = grown c1 c2 (unset_code p own) (length own) e2 (unset_long own p) in
      let n2' : length c2 ≡ at = omega (arith, n1, n2) in
      let n4' : length c4 ≡ from = switch_place p v list x y starts _ c0 c1 c2 c3 c4 e1 e2 e3 e4 hs in
      let cs' : cases_at list starts ≡ list_cases from list = ap (cases_at list) hs ∙ cases_placed list from in
      let ds' : default_at list starts ≡ list_default from list = ap (default_at list) hs ∙ default_placed list from in
      let compare = case_code p (temp_of nl 0 v) (temp nl 1 0) at (list_cases from list) in
      let f3 : c3 ≡ c2 ++ compare =
      e3 ∙ ap (λ i. c2 ++ case_code p i y (length c2) (cases_at list starts)) hx
      ∙ ap (λ i. c2 ++ case_code p (temp_of nl 0 v) i (length c2) (cases_at list starts)) hy
      ∙ ap (λ i. c2 ++ case_code p (temp_of nl 0 v) (temp nl 1 0) i (cases_at list starts)) n2'
      ∙ ap (λ l. c2 ++ case_code p (temp_of nl 0 v) (temp nl 1 0) at l) cs' in
      let leap = line p (Jump (at_label (label_or (list_default from list) last))) in
      let f4 : c4 ≡ c3 ++ leap ∷ [] =
      e4 ∙ ap (λ o. c3 ++ line p (Jump (at_label (label_or o end))) ∷ []) ds'
      ∙ ap (λ i. c3 ++ line p (Jump (at_label (label_or (list_default from list) i))) ∷ []) end' in
      let body = stmts_code nl (in_block (in_switch env last) from list) from (actions_of list) in
      let f5 : c5 ≡ c4 ++ body = moved (λ i. stmts_code nl (in_block (in_switch env end) i list) i
      (actions_of list)) c4 c5 from n4' e5 ∙ ap (λ i. c4
      ++ stmts_code nl (in_block (in_switch env i) from list) from (actions_of list)) end' in
      let h4 : c5 ≡ c3 ++ leap ∷ body = glued c3 c4 c5 (leap ∷ []) body f4 f5 in
      let h3 : c5 ≡ c2 ++ (compare ++ leap ∷ body) = glued c2 c3 c5 compare (leap ∷ body) f3 h4 in
      let h2 : c5 ≡ c1 ++ (unset_code p own ++ (compare ++ leap ∷ body)) = glued c1 c2 c5 (unset_code p own)
      (compare ++ leap ∷ body) e2 h3 in
      let whole : c5 ≡ c0 ++ (value_code nl (length c0) v ++ (unset_code p own ++ (compare ++ leap ∷ body))) = glued
      c0 c1 c5 (value_code nl (length c0) v) (unset_code p own ++ (compare ++ leap ∷ body)) e1 h2 in
      subst (λ l. c5 ≡ c0 ++ (value_code nl (length c0) v
      ++ (unset_code p (block_locals l) ++ (case_code p (temp_of nl 0 v) (temp nl 1 0)
      (length c0 + expr_size v + length (block_locals l)) (list_cases (length c0 + expr_size v
      + length (block_locals l) + 2 * length (block_cases l) + 1) l)
      ++ line p (Jump (at_label (label_or (list_default (length c0 + expr_size v + length (block_locals l) + 2
      * length (block_cases l) + 1) l) (length c0 + expr_size v + length (block_locals l) + 2
      * length (block_cases l) + 1 + stmts_size (actions_of list)))))
      ∷ stmts_code nl (in_block (in_switch env (length c0 + expr_size v + length (block_locals l) + 2
      * length (block_cases l) + 1 + stmts_size (actions_of list))) (length c0 + expr_size v
      + length (block_locals l) + 2 * length (block_cases l) + 1) l) (length c0 + expr_size v
      + length (block_locals l) + 2 * length (block_cases l) + 1) (actions_of list))))) (sym (as_actions list))
      whole

  -- .. statements, one after another
  pub next_laid : (a : stmt.Action) (rest : stmt.Actions) (c0 c1 : List Line) →
      c1 ≡ c0 ++ stmt_code nl env (length c0) a →
      c0 ++ stmts_code nl env (length c0) (stmt.action_and a rest) ≡ c1 ++ stmts_code nl env (length c1) rest
  next_laid a rest c0 c1 e =
      let n = stmt_place env a c0 c1 e in
      sym (glued c0 c1 (c1 ++ stmts_code nl env (length c1) rest) (stmt_code nl env (length c0) a)
      (stmts_code nl env (length c0 + stmt_size a) rest) e (moved (λ i. stmts_code nl env i rest) c1
      (c1 ++ stmts_code nl env (length c1) rest) (length c0 + stmt_size a) n refl))

  -- .. where the statements of a part begin
  pub else_place : (p : Pos) (c : expr.Value) (a : stmt.Action) (other end : ℕ) (c0 c1 c2 c3 : List Line) →
      c1 ≡ c0 ++ test_code nl (length c0) c (length c0 + expr_size c + 1) other →
      c2 ≡ c1 ++ stmt_code nl env (length c1) a →
      c3 ≡ c2 ++ line p (Jump (at_label end)) ∷ [] →
      length c3 ≡ length c0 + expr_size c + 1 + stmt_size a + 1
  else_place p c a other end c0 c1 c2 c3 e1 e2 e3 =
      let n1 = test_place c (length c0 + expr_size c + 1) other c0 c1 e1 in
      let n2 = stmt_place env a c1 c2 e2 in
      let n3 = grown c2 c3 (line p (Jump (at_label end)) ∷ []) 1 e3 refl in
      omega (arith, n1, n2, n3)

  pub until_place : (p : Pos) (c : expr.Value) (go end : ℕ) (c0 c1 c2 : List Line) →
      c1 ≡ c0 ++ line p (Jump (at_label go)) ∷ [] →
      c2 ≡ c1 ++ test_code nl (length c1) c (length c1 + expr_size c + 1) end →
      length c2 ≡ length c0 + 1 + (expr_size c + 1)
  until_place p c go end c0 c1 c2 e1 e2 =
      let n1 = grown c0 c1 (line p (Jump (at_label go)) ∷ []) 1 e1 refl in
      let n2 = test_place c (length c1 + expr_size c + 1) end c1 c2 e2 in
      omega (arith, n1, n2)
