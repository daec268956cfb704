-- No temporary is kept at a loop's head, nor where one statement's instructions end and another's begin.
use Rattle.std.proofs.Common.{◌≡◌, ◌⊎◌, inl, inr, ℕ, zero, suc, ◌+◌, ◌*◌, ◌≤◌, ◌==◌, List, [], ◌∷◌, ◌++◌, length}
use Rattle.std.proofs.Common.{Option, Some, None, refl, sym, ap, ◌∙◌, subst, arith, Bool, true, false, if◌then◌else◌}
use Rattle.std.specs.Prelude.{slice_get, nat_le, ◌&&◌, ◌||◌, is_some}
use Rattle.std.proofs.lemmas.Bool.{eqb-true, leb-true}
use Rattle.pungi_base.specs.declared.pos.Pos.{Pos}
use Rattle.pungi_types.specs.Operators.{is_void}
use Rattle.pungi_resolved.specs.Actions as stmt
use Rattle.pungi_resolved.specs.Functions.{ResolvedFunction}
use Rattle.pungi_meaning.specs.Run.{closing_brace}
use Rattle.pungi_meaning.specs.Stmts.{block_cases}
use Rattle.pungi_meaning.specs.Todo.{listed}
use Rattle.pungi_meaning.specs.Work.{block_locals}
use Rattle.pungi_code.specs.declared.code.Head.{Head}
use Rattle.pungi_code.specs.declared.code.Line.{Line}
use Rattle.pungi_code.specs.declared.instr.Instr.{Instr}
use Rattle.pungi_code.specs.declared.instr.Instr.TheVariants.{Jump, Branch}
use Rattle.pungi_code.specs.WellFormed.{targets}
use Rattle.pungi_layout.specs.declared.mark.Mark.{Mark}
use Rattle.pungi_layout.specs.declared.mark.Mark.TheVariants.{OfLoop, OfLabel}
use Rattle.pungi_layout.specs.code.Sizes.{expr_size, option_size, declare_size, test_size, stmt_size, stmts_size}
use Rattle.pungi_layout.specs.code.ExprCode.{line, at_label}
use Rattle.pungi_layout.specs.code.Scopes.{Env, everywhere, for_head, list_cases, in_block, in_loop, in_switch}
use Rattle.pungi_layout.specs.code.StmtCode.{unset_code, value_code, option_code, declare_code, test_code, tested_code}
use Rattle.pungi_layout.specs.code.StmtCode.{case_code, stmt_code, stmts_code, end_code, body_code}
use Rattle.pungi_layout.specs.code.Sound.{IsStmtSound, AreStmtsSound}
use Rattle.pungi_layout.specs.code.Heads.{stmt_marks, stmts_marks, loop_pos, label_pos, names, leads_back, back_pos}
use Rattle.pungi_layout.specs.code.Heads.{head_pos, found_head, heads_below, heads_of}
use Rattle.pungi_layout.specs.liveness.Liveness.{Among, following, AreDead}
use Rattle.pungi_layout.specs.liveness.Boundaries.{own, parts, IsAmong, IsPart, IsHead, KeepsNothing}
use Rattle.pungi_layout.proofs.code.StmtLengths.{unset_long, value_long, option_long, declare_long, test_long}
use Rattle.pungi_layout.proofs.code.StmtLengths.{tested_long, case_long, cases_long, stmt_long}
use Rattle.pungi_layout.proofs.relation.Waiting.{switch_first}
use Rattle.pungi_layout.proofs.relation.Standing.{HasAt, has_cut, has_all}
use Rattle.pungi_layout.proofs.liveness.Paths.{by_line}
use Rattle.pungi_layout.proofs.liveness.Values.{Dead, EnvBelow, switch_below, jump_dead}
use Rattle.pungi_layout.proofs.liveness.Stmts.{loop_dead, inside_dead, inner_below, front, starts_dead, stmt_dead}
use Rattle.pungi_layout.proofs.liveness.Stmts.{list_label_dead}
use Rattle.pungi_layout.proofs.boundaries.Places.{Fine, EachFine, AllFine, all_append}
use Rattle.pungi_layout.proofs.boundaries.Stmts.{EnvAll, stmt_fine}

module _ (code : List Line) (nl : ℕ) where
  -- the heads of loops among the marks
  abbrev MarksDead : List Mark → Type 0
  MarksDead [] = Unit {0}
  MarksDead (OfLoop h ∷ ms) = AreDead code nl h.label.0 × MarksDead ms
  MarksDead (OfLabel h ∷ ms) = MarksDead ms

  marks_both : (ms ns : List Mark) → MarksDead ms → MarksDead ns → MarksDead (ms ++ ns)
  marks_both [] ns h g = g
  marks_both (OfLoop k ∷ ms) ns h g = (h.0, marks_both ms ns h.1 g)
  marks_both (OfLabel k ∷ ms) ns h g = marks_both ms ns h g

  marks_at : (a b : ℕ) (s : stmt.Action) → a ≡ b → MarksDead (stmt_marks a s) → MarksDead (stmt_marks b s)
  marks_at a b s e h = subst (λ x. MarksDead (stmt_marks x s)) e h

  dead_at : (a b : ℕ) → a ≡ b → AreDead code nl a → AreDead code nl b
  dead_at a b e h = subst (AreDead code nl) e h

  mutual
    marks_dead : (a : stmt.Action) (env : Env) (pc : ℕ) → IsStmtSound nl a → HasAt code pc (stmt_code nl env pc a)
        → EnvAll code nl [] env → AreDead code nl (pc + stmt_size a) → MarksDead (stmt_marks pc a)
    marks_dead (stmt.block p ss r) env pc s h below next =
        let vars = block_locals (listed ss) in
        let from = pc + length vars in
        let list = listed ss in
        let inner = in_block env from list in
        let g = has_cut code pc (length vars) (unset_code p vars) (stmts_code nl inner from ss) (unset_long vars p) h in
        let e : pc + (length vars + stmts_size ss) ≡ from + stmts_size ss = omega arith in
        let end = dead_at _ _ e next in
        list_marks_dead ss inner from s g.1 (λ n. inner_below code nl env from (from + stmts_size ss) list
        (λ m bm nm l q eq. list_label_dead code nl ss inner from m s g.1 bm nm l q eq) n (below n) (end n)) end
    marks_dead (stmt.declare p rs) env pc s h below next = tt
    marks_dead (stmt.do_expr p v) env pc s h below next = tt
    marks_dead (stmt.if_only p c a) env pc s h below next =
        let pa = pc + expr_size c + 1 in
        let end = pa + stmt_size a in
        let e : pc + (expr_size c + 1) ≡ pa = omega arith in
        let f : pc + (expr_size c + 1 + stmt_size a) ≡ end = omega arith in
        let g = has_cut code pc (expr_size c + 1) (test_code nl pc c pa end) (stmt_code nl env pa a)
        (test_long c nl pc pa end) h in
        marks_dead a env pa s.1 (subst (λ x. HasAt code x (stmt_code nl env pa a)) e g.1) below (dead_at _ _ f next)
    marks_dead (stmt.if_else p c a b) env pc s h below next =
        let pa = pc + expr_size c + 1 in
        let pj = pa + stmt_size a in
        let pb = pj + 1 in
        let end = pb + stmt_size b in
        let e : pc + (expr_size c + 1) ≡ pa = omega arith in
        let d : pc + (expr_size c + 1 + stmt_size a + 1 + stmt_size b) ≡ end = omega arith in
        let ca = stmt_code nl env pa a in
        let rest = ca ++ line p (Jump (at_label end)) ∷ stmt_code nl env pb b in
        let g = has_cut code pc (expr_size c + 1) (test_code nl pc c pa pb) rest (test_long c nl pc pa pb) h in
        let f = has_cut code pa (stmt_size a) ca (line p (Jump (at_label end)) ∷ stmt_code nl env pb b)
        (stmt_long a nl env pa) (subst (λ x. HasAt code x rest) e g.1) in
        let next' = dead_at _ _ d next in
        marks_both (stmt_marks pa a) (stmt_marks pb b) (marks_dead a env pa s.1 f.0 below
        (λ n. jump_dead code nl n pj end p f.1.0 (next' n))) (marks_dead b env pb s.2 f.1.1 below next')
    marks_dead (stmt.while p c a) env pc s h below next =
        let go = pc + (expr_size c + 1) in
        let again = go + stmt_size a in
        let end = again + 0 + 1 in
        let inner = in_loop env again end in
        let z : again ≡ again + 0 = omega arith in
        let d : pc + (expr_size c + 1 + stmt_size a + 1) ≡ end = omega arith in
        let g = has_cut code pc (expr_size c + 1) (test_code nl pc c go end) _ (test_long c nl pc go end) h in
        let f = has_cut code go (stmt_size a) (stmt_code nl inner go a) _ (stmt_long a nl inner go) g.1 in
        let j = subst (λ x. slice_get code x ≡ Some (line p (Jump (at_label pc)))) z f.1.0 in
        let next' = dead_at _ _ d next in
        let body : (m : ℕ) → EnvBelow code nl m inner → Dead code nl m again
        → Dead code nl m go = λ m bm nm. stmt_dead code nl a inner go m s.1 f.0 bm nm in
        let i = λ (n : ℕ). inside_dead code nl p (Some c) None env pc (stmt_size a) s.0 tt g.0 tt j body n (below n)
        (next' n) in (
          λ n. loop_dead code nl p (Some c) None env pc (stmt_size a) s.0 tt g.0 tt j body n (below n) (next' n),
          marks_dead a inner go s.1 f.0 (λ n. (i n).0) (λ n. (i n).1),
        )
    marks_dead (stmt.do_while p a c) env pc s h below next =
        let head = pc + 1 in
        let go = head + (expr_size c + 1) in
        let again = go + stmt_size a in
        let end = again + 0 + 1 in
        let inner = in_loop env again end in
        let z : again ≡ again + 0 = omega arith in
        let d : pc + (1 + expr_size c + 1 + stmt_size a + 1) ≡ end = omega arith in
        let g = has_cut code head (expr_size c + 1) (test_code nl head c go end) _ (test_long c nl head go end)
        h.1 in
        let f = has_cut code go (stmt_size a) (stmt_code nl inner go a) _ (stmt_long a nl inner go) g.1 in
        let j = subst (λ x. slice_get code x ≡ Some (line p (Jump (at_label head)))) z f.1.0 in
        let next' = dead_at _ _ d next in
        let body : (m : ℕ) → EnvBelow code nl m inner → Dead code nl m again
        → Dead code nl m go = λ m bm nm. stmt_dead code nl a inner go m s.1 f.0 bm nm in
        let i = λ (n : ℕ). inside_dead code nl p (Some c) None env head (stmt_size a) s.0 tt g.0 tt j body n
        (below n) (next' n) in (
          λ n. loop_dead code nl p (Some c) None env head (stmt_size a) s.0 tt g.0 tt j body n (below n) (next' n),
          marks_dead a inner go s.1 f.0 (λ n. (i n).0) (λ n. (i n).1),
        )
    marks_dead (stmt.for p rs u c w a) env pc s h below next =
        let n1 = pc + length rs in
        let n2 = n1 + declare_size rs in
        let head = for_head pc rs u in
        let go = head + test_size c in
        let again = go + stmt_size a in
        let end = again + option_size w + 1 in
        let inner = in_loop env again end in
        let d : pc + (length rs + declare_size rs + option_size u + test_size c + stmt_size a + option_size w + 1)
        ≡ end = omega arith in
        let g1 = has_cut code pc (length rs) (unset_code p rs) _ (unset_long rs p) h in
        let g2 = has_cut code n1 (declare_size rs) (declare_code nl n1 rs) _ (declare_long rs nl n1) g1.1 in
        let g3 = has_cut code n2 (option_size u) (option_code nl n2 u) _ (option_long u nl n2) g2.1 in
        let g4 = has_cut code head (test_size c) (tested_code nl head c go end) _ (tested_long c nl head go end)
        g3.1 in
        let g5 = has_cut code go (stmt_size a) (stmt_code nl inner go a) _ (stmt_long a nl inner go) g4.1 in
        let g6 = has_cut code again (option_size w) (option_code nl again w) _ (option_long w nl again) g5.1 in
        let next' = dead_at _ _ d next in
        let body : (m : ℕ) → EnvBelow code nl m inner → Dead code nl m again
        → Dead code nl m go = λ m bm nm. stmt_dead code nl a inner go m s.4 g5.0 bm nm in
        let i = λ (n : ℕ). inside_dead code nl p c w env head (stmt_size a) s.2 s.3 g4.0 g6.0 g6.1.0 body n
        (below n) (next' n) in (
          λ n. loop_dead code nl p c w env head (stmt_size a) s.2 s.3 g4.0 g6.0 g6.1.0 body n (below n) (next' n),
          marks_dead a inner go s.4 g5.0 (λ n. (i n).0) (λ n. (i n).1),
        )
    marks_dead (stmt.switch p v (stmt.block t ss r)) env pc s h below next =
        let vars = block_locals (listed ss) in
        let list = listed ss in
        let count = length vars in
        let q = pc + expr_size v in
        let from = switch_first q count ss in
        let end = from + stmts_size ss in
        let env' = in_switch env end in
        let inner = in_block env' from list in
        let at = q + count in
        let k = 2 * length (block_cases list) in
        let d : pc + (expr_size v + (count + k + 1 + stmts_size ss)) ≡ end = omega arith in
        let g1 = has_cut code pc (expr_size v) (value_code nl pc v) _ (value_long v nl pc) h in
        let g2 = has_cut code q count (unset_code p vars) _ (unset_long vars p) g1.1 in
        let g3 = has_cut code at k (case_code p _ _ at (list_cases from list)) _
        (case_long (list_cases from list) p _ _ at ∙ ap (λ i. 2 * i) (cases_long list from)) g2.1 in
        let next' = dead_at _ _ d next in
        let below' : EnvAll code nl [] env' = λ n. switch_below code nl n env end (below n) (next' n) in
        list_marks_dead ss inner from s.1 g3.1.1 (λ n. inner_below code nl env' from end list
        (λ m bm nm l z eq. list_label_dead code nl ss inner from m s.1 g3.1.1 bm nm l z eq) n (below' n)
        (next' n)) next'
    marks_dead (stmt.switch p v a) env pc s h below next =
        let q = pc + expr_size v in
        let end = q + 1 + stmt_size a in
        let d : pc + (expr_size v + (1 + stmt_size a)) ≡ end = omega arith in
        let g = has_cut code pc (expr_size v) (value_code nl pc v) _ (value_long v nl pc) h in
        let next' = dead_at _ _ d next in
        marks_dead a (in_switch env end) (q + 1) s.1 g.1.1 (λ n. switch_below code nl n env end (below n) (next' n))
        next'
    marks_dead (stmt.case p m a) env pc s h below next = marks_dead a env pc s h below next
    marks_dead (stmt.default p a) env pc s h below next = marks_dead a env pc s h below next
    marks_dead (stmt.label p l a) env pc s h below next = marks_dead a env pc s h below next
    marks_dead (stmt.goto p l) env pc s h below next = tt
    marks_dead (stmt.break p) env pc s h below next = tt
    marks_dead (stmt.continue p) env pc s h below next = tt
    marks_dead (stmt.return p k v) env pc s h below next = tt

    list_marks_dead : (ss : stmt.Actions) (env : Env) (pc : ℕ) → AreStmtsSound nl ss
        → HasAt code pc (stmts_code nl env pc ss) → EnvAll code nl [] env → AreDead code nl (pc + stmts_size ss)
        → MarksDead (stmts_marks pc ss)
    list_marks_dead stmt.no_actions env pc s h below next = tt
    list_marks_dead (stmt.action_and a ss) env pc s h below next =
        let q = pc + stmt_size a in
        let e : pc + (stmt_size a + stmts_size ss) ≡ q + stmts_size ss = omega arith in
        let g = has_cut code pc (stmt_size a) (stmt_code nl env pc a) (stmts_code nl env q ss)
        (stmt_long a nl env pc) h in
        let next' = dead_at _ _ e next in
        let start : AreDead code nl q = λ n. front code nl n q ss (starts_dead code nl ss env q n s.1 g.1 (below n)
        (next' n)) in
        marks_both (stmt_marks pc a) (stmts_marks q ss) (marks_dead a env pc s.0 g.0 below start)
        (list_marks_dead ss env q s.1 g.1 below next')

  -- ---- which places are heads

  loop_here : (b : Bool) (n : ℕ) (h : Head) (o : Option Pos) → (b ≡ true → h.label.0 ≡ n)
      → AreDead code nl h.label.0 → (is_some o ≡ true → AreDead code nl n)
      → is_some (if b then Some h.pos else o) ≡ true → AreDead code nl n
  loop_here true n h o e dead rest is = dead_at _ _ (e refl) dead
  loop_here false n h o e dead rest is = rest is

  loop_found : (n : ℕ) (ms : List Mark) → MarksDead ms → is_some (loop_pos n ms) ≡ true → AreDead code nl n
  loop_found n [] m is = absurd (cc)
  loop_found n (OfLoop h ∷ ms) m is = loop_here (h.label.0 == n) n h (loop_pos n ms) (eqb-true h.label.0 n) m.0
      (loop_found n ms m.1) is
  loop_found n (OfLabel h ∷ ms) m is = loop_found n ms m is

  and_left : (a b : Bool) → (a && b) ≡ true → a ≡ true
  and_left true b e = refl
  and_left false b e = absurd (cc)

  and_right : (a b : Bool) → (a && b) ≡ true → b ≡ true
  and_right true b e = e
  and_right false b e = absurd (cc)

  or_either : (a b : Bool) → (a || b) ≡ true → (a ≡ true) ⊎ (b ≡ true)
  or_either true b e = inl refl
  or_either false b e = inr e

  module _ (all : List stmt.Action) where
    by_fine : (i n : ℕ) (p : Pos) → n ≤ i → Fine code nl all i p n → AreDead code nl n
    by_fine i n p le (inl dead) = dead
    by_fine i n p le (inr more) = absurd (let lt = more.0 in omega (arith, le, lt))

    fine_to : (i n m : ℕ) (p : Pos) → n ≤ i → (m == n) ≡ true → Fine code nl all i p m → AreDead code nl n
    fine_to i n m p le e h = let q : m ≡ n = eqb-true m n e in by_fine i n p le (subst (Fine code nl all i p) q h)

    no_target : false ≡ true → ⊥
    no_target e = absurd (cc)

    target_dead : (i n : ℕ) (p : Pos) (x : Instr) → n ≤ i → EachFine code nl all i p (following i x)
        → names n (targets x) ≡ true → AreDead code nl n
    target_dead i n p (Jump to) le h is = elim (or_either (to.0 == n) false is) [
      | inl e ↦ fine_to i n to.0 p le e h.0
      | inr e ↦ absurd (no_target e)
    ]
    target_dead i n p (Branch a this other) le h is = elim (or_either (this.0 == n) (names n (other ∷ [])) is) [
      | inl e ↦ fine_to i n this.0 p le e h.0
      | inr r ↦ elim (or_either (other.0 == n) false r) [
        | inl e ↦ fine_to i n other.0 p le e h.1.0
        | inr e ↦ absurd (no_target e)
      ]
    ]
    target_dead i n p x le h is = absurd (cc)

    back_found : (ls : List Line) (i n : ℕ) → AllFine code nl all i ls → leads_back n i ls ≡ true → AreDead code nl n
    back_found [] i n h is = absurd (cc)
    back_found (l ∷ ls) i n h is = elim (or_either (nat_le n i && names n (targets l.instr))
        (leads_back n (i + 1) ls) is) [
          | inl e ↦ target_dead i n l.pos l.instr (leb-true n i (and_left (nat_le n i) (names n (targets l.instr)) e))
              h.0 (and_right (nat_le n i) (names n (targets l.instr)) e)
          | inr e ↦ back_found ls (i + 1) n h.1 e
        ]

    head_found : (n : ℕ) (o : Option Pos) (back : Bool) (l : Option Pos) → (is_some o ≡ true → AreDead code nl n)
        → (back ≡ true → AreDead code nl n) → (h : Head) → IsHead h (found_head n (back_pos o back l))
        → AreDead code nl h.label.0
    head_found n (Some p) back l loop jump h (inl e) = subst (λ x. AreDead code nl x.label.0) (sym e) (loop refl)
    head_found n (Some p) back l loop jump h (inr m) = absurd m
    head_found n None true l loop jump h (inl e) = subst (λ x. AreDead code nl x.label.0) (sym e) (jump refl)
    head_found n None true l loop jump h (inr m) = absurd m
    head_found n None false l loop jump h m = absurd m

    head_in : (h : Head) (xs ys : List Head) → IsHead h (xs ++ ys) → IsHead h xs ⊎ IsHead h ys
    head_in h [] ys m = inr m
    head_in h (x ∷ xs) ys (inl e) = inl (inl e)
    head_in h (x ∷ xs) ys (inr m) = elim (head_in h xs ys m) [ inl k ↦ inl (inr k) | inr k ↦ inr k ]

    heads_dead : (ms : List Mark) (ls : List Line) (n : ℕ) → MarksDead ms → AllFine code nl all 0 ls → (h : Head)
        → IsHead h (heads_below ms ls n) → AreDead code nl h.label.0
    heads_dead ms ls zero m f h is = absurd is
    heads_dead ms ls (suc n) m f h is = elim (head_in h (heads_below ms ls n) (found_head n (head_pos ms ls n)) is) [
      | inl k ↦ heads_dead ms ls n m f h k
      | inr k ↦ head_found n (loop_pos n ms) (leads_back n 0 ls) (label_pos n ms) (loop_found n ms m)
          (back_found ls 0 n f) h k
    ]

    -- what an instruction of a list leads to
    fine_of : (ls : List Line) (pc i : ℕ) (l : Line) → AllFine code nl all pc ls → slice_get ls i ≡ Some l
        → EachFine code nl all (pc + i) l.pos (following (pc + i) l.instr)
    fine_of [] pc i l h e = absurd (cc)
    fine_of (k ∷ ls) pc zero l h e =
        let same : k ≡ l = cc in
        let z : pc ≡ pc + 0 = omega arith in
        subst (λ n. EachFine code nl all n l.pos (following n l.instr)) z (subst
        (λ (x : Line). EachFine code nl all pc x.pos (following pc x.instr)) same h.0)
    fine_of (k ∷ ls) pc (suc i) l h e =
        let z : pc + 1 + i ≡ pc + suc i = omega arith in
        subst (λ n. EachFine code nl all n l.pos (following n l.instr)) z (fine_of ls (pc + 1) i l h.1 e)

    one_of : (i : ℕ) (p : Pos) (qs : List ℕ) (q : ℕ) → EachFine code nl all i p qs → Among q qs → Fine code nl all i p q
    one_of i p [] q h m = absurd m
    one_of i p (x ∷ qs) q h (inl e) = subst (Fine code nl all i p) (sym e) h.0
    one_of i p (x ∷ qs) q h (inr m) = one_of i p qs q h.1 m

    apart : (i to : ℕ) (p : Pos) (next : Line) → slice_get code to ≡ Some next → Fine code nl all i p to
        → (((a : stmt.Action) × IsPart a all × IsAmong p (own a) × IsAmong next.pos (own a)) → ⊥) → AreDead code nl to
    apart i to p next e (inl dead) no' = dead
    apart i to p next e (inr h) no' =
        let same : h.4.0 ≡ next = let here : slice_get code to ≡ Some h.4.0 = h.4.1 in cc in
        absurd (no' (h.1, h.2, h.3, subst (λ (x : Line). IsAmong x.pos (own h.1)) same h.4.2))

end_dead : (void : Bool) (code : List Line) (nl pc n : ℕ) (p : Pos) → HasAt code pc (end_code p void)
    → Dead code nl n pc
end_dead true code nl pc n p h = by_line code nl n pc [] _ h.0 tt tt
end_dead false code nl pc n p h = by_line code nl n pc [] _ h.0 tt tt

end_fine : (void : Bool) (code : List Line) (nl pc : ℕ) (all : List stmt.Action) (p : Pos)
    → AllFine code nl all pc (end_code p void)
end_fine true code nl pc all p = (tt, tt)
end_fine false code nl pc all p = (tt, tt)

everywhere_dead : (code : List Line) (nl size n : ℕ) → AreDead code nl size → EnvBelow code nl n (everywhere size)
everywhere_dead code nl size zero h = tt
everywhere_dead code nl size (suc n) h = (h n, h n, λ l. h n)

-- .. of the layout of a function
pub keeps_nothing : (f : ResolvedFunction) → IsStmtSound f.locals f.body
    → KeepsNothing f (body_code f) (heads_of f) f.locals
keeps_nothing f s =
    let nl = f.locals in
    let code = body_code f in
    let size = stmt_size f.body in
    let env = everywhere size in
    let all = parts f.body in
    let body = stmt_code nl env 0 f.body in
    let last = end_code (closing_brace f.body) (is_void f.result) in
    let g = has_cut code 0 size body last (stmt_long f.body nl env 0) (has_all code []) in
    let z : 0 + size ≡ size = omega arith in
    let end : AreDead code nl (0 + size) = λ n. end_dead (is_void f.result) code nl (0 + size) n
    (closing_brace f.body) g.1 in
    let end' : AreDead code nl size = subst (AreDead code nl) z end in
    let below : EnvAll code nl all env = λ n. everywhere_dead code nl size n end' in
    let fine = stmt_fine code nl all f.body env 0 s (λ b m. m) g.0 below end in
    let whole : AllFine code nl all 0 code = all_append code nl all 0 size body last (stmt_long f.body nl env 0)
    fine (end_fine (is_void f.result) code nl (0 + size) all (closing_brace f.body)) in
    let marks = marks_dead code nl f.body env 0 s g.0 below end in
    record {
      between = λ from to l next here m there no'.
          let zero_more : 0 + from ≡ from = omega arith in
          let each = subst (λ n. EachFine code nl all n l.pos (following n l.instr)) zero_more
          (fine_of code nl all code 0 from l whole here) in
          apart code nl all from to l.pos next there (one_of code nl all from l.pos (following from l.instr) to each
          m) no';
      at_heads = heads_dead code nl all (stmt_marks 0 f.body) code (length code) marks whole;
    }
