-- An instruction of a statement leads to one of the same statement, further on, or to where no temporary is kept.
use Rattle.std.proofs.Common.{◌≡◌, inl, inr, ℕ, suc, ◌+◌, ◌*◌, ℤ, List, [], ◌∷◌, ◌++◌, length, Option, Some, None, refl}
use Rattle.std.proofs.Common.{sym, ap, ◌∙◌, subst, arith}
use Rattle.std.specs.Prelude.{slice_get}
use Rattle.pungi_base.specs.declared.pos.Pos.{Pos}
use Rattle.pungi_types.specs.declared.kind.ValueKind.{ValueKind}
use Rattle.pungi_resolved.specs.Values as expr
use Rattle.pungi_resolved.specs.Actions as stmt
use Rattle.pungi_meaning.specs.Stmts.{block_cases}
use Rattle.pungi_meaning.specs.Todo.{listed}
use Rattle.pungi_meaning.specs.Work.{block_locals}
use Rattle.pungi_code.specs.declared.code.Line.{Line}
use Rattle.pungi_code.specs.declared.instr.Instr.TheVariants.{Set, Jump}
use Rattle.pungi_layout.specs.code.Sizes.{expr_size, option_size, declare_size, test_size, stmt_size, stmts_size}
use Rattle.pungi_layout.specs.code.Temporaries.{temp, temp_of, operand, local_column}
use Rattle.pungi_layout.specs.code.ExprCode.{line, to_var, var, at_label, expr_code}
use Rattle.pungi_layout.specs.code.Scopes.{Env, label_or, for_head, list_cases, list_default, in_block, in_loop}
use Rattle.pungi_layout.specs.code.Scopes.{in_switch}
use Rattle.pungi_layout.specs.code.StmtCode.{unset_code, value_code, option_code, bind_code, declare_code, test_code}
use Rattle.pungi_layout.specs.code.StmtCode.{tested_code, case_code, stmt_code, stmts_code}
use Rattle.pungi_layout.specs.code.Sound.{IsWanted, IsOptionSound, IsOptionWanted, AreDeclared, IsStmtSound}
use Rattle.pungi_layout.specs.code.Sound.{AreStmtsSound}
use Rattle.pungi_layout.specs.liveness.Liveness.{AreDead}
use Rattle.pungi_layout.specs.code.FirstTokens.{first_token}
use Rattle.pungi_layout.specs.liveness.Boundaries.{expr_positions, option_positions, declare_positions, own, parts}
use Rattle.pungi_layout.specs.liveness.Boundaries.{parts_of, IsAmong, IsPart}
use Rattle.pungi_layout.proofs.code.ExprLengths.{expr_long}
use Rattle.pungi_layout.proofs.code.StmtLengths.{unset_long, value_long, option_long, bind_long, declare_long}
use Rattle.pungi_layout.proofs.code.StmtLengths.{test_long, tested_long, case_long, cases_long, stmt_long}
use Rattle.pungi_layout.proofs.relation.Waiting.{switch_first}
use Rattle.pungi_layout.proofs.relation.Standing.{HasAt, has_cut}
use Rattle.pungi_layout.proofs.liveness.Values.{Dead, EnvBelow, switch_below, option_dead, jump_dead, declare_dead}
use Rattle.pungi_layout.proofs.liveness.Stmts.{loop_dead, inside_dead, CasesDead, cases_dead, default_dead, inner_below}
use Rattle.pungi_layout.proofs.liveness.Stmts.{front, starts_dead, stmt_dead, list_label_dead}
use Rattle.pungi_layout.proofs.boundaries.Places.{Covers, covers_front, covers_back, AllFine, all_append, fine_at, Exit}
use Rattle.pungi_layout.proofs.boundaries.Places.{exit_at, leap, step, here}
use Rattle.pungi_layout.proofs.boundaries.FirstTokens.{first_among}
use Rattle.pungi_layout.proofs.boundaries.Places.{one_fine}
use Rattle.pungi_layout.proofs.boundaries.Exprs.{expr_fine}

part_front : (a : stmt.Action) (xs ys : List stmt.Action) → IsPart a xs → IsPart a (xs ++ ys)
part_front a [] ys m = absurd m
part_front a (x ∷ xs) ys (inl e) = inl e
part_front a (x ∷ xs) ys (inr m) = inr (part_front a xs ys m)

part_back : (a : stmt.Action) (xs ys : List stmt.Action) → IsPart a ys → IsPart a (xs ++ ys)
part_back a [] ys m = m
part_back a (x ∷ xs) ys m = inr (part_back a xs ys m)

module _ (code : List Line) (nl : ℕ) (all : List stmt.Action) where
  abbrev Each : ℕ → List Line → Type 0
  Each pc ls = AllFine code nl all pc ls

  abbrev pub EnvAll : Env → Type 0
  EnvAll env = (n : ℕ) → EnvBelow code nl n env

  dead_at : (a b : ℕ) → a ≡ b → AreDead code nl a → AreDead code nl b
  dead_at a b e h = subst (AreDead code nl) e h

  -- ---- the own instructions of a statement

  module _ (a : stmt.Action) (part : IsPart a all) where
    unset_enters : (rs : List stmt.DeclaredLocal) (p : Pos) (pc : ℕ) → IsAmong p (own a)
        → HasAt code pc (unset_code p rs) → Exit code nl all a part (pc + length rs) → Exit code nl all a part pc
    unset_enters [] p pc m h next = let e : pc + 0 ≡ pc = omega arith in exit_at code nl all a part _ _ e next
    unset_enters (r ∷ rs) p pc m h next = here code nl all a part pc p _ h.0 m

    unset_fine : (rs : List stmt.DeclaredLocal) (p : Pos) (pc : ℕ) → IsAmong p (own a)
        → HasAt code pc (unset_code p rs) → Exit code nl all a part (pc + length rs) → Each pc (unset_code p rs)
    unset_fine [] p pc m h next = tt
    unset_fine (r ∷ rs) p pc m h next =
        let e : pc + suc (length rs) ≡ pc + 1 + length rs = omega arith in
        let next' = exit_at code nl all a part _ _ e next in (
          (step code nl all a part pc p m (unset_enters rs p (pc + 1) m h.1 next'), tt),
          unset_fine rs p (pc + 1) m
              h.1 next',
        )

    option_fine : (o : Option expr.Value) (pc : ℕ) → IsOptionSound nl o → Covers (option_positions o) (own a)
        → HasAt code pc (option_code nl pc o) → Exit code nl all a part (pc + option_size o)
        → Each pc (option_code nl pc o)
    option_fine None pc s c h next = tt
    option_fine (Some v) pc s c h next = expr_fine code nl all a part v 0 (temp_of nl 0 v) pc s c h next

    bind_fine : (o : Option expr.Value) (pc x : ℕ) (p : Pos) (kind : Option ValueKind) → IsOptionWanted nl o
        → IsAmong p (own a) → Covers (option_positions o) (own a) → HasAt code pc (bind_code nl pc p x kind o)
        → Exit code nl all a part (pc + (option_size o + 1)) → Each pc (bind_code nl pc p x kind o)
    bind_fine None pc x p kind s m c h next = ((step code nl all a part pc p m next, tt), tt)
    bind_fine (Some v) pc x p kind s m c h next =
        let y = operand nl 0 (local_column kind) v in
        let q = pc + expr_size v in
        let e : pc + (expr_size v + 1) ≡ q + 1 = omega arith in
        let g = has_cut code pc (expr_size v) (expr_code nl 0 y pc v) _ (expr_long v nl 0 y pc) h in
        all_append code nl all pc (expr_size v) (expr_code nl 0 y pc v) _ (expr_long v nl 0 y pc)
        (expr_fine code nl all a part v 0 y pc s.1 c g.0 (here code nl all a part q p _ g.1.0 m))
        (one_fine code nl all a part q p (Set (to_var x) (var y)) refl m (exit_at code nl all a part _ _ e next))

    declare_fine : (rs : List stmt.DeclaredLocal) (pc : ℕ) → AreDeclared nl rs
        → Covers (declare_positions rs) (own a) → HasAt code pc (declare_code nl pc rs)
        → AreDead code nl (pc + declare_size rs) → Each pc (declare_code nl pc rs)
    declare_fine [] pc s c h next = tt
    declare_fine (r ∷ rs) pc s c h next =
        let size = option_size r.value + 1 in
        let q = pc + option_size r.value + 1 in
        let f : pc + size ≡ q = omega arith in
        let e : pc + (size + declare_size rs) ≡ q + declare_size rs = omega arith in
        let inner : Covers (option_positions r.value ++ declare_positions rs) (own a) = λ x k. c x (inr k) in
        let cv = covers_front (option_positions r.value) (declare_positions rs) (own a) inner in
        let cr = covers_back (option_positions r.value) (declare_positions rs) (own a) inner in
        let g = has_cut code pc size (bind_code nl pc r.at r.number r.kind r.value) _
        (bind_long r.value nl pc r.number r.at r.kind) h in
        let h' = subst (λ x. HasAt code x (declare_code nl q rs)) f g.1 in
        let next' = dead_at _ _ e next in
        let start : AreDead code nl q = λ n. declare_dead code nl rs q n s.2 h' (next' n) in
        all_append code nl all pc size (bind_code nl pc r.at r.number r.kind r.value) (declare_code nl q rs)
        (bind_long r.value nl pc r.number r.at r.kind)
        (bind_fine r.value pc r.number r.at r.kind s.1 (c r.at (inl refl)) cv g.0 (inl (dead_at _ _ (sym f) start)))
        (fine_at code nl all _ _ (declare_code nl q rs) (sym f) (declare_fine rs q s.2 cr h' next'))

    test_fine : (c : expr.Value) (pc go other : ℕ) → IsWanted nl c → Covers (expr_positions c) (own a)
        → HasAt code pc (test_code nl pc c go other) → AreDead code nl go → AreDead code nl other
        → Each pc (test_code nl pc c go other)
    test_fine c pc go other s cs h this that =
        let x = temp_of nl 0 c in
        let q = pc + expr_size c in
        let g = has_cut code pc (expr_size c) (value_code nl pc c) _ (value_long c nl pc) h in
        all_append code nl all pc (expr_size c) (value_code nl pc c) _ (value_long c nl pc)
        (expr_fine code nl all a part c 0 x pc s.1 cs g.0 (here code nl all a part q (first_token c) _ g.1.0
        (cs (first_token c) (first_among nl c s.1))))
        ((inl this, (inl that, tt)), tt)

    tested_fine : (o : Option expr.Value) (pc go other : ℕ) → IsOptionWanted nl o → Covers (option_positions o) (own a)
        → HasAt code pc (tested_code nl pc o go other) → AreDead code nl go → AreDead code nl other
        → Each pc (tested_code nl pc o go other)
    tested_fine None pc go other s cs h this that = tt
    tested_fine (Some c) pc go other s cs h this that = test_fine c pc go other s cs h this that

    chain_enters : (cs : List (ℤ × ℕ)) (p : Pos) (x y pc other : ℕ) (rest : List Line) → IsAmong p (own a)
        → HasAt code pc (case_code p x y pc cs ++ line p (Jump (at_label other)) ∷ rest) → Exit code nl all a part pc
    chain_enters [] p x y pc other rest m h = here code nl all a part pc p _ h.0 m
    chain_enters (c ∷ cs) p x y pc other rest m h = here code nl all a part pc p _ h.0 m

    chain_fine : (cs : List (ℤ × ℕ)) (p : Pos) (x y pc other : ℕ) (rest : List Line) → IsAmong p (own a)
        → ((n : ℕ) → CasesDead code nl n cs) → AreDead code nl other
        → HasAt code pc (case_code p x y pc cs ++ line p (Jump (at_label other)) ∷ rest)
        → Each (pc + 2 * length cs + 1) rest → Each pc (case_code p x y pc cs ++ line p (Jump (at_label other))
        ∷ rest)
    chain_fine [] p x y pc other rest m cases next h more =
        let e : pc + 0 + 1 ≡ pc + 1 = omega arith in
        ((inl next, tt), fine_at code nl all _ _ rest e more)
    chain_fine (c ∷ cs) p x y pc other rest m cases next h more =
        let e : pc + 1 + 1 ≡ pc + 2 = omega arith in
        let d : pc + 2 * suc (length cs) + 1 ≡ pc + 2 + 2 * length cs + 1 = omega arith in
        let tail = case_code p x y (pc + 2) cs ++ line p (Jump (at_label other)) ∷ rest in
        let h' = subst (λ k. HasAt code k tail) e h.1.1 in (
          (step code nl all a part pc p m (here code nl all a part (pc + 1) p _ h.1.0 m), tt),
          (
            (
              inl (λ n. (cases n).0),
              (
                leap code nl all a part (pc + 1) (pc + 2) p m (omega arith)
                    (chain_enters cs p x y (pc + 2) other rest m h'),
                tt,
              ),
            ),
            fine_at code nl all _ _ tail (sym e) (chain_fine cs p x y (pc + 2) other rest m (λ n. (cases n).1) next
                h' (fine_at code nl all _ _ rest d more)),
          ),
        )

  -- ---- statements

  mutual
    pub stmt_fine : (a : stmt.Action) (env : Env) (pc : ℕ) → IsStmtSound nl a
        → ((b : stmt.Action) → IsPart b (parts a) → IsPart b all) → HasAt code pc (stmt_code nl env pc a) → EnvAll env
        → AreDead code nl (pc + stmt_size a) → Each pc (stmt_code nl env pc a)
    stmt_fine (stmt.block p ss r) env pc s sub h below next =
        let a = stmt.block p ss r in
        let vars = block_locals (listed ss) in
        let from = pc + length vars in
        let list = listed ss in
        let inner = in_block env from list in
        let g = has_cut code pc (length vars) (unset_code p vars) (stmts_code nl inner from ss) (unset_long vars p) h in
        let e : pc + (length vars + stmts_size ss) ≡ from + stmts_size ss = omega arith in
        let end = dead_at _ _ e next in
        let b : EnvAll inner = λ n. inner_below code nl env from (from + stmts_size ss) list
        (λ m bm nm l q eq. list_label_dead code nl ss inner from m s g.1 bm nm l q eq) n (below n) (end n) in
        let start : AreDead code nl from = λ n. front code nl n from ss (starts_dead code nl ss inner from n s g.1
        (b n) (end n)) in
        all_append code nl all pc (length vars) (unset_code p vars) (stmts_code nl inner from ss) (unset_long vars p)
        (unset_fine a (sub a (inl refl)) vars p pc (inl refl) g.0 (inl start))
        (stmts_fine ss inner from s (λ x m. sub x (inr m)) g.1 b end)
    stmt_fine (stmt.declare p rs) env pc s sub h below next =
        let a = stmt.declare p rs in declare_fine a (sub a (inl refl)) rs pc s (λ x k. inr k) h next
    stmt_fine (stmt.do_expr p v) env pc s sub h below next =
        let a = stmt.do_expr p v in option_fine a (sub a (inl refl)) v pc s (λ x k. inr k) h (inl next)
    stmt_fine (stmt.if_only p c a) env pc s sub h below next =
        let me = stmt.if_only p c a in
        let pa = pc + expr_size c + 1 in
        let end = pa + stmt_size a in
        let e : pc + (expr_size c + 1) ≡ pa = omega arith in
        let f : pc + (expr_size c + 1 + stmt_size a) ≡ end = omega arith in
        let g = has_cut code pc (expr_size c + 1) (test_code nl pc c pa end) (stmt_code nl env pa a)
        (test_long c nl pc pa end) h in
        let h' = subst (λ x. HasAt code x (stmt_code nl env pa a)) e g.1 in
        let next' = dead_at _ _ f next in
        let this : AreDead code nl pa = λ n. stmt_dead code nl a env pa n s.1 h' (below n) (next' n) in
        all_append code nl all pc (expr_size c + 1) (test_code nl pc c pa end) (stmt_code nl env pa a)
        (test_long c nl pc pa end)
        (test_fine me (sub me (inl refl)) c pc pa end s.0 (λ x k. inr k) g.0 this next')
        (fine_at code nl all _ _ (stmt_code nl env pa a) (sym e) (stmt_fine a env pa s.1 (λ x m. sub x (inr m)) h'
        below next'))
    stmt_fine (stmt.if_else p c a b) env pc s sub h below next =
        let me = stmt.if_else p c a b in
        let pa = pc + expr_size c + 1 in
        let pj = pa + stmt_size a in
        let pb = pj + 1 in
        let end = pb + stmt_size b in
        let e : pc + (expr_size c + 1) ≡ pa = omega arith in
        let d : pc + (expr_size c + 1 + stmt_size a + 1 + stmt_size b) ≡ end = omega arith in
        let ca = stmt_code nl env pa a in
        let rest = ca ++ line p (Jump (at_label end)) ∷ stmt_code nl env pb b in
        let g = has_cut code pc (expr_size c + 1) (test_code nl pc c pa pb) rest (test_long c nl pc pa pb) h in
        let f = has_cut code pa (stmt_size a) ca (line p (Jump (at_label end)) ∷ stmt_code nl env pb b)
        (stmt_long a nl env pa) (subst (λ x. HasAt code x rest) e g.1) in
        let next' = dead_at _ _ d next in
        let that : AreDead code nl pb = λ n. stmt_dead code nl b env pb n s.2 f.1.1 (below n) (next' n) in
        let jump : AreDead code nl pj = λ n. jump_dead code nl n pj end p f.1.0 (next' n) in
        let this : AreDead code nl pa = λ n. stmt_dead code nl a env pa n s.1 f.0 (below n) (jump n) in
        all_append code nl all pc (expr_size c + 1) (test_code nl pc c pa pb) rest (test_long c nl pc pa pb)
        (test_fine me (sub me (inl refl)) c pc pa pb s.0 (λ x k. inr k) g.0 this that)
        (fine_at code nl all _ _ rest (sym e)
        (all_append code nl all pa (stmt_size a) ca _ (stmt_long a nl env pa)
        (stmt_fine a env pa s.1 (λ x m. sub x (inr (part_front x (parts a) (parts b) m))) f.0 below jump) (
          (inl next', tt),
          stmt_fine b env pb s.2 (λ x m. sub x (inr (part_back x (parts a) (parts b) m))) f.1.1
              below next',
        )))
    stmt_fine (stmt.while p c a) env pc s sub h below next =
        let me = stmt.while p c a in
        let go = pc + (expr_size c + 1) in
        let again = go + stmt_size a in
        let end = again + 0 + 1 in
        let inner = in_loop env again end in
        let z : again ≡ again + 0 = omega arith in
        let d : pc + (expr_size c + 1 + stmt_size a + 1) ≡ end = omega arith in
        let g = has_cut code pc (expr_size c + 1) (test_code nl pc c go end) _ (test_long c nl pc go end) h in
        let f = has_cut code go (stmt_size a) (stmt_code nl inner go a) _ (stmt_long a nl inner go) g.1 in
        let j = subst (λ x. slice_get code x ≡ Some (line p (Jump (at_label pc)))) z f.1.0 in
        let next' = dead_at _ _ d next in
        let body : (m : ℕ) → EnvBelow code nl m inner → Dead code nl m again
        → Dead code nl m go = λ m bm nm. stmt_dead code nl a inner go m s.1 f.0 bm nm in
        let head : AreDead code nl pc = λ n. loop_dead code nl p (Some c) None env pc (stmt_size a) s.0 tt g.0 tt j
        body n (below n) (next' n) in
        let i = λ (n : ℕ). inside_dead code nl p (Some c) None env pc (stmt_size a) s.0 tt g.0 tt j body n (below n)
        (next' n) in
        all_append code nl all pc (expr_size c + 1) (test_code nl pc c go end) _ (test_long c nl pc go end)
        (test_fine me (sub me (inl refl)) c pc go end s.0 (λ x k. inr k) g.0
        (λ n. body n (i n).0 (i n).1) next')
        (all_append code nl all go (stmt_size a) (stmt_code nl inner go a) _ (stmt_long a nl inner go)
        (stmt_fine a inner go s.1 (λ x m. sub x (inr m)) f.0 (λ n. (i n).0) (λ n. (i n).1)) ((inl head, tt), tt))
    stmt_fine (stmt.do_while p a c) env pc s sub h below next =
        let me = stmt.do_while p a c in
        let head = pc + 1 in
        let go = head + (expr_size c + 1) in
        let again = go + stmt_size a in
        let end = again + 0 + 1 in
        let inner = in_loop env again end in
        let z : again ≡ again + 0 = omega arith in
        let d : pc + (1 + expr_size c + 1 + stmt_size a + 1) ≡ end = omega arith in
        let g = has_cut code head (expr_size c + 1) (test_code nl head c go end) _ (test_long c nl head go end)
        h.1 in
        let f = has_cut code go (stmt_size a) (stmt_code nl inner go a) _ (stmt_long a nl inner go) g.1 in
        let j = subst (λ x. slice_get code x ≡ Some (line p (Jump (at_label head)))) z f.1.0 in
        let next' = dead_at _ _ d next in
        let body : (m : ℕ) → EnvBelow code nl m inner → Dead code nl m again
        → Dead code nl m go = λ m bm nm. stmt_dead code nl a inner go m s.1 f.0 bm nm in
        let at_head : AreDead code nl head = λ n. loop_dead code nl p (Some c) None env head (stmt_size a) s.0 tt
        g.0 tt j body n (below n) (next' n) in
        let i = λ (n : ℕ). inside_dead code nl p (Some c) None env head (stmt_size a) s.0 tt g.0 tt j body n
        (below n) (next' n) in
        let in' : AreDead code nl go = λ n. body n (i n).0 (i n).1 in (
          (inl in', tt),
          all_append code nl all head (expr_size c + 1) (test_code nl head c go end) _ (test_long c nl head go end)
              (test_fine me (sub me (inl refl)) c head go end s.0 (λ x k. inr k) g.0 in' next')
              (all_append code nl all go (stmt_size a) (stmt_code nl inner go a) _ (stmt_long a nl inner go)
              (stmt_fine a inner go s.1 (λ x m. sub x (inr m)) f.0 (λ n. (i n).0) (λ n. (i n).1))
              ((inl at_head, tt), tt)),
        )
    stmt_fine (stmt.for p rs u c w a) env pc s sub h below next =
        let me = stmt.for p rs u c w a in
        let it = sub me (inl refl) in
        let n1 = pc + length rs in
        let n2 = n1 + declare_size rs in
        let head = for_head pc rs u in
        let go = head + test_size c in
        let again = go + stmt_size a in
        let back = again + option_size w in
        let end = back + 1 in
        let inner = in_loop env again end in
        let d : pc + (length rs + declare_size rs + option_size u + test_size c + stmt_size a + option_size w + 1)
        ≡ end = omega arith in
        let g1 = has_cut code pc (length rs) (unset_code p rs) _ (unset_long rs p) h in
        let g2 = has_cut code n1 (declare_size rs) (declare_code nl n1 rs) _ (declare_long rs nl n1) g1.1 in
        let g3 = has_cut code n2 (option_size u) (option_code nl n2 u) _ (option_long u nl n2) g2.1 in
        let g4 = has_cut code head (test_size c) (tested_code nl head c go end) _ (tested_long c nl head go end)
        g3.1 in
        let g5 = has_cut code go (stmt_size a) (stmt_code nl inner go a) _ (stmt_long a nl inner go) g4.1 in
        let g6 = has_cut code again (option_size w) (option_code nl again w) _ (option_long w nl again) g5.1 in
        let next' = dead_at _ _ d next in
        let body : (m : ℕ) → EnvBelow code nl m inner → Dead code nl m again
        → Dead code nl m go = λ m bm nm. stmt_dead code nl a inner go m s.4 g5.0 bm nm in
        let at_head : AreDead code nl head = λ n. loop_dead code nl p c w env head (stmt_size a) s.2 s.3 g4.0 g6.0
        g6.1.0 body n (below n) (next' n) in
        let i = λ (n : ℕ). inside_dead code nl p c w env head (stmt_size a) s.2 s.3 g4.0 g6.0 g6.1.0 body n
        (below n) (next' n) in
        let at_first : AreDead code nl n2 = λ n. option_dead code nl u n2 n s.1 g3.0 (at_head n) in
        let at_reach : AreDead code nl n1 = λ n. declare_dead code nl rs n1 n s.0 g2.0 (at_first n) in
        let tail = option_positions u ++ (option_positions c ++ option_positions w) in
        let o1 : Covers (declare_positions rs ++ tail) (own me) = λ x k. inr k in
        let cr : Covers (declare_positions rs) (own me) = covers_front (declare_positions rs) tail (own me) o1 in
        let ct : Covers tail (own me) = covers_back (declare_positions rs) tail (own me) o1 in
        let cu = covers_front (option_positions u) (option_positions c ++ option_positions w) (own me) ct in
        let cc' = covers_back (option_positions u) (option_positions c ++ option_positions w) (own me) ct in
        let ctest = covers_front (option_positions c) (option_positions w) (own me) cc' in
        let cw = covers_back (option_positions c) (option_positions w) (own me) cc' in
        all_append code nl all pc (length rs) (unset_code p rs) _ (unset_long rs p)
        (unset_fine me it rs p pc (inl refl) g1.0 (inl at_reach))
        (all_append code nl all n1 (declare_size rs) (declare_code nl n1 rs) _ (declare_long rs nl n1)
        (declare_fine me it rs n1 s.0 cr g2.0 at_first)
        (all_append code nl all n2 (option_size u) (option_code nl n2 u) _ (option_long u nl n2)
        (option_fine me it u n2 s.1 cu g3.0 (inl at_head))
        (all_append code nl all head (test_size c) (tested_code nl head c go end) _ (tested_long c nl head go end)
        (tested_fine me it c head go end s.2 ctest g4.0 (λ n. body n (i n).0 (i n).1) next')
        (all_append code nl all go (stmt_size a) (stmt_code nl inner go a) _ (stmt_long a nl inner go)
        (stmt_fine a inner go s.4 (λ x m. sub x (inr m)) g5.0 (λ n. (i n).0) (λ n. (i n).1))
        (all_append code nl all again (option_size w) (option_code nl again w) _ (option_long w nl again)
        (option_fine me it w again s.3 cw g6.0 (here code nl all me it back p _ g6.1.0 (inl refl)))
        ((inl at_head, tt), tt))))))
    stmt_fine (stmt.switch p v (stmt.block t ss r)) env pc s sub h below next =
        let me = stmt.switch p v (stmt.block t ss r) in
        let it = sub me (inl refl) in
        let vars = block_locals (listed ss) in
        let list = listed ss in
        let count = length vars in
        let q = pc + expr_size v in
        let from = switch_first q count ss in
        let end = from + stmts_size ss in
        let env' = in_switch env end in
        let inner = in_block env' from list in
        let cs = list_cases from list in
        let at = q + count in
        let x = temp_of nl 0 v in
        let y = temp nl 1 0 in
        let k = 2 * length (block_cases list) in
        let other = label_or (list_default from list) end in
        let lc : length (case_code p x y at cs) ≡ k = case_long cs p x y at ∙ ap (λ i. 2 * i) (cases_long list from) in
        let d : pc + (expr_size v + (count + k + 1 + stmts_size ss)) ≡ end = omega arith in
        let rest = stmts_code nl inner from ss in
        let chain = case_code p x y at cs ++ line p (Jump (at_label other)) ∷ rest in
        let g1 = has_cut code pc (expr_size v) (value_code nl pc v) _ (value_long v nl pc) h in
        let g2 = has_cut code q count (unset_code p vars) chain (unset_long vars p) g1.1 in
        let g3 = has_cut code at k (case_code p x y at cs) (line p (Jump (at_label other)) ∷ rest) lc g2.1 in
        let next' = dead_at _ _ d next in
        let below' : EnvAll env' = λ n. switch_below code nl n env end (below n) (next' n) in
        let b : EnvAll inner = λ n. inner_below code nl env' from end list (λ m bm nm l z eq. list_label_dead code
        nl ss inner from m s.1 g3.1.1 bm nm l z eq) n (below' n) (next' n) in
        let starts = λ (n : ℕ). starts_dead code nl ss inner from n s.1 g3.1.1 (b n) (next' n) in
        let enters = chain_enters me it cs p x y at other rest (inl refl) g2.1 in
        let e : from ≡ at + 2 * length cs + 1 = ap (λ i. at + 2 * i + 1) (sym (cases_long list from)) in
        all_append code nl all pc (expr_size v) (value_code nl pc v) _ (value_long v nl pc)
        (expr_fine code nl all me it v 0 x pc s.0.1 (λ z m. inr m) g1.0 (unset_enters me it vars p q (inl refl) g2.0
        enters))
        (all_append code nl all q count (unset_code p vars) chain (unset_long vars p)
        (unset_fine me it vars p q (inl refl) g2.0 enters)
        (chain_fine me it cs p x y at other rest (inl refl) (λ n. cases_dead code nl n from ss (starts n))
        (λ n. default_dead code nl n from end ss (starts n) (next' n)) g2.1
        (fine_at code nl all _ _ rest e (stmts_fine ss inner from s.1 (λ z m. sub z (inr (inr m))) g3.1.1 b next'))))
    stmt_fine (stmt.switch p v a) env pc s sub h below next =
        let me = stmt.switch p v a in
        let it = sub me (inl refl) in
        let q = pc + expr_size v in
        let end = q + 1 + stmt_size a in
        let x = temp_of nl 0 v in
        let d : pc + (expr_size v + (1 + stmt_size a)) ≡ end = omega arith in
        let g = has_cut code pc (expr_size v) (value_code nl pc v) _ (value_long v nl pc) h in
        let next' = dead_at _ _ d next in
        all_append code nl all pc (expr_size v) (value_code nl pc v) _ (value_long v nl pc)
        (expr_fine code nl all me it v 0 x pc s.0.1 (λ z m. inr m) g.0 (here code nl all me it q p _ g.1.0
        (inl refl))) (
          (inl next', tt),
          stmt_fine a (in_switch env end) (q + 1) s.1 (λ z m. sub z (inr m)) g.1.1
              (λ n. switch_below code nl n env end (below n) (next' n)) next',
        )
    stmt_fine (stmt.case p m a) env pc s sub h below next = stmt_fine a env pc s (λ x k. sub x (inr k)) h below next
    stmt_fine (stmt.default p a) env pc s sub h below next = stmt_fine a env pc s (λ x k. sub x (inr k)) h below next
    stmt_fine (stmt.label p l a) env pc s sub h below next = stmt_fine a env pc s (λ x k. sub x (inr k)) h below next
    stmt_fine (stmt.goto p l) env pc s sub h below next = ((inl (λ n. (below (suc n)).2 l), tt), tt)
    stmt_fine (stmt.break p) env pc s sub h below next = ((inl (λ n. (below (suc n)).0), tt), tt)
    stmt_fine (stmt.continue p) env pc s sub h below next = ((inl (λ n. (below (suc n)).1), tt), tt)
    stmt_fine (stmt.return p k None) env pc s sub h below next = (tt, tt)
    stmt_fine (stmt.return p k (Some v)) env pc s sub h below next =
        let me = stmt.return p k (Some v) in
        let it = sub me (inl refl) in
        let x = operand nl 0 (local_column k) v in
        let q = pc + expr_size v in
        let g = has_cut code pc (expr_size v) (expr_code nl 0 x pc v) _ (expr_long v nl 0 x pc) h in
        all_append code nl all pc (expr_size v) (expr_code nl 0 x pc v) _ (expr_long v nl 0 x pc)
        (expr_fine code nl all me it v 0 x pc s.1 (λ z m. inr m) g.0
        (here code nl all me it q p _ g.1.0 (inl refl))) (tt, tt)

    stmts_fine : (ss : stmt.Actions) (env : Env) (pc : ℕ) → AreStmtsSound nl ss
        → ((b : stmt.Action) → IsPart b (parts_of ss) → IsPart b all) → HasAt code pc (stmts_code nl env pc ss)
        → EnvAll env → AreDead code nl (pc + stmts_size ss) → Each pc (stmts_code nl env pc ss)
    stmts_fine stmt.no_actions env pc s sub h below next = tt
    stmts_fine (stmt.action_and a ss) env pc s sub h below next =
        let q = pc + stmt_size a in
        let e : pc + (stmt_size a + stmts_size ss) ≡ q + stmts_size ss = omega arith in
        let g = has_cut code pc (stmt_size a) (stmt_code nl env pc a) (stmts_code nl env q ss)
        (stmt_long a nl env pc) h in
        let next' = dead_at _ _ e next in
        let start : AreDead code nl q = λ n. front code nl n q ss (starts_dead code nl ss env q n s.1 g.1 (below n)
        (next' n)) in
        all_append code nl all pc (stmt_size a) (stmt_code nl env pc a) (stmts_code nl env q ss) (stmt_long a nl env pc)
        (stmt_fine a env pc s.0 (λ x m. sub x (part_front x (parts a) (parts_of ss) m)) g.0 below start)
        (stmts_fine ss env q s.1 (λ x m. sub x (part_back x (parts a) (parts_of ss) m)) g.1 below next')
