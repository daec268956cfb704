-- The instructions of an expression read no temporary that they did not write before.
use Rattle.std.proofs.Common.{◌≡◌, inl, inr, ℕ, ◌+◌, List, [], ◌∷◌, ◌++◌, length, Some, refl, sym, subst, arith, Bool}
use Rattle.std.proofs.Common.{true, false, not}
use Rattle.std.specs.Prelude.{slice_get}
use Rattle.pungi_base.specs.declared.pos.Pos.{Pos}
use Rattle.pungi_api.specs.declared.param.Param.{Param}
use Rattle.pungi_types.specs.declared.kind.ValueKind.{ValueKind}
use Rattle.pungi_types.specs.Operators.{is_void}
use Rattle.pungi_resolved.specs.Values as expr
use Rattle.pungi_meaning.specs.Values.{wide}
use Rattle.pungi_meaning.specs.Exprs.{is_and}
use Rattle.pungi_meaning.specs.Todo.{listed_values}
use Rattle.pungi_code.specs.declared.atom.Atom.TheVariants as atom
use Rattle.pungi_code.specs.declared.code.Line.{Line}
use Rattle.pungi_code.specs.declared.instr.Instr.TheVariants.{Set}
use Rattle.pungi_layout.specs.code.CallKinds.{call_params}
use Rattle.pungi_layout.specs.code.Parts.{is_minus, gives, has_call_value}
use Rattle.pungi_layout.specs.code.FirstTokens.{first_token}
use Rattle.pungi_layout.specs.code.Sizes.{expr_size, place_size, values_size, fit_size, store_size, sign_size}
use Rattle.pungi_layout.specs.code.Sizes.{missing_size, outputs_size}
use Rattle.pungi_layout.specs.code.Temporaries.{column, temp, value_column, temp_of, operand, tail, arg_var}
use Rattle.pungi_layout.specs.code.ExprCode.{line, to_var, var, bit, branch_on, old_code, above, stored_var}
use Rattle.pungi_layout.specs.code.ExprCode.{counted_var, base_var, sign_code, sign_var, expr_code, base_code}
use Rattle.pungi_layout.specs.code.ExprCode.{args_code}
use Rattle.pungi_layout.specs.code.Sound.{IsSound, IsPlaceSound, AreSound}
use Rattle.pungi_layout.specs.liveness.Liveness.{atom_vars, Among, AreKnown, WritesFirst}
use Rattle.pungi_layout.proofs.code.ExprLengths.{expr_long, base_long, args_long, old_long}
use Rattle.pungi_layout.proofs.relation.Standing.{HasAt, has_front, has_cut}
use Rattle.pungi_layout.proofs.liveness.Paths.{Within, within_all, within_more, within_both, more, by_line}
use Rattle.pungi_layout.proofs.liveness.Places.{based, has_based, base_more, within_based, one_more, under, moved}
use Rattle.pungi_layout.proofs.liveness.Places.{set_first, old_first, store_first, put_first, step_first}
use Rattle.pungi_layout.proofs.liveness.Calls.{left, within_trans, argued, within_argued, args_known, within_left}
use Rattle.pungi_layout.proofs.liveness.Calls.{answer_first, call_first, unless_null_first, outputs_first}

bit_vars : (b : Bool) → atom_vars (bit b) ≡ []
bit_vars true = refl
bit_vars false = refl

module _ (code : List Line) (nl : ℕ) where
  pub given : (b : Bool) (n pc t : ℕ) (ws : List ℕ) → b ≡ true → WritesFirst code nl n pc (t ∷ ws)
      → WritesFirst code nl n pc (left b t ws)
  given b n pc t ws e h = subst (λ x. WritesFirst code nl n pc (left x t ws)) (sym e) h

  -- ---- single instructions

  bit_first : (n pc : ℕ) (ws : List ℕ) (p : Pos) (t : ℕ) (b : Bool)
      → slice_get code pc ≡ Some (line p (Set (to_var t) (bit b))) → WritesFirst code nl n (pc + 1) (t ∷ ws)
      → WritesFirst code nl n pc ws
  bit_first n pc ws p t b here next = set_first code nl n pc ws p t (bit b) here
      (subst (AreKnown nl ws) (sym (bit_vars b)) tt) next

  branch_first : (on : Bool) (n pc : ℕ) (ws : List ℕ) (p : Pos) (x go other : ℕ)
      → slice_get code pc ≡ Some (line p (branch_on on x go other)) → Among x ws → WritesFirst code nl n go ws
      → WritesFirst code nl n other ws → WritesFirst code nl n pc ws
  branch_first true n pc ws p x go other here m this that = by_line code nl n pc ws _ here (inr m, tt)
      (this, (that, tt))
  branch_first false n pc ws p x go other here m this that = by_line code nl n pc ws _ here (inr m, tt)
      (that, (this, tt))

  sign_first : (minus : Bool) (p : Pos) (kind : ValueKind) (v : expr.Value) (d t pc n : ℕ) (ws : List ℕ)
      → ((t' : ℕ) → length (expr_code nl d t' pc v) ≡ expr_size v)
      → ((t' : ℕ) → HasAt code pc (expr_code nl d t' pc v) → WritesFirst code nl n (pc + expr_size v) (t' ∷ ws)
      → WritesFirst code nl n pc ws) → HasAt code pc (expr_code nl d (sign_var minus t (temp_of nl d v)) pc v
      ++ sign_code minus p kind t (temp_of nl d v))
      → WritesFirst code nl n (pc + (expr_size v + sign_size minus)) (t ∷ ws) → WritesFirst code nl n pc ws
  sign_first true p kind v d t pc n ws long part h next =
      let x = temp_of nl d v in
      let g = has_cut code pc (expr_size v) (expr_code nl d x pc v) _ (long x) h in
      let e : pc + (expr_size v + 1) ≡ pc + expr_size v + 1 = omega arith in
      part x g.0 (by_line code nl n (pc + expr_size v) (x ∷ ws) _ g.1.0 (inr (inl refl), tt)
      (under code nl n _ ws t x (moved code nl n _ _ (t ∷ ws) e next), tt))
  sign_first false p kind v d t pc n ws long part h next =
      let e : pc + (expr_size v + 0) ≡ pc + expr_size v = omega arith in
      part t (has_front code pc (expr_code nl d t pc v) [] h) (moved code nl n _ _ (t ∷ ws) e next)

  -- ---- expressions

  mutual
    pub expr_first : (v : expr.Value) (d t pc n : ℕ) (ws : List ℕ) → IsSound nl v
        → HasAt code pc (expr_code nl d t pc v) → WritesFirst code nl n (pc + expr_size v) (left (gives v) t ws)
        → WritesFirst code nl n pc ws
    expr_first (expr.constant p m) d t pc n ws s h next = set_first code nl n pc ws p t (atom.Int m) h.0 tt next
    expr_first (expr.text_of p ns) d t pc n ws s h next = set_first code nl n pc ws p t atom.Text h.0 tt next
    expr_first (expr.null_of p) d t pc n ws s h next = set_first code nl n pc ws p t atom.Null h.0 tt next
    expr_first (expr.static_of p m) d t pc n ws s h next = set_first code nl n pc ws p t (atom.Static m) h.0 tt next
    expr_first (expr.module_of p m) d t pc n ws s h next = set_first code nl n pc ws p t atom.Text h.0 tt next
    expr_first (expr.read p kind place) d t pc n ws s h next =
        let b = base_var nl place d in
        let g = has_cut code pc (place_size place) (base_code nl d pc place) _ (base_long place nl d pc) h in
        let e : pc + (place_size place + 1) ≡ pc + place_size place + 1 = omega arith in
        let next' = more code nl n _ (t ∷ ws) (t ∷ based place b ws) (within_both ws (based place b ws) t
        (within_based place b ws)) (moved code nl n _ _ (t ∷ ws) e next) in
        base_first place d pc n ws s g.0 (old_first code nl n (pc + place_size place) (based place b ws) kind place t
        b s (has_based place b ws) g.1 next')
    expr_first (expr.inner p v) d t pc n ws s h next = expr_first v d t pc n ws s h next
    expr_first (expr.signed p m kind v) d t pc n ws s h next =
        sign_first (is_minus m) p kind v d t pc n ws (λ t'. expr_long v nl d t' pc)
        (λ t' g k. expr_first v d t' pc n ws s.1 g (given (gives v) n _ t' ws s.0 k)) h next
    expr_first (expr.negated p v) d t pc n ws s h next =
        let x = temp_of nl (d + 1) v in
        let q = pc + 1 + expr_size v in
        let g = has_cut code (pc + 1) (expr_size v) (expr_code nl (d + 1) x (pc + 1) v) _
        (expr_long v nl (d + 1) x (pc + 1)) h.1 in
        let e : pc + (1 + expr_size v + 2) ≡ q + 2 = omega arith in
        let f : q + 2 ≡ q + 1 + 1 = omega arith in
        let vs = x ∷ t ∷ ws in
        let end = more code nl n (q + 2) (t ∷ ws) vs (within_more (t ∷ ws) (t ∷ ws) x (within_all (t ∷ ws)))
        (moved code nl n _ _ (t ∷ ws) e next) in
        bit_first n pc ws p t true h.0
        (expr_first v (d + 1) x (pc + 1) n (t ∷ ws) s.1 g.0
        (given (gives v) n q x (t ∷ ws) s.0
        (by_line code nl n q vs _ g.1.0 (inr (inl refl), tt) (
          bit_first n (q + 1) vs p t false g.1.1.0
              (one_more code nl n _ vs t (moved code nl n _ _ vs f end)),
          (end, tt),
        ))))
    expr_first (expr.stepped p false m kind place) d t pc n ws s h next =
        let b = base_var nl place d in
        let o = temp nl (above place d) (column kind) in
        let q = pc + place_size place in
        let vs = based place b ws in
        let g = has_cut code pc (place_size place) (base_code nl d pc place) _ (base_long place nl d pc) h in
        let f = has_cut code q 1 (old_code kind place o b) _ (old_long nl kind place o b) g.1 in
        let e : pc + (0 + place_size place + 1 + 0 + 1 + fit_size kind (wide kind) + store_size)
        ≡ q + 1 + 1 + (fit_size kind (wide kind) + store_size) = omega arith in
        let next' = more code nl n _ (t ∷ ws) (t ∷ o ∷ vs) (within_both ws (o ∷ vs) t
        (within_more ws vs o (within_based place b ws))) (moved code nl n _ _ (t ∷ ws) e next) in
        base_first place d pc n ws s g.0
        (old_first code nl n q vs kind place o b s (has_based place b ws) f.0
        (step_first code nl n (q + 1) (o ∷ vs) p m kind place d t s (base_more place b o vs (has_based place b ws))
        (inl refl) f.1 next'))
    expr_first (expr.stepped p true m kind place) d t pc n ws s h next =
        let b = base_var nl place (d + 1) in
        let o = temp nl (above place (d + 1)) (column kind) in
        let x = temp nl (d + 1) (column kind) in
        let q = pc + 1 + place_size place in
        let vs = based place b (t ∷ ws) in
        let g = has_cut code (pc + 1) (place_size place) (base_code nl (d + 1) (pc + 1) place) _
        (base_long place nl (d + 1) (pc + 1)) h.1 in
        let f = has_cut code q 1 (old_code kind place o b) _ (old_long nl kind place o b) g.1 in
        let e : pc + (1 + place_size place + 1 + 1 + 1 + fit_size kind (wide kind) + store_size)
        ≡ q + 1 + 1 + 1 + (fit_size kind (wide kind) + store_size) = omega arith in
        let inner : Within ws (o ∷ vs) = within_more ws vs o (within_trans ws (t ∷ ws) vs
        (within_more ws ws t (within_all ws)) (within_based place b (t ∷ ws))) in
        let next' = more code nl n _ (t ∷ ws) (x ∷ t ∷ o ∷ vs) (within_more (t ∷ ws) (t ∷ o ∷ vs) x
        (within_both ws (o ∷ vs) t inner)) (moved code nl n _ _ (t ∷ ws) e next) in
        bit_first n pc ws p t false h.0
        (base_first place (d + 1) (pc + 1) n (t ∷ ws) s g.0
        (old_first code nl n q vs kind place o b s (has_based place b (t ∷ ws)) f.0
        (set_first code nl n (q + 1) (o ∷ vs) p t (var o) f.1.0 (inr (inl refl), tt)
        (step_first code nl n (q + 1 + 1) (t ∷ o ∷ vs) p m kind place (d
        + 1) x s (base_more place b t (o ∷ vs) (base_more place b o vs (has_based place b (t ∷ ws))))
        (inr (inl refl)) f.1.1 next'))))
    expr_first (expr.emptied p kind place) d t pc n ws s h next =
        let b = base_var nl place (d + 1) in
        let o = stored_var nl place (d + 1) kind in
        let x = temp nl (d + 1) (column kind) in
        let q = pc + 1 + place_size place in
        let vs = based place b (t ∷ ws) in
        let us = t ∷ o ∷ vs in
        let g = has_cut code (pc + 1) (place_size place) (base_code nl (d + 1) (pc + 1) place) _
        (base_long place nl (d + 1) (pc + 1)) h.1 in
        let f = has_cut code q 1 (old_code kind place o b) _ (old_long nl kind place o b) g.1 in
        let e : pc + (1 + place_size place + 1 + 1 + 1 + store_size) ≡ q + 1 + 1 + 1 + store_size = omega arith in
        let inner : Within ws (o ∷ vs) = within_more ws vs o (within_trans ws (t ∷ ws) vs
        (within_more ws ws t (within_all ws)) (within_based place b (t ∷ ws))) in
        let next' = more code nl n _ (t ∷ ws) (x ∷ o ∷ us) (within_more (t ∷ ws) (o ∷ us) x
        (within_more (t ∷ ws) us o (within_both ws (o ∷ vs) t inner))) (moved code nl n _ _ (t ∷ ws) e next) in
        let has = base_more place b t (o ∷ vs) (base_more place b o vs (has_based place b (t ∷ ws))) in
        set_first code nl n pc ws p t atom.Null h.0 tt
        (base_first place (d + 1) (pc + 1) n (t ∷ ws) s g.0
        (old_first code nl n q vs kind place o b s (has_based place b (t ∷ ws)) f.0
        (set_first code nl n (q + 1) (o ∷ vs) p t (var o) f.1.0 (inr (inl refl), tt)
        (set_first code nl n (q + 1 + 1) us p o atom.Null f.1.1.0 tt
        (store_first code nl n (q + 1 + 1 + 1) (o ∷ us) kind place x b o s (base_more place b o us has) (inl refl)
        f.1.1.1 next')))))
    expr_first (expr.computed p m kind a b) d t pc n ws s h next =
        let x = temp_of nl d a in
        let y = temp_of nl (d + 1) b in
        let q = pc + expr_size a in
        let g = has_cut code pc (expr_size a) (expr_code nl d x pc a) _ (expr_long a nl d x pc) h in
        let f = has_cut code q (expr_size b) (expr_code nl (d + 1) y q b) _ (expr_long b nl (d + 1) y q) g.1 in
        let e : pc + (expr_size a + expr_size b + 1) ≡ q + expr_size b + 1 = omega arith in
        let next' = under code nl n _ (x ∷ ws) t y (under code nl n _ ws t x (moved code nl n _ _ (t ∷ ws) e next)) in
        expr_first a d x pc n ws s.1 g.0
        (given (gives a) n q x ws s.0
        (expr_first b (d + 1) y q n (x ∷ ws) s.3 f.0
        (given (gives b) n (q + expr_size b) y (x ∷ ws) s.2
        (by_line code nl n (q + expr_size b) (y ∷ x ∷ ws) _ f.1.0 (inr (inr (inl refl)), (inr (inl refl), tt))
        (next', tt)))))
    expr_first (expr.compared p m a b) d t pc n ws s h next =
        let x = operand nl d (value_column b) a in
        let y = operand nl (d + 1) (value_column a) b in
        let q = pc + expr_size a in
        let g = has_cut code pc (expr_size a) (expr_code nl d x pc a) _ (expr_long a nl d x pc) h in
        let f = has_cut code q (expr_size b) (expr_code nl (d + 1) y q b) _ (expr_long b nl (d + 1) y q) g.1 in
        let e : pc + (expr_size a + expr_size b + 1) ≡ q + expr_size b + 1 = omega arith in
        let next' = under code nl n _ (x ∷ ws) t y (under code nl n _ ws t x (moved code nl n _ _ (t ∷ ws) e next)) in
        expr_first a d x pc n ws s.1 g.0
        (given (gives a) n q x ws s.0
        (expr_first b (d + 1) y q n (x ∷ ws) s.3 f.0
        (given (gives b) n (q + expr_size b) y (x ∷ ws) s.2
        (by_line code nl n (q + expr_size b) (y ∷ x ∷ ws) _ f.1.0 (inr (inr (inl refl)), (inr (inl refl), tt))
        (next', tt)))))
    expr_first (expr.joined_by p m a b) d t pc n ws s h next =
        let x = temp_of nl (d + 1) a in
        let y = temp_of nl (d + 1) b in
        let qa = pc + 1 + expr_size a in
        let qb = qa + 1 + expr_size b in
        let on = is_and m in
        let g = has_cut code (pc + 1) (expr_size a) (expr_code nl (d + 1) x (pc + 1) a) _
        (expr_long a nl (d + 1) x (pc + 1)) h.1 in
        let f = has_cut code (qa + 1) (expr_size b) (expr_code nl (d + 1) y (qa + 1) b) _
        (expr_long b nl (d + 1) y (qa + 1)) g.1.1 in
        let e : pc + (1 + expr_size a + 1 + expr_size b + 2) ≡ qb + 2 = omega arith in
        let e' : qb + 2 ≡ qb + 1 + 1 = omega arith in
        let us = x ∷ t ∷ ws in
        let vs = y ∷ us in
        let end = more code nl n (qb + 2) (t ∷ ws) us (within_more (t ∷ ws) (t ∷ ws) x (within_all (t ∷ ws)))
        (moved code nl n _ _ (t ∷ ws) e next) in
        let end' = one_more code nl n (qb + 2) us y end in
        bit_first n pc ws p t (not on) h.0
        (expr_first a (d + 1) x (pc + 1) n (t ∷ ws) s.1 g.0
        (given (gives a) n qa x (t ∷ ws) s.0
        (branch_first on n qa us (first_token a) x (qa + 1) (qb + 2) g.1.0 (inl refl)
        (expr_first b (d + 1) y (qa + 1) n us s.3 f.0
        (given (gives b) n qb y us s.2
        (branch_first on n qb vs (first_token b) y (qb + 1) (qb + 2) f.1.0 (inl refl)
        (bit_first n (qb + 1) vs p t on f.1.1.0 (one_more code nl n _ vs t (moved code nl n _ _ vs e' end'))) end')))
        end)))
    expr_first (expr.stored p kind place v) d t pc n ws s h next =
        let b = base_var nl place d in
        let x = stored_var nl place d kind in
        let q = pc + place_size place in
        let vs = based place b ws in
        let g = has_cut code pc (place_size place) (base_code nl d pc place) _ (base_long place nl d pc) h in
        let f = has_cut code q (expr_size v) (expr_code nl (above place d) x q v) _
        (expr_long v nl (above place d) x q) g.1 in
        let e : pc + (place_size place + expr_size v + store_size) ≡ q + expr_size v + store_size = omega arith in
        let next' = more code nl n _ (t ∷ ws) (t ∷ x ∷ vs) (within_both ws (x ∷ vs) t
        (within_more ws vs x (within_based place b ws))) (moved code nl n _ _ (t ∷ ws) e next) in
        base_first place d pc n ws s.0 g.0
        (expr_first v (above place d) x q n vs s.2 f.0
        (given (gives v) n (q + expr_size v) x vs s.1
        (store_first code nl n (q + expr_size v) (x ∷ vs) kind place t b x s.0 (base_more place b x vs
        (has_based place b ws)) (inl refl) f.1 next')))
    expr_first (expr.updated p m counted kind place v) d t pc n ws s h next =
        let b = base_var nl place d in
        let o = temp nl (above place d) (column kind) in
        let y = temp_of nl (above place d + 1) v in
        let c = counted_var nl place d kind counted in
        let q = pc + place_size place in
        let r = q + 1 + expr_size v in
        let vs = based place b ws in
        let us = c ∷ y ∷ o ∷ vs in
        let g = has_cut code pc (place_size place) (base_code nl d pc place) _ (base_long place nl d pc) h in
        let f = has_cut code q 1 (old_code kind place o b) _ (old_long nl kind place o b) g.1 in
        let k = has_cut code (q + 1) (expr_size v) (expr_code nl (above place d + 1) y (q + 1) v) _
        (expr_long v nl (above place d + 1) y (q + 1)) f.1 in
        let e : pc + (place_size place + 1 + expr_size v + 1 + fit_size kind counted + store_size)
        ≡ r + 1 + (fit_size kind counted + store_size) = omega arith in
        let inner : Within ws us = within_more ws (y ∷ o ∷ vs) c (within_more ws (o ∷ vs) y
        (within_more ws vs o (within_based place b ws))) in
        let next' = more code nl n _ (t ∷ ws) (t ∷ us) (within_both ws us t inner)
        (moved code nl n _ _ (t ∷ ws) e next) in
        let hb = base_more place b c (y ∷ o ∷ vs) (base_more place b y (o ∷ vs)
        (base_more place b o vs (has_based place b ws))) in
        base_first place d pc n ws s.0 g.0
        (old_first code nl n q vs kind place o b s.0 (has_based place b ws) f.0
        (expr_first v (above place d + 1) y (q + 1) n (o ∷ vs) s.2 k.0
        (given (gives v) n r y (o ∷ vs) s.1
        (by_line code nl n r (y ∷ o ∷ vs) _ k.1.0 (inr (inr (inl refl)), (inr (inl refl), tt))
        (put_first code nl n (r + 1) us p kind counted place d t b s.0 hb (inl refl) k.1.1 next', tt)))))
    expr_first (expr.chosen p c a b) d t pc n ws s h next =
        let x = temp_of nl d c in
        let qc = pc + expr_size c in
        let qa = qc + 1 + expr_size a in
        let g = has_cut code pc (expr_size c) (expr_code nl d x pc c) _ (expr_long c nl d x pc) h in
        let f = has_cut code (qc + 1) (expr_size a) (expr_code nl d t (qc + 1) a) _ (expr_long a nl d t (qc + 1))
        g.1.1 in
        let e : pc + (expr_size c + 1 + expr_size a + 1 + expr_size b) ≡ qa + 1 + expr_size b = omega arith in
        let us = x ∷ ws in
        let end = under code nl n _ ws t x (moved code nl n _ _ (t ∷ ws) e next) in
        expr_first c d x pc n ws s.1 g.0
        (given (gives c) n qc x ws s.0
        (by_line code nl n qc us _ g.1.0 (inr (inl refl), tt) (
          expr_first a d t (qc + 1) n us s.3 f.0 (given (gives a) n qa t us s.2 (by_line code nl n qa (t ∷ us) _
              f.1.0 tt (end, tt))),
          (expr_first b d t (qa + 1) n us s.5 f.1.1 (given (gives b) n (qa + 1 + expr_size b) t us s.4 end), tt),
        )))
    expr_first (expr.converted p kind v) d t pc n ws s h next =
        let x = temp_of nl d v in
        let q = pc + expr_size v in
        let g = has_cut code pc (expr_size v) (expr_code nl d x pc v) _ (expr_long v nl d x pc) h in
        let e : pc + (expr_size v + 1) ≡ q + 1 = omega arith in
        expr_first v d x pc n ws s.1 g.0
        (given (gives v) n q x ws s.0 (by_line code nl n q (x ∷ ws) _ g.1.0 (inr (inl refl), tt)
        (under code nl n _ ws t x (moved code nl n _ _ (t ∷ ws) e next), tt)))
    expr_first (expr.cast_of p v) d t pc n ws s h next = expr_first v d t pc n ws s h next
    expr_first (expr.dropped p v) d t pc n ws s h next = expr_first v d t pc n ws s h next
    expr_first (expr.called p f vs) d t pc n ws s h next =
        let ps = call_params f in
        let q = pc + values_size vs in
        let us = argued nl d ps vs ws in
        let g = has_cut code pc (values_size vs) (args_code nl d pc ps vs) _ (args_long vs nl d pc ps) h in
        let e : pc + (values_size vs + 1) ≡ q + 1 = omega arith in
        let b = is_void f.result in
        let next' = more code nl n _ (left (not b) t ws) (left (not b) t us) (within_left (not b) t ws us
        (within_argued nl d ps vs ws)) (moved code nl n _ _ (left (not b) t ws) e next) in
        args_first vs d pc n ps ws s g.0 (call_first code nl b n q us p t f.number _ g.1.0
        (args_known nl d ps vs ws) next')
    expr_first (expr.called_row p m sig vs) d t pc n ws s h next =
        let q = pc + values_size vs in
        let us = argued nl d sig.params vs ws in
        let g = has_cut code pc (values_size vs) (args_code nl d pc sig.params vs) _
        (args_long vs nl d pc sig.params) h in
        let e : pc + (values_size vs + 1) ≡ q + 1 = omega arith in
        let b = has_call_value sig.answer in
        let next' = more code nl n _ (left b t ws) (left b t us) (within_left b t ws us
        (within_argued nl d sig.params vs ws)) (moved code nl n _ _ (left b t ws) e next) in
        args_first vs d pc n sig.params ws s g.0 (answer_first code nl b n q us p t sig _ g.1.0
        (args_known nl d sig.params vs ws) next')
    expr_first (expr.called_unless_null p m sig vs) d t pc n ws s h next =
        let q = pc + values_size vs in
        let us = argued nl d sig.params vs ws in
        let k = missing_size sig.params (listed_values vs) + (1 + (1 + 1)) in
        let g = has_cut code pc (values_size vs) (args_code nl d pc sig.params vs) _
        (args_long vs nl d pc sig.params) h in
        let e : pc + (values_size vs + k) ≡ q + k = omega arith in
        let b = has_call_value sig.answer in
        let next' = more code nl n _ (left b t ws) (left b t us) (within_left b t ws us
        (within_argued nl d sig.params vs ws)) (moved code nl n _ _ (left b t ws) e next) in
        args_first vs d pc n sig.params ws s.0 g.0 (unless_null_first code nl n sig (listed_values vs) d t p q us
        (args_known nl d sig.params vs ws) g.1 next')
    expr_first (expr.called_with_outputs p m sig vs steps) d t pc n ws s h next =
        let x = temp nl d 0 in
        let q = pc + values_size vs in
        let us = argued nl d sig.params vs ws in
        let g = has_cut code pc (values_size vs) (args_code nl d pc sig.params vs) _
        (args_long vs nl d pc sig.params) h in
        let e : pc + (values_size vs + (1 + (outputs_size steps + 3))) ≡ q + 1 + (outputs_size steps + 3)
        = omega arith in
        let b = has_call_value sig.answer in
        let next' = more code nl n _ (t ∷ ws) (t ∷ x ∷ us) (within_both ws (x ∷ us) t (within_more ws us x
        (within_argued nl d sig.params vs ws))) (moved code nl n _ _ (t ∷ ws) e next) in
        args_first vs d pc n sig.params ws s.0 g.0 (answer_first code nl b n q us p x sig _ g.1.0
        (args_known nl d sig.params vs ws)
        (given b n (q + 1) x us s.2 (outputs_first code nl n steps d t p (q + 1) (x ∷ us) (inl refl) g.1.1 next')))
    expr_first (expr.nonsense p) d t pc n ws s h next = by_line code nl n pc ws _ h.0 tt tt

    base_first : (place : expr.Place) (d pc n : ℕ) (ws : List ℕ) → IsPlaceSound nl place
        → HasAt code pc (base_code nl d pc place)
        → WritesFirst code nl n (pc + place_size place) (based place (base_var nl place d) ws)
        → WritesFirst code nl n pc ws
    base_first (expr.local_place p x) d pc n ws s h next =
        let e : pc + 0 ≡ pc = omega arith in moved code nl n _ _ ws e next
    base_first (expr.global_place p m) d pc n ws s h next =
        let e : pc + 0 ≡ pc = omega arith in moved code nl n _ _ ws e next
    base_first (expr.field_place p base tag field) d pc n ws s h next =
        expr_first base d (temp_of nl d base) pc n ws s.1 h (given (gives base) n _ (temp_of nl d base) ws s.0 next)
    base_first expr.no_place d pc n ws s h next = absurd s

    args_first : (vs : expr.Values) (d pc n : ℕ) (ps : List Param) (ws : List ℕ) → AreSound nl vs
        → HasAt code pc (args_code nl d pc ps vs) → WritesFirst code nl n (pc + values_size vs) (argued nl d ps vs ws)
        → WritesFirst code nl n pc ws
    args_first expr.no_values d pc n ps ws s h next = let e : pc + 0 ≡ pc = omega arith in moved code nl n _ _ ws e next
    args_first (expr.value_and v vs) d pc n ps ws s h next =
        let x = arg_var nl d ps v in
        let q = pc + expr_size v in
        let g = has_cut code pc (expr_size v) (expr_code nl d x pc v) _ (expr_long v nl d x pc) h in
        let e : pc + (expr_size v + values_size vs) ≡ q + values_size vs = omega arith in
        expr_first v d x pc n ws s.1 g.0
        (given (gives v) n q x ws s.0 (args_first vs (d + 1) q n (tail ps) (x ∷ ws) s.2 g.1
        (moved code nl n _ _ (argued nl (d + 1) (tail ps) vs (x ∷ ws)) e next)))
