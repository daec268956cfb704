-- An instruction of an expression leads to one of the same statement, further on, or to where no temporary is kept.
use Rattle.std.proofs.Common.{◌≡◌, inl, inr, ℕ, ◌+◌, List, ◌∷◌, ◌++◌, map, refl, arith, true, false}
use Rattle.pungi_base.specs.declared.pos.Pos.{Pos}
use Rattle.pungi_api.specs.declared.param.Param.{Param}
use Rattle.pungi_types.specs.Operators.{is_void}
use Rattle.pungi_resolved.specs.Values as expr
use Rattle.pungi_resolved.specs.Actions as stmt
use Rattle.pungi_meaning.specs.Values.{op_of, cmp_of, wide}
use Rattle.pungi_meaning.specs.Exprs.{is_and}
use Rattle.pungi_meaning.specs.Todo.{listed_values}
use Rattle.pungi_code.specs.declared.atom.Atom.TheVariants as atom
use Rattle.pungi_code.specs.declared.code.Line.{Line}
use Rattle.pungi_code.specs.declared.instr.Instr.TheVariants.{Set, Arith, Fit, Compare}
use Rattle.pungi_layout.specs.code.CallKinds.{call_params}
use Rattle.pungi_layout.specs.code.Parts.{is_minus, has_call_value}
use Rattle.pungi_layout.specs.code.Sizes.{expr_size, place_size, values_size, fit_size, store_size, missing_size}
use Rattle.pungi_layout.specs.code.Sizes.{outputs_size}
use Rattle.pungi_layout.specs.code.Temporaries.{column, temp, value_column, temp_of, operand, tail, arg_var, arg_vars}
use Rattle.pungi_layout.specs.code.ExprCode.{to_var, var, bit, old_code, above, stored_var, counted_var, base_var}
use Rattle.pungi_layout.specs.code.ExprCode.{expr_code, base_code, args_code}
use Rattle.pungi_layout.specs.code.Sound.{IsSound, IsPlaceSound, AreSound}
use Rattle.pungi_layout.specs.liveness.Boundaries.{expr_positions, place_positions, values_positions, own, IsPart}
use Rattle.pungi_layout.proofs.code.ExprLengths.{expr_long, base_long, args_long, old_long}
use Rattle.pungi_layout.proofs.relation.Standing.{HasAt, has_cut}
use Rattle.pungi_layout.proofs.boundaries.FirstTokens.{first_among}
use Rattle.pungi_layout.proofs.boundaries.Places.{Covers, covers_front, covers_back, AllFine, all_append, Exit, exit_at}
use Rattle.pungi_layout.proofs.boundaries.Places.{leap, step, here, old_enters, old_fine, store_enters, store_fine}
use Rattle.pungi_layout.proofs.boundaries.Places.{put_enters, put_fine, step_fine, branch_fine, one_fine}
use Rattle.pungi_layout.proofs.boundaries.Signs.{signed_enters, signed_fine}
use Rattle.pungi_layout.proofs.boundaries.Calls.{answer_fine, call_fine, unless_null_enters, unless_null_fine}
use Rattle.pungi_layout.proofs.boundaries.Calls.{outputs_enters, outputs_fine}

module _ (code : List Line) (nl : ℕ) (all : List stmt.Action) where
  module _ (a : stmt.Action) (part : IsPart a all) where
    -- ---- expressions

    under : (p : Pos) (ps : List Pos) → Covers (p ∷ ps) (own a) → Covers ps (own a)
    under p ps c q k = c q (inr k)

    mutual
      pub expr_enters : (v : expr.Value) (d t pc : ℕ) → IsSound nl v → Covers (expr_positions v) (own a)
          → HasAt code pc (expr_code nl d t pc v) → Exit code nl all a part pc
      expr_enters (expr.constant p n) d t pc s c h = here code nl all a part pc p _ h.0 (c p (inl refl))
      expr_enters (expr.text_of p ns) d t pc s c h = here code nl all a part pc p _ h.0 (c p (inl refl))
      expr_enters (expr.null_of p) d t pc s c h = here code nl all a part pc p _ h.0 (c p (inl refl))
      expr_enters (expr.static_of p n) d t pc s c h = here code nl all a part pc p _ h.0 (c p (inl refl))
      expr_enters (expr.module_of p n) d t pc s c h = here code nl all a part pc p _ h.0 (c p (inl refl))
      expr_enters (expr.read p kind place) d t pc s c h =
          let g = has_cut code pc (place_size place) (base_code nl d pc place) _ (base_long place nl d pc) h in
          base_enters place d pc s (under p _ c) g.0 (old_enters code nl all a part (pc + place_size place) kind place t
          (base_var nl place d) s (under p _ c) g.1)
      expr_enters (expr.inner p v) d t pc s c h = expr_enters v d t pc s (under p _ c) h
      expr_enters (expr.signed p m kind v) d t pc s c h =
          signed_enters code nl all a part (is_minus m) p kind v d t pc (λ t'. expr_long v nl d t' pc)
          (λ t' g. expr_enters v d t' pc s.1 (under p _ c) g) h
      expr_enters (expr.negated p v) d t pc s c h = here code nl all a part pc p _ h.0 (c p (inl refl))
      expr_enters (expr.stepped p false m kind place) d t pc s c h =
          let b = base_var nl place d in
          let o = temp nl (above place d) (column kind) in
          let q = pc + place_size place in
          let g = has_cut code pc (place_size place) (base_code nl d pc place) _ (base_long place nl d pc) h in
          let f = has_cut code q 1 (old_code kind place o b) _ (old_long nl kind place o b) g.1 in
          base_enters place d pc s (under p _ c) g.0
          (old_enters code nl all a part q kind place o b s (under p _ c) f.0)
      expr_enters (expr.stepped p true m kind place) d t pc s c h = here code nl all a part pc p _ h.0 (c p (inl refl))
      expr_enters (expr.emptied p kind place) d t pc s c h = here code nl all a part pc p _ h.0 (c p (inl refl))
      expr_enters (expr.computed p m kind x y) d t pc s c h =
          let i = temp_of nl d x in
          let g = has_cut code pc (expr_size x) (expr_code nl d i pc x) _ (expr_long x nl d i pc) h in
          expr_enters x d i pc s.1 (covers_front (expr_positions x) (expr_positions y) (own a) (under p _ c)) g.0
      expr_enters (expr.compared p m x y) d t pc s c h =
          let i = operand nl d (value_column y) x in
          let g = has_cut code pc (expr_size x) (expr_code nl d i pc x) _ (expr_long x nl d i pc) h in
          expr_enters x d i pc s.1 (covers_front (expr_positions x) (expr_positions y) (own a) (under p _ c)) g.0
      expr_enters (expr.joined_by p m x y) d t pc s c h = here code nl all a part pc p _ h.0 (c p (inl refl))
      expr_enters (expr.stored p kind place v) d t pc s c h =
          let x = stored_var nl place d kind in
          let q = pc + place_size place in
          let cp = covers_front (place_positions place) (expr_positions v) (own a) (under p _ c) in
          let cv = covers_back (place_positions place) (expr_positions v) (own a) (under p _ c) in
          let g = has_cut code pc (place_size place) (base_code nl d pc place) _ (base_long place nl d pc) h in
          let f = has_cut code q (expr_size v) (expr_code nl (above place d) x q v) _
          (expr_long v nl (above place d) x q) g.1 in
          base_enters place d pc s.0 cp g.0 (expr_enters v (above place d) x q s.2 cv f.0)
      expr_enters (expr.updated p m counted kind place v) d t pc s c h =
          let b = base_var nl place d in
          let o = temp nl (above place d) (column kind) in
          let q = pc + place_size place in
          let cp = covers_front (place_positions place) (expr_positions v) (own a) (under p _ c) in
          let g = has_cut code pc (place_size place) (base_code nl d pc place) _ (base_long place nl d pc) h in
          let f = has_cut code q 1 (old_code kind place o b) _ (old_long nl kind place o b) g.1 in
          base_enters place d pc s.0 cp g.0 (old_enters code nl all a part q kind place o b s.0 cp f.0)
      expr_enters (expr.chosen p x y z) d t pc s c h =
          let i = temp_of nl d x in
          let g = has_cut code pc (expr_size x) (expr_code nl d i pc x) _ (expr_long x nl d i pc) h in
          expr_enters x d i pc s.1 (covers_front (expr_positions x) (expr_positions y ++ expr_positions z) (own a)
          (under p _ c)) g.0
      expr_enters (expr.converted p kind v) d t pc s c h =
          let x = temp_of nl d v in
          let g = has_cut code pc (expr_size v) (expr_code nl d x pc v) _ (expr_long v nl d x pc) h in
          expr_enters v d x pc s.1 (under p _ c) g.0
      expr_enters (expr.cast_of p v) d t pc s c h = expr_enters v d t pc s (under p _ c) h
      expr_enters (expr.dropped p v) d t pc s c h = expr_enters v d t pc s (under p _ c) h
      expr_enters (expr.called p f vs) d t pc s c h =
          let ps = call_params f in
          let g = has_cut code pc (values_size vs) (args_code nl d pc ps vs) _ (args_long vs nl d pc ps) h in
          args_enters vs d pc ps s (under p _ c) g.0
          (here code nl all a part (pc + values_size vs) p _ g.1.0 (c p (inl refl)))
      expr_enters (expr.called_row p n sig vs) d t pc s c h =
          let g = has_cut code pc (values_size vs) (args_code nl d pc sig.params vs) _
          (args_long vs nl d pc sig.params) h in
          args_enters vs d pc sig.params s (under p _ c) g.0
          (here code nl all a part (pc + values_size vs) p _ g.1.0 (c p (inl refl)))
      expr_enters (expr.called_unless_null p n sig vs) d t pc s c h =
          let g = has_cut code pc (values_size vs) (args_code nl d pc sig.params vs) _
          (args_long vs nl d pc sig.params) h in
          args_enters vs d pc sig.params s.0 (under p _ c) g.0
          (unless_null_enters code nl all a part sig (listed_values vs) d t p (pc + values_size vs) (c p (inl refl))
          g.1)
      expr_enters (expr.called_with_outputs p n sig vs steps) d t pc s c h =
          let g = has_cut code pc (values_size vs) (args_code nl d pc sig.params vs) _
          (args_long vs nl d pc sig.params) h in
          args_enters vs d pc sig.params s.0 (under p _ c) g.0
          (here code nl all a part (pc + values_size vs) p _ g.1.0 (c p (inl refl)))
      expr_enters (expr.nonsense p) d t pc s c h = here code nl all a part pc p _ h.0 (c p (inl refl))

      base_enters : (place : expr.Place) (d pc : ℕ) → IsPlaceSound nl place → Covers (place_positions place) (own a)
          → HasAt code pc (base_code nl d pc place) → Exit code nl all a part (pc + place_size place)
          → Exit code nl all a part pc
      base_enters (expr.local_place p x) d pc s c h next = let e : pc + 0 ≡ pc = omega arith in exit_at code nl all a
          part _ _ e next
      base_enters (expr.global_place p n) d pc s c h next = let e : pc + 0 ≡ pc = omega arith in exit_at code nl all a
          part _ _ e next
      base_enters (expr.field_place p base tag field) d pc s c h next = expr_enters base d (temp_of nl d base) pc
          s.1 (under p _ c) h
      base_enters expr.no_place d pc s c h next = absurd s

      args_enters : (vs : expr.Values) (d pc : ℕ) (ps : List Param) → AreSound nl vs
          → Covers (values_positions vs) (own a) → HasAt code pc (args_code nl d pc ps vs)
          → Exit code nl all a part (pc + values_size vs) → Exit code nl all a part pc
      args_enters expr.no_values d pc ps s c h next = let e : pc + 0 ≡ pc = omega arith in exit_at code nl all a part _
          _ e next
      args_enters (expr.value_and v vs) d pc ps s c h next =
          let x = arg_var nl d ps v in
          let g = has_cut code pc (expr_size v) (expr_code nl d x pc v) _ (expr_long v nl d x pc) h in
          expr_enters v d x pc s.1 (covers_front (expr_positions v) (values_positions vs) (own a) c) g.0

    mutual
      pub expr_fine : (v : expr.Value) (d t pc : ℕ) → IsSound nl v → Covers (expr_positions v) (own a)
          → HasAt code pc (expr_code nl d t pc v) → Exit code nl all a part (pc + expr_size v)
          → AllFine code nl all pc (expr_code nl d t pc v)
      expr_fine (expr.constant p n) d t pc s c h next =
          one_fine code nl all a part pc p (Set (to_var t) (atom.Int n)) refl (c p (inl refl)) next
      expr_fine (expr.text_of p ns) d t pc s c h next =
          one_fine code nl all a part pc p (Set (to_var t) atom.Text) refl (c p (inl refl)) next
      expr_fine (expr.null_of p) d t pc s c h next =
          one_fine code nl all a part pc p (Set (to_var t) atom.Null) refl (c p (inl refl)) next
      expr_fine (expr.static_of p n) d t pc s c h next =
          one_fine code nl all a part pc p (Set (to_var t) (atom.Static n)) refl (c p (inl refl)) next
      expr_fine (expr.module_of p n) d t pc s c h next =
          one_fine code nl all a part pc p (Set (to_var t) atom.Text) refl (c p (inl refl)) next
      expr_fine (expr.read p kind place) d t pc s c h next =
          let b = base_var nl place d in
          let q = pc + place_size place in
          let g = has_cut code pc (place_size place) (base_code nl d pc place) _ (base_long place nl d pc) h in
          let e : pc + (place_size place + 1) ≡ q + 1 = omega arith in
          all_append code nl all pc (place_size place) (base_code nl d pc place) _ (base_long place nl d pc)
          (base_fine place d pc s (under p _ c) g.0
          (old_enters code nl all a part q kind place t b s (under p _ c) g.1))
          (old_fine code nl all a part q kind place t b s (under p _ c) (exit_at code nl all a part _ _ e next))
      expr_fine (expr.inner p v) d t pc s c h next = expr_fine v d t pc s (under p _ c) h next
      expr_fine (expr.signed p m kind v) d t pc s c h next =
          signed_fine code nl all a part (is_minus m) p kind v d t pc (c p (inl refl)) (λ t'. expr_long v nl d t' pc)
          (λ t' g k. expr_fine v d t' pc s.1 (under p _ c) g k) h next
      expr_fine (expr.negated p v) d t pc s c h next =
          let x = temp_of nl (d + 1) v in
          let q = pc + 1 + expr_size v in
          let m = c p (inl refl) in
          let cv = expr_code nl (d + 1) x (pc + 1) v in
          let g = has_cut code (pc + 1) (expr_size v) cv _ (expr_long v nl (d + 1) x (pc + 1)) h.1 in
          let e : pc + (1 + expr_size v + 2) ≡ q + 2 = omega arith in
          let f : q + 2 ≡ q + 1 + 1 = omega arith in
          let end = exit_at code nl all a part _ _ e next in (
            (step code nl all a part pc p m (expr_enters v (d + 1) x (pc + 1) s.1 (under p _ c) g.0), tt),
            all_append code nl all (pc + 1) (expr_size v) cv _ (expr_long v nl (d + 1) x (pc + 1))
                (expr_fine v (d + 1) x (pc + 1) s.1 (under p _ c) g.0 (here code nl all a part q p _ g.1.0 m)) (
                  (
                    leap code nl all a part q (q + 1) p m (omega arith) (here code nl all a part (q + 1) p _ g.1.1.0 m),
                    (
                      leap code nl all a part q (q + 2) p m (omega arith)
                          end,
                      tt,
                    ),
                  ),
                  one_fine code nl all a part (q + 1) p (Set (to_var t) (bit false)) refl m
                      (exit_at code nl all a part _ _ f end),
                ),
          )
      expr_fine (expr.stepped p false m kind place) d t pc s c h next =
          let b = base_var nl place d in
          let o = temp nl (above place d) (column kind) in
          let q = pc + place_size place in
          let k = c p (inl refl) in
          let g = has_cut code pc (place_size place) (base_code nl d pc place) _ (base_long place nl d pc) h in
          let f = has_cut code q 1 (old_code kind place o b) _ (old_long nl kind place o b) g.1 in
          let e : pc + (0 + place_size place + 1 + 0 + 1 + fit_size kind (wide kind) + store_size)
          ≡ q + 1 + 1 + (fit_size kind (wide kind) + store_size) = omega arith in
          all_append code nl all pc (place_size place) (base_code nl d pc place) _ (base_long place nl d pc)
          (base_fine place d pc s (under p _ c) g.0
          (old_enters code nl all a part q kind place o b s (under p _ c) f.0))
          (all_append code nl all q 1 (old_code kind place o b) _ (old_long nl kind place o b)
          (old_fine code nl all a part q kind place o b s (under p _ c) (here code nl all a part (q + 1) p _ f.1.0 k))
          (step_fine code nl all a part (q + 1) p m kind place d t k s (under p _ c) f.1
          (exit_at code nl all a part _ _ e next)))
      expr_fine (expr.stepped p true m kind place) d t pc s c h next =
          let b = base_var nl place (d + 1) in
          let o = temp nl (above place (d + 1)) (column kind) in
          let x = temp nl (d + 1) (column kind) in
          let q = pc + 1 + place_size place in
          let k = c p (inl refl) in
          let g = has_cut code (pc + 1) (place_size place) (base_code nl (d + 1) (pc + 1) place) _
          (base_long place nl (d + 1) (pc + 1)) h.1 in
          let f = has_cut code q 1 (old_code kind place o b) _ (old_long nl kind place o b) g.1 in
          let e : pc + (1 + place_size place + 1 + 1 + 1 + fit_size kind (wide kind) + store_size)
          ≡ q + 1 + 1 + 1 + (fit_size kind (wide kind) + store_size) = omega arith in
          let at_old = old_enters code nl all a part q kind place o b s (under p _ c) f.0 in (
            (step code nl all a part pc p k (base_enters place (d + 1) (pc + 1) s (under p _ c) g.0 at_old), tt),
            all_append code nl all (pc + 1) (place_size place) (base_code nl (d + 1) (pc + 1) place) _
                (base_long place nl (d + 1) (pc + 1))
                (base_fine place (d + 1) (pc + 1) s (under p _ c) g.0 at_old)
                (all_append code nl all q 1 (old_code kind place o b) _ (old_long nl kind place o b)
                (old_fine code nl all a part q kind place o b s (under p _ c)
                (here code nl all a part (q + 1) p _ f.1.0 k)) (
                  (step code nl all a part (q + 1) p k (here code nl all a part (q + 1 + 1) p _ f.1.1.0 k), tt),
                  step_fine code nl all a part (q + 1 + 1) p m kind place
                      (d + 1) x k s (under p _ c) f.1.1 (exit_at code nl all a part _ _ e next),
                )),
          )
      expr_fine (expr.emptied p kind place) d t pc s c h next =
          let b = base_var nl place (d + 1) in
          let o = stored_var nl place (d + 1) kind in
          let x = temp nl (d + 1) (column kind) in
          let q = pc + 1 + place_size place in
          let k = c p (inl refl) in
          let g = has_cut code (pc + 1) (place_size place) (base_code nl (d + 1) (pc + 1) place) _
          (base_long place nl (d + 1) (pc + 1)) h.1 in
          let f = has_cut code q 1 (old_code kind place o b) _ (old_long nl kind place o b) g.1 in
          let e : pc + (1 + place_size place + 1 + 1 + 1 + store_size) ≡ q + 1 + 1 + 1 + store_size = omega arith in
          let at_old = old_enters code nl all a part q kind place o b s (under p _ c) f.0 in
          let at_store = store_enters code nl all a part (q + 1 + 1 + 1) kind place x b o s (under p _ c) f.1.1.1 in (
            (step code nl all a part pc p k (base_enters place (d + 1) (pc + 1) s (under p _ c) g.0 at_old), tt),
            all_append code nl all (pc + 1) (place_size place) (base_code nl (d + 1) (pc + 1) place) _
                (base_long place nl (d + 1) (pc + 1))
                (base_fine place (d + 1) (pc + 1) s (under p _ c) g.0 at_old)
                (all_append code nl all q 1 (old_code kind place o b) _ (old_long nl kind place o b)
                (old_fine code nl all a part q kind place o b s (under p _ c)
                (here code nl all a part (q + 1) p _ f.1.0 k)) (
                  (step code nl all a part (q + 1) p k (here code nl all a part (q + 1 + 1) p _ f.1.1.0 k), tt),
                  (
                    (step code nl all a part (q + 1 + 1) p k at_store, tt),
                    store_fine code nl all a part (q + 1 + 1 + 1) kind place x b o s (under p _ c) f.1.1.1
                        (exit_at code nl all a part _ _ e next),
                  ),
                )),
          )
      expr_fine (expr.computed p m kind x y) d t pc s c h next =
          let i = temp_of nl d x in
          let j = temp_of nl (d + 1) y in
          let q = pc + expr_size x in
          let k = c p (inl refl) in
          let cx = covers_front (expr_positions x) (expr_positions y) (own a) (under p _ c) in
          let cy = covers_back (expr_positions x) (expr_positions y) (own a) (under p _ c) in
          let g = has_cut code pc (expr_size x) (expr_code nl d i pc x) _ (expr_long x nl d i pc) h in
          let f = has_cut code q (expr_size y) (expr_code nl (d + 1) j q y) _ (expr_long y nl (d + 1) j q) g.1 in
          let e : pc + (expr_size x + expr_size y + 1) ≡ q + expr_size y + 1 = omega arith in
          all_append code nl all pc (expr_size x) (expr_code nl d i pc x) _ (expr_long x nl d i pc)
          (expr_fine x d i pc s.1 cx g.0 (expr_enters y (d + 1) j q s.3 cy f.0))
          (all_append code nl all q (expr_size y) (expr_code nl (d + 1) j q y) _ (expr_long y nl (d + 1) j q)
          (expr_fine y (d + 1) j q s.3 cy f.0 (here code nl all a part (q + expr_size y) p _ f.1.0 k))
          (one_fine code nl all a part (q + expr_size y) p (Arith (to_var t) kind (op_of m) (var i) (var j)) refl k
          (exit_at code nl all a part _ _ e next)))
      expr_fine (expr.compared p m x y) d t pc s c h next =
          let i = operand nl d (value_column y) x in
          let j = operand nl (d + 1) (value_column x) y in
          let q = pc + expr_size x in
          let k = c p (inl refl) in
          let cx = covers_front (expr_positions x) (expr_positions y) (own a) (under p _ c) in
          let cy = covers_back (expr_positions x) (expr_positions y) (own a) (under p _ c) in
          let g = has_cut code pc (expr_size x) (expr_code nl d i pc x) _ (expr_long x nl d i pc) h in
          let f = has_cut code q (expr_size y) (expr_code nl (d + 1) j q y) _ (expr_long y nl (d + 1) j q) g.1 in
          let e : pc + (expr_size x + expr_size y + 1) ≡ q + expr_size y + 1 = omega arith in
          all_append code nl all pc (expr_size x) (expr_code nl d i pc x) _ (expr_long x nl d i pc)
          (expr_fine x d i pc s.1 cx g.0 (expr_enters y (d + 1) j q s.3 cy f.0))
          (all_append code nl all q (expr_size y) (expr_code nl (d + 1) j q y) _ (expr_long y nl (d + 1) j q)
          (expr_fine y (d + 1) j q s.3 cy f.0 (here code nl all a part (q + expr_size y) p _ f.1.0 k))
          (one_fine code nl all a part (q + expr_size y) p (Compare (to_var t) (cmp_of m) (var i) (var j)) refl k
          (exit_at code nl all a part _ _ e next)))
      expr_fine (expr.joined_by p m x y) d t pc s c h next =
          let i = temp_of nl (d + 1) x in
          let j = temp_of nl (d + 1) y in
          let qx = pc + 1 + expr_size x in
          let qy = qx + 1 + expr_size y in
          let on = is_and m in
          let k = c p (inl refl) in
          let cx = covers_front (expr_positions x) (expr_positions y) (own a) (under p _ c) in
          let cy = covers_back (expr_positions x) (expr_positions y) (own a) (under p _ c) in
          let g = has_cut code (pc + 1) (expr_size x) (expr_code nl (d + 1) i (pc + 1) x) _
          (expr_long x nl (d + 1) i (pc + 1)) h.1 in
          let f = has_cut code (qx + 1) (expr_size y) (expr_code nl (d + 1) j (qx + 1) y) _
          (expr_long y nl (d + 1) j (qx + 1)) g.1.1 in
          let e : pc + (1 + expr_size x + 1 + expr_size y + 2) ≡ qy + 2 = omega arith in
          let e' : qy + 2 ≡ qy + 1 + 1 = omega arith in
          let end = exit_at code nl all a part _ _ e next in
          let ku = cx _ (first_among nl x s.1) in
          let kv = cy _ (first_among nl y s.3) in
          let ey = expr_enters y (d + 1) j (qx + 1) s.3 cy f.0 in (
            (step code nl all a part pc p k (expr_enters x (d + 1) i (pc + 1) s.1 cx g.0), tt),
            all_append code nl all (pc + 1) (expr_size x) (expr_code nl (d + 1) i (pc + 1) x) _
                (expr_long x nl (d + 1) i (pc + 1))
                (expr_fine x (d + 1) i (pc + 1) s.1 cx g.0 (here code nl all a part qx _ _ g.1.0 ku)) (
                  branch_fine code nl all a part on qx _ i (qx + 1) (qy + 2) ku (omega arith) (omega arith) ey end,
                  all_append code nl all (qx + 1) (expr_size y) (expr_code nl (d + 1) j (qx + 1) y) _
                      (expr_long y nl (d + 1) j (qx + 1))
                      (expr_fine y (d + 1) j (qx + 1) s.3 cy f.0 (here code nl all a part qy _ _ f.1.0 kv)) (
                        branch_fine code nl all a part on qy _ j (qy + 1) (qy + 2) kv (omega arith) (omega arith)
                            (here code nl all a part (qy + 1) p _ f.1.1.0 k) end,
                        one_fine code nl all a part (qy + 1) p (Set (to_var t) (bit on)) refl k
                            (exit_at code nl all a part _ _ e' end),
                      ),
                ),
          )
      expr_fine (expr.stored p kind place v) d t pc s c h next =
          let b = base_var nl place d in
          let x = stored_var nl place d kind in
          let q = pc + place_size place in
          let cp = covers_front (place_positions place) (expr_positions v) (own a) (under p _ c) in
          let cv = covers_back (place_positions place) (expr_positions v) (own a) (under p _ c) in
          let g = has_cut code pc (place_size place) (base_code nl d pc place) _ (base_long place nl d pc) h in
          let f = has_cut code q (expr_size v) (expr_code nl (above place d) x q v) _
          (expr_long v nl (above place d) x q) g.1 in
          let e : pc + (place_size place + expr_size v + store_size) ≡ q + expr_size v + store_size = omega arith in
          all_append code nl all pc (place_size place) (base_code nl d pc place) _ (base_long place nl d pc)
          (base_fine place d pc s.0 cp g.0 (expr_enters v (above place d) x q s.2 cv f.0))
          (all_append code nl all q (expr_size v) (expr_code nl (above place d) x q v) _
          (expr_long v nl (above place d) x q)
          (expr_fine v (above place d) x q s.2 cv f.0
          (store_enters code nl all a part (q + expr_size v) kind place t b x s.0 cp f.1))
          (store_fine code nl all a part (q + expr_size v) kind place t b x s.0 cp f.1
          (exit_at code nl all a part _ _ e next)))
      expr_fine (expr.updated p m counted kind place v) d t pc s c h next =
          let b = base_var nl place d in
          let o = temp nl (above place d) (column kind) in
          let y = temp_of nl (above place d + 1) v in
          let u = counted_var nl place d kind counted in
          let q = pc + place_size place in
          let r = q + 1 + expr_size v in
          let k = c p (inl refl) in
          let cp = covers_front (place_positions place) (expr_positions v) (own a) (under p _ c) in
          let cv = covers_back (place_positions place) (expr_positions v) (own a) (under p _ c) in
          let g = has_cut code pc (place_size place) (base_code nl d pc place) _ (base_long place nl d pc) h in
          let f = has_cut code q 1 (old_code kind place o b) _ (old_long nl kind place o b) g.1 in
          let z = has_cut code (q + 1) (expr_size v) (expr_code nl (above place d + 1) y (q + 1) v) _
          (expr_long v nl (above place d + 1) y (q + 1)) f.1 in
          let e : pc + (place_size place + 1 + expr_size v + 1 + fit_size kind counted + store_size)
          ≡ r + 1 + (fit_size kind counted + store_size) = omega arith in
          all_append code nl all pc (place_size place) (base_code nl d pc place) _ (base_long place nl d pc)
          (base_fine place d pc s.0 cp g.0 (old_enters code nl all a part q kind place o b s.0 cp f.0))
          (all_append code nl all q 1 (old_code kind place o b) _ (old_long nl kind place o b)
          (old_fine code nl all a part q kind place o b s.0 cp (expr_enters v (above place d + 1) y (q + 1) s.2 cv z.0))
          (all_append code nl all (q + 1) (expr_size v) (expr_code nl (above place d + 1) y (q + 1) v) _
          (expr_long v nl (above place d + 1) y (q + 1))
          (expr_fine v (above place d + 1) y (q + 1) s.2 cv z.0 (here code nl all a part r p _ z.1.0 k)) (
            (
              step code nl all a part r p k
                  (put_enters code nl all a part p k kind counted place d t b s.0 cp (r + 1) z.1.1),
              tt,
            ),
            put_fine code nl all a part p k kind
                counted place d t b s.0 cp (r + 1) z.1.1 (exit_at code nl all a part _ _ e next),
          )))
      expr_fine (expr.chosen p x y z) d t pc s c h next =
          let i = temp_of nl d x in
          let qx = pc + expr_size x in
          let qy = qx + 1 + expr_size y in
          let k = c p (inl refl) in
          let cx = covers_front (expr_positions x) (expr_positions y ++ expr_positions z) (own a) (under p _ c) in
          let cr = covers_back (expr_positions x) (expr_positions y ++ expr_positions z) (own a) (under p _ c) in
          let cy = covers_front (expr_positions y) (expr_positions z) (own a) cr in
          let cz = covers_back (expr_positions y) (expr_positions z) (own a) cr in
          let ku = cx _ (first_among nl x s.1) in
          let g = has_cut code pc (expr_size x) (expr_code nl d i pc x) _ (expr_long x nl d i pc) h in
          let f = has_cut code (qx + 1) (expr_size y) (expr_code nl d t (qx + 1) y) _ (expr_long y nl d t (qx + 1))
          g.1.1 in
          let e : pc + (expr_size x + 1 + expr_size y + 1 + expr_size z) ≡ qy + 1 + expr_size z = omega arith in
          let end = exit_at code nl all a part _ _ e next in
          all_append code nl all pc (expr_size x) (expr_code nl d i pc x) _ (expr_long x nl d i pc)
          (expr_fine x d i pc s.1 cx g.0 (here code nl all a part qx _ _ g.1.0 ku)) (
            (
              leap code nl all a part qx (qx + 1) _ ku (omega arith) (expr_enters y d t (qx + 1) s.3 cy f.0),
              (leap code nl all a part qx (qy + 1) _ ku (omega arith) (expr_enters z d t (qy + 1) s.5 cz f.1.1), tt),
            ),
            all_append code nl all (qx + 1) (expr_size y) (expr_code nl d t (qx + 1) y) _ (expr_long y nl d t (qx + 1))
                (expr_fine y d t (qx + 1) s.3 cy f.0 (here code nl all a part qy p _ f.1.0 k)) (
                  (leap code nl all a part qy (qy + 1 + expr_size z) p k (omega arith) end, tt),
                  expr_fine z d t
                      (qy + 1) s.5 cz f.1.1 end,
                ),
          )
      expr_fine (expr.converted p kind v) d t pc s c h next =
          let x = temp_of nl d v in
          let q = pc + expr_size v in
          let k = c p (inl refl) in
          let g = has_cut code pc (expr_size v) (expr_code nl d x pc v) _ (expr_long v nl d x pc) h in
          let e : pc + (expr_size v + 1) ≡ q + 1 = omega arith in
          all_append code nl all pc (expr_size v) (expr_code nl d x pc v) _ (expr_long v nl d x pc)
          (expr_fine v d x pc s.1 (under p _ c) g.0 (here code nl all a part q p _ g.1.0 k))
          (one_fine code nl all a part q p (Fit (to_var t) kind (var x)) refl k (exit_at code nl all a part _ _ e next))
      expr_fine (expr.cast_of p v) d t pc s c h next = expr_fine v d t pc s (under p _ c) h next
      expr_fine (expr.dropped p v) d t pc s c h next = expr_fine v d t pc s (under p _ c) h next
      expr_fine (expr.called p f vs) d t pc s c h next =
          let ps = call_params f in
          let q = pc + values_size vs in
          let k = c p (inl refl) in
          let g = has_cut code pc (values_size vs) (args_code nl d pc ps vs) _ (args_long vs nl d pc ps) h in
          let e : pc + (values_size vs + 1) ≡ q + 1 = omega arith in
          all_append code nl all pc (values_size vs) (args_code nl d pc ps vs) _ (args_long vs nl d pc ps)
          (args_fine vs d pc ps s (under p _ c) g.0 (here code nl all a part q p _ g.1.0 k))
          (call_fine code nl all a part (is_void f.result) q p t f.number
          (map var (arg_vars nl d ps (listed_values vs))) k (exit_at code nl all a part _ _ e next))
      expr_fine (expr.called_row p n sig vs) d t pc s c h next =
          let q = pc + values_size vs in
          let k = c p (inl refl) in
          let g = has_cut code pc (values_size vs) (args_code nl d pc sig.params vs) _
          (args_long vs nl d pc sig.params) h in
          let e : pc + (values_size vs + 1) ≡ q + 1 = omega arith in
          all_append code nl all pc (values_size vs) (args_code nl d pc sig.params vs) _
          (args_long vs nl d pc sig.params)
          (args_fine vs d pc sig.params s (under p _ c) g.0 (here code nl all a part q p _ g.1.0 k))
          (answer_fine code nl all a part (has_call_value sig.answer) q p t sig
          (map var (arg_vars nl d sig.params (listed_values vs))) k (exit_at code nl all a part _ _ e next))
      expr_fine (expr.called_unless_null p n sig vs) d t pc s c h next =
          let q = pc + values_size vs in
          let k = c p (inl refl) in
          let more = missing_size sig.params (listed_values vs) + (1 + (1 + 1)) in
          let g = has_cut code pc (values_size vs) (args_code nl d pc sig.params vs) _
          (args_long vs nl d pc sig.params) h in
          let e : pc + (values_size vs + more) ≡ q + more = omega arith in
          all_append code nl all pc (values_size vs) (args_code nl d pc sig.params vs) _
          (args_long vs nl d pc sig.params)
          (args_fine vs d pc sig.params s.0 (under p _ c) g.0
          (unless_null_enters code nl all a part sig (listed_values vs) d t p q k g.1))
          (unless_null_fine code nl all a part sig (listed_values vs) d t p q k g.1
          (exit_at code nl all a part _ _ e next))
      expr_fine (expr.called_with_outputs p n sig vs steps) d t pc s c h next =
          let q = pc + values_size vs in
          let k = c p (inl refl) in
          let g = has_cut code pc (values_size vs) (args_code nl d pc sig.params vs) _
          (args_long vs nl d pc sig.params) h in
          let e : pc + (values_size vs + (1 + (outputs_size steps + 3))) ≡ q + 1 + (outputs_size steps + 3)
          = omega arith in
          all_append code nl all pc (values_size vs) (args_code nl d pc sig.params vs) _
          (args_long vs nl d pc sig.params)
          (args_fine vs d pc sig.params s.0 (under p _ c) g.0 (here code nl all a part q p _ g.1.0 k)) (
            (step code nl all a part q p k (outputs_enters code nl all a part steps d t p (q + 1) k g.1.1), tt),
            outputs_fine code nl all a part steps d t p (q + 1) k g.1.1 (exit_at code nl all a part _ _ e next),
          )
      expr_fine (expr.nonsense p) d t pc s c h next = (tt, tt)

      base_fine : (place : expr.Place) (d pc : ℕ) → IsPlaceSound nl place → Covers (place_positions place) (own a)
          → HasAt code pc (base_code nl d pc place) → Exit code nl all a part (pc + place_size place)
          → AllFine code nl all pc (base_code nl d pc place)
      base_fine (expr.local_place p x) d pc s c h next = tt
      base_fine (expr.global_place p n) d pc s c h next = tt
      base_fine (expr.field_place p base tag field) d pc s c h next = expr_fine base d (temp_of nl d base) pc s.1
          (under p _ c) h next
      base_fine expr.no_place d pc s c h next = tt

      args_fine : (vs : expr.Values) (d pc : ℕ) (ps : List Param) → AreSound nl vs
          → Covers (values_positions vs) (own a) → HasAt code pc (args_code nl d pc ps vs)
          → Exit code nl all a part (pc + values_size vs) → AllFine code nl all pc (args_code nl d pc ps vs)
      args_fine expr.no_values d pc ps s c h next = tt
      args_fine (expr.value_and v vs) d pc ps s c h next =
          let x = arg_var nl d ps v in
          let q = pc + expr_size v in
          let cv = covers_front (expr_positions v) (values_positions vs) (own a) c in
          let cs = covers_back (expr_positions v) (values_positions vs) (own a) c in
          let g = has_cut code pc (expr_size v) (expr_code nl d x pc v) _ (expr_long v nl d x pc) h in
          let e : pc + (expr_size v + values_size vs) ≡ q + values_size vs = omega arith in
          let next' = exit_at code nl all a part _ _ e next in
          all_append code nl all pc (expr_size v) (expr_code nl d x pc v) _ (expr_long v nl d x pc)
          (expr_fine v d x pc s.1 cv g.0 (args_enters vs (d + 1) q (tail ps) s.2 cs g.1 next'))
          (args_fine vs (d + 1) q (tail ps) s.2 cs g.1 next')
