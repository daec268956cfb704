-- An instruction of a call, once its arguments are there, leads to one of the same statement, further on, or to where
-- no temporary is kept.
use Rattle.std.proofs.Common.{◌≡◌, ℕ, ◌+◌, ◌<◌, ◌≤◌, List, [], ◌∷◌, map, Some, None, refl, sym, subst, arith, Bool}
use Rattle.std.proofs.Common.{true, false, if◌then◌else◌}
use Rattle.pungi_base.specs.declared.pos.Pos.{Pos}
use Rattle.pungi_api.specs.Signatures.{null_signature}
use Rattle.pungi_api.specs.declared.param.Param.{Param}
use Rattle.pungi_api.specs.declared.param.Param.TheVariants as param
use Rattle.pungi_api.specs.declared.signature.Signature.{Signature}
use Rattle.pungi_resolved.specs.declared.output_step.OutputStep.{OutputStep}
use Rattle.pungi_resolved.specs.declared.output_step.OutputStep.TheVariants.{Ends, Writes}
use Rattle.pungi_resolved.specs.Values as expr
use Rattle.pungi_resolved.specs.Actions as stmt
use Rattle.pungi_code.specs.declared.atom.Atom.{Atom}
use Rattle.pungi_code.specs.declared.code.Line.{Line}
use Rattle.pungi_code.specs.declared.instr.Instr.TheVariants.{Set, Api, Call}
use Rattle.pungi_layout.specs.code.Sizes.{missing_one, missing_size, outputs_size}
use Rattle.pungi_layout.specs.code.Temporaries.{temp, arg_var, arg_vars}
use Rattle.pungi_layout.specs.code.ExprCode.{line, to_var, var, bit, missing_line, missing_code, unless_null_code}
use Rattle.pungi_layout.specs.code.ExprCode.{result_label, steps_code, outputs_code}
use Rattle.pungi_layout.specs.liveness.Boundaries.{own, IsAmong, IsPart}
use Rattle.pungi_layout.proofs.code.ExprLengths.{missing_one_long, missing_long, steps_long}
use Rattle.pungi_layout.proofs.relation.Standing.{HasAt, has_cut}
use Rattle.pungi_layout.proofs.boundaries.Places.{AllFine, all_append, fine_at, Exit, exit_at, leap, step, here}
use Rattle.pungi_layout.proofs.boundaries.Places.{one_fine}

-- a result stands after what leads to it
result_after : (gives : Bool) (i end : ℕ) → i < end → i < result_label gives end
result_after true i end h = h
result_after false i end h = omega (arith, h)

module _ (code : List Line) (nl : ℕ) (all : List stmt.Action) where
  module _ (a : stmt.Action) (part : IsPart a all) where
    pub answer_fine : (b : Bool) (pc : ℕ) (p : Pos) (t : ℕ) (sig : Signature) (as' : List Atom) → IsAmong p (own a)
        → Exit code nl all a part (pc + 1)
        → AllFine code nl all pc (line p (Api (if b then Some (to_var t) else None) sig as') ∷ [])
    answer_fine b pc p t sig as' m next =
        one_fine code nl all a part pc p (Api (if b then Some (to_var t) else None) sig as') refl m next

    pub call_fine : (b : Bool) (pc : ℕ) (p : Pos) (t m : ℕ) (as' : List Atom) → IsAmong p (own a)
        → Exit code nl all a part (pc + 1)
        → AllFine code nl all pc (line p (Call (if b then None else Some (to_var t)) m as') ∷ [])
    call_fine b pc p t m as' k next =
        one_fine code nl all a part pc p (Call (if b then None else Some (to_var t)) m as') refl k next

    -- ---- calls that return NULL where an argument is missing

    missing_one_enters : (q : Param) (x : ℕ) (p : Pos) (pc other : ℕ) → IsAmong p (own a)
        → HasAt code pc (missing_line x p pc other q) → Exit code nl all a part (pc + missing_one q)
        → Exit code nl all a part pc
    missing_one_enters param.ObjectOrNull x p pc other m h next = here code nl all a part pc p _ h.0 m
    missing_one_enters _ x p pc other m h next =
        let e : pc + 0 ≡ pc = omega arith in exit_at code nl all a part _ _ e next

    missing_enters : (ps : List Param) (vs : List expr.Value) (d : ℕ) (p : Pos) (pc other : ℕ) → IsAmong p (own a)
        → HasAt code pc (missing_code nl d p pc other ps vs) → Exit code nl all a part (pc + missing_size ps vs)
        → Exit code nl all a part pc
    missing_enters [] vs d p pc other m h next =
        let e : pc + 0 ≡ pc = omega arith in exit_at code nl all a part _ _ e next
    missing_enters (q ∷ ps) [] d p pc other m h next =
        let e : pc + 0 ≡ pc = omega arith in exit_at code nl all a part _ _ e next
    missing_enters (q ∷ ps) (v ∷ vs) d p pc other m h next =
        let x = arg_var nl d (q ∷ ps) v in
        let g = has_cut code pc (missing_one q) (missing_line x p pc other q) _ (missing_one_long x p pc other q) h in
        let e : pc + (missing_one q + missing_size ps vs) ≡ pc + missing_one q + missing_size ps vs = omega arith in
        missing_one_enters q x p pc other m g.0 (missing_enters ps vs (d + 1) p (pc + missing_one q) other m g.1
        (exit_at code nl all a part _ _ e next))

    missing_one_fine : (q : Param) (x : ℕ) (p : Pos) (pc other : ℕ) → IsAmong p (own a) → pc + missing_one q ≤ other
        → Exit code nl all a part other → Exit code nl all a part (pc + missing_one q)
        → AllFine code nl all pc (missing_line x p pc other q)
    missing_one_fine param.ObjectOrNull x p pc other m le that next = (
      (
        step code nl all a part pc p m next,
        (leap code nl all a part pc other p m (omega (arith, le)) that, tt),
      ),
      tt,
    )
    missing_one_fine _ x p pc other m le that next = tt

    missing_fine : (ps : List Param) (vs : List expr.Value) (d : ℕ) (p : Pos) (pc other : ℕ) → IsAmong p (own a)
        → pc + missing_size ps vs ≤ other → Exit code nl all a part other
        → HasAt code pc (missing_code nl d p pc other ps vs) → Exit code nl all a part (pc + missing_size ps vs)
        → AllFine code nl all pc (missing_code nl d p pc other ps vs)
    missing_fine [] vs d p pc other m le that h next = tt
    missing_fine (q ∷ ps) [] d p pc other m le that h next = tt
    missing_fine (q ∷ ps) (v ∷ vs) d p pc other m le that h next =
        let x = arg_var nl d (q ∷ ps) v in
        let r = pc + missing_one q in
        let g = has_cut code pc (missing_one q) (missing_line x p pc other q) _ (missing_one_long x p pc other q) h in
        let e : pc + (missing_one q + missing_size ps vs) ≡ r + missing_size ps vs = omega arith in
        let next' = exit_at code nl all a part _ _ e next in
        all_append code nl all pc (missing_one q) (missing_line x p pc other q) _ (missing_one_long x p pc other q)
        (missing_one_fine q x p pc other m (omega (arith, le)) that
        (missing_enters ps vs (d + 1) p r other m g.1 next'))
        (missing_fine ps vs (d + 1) p r other m (omega (arith, le)) that g.1 next')

    pub unless_null_enters : (sig : Signature) (vs : List expr.Value) (d t : ℕ) (p : Pos) (pc : ℕ) → IsAmong p (own a)
        → HasAt code pc (unless_null_code nl d t p pc sig vs) → Exit code nl all a part pc
    unless_null_enters sig vs d t p pc m h =
        let q = pc + missing_size sig.params vs in
        let g = has_cut code pc (missing_size sig.params vs) (missing_code nl d p pc (q + 2) sig.params vs) _
        (missing_long sig.params vs nl d p pc (q + 2)) h in
        missing_enters sig.params vs d p pc (q + 2) m g.0 (here code nl all a part q p _ g.1.0 m)

    pub unless_null_fine : (sig : Signature) (vs : List expr.Value) (d t : ℕ) (p : Pos) (pc : ℕ) → IsAmong p (own a)
        → HasAt code pc (unless_null_code nl d t p pc sig vs)
        → Exit code nl all a part (pc + (missing_size sig.params vs + (1 + (1 + 1))))
        → AllFine code nl all pc (unless_null_code nl d t p pc sig vs)
    unless_null_fine sig vs d t p pc m h next =
        let q = pc + missing_size sig.params vs in
        let g = has_cut code pc (missing_size sig.params vs) (missing_code nl d p pc (q + 2) sig.params vs) _
        (missing_long sig.params vs nl d p pc (q + 2)) h in
        let e : pc + (missing_size sig.params vs + 3) ≡ q + 3 = omega arith in
        let f : q + 3 ≡ q + 1 + 1 + 1 = omega arith in
        let r : q + 1 + 1 ≡ q + 2 = omega arith in
        let end = exit_at code nl all a part _ _ e next in
        let that = exit_at code nl all a part _ _ r (here code nl all a part (q + 1 + 1) p _ g.1.1.1.0 m) in
        all_append code nl all pc (missing_size sig.params vs) (missing_code nl d p pc (q + 2) sig.params vs) _
        (missing_long sig.params vs nl d p pc (q + 2))
        (missing_fine sig.params vs d p pc (q + 2) m (omega arith) that g.0 (here code nl all a part q p _ g.1.0 m)) (
          (step code nl all a part q p m (here code nl all a part (q + 1) p _ g.1.1.0 m), tt),
          (
            (leap code nl all a part (q + 1) (q + 3) p m (omega arith) end, tt),
            answer_fine true (q + 1 + 1) p t (null_signature sig) (map var (arg_vars nl d sig.params vs)) m
                (exit_at code nl all a part _ _ f end),
          ),
        )

    -- ---- calls that write variables

    result_exit : (gives : Bool) (end : ℕ) → Exit code nl all a part end → Exit code nl all a part (end + 2)
        → Exit code nl all a part (result_label gives end)
    result_exit true end this that = this
    result_exit false end this that = that

    steps_enters : (steps : List OutputStep) (x y : ℕ) (p : Pos) (pc end : ℕ) → pc + outputs_size steps ≡ end
        → IsAmong p (own a) → HasAt code pc (steps_code x y p pc end steps) → Exit code nl all a part end
        → Exit code nl all a part pc
    steps_enters [] x y p pc end e m h this =
        let z : end ≡ pc = omega (arith, e) in exit_at code nl all a part _ _ z this
    steps_enters (Ends i gives ∷ steps) x y p pc end e m h this = here code nl all a part pc p _ h.0 m
    steps_enters (Writes l b ∷ steps) x y p pc end e m h this = here code nl all a part pc p _ h.0 m

    steps_fine : (steps : List OutputStep) (x y : ℕ) (p : Pos) (pc end : ℕ) → pc + outputs_size steps ≡ end
        → IsAmong p (own a) → HasAt code pc (steps_code x y p pc end steps) → Exit code nl all a part end
        → Exit code nl all a part (end + 2) → AllFine code nl all pc (steps_code x y p pc end steps)
    steps_fine [] x y p pc end e m h this that = tt
    steps_fine (Ends i gives ∷ steps) x y p pc end e m h this that =
        let z : pc + 2 + outputs_size steps ≡ end = omega (arith, e) in
        let r : pc + 1 + 1 ≡ pc + 2 = omega arith in
        let rest = steps_code x y p (pc + 2) end steps in
        let h' = subst (λ k. HasAt code k rest) r h.1.1 in (
          (step code nl all a part pc p m (here code nl all a part (pc + 1) p _ h.1.0 m), tt),
          (
            (
              leap code nl all a part (pc + 1) (result_label gives end) p m
                  (result_after gives (pc + 1) end (omega (arith, z))) (result_exit gives end this that),
              (
                leap code nl all a part (pc + 1) (pc + 2) p m (omega arith)
                    (steps_enters steps x y p (pc + 2) end z m h' this),
                tt,
              ),
            ),
            fine_at code nl all _ _ rest (sym r) (steps_fine steps x y p (pc + 2) end z m h' this that),
          ),
        )
    steps_fine (Writes l b ∷ steps) x y p pc end e m h this that =
        let z : pc + 1 + outputs_size steps ≡ end = omega (arith, e) in (
          (step code nl all a part pc p m (steps_enters steps x y p (pc + 1) end z m h.1 this), tt),
          steps_fine steps x y p (pc + 1) end z m h.1 this that,
        )

    pub outputs_enters : (steps : List OutputStep) (d t : ℕ) (p : Pos) (pc : ℕ) → IsAmong p (own a)
        → HasAt code pc (outputs_code nl d t p pc steps) → Exit code nl all a part pc
    outputs_enters steps d t p pc m h =
        let x = temp nl d 0 in
        let y = temp nl (d + 1) 0 in
        let end = pc + outputs_size steps in
        let g = has_cut code pc (outputs_size steps) (steps_code x y p pc end steps) _ (steps_long steps x y p pc end)
        h in
        steps_enters steps x y p pc end refl m g.0 (here code nl all a part end p _ g.1.0 m)

    pub outputs_fine : (steps : List OutputStep) (d t : ℕ) (p : Pos) (pc : ℕ) → IsAmong p (own a)
        → HasAt code pc (outputs_code nl d t p pc steps) → Exit code nl all a part (pc + (outputs_size steps + 3))
        → AllFine code nl all pc (outputs_code nl d t p pc steps)
    outputs_fine steps d t p pc m h next =
        let x = temp nl d 0 in
        let y = temp nl (d + 1) 0 in
        let end = pc + outputs_size steps in
        let g = has_cut code pc (outputs_size steps) (steps_code x y p pc end steps) _ (steps_long steps x y p pc end)
        h in
        let e : pc + (outputs_size steps + 3) ≡ end + 3 = omega arith in
        let f : end + 3 ≡ end + 1 + 1 + 1 = omega arith in
        let r : end + 1 + 1 ≡ end + 2 = omega arith in
        let next' = exit_at code nl all a part _ _ e next in
        let this = here code nl all a part end p _ g.1.0 m in
        let that = exit_at code nl all a part _ _ r (here code nl all a part (end + 1 + 1) p _ g.1.1.1.0 m) in
        all_append code nl all pc (outputs_size steps) (steps_code x y p pc end steps) _ (steps_long steps x y p pc end)
        (steps_fine steps x y p pc end refl m g.0 this that) (
          (step code nl all a part end p m (here code nl all a part (end + 1) p _ g.1.1.0 m), tt),
          (
            (leap code nl all a part (end + 1) (end + 3) p m (omega arith) next', tt),
            one_fine code nl all a part (end + 1 + 1) p (Set (to_var t) (bit false)) refl m
                (exit_at code nl all a part _ _ f next'),
          ),
        )
