-- The instructions of a call, once its arguments are there, stand in the code as the relation says.
use Rattle.std.proofs.Common.{◌≡◌, ℕ, suc, ◌+◌, List, [], ◌∷◌, ◌++◌, map, Some, None, refl, subst, arith, true, false}
use Rattle.std.proofs.Common.{if◌then◌else◌}
use Rattle.pungi_base.specs.declared.pos.Pos.{Pos}
use Rattle.pungi_api.specs.declared.param.Param.{Param}
use Rattle.pungi_api.specs.declared.param.Param.TheVariants as param
use Rattle.pungi_api.specs.declared.signature.Signature.{Signature}
use Rattle.pungi_api.specs.Signatures.{null_signature}
use Rattle.pungi_resolved.specs.declared.output_step.OutputStep.{OutputStep}
use Rattle.pungi_resolved.specs.declared.output_step.OutputStep.TheVariants.{Ends, Writes}
use Rattle.pungi_resolved.specs.Values as expr
use Rattle.pungi_meaning.specs.Todo.{UnlessNull}
use Rattle.pungi_code.specs.declared.code.Line.{Line}
use Rattle.pungi_code.specs.declared.instr.Instr.TheVariants.{Set, Api, Jump}
use Rattle.pungi_layout.specs.code.Parts.{has_call_value}
use Rattle.pungi_layout.specs.code.Sizes.{missing_size, outputs_size}
use Rattle.pungi_layout.specs.code.Sound.{AreWritten}
use Rattle.pungi_layout.specs.code.Temporaries.{temp, arg_vars}
use Rattle.pungi_layout.specs.code.ExprCode.{to_var, var, at_label, bit, missing_code, unless_null_code, steps_code}
use Rattle.pungi_layout.specs.code.ExprCode.{result_code, outputs_code}
use Rattle.pungi_layout.proofs.relation.Relation.{Stands, Does, IsTemp, RowAt, MissingAt, StepsAt, OutputsAt, CallAt}
use Rattle.pungi_layout.proofs.relation.Standing.{HasAt}
use Rattle.pungi_layout.proofs.relation.Columns.{answer_is}

module _ (code : List Line) (nl room : ℕ) where
  pub row_placed : (p : Pos) (g : Signature) (t : ℕ) (ts : List ℕ) (pc : ℕ)
      → Stands code nl room pc p (Api (if has_call_value g.answer then Some (to_var t) else None) g (map var ts))
      → RowAt code nl room p g t ts pc
  row_placed p g t ts pc h =
      subst (λ o. Stands code nl room pc p (Api o g (map var ts))) (answer_is (has_call_value g.answer) t) h

  -- the branches, and what stands after them
  missing_placed : (ps : List Param) (vs : List expr.Value) (d : ℕ) (p : Pos) (pc go other : ℕ) (more : List Line)
      → pc + missing_size ps vs ≡ go → HasAt code pc (missing_code nl d p pc other ps vs ++ more)
      → MissingAt code nl room ps (arg_vars nl d ps vs) pc go other × HasAt code go more
  missing_placed [] [] d p pc go other more e h =
      let e' : pc ≡ go = omega (arith, e) in (e', subst (λ n. HasAt code n more) e' h)
  missing_placed [] (v ∷ vs) d p pc go other more e h =
      let e' : pc ≡ go = omega (arith, e) in (e', subst (λ n. HasAt code n more) e' h)
  missing_placed (q ∷ ps) [] d p pc go other more e h =
      let e' : pc ≡ go = omega (arith, e) in (e', subst (λ n. HasAt code n more) e' h)
  missing_placed (param.ObjectOrNull ∷ ps) (v ∷ vs) d p pc go other more e h =
      let r = missing_placed ps vs (d + 1) p (pc + 1) go other more (omega (arith, e)) h.1 in (((p, h.0), r.0), r.1)
  missing_placed (q ∷ ps) (v ∷ vs) d p pc go other more e h =
      let z : pc + 0 ≡ pc = omega arith in
      missing_placed ps vs (d + 1) p pc go other more (omega (arith, e))
      (subst (λ n. HasAt code pc (missing_code nl (d + 1) p n other ps vs ++ more)) z h)

  pub unless_null_placed : (d t : ℕ) (p : Pos) (pc end : ℕ) (g : Signature) (vs : List expr.Value)
      → pc + missing_size g.params vs + 3 ≡ end → has_call_value g.answer ≡ true
      → HasAt code pc (unless_null_code nl d t p pc g vs)
      → CallAt code nl room p (UnlessNull g) d t (arg_vars nl d g.params vs) pc end
  unless_null_placed d t p pc end g vs e has h =
      let ts = arg_vars nl d g.params vs in
      let go = pc + missing_size g.params vs in
      let r = missing_placed g.params vs d p pc go (go + 2) _ refl h in
      let e2 : go + 1 + 1 ≡ go + 2 = omega arith in (
        go,
        has,
        r.0,
        row_placed p g t ts go r.1.0,
        subst (λ n. Does code nl room (go + 1) (Jump (at_label n))) e (p, r.1.1.0),
        subst (λ n. RowAt code nl room p (null_signature g) t ts n) e2
            (row_placed p (null_signature g) t ts (go + 1 + 1) r.1.1.1.0),
        e,
      )

  -- the steps, and what stands after them
  steps_placed : (steps : List OutputStep) (x y : ℕ) (p : Pos) (pc results : ℕ) (more : List Line)
      → pc + outputs_size steps ≡ results → AreWritten nl steps
      → HasAt code pc (steps_code x y p pc results steps ++ more)
      → StepsAt code nl room p x y pc results steps × HasAt code results more
  steps_placed [] x y p pc results more e s h =
      let e' : pc ≡ results = omega (arith, e) in (e', subst (λ n. HasAt code n more) e' h)
  steps_placed (Ends n gives ∷ steps) x y p pc results more e s h =
      let e2 : pc + 1 + 1 ≡ pc + 2 = omega arith in
      let r = steps_placed steps x y p (pc + 2) results more (omega (arith, e)) s
      (subst (λ n. HasAt code n (steps_code x y p (pc + 2) results steps ++ more)) e2 h.1.1) in
      ((h.0, (p, h.1.0), r.0), r.1)
  steps_placed (Writes l a ∷ steps) x y p pc results more e s h =
      let r = steps_placed steps x y p (pc + 1) results more (omega (arith, e)) s.1 h.1 in ((s.0, h.0, r.0), r.1)

  pub outputs_placed : (d t : ℕ) (p : Pos) (pc end : ℕ) (steps : List OutputStep) → pc + outputs_size steps + 3 ≡ end
      → AreWritten nl steps → IsTemp code nl room (suc d) (temp nl (d + 1) 0)
      → HasAt code pc (outputs_code nl d t p pc steps)
      → OutputsAt code nl room d p steps (temp nl d 0) t pc end
  outputs_placed d t p pc end steps e s at h =
      let results = pc + outputs_size steps in
      let r = steps_placed steps (temp nl d 0) (temp nl (d + 1) 0) p pc results (result_code t p results) refl s h in
      let e2 : results + 1 + 1 ≡ results + 2 = omega arith in (
        temp nl (d + 1) 0,
        results,
        at,
        r.0,
        (
          (p, r.1.0),
          subst (λ n. Does code nl room (results + 1) (Jump (at_label n))) e (p, r.1.1.0),
          subst (λ n. Does code nl room n (Set (to_var t) (bit false))) e2 (p, r.1.1.1.0),
          e,
        ),
      )
