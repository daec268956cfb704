-- The instructions of a call, once its arguments were written, read no temporary that they did not write before.
use Rattle.std.proofs.Common.{◌≡◌, inl, inr, ℕ, ◌+◌, List, [], ◌∷◌, map, Some, None, refl, subst, arith, Bool, true}
use Rattle.std.proofs.Common.{false, not, if◌then◌else◌}
use Rattle.std.specs.Prelude.{slice_get}
use Rattle.pungi_base.specs.declared.pos.Pos.{Pos}
use Rattle.pungi_api.specs.Signatures.{null_signature}
use Rattle.pungi_api.specs.declared.param.Param.{Param}
use Rattle.pungi_api.specs.declared.param.Param.TheVariants as param
use Rattle.pungi_api.specs.declared.signature.Signature.{Signature}
use Rattle.pungi_resolved.specs.declared.output_step.OutputStep.{OutputStep}
use Rattle.pungi_resolved.specs.declared.output_step.OutputStep.TheVariants.{Ends, Writes}
use Rattle.pungi_resolved.specs.Values as expr
use Rattle.pungi_meaning.specs.Todo.{listed_values}
use Rattle.pungi_code.specs.declared.atom.Atom.{Atom}
use Rattle.pungi_code.specs.declared.code.Line.{Line}
use Rattle.pungi_code.specs.declared.instr.Instr.TheVariants.{Api, Call}
use Rattle.pungi_layout.specs.code.Parts.{has_call_value}
use Rattle.pungi_layout.specs.code.Sizes.{missing_one, missing_size, outputs_size}
use Rattle.pungi_layout.specs.code.Temporaries.{temp, tail, arg_var, arg_vars}
use Rattle.pungi_layout.specs.code.ExprCode.{line, to_var, var, bit, missing_line, missing_code, unless_null_code}
use Rattle.pungi_layout.specs.code.ExprCode.{result_label, steps_code, outputs_code}
use Rattle.pungi_layout.specs.liveness.Liveness.{atoms_vars, Among, IsKnown, AreKnown, WritesFirst}
use Rattle.pungi_layout.proofs.code.ExprLengths.{missing_one_long, missing_long, steps_long}
use Rattle.pungi_layout.proofs.relation.Standing.{HasAt, has_cut}
use Rattle.pungi_layout.proofs.liveness.Paths.{Within, within_all, within_more, within_both, more, by_line}
use Rattle.pungi_layout.proofs.liveness.Places.{one_more, moved, set_first}

-- what was written once a value stands in a variable, if there is one
abbrev pub left : Bool → ℕ → List ℕ → List ℕ
left true t ws = t ∷ ws
left false t ws = ws

pub within_trans : (xs ys zs : List ℕ) → Within xs ys → Within ys zs → Within xs zs
within_trans xs ys zs h g x m = g x (h x m)

-- .. the arguments of a call
abbrev pub argued : ℕ → ℕ → List Param → expr.Values → List ℕ → List ℕ
argued nl d ps expr.no_values ws = ws
argued nl d ps (expr.value_and v vs) ws = argued nl (d + 1) (tail ps) vs (arg_var nl d ps v ∷ ws)

pub within_argued : (nl d : ℕ) (ps : List Param) (vs : expr.Values) (ws : List ℕ) → Within ws (argued nl d ps vs ws)
within_argued nl d ps expr.no_values ws = within_all ws
within_argued nl d ps (expr.value_and v vs) ws =
    let us = arg_var nl d ps v ∷ ws in
    within_trans ws us (argued nl (d + 1) (tail ps) vs us) (within_more ws ws (arg_var nl d ps v) (within_all ws))
    (within_argued nl (d + 1) (tail ps) vs us)

pub args_known : (nl d : ℕ) (ps : List Param) (vs : expr.Values) (ws : List ℕ)
    → AreKnown nl (argued nl d ps vs ws) (atoms_vars (map var (arg_vars nl d ps (listed_values vs))))
args_known nl d ps expr.no_values ws = tt
args_known nl d ps (expr.value_and v vs) ws =
    let us = arg_var nl d ps v ∷ ws in (
      inr (within_argued nl (d + 1) (tail ps) vs us (arg_var nl d ps v) (inl refl)),
      args_known nl (d + 1) (tail ps)
          vs us,
    )

pub within_left : (b : Bool) (t : ℕ) (ws vs : List ℕ) → Within ws vs → Within (left b t ws) (left b t vs)
within_left true t ws vs h = within_both ws vs t h
within_left false t ws vs h = h

left_within : (b : Bool) (t : ℕ) (ws : List ℕ) → Within (left b t ws) (t ∷ ws)
left_within true t ws = within_all (t ∷ ws)
left_within false t ws = within_more ws ws t (within_all ws)

module _ (code : List Line) (nl : ℕ) where
  -- a call, once its arguments were written
  pub answer_first : (b : Bool) (n pc : ℕ) (ws : List ℕ) (p : Pos) (t : ℕ) (sig : Signature) (as' : List Atom)
      → slice_get code pc ≡ Some (line p (Api (if b then Some (to_var t) else None) sig as'))
      → AreKnown nl ws (atoms_vars as') → WritesFirst code nl n (pc + 1) (left b t ws) → WritesFirst code nl n pc ws
  answer_first true n pc ws p t sig as' here known next = by_line code nl n pc ws _ here known (next, tt)
  answer_first false n pc ws p t sig as' here known next = by_line code nl n pc ws _ here known (next, tt)

  -- .. of a function of the file
  pub call_first : (b : Bool) (n pc : ℕ) (ws : List ℕ) (p : Pos) (t m : ℕ) (as' : List Atom)
      → slice_get code pc ≡ Some (line p (Call (if b then None else Some (to_var t)) m as'))
      → AreKnown nl ws (atoms_vars as') → WritesFirst code nl n (pc + 1) (left (not b) t ws)
      → WritesFirst code nl n pc ws
  call_first true n pc ws p t m as' here known next = by_line code nl n pc ws _ here known (next, tt)
  call_first false n pc ws p t m as' here known next = by_line code nl n pc ws _ here known (next, tt)

  -- ---- calls that return NULL where an argument is missing

  missing_one_first : (q : Param) (n x : ℕ) (p : Pos) (pc other : ℕ) (ws : List ℕ) → IsKnown nl ws x
      → HasAt code pc (missing_line x p pc other q) → WritesFirst code nl n other ws
      → WritesFirst code nl n (pc + missing_one q) ws → WritesFirst code nl n pc ws
  missing_one_first param.ObjectOrNull n x p pc other ws k h that next =
      by_line code nl n pc ws _ h.0 (k, tt) (next, (that, tt))
  missing_one_first _ n x p pc other ws k h that next =
      let e : pc + 0 ≡ pc = omega arith in moved code nl n (pc + 0) pc ws e next

  missing_first : (ps : List Param) (vs : List expr.Value) (n d : ℕ) (p : Pos) (pc other : ℕ) (ws : List ℕ)
      → AreKnown nl ws (atoms_vars (map var (arg_vars nl d ps vs)))
      → HasAt code pc (missing_code nl d p pc other ps vs) → WritesFirst code nl n other ws
      → WritesFirst code nl n (pc + missing_size ps vs) ws → WritesFirst code nl n pc ws
  missing_first [] vs n d p pc other ws k h that next =
      let e : pc + 0 ≡ pc = omega arith in moved code nl n (pc + 0) pc ws e next
  missing_first (q ∷ ps) [] n d p pc other ws k h that next =
      let e : pc + 0 ≡ pc = omega arith in moved code nl n (pc + 0) pc ws e next
  missing_first (q ∷ ps) (v ∷ vs) n d p pc other ws k h that next =
      let x = arg_var nl d (q ∷ ps) v in
      let g = has_cut code pc (missing_one q) (missing_line x p pc other q) _ (missing_one_long x p pc other q) h in
      let e : pc + (missing_one q + missing_size ps vs) ≡ pc + missing_one q + missing_size ps vs = omega arith in
      missing_one_first q n x p pc other ws k.0 g.0 that (missing_first ps vs n (d + 1) p (pc + missing_one q) other ws
      k.1 g.1 that (moved code nl n _ _ ws e next))

  pub unless_null_first : (n : ℕ) (sig : Signature) (vs : List expr.Value) (d t : ℕ) (p : Pos) (pc : ℕ) (ws : List ℕ)
      → AreKnown nl ws (atoms_vars (map var (arg_vars nl d sig.params vs)))
      → HasAt code pc (unless_null_code nl d t p pc sig vs)
      → WritesFirst code nl n (pc + (missing_size sig.params vs + (1 + (1 + 1))))
      (left (has_call_value sig.answer) t ws)
      → WritesFirst code nl n pc ws
  unless_null_first n sig vs d t p pc ws k h next =
      let b = has_call_value sig.answer in
      let q = pc + missing_size sig.params vs in
      let g = has_cut code pc (missing_size sig.params vs) (missing_code nl d p pc (q + 2) sig.params vs) _
      (missing_long sig.params vs nl d p pc (q + 2)) h in
      let e : pc + (missing_size sig.params vs + 3) ≡ q + 3 = omega arith in
      let f : q + 3 ≡ q + 1 + 1 + 1 = omega arith in
      let r : q + 1 + 1 ≡ q + 2 = omega arith in
      let end = moved code nl n _ _ (left b t ws) e next in
      let end' = moved code nl n _ _ (t ∷ ws) f (more code nl n _ (left b t ws) (t ∷ ws) (left_within b t ws) end) in
      let that = moved code nl n _ _ ws r (answer_first true n (q + 1 + 1) ws p t (null_signature sig) _ g.1.1.1.0 k
      end') in
      missing_first sig.params vs n d p pc (q + 2) ws k g.0 that
      (answer_first b n q ws p t sig _ g.1.0 k (by_line code nl n (q + 1) (left b t ws) _ g.1.1.0 tt (end, tt)))

  -- ---- calls that write variables

  result_at : (gives : Bool) (n end : ℕ) (ws : List ℕ) → WritesFirst code nl n end ws
      → WritesFirst code nl n (end + 2) ws → WritesFirst code nl n (result_label gives end) ws
  result_at true n end ws this that = this
  result_at false n end ws this that = that

  -- x was written, the number that the call ended with
  steps_first : (steps : List OutputStep) (n x y : ℕ) (p : Pos) (pc end : ℕ) (ws : List ℕ)
      → pc + outputs_size steps ≡ end → Among x ws → HasAt code pc (steps_code x y p pc end steps)
      → WritesFirst code nl n end ws → WritesFirst code nl n (end + 2) ws → WritesFirst code nl n pc ws
  steps_first [] n x y p pc end ws e m h this that =
      let z : end ≡ pc = omega (arith, e) in moved code nl n end pc ws z this
  steps_first (Ends i gives ∷ steps) n x y p pc end ws e m h this that =
      let z : pc + 2 + outputs_size steps ≡ end = omega (arith, e) in
      let r : pc + 1 + 1 ≡ pc + 2 = omega arith in
      let us = y ∷ ws in
      let this' = one_more code nl n end ws y this in
      let that' = one_more code nl n (end + 2) ws y that in
      let h' = subst (λ k. HasAt code k (steps_code x y p (pc + 2) end steps)) r h.1.1 in
      by_line code nl n pc ws _ h.0 (inr m, tt) (
        by_line code nl n (pc + 1) us _ h.1.0 (inr (inl refl), tt) (
          result_at gives n end us this' that',
          (steps_first steps n x y p (pc + 2) end us z (inr m) h' this' that', tt),
        ),
        tt,
      )
  steps_first (Writes l a ∷ steps) n x y p pc end ws e m h this that =
      let z : pc + 1 + outputs_size steps ≡ end = omega (arith, e) in
      by_line code nl n pc ws _ h.0 tt (
        steps_first steps n x y p (pc + 1) end (l ∷ ws) z (inr m) h.1 (one_more code nl n end ws l this)
            (one_more code nl n (end + 2) ws l that),
        tt,
      )

  pub outputs_first : (n : ℕ) (steps : List OutputStep) (d t : ℕ) (p : Pos) (pc : ℕ) (ws : List ℕ)
      → Among (temp nl d 0) ws → HasAt code pc (outputs_code nl d t p pc steps)
      → WritesFirst code nl n (pc + (outputs_size steps + 3)) (t ∷ ws) → WritesFirst code nl n pc ws
  outputs_first n steps d t p pc ws m h next =
      let x = temp nl d 0 in
      let y = temp nl (d + 1) 0 in
      let end = pc + outputs_size steps in
      let g = has_cut code pc (outputs_size steps) (steps_code x y p pc end steps) _ (steps_long steps x y p pc end)
      h in
      let e : pc + (outputs_size steps + 3) ≡ end + 3 = omega arith in
      let f : end + 3 ≡ end + 1 + 1 + 1 = omega arith in
      let r : end + 1 + 1 ≡ end + 2 = omega arith in
      let next' = moved code nl n _ _ (t ∷ ws) e next in
      let this = set_first code nl n end ws p t (bit true) g.1.0 tt (by_line code nl n (end + 1) (t ∷ ws) _ g.1.1.0 tt
      (next', tt)) in
      let that = moved code nl n _ _ ws r (set_first code nl n (end + 1 + 1) ws p t (bit false) g.1.1.1.0 tt
      (moved code nl n _ _ (t ∷ ws) f next')) in
      steps_first steps n x y p pc end ws refl m g.0 this that
