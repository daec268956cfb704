-- The instructions of a call, once its arguments are there, name what is there, and of the kind that they need.
use Rattle.std.proofs.Common.{◌≡◌, ℕ, ◌+◌, ◌<◌, ◌≤◌, inl, arith, Bool, true, false, List, [], ◌∷◌, length, map, Some}
use Rattle.std.proofs.Common.{None, refl, ap, ◌∙◌, subst}
use Rattle.std.specs.Prelude.{◌^◌, if◌then◌else◌}
use Rattle.pungi_base.specs.declared.pos.Pos.{Pos}
use Rattle.pungi_api.specs.Signatures.{is_signature, null_signature}
use Rattle.pungi_api.specs.declared.answer.Answer.{Answer}
use Rattle.pungi_api.specs.declared.answer.Answer.TheVariants as answer
use Rattle.pungi_api.specs.declared.call_answer.CallAnswer.{CallAnswer}
use Rattle.pungi_api.specs.declared.call_answer.CallAnswer.TheVariants.{Of}
use Rattle.pungi_api.specs.declared.param.Param.{Param}
use Rattle.pungi_api.specs.declared.param.Param.TheVariants as param
use Rattle.pungi_api.specs.declared.signature.Signature.{Signature}
use Rattle.pungi_types.specs.Calls.{answer_kind}
use Rattle.pungi_types.specs.Operators.{is_void}
use Rattle.pungi_resolved.specs.declared.callee.CalledFunction.{CalledFunction}
use Rattle.pungi_resolved.specs.declared.output_step.OutputStep.{OutputStep}
use Rattle.pungi_resolved.specs.declared.output_step.OutputStep.TheVariants.{Ends, Writes}
use Rattle.pungi_resolved.specs.Values as expr
use Rattle.pungi_meaning.specs.declared.cmp.Cmp.TheVariants as cmps
use Rattle.pungi_meaning.specs.Values.{slot_kind}
use Rattle.pungi_meaning.specs.Todo.{listed_values}
use Rattle.pungi_code.specs.declared.atom.Atom.TheVariants as atom
use Rattle.pungi_code.specs.declared.code.Code.{Code}
use Rattle.pungi_code.specs.WellFormed.{is_wide, is_integer, is_number, is_argument, are_arguments, answer_param}
use Rattle.pungi_code.specs.WellFormed.{returned_param, is_answer, fits_call}
use Rattle.pungi_layout.specs.code.CallKinds.{call_params, returned_kind}
use Rattle.pungi_layout.specs.code.Levels.{values_levels}
use Rattle.pungi_layout.specs.code.Parts.{has_call_value}
use Rattle.pungi_layout.specs.code.Sizes.{missing_one, missing_size, outputs_size}
use Rattle.pungi_layout.specs.code.Temporaries.{local_column, temp, call_column, value_column, temp_of, tail, arg_var}
use Rattle.pungi_layout.specs.code.Temporaries.{arg_vars}
use Rattle.pungi_layout.specs.code.ExprCode.{to_var, var, bit, row_code, call_code, missing_line, missing_code}
use Rattle.pungi_layout.specs.code.ExprCode.{unless_null_code, result_label, steps_code, result_code, outputs_code}
use Rattle.pungi_layout.specs.kinds.Typed.{Known, is_given, Goes, GoesIn, IsHeld, IsArgument, AreWritable, AreTyped}
use Rattle.pungi_layout.proofs.code.LevelLemmas.{some_levels}
use Rattle.pungi_layout.proofs.well_formed.Both.{and_true}
use Rattle.pungi_layout.proofs.well_formed.Instructions.{column_kind, bit_fits, le_true, var_fine, var_atom}
use Rattle.pungi_layout.proofs.well_formed.Instructions.{vars_there}
use Rattle.pungi_layout.proofs.well_formed.Instructions.{number_atom, numbers_compared, constant_number, set_fine}
use Rattle.pungi_layout.proofs.well_formed.Instructions.{compare_fine, jump_fine, branch_fine, AreFine, fine_append}
use Rattle.pungi_layout.proofs.well_formed.Columns.{number_wide, given_fits, answer_goes}
use Rattle.pungi_layout.proofs.well_formed.Operands.{own_held, own_in, number_held, object_held, known_held}

-- a local of the kind of what is written to it may hold it
output_wide : (a : Answer) → is_wide (answer_param a) (slot_kind (answer_kind a)) ≡ true
output_wide answer.Status = refl
output_wide _ = refl

result_in : (gives : Bool) (end m : ℕ) → end + 2 < m → result_label gives end < m
result_in true end m h = omega (arith, h)
result_in false end m h = h

module _ (file : Known) (code : Code) (nl n : ℕ) (temps : (d c : ℕ) → d < n → c ≤ 4
    → IsHeld code.vars (temp nl d c) (column_kind c)) (few : n ≤ 2 ^ 14) where
  -- .. arguments
  pub record Argument (d : ℕ) (p : Param) (ps : List Param) (v : expr.Value) : Type 0 where
    pub kind : Param
    pub held : IsHeld code.vars (arg_var nl d (p ∷ ps) v) kind
    pub goes : GoesIn kind v
    pub fine : is_argument code.vars p (var (arg_var nl d (p ∷ ps) v)) ≡ true

  pub argument : (d : ℕ) (p : Param) (ps : List Param) (v : expr.Value) → d < n → IsArgument p v → Argument d p ps v
  argument d param.Int ps v lt h =
      let g = known_held file code nl n temps few d v 0 lt h (omega arith) in
      record { kind = param.Int; held = g; goes = h; fine = var_atom code (temp_of nl d v) param.Int param.Int g refl }
  argument d param.Long ps v lt h =
      let g = own_held file code nl n temps few d v lt in
      record {
        kind = column_kind (value_column v);
        held = g;
        goes = own_in file code nl n temps few v;
        fine =
            number_held file code nl n temps few d v lt h;
      }
  argument d param.Size ps v lt h =
      let g = own_held file code nl n temps few d v lt in
      record {
        kind = column_kind (value_column v);
        held = g;
        goes = own_in file code nl n temps few v;
        fine = var_atom code (temp_of nl d v)
            (column_kind (value_column v)) param.Size g (number_wide (value_column v) h);
      }
  argument d param.Text ps v lt h =
      let g = temps d 3 lt (omega arith) in
      record {
        kind = param.TextOrNull;
        held = g;
        goes = h;
        fine = var_atom code (temp nl d 3) param.TextOrNull
            param.TextOrNull g refl;
      }
  argument d param.TextOrNull ps v lt h =
      let g = temps d 3 lt (omega arith) in
      record {
        kind = param.TextOrNull;
        held = g;
        goes = h;
        fine = var_atom code (temp nl d 3) param.TextOrNull
            param.TextOrNull g refl;
      }
  argument d param.ModuleDef ps v lt h =
      let g = known_held file code nl n temps few d v 3 lt h (omega arith) in
      record {
        kind = param.TextOrNull;
        held = g;
        goes = inl h;
        fine = var_atom code (temp_of nl d v)
            param.TextOrNull param.TextOrNull g refl;
      }
  argument d param.Object ps v lt h =
      let g = object_held file code nl n temps few d v lt h in
      record {
        kind = param.ObjectOrNull;
        held = g;
        goes = h;
        fine = var_atom code (temp_of nl d v)
            param.ObjectOrNull param.ObjectOrNull g refl;
      }
  argument d param.ObjectOrNull ps v lt h =
      let g = object_held file code nl n temps few d v lt h in
      record {
        kind = param.ObjectOrNull;
        held = g;
        goes = h;
        fine = var_atom code (temp_of nl d v)
            param.ObjectOrNull param.ObjectOrNull g refl;
      }

  args_fit : (vs : expr.Values) (d : ℕ) (ps : List Param) → d + values_levels vs ≤ n → AreTyped file code.vars ps vs
      → are_arguments code.vars ps (map var (arg_vars nl d ps (listed_values vs))) ≡ true
  args_fit expr.no_values d [] le h = refl
  args_fit expr.no_values d (p ∷ ps) le h = absurd h
  args_fit (expr.value_and v vs) d [] le h = absurd h
  args_fit (expr.value_and v vs) d (p ∷ ps) le h =
      let o = some_levels v in
      and_true _ _ (argument d p ps v (omega (arith, le, o)) h.0).fine (args_fit vs (d + 1) ps
      (omega (arith, le, o)) h.2)

  -- there are no more arguments than levels
  args_few : (vs : expr.Values) (d : ℕ) (ps : List Param)
      → length (map var (arg_vars nl d ps (listed_values vs))) ≤ values_levels vs
  args_few expr.no_values d ps = omega arith
  args_few (expr.value_and v vs) d ps = let o = some_levels v in let h = args_few vs (d + 1) (tail ps) in omega
      (arith, o, h)

  answer_fine : (b : Bool) (sig : Signature) (t : ℕ) (k : Param) → IsHeld code.vars t k
      → Goes k (call_column sig.answer) false
      → is_answer code.vars sig (if b then Some (to_var t) else None) ≡ true
  answer_fine true sig t k h g = var_fine code t k h (λ q. is_wide (returned_param sig.answer) q)
      (answer_goes sig.answer k g)
  answer_fine false sig t k h g = refl

  pub api_fine : (sig : Signature) (vs : expr.Values) (d t : ℕ) (k : Param) (p : Pos) → is_signature sig ≡ true
      → AreTyped file code.vars sig.params vs → d + values_levels vs ≤ n
      → IsHeld code.vars t k → Goes k (call_column sig.answer) false
      → AreFine file code (row_code nl d t p sig (listed_values vs))
  api_fine sig vs d t k p r h le ht g =
      let f = args_fit vs d sig.params le h in
      let c = args_few vs d sig.params in
      let l : length (map var (arg_vars nl d sig.params (listed_values vs))) ≤ 2 ^ 14 = omega (arith, c, le, few) in (
        (
          and_true _ _ (answer_fine (has_call_value sig.answer) sig t k ht g) (and_true _ _ f
              (and_true _ _ (le_true _ (2 ^ 14) l) r)),
          refl,
          vars_there file.statics (arg_vars nl d sig.params (listed_values vs)),
        ),
        tt,
      )

  -- .. of a function of the file
  pub call_fine : (w : CalledFunction) (vs : expr.Values) (d t : ℕ) (k : Param) (p : Pos)
      → file.callees w.number ≡ Some (call_params w, returned_kind w.result) → is_given w.result ≡ true
      → AreTyped file code.vars (call_params w) vs → d + values_levels vs ≤ n
      → IsHeld code.vars t k → Goes k (local_column w.result) false
      → AreFine file code (call_code nl d t p w (listed_values vs))
  call_fine w vs d t k p e r h le ht g =
      let atoms = map var (arg_vars nl d (call_params w) (listed_values vs)) in
      let f = args_fit vs d (call_params w) le h in
      let c = args_few vs d (call_params w) in
      let l : length atoms ≤ 2 ^ 14 = omega (arith, c, le, few) in
      let x = if is_void w.result then None else Some (to_var t) in
      let y = given_fits code.vars w.result t k r g (λ q. var_fine code t k ht (λ z. is_wide q z)) in (
        (
          ap (λ z. fits_call code.vars z x atoms) e ∙ and_true _ _ y (and_true _ _ f (le_true _ (2 ^ 14) l)),
          refl,
          vars_there file.statics (arg_vars nl d (call_params w) (listed_values vs)),
        ),
        tt,
      )

  -- .. of the API that returns NULL where an argument is missing
  missing_one_fine : (q : Param) (d : ℕ) (ps : List Param) (v : expr.Value) (p : Pos) (pc other : ℕ) → d < n
      → IsArgument q v → pc + missing_one q < length code.instrs → other < length code.instrs
      → AreFine file code (missing_line (arg_var nl d (q ∷ ps) v) p pc other q)
  missing_one_fine param.ObjectOrNull d ps v p pc other lt h at to = (
    branch_fine file code (temp_of nl d v) param.ObjectOrNull (pc + 1) other
        (object_held file code nl n temps few d v lt h) refl at to,
    tt,
  )
  missing_one_fine _ d ps v p pc other lt h at to = tt

  missing_fine : (vs : expr.Values) (d : ℕ) (ps : List Param) (p : Pos) (pc other : ℕ) → d + values_levels vs ≤ n
      → AreTyped file code.vars ps vs → pc + missing_size ps (listed_values vs) < length code.instrs
      → other < length code.instrs → AreFine file code (missing_code nl d p pc other ps (listed_values vs))
  missing_fine expr.no_values d [] p pc other le h at to = tt
  missing_fine expr.no_values d (q ∷ ps) p pc other le h at to = tt
  missing_fine (expr.value_and v vs) d [] p pc other le h at to = tt
  missing_fine (expr.value_and v vs) d (q ∷ ps) p pc other le h at to =
      let o = some_levels v in
      fine_append file code (missing_line (arg_var nl d (q ∷ ps) v) p pc other q) _
      (missing_one_fine q d ps v p pc other (omega (arith, le, o)) h.0 (omega (arith, at)) to)
      (missing_fine vs (d + 1) ps p (pc + missing_one q) other (omega (arith, le, o)) h.2 (omega (arith, at)) to)

  new_goes : (a : CallAnswer) (k : Param) → a ≡ Of answer.New → Goes k (call_column a) false → Goes k 4 false
  new_goes a k e g = subst (λ (x : CallAnswer). Goes k (call_column x) false) e g

  pub unless_null_fine : (sig : Signature) (vs : expr.Values) (d t : ℕ) (k : Param) (p : Pos) (pc : ℕ)
      → is_signature sig ≡ true → is_signature (null_signature sig) ≡ true
      → sig.answer ≡ Of answer.New → AreTyped file code.vars sig.params vs → d + values_levels vs ≤ n
      → pc + (missing_size sig.params (listed_values vs) + (1 + (1 + 1))) < length code.instrs
      → IsHeld code.vars t k → Goes k (call_column sig.answer) false
      → AreFine file code (unless_null_code nl d t p pc sig (listed_values vs))
  unless_null_fine sig vs d t k p pc r w e h le at ht g =
      let q = pc + missing_size sig.params (listed_values vs) in
      fine_append file code (missing_code nl d p pc (q + 2) sig.params (listed_values vs)) _
      (missing_fine vs d sig.params p pc (q + 2) le h (omega (arith, at)) (omega (arith, at))) (
        (api_fine sig vs d t k p r h le ht g).0,
        (
          jump_fine file code (q + 3) (omega (arith, at)),
          api_fine (null_signature sig) vs d t k p w h le ht (new_goes sig.answer k e g),
        ),
      )

  -- .. of the API that writes variables
  steps_fine : (steps : List OutputStep) (x y : ℕ) (p : Pos) (pc end : ℕ) → is_number code.vars (var x) ≡ true
      → IsHeld code.vars y param.Int → pc + outputs_size steps ≡ end → end + 2 < length code.instrs
      → AreWritable code.vars steps → AreFine file code (steps_code x y p pc end steps)
  steps_fine [] x y p pc end hx hy e at h = tt
  steps_fine (Ends i gives ∷ steps) x y p pc end hx hy e at h = (
    compare_fine file code y param.Int cmps.Equal (var x) (atom.Int i) hy refl
        (numbers_compared code false (var x) (atom.Int i) hx (constant_number code.vars i h.0)) refl,
    (
      branch_fine file code y param.Int (result_label gives end) (pc + 2) hy refl
          (result_in gives end (length code.instrs) at) (omega (arith, e, at)),
      steps_fine steps x y p (pc + 2) end hx hy (omega (arith, e)) at h.1,
    ),
  )
  steps_fine (Writes l a ∷ steps) x y p pc end hx hy e at h = (
    (
      and_true _ _ (var_fine code l (slot_kind (answer_kind a)) h.0 (λ q. is_wide (answer_param a) q) (output_wide a))
          h.1,
      refl,
      refl,
    ),
    steps_fine steps x y p (pc + 1) end hx hy (omega (arith, e)) at h.2,
  )

  result_fine : (t : ℕ) (k : Param) (p : Pos) (pc : ℕ) → IsHeld code.vars t k → is_integer k ≡ true
      → pc + 3 < length code.instrs → AreFine file code (result_code t p pc)
  result_fine t k p pc ht i at = (
    set_fine file code t k (bit true) ht (bit_fits code.vars k true i) refl,
    (
      jump_fine file code (pc + 3) at,
      (set_fine file code t k (bit false) ht (bit_fits code.vars k false i) refl, tt),
    ),
  )

  pub outputs_fine : (steps : List OutputStep) (d t : ℕ) (k : Param) (p : Pos) (pc : ℕ)
      → IsHeld code.vars (temp nl d 0) param.Int → IsHeld code.vars (temp nl (d + 1) 0) param.Int
      → pc + (outputs_size steps + 3) < length code.instrs → AreWritable code.vars steps → IsHeld code.vars t k
      → is_integer k ≡ true → AreFine file code (outputs_code nl d t p pc steps)
  outputs_fine steps d t k p pc hx hy at h ht i =
      let x = temp nl d 0 in
      let y = temp nl (d + 1) 0 in
      let end = pc + outputs_size steps in
      fine_append file code (steps_code x y p pc end steps) _
      (steps_fine steps x y p pc end (number_atom code x param.Int hx refl) hy refl (omega (arith, at)) h)
      (result_fine t k p end ht i (omega (arith, at)))
