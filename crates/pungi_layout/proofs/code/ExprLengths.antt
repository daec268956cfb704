-- The instructions of an expression are as many as its size says.
use Rattle.std.proofs.Common.{◌≡◌, ℕ, suc, ◌+◌, List, [], ◌∷◌, ◌++◌, length, Some, refl, ap, ◌∙◌, arith, length-append}
use Rattle.std.proofs.Common.{Bool, true, false, if◌then◌else◌}
use Rattle.pungi_base.specs.declared.pos.Pos.{Pos}
use Rattle.pungi_api.specs.declared.param.Param.{Param}
use Rattle.pungi_api.specs.declared.param.Param.TheVariants as param
use Rattle.pungi_api.specs.declared.signature.Signature.{Signature}
use Rattle.pungi_types.specs.declared.kind.ValueKind.{ValueKind}
use Rattle.pungi_resolved.specs.declared.output_step.OutputStep.{OutputStep}
use Rattle.pungi_resolved.specs.declared.output_step.OutputStep.TheVariants.{Ends, Writes}
use Rattle.pungi_resolved.specs.Values as expr
use Rattle.pungi_types.specs.Operators.{is_same_kind}
use Rattle.pungi_meaning.specs.Values.{op_of, cmp_of, wide}
use Rattle.pungi_meaning.specs.Exprs.{is_and}
use Rattle.pungi_meaning.specs.Todo.{listed_values}
use Rattle.pungi_code.specs.declared.atom.Atom.TheVariants as atom
use Rattle.pungi_code.specs.declared.code.Line.{Line}
use Rattle.pungi_code.specs.declared.instr.Instr.TheVariants.{Set, Arith, Fit, Compare, Branch, Jump}
use Rattle.pungi_layout.specs.code.CallKinds.{call_params}
use Rattle.pungi_layout.specs.code.Parts.{is_minus}
use Rattle.pungi_layout.specs.code.FirstTokens.{first_token}
use Rattle.pungi_layout.specs.code.Sizes.{expr_size, place_size, values_size, fit_size, store_size, sign_size}
use Rattle.pungi_layout.specs.code.Sizes.{missing_one, missing_size, outputs_size}
use Rattle.pungi_layout.specs.code.Temporaries.{column, temp, value_column, temp_of, operand, tail, arg_var}
use Rattle.pungi_layout.specs.code.ExprCode.{line, to_var, var, at_label, bit, branch_on, fit_code, old_code}
use Rattle.pungi_layout.specs.code.ExprCode.{store_code, above, stored_var, counted_var, base_var, sign_code, sign_var}
use Rattle.pungi_layout.specs.code.ExprCode.{step_code, expr_code, base_code, args_code}
use Rattle.pungi_layout.specs.code.ExprCode.{missing_line, missing_code, unless_null_code, steps_code, result_code}
use Rattle.pungi_layout.specs.code.ExprCode.{outputs_code}

pub fit_long : (same : Bool) (l : Line) → length (if same then [] else l ∷ []) ≡ (if same then 0 else 1)
fit_long true l = refl
fit_long false l = refl

pub sign_long : (minus : Bool) (l : Line) → length (if minus then l ∷ [] else []) ≡ (if minus then 1 else 0)
sign_long true l = refl
sign_long false l = refl

pub old_long : (nl : ℕ) (kind : ValueKind) (place : expr.Place) (t b : ℕ) → length (old_code kind place t b) ≡ 1
old_long nl kind (expr.local_place p x) t b = refl
old_long nl kind (expr.global_place p n) t b = refl
old_long nl kind (expr.field_place p base tag field) t b = refl
old_long nl kind expr.no_place t b = refl

pub store_long : (nl : ℕ) (kind : ValueKind) (place : expr.Place) (t b v : ℕ)
    → length (store_code kind place t b v) ≡ store_size
store_long nl kind (expr.local_place p x) t b v = refl
store_long nl kind (expr.global_place p n) t b v = refl
store_long nl kind (expr.field_place p base tag field) t b v = refl
store_long nl kind expr.no_place t b v = refl

pub put_long : (nl d t : ℕ) (p : Pos) (kind counted : ValueKind) (place : expr.Place) (b x c : ℕ)
    → length (fit_code p kind counted x c ++ store_code kind place t b x) ≡ fit_size kind counted + store_size
put_long nl d t p kind counted place b x c =
    length-append (fit_code p kind counted x c) (store_code kind place t b x)
    ∙ ap (λ n. n + length (store_code kind place t b x)) (fit_long (is_same_kind (Some kind) (Some counted))
    (line p (Fit (to_var x) kind (var c))))
    ∙ ap (λ n. fit_size kind counted + n) (store_long nl kind place t b x)

pub more_long : (m n : ℕ) → m ≡ n → suc m ≡ 1 + n
more_long m n e = omega (arith, e)

pub long_append : (a b : List Line) (m n : ℕ) → length a ≡ m → length b ≡ n → length (a ++ b) ≡ m + n
long_append a b m n e f = length-append a b ∙ ap (λ x. x + length b) e ∙ ap (λ x. m + x) f

-- ---- calls that return NULL where an argument is missing

pub missing_one_long : (x : ℕ) (p : Pos) (pc other : ℕ) (q : Param)
    → length (missing_line x p pc other q) ≡ missing_one q
missing_one_long x p pc other param.ObjectOrNull = refl
missing_one_long x p pc other _ = refl

pub missing_long : (ps : List Param) (vs : List expr.Value) (nl d : ℕ) (p : Pos) (pc other : ℕ)
    → length (missing_code nl d p pc other ps vs) ≡ missing_size ps vs
missing_long [] vs nl d p pc other = refl
missing_long (q ∷ ps) [] nl d p pc other = refl
missing_long (q ∷ ps) (v ∷ vs) nl d p pc other =
    long_append (missing_line (arg_var nl d (q ∷ ps) v) p pc other q)
    (missing_code nl (d + 1) p (pc + missing_one q) other ps vs) (missing_one q) (missing_size ps vs)
    (missing_one_long (arg_var nl d (q ∷ ps) v) p pc other q)
    (missing_long ps vs nl (d + 1) p (pc + missing_one q) other)

pub unless_null_long : (nl d t : ℕ) (p : Pos) (pc : ℕ) (g : Signature) (vs : List expr.Value)
    → length (unless_null_code nl d t p pc g vs) ≡ missing_size g.params vs + (1 + (1 + 1))
unless_null_long nl d t p pc g vs =
    long_append (missing_code nl d p pc (pc + missing_size g.params vs + 2) g.params vs) _ (missing_size g.params vs) 3
    (missing_long g.params vs nl d p pc (pc + missing_size g.params vs + 2)) refl

-- ---- calls that write variables

pub steps_long : (steps : List OutputStep) (x y : ℕ) (p : Pos) (pc end : ℕ)
    → length (steps_code x y p pc end steps) ≡ outputs_size steps
steps_long [] x y p pc end = refl
steps_long (Ends n gives ∷ steps) x y p pc end =
    let e = steps_long steps x y p (pc + 2) end in omega (arith, e)
steps_long (Writes l a ∷ steps) x y p pc end =
    let e = steps_long steps x y p (pc + 1) end in omega (arith, e)

pub outputs_long : (nl d t : ℕ) (p : Pos) (pc : ℕ) (steps : List OutputStep)
    → length (outputs_code nl d t p pc steps) ≡ outputs_size steps + 3
outputs_long nl d t p pc steps =
    let end = pc + outputs_size steps in
    long_append (steps_code (temp nl d 0) (temp nl (d + 1) 0) p pc end steps) (result_code t p end)
    (outputs_size steps) 3 (steps_long steps (temp nl d 0) (temp nl (d + 1) 0) p pc end) refl

step_sum : (a f s : ℕ) → a + (1 + (1 + (f + s))) ≡ 0 + a + 1 + 0 + 1 + f + s
step_sum a f s = omega arith

behind_sum : (a f s : ℕ) → 1 + (a + (1 + (1 + (1 + (f + s))))) ≡ 1 + a + 1 + 1 + 1 + f + s
behind_sum a f s = omega arith

empty_sum : (a s : ℕ) → 1 + (a + (1 + (1 + (1 + s)))) ≡ 1 + a + 1 + 1 + 1 + s
empty_sum a s = omega arith

joined_sum : (a b : ℕ) → 1 + (a + (1 + (b + 2))) ≡ 1 + a + 1 + b + 2
joined_sum a b = omega arith

stored_sum : (a v s : ℕ) → a + (v + s) ≡ a + v + s
stored_sum a v s = omega arith

updated_sum : (a v f s : ℕ) → a + (1 + (v + (1 + (f + s)))) ≡ a + 1 + v + 1 + f + s
updated_sum a v f s = omega arith

chosen_sum : (c a b : ℕ) → c + (1 + (a + (1 + b))) ≡ c + 1 + a + 1 + b
chosen_sum c a b = omega arith

mutual
  pub expr_long : (v : expr.Value) (nl d t pc : ℕ) → length (expr_code nl d t pc v) ≡ expr_size v
  expr_long (expr.constant p n) nl d t pc = refl
  expr_long (expr.text_of p ns) nl d t pc = refl
  expr_long (expr.null_of p) nl d t pc = refl
  expr_long (expr.static_of p n) nl d t pc = refl
  expr_long (expr.module_of p n) nl d t pc = refl
  expr_long (expr.read p kind place) nl d t pc =
      long_append (base_code nl d pc place) (old_code kind place t (base_var nl place d)) (place_size place) 1
      (base_long place nl d pc) (old_long nl kind place t (base_var nl place d))
  expr_long (expr.inner p v) nl d t pc = expr_long v nl d t pc
  expr_long (expr.signed p m kind v) nl d t pc =
      long_append (expr_code nl d (sign_var (is_minus m) t (temp_of nl d v)) pc v)
      (sign_code (is_minus m) p kind t (temp_of nl d v)) (expr_size v) (sign_size (is_minus m))
      (expr_long v nl d (sign_var (is_minus m) t (temp_of nl d v)) pc) (sign_long (is_minus m) _)
  expr_long (expr.negated p v) nl d t pc =
      let e = long_append (expr_code nl (d + 1) (temp_of nl (d + 1) v) (pc + 1) v)
      (line p (Branch (var (temp_of nl (d + 1) v)) (at_label (pc + 1 + expr_size v + 1))
      (at_label (pc + 1 + expr_size v + 2))) ∷ line p (Set (to_var t) (bit false)) ∷ []) (expr_size v) 2
      (expr_long v nl (d + 1) (temp_of nl (d + 1) v) (pc + 1)) refl in
      omega (arith, e)
  expr_long (expr.stepped p false m kind place) nl d t pc =
      let b = base_var nl place d in
      let o = temp nl (above place d) (column kind) in
      let put = put_long nl d t p kind (wide kind) place b (stored_var nl place d kind)
      (counted_var nl place d kind (wide kind)) in
      let e = long_append (base_code nl d pc place) (old_code kind place o b ++ step_code nl d t p m kind place)
      (place_size place) (1 + (1 + (fit_size kind (wide kind) + store_size))) (base_long place nl d pc)
      (long_append (old_code kind place o b) (step_code nl d t p m kind place) 1
      (1 + (fit_size kind (wide kind) + store_size)) (old_long nl kind place o b) (more_long _ _ put)) in
      e ∙ step_sum (place_size place) (fit_size kind (wide kind)) (store_size)
  expr_long (expr.stepped p true m kind place) nl d t pc =
      let b = base_var nl place (d + 1) in
      let o = temp nl (above place (d + 1)) (column kind) in
      let x = temp nl (d + 1) (column kind) in
      let put = put_long nl (d + 1) x p kind (wide kind) place b (stored_var nl place (d + 1) kind)
      (counted_var nl place (d + 1) kind (wide kind)) in
      let rest = line p (Set (to_var t) (var o)) ∷ step_code nl (d + 1) x p m kind place in
      let e = long_append (base_code nl (d + 1) (pc + 1) place) (old_code kind place o b ++ rest) (place_size place)
      (1 + (1 + (1 + (fit_size kind (wide kind) + store_size)))) (base_long place nl (d + 1) (pc + 1))
      (long_append (old_code kind place o b) rest 1 (1 + (1 + (fit_size kind (wide kind) + store_size)))
      (old_long nl kind place o b) (more_long _ _ (more_long _ _ put))) in
      more_long _ _ e ∙ behind_sum (place_size place) (fit_size kind (wide kind)) (store_size)
  expr_long (expr.emptied p kind place) nl d t pc =
      let b = base_var nl place (d + 1) in
      let o = stored_var nl place (d + 1) kind in
      let x = temp nl (d + 1) (column kind) in
      let rest = line p (Set (to_var t) (var o)) ∷ line p (Set (to_var o) atom.Null) ∷ store_code kind place x b o in
      let e = long_append (base_code nl (d + 1) (pc + 1) place) (old_code kind place o b ++ rest) (place_size place)
      (1 + (1 + (1 + store_size))) (base_long place nl (d + 1) (pc + 1))
      (long_append (old_code kind place o b) rest 1 (1 + (1 + store_size)) (old_long nl kind place o b)
      (more_long _ _ (more_long _ _ (store_long nl kind place x b o)))) in
      more_long _ _ e ∙ empty_sum (place_size place) (store_size)
  expr_long (expr.computed p m kind a b) nl d t pc =
      let l = line p (Arith (to_var t) kind (op_of m) (var (temp_of nl d a)) (var (temp_of nl (d + 1) b))) in
      let ca = expr_code nl d (temp_of nl d a) pc a in
      let cb = expr_code nl (d + 1) (temp_of nl (d + 1) b) (pc + expr_size a) b in
      let e = long_append ca (cb ++ l ∷ []) (expr_size a) (expr_size b + 1) (expr_long a nl d (temp_of nl d a) pc)
      (long_append cb (l ∷ []) (expr_size b) 1 (expr_long b nl (d + 1) (temp_of nl (d + 1) b) (pc + expr_size a))
      refl) in
      omega (arith, e)
  expr_long (expr.compared p m a b) nl d t pc =
      let x = operand nl d (value_column b) a in
      let y = operand nl (d + 1) (value_column a) b in
      let l = line p (Compare (to_var t) (cmp_of m) (var x) (var y)) in
      let ca = expr_code nl d x pc a in
      let cb = expr_code nl (d + 1) y (pc + expr_size a) b in
      let e = long_append ca (cb ++ l ∷ []) (expr_size a) (expr_size b + 1) (expr_long a nl d x pc)
      (long_append cb (l ∷ []) (expr_size b) 1 (expr_long b nl (d + 1) y (pc + expr_size a)) refl) in
      omega (arith, e)
  expr_long (expr.joined_by p m a b) nl d t pc =
      let x = temp_of nl (d + 1) a in
      let y = temp_of nl (d + 1) b in
      let ca = expr_code nl (d + 1) x (pc + 1) a in
      let cb = expr_code nl (d + 1) y (pc + 1 + expr_size a + 1) b in
      let last = line (first_token b) (branch_on (is_and m) y (pc + 1 + expr_size a + 1 + expr_size b + 1)
      (pc + 1 + expr_size a + 1 + expr_size b + 2)) ∷ line p (Set (to_var t) (bit (is_and m))) ∷ [] in
      let first = line (first_token a) (branch_on (is_and m) x (pc + 1 + expr_size a + 1)
      (pc + 1 + expr_size a + 1 + expr_size b + 2)) in
      let eb = long_append cb last (expr_size b) 2 (expr_long b nl (d + 1) y (pc + 1 + expr_size a + 1)) refl in
      let e = long_append ca (first ∷ (cb ++ last)) (expr_size a) (1 + (expr_size b + 2))
      (expr_long a nl (d + 1) x (pc + 1)) (more_long _ _ eb) in
      more_long _ _ e ∙ joined_sum (expr_size a) (expr_size b)
  expr_long (expr.stored p kind place v) nl d t pc =
      let b = base_var nl place d in
      let x = stored_var nl place d kind in
      let cv = expr_code nl (above place d) x (pc + place_size place) v in
      let e = long_append (base_code nl d pc place) (cv ++ store_code kind place t b x) (place_size place)
      (expr_size v + store_size) (base_long place nl d pc)
      (long_append cv (store_code kind place t b x) (expr_size v) (store_size)
      (expr_long v nl (above place d) x (pc + place_size place)) (store_long nl kind place t b x)) in
      e ∙ stored_sum (place_size place) (expr_size v) (store_size)
  expr_long (expr.updated p m counted kind place v) nl d t pc =
      let b = base_var nl place d in
      let o = temp nl (above place d) (column kind) in
      let y = temp_of nl (above place d + 1) v in
      let put = put_long nl d t p kind counted place b (stored_var nl place d kind)
      (counted_var nl place d kind counted) in
      let last = line p (Arith (to_var (counted_var nl place d kind counted)) counted (op_of m) (var o) (var y))
      ∷ (fit_code p kind counted (stored_var nl place d kind) (counted_var nl place d kind counted)
      ++ store_code kind place t b (stored_var nl place d kind)) in
      let cv = expr_code nl (above place d + 1) y (pc + place_size place + 1) v in
      let e = long_append (base_code nl d pc place) (old_code kind place o b ++ (cv ++ last)) (place_size place)
      (1 + (expr_size v + (1 + (fit_size kind counted + store_size)))) (base_long place nl d pc)
      (long_append (old_code kind place o b) (cv ++ last) 1 (expr_size v
      + (1 + (fit_size kind counted + store_size))) (old_long nl kind place o b)
      (long_append cv last (expr_size v) (1 + (fit_size kind counted + store_size))
      (expr_long v nl (above place d + 1) y (pc + place_size place + 1)) (more_long _ _ put))) in
      e ∙ updated_sum (place_size place) (expr_size v) (fit_size kind counted) (store_size)
  expr_long (expr.chosen p c a b) nl d t pc =
      let x = temp_of nl d c in
      let cc' = expr_code nl d x pc c in
      let ca = expr_code nl d t (pc + expr_size c + 1) a in
      let cb = expr_code nl d t (pc + expr_size c + 1 + expr_size a + 1) b in
      let jump = line p (Jump (at_label (pc + expr_size c + 1 + expr_size a + 1 + expr_size b))) in
      let branch = line (first_token c) (Branch (var x) (at_label (pc + expr_size c + 1)) (at_label
      (pc + expr_size c + 1 + expr_size a + 1))) in
      let e = long_append cc' (branch ∷ (ca ++ jump ∷ cb)) (expr_size c) (1 + (expr_size a + (1 + expr_size b)))
      (expr_long c nl d x pc)
      (more_long _ _ (long_append ca (jump ∷ cb) (expr_size a) (1 + expr_size b)
      (expr_long a nl d t (pc + expr_size c + 1)) (more_long _ _ (expr_long b nl d t
      (pc + expr_size c + 1 + expr_size a + 1))))) in
      e ∙ chosen_sum (expr_size c) (expr_size a) (expr_size b)
  expr_long (expr.converted p kind v) nl d t pc =
      long_append (expr_code nl d (temp_of nl d v) pc v) (line p (Fit (to_var t) kind (var (temp_of nl d v))) ∷ [])
      (expr_size v) 1 (expr_long v nl d (temp_of nl d v) pc) refl
  expr_long (expr.cast_of p v) nl d t pc = expr_long v nl d t pc
  expr_long (expr.dropped p v) nl d t pc = expr_long v nl d t pc
  expr_long (expr.called p f vs) nl d t pc = long_append (args_code nl d pc (call_params f) vs) (_ ∷ [])
      (values_size vs) 1 (args_long vs nl d pc (call_params f)) refl
  expr_long (expr.called_row p n sig vs) nl d t pc = long_append (args_code nl d pc sig.params vs) (_ ∷ [])
      (values_size vs) 1 (args_long vs nl d pc sig.params) refl
  expr_long (expr.called_unless_null p n sig vs) nl d t pc =
      long_append (args_code nl d pc sig.params vs) _ (values_size vs) (missing_size sig.params (listed_values vs)
      + (1 + (1 + 1))) (args_long vs nl d pc sig.params) (unless_null_long nl d t p (pc + values_size vs) sig
      (listed_values vs))
  expr_long (expr.called_with_outputs p n sig vs steps) nl d t pc =
      long_append (args_code nl d pc sig.params vs) _ (values_size vs) (1 + (outputs_size steps + 3))
      (args_long vs nl d pc sig.params) (more_long _ _ (outputs_long nl d t p (pc + values_size vs + 1) steps))
  expr_long (expr.nonsense p) nl d t pc = refl

  pub base_long : (place : expr.Place) (nl d pc : ℕ) → length (base_code nl d pc place) ≡ place_size place
  base_long (expr.local_place p x) nl d pc = refl
  base_long (expr.global_place p n) nl d pc = refl
  base_long (expr.field_place p base tag field) nl d pc = expr_long base nl d (temp_of nl d base) pc
  base_long expr.no_place nl d pc = refl

  pub args_long : (vs : expr.Values) (nl d pc : ℕ) (ps : List Param) → length (args_code nl d pc ps vs) ≡ values_size vs
  args_long expr.no_values nl d pc ps = refl
  args_long (expr.value_and v vs) nl d pc ps =
      long_append (expr_code nl d (arg_var nl d ps v) pc v) (args_code nl (d + 1) (pc + expr_size v) (tail ps) vs)
      (expr_size v) (values_size vs) (expr_long v nl d (arg_var nl d ps v) pc)
      (args_long vs nl (d + 1) (pc + expr_size v) (tail ps))
