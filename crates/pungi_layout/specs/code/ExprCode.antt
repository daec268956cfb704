-- The instructions of an expression.
--   line p i                     an instruction that does a node at this place of the text
--   to_var, var, at_label, bit    a variable, also as an atom; a place of the code; the integer 0 or 1
--   branch_on on x go other      on the wanted truth to one place, else to another
--   fit_code                     a conversion, where the kinds differ
--   old_code, store_code         what a place holds; a store, which leaves the stored value in a variable
--   above place d                how many values wait below one that is stored to a place
--   base_var, stored_var, counted_var    the variables of a field's base, of a value that is stored, and of one before
--                                        it is
--                                converted to the kind of the place
--   sign_var, sign_code          a sign
--   step_code                    `++` and `--`, once the old content is there
--   row_code, call_code          a call of the API, and one of a function of the file, once its arguments are there
--   missing_line, missing_code, unless_null_code    .. of the API that returns NULL where an argument is missing
--   result_label, steps_code, result_code, outputs_code    what comes after one that writes variables
--   expr_code nl d t pc v        the instructions of an expression at this place: they leave its value in the variable
--                                t, where d values wait below it
--   base_code, args_code         those of a field's base, those of arguments
use Rattle.std.specs.Prelude.{ℕ, ◌+◌, Bool, true, false, not, List, [], ◌∷◌, ◌++◌, map, Some, None, if◌then◌else◌, pos}
use Rattle.pungi_base.specs.declared.kind.Kind.{Kind}
use Rattle.pungi_base.specs.declared.pos.Pos.{Pos}
use Rattle.pungi_api.specs.Signatures.{null_signature, output_signature}
use Rattle.pungi_api.specs.declared.param.Param.{Param}
use Rattle.pungi_api.specs.declared.param.Param.TheVariants as param
use Rattle.pungi_api.specs.declared.signature.Signature.{Signature}
use Rattle.pungi_types.specs.declared.kind.ValueKind.{ValueKind}
use Rattle.pungi_resolved.specs.declared.output_step.OutputStep.{OutputStep}
use Rattle.pungi_resolved.specs.declared.output_step.OutputStep.TheVariants.{Ends, Writes}
use Rattle.pungi_resolved.specs.Values as expr
use Rattle.pungi_resolved.specs.declared.callee.CalledFunction.{CalledFunction}
use Rattle.pungi_types.specs.Operators.{is_same_kind, is_void}
use Rattle.pungi_meaning.specs.declared.cmp.Cmp.TheVariants as cmps
use Rattle.pungi_meaning.specs.declared.op.Op.TheVariants as ops
use Rattle.pungi_meaning.specs.Values.{op_of, cmp_of, wide, slot_kind}
use Rattle.pungi_meaning.specs.Exprs.{step_op, is_and}
use Rattle.pungi_meaning.specs.Run.{nowhere}
use Rattle.pungi_meaning.specs.Todo.{listed_values}
use Rattle.pungi_code.specs.declared.atom.Atom.{Atom}
use Rattle.pungi_code.specs.declared.atom.Atom.TheVariants as atom
use Rattle.pungi_code.specs.declared.atom.Var.{Var}
use Rattle.pungi_code.specs.declared.code.Line.{Line}
use Rattle.pungi_code.specs.declared.instr.Instr.{Instr}
use Rattle.pungi_code.specs.declared.instr.Instr.TheVariants.{Set, Arith, Fit, Compare, Load, Store, Api, Call, Branch}
use Rattle.pungi_code.specs.declared.instr.Instr.TheVariants.{Jump, Fall}
use Rattle.pungi_code.specs.declared.instr.Label.{Label}
use Rattle.pungi_code.specs.declared.place.Place.TheVariants.{Global, Field}
use Rattle.pungi_layout.specs.code.CallKinds.{call_params}
use Rattle.pungi_layout.specs.code.FirstTokens.{first_token}
use Rattle.pungi_layout.specs.code.Parts.{is_minus, has_call_value}
use Rattle.pungi_layout.specs.code.Sizes.{expr_size, place_size, values_size, missing_one, missing_size, outputs_size}
use Rattle.pungi_layout.specs.code.Temporaries.{column, temp, value_column, temp_of, operand, tail, arg_var, arg_vars}

abbrev pub line : Pos → Instr → Line
line p i = record { pos = p; instr = i }

abbrev pub to_var : ℕ → Var
to_var n = record { 0 = n }

abbrev pub var : ℕ → Atom
var n = atom.Var (to_var n)

abbrev pub at_label : ℕ → Label
at_label n = record { 0 = n }

-- the integer 0 or 1
abbrev pub bit : Bool → Atom
bit true = atom.Int (pos 1)
bit false = atom.Int (pos 0)

-- on the wanted truth to the one place, else to the other
abbrev pub branch_on : Bool → ℕ → ℕ → ℕ → Instr
branch_on on x go other =
    if on then Branch (var x) (at_label go) (at_label other) else Branch (var x) (at_label other) (at_label go)

abbrev pub fit_code : Pos → ValueKind → ValueKind → ℕ → ℕ → List Line
fit_code p to from t x = if is_same_kind (Some to) (Some from) then [] else line p (Fit (to_var t) to (var x)) ∷ []

-- b holds the base of a field
abbrev pub old_code : ValueKind → expr.Place → ℕ → ℕ → List Line
old_code kind (expr.local_place p x) t b = line p (Set (to_var t) (var x)) ∷ []
old_code kind (expr.global_place p n) t b = line p (Load (to_var t) (Global n (slot_kind kind))) ∷ []
old_code kind (expr.field_place p base tag field) t b =
    line p (Load (to_var t) (Field (var b) tag field (slot_kind kind))) ∷ []
old_code kind expr.no_place t b = line nowhere Fall ∷ []

-- v holds the value, t gets it too
abbrev pub store_code : ValueKind → expr.Place → ℕ → ℕ → ℕ → List Line
store_code kind (expr.local_place p x) t b v = line p (Set (to_var x) (var v)) ∷ line p (Set (to_var t) (var v)) ∷ []
store_code kind (expr.global_place p n) t b v =
    line p (Store (Global n (slot_kind kind)) (var v)) ∷ line p (Set (to_var t) (var v)) ∷ []
store_code kind (expr.field_place p base tag field) t b v =
    line p (Store (Field (var b) tag field (slot_kind kind)) (var v)) ∷ line p (Set (to_var t) (var v)) ∷ []
store_code kind expr.no_place t b v = line nowhere Fall ∷ line nowhere Fall ∷ []

-- the level of a value that is stored to a place, and the variable that it is stored from
abbrev pub above : expr.Place → ℕ → ℕ
above (expr.field_place p base tag field) d = d + 1
above place d = d

abbrev pub stored_var : ℕ → expr.Place → ℕ → ValueKind → ℕ
stored_var nl place d kind = temp nl (above place d) (column kind)

-- where a counted value stands: in the variable that it is stored from, where it isn't converted
abbrev pub counted_var : ℕ → expr.Place → ℕ → ValueKind → ValueKind → ℕ
counted_var nl place d kind counted =
    if is_same_kind (Some kind) (Some counted) then stored_var nl place d kind else temp nl (above place d)
    (column counted)

abbrev pub base_var : ℕ → expr.Place → ℕ → ℕ
base_var nl (expr.field_place p base tag field) d = temp_of nl d base
base_var nl place d = 0

abbrev pub sign_code : Bool → Pos → ValueKind → ℕ → ℕ → List Line
sign_code minus p kind t x =
    if minus then line p (Arith (to_var t) kind ops.Sub (atom.Int (pos 0)) (var x)) ∷ [] else []

abbrev pub sign_var : Bool → ℕ → ℕ → ℕ
sign_var minus t x = if minus then x else t

-- .. `++` and `--` of a place, with d values below its base: the result stands in t
abbrev pub step_code : ℕ → ℕ → ℕ → Pos → Kind → ValueKind → expr.Place → List Line
step_code nl d t p m kind place =
    line p (Arith (to_var (counted_var nl place d kind (wide kind))) (wide kind) (step_op m)
    (var (temp nl (above place d) (column kind))) (atom.Int (pos 1)))
    ∷ (fit_code p kind (wide kind) (stored_var nl place d kind) (counted_var nl place d kind (wide kind))
    ++ store_code kind place t (base_var nl place d) (stored_var nl place d kind))

-- a call of the API, once its arguments stand in their variables
abbrev pub row_code : ℕ → ℕ → ℕ → Pos → Signature → List expr.Value → List Line
row_code nl d t p g vs =
    line p (Api (if has_call_value g.answer then Some (to_var t) else None) g
    (map var (arg_vars nl d g.params vs))) ∷ []

-- .. one that returns NULL where an argument is missing: a branch on each of those that may be leads to the other call
abbrev pub missing_line : ℕ → Pos → ℕ → ℕ → Param → List Line
missing_line x p pc other param.ObjectOrNull = line p (Branch (var x) (at_label (pc + 1)) (at_label other)) ∷ []
missing_line x p pc other q = []

abbrev pub missing_code : ℕ → ℕ → Pos → ℕ → ℕ → List Param → List expr.Value → List Line
missing_code nl d p pc other [] vs = []
missing_code nl d p pc other (q ∷ ps) [] = []
missing_code nl d p pc other (q ∷ ps) (v ∷ vs) =
    missing_line (arg_var nl d (q ∷ ps) v) p pc other q
    ++ missing_code nl (d + 1) p (pc + missing_one q) other ps vs

abbrev pub unless_null_code : ℕ → ℕ → ℕ → Pos → ℕ → Signature → List expr.Value → List Line
unless_null_code nl d t p pc g vs =
    missing_code nl d p pc (pc + missing_size g.params vs + 2) g.params vs ++ (row_code nl d t p g vs
    ++ line p (Jump (at_label (pc + missing_size g.params vs + 3))) ∷ row_code nl d t p (null_signature g) vs)

-- .. what comes after one that has ended with a number, which waits in x: y is for comparisons, and from the place
-- `end` on stand the results
abbrev pub result_label : Bool → ℕ → ℕ
result_label true end = end
result_label false end = end + 2

abbrev pub steps_code : ℕ → ℕ → Pos → ℕ → ℕ → List OutputStep → List Line
steps_code x y p pc end [] = []
steps_code x y p pc end (Ends n gives ∷ steps) =
    line p (Compare (to_var y) cmps.Equal (var x) (atom.Int n)) ∷ line p (Branch (var y)
    (at_label (result_label gives end)) (at_label (pc + 2))) ∷ steps_code x y p (pc + 2) end steps
steps_code x y p pc end (Writes l a ∷ steps) =
    line p (Api (Some (to_var l)) (output_signature a) []) ∷ steps_code x y p (pc + 1) end steps

abbrev pub result_code : ℕ → Pos → ℕ → List Line
result_code t p pc =
    line p (Set (to_var t) (bit true)) ∷ line p (Jump (at_label (pc + 3))) ∷ line p (Set (to_var t) (bit false)) ∷ []

abbrev pub outputs_code : ℕ → ℕ → ℕ → Pos → ℕ → List OutputStep → List Line
outputs_code nl d t p pc steps =
    steps_code (temp nl d 0) (temp nl (d + 1) 0) p pc (pc + outputs_size steps) steps
    ++ result_code t p (pc + outputs_size steps)

-- .. of a function of the file
abbrev pub call_code : ℕ → ℕ → ℕ → Pos → CalledFunction → List expr.Value → List Line
call_code nl d t p f vs =
    line p (Call (if is_void f.result then None else Some (to_var t)) f.number
    (map var (arg_vars nl d (call_params f) vs))) ∷ []

abbrev mutual
  pub expr_code : ℕ → ℕ → ℕ → ℕ → expr.Value → List Line
  expr_code nl d t pc (expr.constant p n) = line p (Set (to_var t) (atom.Int n)) ∷ []
  expr_code nl d t pc (expr.text_of p ns) = line p (Set (to_var t) atom.Text) ∷ []
  expr_code nl d t pc (expr.null_of p) = line p (Set (to_var t) atom.Null) ∷ []
  expr_code nl d t pc (expr.static_of p n) = line p (Set (to_var t) (atom.Static n)) ∷ []
  expr_code nl d t pc (expr.module_of p n) = line p (Set (to_var t) atom.Text) ∷ []
  expr_code nl d t pc (expr.read p kind place) = base_code nl d pc place ++ old_code kind place t (base_var nl place d)
  expr_code nl d t pc (expr.inner p v) = expr_code nl d t pc v
  expr_code nl d t pc (expr.signed p m kind v) =
      expr_code nl d (sign_var (is_minus m) t (temp_of nl d v)) pc v ++ sign_code (is_minus m) p kind t (temp_of nl d v)
  expr_code nl d t pc (expr.negated p v) =
      line p (Set (to_var t) (bit true)) ∷ (expr_code nl (d + 1) (temp_of nl (d + 1) v) (pc + 1) v
      ++ line p (Branch (var (temp_of nl (d + 1) v)) (at_label (pc + 1 + expr_size v + 1))
      (at_label (pc + 1 + expr_size v + 2))) ∷ line p (Set (to_var t) (bit false)) ∷ [])
  expr_code nl d t pc (expr.stepped p false m kind place) =
      base_code nl d pc place ++ (old_code kind place (temp nl (above place d) (column kind)) (base_var nl place d)
      ++ step_code nl d t p m kind place)
  expr_code nl d t pc (expr.stepped p true m kind place) =
      line p (Set (to_var t) (bit false)) ∷ (base_code nl (d + 1) (pc + 1) place
      ++ (old_code kind place (temp nl (above place (d + 1)) (column kind)) (base_var nl place (d + 1))
      ++ line p (Set (to_var t) (var (temp nl (above place (d + 1)) (column kind))))
      ∷ step_code nl (d + 1) (temp nl (d + 1) (column kind)) p m kind place))
  expr_code nl d t pc (expr.emptied p kind place) =
      line p (Set (to_var t) atom.Null) ∷ (base_code nl (d + 1) (pc + 1) place
      ++ (old_code kind place (stored_var nl place (d + 1) kind) (base_var nl place (d + 1))
      ++ line p (Set (to_var t) (var (stored_var nl place (d + 1) kind)))
      ∷ line p (Set (to_var (stored_var nl place (d + 1) kind)) atom.Null)
      ∷ store_code kind place (temp nl (d + 1) (column kind)) (base_var nl place (d + 1))
      (stored_var nl place (d + 1) kind)))
  expr_code nl d t pc (expr.computed p m kind a b) =
      expr_code nl d (temp_of nl d a) pc a ++ (expr_code nl (d + 1) (temp_of nl (d + 1) b) (pc + expr_size a) b
      ++ line p (Arith (to_var t) kind (op_of m) (var (temp_of nl d a)) (var (temp_of nl (d + 1) b))) ∷ [])
  expr_code nl d t pc (expr.compared p m a b) =
      expr_code nl d (operand nl d (value_column b) a) pc a
      ++ (expr_code nl (d + 1) (operand nl (d + 1) (value_column a) b) (pc + expr_size a) b
      ++ line p (Compare (to_var t) (cmp_of m) (var (operand nl d (value_column b) a))
      (var (operand nl (d + 1) (value_column a) b))) ∷ [])
  expr_code nl d t pc (expr.joined_by p m a b) =
      line p (Set (to_var t) (bit (not (is_and m)))) ∷ (expr_code nl (d + 1) (temp_of nl (d + 1) a) (pc + 1) a
      ++ line (first_token a) (branch_on (is_and m) (temp_of nl (d + 1) a) (pc + 1 + expr_size a + 1)
      (pc + 1 + expr_size a + 1 + expr_size b + 2)) ∷ (expr_code nl (d + 1) (temp_of nl (d + 1) b)
      (pc + 1 + expr_size a + 1) b ++ line (first_token b) (branch_on (is_and m) (temp_of nl (d + 1) b)
      (pc + 1 + expr_size a + 1 + expr_size b + 1) (pc + 1 + expr_size a + 1 + expr_size b + 2))
      ∷ line p (Set (to_var t) (bit (is_and m))) ∷ []))
  expr_code nl d t pc (expr.stored p kind place v) =
      base_code nl d pc place ++ (expr_code nl (above place d) (stored_var nl place d kind) (pc + place_size place)
      v ++ store_code kind place t (base_var nl place d) (stored_var nl place d kind))
  expr_code nl d t pc (expr.updated p m counted kind place v) =
      base_code nl d pc place ++ (old_code kind place (temp nl (above place d) (column kind)) (base_var nl place d)
      ++ (expr_code nl (above place d + 1) (temp_of nl (above place d + 1) v) (pc + place_size place + 1) v
      ++ line p (Arith (to_var (counted_var nl place d kind counted)) counted (op_of m)
      (var (temp nl (above place d) (column kind))) (var (temp_of nl (above place d + 1) v)))
      ∷ (fit_code p kind counted (stored_var nl place d kind) (counted_var nl place d kind counted)
      ++ store_code kind place t (base_var nl place d) (stored_var nl place d kind))))
  expr_code nl d t pc (expr.chosen p c a b) =
      expr_code nl d (temp_of nl d c) pc c ++ line (first_token c) (Branch (var (temp_of nl d c))
      (at_label (pc + expr_size c + 1)) (at_label (pc + expr_size c + 1 + expr_size a + 1)))
      ∷ (expr_code nl d t (pc + expr_size c + 1) a ++ line p (Jump (at_label
      (pc + expr_size c + 1 + expr_size a + 1 + expr_size b)))
      ∷ expr_code nl d t (pc + expr_size c + 1 + expr_size a + 1) b)
  expr_code nl d t pc (expr.converted p kind v) = expr_code nl d (temp_of nl d v) pc v
      ++ line p (Fit (to_var t) kind (var (temp_of nl d v))) ∷ []
  expr_code nl d t pc (expr.cast_of p v) = expr_code nl d t pc v
  expr_code nl d t pc (expr.dropped p v) = expr_code nl d t pc v
  expr_code nl d t pc (expr.called p f vs) =
      args_code nl d pc (call_params f) vs ++ call_code nl d t p f (listed_values vs)
  expr_code nl d t pc (expr.called_row p n g vs) =
      args_code nl d pc g.params vs ++ row_code nl d t p g (listed_values vs)
  expr_code nl d t pc (expr.called_unless_null p n g vs) =
      args_code nl d pc g.params vs ++ unless_null_code nl d t p (pc + values_size vs) g (listed_values vs)
  expr_code nl d t pc (expr.called_with_outputs p n g vs steps) =
      args_code nl d pc g.params vs ++ (row_code nl d (temp nl d 0) p g (listed_values vs)
      ++ outputs_code nl d t p (pc + values_size vs + 1) steps)
  expr_code nl d t pc (expr.nonsense p) = line p Fall ∷ []

  -- a field's base, which waits where it is found again
  pub base_code : ℕ → ℕ → ℕ → expr.Place → List Line
  base_code nl d pc (expr.local_place p x) = []
  base_code nl d pc (expr.global_place p n) = []
  base_code nl d pc (expr.field_place p base tag field) = expr_code nl d (temp_of nl d base) pc base
  base_code nl d pc expr.no_place = []

  pub args_code : ℕ → ℕ → ℕ → List Param → expr.Values → List Line
  args_code nl d pc ps expr.no_values = []
  args_code nl d pc ps (expr.value_and v vs) = expr_code nl d (arg_var nl d ps v) pc v
      ++ args_code nl (d + 1) (pc + expr_size v) (tail ps) vs
