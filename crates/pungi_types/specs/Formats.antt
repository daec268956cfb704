-- What the arguments of calls with formats and outputs are to be (Python/C API Reference Manual 3.11, 'Parsing
-- arguments and building values').
--   is_few n                      a number of arguments that a run can count: it is below 2³¹
--   an_object                     a pointer to an object
--   param_want p                  what a parameter of a row takes
--   literal texts ns              the bytes of a string literal, where the names have these texts
--   literal_of texts e, literal_in texts o    those of an argument that is one, where there is an argument
--   arg_at i es                   the argument at a place
--   format_at texts i es          the format that stands there
--   is_fine_in text, is_fine_out text    a format has no fault; one of `PyArg_ParseTuple` has also few units
--   expr_pos e, pos_of o, format_pos i es    where an expression stands, and the format at a place
--   unit_wants u, in_wants us     the arguments of a unit, and of the units of a format of `PyArg_ParseTuple`
--   parsed_wants fine text, parse_wants format    the arguments of `PyArg_ParseTuple`: a tuple, a format, and those of
--                                 the format's units
--   built_wants fine text, build_wants format    those of `Py_BuildValue`: a format, and a value for each of its units
--   unpack_wants n                n arguments of `PyArg_UnpackTuple`: a tuple, a name, the least and the greatest
--                                 number of items, and a variable for each item
use Rattle.std.specs.Prelude.{ℕ, zero, suc, ◌-◌, ◌^◌, nat_lt, Bool, true, false, ◌&&◌, List, [], ◌∷◌, ◌++◌, length, map}
use Rattle.std.specs.Prelude.{replicate, get_or, Option, Some, None, is_none, if◌then◌else◌}
use Rattle.pungi_base.specs.declared.names.Name.{Name}
use Rattle.pungi_base.specs.declared.pos.Pos.{Pos}
use Rattle.pungi_tree.specs.Syntax.{Expr, word, int, float, char, text, null, paren, unary, post, binary, assign}
use Rattle.pungi_tree.specs.Syntax.{conditional, comma, cast, size_of_type, call, new, index, dot, arrow, Exprs}
use Rattle.pungi_tree.specs.Syntax.{no_exprs, expr_and}
use Rattle.pungi_format.specs.InFormat.{in_fault, in_format}
use Rattle.pungi_format.specs.OutFormat.{out_fault, out_units}
use Rattle.pungi_format.specs.declared.in_unit.InUnit.{InUnit}
use Rattle.pungi_format.specs.declared.in_unit.InUnit.TheVariants as unit
use Rattle.pungi_api.specs.declared.answer.Answer.TheVariants as answers
use Rattle.pungi_api.specs.declared.param.Param.{Param}
use Rattle.pungi_api.specs.declared.param.Param.TheVariants as takes
use Rattle.pungi_api.specs.Signatures.{unit_param}
use Rattle.pungi_types.specs.declared.wants.Want.{Want}
use Rattle.pungi_types.specs.declared.wants.Want.TheVariants as wanted
use Rattle.pungi_types.specs.declared.kind.ValueKind.TheVariants as kinds

abbrev pub is_few : ℕ → Bool
is_few n = nat_lt n (2 ^ 31)

abbrev pub an_object : Want
an_object = wanted.OfKind (kinds.Object None)

abbrev pub param_want : Param → Want
param_want takes.Object = wanted.OfKind (kinds.Object None)
param_want takes.ObjectOrNull = wanted.OfKind (kinds.Object None)
param_want takes.Int = wanted.OfKind kinds.Int
param_want takes.Long = wanted.OfKind kinds.Long
param_want takes.Size = wanted.OfKind kinds.Size
param_want takes.Text = wanted.OfKind kinds.Text
param_want takes.TextOrNull = wanted.OfKind kinds.Text
param_want takes.ModuleDef = wanted.ModuleTable

-- ---- formats

abbrev pub literal : List (List ℕ) → List Name → List ℕ
literal texts [] = []
literal texts (n ∷ ns) = get_or texts n.0 [] ++ literal texts ns

abbrev pub literal_of : List (List ℕ) → Expr → Option (List ℕ)
literal_of texts (text p ns) = Some (literal texts ns)
literal_of texts _ = None

abbrev pub arg_at : ℕ → Exprs → Option Expr
arg_at i no_exprs = None
arg_at zero (expr_and e es) = Some e
arg_at (suc i) (expr_and e es) = arg_at i es

abbrev pub literal_in : List (List ℕ) → Option Expr → Option (List ℕ)
literal_in texts None = None
literal_in texts (Some e) = literal_of texts e

abbrev pub format_at : List (List ℕ) → ℕ → Exprs → Option (List ℕ)
format_at texts i es = literal_in texts (arg_at i es)

abbrev pub is_fine_in : List ℕ → Bool
is_fine_in bytes = is_none (in_fault bytes) && is_few (length (in_format bytes).units)

abbrev pub is_fine_out : List ℕ → Bool
is_fine_out bytes = is_none (out_fault bytes)

-- ---- places

abbrev pub expr_pos : Expr → Pos
expr_pos (word p n) = p
expr_pos (int p v l u) = p
expr_pos (float p) = p
expr_pos (char p c) = p
expr_pos (text p ns) = p
expr_pos (null p) = p
expr_pos (paren p e) = p
expr_pos (unary p k e) = p
expr_pos (post p m e) = p
expr_pos (binary p m a b) = p
expr_pos (assign p m a b) = p
expr_pos (conditional p c a b) = p
expr_pos (comma p a b) = p
expr_pos (cast p t e) = p
expr_pos (size_of_type p t) = p
expr_pos (call p f es) = p
expr_pos (new p t e) = p
expr_pos (index p a b) = p
expr_pos (dot p e n) = p
expr_pos (arrow p e n) = p

abbrev pub pos_of : Option Expr → Option Pos
pos_of None = None
pos_of (Some e) = Some (expr_pos e)

abbrev pub format_pos : Option ℕ → Exprs → Option Pos
format_pos None es = None
format_pos (Some i) es = pos_of (arg_at i es)

-- ---- what is wanted

-- the type of an `O!` comes before the variable
abbrev pub unit_wants : InUnit → List Want
unit_wants unit.Object = wanted.Output answers.BorrowedSure ∷ []
unit_wants unit.ObjectOf = an_object ∷ wanted.Output answers.BorrowedSure ∷ []
unit_wants unit.Int = wanted.Output answers.Int ∷ []
unit_wants unit.Long = wanted.Output answers.Long ∷ []
unit_wants unit.Size = wanted.Output answers.AnySize ∷ []
unit_wants unit.Truth = wanted.Output answers.Flag ∷ []
unit_wants unit.Text = wanted.Output answers.TextSure ∷ []
unit_wants unit.TextOrNull = wanted.Output answers.Text ∷ []

abbrev pub in_wants : List InUnit → List Want
in_wants [] = []
in_wants (u ∷ us) = unit_wants u ++ in_wants us

abbrev pub parsed_wants : Bool → List ℕ → List Want
parsed_wants true bytes = in_wants (in_format bytes).units
parsed_wants false bytes = []

abbrev pub parse_wants : Option (List ℕ) → List Want
parse_wants None = an_object ∷ wanted.Format false ∷ []
parse_wants (Some bytes) = an_object ∷ wanted.Format (is_fine_in bytes) ∷ parsed_wants (is_fine_in bytes) bytes

abbrev pub built_wants : Bool → List ℕ → List Want
built_wants true bytes = map param_want (map unit_param (out_units bytes))
built_wants false bytes = []

abbrev pub build_wants : Option (List ℕ) → List Want
build_wants None = wanted.Format false ∷ []
build_wants (Some bytes) = wanted.Format (is_fine_out bytes) ∷ built_wants (is_fine_out bytes) bytes

abbrev pub unpack_wants : ℕ → List Want
unpack_wants n =
    if is_few n then an_object ∷ wanted.OfKind kinds.Text ∷ wanted.AtMost (n - 4) ∷ wanted.Count (n - 4)
    ∷ replicate (n - 4) (wanted.Output answers.BorrowedSure) else []
