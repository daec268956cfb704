-- What stands before the parenthesis of a call and what its arguments are to be (Python/C API Reference Manual 3.11).
--   meaning_kind, is_slot, is_place env e    the kind of a word; what may be assigned to
--   names_type_object, names_module, is_address, is_module_address, is_local_meaning, names_local, is_local_address,
--   local_kind          what stands after an `&`
--   ArgumentForm, argument_form env e    how an argument is written, as far as a call asks for more than its kind
--   kind_want, answer_kind, param_kind, param_wants, params_wants, special_kind    what arguments are to be, and what
--   calls answer
--   own_wants s n       the arguments of a row with a rule of its own, where a call has n of them
--   how_many es         the number of arguments
--   Callee              what stands before the parenthesis of a call
--   value_or_none, row_or, defined_or, local_called_or, callee_of, callee env f    how it is found
--   row_wants, wants env c n, row_kind, is_refused, result_kind env c, takes_arguments    what a callee takes, where a
--   call has n arguments, and returns
--   special_form, special_of c    the rule of its own that a called row has, if any
--   special_wants, call_wants env c es    what a callee takes of these arguments, also by the format among them
--   format_place s, call_format c    where the format of a call stands among its arguments, if it has one
--   is_constant_of n v, is_constant_up_to n v, is_module_form, is_place_form, is_count_form, is_limit_form,
--   is_null_form, output_fits w k, is_output_form, want_met, is_word, wants_module, wants_place, wants_output,
--   other_wants, is_done, first_met    an argument is what it is to be
--   passed_address env ws e    an address that only its call examines: of a module table, or of a local that the call
--   writes
--   made_wrong, made_kind to k    `PyObject_New` of this type, with an argument of this kind: no object struct, or no
--   object; and the kind of what it makes
use Rattle.std.specs.Prelude.{ℕ, nat_le, ◌+◌, ◌-◌, ℤ, pos, negsuc, ◌==◌, Bool, true, false, ◌&&◌, ◌||◌, not, List, []}
use Rattle.std.specs.Prelude.{◌∷◌, ◌++◌, length, map, replicate, Option, Some, None, is_some, is_none, if◌then◌else◌}
use Rattle.pungi_tree.specs.Syntax.{Expr, word, int, null, unary, arrow, Exprs, no_exprs, expr_and, Spec}
use Rattle.pungi_tree.specs.Syntax.{Params, params, param_decl, ParamDecls, no_params, param_and, ParamDeclr, named}
use Rattle.pungi_tree.specs.Syntax.{bare, unused, Item}
use Rattle.pungi_api.specs.declared.param.Param.{Param}
use Rattle.pungi_api.specs.declared.answer.Answer.{Answer}
use Rattle.pungi_api.specs.declared.answer.Answer.TheVariants as answers
use Rattle.pungi_api.specs.declared.row.Form.{Form}
use Rattle.pungi_api.specs.declared.row.Form.TheVariants as forms
use Rattle.pungi_api.specs.declared.special.Special.{Special}
use Rattle.pungi_api.specs.declared.special.Special.TheVariants as specials
use Rattle.pungi_api.specs.declared.row.Row.{Row}
use Rattle.pungi_api.specs.Rows.{row_in}
use Rattle.pungi_types.specs.Files.{Definition, definitions, definition_in}
use Rattle.pungi_types.specs.Formats.{an_object, param_want, format_at, parse_wants, build_wants, unpack_wants}
use Rattle.pungi_types.specs.Kinds.{type_kind, not_void, declared_kind, spec_base}
use Rattle.pungi_types.specs.Names.{Env, Meaning, a_local, a_global, a_static, meaning_of, local_in, is_among}
use Rattle.pungi_types.specs.Names.{is_type_object, is_module, global_kind, is_own_static}
use Rattle.pungi_types.specs.declared.local.Local.{Local}
use Rattle.pungi_types.specs.Operators.{prefix_of, is_object, is_text, is_same_kind, is_void, fits}
use Rattle.pungi_types.specs.declared.wants.ArgumentForm.{ArgumentForm}
use Rattle.pungi_types.specs.declared.wants.ArgumentForm.TheVariants as written
use Rattle.pungi_types.specs.declared.wants.Want.{Want}
use Rattle.pungi_types.specs.declared.operator.Prefix.{Prefix}
use Rattle.pungi_types.specs.declared.operator.Prefix.TheVariants as prefixes
use Rattle.pungi_types.specs.declared.wants.Want.TheVariants as wanted
use Rattle.pungi_types.specs.declared.kind.ValueKind.{ValueKind}
use Rattle.pungi_types.specs.declared.kind.ValueKind.TheVariants as kinds

-- .. words
abbrev pub meaning_kind : Meaning → Option ValueKind
meaning_kind (a_local l) = l.kind
meaning_kind (a_global k) = Some k
meaning_kind (a_static n) = Some (kinds.Object None)
meaning_kind _ = None

abbrev pub is_slot : Meaning → Bool
is_slot (a_local l) = true
is_slot (a_global k) = true
is_slot _ = false

-- what may be assigned to: a local, a global of a kind, or a field
abbrev pub is_place : Env → Expr → Bool
is_place env (word p n) = is_slot (meaning_of env n.0)
is_place env (arrow p e n) = true
is_place env _ = false

-- a type object, after an `&`
abbrev pub names_type_object : Env → Expr → Bool
names_type_object env (word p n) = is_none (local_in env.locals n.0) && is_type_object env.file.items n.0
names_type_object env _ = false

-- `&` of a module table
abbrev pub names_module : Env → Expr → Bool
names_module env (word p n) = is_none (local_in env.locals n.0) && is_module env.file.items n.0
names_module env _ = false

abbrev pub is_address : Prefix → Bool
is_address prefixes.Address = true
is_address _ = false

abbrev pub is_module_address : Env → Expr → Bool
is_module_address env (unary p k e) = is_address (prefix_of k) && names_module env e
is_module_address env _ = false

-- `&` of a local
abbrev pub is_local_meaning : Meaning → Bool
is_local_meaning (a_local l) = true
is_local_meaning _ = false

abbrev pub names_local : Env → Expr → Bool
names_local env (word p n) = is_local_meaning (meaning_of env n.0)
names_local env _ = false

abbrev pub is_local_address : Env → Expr → Bool
is_local_address env (unary p k e) = is_address (prefix_of k) && names_local env e
is_local_address env _ = false

abbrev pub local_kind : Env → Expr → Option ValueKind
local_kind env (word p n) = meaning_kind (meaning_of env n.0)
local_kind env _ = None

-- .. calls
abbrev pub how_many : Exprs → ℕ
how_many no_exprs = 0
how_many (expr_and e es) = how_many es + 1

-- how an argument is written, as far as a call asks for more than its kind
abbrev pub argument_form : Env → Expr → ArgumentForm
argument_form env (null p) = written.Null
argument_form env (int p v l u) = written.Constant v
argument_form env (word p n) = (if is_place env (word p n) then written.Place else written.Other)
argument_form env (arrow p e n) = written.Place
argument_form env (unary p k e) =
    (if is_module_address env (unary p k e) then written.Module else (if is_local_address env
    (unary p k e) then written.LocalAddress (local_kind env e) else written.Other))
argument_form env _ = written.Other

abbrev pub kind_want : Option ValueKind → Want
kind_want None = wanted.Anything
kind_want (Some k) = wanted.OfKind k

abbrev pub answer_kind : Answer → ValueKind
answer_kind answers.New = kinds.Object None
answer_kind answers.Borrowed = kinds.Object None
answer_kind answers.BorrowedSure = kinds.Object None
answer_kind answers.Status = kinds.Int
answer_kind answers.Truth = kinds.Int
answer_kind answers.Size = kinds.Size
answer_kind answers.Int = kinds.Int
answer_kind answers.Long = kinds.Long
answer_kind answers.Text = kinds.Text
answer_kind answers.Void = kinds.Void
answer_kind answers.Null = kinds.Object None
answer_kind answers.Found = kinds.Int
answer_kind (answers.Converted failures least most) = kinds.Int
answer_kind answers.AnySize = kinds.Size
answer_kind answers.Flag = kinds.Int
answer_kind answers.TextSure = kinds.Text
answer_kind answers.Made = kinds.Object None

abbrev pub param_kind : List Item → Spec → ParamDeclr → Option ValueKind
param_kind file s (named d) = declared_kind file s d
param_kind file s (bare stars) = not_void (type_kind file (spec_base s) (length stars))
param_kind file s (unused stars n p) = not_void (type_kind file (spec_base s) (length stars))

abbrev pub param_wants : List Item → ParamDecls → List Want
param_wants file no_params = []
param_wants file (param_and (param_decl qs s d) ds) = kind_want (param_kind file s d) ∷ param_wants file ds

abbrev pub params_wants : List Item → Params → List Want
params_wants file (params ds v dots) = param_wants file ds

abbrev pub special_kind : Special → ValueKind
special_kind specials.NewRef = kinds.Object None
special_kind specials.XNewRef = kinds.Object None
special_kind specials.TuplePack = kinds.Object None
special_kind specials.CallFunctionObjArgs = kinds.Object None
special_kind specials.ErrFormat = kinds.Object None
special_kind specials.BuildValue = kinds.Object None
special_kind specials.ParseTuple = kinds.Int
special_kind specials.UnpackTuple = kinds.Int
special_kind specials.DictNext = kinds.Int
special_kind _ = kinds.Void

-- of n arguments: `PyTuple_Pack` takes the number of objects and these, `PyObject_CallFunctionObjArgs` objects and then
-- `NULL`, `PyErr_Format` an exception, a text and then anything, `PyDict_Next` a dict, its position, and variables for
-- the key and the value
abbrev pub own_wants : Special → ℕ → List Want
own_wants specials.Clear n = wanted.ObjectPlace ∷ []
own_wants specials.TuplePack n = wanted.Count (n - 1) ∷ replicate (n - 1) an_object
own_wants specials.CallFunctionObjArgs n = an_object ∷ (replicate (n - 2) an_object ++ wanted.NullConstant ∷ [])
own_wants specials.ErrFormat n = an_object ∷ wanted.OfKind kinds.Text ∷ replicate (n - 2) wanted.Anything
own_wants specials.DictNext n =
    an_object ∷ wanted.Position ∷ wanted.OptionalOutput answers.BorrowedSure
    ∷ wanted.OptionalOutput answers.BorrowedSure ∷ []
own_wants _ n = an_object ∷ []

-- what stands before the parenthesis of a call
pub data Callee : Type 0 where
  no_word : Callee
  a_value : Callee
  defined : Definition → Callee
  a_row : Row → Callee
  no_function : Callee

abbrev pub value_or_none : List Item → ℕ → Callee
value_or_none file w = (if is_some (global_kind file w) || is_own_static file w then a_value else no_function)

abbrev pub row_or : List Item → ℕ → Option Row → Callee
row_or file w (Some r) = a_row r
row_or file w None = value_or_none file w

abbrev pub defined_or : Env → ℕ → Option Definition → Callee
defined_or env w (Some d) = defined d
defined_or env w None = row_or env.file.items w (row_in env.file.rows w)

abbrev pub local_called_or : Env → ℕ → Option Local → Callee
local_called_or env w (Some l) = a_value
local_called_or env w None = defined_or env w (definition_in (definitions env.file.items) w)

abbrev pub callee_of : Env → ℕ → Callee
callee_of env w = local_called_or env w (local_in env.locals w)

abbrev pub callee : Env → Expr → Callee
callee env (word p n) = callee_of env n.0
callee env _ = no_word

abbrev pub row_wants : Form → List Param → ℕ → List Want
row_wants forms.Plain ps n = map param_want ps
row_wants (forms.Special s) ps n = own_wants s n

abbrev pub wants : Env → Callee → ℕ → List Want
wants env (defined d) n = params_wants env.file.items d.params
wants env (a_row r) n = row_wants r.form r.params n
wants env _ n = []

abbrev pub special_form : Form → Option Special
special_form forms.Plain = None
special_form (forms.Special s) = Some s

abbrev pub special_of : Callee → Option Special
special_of (a_row r) = special_form r.form
special_of _ = None

abbrev pub special_wants : Option Special → Env → Callee → Exprs → List Want
special_wants (Some specials.ParseTuple) env c es = parse_wants (format_at env.file.texts 1 es)
special_wants (Some specials.BuildValue) env c es = build_wants (format_at env.file.texts 0 es)
special_wants (Some specials.UnpackTuple) env c es = unpack_wants (how_many es)
special_wants s env c es = wants env c (how_many es)

abbrev pub call_wants : Env → Callee → Exprs → List Want
call_wants env c es = special_wants (special_of c) env c es

abbrev pub format_place : Option Special → Option ℕ
format_place (Some specials.ParseTuple) = Some 1
format_place (Some specials.BuildValue) = Some 0
format_place s = None

abbrev pub call_format : Callee → Option ℕ
call_format c = format_place (special_of c)

abbrev pub row_kind : Form → Answer → ValueKind
row_kind forms.Plain a = answer_kind a
row_kind (forms.Special s) a = special_kind s

-- another function that is itself refused
abbrev pub is_refused : Env → Definition → Bool
is_refused env d = not (d.name.0 == env.self) && is_among env.refused d.name.0

abbrev pub result_kind : Env → Callee → Option ValueKind
result_kind env (defined d) = (if is_refused env d then None else type_kind env.file.items (spec_base d.result) d.stars)
result_kind env (a_row r) = Some (row_kind r.form r.answer)
result_kind env _ = None

abbrev pub takes_arguments : Callee → Bool
takes_arguments (defined d) = true
takes_arguments (a_row r) = true
takes_arguments _ = false

abbrev pub is_module_form : ArgumentForm → Bool
is_module_form written.Module = true
is_module_form _ = false

abbrev pub is_place_form : ArgumentForm → Bool
is_place_form written.Place = true
is_place_form _ = false

abbrev pub is_constant_of : ℕ → ℤ → Bool
is_constant_of n (pos v) = n == v
is_constant_of n (negsuc v) = false

abbrev pub is_count_form : ℕ → ArgumentForm → Bool
is_count_form n (written.Constant v) = is_constant_of n v
is_count_form n _ = false

abbrev pub is_constant_up_to : ℕ → ℤ → Bool
is_constant_up_to n (pos v) = nat_le v n
is_constant_up_to n (negsuc v) = false

abbrev pub is_limit_form : ℕ → ArgumentForm → Bool
is_limit_form n (written.Constant v) = is_constant_up_to n v
is_limit_form n _ = false

-- an object is written to a local of any struct
abbrev pub output_fits : ValueKind → Option ValueKind → Bool
output_fits (kinds.Object tag) k = is_none k || is_object k
output_fits kinds.Text k = is_none k || is_text k
output_fits w k = is_none k || is_same_kind (Some w) k

-- a local without a kind is refused where it is declared, and what has no kind at its own place
abbrev pub is_output_form : Answer → ArgumentForm → Option ValueKind → Bool
is_output_form a (written.LocalAddress k) given = output_fits (answer_kind a) k
is_output_form a _ given = is_none given

abbrev pub is_null_form : ArgumentForm → Bool
is_null_form written.Null = true
is_null_form _ = false

-- an argument of a kind is no Void, and fits
abbrev pub want_met : Want → ArgumentForm → Option ValueKind → Bool
want_met wanted.Anything f k = not (is_void k)
want_met (wanted.OfKind w) f k = is_none k || fits (Some w) k
want_met wanted.ModuleTable f k = is_module_form f || is_none k
want_met wanted.ObjectPlace f k = is_none k || (is_place_form f && fits (Some (kinds.Object None)) k)
want_met (wanted.Count n) f k = is_none k || is_count_form n f
want_met wanted.NullConstant f k = is_none k || is_null_form f
want_met (wanted.AtMost n) f k = is_none k || is_limit_form n f
want_met (wanted.Format fine) f k = fine
want_met (wanted.Output a) f k = is_output_form a f k
want_met (wanted.OptionalOutput a) f k = is_null_form f || is_output_form a f k
want_met wanted.Position f k = is_output_form answers.AnySize f k

abbrev pub is_word : Expr → Bool
is_word (word p n) = true
is_word _ = false

abbrev pub wants_module : List Want → Bool
wants_module (wanted.ModuleTable ∷ ws) = true
wants_module _ = false

abbrev pub wants_place : List Want → Bool
wants_place (wanted.ObjectPlace ∷ ws) = true
wants_place _ = false

abbrev pub wants_output : List Want → Bool
wants_output (wanted.Output a ∷ ws) = true
wants_output (wanted.OptionalOutput a ∷ ws) = true
wants_output (wanted.Position ∷ ws) = true
wants_output _ = false

abbrev pub passed_address : Env → List Want → Expr → Bool
passed_address env ws e =
    (wants_module ws && is_module_address env e) || (wants_output ws && is_local_address env e)

abbrev pub other_wants : List Want → List Want
other_wants [] = []
other_wants (w ∷ ws) = ws

abbrev pub is_done : List Want → Bool
is_done [] = true
is_done (w ∷ ws) = false

abbrev pub first_met : List Want → ArgumentForm → Option ValueKind → Bool
first_met [] f k = false
first_met (w ∷ ws) f k = want_met w f k

-- .. `PyObject_New`, whose argument is an object
abbrev pub made_wrong : Option ValueKind → Option ValueKind → Bool
made_wrong to k = is_none to || not (want_met an_object written.Other k)

abbrev pub made_kind : Option ValueKind → Option ValueKind → Option ValueKind
made_kind to k = (if made_wrong to k then None else to)
