-- The table of rows (Python/C API Reference Manual 3.11).
--   with_given, params_of s    the parameters that are there
--   takes_of n third           of so many parameters only the third may be taken over
--   plain_row p, special_row s the rows that the program's constants state
--   builtin_row c, builtin_rows    the row of a call of the manual under the number of its name; all of them
--   row_in rows name           the row of a name, where there is one
--   is_object p, has_success a      an object or NULL; a return value that shows whether the call succeeded
--   may_take a p t, may_take_all    whether a parameter may be taken over so, and each of them
--   fits_int a                 an argument parser ends with an `int`: with k, or with -1 - k where it fails
--   is_empty, fits_form        the parts of what follows
--   is_row row                 a plain row has an entry of what is taken over for each parameter, and only objects are
--                              taken over, on success only where success can be seen, and its answer is within its
--                              kind; a special row leaves these empty
--   are_rows rows              each is such a row
--   is_plain_form f, are_plain_rows rows        each is such a row, and plain
--   named_row r                a row under the number of its name
--   are_new rows more          none of these names stands before
use Rattle.std.specs.Prelude.{ℕ, ◌==◌, ◌^◌, nat_le, nat_lt, Bool, true, false, ◌&&◌, List, [], ◌∷◌, ◌++◌, length, take, map, Option, None}
use Rattle.std.specs.Prelude.{Some, is_none}
use Rattle.std.specs.List.{list_all}
use Rattle.std.specs.Map.{lookup}
use Rattle.pungi_base.specs.declared.names.Name.{Name}
use Rattle.pungi_api.specs.declared.param.Param.{Param}
use Rattle.pungi_api.specs.declared.param.Param.TheVariants as param
use Rattle.pungi_api.specs.declared.take.Take.{Take}
use Rattle.pungi_api.specs.declared.take.Take.TheVariants as takes
use Rattle.pungi_api.specs.declared.answer.Answer.{Answer}
use Rattle.pungi_api.specs.declared.answer.Answer.TheVariants as answer
use Rattle.pungi_api.specs.declared.row.Form.{Form}
use Rattle.pungi_api.specs.declared.row.Form.TheVariants as form
use Rattle.pungi_api.specs.declared.row.Row.{Row}
use Rattle.pungi_api.specs.declared.manual.Parameters.{Parameters}
use Rattle.pungi_api.specs.declared.manual.PlainRow.{PlainRow}
use Rattle.pungi_api.specs.declared.manual.SpecialRow.{SpecialRow}
use Rattle.pungi_api.specs.Manual.{Call, calls}

abbrev pub with_given : Option Param → List Param → List Param
with_given None ps = ps
with_given (Some p) ps = p ∷ ps

abbrev pub params_of : Parameters → List Param
params_of s = with_given s.0 (with_given s.1 (with_given s.2 []))

abbrev pub takes_of : ℕ → Take → List Take
takes_of n third = take n (takes.Never ∷ takes.Never ∷ third ∷ [])

abbrev pub plain_row : PlainRow → ℕ × Row
plain_row p = (
  p.0,
  record {
    form = form.Plain;
    params = params_of p.1;
    takes = takes_of (length (params_of p.1)) p.2;
    answer
        = p.3;
  },
)

abbrev pub special_row : SpecialRow → ℕ × Row
special_row s = (s.0, record { form = form.Special s.1; params = []; takes = []; answer = answer.Null })

abbrev pub builtin_row : Call → ℕ × Row
builtin_row c = (c.number, c.row)

abbrev pub builtin_rows : List (ℕ × Row)
builtin_rows = map builtin_row calls

abbrev pub row_in : List (ℕ × Row) → ℕ → Option Row
row_in rows name = lookup (λ other. name == other) rows

abbrev pub is_object : Param → Bool
is_object param.Object = true
is_object param.ObjectOrNull = true
is_object _ = false

abbrev pub has_success : Answer → Bool
has_success answer.New = true
has_success answer.Status = true
has_success _ = false

abbrev pub may_take : Answer → Param → Take → Bool
may_take a p takes.Never = true
may_take a p takes.Always = is_object p
may_take a p takes.OnSuccess = is_object p && has_success a

abbrev pub may_take_all : Answer → List Param → List Take → Bool
may_take_all a [] [] = true
may_take_all a [] (t ∷ ts) = false
may_take_all a (p ∷ ps) [] = false
may_take_all a (p ∷ ps) (t ∷ ts) = may_take a p t && may_take_all a ps ts

abbrev pub is_empty : {A : Type 0} → List A → Bool
is_empty [] = true
is_empty (x ∷ xs) = false

abbrev pub fits_int : Answer → Bool
fits_int (answer.Converted failures least most) = nat_le failures (2 ^ 31) && nat_lt most (2 ^ 31)
fits_int a = true

abbrev pub fits_form : Form → Row → Bool
fits_form form.Plain r = may_take_all r.answer r.params r.takes && fits_int r.answer
fits_form (form.Special s) r = is_empty r.params && is_empty r.takes

abbrev pub is_row : Row → Bool
is_row r = fits_form r.form r

abbrev pub are_rows : List (ℕ × Row) → Bool
are_rows rows = list_all (λ r. is_row r.1) rows

abbrev pub is_plain_form : Form → Bool
is_plain_form form.Plain = true
is_plain_form (form.Special s) = false

abbrev pub are_plain_rows : List (ℕ × Row) → Bool
are_plain_rows rows = list_all (λ r. is_plain_form r.1.form && is_row r.1) rows

abbrev pub named_row : Name × Row → ℕ × Row
named_row r = (r.0.0, r.1)

abbrev pub are_new : List (ℕ × Row) → List (ℕ × Row) → Bool
are_new rows [] = true
are_new rows (r ∷ more) = is_none (row_in rows r.0) && are_new (rows ++ r ∷ []) more
