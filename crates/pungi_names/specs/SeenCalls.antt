-- What a call requires of what is called.
--   Seen                what stands before the parenthesis, with what it takes and gives
--   seen file c         the same of a callee
--   is_refused_seen own refused w    another function that is refused
--   own_wants_seen, row_wants_seen, wants_seen, result_seen, is_value_seen, takes_seen, is_unknown_seen, row_of_seen,
--   is_defined_seen     what is asked
use Rattle.std.specs.Prelude.{ℕ, ◌-◌, ◌==◌, Bool, true, false, ◌&&◌, not, List, [], ◌∷◌, ◌++◌, replicate, Option, Some}
use Rattle.std.specs.Prelude.{None, if◌then◌else◌}
use Rattle.pungi_api.specs.declared.row.Form.{Form}
use Rattle.pungi_api.specs.declared.row.Form.TheVariants as forms
use Rattle.pungi_api.specs.declared.row.Row.{Row}
use Rattle.pungi_api.specs.declared.special.Special.{Special}
use Rattle.pungi_api.specs.declared.special.Special.TheVariants as specials
use Rattle.pungi_tree.specs.Syntax.{Item}
use Rattle.pungi_types.specs.Calls.{Callee, no_word, a_value, defined, a_row, no_function, params_wants, row_kind}
use Rattle.pungi_types.specs.Formats.{an_object}
use Rattle.pungi_types.specs.Kinds.{type_kind, spec_base}
use Rattle.pungi_types.specs.Names.{is_among}
use Rattle.pungi_types.specs.declared.kind.ValueKind.{ValueKind}
use Rattle.pungi_types.specs.declared.wants.Want.{Want}
use Rattle.pungi_types.specs.declared.wants.Want.TheVariants as wanted
use Rattle.pungi_names.specs.RowsView.{fixed_wants}

pub data Seen : Type 0 where
  other_called : Seen
  value_called : Seen
  defined_called : ℕ × (List Want × Option ValueKind) → Seen
  row_called : Row → List Want → Seen
  nothing_called : Seen

abbrev pub seen : List Item → Callee → Seen
seen file no_word = other_called
seen file a_value = value_called
seen file (defined d) =
    defined_called (d.name.0, (params_wants file d.params, type_kind file (spec_base d.result) d.stars))
seen file (a_row r) = row_called r (fixed_wants r.form r.params)
seen file no_function = nothing_called

abbrev pub is_refused_seen : ℕ → List ℕ → ℕ → Bool
is_refused_seen own refused w = not (w == own) && is_among refused w

-- of a row whose calls differ in their number of arguments, those after its fixed ones
abbrev pub own_wants_seen : Special → List Want → ℕ → List Want
own_wants_seen specials.TuplePack ws n = wanted.Count (n - 1) ∷ replicate (n - 1) an_object
own_wants_seen specials.CallFunctionObjArgs ws n = ws ++ (replicate (n - 2) an_object ++ wanted.NullConstant ∷ [])
own_wants_seen specials.ErrFormat ws n = ws ++ replicate (n - 2) wanted.Anything
own_wants_seen _ ws n = ws

abbrev pub row_wants_seen : Form → List Want → ℕ → List Want
row_wants_seen forms.Plain ws n = ws
row_wants_seen (forms.Special s) ws n = own_wants_seen s ws n

abbrev pub wants_seen : Seen → ℕ → List Want
wants_seen (defined_called s) n = s.1.0
wants_seen (row_called r ws) n = row_wants_seen r.form ws n
wants_seen _ n = []

abbrev pub result_seen : ℕ → List ℕ → Seen → Option ValueKind
result_seen own refused (defined_called s) = (if is_refused_seen own refused s.0 then None else s.1.1)
result_seen own refused (row_called r ws) = Some (row_kind r.form r.answer)
result_seen own refused _ = None

abbrev pub is_value_seen : Seen → Bool
is_value_seen value_called = true
is_value_seen _ = false

abbrev pub takes_seen : Seen → Bool
takes_seen (defined_called s) = true
takes_seen (row_called r ws) = true
takes_seen _ = false

abbrev pub is_unknown_seen : ℕ → List ℕ → Seen → Bool
is_unknown_seen own refused (defined_called s) = is_refused_seen own refused s.0
is_unknown_seen own refused nothing_called = true
is_unknown_seen own refused _ = false

abbrev pub row_of_seen : Seen → Option Row
row_of_seen (row_called r ws) = Some r
row_of_seen _ = None

abbrev pub is_defined_seen : Seen → Bool
is_defined_seen (defined_called s) = true
is_defined_seen _ = false
