-- Rows by their names.
--   fixed_wants f ps           what the first arguments of each call of a row are to be, whatever its number of arguments
--   row_seen r, call_view c    a row, with these
--   entry_view e               a row with its name
use Rattle.std.specs.Prelude.{ℕ, List, [], ◌∷◌, map}
use Rattle.std.specs.Borrow.{Bor}
use Rattle.pungi_api.specs.declared.param.Param.{Param}
use Rattle.pungi_api.specs.declared.row.Form.{Form}
use Rattle.pungi_api.specs.declared.row.Form.TheVariants as forms
use Rattle.pungi_api.specs.declared.row.Row.{Row}
use Rattle.pungi_api.specs.declared.special.Special.TheVariants as specials
use Rattle.pungi_base.specs.declared.names.Name.{Name}
use Rattle.pungi_api.specs.declared.answer.Answer.TheVariants as answers
use Rattle.pungi_types.specs.Formats.{an_object, param_want}
use Rattle.pungi_types.specs.declared.kind.ValueKind.TheVariants as kinds
use Rattle.pungi_types.specs.declared.wants.Want.{Want}
use Rattle.pungi_types.specs.declared.wants.Want.TheVariants as wanted
use Rattle.pungi_names.specs.declared.rows.RowCall.{RowCall}

abbrev pub fixed_wants : Form → List Param → List Want
fixed_wants forms.Plain ps = map param_want ps
fixed_wants (forms.Special specials.Clear) ps = wanted.ObjectPlace ∷ []
fixed_wants (forms.Special specials.TuplePack) ps = []
fixed_wants (forms.Special specials.ErrFormat) ps = an_object ∷ wanted.OfKind kinds.Text ∷ []
fixed_wants (forms.Special specials.DictNext) ps =
    an_object ∷ wanted.Position ∷ wanted.OptionalOutput answers.BorrowedSure
    ∷ wanted.OptionalOutput answers.BorrowedSure ∷ []
fixed_wants (forms.Special _) ps = an_object ∷ []

abbrev pub row_seen : Row → Row × List Want
row_seen r = (r, fixed_wants r.form r.params)

abbrev pub call_view : RowCall → Row × List Want
call_view c = (c.row.now, c.wants.items)

abbrev pub entry_view : Name × Bor Row → ℕ × Row
entry_view e = (e.0.0, e.1.now)
