-- The entries of a function: a value for each parameter, and the objects that are there.
--   fits_kind, fits_param n k v    a value is one of this kind, where there are n objects
--   fit_params n ks vs        so are these values, one for each parameter
--   entry_fits ks statics e   an entry fits the parameters of a function, and the statics of its file are there
use Rattle.std.specs.Prelude.{ℕ, ◌^◌, nat_lt, nat_le, Bool, true, false, ◌&&◌, List, [], ◌∷◌, Option, Some, None}
use Rattle.pungi_base.specs.declared.entry.Entry.{Entry}
use Rattle.pungi_base.specs.declared.value.Value.{Value}
use Rattle.pungi_base.specs.declared.value.Value.TheVariants as value
use Rattle.pungi_types.specs.declared.kind.ValueKind.{ValueKind}
use Rattle.pungi_types.specs.declared.kind.ValueKind.TheVariants as kinds
use Rattle.pungi_types.specs.Operators.{is_integer, is_object}
use Rattle.pungi_meaning.specs.Values.{fits}

abbrev pub fits_kind : ℕ → ValueKind → Value → Bool
fits_kind n k (value.Int i) = is_integer (Some k) && fits k i
fits_kind n k (value.Object o) = is_object (Some k) && nat_lt o n
fits_kind n kinds.Text value.Text = true
fits_kind n k value.Text = false
fits_kind n kinds.Text value.Null = true
fits_kind n (kinds.Object tag) value.Null = true
fits_kind n k value.Null = false

abbrev pub fits_param : ℕ → Option ValueKind → Value → Bool
fits_param n None v = false
fits_param n (Some k) v = fits_kind n k v

abbrev pub fit_params : ℕ → List (Option ValueKind) → List Value → Bool
fit_params n [] [] = true
fit_params n [] (v ∷ vs) = false
fit_params n (k ∷ ks) [] = false
fit_params n (k ∷ ks) (v ∷ vs) = fits_param n k v && fit_params n ks vs

abbrev pub entry_fits : List (Option ValueKind) → ℕ → Entry → Bool
entry_fits ks statics entry =
    nat_le statics entry.objects && (nat_lt entry.objects (2 ^ 31) && fit_params entry.objects ks entry.args)
