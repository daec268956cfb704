-- The entries of a code: a value for each parameter, and the objects that are there.
--   holds_value n k v           a variable of this kind may hold a value, where there are n objects
--   hold_values n ks vs         so may these variables, one value each
--   code_fits statics code e    an entry fits the parameters of a code, and the statics of its file are there
use Rattle.std.specs.Prelude.{ℕ, ◌^◌, nat_lt, nat_le, Bool, true, false, ◌&&◌, List, [], ◌∷◌, take}
use Rattle.pungi_base.specs.declared.entry.Entry.{Entry}
use Rattle.pungi_base.specs.declared.value.Value.{Value}
use Rattle.pungi_base.specs.declared.value.Value.TheVariants as value
use Rattle.pungi_api.specs.declared.param.Param.{Param}
use Rattle.pungi_api.specs.declared.param.Param.TheVariants as param
use Rattle.pungi_types.specs.declared.kind.ValueKind.TheVariants as kinds
use Rattle.pungi_meaning.specs.Values.{fits}
use Rattle.pungi_code.specs.declared.code.Code.{Code}

abbrev pub holds_value : ℕ → Param → Value → Bool
holds_value n param.Int (value.Int i) = fits kinds.Int i
holds_value n param.Long (value.Int i) = fits kinds.Long i
holds_value n param.Size (value.Int i) = fits kinds.Size i
holds_value n param.ObjectOrNull (value.Object o) = nat_lt o n
holds_value n param.ObjectOrNull value.Null = true
holds_value n param.TextOrNull value.Text = true
holds_value n param.TextOrNull value.Null = true
holds_value n k v = false

abbrev pub hold_values : ℕ → List Param → List Value → Bool
hold_values n [] [] = true
hold_values n [] (v ∷ vs) = false
hold_values n (k ∷ ks) [] = false
hold_values n (k ∷ ks) (v ∷ vs) = holds_value n k v && hold_values n ks vs

abbrev pub code_fits : ℕ → Code → Entry → Bool
code_fits statics code entry =
    nat_le statics entry.objects && (nat_lt entry.objects (2 ^ 31)
    && hold_values entry.objects (take code.params code.vars) entry.args)
