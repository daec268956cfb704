-- The entry of a code that an entry of its idle code stands for: pointers that no instruction names may be any.
--   any_object n k            the k-th object, where there are n
--   restored_value n k kind v     a number that stands for an object is this one, one that stands for a text is a text
--   restored_at               so it is where the kind is known
--   restored_values n k ks vs so it is with the arguments of parameters of these kinds, each of which has an object of
--                             its own
--   restored statics c entry  and with those of an entry, after the static objects
--   restored_run statics c w  and with those of a witness
use Rattle.std.specs.Prelude.{ℕ, ◌+◌, nat_lt, List, [], ◌∷◌, take, Option, Some, None, if◌then◌else◌}
use Rattle.pungi_base.specs.declared.entry.Entry.{Entry}
use Rattle.pungi_base.specs.declared.value.Value.{Value}
use Rattle.pungi_base.specs.declared.value.Value.TheVariants as value
use Rattle.pungi_base.specs.declared.witness.Witness.{Witness}
use Rattle.pungi_api.specs.declared.param.Param.{Param}
use Rattle.pungi_api.specs.declared.param.Param.TheVariants as param
use Rattle.pungi_code.specs.declared.code.Code.{Code}

abbrev pub any_object : ℕ → ℕ → Value
any_object n k = if nat_lt k n then value.Object k else value.Null

abbrev pub restored_value : ℕ → ℕ → Param → Value → Value
restored_value n k param.ObjectOrNull (value.Int i) = any_object n k
restored_value n k param.TextOrNull (value.Int i) = value.Text
restored_value n k kind v = v

abbrev pub restored_at : ℕ → ℕ → Option Param → Value → Value
restored_at n k None v = v
restored_at n k (Some kind) v = restored_value n k kind v

abbrev pub restored_values : ℕ → ℕ → List Param → List Value → List Value
restored_values n k [] vs = vs
restored_values n k (kind ∷ ks) [] = []
restored_values n k (kind ∷ ks) (v ∷ vs) = restored_value n k kind v ∷ restored_values n (k + 1) ks vs

abbrev pub restored : ℕ → Code → Entry → Entry
restored statics c entry =
    record entry { args = restored_values entry.objects statics (take c.params c.vars) entry.args }

abbrev pub restored_run : ℕ → Code → Witness → Witness
restored_run statics c w = record w { input = restored statics c w.input }
