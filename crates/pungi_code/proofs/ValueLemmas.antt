-- The values of atoms, one after another.
use Rattle.std.proofs.Common.{◌≡◌, List, [], ◌∷◌, ◌++◌, Option, Some, None}
use Rattle.std.proofs.Common.{option_map, refl, ap, sym, append_assoc}
use Rattle.pungi_base.specs.declared.value.Value.{Value}
use Rattle.pungi_world.specs.declared.content.Content.TheVariants.{Unset, Holds}
use Rattle.pungi_code.specs.Registers.{both_values}

-- values that are known, before others
abbrev pub known_before : List Value → Option (List Value) → Option (List Value)
known_before vs o = option_map (λ ws. vs ++ ws) o

pub values_step : (vs : List Value) (v : Value) (o : Option (List Value))
    → known_before vs (both_values (Holds v) o) ≡ known_before (vs ++ v ∷ []) o
values_step vs v None = refl
values_step vs v (Some ws) = ap Some (sym (append_assoc vs (v ∷ []) ws))

pub values_stop : (vs : List Value) (o : Option (List Value)) → known_before vs (both_values Unset o) ≡ None
values_stop vs o = refl
