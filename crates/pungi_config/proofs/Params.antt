-- The parameters that a list of values means, read from the front.
use Rattle.std.proofs.Common.{◌≡◌, List, ◌∷◌, [], ◌++◌, Option, Some, None, refl}
use Rattle.std.specs.Prelude.{option_map}
use Rattle.pungi_api.specs.declared.param.Param.{Param}
use Rattle.pungi_config.specs.Takes.{with_first}

-- these, and then the others
abbrev pub params_after : List Param → Option (List Param) → Option (List Param)
params_after before others = option_map (λ more. before ++ more) others

append_snoc : (before : List Param) (p : Param) (more : List Param) → before ++ p ∷ more ≡ (before ++ p ∷ []) ++ more
append_snoc [] p more = refl
append_snoc (b ∷ before) p more = rw (append_snoc before p more)

pub params_after-first : (before : List Param) (p : Param) (others : Option (List Param))
    → params_after before (with_first (Some p) others) ≡ params_after (before ++ p ∷ []) others
params_after-first before p None = refl
params_after-first before p (Some more) = rw (append_snoc before p more)

pub params_after-none : (others : Option (List Param)) → params_after [] others ≡ others
params_after-none None = refl
params_after-none (Some more) = refl
