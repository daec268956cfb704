-- A code in which each parameter that no instruction names is an `int`, unless the function takes its reference over.
-- What such a parameter is makes no difference to a run, and an `int` is neither told apart from `NULL` nor from
-- another object.
--   is_kept ls taken n x      the variable of this number is no parameter, of which there are n, or it is named, or
--                             taken over
--   idle_kind kept k          a pointer that isn't kept is an `int`
--   idle_kinds ls taken n x ks      so it is with all variables from the x-th on
--   idle c                    so it is with those of a code
use Rattle.std.specs.Prelude.{ℕ, ◌+◌, ◌==◌, nat_le, Bool, false, ◌||◌, List, [], ◌∷◌}
use Rattle.std.specs.List.{list_any}
use Rattle.pungi_api.specs.declared.param.Param.{Param}
use Rattle.pungi_api.specs.declared.param.Param.TheVariants as param
use Rattle.pungi_code.specs.declared.code.Code.{Code}
use Rattle.pungi_code.specs.declared.code.Line.{Line}
use Rattle.pungi_idle.specs.Named.{is_named}

abbrev pub is_kept : List Line → List ℕ → ℕ → ℕ → Bool
is_kept ls taken n x = nat_le n x || (is_named ls x || list_any (λ p. p == x) taken)

abbrev pub idle_kind : Bool → Param → Param
idle_kind false param.ObjectOrNull = param.Int
idle_kind false param.TextOrNull = param.Int
idle_kind kept k = k

abbrev pub idle_kinds : List Line → List ℕ → ℕ → ℕ → List Param → List Param
idle_kinds ls taken n x [] = []
idle_kinds ls taken n x (k ∷ ks) = idle_kind (is_kept ls taken n x) k ∷ idle_kinds ls taken n (x + 1) ks

abbrev pub idle : Code → Code
idle c = record c { vars = idle_kinds c.instrs c.terms.convention.taken c.params 0 c.vars }
