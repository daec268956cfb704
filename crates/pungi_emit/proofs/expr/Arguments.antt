-- The variables of arguments, one after another.
use Rattle.std.proofs.Common.{◌≡◌, ℕ, ◌+◌, ◌≤◌, List, [], ◌∷◌, ◌++◌, length, map, sym, ap, ◌∙◌, append_assoc}
use Rattle.std.proofs.Common.{arith}
use Rattle.pungi_api.specs.declared.param.Param.{Param}
use Rattle.pungi_resolved.specs.Values as expr
use Rattle.pungi_code.specs.declared.atom.Atom.{Atom}
use Rattle.pungi_resolved.specs.ValueView.{values_of}
use Rattle.pungi_layout.specs.code.ExprCode.{var}
use Rattle.pungi_layout.specs.code.Sound.{values_nodes}
use Rattle.pungi_layout.specs.code.Temporaries.{tail, arg_var, arg_vars}
use Rattle.pungi_layout.proofs.code.LevelLemmas.{some_nodes}

pub args_step : (atoms : List Atom) (nl d i : ℕ) (ps : List Param) (v : expr.Value) (vs : List expr.Value)
    → atoms ++ map var (arg_vars nl (d + i) ps (v ∷ vs))
    ≡ (atoms ++ var (arg_var nl (d + i) ps v) ∷ []) ++ map var (arg_vars nl (d + (i + 1)) (tail ps) vs)
args_step atoms nl d i ps v vs =
    let e : d + i + 1 ≡ d + (i + 1) = omega arith in
    ap (λ n. atoms ++ var (arg_var nl (d + i) ps v) ∷ map var (arg_vars nl n (tail ps) vs)) e
    ∙ sym (append_assoc atoms (var (arg_var nl (d + i) ps v) ∷ []) (map var (arg_vars nl (d + (i + 1)) (tail ps) vs)))

-- there are no more arguments than nodes
pub args_few : (vs : List expr.Value) → length vs ≤ values_nodes (values_of vs)
args_few [] = omega arith
args_few (v ∷ vs) = omega (arith, args_few vs, some_nodes v)
