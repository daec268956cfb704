-- How many variables the code of a function has.
use Rattle.std.proofs.Common.{◌≡◌, ℕ, zero, suc, ◌+◌, ◌*◌, List, [], ◌∷◌, ◌++◌, length, map, refl, ap, arith}
use Rattle.std.proofs.Common.{length-append}
use Rattle.pungi_resolved.specs.Functions.{ResolvedFunction}
use Rattle.pungi_layout.specs.code.CallKinds.{held_kind}
use Rattle.pungi_layout.specs.code.Levels.{stmt_levels}
use Rattle.pungi_layout.specs.code.VarKinds.{kind_held, stmt_declared, temp_kinds, var_kinds}
use Rattle.pungi_layout.specs.code.FunctionCode.{HasLocals}

pub map_long : {A B : Type 0} (g : A → B) (xs : List A) → length (map g xs) ≡ length xs
map_long g [] = refl
map_long g (x ∷ xs) = ap suc (map_long g xs)

temps_long : (n : ℕ) → length (temp_kinds n) ≡ 5 * n
temps_long zero = refl
temps_long (suc n) = let h = temps_long n in omega (arith, h)

-- the locals, and five for each level
pub vars_long : (f : ResolvedFunction) → HasLocals f → length (var_kinds f) ≡ f.locals + 5 * stmt_levels f.body
vars_long f h =
    let own = map kind_held (stmt_declared f.body) in
    let temps = temp_kinds (stmt_levels f.body) in
    let a = length-append (map held_kind f.params) (own ++ temps) in
    let b = length-append own temps in
    let c = map_long held_kind f.params in
    let d = map_long kind_held (stmt_declared f.body) in
    let e = temps_long (stmt_levels f.body) in
    omega (arith, a, b, c, d, e, h)
