-- The kinds of variables, one list after another.
use Rattle.std.proofs.Common.{◌≡◌, ℕ, zero, suc, ◌+◌, List, [], ◌∷◌, ◌++◌, map, refl, sym, ap, ◌∙◌, arith, append_assoc}
use Rattle.pungi_api.specs.declared.param.Param.{Param}
use Rattle.pungi_api.specs.declared.param.Param.TheVariants as param
use Rattle.pungi_resolved.specs.Actions as stmt
use Rattle.pungi_layout.specs.code.VarKinds.{kind_held, temp_kinds}

held_append : (rs qs : List stmt.DeclaredLocal) → map kind_held (rs ++ qs) ≡ map kind_held rs ++ map kind_held qs
held_append [] qs = refl
held_append (r ∷ rs) qs = ap (λ l. kind_held r ∷ l) (held_append rs qs)

pub both_added : (rs qs : List stmt.DeclaredLocal) (k0 k1 k2 : List Param) → k1 ≡ k0 ++ map kind_held rs
    → k2 ≡ k1 ++ map kind_held qs → k2 ≡ k0 ++ map kind_held (rs ++ qs)
both_added rs qs k0 k1 k2 e f =
    f ∙ ap (λ k. k ++ map kind_held qs) e ∙ append_assoc k0 (map kind_held rs) (map kind_held qs)
    ∙ ap (λ l. k0 ++ l) (sym (held_append rs qs))

pub next_added : (rs qs : List stmt.DeclaredLocal) (k0 k1 : List Param) → k1 ≡ k0 ++ map kind_held rs
    → k0 ++ map kind_held (rs ++ qs) ≡ k1 ++ map kind_held qs
next_added rs qs k0 k1 e = sym (both_added rs qs k0 k1 (k1 ++ map kind_held qs) e refl)

pub temps_more : (n : ℕ) → temp_kinds n ++ temp_kinds 1 ≡ temp_kinds (suc n)
temps_more zero = refl
temps_more (suc n) =
    ap (λ l. param.Int ∷ param.Long ∷ param.Size ∷ param.TextOrNull ∷ param.ObjectOrNull ∷ l) (temps_more n)

pub level_added : (n : ℕ) (k0 k1 k2 : List Param) → k1 ≡ k0 ++ temp_kinds n → k2 ≡ k1 ++ temp_kinds 1
    → k2 ≡ k0 ++ temp_kinds (n + 1)
level_added n k0 k1 k2 e f =
    let more : suc n ≡ n + 1 = omega arith in
    f ∙ ap (λ k. k ++ temp_kinds 1) e ∙ append_assoc k0 (temp_kinds n) (temp_kinds 1)
    ∙ ap (λ l. k0 ++ l) (temps_more n) ∙ ap (λ i. k0 ++ temp_kinds i) more
