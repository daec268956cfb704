use Rattle.std.proofs.Common.{◌≡◌, ℕ, List, [], ◌∷◌, map, refl, sym, subst, IsTrue}
use Rattle.pungi_base.specs.declared.names.Name.{Name}
use Rattle.pungi_api.specs.declared.row.Row.{Row}
use Rattle.pungi_api.specs.Rows.{are_new, named_row, builtin_rows}
use Rattle.pungi_front_tests.proofs.api_tests.an_added_row.Goals as goal

name_is : (x : ℕ) (xs : List ℕ) → x ∷ xs ≡ 200 ∷ [] → x ≡ 200
name_is x xs e = cc

new_row : (x : ℕ) (r : Row) → x ≡ 200 → are_new builtin_rows ((x, r) ∷ []) ≡ are_new builtin_rows ((200, r) ∷ [])
new_row x r e =
    let P : ℕ → Type 0 = λ n. are_new builtin_rows ((n, r) ∷ [])
    ≡ are_new builtin_rows ((200, r) ∷ []) in subst P (sym e) refl

a_new_row : (rows : List (Name × Row)) → map (λ r. r.0.0) rows ≡ 200 ∷ []
    → IsTrue (are_new builtin_rows (map named_row rows))
a_new_row [] e = absurd cc
a_new_row (r ∷ []) e = new_row r.0.0 r.1 (name_is r.0.0 [] e)
a_new_row (r ∷ s ∷ rows) e = absurd cc

pub with-requires-clause-new : goal.with-requires-clause-new
with-requires-clause-new g c =
    subst (λ table. IsTrue (are_new table (map named_row c.in_ok-rows.rows.items))) (sym c.in_ok-table.ensures)
    (a_new_row c.in_ok-rows.rows.items c.in_ok-rows.ensures.names)
