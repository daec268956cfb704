-- Rows in a table: what is found is a row, and the rows of the manual are rows with names of their own.
use Rattle.std.proofs.Common.{◌≡◌, ℕ, Bool, true, false, List, [], ◌∷◌, ◌++◌, map, refl, sym, subst, Option, None, Some}
use Rattle.std.proofs.Common.{IfSome, IsTrue, Bor, cond, ◌&&◌, ◌==◌, is_none}
use Rattle.std.specs.Option.{option_copied}
use Rattle.pungi_api.specs.declared.row.Row.{Row}
use Rattle.pungi_api.specs.Rows.{builtin_rows, are_rows, are_plain_rows, is_plain_form, row_in, is_row, are_new}
use Rattle.pungi_api.specs.Rows.{plain_row, special_row}
use Rattle.pungi_api.specs.declared.manual.TheConstants.{PLAIN_ROWS, SPECIAL_ROWS}

pub builtin_rows-are_rows : are_rows builtin_rows ≡ true
builtin_rows-are_rows = refl

pub plain_rows-are_new : are_new [] (map plain_row PLAIN_ROWS) ≡ true
plain_rows-are_new = refl

pub special_rows-are_new : are_new (map plain_row PLAIN_ROWS) (map special_row SPECIAL_ROWS) ≡ true
special_rows-are_new = refl

-- what has no row isn't one of the rows
pub none_from_is_none : {A : Type 0} (o : Option A) → IsTrue (is_none o) → o ≡ None
none_from_is_none None h = refl
none_from_is_none (Some x) h = absurd cc

and-left : (a b : Bool) → (a && b) ≡ true → a ≡ true
and-left true b e = refl
and-left false b e = absurd cc

and-right : (a b : Bool) → (a && b) ≡ true → b ≡ true
and-right true b e = e
and-right false b e = absurd cc

found-is_row : (rows : List (ℕ × Row)) (name : ℕ) → are_rows rows ≡ true
    → IfSome (row_in rows name) (λ r. IsTrue (is_row r))
found-is_row [] name all = tt
found-is_row (r ∷ rows) name all =
    elim (name == r.0) as (λ b. IfSome (cond b (Some r.1) (row_in rows name)) (λ r. IsTrue (is_row r))) [
      | true ↦ and-left (is_row r.1) (are_rows rows) all
      | false ↦ found-is_row rows name (and-right (is_row r.1) (are_rows rows) all)
    ]

at_copied : (o : Option (Bor Row)) → IfSome (option_copied o) (λ r. IsTrue (is_row r))
    → IfSome o (λ r. IsTrue (is_row r.now))
at_copied None h = tt
at_copied (Some r) h = h

pub found_in_rows : (rows : List (ℕ × Row)) (name : ℕ) (o : Option (Bor Row)) → IsTrue (are_rows rows)
    → option_copied o ≡ row_in rows name → IfSome o (λ r. IsTrue (is_row r.now))
found_in_rows rows name o all e =
    at_copied o (let P : Option Row → Type 0 = λ o. IfSome o (λ r. IsTrue (is_row r)) in subst P (sym e)
    (found-is_row rows name all))

and-intro : (a b : Bool) → a ≡ true → b ≡ true → (a && b) ≡ true
and-intro true b e f = f
and-intro false b e f = e

-- rows and plain rows after them are rows
pub rows-with : (rows more : List (ℕ × Row)) → IsTrue (are_rows rows) → IsTrue (are_plain_rows more)
    → IsTrue (are_rows (rows ++ more))
rows-with [] [] h p = p
rows-with [] (r ∷ more) h p =
    let both = and-left (is_plain_form r.1.form && is_row r.1) (are_plain_rows more) p in
    and-intro (is_row r.1) (are_rows more) (and-right (is_plain_form r.1.form) (is_row r.1) both)
    (rows-with [] more refl (and-right (is_plain_form r.1.form && is_row r.1) (are_plain_rows more) p))
rows-with (r ∷ rows) more h p =
    and-intro (is_row r.1) (are_rows (rows ++ more)) (and-left (is_row r.1) (are_rows rows) h)
    (rows-with rows more (and-right (is_row r.1) (are_rows rows) h) p)
