-- How many arguments a call has.
use Rattle.std.proofs.Common.{◌≡◌, List, [], ◌∷◌, length, map, refl, arith}
use Rattle.pungi_tree.specs.Syntax as plain
use Rattle.pungi_tree.specs.ExprView.{exprs_of}
use Rattle.pungi_types.specs.Calls.{how_many}

pub counted_exprs : {A : Type 0} (f : A → plain.Expr) (xs : List A) → how_many (exprs_of (map f xs)) ≡ length xs
counted_exprs f [] = refl
counted_exprs f (x ∷ xs) = let h = counted_exprs f xs in omega (arith, h)
