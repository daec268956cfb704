-- The number of an exit class is the same in each list of the exit classes of a function.
use Rattle.std.proofs.Common.{◌≡◌, ◌∙◌, ℕ, ◌≤◌, List, get_or, ap, arith}
use Rattle.std.specs.List.{All, IsAmong}
use Rattle.std.proofs.lemmas.List.Elements.{All-weaker}
use Rattle.pungi_code.specs.declared.code.Codes.{Codes}
use Rattle.pungi_shape.specs.declared.shape.Shape.{Shape}
use Rattle.pungi_shape.specs.Edges.{to_exit}
use Rattle.pungi_shape.specs.Programs.{IsFound, Rises, AreExits, exit_cmp, exit_number}
use Rattle.pungi_shape.proofs.RiseLemmas.{exit-total, rises-number, at-most}

-- a list whose exit classes are all in another numbers them no higher
no_higher : (xs ys : List Shape) → Rises exit_cmp xs → Rises exit_cmp ys → All (IsAmong ys) xs → (x : Shape)
    → IsAmong xs x → exit_number xs x ≤ exit_number ys x
no_higher xs ys rise others all x there =
    let i = there.0 in
    let lt = there.1.0 in
    let y = get_or xs i x in
    let j = all i x lt in
    let le = at-most exit_cmp exit-total xs ys rise others all i x lt in
    let this = rises-number exit_cmp exit-total xs rise x there in
    let that = ap (exit_number ys) there.1.1 ∙ rises-number exit_cmp exit-total ys others y j in
    omega (arith, le, this, that)

pub one_number : (codes : Codes) (f : ℕ) (xs ys : List Shape) → AreExits codes f xs → AreExits codes f ys → (x : Shape)
    → IsFound codes f (to_exit x) → exit_number xs x ≡ exit_number ys x
one_number codes f xs ys these those x found =
    let there = λ (zs : List Shape) (all : (z : Shape) → IsFound codes f (to_exit z) → IsAmong zs z) (ws : List Shape)
    (are : All (λ z. IsFound codes f (to_exit z)) ws).
    All-weaker (λ z. IsFound codes f (to_exit z)) (IsAmong zs) all ws are in
    let up = no_higher xs ys these.rise those.rise (there ys those.all xs these.found) x (these.all x found) in
    let down = no_higher ys xs those.rise these.rise (there xs these.all ys those.found) x (those.all x found) in
    omega (arith, up, down)
