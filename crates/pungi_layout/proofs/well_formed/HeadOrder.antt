-- The heads of a code are ordered: those below a place are, and the next one comes after all of them.
use Rattle.std.proofs.Common.{◌≡◌, ℕ, zero, suc, ◌<◌, ◌++◌, arith, length, true, Bool, List, [], ◌∷◌, Option}
use Rattle.std.proofs.Common.{Some, None, refl}
use Rattle.std.specs.Prelude.{nat_lt}
use Rattle.std.specs.List.{list_all}
use Rattle.pungi_base.specs.declared.pos.Pos.{Pos}
use Rattle.pungi_code.specs.declared.code.Head.{Head}
use Rattle.pungi_code.specs.declared.code.Line.{Line}
use Rattle.pungi_code.specs.WellFormed.{are_ordered}
use Rattle.pungi_layout.specs.declared.mark.Mark.{Mark}
use Rattle.pungi_layout.specs.code.Heads.{found_head, head_pos, heads_below, heads_of, stmt_marks}
use Rattle.pungi_layout.specs.code.StmtCode.{body_code}
use Rattle.pungi_layout.proofs.well_formed.Both.{and_left, and_right, and_true}
use Rattle.pungi_layout.proofs.well_formed.Instructions.{lt_true}
use Rattle.pungi_layout.proofs.well_formed.FunctionCode.{less}
use Rattle.pungi_resolved.specs.Functions.{ResolvedFunction}

are_below : ℕ → List Head → Bool
are_below n heads = list_all (λ k. nat_lt k.label.0 n) heads

below_append : (n : ℕ) (a b : List Head) → are_below n a ≡ true → are_below n b ≡ true → are_below n (a ++ b) ≡ true
unfolding are_below
below_append n [] b h k = k
below_append n (x ∷ a) b h k =
    and_true (nat_lt x.label.0 n) _ (and_left (nat_lt x.label.0 n) _ h)
    (below_append n a b (and_right (nat_lt x.label.0 n) _ h) k)

below_more : (n : ℕ) (a : List Head) → are_below n a ≡ true → are_below (suc n) a ≡ true
unfolding are_below
below_more n [] h = refl
below_more n (x ∷ a) h =
    let l = less x.label.0 n (and_left (nat_lt x.label.0 n) _ h) in
    and_true (nat_lt x.label.0 (suc n)) _ (lt_true x.label.0 (suc n) (omega (arith, l)))
    (below_more n a (and_right (nat_lt x.label.0 n) _ h))

found_below : (n : ℕ) (o : Option Pos) → are_below (suc n) (found_head n o) ≡ true
unfolding are_below
found_below n None = refl
found_below n (Some p) = and_true (nat_lt n (suc n)) true (lt_true n (suc n) (omega arith)) refl

all_below : (ms : List Mark) (code : List Line) (n : ℕ) → are_below n (heads_below ms code n) ≡ true
unfolding are_below
all_below ms code zero = refl
all_below ms code (suc n) =
    below_append (suc n) (heads_below ms code n) (found_head n (head_pos ms code n))
    (below_more n (heads_below ms code n) (all_below ms code n)) (found_below n (head_pos ms code n))

-- the label of each of these is below that of the head found at a place
one_more : (n : ℕ) (o : Option Pos) (x : Head) (a : List Head) → x.label.0 < n
    → list_all (λ k. nat_lt x.label.0 k.label.0) a ≡ true
    → list_all (λ k. nat_lt x.label.0 k.label.0) (a ++ found_head n o) ≡ true
one_more n None x [] l h = refl
one_more n (Some p) x [] l h = and_true (nat_lt x.label.0 n) true (lt_true x.label.0 n l) refl
one_more n o x (y ∷ a) l h =
    and_true (nat_lt x.label.0 y.label.0) _ (and_left (nat_lt x.label.0 y.label.0) _ h)
    (one_more n o x a l (and_right (nat_lt x.label.0 y.label.0) _ h))

found_ordered : (n : ℕ) (o : Option Pos) → are_ordered (found_head n o) ≡ true
found_ordered n None = refl
found_ordered n (Some p) = refl

ordered_append : (n : ℕ) (o : Option Pos) (a : List Head) → are_ordered a ≡ true → are_below n a ≡ true
    → are_ordered (a ++ found_head n o) ≡ true
unfolding are_below
ordered_append n o [] h k = found_ordered n o
ordered_append n o (x ∷ a) h k =
    let first = and_left (list_all (λ k. nat_lt x.label.0 k.label.0) a) (are_ordered a) h in
    let rest = and_right (list_all (λ k. nat_lt x.label.0 k.label.0) a) (are_ordered a) h in
    let l = less x.label.0 n (and_left (nat_lt x.label.0 n) _ k) in
    and_true (list_all (λ k. nat_lt x.label.0 k.label.0) (a ++ found_head n o)) _ (one_more n o x a l first)
    (ordered_append n o a rest (and_right (nat_lt x.label.0 n) _ k))

below_ordered : (ms : List Mark) (code : List Line) (n : ℕ) → are_ordered (heads_below ms code n) ≡ true
below_ordered ms code zero = refl
below_ordered ms code (suc n) =
    ordered_append n (head_pos ms code n) (heads_below ms code n) (below_ordered ms code n) (all_below ms code n)

pub heads-ordered : (f : ResolvedFunction) → are_ordered (heads_of f) ≡ true
heads-ordered f = below_ordered (stmt_marks 0 f.body) (body_code f) (length (body_code f))
