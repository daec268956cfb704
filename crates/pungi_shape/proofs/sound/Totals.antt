-- Sums of balances, where one changes, comes or goes.
use Rattle.std.proofs.Common.{◌≡◌, ℕ, zero, suc, ◌+◌, ◌<◌, pos, ◌+ℤ◌, List, [], ◌∷◌, ◌++◌}
use Rattle.std.proofs.Common.{length, get_or, Bool, true, false, refl, ap, arith, cond}
use Rattle.std.specs.Prelude.{slice_set, ◌==◌, Option, Some, None}
use Rattle.std.proofs.lemmas.Int.{ints}
use Rattle.pungi_domain.specs.Vectors.{Vector, dot}
use Rattle.pungi_shape.specs.Forms.{Form, plus}
use Rattle.pungi_shape.specs.Described.{Naming}
use Rattle.pungi_shape.proofs.sound.Shows.{share, total_from, total}
use Rattle.pungi_shape.proofs.sound.FormValues.{dot_plus}

share_at : (names : Naming) (v : Vector) (o t u : ℕ) (b : Option Form) → t ≡ u
    → share names v o t b ≡ share names v o u b
share_at names v o t u b e = ap (λ z. share names v o z b) e

total_from_set : (t : ℕ) (names : Naming) (bs : List (Option Form)) (v : Vector) (o i u : ℕ) (b : Option Form)
    → i < length bs → t + i ≡ u
    → total_from t names (slice_set bs i b) v o +ℤ share names v o u (get_or bs i None)
    ≡ total_from t names bs v o +ℤ share names v o u b
total_from_set t names [] v o i u b lt e = absurd (omega (arith, lt))
total_from_set t names (x ∷ bs) v o zero u b lt e =
    let p = share_at names v o t u b (omega (arith, e)) in
    let q = share_at names v o t u x (omega (arith, e)) in
    omega (arith, ints, p, q)
total_from_set t names (x ∷ bs) v o (suc i) u b lt e =
    let h = total_from_set (suc t) names bs v o i u b (omega (arith, lt)) (omega (arith, e)) in omega (arith, ints, h)

pub total_set : (names : Naming) (bs : List (Option Form)) (v : Vector) (o i : ℕ) (b : Option Form) → i < length bs
    → total names (slice_set bs i b) v o +ℤ share names v o i (get_or bs i None)
    ≡ total names bs v o +ℤ share names v o i b
total_set names bs v o i b lt = total_from_set 0 names bs v o i i b lt (omega arith)

total_from_push : (t : ℕ) (names : Naming) (bs : List (Option Form)) (v : Vector) (o u : ℕ) (b : Option Form)
    → t + length bs ≡ u
    → total_from t names (bs ++ b ∷ []) v o ≡ total_from t names bs v o +ℤ share names v o u b
total_from_push t names [] v o u b e = let p = share_at names v o t u b (omega (arith, e)) in omega (arith, ints, p)
total_from_push t names (x ∷ bs) v o u b e =
    let h = total_from_push (suc t) names bs v o u b (omega (arith, e)) in omega (arith, ints, h)

pub total_push : (names : Naming) (bs : List (Option Form)) (v : Vector) (o : ℕ) (b : Option Form)
    → total names (bs ++ b ∷ []) v o ≡ total names bs v o +ℤ share names v o (length bs) b
total_push names bs v o b = total_from_push 0 names bs v o (length bs) b (omega arith)

-- the same objects
share_named : (names other : Naming) (v : Vector) (o t : ℕ) (b : Option Form) → other t ≡ names t
    → share other v o t b ≡ share names v o t b
share_named names other v o t None e = refl
share_named names other v o t (Some f) e = ap (λ z. cond (z == o) (dot f v) (pos 0)) e

total_from_named : (t : ℕ) (names other : Naming) (bs : List (Option Form)) (v : Vector) (o : ℕ)
    → ((i : ℕ) → i < t + length bs → other i ≡ names i)
    → total_from t other bs v o ≡ total_from t names bs v o
total_from_named t names other [] v o same = refl
total_from_named t names other (b ∷ bs) v o same =
    let p = share_named names other v o t b (same t (omega arith)) in
    let h = total_from_named (suc t) names other bs v o (λ i lt. same i (omega (arith, lt))) in
    omega (arith, ints, p, h)

pub total_named : (names other : Naming) (bs : List (Option Form)) (v : Vector) (o : ℕ)
    → ((i : ℕ) → i < length bs → other i ≡ names i) → total other bs v o ≡ total names bs v o
total_named names other bs v o same = total_from_named 0 names other bs v o (λ i lt. same i (omega (arith, lt)))

-- one balance grows
plus_if : (b : Bool) (f g : Form) (v : Vector) → length f ≡ length g
    → cond b (dot (plus f g) v) (pos 0) ≡ cond b (dot f v) (pos 0) +ℤ cond b (dot g v) (pos 0)
plus_if true f g v e = dot_plus f g v e
plus_if false f g v e = refl

pub share_plus : (names : Naming) (v : Vector) (o t : ℕ) (f g : Form) → length f ≡ length g
    → share names v o t (Some (plus f g)) ≡ share names v o t (Some f) +ℤ share names v o t (Some g)
share_plus names v o t f g e = plus_if (names t == o) f g v e

pub share_same : (names : Naming) (v : Vector) (o t u : ℕ) (f : Form) → names t ≡ names u
    → share names v o t (Some f) ≡ share names v o u (Some f)
share_same names v o t u f e = ap (λ z. cond (z == o) (dot f v) (pos 0)) e

pub grown : (names : Naming) (bs : List (Option Form)) (v : Vector) (o t : ℕ) (f g : Form) → t < length bs
    → get_or bs t None ≡ Some f → length f ≡ length g
    → total names (slice_set bs t (Some (plus f g))) v o ≡ total names bs v o +ℤ share names v o t (Some g)
grown names bs v o t f g lt is e =
    let h = total_set names bs v o t (Some (plus f g)) lt in
    let p : share names v o t (get_or bs t None) ≡ share names v o t (Some f) = ap (share names v o t) is in
    let q = share_plus names v o t f g e in
    omega (arith, ints, h, p, q)
