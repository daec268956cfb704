-- Bytes that stand side by side, and their places.
use Rattle.std.proofs.Common.{◌≡◌, ℕ, zero, suc, ◌+◌, ◌-◌, ◌<◌, ◌≤◌, List, [], ◌∷◌, ◌++◌, length, drop, get_or, refl}
use Rattle.std.proofs.Common.{sym, ap, subst, ◌∙◌, arith, append_assoc, add-zero}
use Rattle.std.proofs.lemmas.List.{append-nil, get_or-drop, length-drop}
use Rattle.std.proofs.Math.ListN.{drop_of_length-le}
use Rattle.pungi_base.specs.declared.pos.Pos.{Pos}
use Rattle.pungi_lex.specs.Join.{place_in}
use Rattle.pungi_lex.specs.declared.stretch.Stretch.{Stretch}
use Rattle.pungi_lex.specs.Stretch.{right_of, side_by_side, places_along}

-- ---- columns

pub right_zero : (at : Pos) → right_of at 0 ≡ at
right_zero at = let e : at.col + 0 ≡ at.col = omega arith in (λ i. record { line = at.line; col = e i })

pub right_twice : (at : Pos) (m n : ℕ) → right_of (right_of at m) n ≡ right_of at (m + n)
right_twice at m n =
    let e : at.col + m + n ≡ at.col + (m + n) = omega arith in (λ i. record { line = at.line; col = e i })

pub right_suc : (at : Pos) (n : ℕ) → right_of (right_of at 1) n ≡ right_of at (suc n)
right_suc at n = let e : at.col + 1 + n ≡ at.col + suc n = omega arith in (λ i. record { line = at.line; col = e i })

-- ---- places side by side

pub length_side : (at : Pos) (n : ℕ) → length (side_by_side at n) ≡ n
length_side at zero = refl
length_side at (suc n) = ap suc (length_side (right_of at 1) n)

pub drop_side : (at : Pos) (m n : ℕ) (rest : List Pos) → m ≤ n
    → drop m (side_by_side at n ++ rest) ≡ side_by_side (right_of at m) (n - m) ++ rest
drop_side at zero n rest h =
    let e : n ≡ n - 0 = omega arith in ap (λ (a : Pos). side_by_side a n ++ rest) (sym (right_zero at))
    ∙ ap (λ (k : ℕ). side_by_side (right_of at 0) k ++ rest) e
drop_side at (suc m) zero rest h = absurd (omega arith)
drop_side at (suc m) (suc n) rest h =
    let e : n - m ≡ suc n - suc m = omega arith in
    drop_side (right_of at 1) m n rest (omega arith) ∙ ap (λ (a : Pos). side_by_side a (n - m) ++ rest)
    (right_suc at m) ∙ ap (λ (k : ℕ). side_by_side (right_of at (suc m)) k ++ rest) e

pub drop_past_side : (at : Pos) (m n : ℕ) (rest : List Pos) → n ≤ m
    → drop (m - n) rest ≡ drop m (side_by_side at n ++ rest)
drop_past_side at m zero rest h = let e : m - 0 ≡ m = omega arith in ap (λ (k : ℕ). drop k rest) e
drop_past_side at zero (suc n) rest h = absurd (omega arith)
drop_past_side at (suc m) (suc n) rest h =
    let e : suc m - suc n ≡ m - n = omega arith in ap (λ (k : ℕ). drop k rest) e
    ∙ drop_past_side (right_of at 1) m n rest (omega arith)

pub nothing_left : (at : Pos) (m n next : ℕ) (all : List Stretch) → n ≤ m → length all ≤ next
    → places_along (drop next all) ≡ drop m (side_by_side at n ++ places_along (drop next all))
nothing_left at m n next all h past =
    let none : drop next all ≡ [] = drop_of_length-le all past in
    let e : places_along (drop next all) ≡ drop (m - n) (places_along (drop next all)) = subst
    (λ (l : List Stretch). places_along l ≡ drop (m - n) (places_along l)) (sym none) (sym (drop_nil (m - n))) in
    e ∙ drop_past_side at m n (places_along (drop next all)) h
  where
    drop_nil : (k : ℕ) → drop k (places_along []) ≡ []
    drop_nil zero = refl
    drop_nil (suc k) = refl

pub along_one : (all : List Stretch) (s : Stretch)
    → places_along (all ++ s ∷ []) ≡ places_along all ++ side_by_side s.at s.count
along_one [] s = append-nil (side_by_side s.at s.count)
along_one (t ∷ all) s =
    ap (λ (l : List Pos). side_by_side t.at t.count ++ l) (along_one all s)
    ∙ sym (append_assoc (side_by_side t.at t.count) (places_along all) (side_by_side s.at s.count))

-- ---- the place of the next byte

pub next_place : (places more : List Pos) (done n : ℕ) (at : Pos) → drop done places ≡ side_by_side at n ++ more
    → (n ≡ 0 → side_by_side at n ++ more ≡ []) → done < length places → place_in places done ≡ at
next_place places more done zero at here end within =
    let none : drop done places ≡ [] = here ∙ end refl in
    absurd (omega (arith, ap length none, length-drop done places))
next_place places more done (suc n) at here end within =
    let d : Pos = record { line = 0; col = 0 } in
    ap (λ (k : ℕ). get_or places k d) (sym (add-zero done)) ∙ sym (get_or-drop done places 0 d)
    ∙ ap (λ (l : List Pos). get_or l 0 d) here
