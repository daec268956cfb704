-- Forms that are coordinates, and the duties at an exit.
use Rattle.std.proofs.Common.{◌≡◌, ◌∙◌, ℕ, ◌+◌, ◌<◌, ℤ, pos, Bool, true, false, [], ◌∷◌, ◌++◌, length, map}
use Rattle.std.proofs.Common.{get_or, sym, ap, subst, refl, arith, lit<, cond}
use Rattle.std.proofs.lemmas.Int.{ints}
use Rattle.std.proofs.lemmas.List.{map-append, map-id}
use Rattle.std.proofs.lemmas.List.Elements.{All-map, filter-append}
use Rattle.std.proofs.lemmas.List.FromFn.{map-range_with_len_more}
use Rattle.std.specs.List.{All, filter, range_with_len}
use Rattle.pungi_code.specs.declared.code.Code.{Code}
use Rattle.pungi_domain.specs.Vectors.{IsEquation}
use Rattle.pungi_shape.specs.Bounds.{HasWidth}
use Rattle.pungi_shape.specs.Edges.{units, number_due, exit_duty}
use Rattle.pungi_shape.specs.Forms.{unit, plus, constant, IsFactor, IsStorable}
use Rattle.pungi_shape.specs.Scenes.{after_entry}
use Rattle.pungi_shape.specs.Shapes.{width_of}
use Rattle.pungi_shape.specs.declared.shape.Shape.{Shape}
use Rattle.pungi_shape.proofs.FormBounds.{HasParts, length-unit, length-plus, constant-width, constant-parts}
use Rattle.pungi_shape.proofs.FormBounds.{plus-parts}
use Rattle.pungi_shape.proofs.FormBounds.{coordinate-parts, parts-storable, parts-equation}
use Rattle.pungi_shape.proofs.SceneLemmas.{unit-coordinate}

pub units-widths : (w : ℕ) → All (HasWidth w) (units w)
units-widths w = All-map (HasWidth w) (unit w) (range_with_len 0 w) (λ i d lt. length-unit w (get_or (range_with_len 0
    w) i d))

-- ---- a coordinate and a number

pub same-widths : (w k : ℕ) (n : ℤ) → length (unit w k) ≡ length (constant w n)
same-widths w k n = length-unit w k ∙ sym (constant-width w n)

sum-width : (w k : ℕ) (n : ℤ) → HasWidth w (plus (unit w k) (constant w n))
sum-width w k n = length-plus (unit w k) (constant w n) (same-widths w k n) ∙ length-unit w k

sum-parts : (w k : ℕ) (n : ℤ) → 0 < k → HasParts n 1 (plus (unit w k) (constant w n))
sum-parts w k n lt =
    subst (λ z. HasParts z 1 (plus (unit w k) (constant w n))) (omega (arith, ints))
    (plus-parts (pos 0) n 1 0 (unit w k) (constant w n) (same-widths w k n)
    (coordinate-parts (unit w k) (unit-coordinate w k lt)) (constant-parts w n))

pub sum-storable : (w k : ℕ) (n : ℤ) → 0 < k → IsFactor n → IsStorable (plus (unit w k) (constant w n))
sum-storable w k n lt is =
    parts-storable n 1 (plus (unit w k) (constant w n)) (sum-parts w k n lt) is (lit< tt)

-- ---- duties

pub duty-equation : (code : Code) (s : Shape) (t : ℕ) → IsEquation (width_of s) (exit_duty code s t)
duty-equation code s t =
    let w = width_of s in
    let k = after_entry s + t in
    let n = number_due code s t in
    parts-equation w n 1 (plus (unit w k) (constant w n)) (sum-width w k n) (sum-parts w k n (omega arith))
    (omega arith)

range-more : (n : ℕ) → range_with_len 0 (n + 1) ≡ range_with_len 0 n ++ n ∷ []
range-more n =
    sym (map-id (range_with_len 0 (n + 1))) ∙ map-range_with_len_more (λ i. i) 0 n n (omega arith)
    ∙ ap (λ l. l ++ n ∷ []) (map-id (range_with_len 0 n))

-- one more number is kept, or it isn't
pub kept-more : {X : Type 0} (f : ℕ → X) (p : ℕ → Bool) (n : ℕ) (b : Bool) → p n ≡ b
    → map f (filter p (range_with_len 0 (n + 1)))
    ≡ map f (filter p (range_with_len 0 n)) ++ cond b (f n ∷ []) []
kept-more f p n b e =
    let ns = filter p (range_with_len 0 n) in
    ap (λ l. map f (filter p l)) (range-more n) ∙ ap (map f) (filter-append p (range_with_len 0 n) (n ∷ []))
    ∙ map-append f ns (filter p (n ∷ [])) ∙ ap (λ c. map f ns ++ map f (cond c (n ∷ []) [])) e
    ∙ ap (λ l. map f ns ++ l) (by b)
  where
    by : (c : Bool) → map f (cond c (n ∷ []) []) ≡ cond c (f n ∷ []) []
    by true = refl
    by false = refl
