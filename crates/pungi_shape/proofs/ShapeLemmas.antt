-- Lists that compare as equal are one, and rows that are those of all coordinates.
use Rattle.std.proofs.Common.{◌≡◌, ◌∙◌, ℕ, ◌≤◌, ◌<◌, Bool, true, false, List, [], ◌∷◌, length, get_or, refl, ap}
use Rattle.std.proofs.Common.{sym, arith}
use Rattle.std.specs.Ordering.{int_cmp, is_eq, ordering_then}
use Rattle.std.specs.Cmp.Lexicographic.{slice_cmp}
use Rattle.std.specs.declared.cmp.Ordering.{Ordering}
use Rattle.std.specs.declared.cmp.Ordering.TheVariants.{Less, Equal, Greater}
use Rattle.std.proofs.lemmas.Cmp.{tied_itself, int_cmp_total}
use Rattle.std.proofs.lemmas.Map.Lookups.{exact_signed}
use Rattle.std.proofs.lemmas.List.{ext_get_or}
use Rattle.std.proofs.lemmas.List.FromFn.{get_or-map-range_with_len, length-map-range_with_len}
use Rattle.std.specs.Prelude.{◌^◌, ◌&&◌}
use Rattle.pungi_code.specs.declared.code.Code.{Code}
use Rattle.pungi_shape.specs.declared.point.Point.{Point}
use Rattle.pungi_shape.specs.declared.shape.Shape.{Shape}
use Rattle.pungi_shape.specs.Arrivals.{Arrival, arrive}
use Rattle.pungi_shape.specs.Bounds.{AreTokens, IsScene, IsShape}
use Rattle.pungi_shape.specs.Edges.{units, changes_nothing, is_none_of}
use Rattle.pungi_shape.specs.Keys.{is_key}
use Rattle.pungi_shape.specs.Reached.{IsArrival}
use Rattle.pungi_shape.specs.Scenes.{Scene}
use Rattle.pungi_shape.specs.Shapes.{numbers_of_shape, width_of}
use Rattle.pungi_shape.proofs.ArrivalLemmas.{arrive-shape, arrive-rows, arrive-widths}
use Rattle.pungi_shape.specs.Forms.{Form, unit}

abbrev pub IsExact : {K : Type 0} → (K → K → Ordering) → Type 0
IsExact {K} R = (x y : K) → R x y ≡ Equal → x ≡ y

then_equal : (o p : Ordering) → ordering_then o p ≡ Equal → (o ≡ Equal) × (p ≡ Equal)
then_equal Less p e = absurd (cc)
then_equal Equal p e = (refl, e)
then_equal Greater p e = absurd (cc)

pub exact_lists : {K : Type 0} (R : K → K → Ordering) → IsExact R → IsExact (slice_cmp R)
exact_lists R exact [] [] e = refl
exact_lists R exact [] (y ∷ ys) e = absurd (cc)
exact_lists R exact (x ∷ xs) [] e = absurd (cc)
exact_lists R exact (x ∷ xs) (y ∷ ys) e =
    let both = then_equal (R x y) (slice_cmp R xs ys) e in
    ap (λ z. z ∷ xs) (exact x y both.0) ∙ ap (λ zs. y ∷ zs) (exact_lists R exact xs ys both.1)

abbrev pub Ties : {K : Type 0} → (K → K → Ordering) → Type 0
Ties {K} R = (x : K) → R x x ≡ Equal

then_ties : (o p : Ordering) → o ≡ Equal → p ≡ Equal → ordering_then o p ≡ Equal
then_ties o p e f = ap (λ z. ordering_then z p) e ∙ f

pub ties_lists : {K : Type 0} (R : K → K → Ordering) → Ties R → Ties (slice_cmp R)
ties_lists R ties [] = refl
ties_lists R ties (x ∷ xs) = then_ties (R x x) (slice_cmp R xs xs) (ties x) (ties_lists R ties xs)

pub equal_of : (o : Ordering) → is_eq o ≡ true → o ≡ Equal
equal_of Less e = absurd (cc)
equal_of Equal e = refl
equal_of Greater e = absurd (cc)

-- ---- rows that are all coordinates

abbrev pub rows_cmp : List Form → List Form → Ordering
rows_cmp fs gs = slice_cmp (slice_cmp int_cmp) fs gs

pub same_rows : (fs gs : List Form) → fs ≡ gs → is_eq (rows_cmp fs gs) ≡ true
same_rows fs gs e =
    ap (λ hs. is_eq (rows_cmp fs hs)) (sym e) ∙ ap is_eq (ties_lists (slice_cmp int_cmp) (ties_lists int_cmp
    (tied_itself int_cmp_total)) fs)

pub rows_one : (fs gs : List Form) → is_eq (rows_cmp fs gs) ≡ true → fs ≡ gs
rows_one fs gs e =
    exact_lists (slice_cmp int_cmp) (exact_lists int_cmp exact_signed) fs gs (equal_of (rows_cmp fs gs) e)

by_rows : (fs gs : List Form) (b : Bool) → is_eq (rows_cmp fs gs) ≡ b → (fs ≡ gs → ⊥) → b ≡ false
by_rows fs gs true e differ = absurd (differ (rows_one fs gs e))
by_rows fs gs false e differ = refl

pub other_rows : (fs gs : List Form) → (fs ≡ gs → ⊥) → is_eq (rows_cmp fs gs) ≡ false
other_rows fs gs differ = by_rows fs gs (is_eq (rows_cmp fs gs)) refl differ

pub unit_at : (w i : ℕ) → i < w → get_or (units w) i [] ≡ unit w i
unit_at w i lt = get_or-map-range_with_len (unit w) 0 w i i [] lt (omega arith)

pub length-units : (w : ℕ) → length (units w) ≡ w
length-units w = length-map-range_with_len (unit w) 0 w

pub all_units : (w : ℕ) (rows : List Form) → length rows ≡ w → ((i : ℕ) → i < w → get_or rows i [] ≡ unit w i)
    → is_eq (rows_cmp rows (units w)) ≡ true
all_units w rows e each =
    same_rows rows (units w) (ext_get_or [] rows (units w) (e ∙ sym (length-units w))
    (λ i lt. each i (omega (arith, lt, e)) ∙ sym (unit_at w i (omega (arith, lt, e)))))

pub wrong_length : (w : ℕ) (rows : List Form) → (length rows ≡ w → ⊥) → is_eq (rows_cmp rows (units w)) ≡ false
wrong_length w rows differ = other_rows rows (units w) (λ e. differ (ap length e ∙ length-units w))

pub wrong_row : (w i : ℕ) (rows : List Form) → i < w → (get_or rows i [] ≡ unit w i → ⊥)
    → is_eq (rows_cmp rows (units w)) ≡ false
wrong_row w i rows lt differ = other_rows rows (units w) (λ e. differ (ap (λ fs. get_or fs i []) e ∙ unit_at w i lt))

pub counted_units : (w : ℕ) (rows : List Form) → is_eq (rows_cmp rows (units w)) ≡ true → length rows ≡ w
counted_units w rows e = ap length (rows_one rows (units w) e) ∙ length-units w

-- ---- tokens are few where coordinates are

pub tokens-few : (s : Shape) → IsShape s → width_of s ≤ 256 → AreTokens (2 ^ 31) s
tokens-few s h narrow = λ i d lt. (let a = h.tokens i d lt in omega (arith, a, h.made, narrow))

-- ---- arrivals

pub arrives : (code : Code) (p : Point) (s : Scene) (w : ℕ) → IsScene s → s.width ≡ w → IsArrival w (arrive code p s)
arrives code p s w h e = record {
  shape = arrive-shape code p s h;
  rows = arrive-rows code p s h;
  widths = rw (sym e) (arrive-widths code p s h);
}

-- ---- what changes nothing

pub nothing_dropped : (s : Shape) (a : Arrival) (same : Bool) → a.drops ≡ []
    → is_eq (slice_cmp (slice_cmp int_cmp) a.rows (units (width_of s))) ≡ true
    → same ≡ is_key (numbers_of_shape a.shape) (numbers_of_shape s) → same ≡ changes_nothing s a
nothing_dropped s a same drops rows e =
    rw (drops, rows) (e ∙ sym (and_true (is_key (numbers_of_shape a.shape) (numbers_of_shape s))))
  where
    and_true : (b : Bool) → (b && true) ≡ b
    and_true true = refl
    and_true false = refl

never : (b c : Bool) → (b && (false && c)) ≡ false
never true c = refl
never false c = refl

never_last : (b c : Bool) → (b && (c && false)) ≡ false
never_last true true = refl
never_last true false = refl
never_last false c = refl

pub other_vectors : (s : Shape) (a : Arrival)
    → is_eq (slice_cmp (slice_cmp int_cmp) a.rows (units (width_of s))) ≡ false → false ≡ changes_nothing s a
other_vectors s a rows =
    rw rows (sym (never (is_key (numbers_of_shape a.shape) (numbers_of_shape s)) (is_none_of a.drops)))

none_of : (fs : List Form) → (length fs ≡ 0 → ⊥) → is_none_of fs ≡ false
none_of [] more = absurd (more refl)
none_of (f ∷ fs) more = refl

pub some_dropped : (s : Shape) (a : Arrival) → (length a.drops ≡ 0 → ⊥) → false ≡ changes_nothing s a
some_dropped s a more =
    rw (none_of a.drops more) (sym (never_last (is_key (numbers_of_shape a.shape) (numbers_of_shape s))
    (is_eq (slice_cmp (slice_cmp int_cmp) a.rows (units (width_of s))))))
