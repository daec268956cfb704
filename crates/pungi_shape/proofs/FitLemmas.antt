-- Edges in order; and edges with numbers for their places, which fit the program.
--   IsIn ps xs g            a goal is among these places, these exit classes
use Rattle.std.proofs.Common.{◌≡◌, ◌∙◌, ℕ, ◌+◌, ◌<◌, ◌≤◌, Bool, true, false, cond, List, [], ◌∷◌, ◌++◌, length, map}
use Rattle.std.proofs.Common.{get_or, slice_get, Some, sym, ap, subst, arith, eqb, pos, ℤ}
use Rattle.std.specs.List.{All, AllByRecursion, IsAmong, IsDistinct}
use Rattle.std.specs.FinMap.{put}
use Rattle.std.specs.FinMap.Entries.{by_order}
use Rattle.std.specs.Ordering.{int_eq}
use Rattle.std.specs.declared.cmp.Ordering.{Ordering}
use Rattle.std.specs.declared.cmp.Ordering.TheVariants.{Less, Equal, Greater}
use Rattle.std.proofs.lemmas.List.{get_or-map, length-map}
use Rattle.std.proofs.lemmas.List.FromFn.{get_or-range_with_len, length-range_with_len}
use Rattle.std.proofs.lemmas.List.Elements.{All-append, All-cons, All-head, All-map, All-nil, All-tail}
use Rattle.std.proofs.lemmas.Option.{get_or_from_slice_get, slice_get_within}
use Rattle.pungi_domain.specs.Programs.{FitsAction, FitsEdge, IsTarget, width_to as width_to_target}
use Rattle.pungi_domain.specs.Vectors.{IsEquation, IsMatrixRow}
use Rattle.pungi_domain.specs.declared.affine_edge.AffineEdge.{AffineEdge}
use Rattle.pungi_domain.specs.declared.equation.Equation.{Equation}
use Rattle.pungi_code.specs.declared.code.Code.{Code}
use Rattle.pungi_shape.specs.declared.shape.Shape.{Shape}
use Rattle.pungi_shape.specs.Bounds.{HasWidth}
use Rattle.pungi_shape.specs.Edges.{Change, by_map, by_any, by_exit, Edge, Goal, to_place, to_exit}
use Rattle.pungi_shape.specs.Forms.{Form, factor_at, factors, factors_from}
use Rattle.pungi_shape.specs.Places.{Place, place_cmp, width_at}
use Rattle.pungi_shape.specs.Programs.{Rises, action_of, edge_cmp, edges_in_order, equation, equations, exit_cmp}
use Rattle.pungi_shape.specs.Programs.{program_of, put_edges, target_of, with_numbers}
use Rattle.pungi_shape.specs.Reached.{FitsChange, FitsFrom, width_to}
use Rattle.pungi_shape.specs.Shapes.{width_of}
use Rattle.pungi_shape.proofs.RiseLemmas.{exit-total, place-total, rises-number}

-- ---- the rows of a matrix

abbrev names : List (ℕ × ℤ) → List ℕ
names row = map (λ p. p.0) row

later : (n k : ℕ) (f : Form) → n < k → AllByRecursion (λ y. eqb n y ≡ false) (names (factors_from k f))
later n k [] lt = tt
later n k (c ∷ f) lt = at (int_eq c (pos 0)) (later n (k + 1) f (omega (arith, lt)))
  where
    at : (b : Bool) → AllByRecursion (λ y. eqb n y ≡ false) (names (factors_from (k + 1) f))
        → AllByRecursion (λ y. eqb n y ≡ false) (names (cond b [] ((k, c) ∷ []) ++ factors_from (k + 1) f))
    at true rest = rest
    at false rest = (grind (arith, lt), rest)

once : (k : ℕ) (f : Form) → IsDistinct eqb (names (factors_from k f))
unfolding IsDistinct
once k [] = tt
once k (c ∷ f) = at (int_eq c (pos 0)) (once (k + 1) f)
  where
    at : (b : Bool) → IsDistinct eqb (names (factors_from (k + 1) f))
        → IsDistinct eqb (names (cond b [] ((k, c) ∷ []) ++ factors_from (k + 1) f))
    at true rest = rest
    at false rest = (later k (k + 1) f (omega arith), rest)

within : (w k : ℕ) (f : Form) → k + length f ≤ w → All (λ (p : ℕ × ℤ). p.0 < w) (factors_from k f)
within w k [] le = All-nil (λ (p : ℕ × ℤ). p.0 < w)
within w k (c ∷ f) le =
    All-append (λ (p : ℕ × ℤ). p.0 < w) (factor_at k c) (factors_from (k + 1) f) (at (int_eq c (pos 0)))
    (within w (k + 1) f (omega (arith, le)))
  where
    at : (b : Bool) → All (λ (p : ℕ × ℤ). p.0 < w) (cond b [] ((k, c) ∷ []))
    at true = All-nil (λ (p : ℕ × ℤ). p.0 < w)
    at false = All-cons (λ (p : ℕ × ℤ). p.0 < w) (k, c) [] (omega (arith, le)) (All-nil (λ (p : ℕ × ℤ). p.0 < w))

matrix-row : (w : ℕ) (f : Form) → HasWidth w f → IsMatrixRow w (factors f)
matrix-row w f wide = record { within = within w 0 f (omega (arith, wide)); once = once 0 f }

-- ---- the parts of an edge

equations-fit : (w : ℕ) (fs : List Form) → All (IsEquation w) fs
    → All (λ (g : Equation). IsEquation w g.coefficients) (equations fs)
equations-fit w fs all = All-map (λ (g : Equation). IsEquation w g.coefficients) equation fs all

action-fits : (others : ℕ → List Shape) (w z : ℕ) (c : Change) → FitsChange w z c
    → FitsAction w z (action_of others c)
action-fits others w z (by_map rows) fits = (
  length-map rows factors ∙ fits.0,
  All-map (IsMatrixRow w) factors rows
      (λ i d lt. matrix-row w (get_or rows i d) (fits.1 i d lt)),
)
action-fits others w z (by_any k) fits = fits
action-fits others w z (by_exit f x onto) fits =
    let wide = fits.0 in
    let long = ap length fits.1 ∙ length-range_with_len w (width_of x) in (
      omega (arith, wide),
      omega (arith, wide, long),
      λ i lt. (
          let at = get_or-range_with_len w (width_of x) i 0 (omega (arith, wide, lt)) in
          ap (λ (ns : List ℕ). get_or ns i 0) fits.1 ∙ at
          ),
    )

-- ---- edges in order

put-all : (P : AffineEdge → Type 0) (e : AffineEdge) (es : List (AffineEdge × Unit {0})) → P e
    → All P (map (λ x. x.0) es) → All P (map (λ x. x.0) (put edge_cmp e (tt {0}) es))
put-all P e [] p all = All-cons P e [] p (All-nil P)
put-all P e (d ∷ es) p all =
    at (edge_cmp e d.0) (put-all P e es p (All-tail P d.0 (map (λ x. x.0) es) all))
  where
    at : (o : Ordering) → All P (map (λ (x : AffineEdge × Unit {0}). x.0) (put edge_cmp e (tt {0}) es))
        → All P (map (λ (x : AffineEdge × Unit {0}). x.0)
        (by_order o ((e, tt {0}) ∷ d ∷ es) ((d.0, tt {0}) ∷ es) (d ∷ put edge_cmp e (tt {0}) es)))
    at Less rest = All-cons P e (d.0 ∷ map (λ x. x.0) es) p all
    at Equal rest = all
    at Greater rest =
        All-cons P d.0 (map (λ x. x.0) (put edge_cmp e (tt {0}) es)) (All-head P d.0 (map (λ x. x.0) es) all) rest

-- what holds of all edges holds of them in order
pub edges_in_order-all : (P : AffineEdge → Type 0) (es : List AffineEdge) → All P es → All P (edges_in_order es)
edges_in_order-all P [] all = All-nil P
edges_in_order-all P (e ∷ es) all =
    put-all P e (put_edges es) (All-head P e es all) (edges_in_order-all P es (All-tail P e es all))

-- ---- an edge of a place

abbrev pub IsIn : List Place → List Shape → Goal → Type 0
IsIn ps xs (to_place q) = IsAmong ps q
IsIn ps xs (to_exit x) = IsAmong xs x

module _ (code : Code) (others : ℕ → List Shape) (ps : List Place) (xs : List Shape) (rise : Rises place_cmp ps)
    (exits : Rises exit_cmp xs) where
  target-is : (g : Goal) → IsIn ps xs g → IsTarget (program_of code others ps xs) (target_of ps xs g)
  target-is (to_place q) there =
      let n = rises-number place_cmp place-total ps rise q there in
      let lt = there.1.0 in
      let long = length-map ps width_at in
      omega (arith, n, lt, long)
  target-is (to_exit x) there =
      let n = rises-number exit_cmp exit-total xs exits x there in
      let lt = there.1.0 in
      let long = length-map xs width_of in
      omega (arith, n, lt, long)

  target-width : (g : Goal) → IsIn ps xs g
      → width_to_target (program_of code others ps xs) (target_of ps xs g) ≡ width_to g
  target-width (to_place q) there =
      ap (λ k. get_or (map width_at ps) k 0) (rises-number place_cmp place-total ps rise q there)
      ∙ get_or-map width_at ps there.0 q 0 there.1.0 ∙ ap width_at (sym there.1.1)
  target-width (to_exit x) there =
      ap (λ k. get_or (map width_of xs) k 0) (rises-number exit_cmp exit-total xs exits x there)
      ∙ get_or-map width_of xs there.0 x 0 there.1.0 ∙ ap width_of (sym there.1.1)

  pub edge-fits : (k : ℕ) (q : Place) → slice_get ps k ≡ Some q → (e : Edge) → IsIn ps xs e.goal
      → FitsFrom (width_at q) e
      → FitsEdge (program_of code others ps xs) (with_numbers ps xs others k e)
  edge-fits k q at e there fits =
      let lt = slice_get_within ps k q at in
      let long = length-map ps width_at in
      let p = program_of code others ps xs in
      let to = target_of ps xs e.goal in
      let here : width_at q ≡ get_or (map width_at ps) k 0 =
      ap width_at (sym (get_or_from_slice_get ps k q q at)) ∙ sym (get_or-map width_at ps k q 0 lt) in
      record {
        from = omega (arith, lt, long);
        to = target-is e.goal there;
        guard = subst (λ w. All (λ (g : Equation). IsEquation w g.coefficients) (equations e.guard)) here
            (equations-fit (width_at q) e.guard fits.guard);
        action = subst (λ w. FitsAction w (width_to_target p to) (action_of others e.change)) here
            (subst (λ z. FitsAction (width_at q) z (action_of others e.change)) (sym (target-width e.goal there))
            (action-fits others (width_at q) (width_to e.goal) e.change fits.change));
        duties = subst (λ w. All (λ (g : Equation). IsEquation w g.coefficients) (equations e.duties)) here
            (equations-fit (width_at q) e.duties fits.duties);
      }
