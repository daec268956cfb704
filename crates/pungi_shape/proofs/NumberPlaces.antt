-- Places and exit classes that are found have their numbers among the ranks; edges in order.
use Rattle.std.proofs.Common.{◌≡◌, ◌∙◌, ℕ, zero, suc, ◌+◌, ◌<◌, Bool, cond, not, List, [], ◌∷◌, length, map, get_or}
use Rattle.std.proofs.Common.{slice_get, Some, slice_index_or, refl, sym, ap, subst, arith}
use Rattle.std.specs.List.{All, IsAmong, position_or_len}
use Rattle.std.specs.FinMap.{put}
use Rattle.std.specs.Ordering.{is_eq}
use Rattle.std.proofs.lemmas.List.Elements.{All-head, All-tail}
use Rattle.pungi_domain.specs.declared.affine_edge.AffineEdge.{AffineEdge}
use Rattle.pungi_shape.specs.declared.programs.Ranked.{Ranked}
use Rattle.pungi_shape.specs.declared.search.Found.{Found}
use Rattle.pungi_shape.specs.declared.shape.Shape.{Shape}
use Rattle.pungi_shape.specs.EdgeOrder.{alone, put_edge}
use Rattle.pungi_shape.specs.Keys.{is_key, key_of, place_of}
use Rattle.pungi_shape.specs.Places.{Place, is_place}
use Rattle.pungi_shape.specs.Programs.{edge_cmp, edges_in_order, exit_number, place_number, put_edges}
use Rattle.pungi_shape.specs.Ranks.{AreNumbers, exits_in, places_in}
use Rattle.pungi_shape.specs.Shapes.{numbers_of_shape}
use Rattle.pungi_shape.proofs.CatalogLemmas.{number-place}
use Rattle.pungi_shape.proofs.KeyLemmas.{place_cmp-keys}

-- ---- numbers

abbrev pub IsNumberAt : List ℕ → ℕ → ℕ → Type 0
IsNumberAt ranks i n = slice_get ranks i ≡ Some n

agree : {X : Type 0} (p r : X → Bool) (xs : List X) → All (λ x. p x ≡ r x) xs
    → position_or_len p xs ≡ position_or_len r xs
agree p r [] all = refl
agree p r (x ∷ xs) all =
    ap (λ (b : Bool). cond (not b) (1 + position_or_len p xs) 0) (All-head (λ x. p x ≡ r x) x xs all)
    ∙ ap (λ (n : ℕ). cond (not (r x)) (1 + n) 0) (agree p r xs (All-tail (λ x. p x ≡ r x) x xs all))

pub among_slice_get : {X : Type 0} (xs : List X) (x : X) (i : ℕ) → i < length xs → x ≡ slice_index_or xs i x
    → slice_get xs i ≡ Some x
among_slice_get [] x i lt e = absurd (omega (arith, lt))
among_slice_get (y ∷ ys) x zero lt e = ap Some (sym e)
among_slice_get (y ∷ ys) x (suc i) lt e = among_slice_get ys x i (omega (arith, lt)) e

-- a place that is there has its number among the ranks
pub place-number : (s : Found) (pr er : Ranked) → AreNumbers s pr er → (q : Place) → IsAmong s.places.items q
    → (i : ℕ) × ((place_of (key_of q) s.places ≡ Some i) × IsNumberAt pr.ranks.items i (place_number (places_in s) q))
place-number s pr er h q there =
    let j = there.0 in
    let at : slice_get s.places.items j ≡ Some q = among_slice_get s.places.items q j there.1.0 there.1.1 in
    let named = h.place_catalog.named j q at in
    let number = number-place key_of s.places h.place_catalog (key_of q) j named in
    let same = agree (is_place q) (λ y. is_key (key_of q) (key_of y)) (places_in s)
    (λ i d lt. ap is_eq (place_cmp-keys q (get_or (places_in s) i d))) in
    (j, (named, subst (λ n. IsNumberAt pr.ranks.items j n) (sym same) (h.places.ranks _ j number)))

pub exit-number : (s : Found) (pr er : Ranked) → AreNumbers s pr er → (x : Shape) → IsAmong s.exits.items x
    → (i : ℕ) × ((place_of (numbers_of_shape x) s.exits ≡ Some i)
    × IsNumberAt er.ranks.items i (exit_number (exits_in s) x))
exit-number s pr er h x there =
    let j = there.0 in
    let at : slice_get s.exits.items j ≡ Some x = among_slice_get s.exits.items x j there.1.0 there.1.1 in
    let named = h.exit_catalog.named j x at in
    let number = number-place numbers_of_shape s.exits h.exit_catalog (numbers_of_shape x) j named in
    (j, (named, h.exits.ranks _ j number))

-- ---- edges in order

alone-first : (es : List (AffineEdge × Unit {0})) → map alone (map (λ e. e.0) es) ≡ es
alone-first [] = refl
alone-first (e ∷ es) = ap (λ l. e ∷ l) (alone-first es)

-- one more in front
pub put_edge-order : (e : AffineEdge) (es : List AffineEdge) → put_edge e (edges_in_order es) ≡ edges_in_order (e ∷ es)
put_edge-order e es =
    ap (λ (l : List (AffineEdge × Unit {0})). map (λ x. x.0) (put edge_cmp e (tt {0}) l)) (alone-first (put_edges es))
