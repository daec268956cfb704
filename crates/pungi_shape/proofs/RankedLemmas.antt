-- Edges with ranks are those with the numbers of what is in order.
use Rattle.std.proofs.Common.{◌≡◌, ◌∙◌, ℕ, zero, suc, ◌+◌, ◌<◌, List, [], ◌∷◌, ◌++◌, length, map, slice_get}
use Rattle.std.proofs.Common.{Some, refl, sym, ap, subst, arith}
use Rattle.std.specs.List.{All, enumerate_from, flat_map}
use Rattle.std.proofs.lemmas.List.Elements.{All-head, All-nil, All-cons, All-tail}
use Rattle.std.proofs.lemmas.Option.{get_or_from_slice_get, slice_get_within}
use Rattle.pungi_code.specs.declared.code.Code.{Code}
use Rattle.pungi_domain.specs.declared.action.Action.{Action}
use Rattle.pungi_domain.specs.declared.affine_edge.AffineEdge.{AffineEdge}
use Rattle.pungi_domain.specs.declared.target.Target.{Target}
use Rattle.pungi_domain.specs.declared.target.Target.TheVariants as target
use Rattle.pungi_shape.specs.declared.found_edge.FoundEdge.{FoundEdge}
use Rattle.pungi_shape.specs.declared.programs.Ranked.{Ranked}
use Rattle.pungi_shape.specs.declared.search.Found.{Found}
use Rattle.pungi_shape.specs.declared.shape.Shape.{Shape}
use Rattle.pungi_shape.specs.Edges.{Change, by_map, by_any, by_exit, Edge, Goal, to_place, to_exit}
use Rattle.pungi_shape.specs.FoundEdges.{found_change, found_edge, found_edges, found_goal, number_from}
use Rattle.pungi_shape.specs.Keys.{key_of}
use Rattle.pungi_shape.specs.Places.{Place}
use Rattle.pungi_shape.specs.Programs.{action_of, all_edges, edges_in_order, edges_of, equations, exit_number}
use Rattle.pungi_shape.specs.Programs.{place_number, target_of}
use Rattle.pungi_shape.specs.RankedEdges.{CanAllBeRanked, IsRanked, action_by, list_at, rank_of, ranked_at}
use Rattle.pungi_shape.specs.RankedEdges.{ranked_edge, ranked_edges, ranked_goal}
use Rattle.pungi_shape.specs.Ranks.{AreListed, AreNumbers, CanBeLeft, IsOrder, IsThere, edges_at, exits_in}
use Rattle.pungi_shape.specs.Ranks.{number_edge, places_in}
use Rattle.pungi_shape.proofs.CatalogLemmas.{in_order-at, length-order, order-once, order-places}
use Rattle.pungi_shape.proofs.NumberPlaces.{exit-number, place-number}
use Rattle.pungi_shape.proofs.RankLemmas.{at-all, place-within, places-length}

-- ---- goals

same-action : (others : ℕ → List Shape) (c : Change) → action_by (found_change others c) ≡ action_of others c
same-action others (by_map rows) = refl
same-action others (by_any c) = refl
same-action others (by_exit f x onto) = refl

module _ (s : Found) (pr er : Ranked) (h : AreNumbers s pr er) where
  goal-ranked : (g : Goal) → IsThere s g → IsRanked pr er (found_goal s g)
  goal-ranked (to_place q) there =
      let n = place-number s pr er h q there in
      subst (λ k. k < length pr.ranks.items) (sym (ap number_from n.1.0))
      (slice_get_within pr.ranks.items n.0 (place_number (places_in s) q) n.1.1)
  goal-ranked (to_exit x) there =
      let n = exit-number s pr er h x there in
      subst (λ k. k < length er.ranks.items) (sym (ap number_from n.1.0))
      (slice_get_within er.ranks.items n.0 (exit_number (exits_in s) x) n.1.1)

  goal-target : (g : Goal) → IsThere s g
      → ranked_goal pr er (found_goal s g) ≡ target_of (places_in s) (exits_in s) g
  goal-target (to_place q) there =
      let n = place-number s pr er h q there in
      ap (λ k. target.Place (rank_of pr k)) (ap number_from n.1.0)
      ∙ ap target.Place (get_or_from_slice_get pr.ranks.items n.0 (place_number (places_in s) q) 0 n.1.1)
  goal-target (to_exit x) there =
      let n = exit-number s pr er h x there in
      ap (λ k. target.Exit (rank_of er k)) (ap number_from n.1.0)
      ∙ ap target.Exit (get_or_from_slice_get er.ranks.items n.0 (exit_number (exits_in s) x) 0 n.1.1)

  -- ---- edges

  module _ (others : ℕ → List Shape) where
    edge-ranked : (k : ℕ) (e : Edge) → IsThere s e.goal
        → ranked_edge pr er k (found_edge others s e) ≡ number_edge others s k e
    edge-ranked k e there =
        ap (λ (t : Target). (let d : AffineEdge = record {
          from = k;
          to = t;
          guard = equations e.guard;
          action = action_by (found_change others e.change);
          duties = equations e.duties;
        } in d)) (goal-target e.goal there)
        ∙ ap (λ (a : Action). (let d : AffineEdge = record {
          from = k;
          to = target_of (places_in s) (exits_in s) e.goal;
          guard = equations e.guard;
          action = a;
          duties = equations e.duties;
        } in d)) (same-action others e.change)

    edges-ranked : (k : ℕ) (es : List Edge) → All (λ e. IsThere s e.goal) es
        → map (ranked_edge pr er k) (found_edges others s es) ≡ map (number_edge others s k) es
    edges-ranked k [] all = refl
    edges-ranked k (e ∷ es) all =
        ap (λ (d : AffineEdge). d ∷ map (ranked_edge pr er k) (found_edges others s es))
        (edge-ranked k e (All-head (λ d. IsThere s d.goal) e es all))
        ∙ ap (λ (ds : List AffineEdge). number_edge others s k e ∷ ds)
        (edges-ranked k es (All-tail (λ d. IsThere s d.goal) e es all))

    can-rank : (es : List Edge) → All (λ e. IsThere s e.goal) es
        → All (λ d. IsRanked pr er d.to) (found_edges others s es)
    can-rank [] all = All-nil (λ (d : FoundEdge). IsRanked pr er d.to)
    can-rank (e ∷ es) all =
        All-cons (λ (d : FoundEdge). IsRanked pr er d.to) (found_edge others s e) (found_edges others s es)
        (goal-ranked e.goal (All-head (λ d. IsThere s d.goal) e es all))
        (can-rank es (All-tail (λ d. IsThere s d.goal) e es all))

-- ---- all places

-- lists of things that give the same, with any number
flat-same : {X Y Z : Type 0} (f : ℕ × X → List Z) (g : ℕ × Y → List Z) (n : ℕ) (xs : List X) (ys : List Y)
    → length xs ≡ length ys
    → ((i k : ℕ) (x : X) (y : Y) → slice_get xs i ≡ Some x → slice_get ys i ≡ Some y → f (k, x) ≡ g (k, y))
    → flat_map f (enumerate_from n xs) ≡ flat_map g (enumerate_from n ys)
flat-same f g n [] [] long same = refl
flat-same f g n [] (y ∷ ys) long same = absurd (omega (arith, long))
flat-same f g n (x ∷ xs) [] long same = absurd (omega (arith, long))
flat-same f g n (x ∷ xs) (y ∷ ys) long same =
    ap (λ l. l ++ flat_map f (enumerate_from (n + 1) xs)) (same 0 n x y refl refl)
    ∙ ap (λ l. g (n, y) ++ l)
    (flat-same f g (n + 1) xs ys (omega (arith, long)) (λ i k a b e d. same (suc i) k a b e d))

module _ (code : Code) (others : ℕ → List Shape) (s : Found) (pr er : Ranked) (h : AreNumbers s pr er)
    (ls : List (List FoundEdge)) (listed : AreListed code others s ls) where
  -- the edges of the place of a rank
  list-ranked : (k p : ℕ) (q : Place) → slice_get pr.order.items k ≡ Some p → slice_get (places_in s) k ≡ Some q
      → list_at ls p ≡ found_edges others s (all_edges code others q)
  list-ranked k p q e there =
      let order = subst (λ l. slice_get l k ≡ Some p) h.places.order e in
      let item = sym (in_order-at key_of s.places h.place_catalog k p order) ∙ there in
      get_or_from_slice_get ls p (found_edges others s (all_edges code others q)) []
      (listed.edges.edges p q (place-within s pr er h k p e) item)

  place-of : (k p : ℕ) → slice_get pr.order.items k ≡ Some p → (q : Place) × (slice_get (places_in s) k ≡ Some q)
  place-of k p e = someone (places_in s) k (
      let lt = slice_get_within pr.order.items k p e in
      let long = places-length s pr er h in
      omega (arith, lt, long)
      )
    where
      someone : {X : Type 0} (xs : List X) (i : ℕ) → i < length xs → (x : X) × (slice_get xs i ≡ Some x)
      someone [] i lt = absurd (omega (arith, lt))
      someone (x ∷ xs) zero lt = (x, refl)
      someone (x ∷ xs) (suc i) lt = someone xs i (omega (arith, lt))

  pub all-can-rank : CanAllBeRanked pr er ls
  all-can-rank = record {
    order = subst IsOrder (sym h.places.order) (record {
      places = order-places key_of s.places h.place_catalog;
      once = order-once key_of s.places h.place_catalog;
      few = (let n = length-order key_of s.places h.place_catalog in let le = h.few in omega (arith, n, le));
    });
    there = λ k p e. (let lt = place-within s pr er h k p e in let n = listed.edges.count in omega (arith, lt, n));
    edges = λ k p e. (
        let q = place-of k p e in
        subst (All (λ (d : FoundEdge). IsRanked pr er d.to)) (sym (list-ranked k p q.0 e q.1))
        (can-rank s pr er h others (all_edges code others q.0)
        (at-all (CanBeLeft code others s) (places_in s) k q.0 listed.leaves q.1))
        );
  }

  pub ranked-edges : ranked_edges pr er ls ≡ edges_of code others (places_in s) (exits_in s)
  ranked-edges =
      flat-same (λ (p : ℕ × ℕ). ranked_at pr er p.0 (list_at ls p.1))
      (λ (q : ℕ × Place). edges_at others s q.0 (all_edges code others q.1)) 0 pr.order.items (places_in s)
      (places-length s pr er h)
      (λ i k p q e there.
      ap (ranked_at pr er k) (list-ranked i p q e there)
      ∙ ap edges_in_order (edges-ranked s pr er h others k (all_edges code others q)
      (at-all (CanBeLeft code others s) (places_in s) i q listed.leaves there)))
