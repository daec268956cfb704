-- The numbers that goals got as they were found stay theirs, and so do the edges that have them.
use Rattle.std.proofs.Common.{◌≡◌, ◌∙◌, ◌⊎◌, inl, inr, ℕ, ◌+◌, ◌<◌, ◌≤◌, Bool, true, false, true≢false, cond, Option}
use Rattle.std.proofs.Common.{Some}
use Rattle.std.proofs.Common.{None, IsSome, List, [], ◌∷◌, ◌++◌, length, map, slice_get, refl, sym, ap, arith}
use Rattle.std.specs.Prelude.{is_some, if◌then◌else◌}
use Rattle.std.specs.List.{All}
use Rattle.std.proofs.lemmas.List.{length_push}
use Rattle.std.proofs.lemmas.List.Elements.{All-nil, All-cons, All-head, All-tail}
use Rattle.std.proofs.lemmas.Option.{slice_get_within}
use Rattle.pungi_code.specs.declared.code.Code.{Code}
use Rattle.pungi_shape.specs.declared.found_edge.FoundEdge.{FoundEdge}
use Rattle.pungi_shape.specs.declared.found_edge.FoundGoal.{FoundGoal}
use Rattle.pungi_shape.specs.declared.found_edge.FoundGoal.TheVariants as found
use Rattle.pungi_shape.specs.declared.search.Found.{Found}
use Rattle.pungi_shape.specs.declared.shape.Shape.{Shape}
use Rattle.pungi_shape.specs.Edges.{Edge, Goal, to_place, to_exit}
use Rattle.pungi_shape.specs.Found.{IsNoted, AreNoted, IsVisited, goals_from, with_goal, with_goals, with_key}
use Rattle.pungi_shape.specs.FoundEdges.{AreEdgesOf, found_change, found_edge, found_edges, found_goal, number_from}
use Rattle.pungi_shape.specs.Keys.{CatalogState, is_key, key_of, place_of}
use Rattle.pungi_shape.specs.Places.{Place}
use Rattle.pungi_shape.specs.Programs.{all_edges}
use Rattle.pungi_shape.specs.Shapes.{numbers_of_shape}
use Rattle.pungi_shape.proofs.CatalogLemmas.{added, is_key-same, place_of-added}
use Rattle.pungi_shape.proofs.FoundLemmas.{one_thing, slice_get-left, with_goals-grows, with_goals-noted}
use Rattle.pungi_shape.proofs.MapEntries.{appended-at, last-at}

-- ---- one more thing

place-kept : {T : Type 0} (k j : List ℕ) (x : T) (n : CatalogState T) → place_of k n ≡ None → IsSome (place_of j n)
    → place_of j (added k x n) ≡ place_of j n
place-kept k j x n new there = place_of-added k j x n new ∙ at (is_key j k) refl
  where
    at : (b : Bool) → is_key j k ≡ b → cond b (Some (length n.items)) (place_of j n) ≡ place_of j n
    at true e =
        let none : place_of j n ≡ None = ap (λ (l : List ℕ). place_of l n) (is_key-same j k e) ∙ new in
        absurd (true≢false (sym there ∙ ap is_some none))
    at false e = refl

goal-kept : (h : Goal) (s : Found) (g : Goal) → IsNoted s g → found_goal (with_goal h s) g ≡ found_goal s g
goal-kept (to_place q) s (to_exit y) noted = refl
goal-kept (to_exit x) s (to_place r) noted = refl
goal-kept (to_place q) s (to_place r) noted = at (place_of (key_of q) s.places) refl
  where
    at : (o : Option ℕ) → place_of (key_of q) s.places ≡ o
        → found.Place (number_from (place_of (key_of r)
        (if is_some o then s.places else with_key (key_of q) q s.places)))
        ≡ found.Place (number_from (place_of (key_of r) s.places))
    at (Some i) e = refl
    at None e =
        ap (λ (o : Option ℕ). found.Place (number_from o)) (place-kept (key_of q) (key_of r) q s.places e noted)
goal-kept (to_exit x) s (to_exit y) noted = at (place_of (numbers_of_shape x) s.exits) refl
  where
    at : (o : Option ℕ) → place_of (numbers_of_shape x) s.exits ≡ o
        → found.Exit (number_from (place_of (numbers_of_shape y)
        (if is_some o then s.exits else with_key (numbers_of_shape x) x s.exits)))
        ≡ found.Exit (number_from (place_of (numbers_of_shape y) s.exits))
    at (Some i) e = refl
    at None e =
        ap (λ (o : Option ℕ). found.Exit (number_from o))
        (place-kept (numbers_of_shape x) (numbers_of_shape y) x s.exits e noted)

-- ---- several goals

goals-kept : (gs : List Goal) (s : Found) (g : Goal) → IsNoted s g → found_goal (with_goals gs s) g ≡ found_goal s g
goals-kept [] s g noted = refl
goals-kept (h ∷ gs) s g noted =
    goals-kept gs (with_goal h s) g ((with_goals-grows (h ∷ []) s).noted g noted) ∙ goal-kept h s g noted

module _ (others : ℕ → List Shape) where
  edge-same : (s u : Found) (e : Edge) → found_goal u e.goal ≡ found_goal s e.goal
      → found_edge others u e ≡ found_edge others s e
  edge-same s u e same =
      ap (λ (t : FoundGoal). (let d : FoundEdge =
      record { to = t; guard = e.guard; change = found_change others e.change; duties = e.duties } in d)) same

  -- the first edge has its number once its goal is noted
  pub first-kept : (e : Edge) (gs : List Goal) (s : Found)
      → found_edge others (with_goals (e.goal ∷ gs) s) e ≡ found_edge others (with_goal e.goal s) e
  first-kept e gs s =
      let noted = All-head (IsNoted (with_goal e.goal s)) e.goal [] (with_goals-noted (e.goal ∷ []) s) in
      edge-same (with_goal e.goal s) (with_goals (e.goal ∷ gs) s) e (goals-kept gs (with_goal e.goal s) e.goal noted)

  pub edges-kept : (gs : List Goal) (s : Found) (es : List Edge) → All (λ e. IsNoted s e.goal) es
      → found_edges others (with_goals gs s) es ≡ found_edges others s es
  edges-kept gs s [] all = refl
  edges-kept gs s (e ∷ es) all =
      let noted = All-head (λ (d : Edge). IsNoted s d.goal) e es all in
      ap (λ (d : FoundEdge). d ∷ found_edges others (with_goals gs s) es)
      (edge-same s (with_goals gs s) e (goals-kept gs s e.goal noted))
      ∙ ap (λ (ds : List FoundEdge). found_edge others s e ∷ ds)
      (edges-kept gs s es (All-tail (λ (d : Edge). IsNoted s d.goal) e es all))

  -- the edges whose goals were just noted keep their numbers
  pub noted-kept : (gs : List Goal) (s : Found) (es : List Edge)
      → found_edges others (with_goals gs (with_goals (map (λ e. e.goal) es) s)) es
      ≡ found_edges others (with_goals (map (λ e. e.goal) es) s) es
  noted-kept gs s es =
      let u = with_goals (map (λ (e : Edge). e.goal) es) s in
      edges-kept gs u es (goals-of u es (with_goals-noted (map (λ (e : Edge). e.goal) es) s))
    where
      goals-of : (u : Found) (ds : List Edge) → AreNoted u (map (λ (e : Edge). e.goal) ds)
          → All (λ (e : Edge). IsNoted u e.goal) ds
      goals-of u [] all = All-nil (λ (e : Edge). IsNoted u e.goal)
      goals-of u (d ∷ ds) all =
          let gs = map (λ (e : Edge). e.goal) ds in
          All-cons (λ (e : Edge). IsNoted u e.goal) d ds (All-head (IsNoted u) d.goal gs all)
          (goals-of u ds (All-tail (IsNoted u) d.goal gs all))

-- ---- one more place

pub no-edges : (code : Code) (others : ℕ → List Shape) (s : Found) → AreEdgesOf code others s [] 0
no-edges code others s = record { count = refl; edges = λ i q lt e. absurd (omega (arith, lt)) }

module _ (code : Code) (others : ℕ → List Shape) (k : ℕ) (q : Place) (s : Found) (ls : List (List FoundEdge))
    (h : AreEdgesOf code others s ls k) (visited : IsVisited code others s k)
    (there : slice_get s.places.items k ≡ Some q) where
  abbrev u : Found
  u = with_goals (goals_from code others q) s

  abbrev edges : Found → Place → List FoundEdge
  edges t r = found_edges others t (all_edges code others r)

  cases_of : (i : ℕ) → i < k + 1 → (i < k) ⊎ (i ≡ k)
  cases_of i lt = grind (arith, lt)

  before : (i : ℕ) (r : Place) → i ≤ k → slice_get u.places.items i ≡ Some r → slice_get s.places.items i ≡ Some r
  before i r le e =
      let grown = with_goals-grows (goals_from code others q) s in
      let within = slice_get_within s.places.items k q there in
      sym (slice_get-left s.places.items grown.rest i (omega (arith, within, le)))
      ∙ ap (λ z. slice_get z i) (sym grown.places) ∙ e

  old_or_new : (i : ℕ) (r : Place) → slice_get s.places.items i ≡ Some r → (i < k) ⊎ (i ≡ k)
      → slice_get (ls ++ edges u q ∷ []) i ≡ Some (edges u r)
  old_or_new i r e (inl lt) =
      appended-at ls (edges u q ∷ []) i (edges s r) (h.edges i r lt e)
      ∙ ap Some (sym (edges-kept others (goals_from code others q) s (all_edges code others r) (visited i r lt e)))
  old_or_new i r e (inr same) =
      let one : q ≡ r = one_thing q r (sym there ∙ ap (λ n. slice_get s.places.items n) (sym same) ∙ e) in
      ap (slice_get (ls ++ edges u q ∷ [])) (same ∙ sym h.count)
      ∙ last-at ls (edges u q) ∙ ap (λ (p : Place). Some (edges u p)) one

  pub more-edges : AreEdgesOf code others (with_goals (goals_from code others q) s)
      (ls ++ found_edges others (with_goals (goals_from code others q) s) (all_edges code others q) ∷ []) (k + 1)
  more-edges = record {
    count = (let long = length_push ls (edges u q) in let count = h.count in
        omega (arith, long, count));
    edges = λ i r lt e. old_or_new i r (before i r (omega (arith, lt)) e) (cases_of i lt);
  }
