-- What is noted, one goal after the other, keeps what holds of what is found.
--   IsGoodGoal codes f code others g    a goal that is found, and fits the code
use Rattle.std.proofs.Common.{◌≡◌, ◌⊎◌, inl, inr, ◌∙◌, ℕ, zero, suc, ◌+◌, ◌<◌, ◌≤◌, ◌^◌, Bool, true, false, Option}
use Rattle.std.proofs.Common.{Some, None, List, [], ◌∷◌, ◌++◌, length, map, take, slice_get, refl, sym, ap, subst}
use Rattle.std.proofs.Common.{arith}
use Rattle.std.specs.Prelude.{◌||◌, ◌&&◌, is_none, is_some, get_or, nat_lt, nat_le, if◌then◌else◌}
use Rattle.std.specs.List.{All}
use Rattle.std.proofs.lemmas.Bool.{leb-false, leb-true, ltb-false, ltb-true}
use Rattle.std.proofs.lemmas.List.{length-append, length-map, get_or-map}
use Rattle.std.proofs.lemmas.Option.{slice_get_within}
use Rattle.std.proofs.lemmas.List.Elements.{All-nil, All-head, All-tail, All-map, All-push, All-take, All-weaker}
use Rattle.pungi_code.specs.declared.code.Code.{Code}
use Rattle.pungi_code.specs.declared.code.Codes.{Codes}
use Rattle.pungi_code.specs.Run.{code_at}
use Rattle.pungi_shape.specs.declared.holding.Holding.{Holding}
use Rattle.pungi_shape.specs.declared.search.Found.{Found}
use Rattle.pungi_shape.specs.declared.shape.Shape.{Shape}
use Rattle.pungi_shape.specs.Bounds.{AreTokens, IsCodeOfFile}
use Rattle.pungi_shape.specs.Classes.{AreClasses, IsOfCall, IsOfCalls}
use Rattle.pungi_shape.specs.Edges.{Edge, Goal, to_place, to_exit, edges_from}
use Rattle.pungi_shape.specs.FoundBy.{IsFoundBy, IsLargeBy, enters, goes}
use Rattle.pungi_shape.specs.Found.{CanBeNoted, CanBeVisited, IsNoted, AreNoted, IsFoundSoFar, IsVisited, IsWhole}
use Rattle.pungi_shape.specs.Found.{IsVisitOver, are_over, is_over, goals_from, with_goal, with_goals, entry_goal}
use Rattle.pungi_shape.specs.Found.{entry_goals, with_key}
use Rattle.pungi_shape.specs.Keys.{IsCatalog, in_order, key_of, place_of}
use Rattle.pungi_shape.specs.Limits.{most_coordinates, most_places}
use Rattle.pungi_shape.specs.Named.{statics_of}
use Rattle.pungi_shape.specs.Places.{Place, at_entry, entry_shape, entry_shapes, place_cmp, width_at, values_at_entry}
use Rattle.pungi_shape.specs.Programs.{Rises, all_edges, calls_from}
use Rattle.pungi_shape.specs.Reached.{IsExit, IsGoal, IsReached, IsWideGoal, names_at, names_in, shape_at}
use Rattle.pungi_shape.specs.Shapes.{exit_of, numbers_of_shape}
use Rattle.pungi_shape.proofs.CatalogLemmas.{empty-catalog, added-catalog, in_order-rises, in_order-all}
use Rattle.pungi_shape.proofs.CatalogLemmas.{length-in_order}
use Rattle.pungi_shape.proofs.AllEdgeLemmas.{all-called, all-goals}
use Rattle.pungi_shape.proofs.CallGoals.{all-inside}
use Rattle.pungi_shape.proofs.EntryLemmas.{entries-tokens}
use Rattle.pungi_shape.proofs.GoalLemmas.{IsInside, exits-grow, goal-noted}
use Rattle.pungi_shape.proofs.KeyLemmas.{place_cmp-keys}
use Rattle.pungi_shape.proofs.ReachedLemmas.{entries-reached}
use Rattle.pungi_shape.proofs.sound.Members.{among_left}
pub use Rattle.pungi_shape.proofs.FoundLemmas.{with_goals-append, are_over-append, are_over-more, are_over-now, neither}
pub use Rattle.pungi_shape.proofs.FoundLemmas.{one_thing, all_at, get_or_any, slice_get-left, with_goals-grows}
pub use Rattle.pungi_shape.proofs.FoundLemmas.{with_goals-noted}

pub record IsGoodGoal (codes : Codes) (f : ℕ) (code : Code) (others : ℕ → List Shape) (g : Goal) : Type 0 where
  pub goal : IsGoal code (statics_of codes f) g
  pub called : IsOfCalls code others g
  pub found : IsFoundBy codes others f g
  pub can : CanBeNoted g

-- ---- what holds of what is found

abbrev place_with : Option ℕ → Place → Found → Found
place_with o q s =
    record { places = if is_some o then s.places else with_key (key_of q) q s.places; exits = s.exits }

abbrev exit_with : Option ℕ → Shape → Found → Found
exit_with o x s =
    record { places = s.places; exits = if is_some o then s.exits else with_key (numbers_of_shape x) x s.exits }

module _ (codes : Codes) (f : ℕ) (code : Code) (others : ℕ → List Shape) (is_code : code_at codes f ≡ Some code)
    (well : IsCodeOfFile code) (classes : AreClasses codes others)
    (small : code.params + length (statics_of codes f) < 2 ^ 31) where
  found_place : (q : Place) (s : Found) → IsFoundSoFar codes f code others s
      → IsGoodGoal codes f code others (to_place q)
      → place_of (key_of q) s.places ≡ None → width_at q ≤ most_coordinates → length s.places.items < most_places
      → IsFoundSoFar codes f code others (record { places = with_key (key_of q) q s.places; exits = s.exits })
  found_place q s h good new narrow few = record {
    places = added-catalog key_of (key_of q) q s.places h.places refl new;
    exits = h.exits;
    reached = All-push (IsReached code) s.places.items q h.reached good.goal.0;
    called = All-push (IsOfCall code others) s.places.items q h.called good.called;
    names = All-push (λ r. names_at r ≡ statics_of codes f) s.places.items q h.names good.goal.1;
    narrow = All-push (λ r. width_at r ≤ most_coordinates) s.places.items q h.narrow narrow;
    tokens = All-push (λ r. AreTokens (2 ^ 31) (shape_at r)) s.places.items q h.tokens (good.can.1 narrow);
    few = (let e = length-append s.places.items (q ∷ []) in omega (arith, e, few));
    found = All-push (λ r. IsFoundBy codes others f (to_place r)) s.places.items q h.found good.found;
    classes = h.classes;
    class_names = h.class_names;
    left = h.left;
  }

  found_exit : (x : Shape) (s : Found) → IsFoundSoFar codes f code others s → IsGoodGoal codes f code others (to_exit x)
      → place_of (numbers_of_shape x) s.exits ≡ None
      → IsFoundSoFar codes f code others (record { places = s.places; exits = with_key (numbers_of_shape x) x s.exits })
  found_exit x s h good new = record {
    places = h.places;
    exits = added-catalog numbers_of_shape (numbers_of_shape x) x s.exits h.exits refl new;
    reached = h.reached;
    called = h.called;
    names = h.names;
    narrow = h.narrow;
    tokens = h.tokens;
    few = h.few;
    found = h.found;
    classes = All-push (IsExit code) s.exits.items x h.classes good.goal.0;
    class_names = All-push (λ r. names_in r ≡ statics_of codes f) s.exits.items x h.class_names good.goal.1;
    left = All-push (λ r. IsFoundBy codes others f (to_exit r)) s.exits.items x h.left good.found;
  }

  pub with_goal-found : (g : Goal) (s : Found) → IsFoundSoFar codes f code others s → IsGoodGoal codes f code others g
      → is_over g s ≡ false → IsFoundSoFar codes f code others (with_goal g s)
  with_goal-found (to_place q) s h good fits = at (place_of (key_of q) s.places) refl
    where
      at : (o : Option ℕ) → place_of (key_of q) s.places ≡ o → IsFoundSoFar codes f code others (place_with o q s)
      at (Some i) e = h
      at None e =
          let n = length s.places.items in
          let tests = neither (nat_lt most_coordinates (width_at q))
          (is_none (place_of (key_of q) s.places) && nat_le most_places n) fits in
          found_place q s h good e (ltb-false most_coordinates (width_at q) tests.0)
          (leb-false most_places n (subst (λ o. (is_none o && nat_le most_places n) ≡ false) e tests.1))
  with_goal-found (to_exit x) s h good fits = at (place_of (numbers_of_shape x) s.exits) refl
    where
      at : (o : Option ℕ) → place_of (numbers_of_shape x) s.exits ≡ o
          → IsFoundSoFar codes f code others (exit_with o x s)
      at (Some i) e = h
      at None e = found_exit x s h good e

  pub with_goals-found : (gs : List Goal) (s : Found) → IsFoundSoFar codes f code others s
      → All (IsGoodGoal codes f code others) gs → are_over gs s ≡ false
      → IsFoundSoFar codes f code others (with_goals gs s)
  with_goals-found [] s h good fits = h
  with_goals-found (g ∷ gs) s h good fits =
      let tests = neither (is_over g s) (are_over gs (with_goal g s)) fits in
      with_goals-found gs (with_goal g s)
      (with_goal-found g s h (All-head (IsGoodGoal codes f code others) g gs good) tests.0)
      (All-tail (IsGoodGoal codes f code others) g gs good) tests.1

  -- ---- programs that are too large

  wide-large : (q : Place) → IsFoundBy codes others f (to_place q) → most_coordinates < width_at q
      → IsLargeBy codes others f
  wide-large q found wide = inr (record { place = q; found = found; wide = wide })

  places-rise : (s : Found) (q : Place) → IsFoundSoFar codes f code others s
      → IsGoodGoal codes f code others (to_place q)
      → place_of (key_of q) s.places ≡ None → Rises place_cmp (in_order (with_key (key_of q) q s.places))
  places-rise s q h good new =
      let n = with_key (key_of q) q s.places in
      let catalog : IsCatalog key_of n = added-catalog key_of (key_of q) q s.places h.places refl new in
      let rise = in_order-rises key_of n catalog in
      λ i j d lt within.
      place_cmp-keys (get_or (in_order n) i d) (get_or (in_order n) j d) ∙ rise i j d lt within

  many-large : (q : Place) (s : Found) → IsFoundSoFar codes f code others s
      → IsGoodGoal codes f code others (to_place q)
      → place_of (key_of q) s.places ≡ None → most_places ≤ length s.places.items → IsLargeBy codes others f
  many-large q s h good new many =
      let n = with_key (key_of q) q s.places in
      let catalog : IsCatalog key_of n = added-catalog key_of (key_of q) q s.places h.places refl new in
      let all = All-push (λ r. IsFoundBy codes others f (to_place r)) s.places.items q h.found good.found in
      let size = length-in_order key_of n catalog in
      let more = length-append s.places.items (q ∷ []) in
      inl (record {
        places = in_order n;
        rise = places-rise s q h good new;
        found = in_order-all key_of n catalog (λ r. IsFoundBy codes others f (to_place r)) all;
        many = omega (arith, size, more, many);
      })

  -- a place that is too wide, or one too many, shows that the program is too large
  pub is_over-large : (g : Goal) (s : Found) → IsFoundSoFar codes f code others s → IsGoodGoal codes f code others g
      → is_over g s ≡ true → IsLargeBy codes others f
  is_over-large (to_exit x) s h good over = absurd (cc)
  is_over-large (to_place q) s h good over = at (nat_lt most_coordinates (width_at q)) refl
    where
      new : (o : Option ℕ) → place_of (key_of q) s.places ≡ o
          → (is_none o && nat_le most_places (length s.places.items)) ≡ true → IsLargeBy codes others f
      new (Some i) e t = absurd (cc)
      new None e t = many-large q s h good e (leb-true most_places (length s.places.items) t)

      at : (b : Bool) → nat_lt most_coordinates (width_at q) ≡ b → IsLargeBy codes others f
      at true e = wide-large q good.found (ltb-true most_coordinates (width_at q) e)
      at false e =
          new (place_of (key_of q) s.places) refl
          (subst (λ (b : Bool). (b || (is_none (place_of (key_of q) s.places)
          && nat_le most_places (length s.places.items))) ≡ true) e over)

  pub are_over-large : (gs : List Goal) (s : Found) → IsFoundSoFar codes f code others s
      → All (IsGoodGoal codes f code others) gs → are_over gs s ≡ true → IsLargeBy codes others f
  are_over-large [] s h good over = absurd (cc)
  are_over-large (g ∷ gs) s h good over =
      at (is_over g s) refl (λ e. are_over-large gs (with_goal g s)
      (with_goal-found g s h (All-head (IsGoodGoal codes f code others) g gs good) e)
      (All-tail (IsGoodGoal codes f code others) g gs good)
      (subst (λ (b : Bool). (b || are_over gs (with_goal g s)) ≡ true) e over))
    where
      at : (b : Bool) → is_over g s ≡ b → (is_over g s ≡ false → IsLargeBy codes others f) → IsLargeBy codes others f
      at true e rest = is_over-large g s h (All-head (IsGoodGoal codes f code others) g gs good) e
      at false e rest = rest e

  -- ---- the goals of entries and edges

  entries-all : (P : Goal → Type 0) → All (λ s. P (to_place (at_entry s))) (entry_shapes (statics_of codes f) code)
      → All P (entry_goals (statics_of codes f) code [] 0)
  entries-all P all =
      let ks = statics_of codes f in
      let vs = values_at_entry 0 (take code.params code.vars) in
      let long = length-map vs (entry_shape ks code) in
      All-map P (λ hs. entry_goal ks code hs) vs (λ i d lt.
      subst (λ s. P (to_place (at_entry s))) (get_or-map (entry_shape ks code) vs i d (entry_shape ks code d) lt)
      (all i (entry_shape ks code d) (omega (arith, long, lt))))

  shapes-can : All (λ s. CanBeNoted (to_place (at_entry s))) (entry_shapes (statics_of codes f) code)
  shapes-can =
      let ks = statics_of codes f in
      let reached = entries-reached code ks well in
      let tokens = entries-tokens code ks (2 ^ 31) well (omega (arith, small)) in
      λ i d lt. ((reached i d lt).0.shape, λ narrow. tokens i d lt)

  pub entries-good : All (IsGoodGoal codes f code others) (entry_goals (statics_of codes f) code [] 0)
  entries-good =
      let ks = statics_of codes f in
      let reached = entries-reached code ks well in
      entries-all (IsGoodGoal codes f code others) (λ i d lt. record {
        goal = reached i d lt;
        called = tt;
        found = enters code (get_or (entry_shapes ks code) i d) is_code
            (i, (lt, get_or_any (entry_shapes ks code) i d (get_or (entry_shapes ks code) i d) lt));
        can = shapes-can i d lt;
      })

  pub entries-can : All CanBeNoted (entry_goals (statics_of codes f) code [] 0)
  entries-can = entries-all CanBeNoted shapes-can

  -- what holds of a place that is found, and of where its edges lead
  edges-all : (k : ℕ) (q : Place) (s : Found) → IsFoundSoFar codes f code others s
      → slice_get s.places.items k ≡ Some q
      → All (λ (e : Edge). IsGoal code (names_at q) e.goal) (all_edges code others q)
  edges-all k q s h there =
      all-goals codes others classes code q well (all_at (IsReached code) s.places.items k q h.reached there)
      (all_at (λ r. width_at r ≤ most_coordinates) s.places.items k q h.narrow there)

  edge-can : (q : Place) → All (λ (e : Edge). IsGoal code (names_at q) e.goal) (all_edges code others q)
      → All (λ (e : Edge). CanBeNoted e.goal) (all_edges code others q)
  edge-can q h =
      λ i d lt. goal-noted code (names_at q) (exit_of (shape_at q)) (get_or (all_edges code others q) i d).goal
      (h i d lt) (all-inside code others q i d lt)

  pub edges-good : (k : ℕ) (q : Place) (s : Found) → IsFoundSoFar codes f code others s
      → slice_get s.places.items k ≡ Some q → All (IsGoodGoal codes f code others) (goals_from code others q)
  edges-good k q s h there =
      let es = all_edges code others q in
      let names = all_at (λ r. names_at r ≡ statics_of codes f) s.places.items k q h.names there in
      let found = all_at (λ r. IsFoundBy codes others f (to_place r)) s.places.items k q h.found there in
      let all = edges-all k q s h there in
      All-map (IsGoodGoal codes f code others) (λ (e : Edge). e.goal) es (λ i d lt. record {
        goal = subst (λ ks. IsGoal code ks (get_or es i d).goal) names (all i d lt);
        called = all-called codes others classes code q i d lt;
        found = goes code q (get_or es i d).goal is_code found (record {
          edge = get_or es i d;
          is_there = (i, (lt, get_or_any es i d (get_or es i d) lt));
          goal = refl;
        });
        can = edge-can q all i d lt;
      })

  goals-inside : (q : Place) → All (IsInside (exit_of (shape_at q))) (goals_from code others q)
  goals-inside q =
      All-map (IsInside (exit_of (shape_at q))) (λ (e : Edge). e.goal) (all_edges code others q)
      (all-inside code others q)

  pub can-visit : (k : ℕ) (q : Place) (s : Found) → IsFoundSoFar codes f code others s
      → slice_get s.places.items k ≡ Some q → length s.exits.items ≤ k → k < most_places
      → CanBeVisited code others q s
  can-visit k q s h there few lt =
      let x = exit_of (shape_at q) in
      record {
        reached = all_at (IsReached code) s.places.items k q h.reached there;
        narrow = all_at (λ r. width_at r ≤ most_coordinates) s.places.items k q h.narrow there;
        tokens = all_at (λ r. AreTokens (2 ^ 31) (shape_at r)) s.places.items k q h.tokens there;
        noted = All-map CanBeNoted (λ (e : Edge). e.goal) (all_edges code others q)
            (edge-can q (edges-all k q s h there));
        few = λ i. (
            let more = exits-grow x (take i (goals_from code others q)) s
            (All-take (IsInside x) i (goals_from code others q) (goals-inside q)) in
            omega (arith, more, few, lt)
            );
      }

  pub visit-exits : (q : Place) (s : Found)
      → length (with_goals (goals_from code others q) s).exits.items ≤ length s.exits.items + 1
  visit-exits q s = exits-grow (exit_of (shape_at q)) (goals_from code others q) s (goals-inside q)

  wide_goal-large : (g : Goal) → IsFoundBy codes others f g → IsWideGoal g → IsLargeBy codes others f
  wide_goal-large (to_place q) found wide = wide-large q found wide
  wide_goal-large (to_exit x) found wide = absurd wide

  pub visit-over : (k : ℕ) (q : Place) (s : Found) → IsFoundSoFar codes f code others s
      → slice_get s.places.items k ≡ Some q
      → IsVisitOver code others q s → IsLargeBy codes others f
  visit-over k q s h there (inl w) =
      wide_goal-large w.edge.goal
      (goes code q w.edge.goal is_code
      (all_at (λ r. IsFoundBy codes others f (to_place r)) s.places.items k q h.found there)
      (record {
        edge = w.edge;
        is_there = among_left (edges_from code q) (calls_from code others q) w.edge w.is_there;
        goal = refl;
      })) w.wide
  visit-over k q s h there (inr over) =
      are_over-large (goals_from code others q) s h (edges-good k q s h there) over

  -- ---- the goals of one more place

  pub visit-more : (k : ℕ) (q : Place) (s : Found) → IsVisited code others s k → slice_get s.places.items k ≡ Some q
      → IsVisited code others (with_goals (goals_from code others q) s) (k + 1)
  visit-more k q s visited there = λ i r lt e. old_or_new i r e (cases_of i lt)
    where
      u : Found
      u = with_goals (goals_from code others q) s

      cases_of : (i : ℕ) → i < k + 1 → (i < k) ⊎ (i ≡ k)
      cases_of i lt = grind (arith, lt)

      before : (i : ℕ) (r : Place) → i ≤ k
          → slice_get (with_goals (goals_from code others q) s).places.items i ≡ Some r
          → slice_get s.places.items i ≡ Some r
      before i r le e =
          let grown = with_goals-grows (goals_from code others q) s in
          let within = slice_get_within s.places.items k q there in
          sym (slice_get-left s.places.items grown.rest i (omega (arith, within, le)))
          ∙ ap (λ z. slice_get z i) (sym grown.places) ∙ e

      here : All (λ (e : Edge). IsNoted (with_goals (goals_from code others q) s) e.goal) (all_edges code others q)
      here =
          λ i d lt. subst (IsNoted (with_goals (goals_from code others q) s))
          (get_or-map (λ (e : Edge). e.goal) (all_edges code others q) i d d.goal lt)
          (with_goals-noted (goals_from code others q) s i d.goal
          (let n = length-goals (all_edges code others q) in omega (arith, n, lt)))
        where
          length-goals : (es : List Edge) → length (map (λ (e : Edge). e.goal) es) ≡ length es
          length-goals [] = refl
          length-goals (e ∷ es) = ap suc (length-goals es)

      old_or_new : (i : ℕ) (r : Place) → slice_get (with_goals (goals_from code others q) s).places.items i ≡ Some r
          → (i < k) ⊎ (i ≡ k)
          → All (λ (e : Edge). IsNoted (with_goals (goals_from code others q) s) e.goal) (all_edges code others r)
      old_or_new i r e (inl lt) =
          λ j d less. (with_goals-grows (goals_from code others q) s).noted (get_or (all_edges code others r) j d).goal
          (visited i r lt (before i r (omega (arith, lt)) e) j d less)
      old_or_new i r e (inr same) =
          let is : slice_get s.places.items i ≡ Some r = before i r (omega (arith, same)) e in
          let one : q ≡ r = one_thing q r (sym there ∙ ap (λ n. slice_get s.places.items n) (sym same) ∙ is) in
          subst (λ z. All (λ (e : Edge). IsNoted (with_goals (goals_from code others q) s) e.goal)
          (all_edges code others z)) one here

-- ---- the search

--   IsSearched codes f code others s k    the entries and the goals of the first k places are noted, and exit classes
--                           are few
pub record IsSearched (codes : Codes) (f : ℕ) (code : Code) (others : ℕ → List Shape) (s : Found) (k : ℕ)
    : Type 0 where
  pub found : IsFoundSoFar codes f code others s
  pub entries : AreNoted s (entry_goals (statics_of codes f) code [] 0)
  pub visited : IsVisited code others s k
  pub exits : length s.exits.items ≤ k

abbrev pub nothing : Found
nothing = record { places = record { items = []; entries = [] }; exits = record { items = []; entries = [] } }

places-exits : (code : Code) (ks : List ℕ) (hs : List Holding) (ls : List (List Holding)) (s : Found)
    → (with_goals (map (λ rest. entry_goal ks code (hs ++ rest)) ls) s).exits ≡ s.exits
places-exits code ks hs [] s = refl
places-exits code ks hs (l ∷ ls) s = places-exits code ks hs ls (with_goal (entry_goal ks code (hs ++ l)) s)

module _ (codes : Codes) (f : ℕ) (code : Code) (others : ℕ → List Shape) (is_code : code_at codes f ≡ Some code)
    (well : IsCodeOfFile code) (classes : AreClasses codes others)
    (small : code.params + length (statics_of codes f) < 2 ^ 31) where
  pub nothing-found : IsFoundSoFar codes f code others nothing
  nothing-found = record {
    places = empty-catalog key_of;
    exits = empty-catalog numbers_of_shape;
    reached = All-nil (IsReached code);
    called = All-nil (IsOfCall code others);
    names = All-nil (λ r. names_at r ≡ statics_of codes f);
    narrow = All-nil (λ r. width_at r ≤ most_coordinates);
    tokens = All-nil (λ r. AreTokens (2 ^ 31) (shape_at r));
    few = omega arith;
    found = All-nil (λ r. IsFoundBy codes others f (to_place r));
    classes = All-nil (IsExit code);
    class_names = All-nil (λ r. names_in r ≡ statics_of codes f);
    left = All-nil (λ r. IsFoundBy codes others f (to_exit r));
  }

  pub search-init : are_over (entry_goals (statics_of codes f) code [] 0) nothing ≡ false
      → IsSearched codes f code others (with_goals (entry_goals (statics_of codes f) code [] 0) nothing) 0
  search-init fits =
      let gs = entry_goals (statics_of codes f) code [] 0 in
      let same = ap (λ n. length n.items) (places-exits code (statics_of codes f) []
      (values_at_entry 0 (take code.params code.vars)) nothing) in
      record {
        found = with_goals-found codes f code others is_code well classes small gs nothing nothing-found
            (entries-good codes f code others is_code well classes small) fits;
        entries = with_goals-noted gs nothing;
        visited = λ i q lt e. absurd (omega (arith, lt));
        exits = omega (arith, same);
      }

  pub search-more : (k : ℕ) (q : Place) (s : Found) → IsSearched codes f code others s k
      → slice_get s.places.items k ≡ Some q
      → are_over (goals_from code others q) s ≡ false
      → IsSearched codes f code others (with_goals (goals_from code others q) s) (k + 1)
  search-more k q s h there fits =
      let gs = goals_from code others q in
      let grown = with_goals-grows gs s in
      let more = visit-exits codes f code others is_code well classes small q s in
      let few = h.exits in
      record {
        found = with_goals-found codes f code others is_code well classes small gs s h.found
            (edges-good codes f code others is_code well classes small k q s h.found there) fits;
        entries = All-weaker (IsNoted s) (IsNoted (with_goals gs s)) grown.noted
            (entry_goals (statics_of codes f) code [] 0) h.entries;
        visited = visit-more codes f code others is_code well classes small k q s h.visited there;
        exits = omega (arith, more, few);
      }

  pub search-whole : (k : ℕ) (s : Found) → IsSearched codes f code others s k → length s.places.items ≤ k
      → k ≤ most_places
      → IsWhole codes f code others s
  search-whole k s h all few = record {
    found = h.found;
    entries = λ i d lt. subst (IsNoted s) (entry-at i d) (h.entries i (to_place (at_entry d)) (lengths lt));
    visited = λ i q lt e. h.visited i q (omega (arith, lt, all)) e;
    few_exits = (let le = h.exits in omega (arith, le, few));
  }
    where
      lengths : {i : ℕ} → i < length (entry_shapes (statics_of codes f) code)
          → i < length (entry_goals (statics_of codes f) code [] 0)
      lengths lt =
          let ks = statics_of codes f in
          let vs = values_at_entry 0 (take code.params code.vars) in
          let shapes = length-map vs (entry_shape ks code) in
          let goals = length-map vs (λ hs. entry_goal ks code hs) in
          omega (arith, lt, shapes, goals)

      entry-at : (i : ℕ) (d : Shape) → get_or (entry_goals (statics_of codes f) code [] 0) i (to_place (at_entry d))
          ≡ to_place (at_entry (get_or (entry_shapes (statics_of codes f) code) i d))
      entry-at i d = same-at (values_at_entry 0 (take code.params code.vars)) i
        where
          same-at : (vs : List (List Holding)) (j : ℕ)
              → get_or (map (λ hs. entry_goal (statics_of codes f) code hs) vs) j (to_place (at_entry d))
              ≡ to_place (at_entry (get_or (map (entry_shape (statics_of codes f) code) vs) j d))
          same-at [] j = refl
          same-at (v ∷ vs) zero = refl
          same-at (v ∷ vs) (suc j) = same-at vs j
