-- The program of what was found, where functions that are called leave by given exit classes.
use Rattle.std.proofs.Common.{◌≡◌, ◌∙◌, ◌⊎◌, inl, inr, ℕ, ◌≤◌, List, length, get_or, slice_get, Option, Some}
use Rattle.std.proofs.Common.{None, IsSome, refl, sym, ap, subst, arith}
use Rattle.std.specs.List.{All, IsAmong}
use Rattle.std.proofs.lemmas.Option.{get_or_from_slice_get, slice_get-get_or, slice_get_within}
use Rattle.pungi_domain.specs.Programs.{IsWellFormed}
use Rattle.pungi_code.specs.declared.code.Code.{Code}
use Rattle.pungi_code.specs.declared.code.Codes.{Codes}
use Rattle.pungi_code.specs.Run.{code_at}
use Rattle.pungi_shape.specs.declared.found_edge.FoundEdge.{FoundEdge}
use Rattle.pungi_shape.specs.declared.programs.Ranked.{Ranked}
use Rattle.pungi_shape.specs.declared.search.Found.{Found}
use Rattle.pungi_shape.specs.declared.shape.Shape.{Shape}
use Rattle.pungi_shape.specs.Bounds.{IsCodeOfFile}
use Rattle.pungi_shape.specs.Classes.{AreClasses, IsOfCall, IsOfCalls}
use Rattle.pungi_shape.specs.Edges.{Edge, Goal, to_place, to_exit}
use Rattle.pungi_shape.specs.Found.{IsNoted, IsWhole}
use Rattle.pungi_shape.specs.FoundBy.{IsFoundBy, enters, goes}
use Rattle.pungi_shape.specs.FoundEdges.{AreEdgesOf}
use Rattle.pungi_shape.specs.Keys.{key_of, order_of, place_of}
use Rattle.pungi_shape.specs.Limits.{most_coordinates}
use Rattle.pungi_shape.specs.Named.{callees_of, statics_of}
use Rattle.pungi_shape.specs.Places.{Place, at_entry, entry_shapes, place_cmp, width_at}
use Rattle.pungi_shape.specs.Programs.{AreExits, ArePlaces, HasManyPlaces, HasWidePlace, IsFound, IsProgram, Rises}
use Rattle.pungi_shape.specs.Programs.{all_edges, program_of}
use Rattle.pungi_shape.specs.Ranks.{AreListed, AreNumbers, CanBeLeft, IsOrder, IsRankedBy, IsThere, exits_in, places_in}
use Rattle.pungi_shape.specs.Reached.{IsExit, IsGoal, IsReached, names_at, names_in}
use Rattle.pungi_shape.specs.Shapes.{numbers_of_shape}
use Rattle.pungi_shape.proofs.AllEdgeLemmas.{all-called, all-fit, all-goals}
use Rattle.pungi_shape.proofs.CatalogLemmas.{found-item, in_order-all, in_order-among, in_order-rises, length-in_order}
use Rattle.pungi_shape.proofs.CatalogLemmas.{length-order, order-once, order-places}
use Rattle.pungi_shape.proofs.FitLemmas.{IsIn}
use Rattle.pungi_shape.proofs.FoundByLemmas.{by-found, found-by}
use Rattle.pungi_shape.proofs.KeyLemmas.{exits-apart, key_of-apart, place_cmp-keys}
use Rattle.pungi_shape.proofs.NumberPlaces.{among_slice_get}
use Rattle.pungi_shape.proofs.ReachedLemmas.{entries-reached}
use Rattle.pungi_shape.proofs.RiseLemmas.{place-total, rises-shorter}
use Rattle.pungi_shape.proofs.WellFormedLemmas.{program-fits, stands-so}
use Rattle.pungi_shape.proofs.sound.Members.{of_all}

stands-among : {X : Type 0} (xs : List X) (k : ℕ) (x : X) → slice_get xs k ≡ Some x → IsAmong xs x
stands-among xs k x e = (k, (slice_get_within xs k x e, sym (get_or_from_slice_get xs k x x e)))

some_one : (o : Option ℕ) → IsSome o → (i : ℕ) × (o ≡ Some i)
some_one None some = absurd (cc)
some_one (Some i) some = (i, refl)

one-code : (o : Option Code) (c d : Code) → o ≡ Some d → o ≡ Some c → c ≡ d
one-code o c d that this = inside (sym this ∙ that)
  where
    inside : Some c ≡ Some d → c ≡ d
    inside same = cc

-- ---- orders

module _ (codes : Codes) (f : ℕ) (code : Code) (others : ℕ → List Shape) (s : Found)
    (whole : IsWhole codes f code others s) where
  pub whole-places : IsOrder (order_of s.places)
  whole-places = record {
    places = order-places key_of s.places whole.found.places;
    once = order-once key_of s.places whole.found.places;
    few = (let n = length-order key_of s.places whole.found.places in let le = whole.found.few in omega (arith, n, le));
  }

  pub whole-exits : IsOrder (order_of s.exits)
  whole-exits = record {
    places = order-places numbers_of_shape s.exits whole.found.exits;
    once = order-once numbers_of_shape s.exits whole.found.exits;
    few = (let n = length-order numbers_of_shape s.exits whole.found.exits in
        let le = whole.few_exits in omega (arith, n, le));
  }

  pub whole-numbers : (pr er : Ranked) → IsRankedBy s.places pr → IsRankedBy s.exits er → AreNumbers s pr er
  whole-numbers pr er places exits = record {
    code = code;
    place_catalog = whole.found.places;
    exit_catalog = whole.found.exits;
    reached = whole.found.reached;
    narrow = whole.found.narrow;
    few = whole.found.few;
    classes = whole.found.classes;
    places = places;
    exits = exits;
  }

-- ---- what is noted is there

module _ (codes : Codes) (f : ℕ) (code : Code) (is_code : code_at codes f ≡ Some code) (sound : IsCodeOfFile code)
    (others : ℕ → List Shape) (classes : AreClasses codes others) (s : Found)
    (whole : IsWhole codes f code others s) where
  -- what is noted and fits the code is there
  noted-there : (g : Goal) → IsGoal code (statics_of codes f) g → IsOfCalls code others g → IsNoted s g → IsThere s g
  noted-there (to_place q) goal called noted =
      let i = some_one (place_of (key_of q) s.places) noted in
      let r = found-item key_of s.places whole.found.places (key_of q) i.0 i.1 in
      let reached = stands-so (IsReached code) s.places.items i.0 r.0 whole.found.reached r.1.0 in
      let left = stands-so (IsOfCall code others) s.places.items i.0 r.0 whole.found.called r.1.0 in
      let names = stands-so (λ z. names_at z ≡ statics_of codes f) s.places.items i.0 r.0 whole.found.names r.1.0 in
      let same = key_of-apart codes others classes code r.0 q reached goal.0 left called (names ∙ sym goal.1) r.1.1 in
      stands-among s.places.items i.0 q (r.1.0 ∙ ap Some same)
  noted-there (to_exit x) goal called noted =
      let i = some_one (place_of (numbers_of_shape x) s.exits) noted in
      let r = found-item numbers_of_shape s.exits whole.found.exits (numbers_of_shape x) i.0 i.1 in
      let is = stands-so (IsExit code) s.exits.items i.0 r.0 whole.found.classes r.1.0 in
      let ks = statics_of codes f in
      let names = stands-so (λ z. names_in z ≡ ks) s.exits.items i.0 r.0 whole.found.class_names r.1.0 in
      let same = exits-apart code r.0 x is goal.0 (names ∙ sym goal.1) r.1.1 in
      stands-among s.exits.items i.0 x (r.1.0 ∙ ap Some same)

  leaves : (k : ℕ) (q : Place) → slice_get s.places.items k ≡ Some q → CanBeLeft code others s q
  leaves k q at =
      let es = all_edges code others q in
      let reached = stands-so (IsReached code) s.places.items k q whole.found.reached at in
      let narrow = stands-so (λ r. width_at r ≤ most_coordinates) s.places.items k q whole.found.narrow at in
      let names = stands-so (λ r. names_at r ≡ statics_of codes f) s.places.items k q whole.found.names at in
      let noted = whole.visited k q (slice_get_within s.places.items k q at) at in
      λ i d lt. noted-there (get_or es i d).goal
      (subst (λ ks. IsGoal code ks (get_or es i d).goal) names
      (all-goals codes others classes code q sound reached narrow i d lt))
      (all-called codes others classes code q i d lt) (noted i d lt)

  whole-leaves : All (CanBeLeft code others s) (places_in s)
  whole-leaves =
      in_order-all key_of s.places whole.found.places (CanBeLeft code others s)
      (λ i d lt. leaves i (get_or s.places.items i d) (slice_get-get_or s.places.items i d lt))

  pub whole-listed : (ls : List (List FoundEdge)) → AreEdgesOf code others s ls (length s.places.items)
      → AreListed code others s ls
  whole-listed ls edges = record { leaves = whole-leaves; edges = edges }

  -- ---- what is found is there

  found-there : (g : Goal) → IsFoundBy codes others f g → IsThere s g
  found-there _ (enters c t is among) =
      let ks = statics_of codes f in
      let here = subst (λ d. IsAmong (entry_shapes ks d) t) (one-code (code_at codes f) c code is_code is) among in
      noted-there (to_place (at_entry t))
      (of_all (λ z. IsGoal code ks (to_place (at_entry z))) (entry_shapes ks code) t
      (entries-reached code ks sound) here) tt
      (of_all (λ z. IsNoted s (to_place (at_entry z))) (entry_shapes ks code) t whole.entries here)
  found-there _ (goes c q g is found leads) =
      let there = found-there (to_place q) found in
      let left = leaves there.0 q (among_slice_get s.places.items q there.0 there.1.0 there.1.1) in
      let here = subst (λ d. IsAmong (all_edges d others q) leads.edge) (one-code (code_at codes f) c code is_code is)
      leads.is_there in
      subst (IsThere s) leads.goal
      (of_all (λ (e : Edge). IsThere s e.goal) (all_edges code others q) leads.edge left here)

  there-in : (g : Goal) → IsThere s g → IsIn (places_in s) (exits_in s) g
  there-in (to_place q) there =
      in_order-among key_of s.places whole.found.places there.0 q
      (among_slice_get s.places.items q there.0 there.1.0 there.1.1)
  there-in (to_exit x) there =
      in_order-among numbers_of_shape s.exits whole.found.exits there.0 x
      (among_slice_get s.exits.items x there.0 there.1.0 there.1.1)

  pub exit-there : (x : Shape) → IsFoundBy codes others f (to_exit x) → IsAmong (exits_in s) x
  exit-there x by = there-in (to_exit x) (found-there (to_exit x) by)

  -- ---- the program fits

  places-rise : Rises place_cmp (places_in s)
  places-rise i j d lt below =
      let ps = places_in s in
      place_cmp-keys (get_or ps i d) (get_or ps j d)
      ∙ in_order-rises key_of s.places whole.found.places i j d lt below

  pub whole-fits : IsWellFormed (program_of code others (places_in s) (exits_in s))
  whole-fits =
      let ps = places_in s in
      let size = length-in_order key_of s.places whole.found.places in
      let few = whole.found.few in
      let reached = in_order-all key_of s.places whole.found.places (IsReached code) whole.found.reached in
      let narrow = in_order-all key_of s.places whole.found.places (λ q. width_at q ≤ most_coordinates)
      whole.found.narrow in
      let all-exits = in_order-all numbers_of_shape s.exits whole.found.exits (IsExit code) whole.found.classes in
      program-fits code others ps (exits_in s) places-rise
      (in_order-rises numbers_of_shape s.exits whole.found.exits) (omega (arith, size, few))
      (λ i d lt. (
      let q = get_or ps i d in
      record {
        narrow = narrow i d lt;
        goals = λ j e below. there-in (get_or (all_edges code others q) j e).goal (whole-leaves i d lt j e below);
        edges = all-fit codes others classes code q sound (reached i d lt) (narrow i d lt);
      }
      ))
      (λ i d lt. (all-exits i d lt).narrow)

  -- ---- the program

  module _ (are : All (λ g. AreExits codes g (others g)) (callees_of codes f)) where
    find : (g : Goal) → IsFound codes f g → IsIn (places_in s) (exits_in s) g
    find g found = there-in g (found-there g (by-found codes others f are g found))

    whole-are-places : ArePlaces codes f (places_in s)
    whole-are-places = record {
      rise = places-rise;
      found = in_order-all key_of s.places whole.found.places (λ q. IsFound codes f (to_place q))
          (λ i d lt. found-by codes others f are (to_place (get_or s.places.items i d)) (whole.found.found i d lt));
      all = λ q found. find (to_place q) found;
    }

    whole-are-exits : AreExits codes f (exits_in s)
    whole-are-exits = record {
      rise = in_order-rises numbers_of_shape s.exits whole.found.exits;
      found = in_order-all numbers_of_shape s.exits whole.found.exits (λ x. IsFound codes f (to_exit x))
          (λ i d lt. found-by codes others f are (to_exit (get_or s.exits.items i d)) (whole.found.left i d lt));
      all = λ x found. find (to_exit x) found;
    }

    pub whole-program : IsProgram codes f (program_of code others (places_in s) (exits_in s))
    whole-program = record {
      code = code;
      is_code = is_code;
      places = places_in s;
      are_places = whole-are-places;
      exits = exits_in s;
      are_exits = whole-are-exits;
      others = others;
      are_others = are;
      program = refl;
    }

    -- a program of which all is found is not too large
    pub not-large : HasManyPlaces codes f ⊎ HasWidePlace codes f → ⊥
    not-large (inl many) =
        let le = rises-shorter place_cmp place-total many.places (places_in s) many.rise places-rise
        (λ i d lt. find (to_place (get_or many.places i d)) (many.found i d lt)) in
        let size = length-in_order key_of s.places whole.found.places in
        let few = whole.found.few in
        let more = many.many in
        omega (arith, le, size, few, more)
    not-large (inr wide) =
        let there = found-there (to_place wide.place) (by-found codes others f are (to_place wide.place) wide.found) in
        let le = of_all (λ r. width_at r ≤ most_coordinates) s.places.items wide.place whole.found.narrow there in
        let more = wide.wide in
        omega (arith, le, more)
