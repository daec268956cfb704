-- What is noted as the edges of a place are kept: those that depend on no other function, and those of the exit classes
-- of the function that is called, one after the other.
use Rattle.std.proofs.Common.{◌≡◌, ◌∙◌, inl, inr, ℕ, zero, suc, ◌+◌, ◌<◌, ◌≤◌, true, false, Some, List, [], ◌∷◌}
use Rattle.std.proofs.Common.{◌++◌, length, map, take, drop, get_or, slice_get, refl, sym, ap, subst, arith}
use Rattle.std.proofs.Common.{append_assoc}
use Rattle.std.proofs.Common.{append-nil}
use Rattle.std.specs.Prelude.{◌||◌}
use Rattle.std.specs.List.{All}
use Rattle.std.proofs.lemmas.Grind.{flat_map-append}
use Rattle.std.proofs.lemmas.List.{map-append, take-append-drop, take-append-le, take_all}
use Rattle.std.proofs.lemmas.Bool.{cases_lt}
use Rattle.std.proofs.lemmas.Option.{slice_get_read, slice_get_within}
use Rattle.pungi_code.specs.declared.code.Code.{Code}
use Rattle.pungi_shape.specs.declared.found_edge.FoundEdge.{FoundEdge}
use Rattle.pungi_shape.specs.declared.search.Found.{Found}
use Rattle.pungi_shape.specs.declared.shape.Shape.{Shape}
use Rattle.pungi_shape.specs.Bounds.{IsShape}
use Rattle.pungi_shape.specs.Classes.{AreClassLists}
use Rattle.pungi_shape.specs.Edges.{Edge, Goal, call_edges, edges_from}
use Rattle.pungi_shape.specs.Found.{CallsAt, CanBeLeftAlone, CanBeNoted, CanBeVisited, CanCall, IsOwnOver, IsPlain}
use Rattle.pungi_shape.specs.Found.{IsVisitOver, are_over, calls_of, goals_from, goals_of_calls, own_goals, with_goals}
use Rattle.pungi_shape.specs.FoundEdges.{found_edge, found_edges}
use Rattle.pungi_shape.specs.Limits.{most_coordinates}
use Rattle.pungi_shape.specs.Places.{Place, at_entry, at_point, after_call}
use Rattle.pungi_shape.specs.Programs.{all_edges, calls_from}
use Rattle.pungi_shape.specs.Reached.{shape_at}
use Rattle.pungi_shape.proofs.CallGoals.{calls-more, calls-one}
use Rattle.pungi_shape.proofs.FoundEdgeLemmas.{noted-kept}
use Rattle.pungi_shape.proofs.FoundLemmas.{are_over-append, one_thing, with_goals-append, with_goals-grows}
use Rattle.pungi_shape.proofs.MapEntries.{appended-at}
use Rattle.pungi_shape.proofs.RankLemmas.{reached-plain}
use Rattle.pungi_shape.proofs.TokenLemmas.{all-left, all-right}

abbrev pub goals : List Edge → List Goal
goals es = map (λ (e : Edge). e.goal) es

goals-left : (es ds : List Edge) → All CanBeNoted (goals (es ++ ds)) → All CanBeNoted (goals es)
goals-left es ds all =
    all-left CanBeNoted (goals es) (goals ds) (subst (All CanBeNoted) (map-append (λ (e : Edge). e.goal) es ds) all)

goals-right : (es ds : List Edge) → All CanBeNoted (goals (es ++ ds)) → All CanBeNoted (goals ds)
goals-right es ds all =
    all-right CanBeNoted (goals es) (goals ds) (subst (All CanBeNoted) (map-append (λ (e : Edge). e.goal) es ds) all)

plain-shape : (q : Place) → IsPlain q → IsShape (shape_at q)
plain-shape (at_entry s) h = h
plain-shape (at_point p s) h = h
plain-shape (after_call p s e) h = h.0

-- ---- edges after others

module _ (es ds : List Edge) (s : Found) where
  pub both-noted : with_goals (goals (es ++ ds)) s ≡ with_goals (goals ds) (with_goals (goals es) s)
  both-noted =
      ap (λ (gs : List Goal). with_goals gs s) (map-append (λ (e : Edge). e.goal) es ds)
      ∙ with_goals-append (goals es) (goals ds) s

  pub both-over : are_over (goals (es ++ ds)) s
      ≡ (are_over (goals es) s || are_over (goals ds) (with_goals (goals es) s))
  both-over =
      ap (λ (gs : List Goal). are_over gs s) (map-append (λ (e : Edge). e.goal) es ds)
      ∙ are_over-append (goals es) (goals ds) s

  pub first-over : are_over (goals es) s ≡ true → are_over (goals (es ++ ds)) s ≡ true
  first-over e = both-over ∙ ap (λ b. b || are_over (goals ds) (with_goals (goals es) s)) e

  pub later-over : are_over (goals es) s ≡ false
      → are_over (goals (es ++ ds)) s ≡ are_over (goals ds) (with_goals (goals es) s)
  later-over e = both-over ∙ ap (λ b. b || are_over (goals ds) (with_goals (goals es) s)) e

  -- the edges that were kept first keep their numbers
  pub both-kept : (others : ℕ → List Shape) (first then all : List FoundEdge)
      → then ≡ first ++ found_edges others (with_goals (goals es) s) es
      → all ≡ then ++ found_edges others (with_goals (goals ds) (with_goals (goals es) s)) ds
      → all ≡ first ++ found_edges others (with_goals (goals ds) (with_goals (goals es) s)) (es ++ ds)
  both-kept others first then all e d =
      let u = with_goals (goals ds) (with_goals (goals es) s) in
      d ∙ ap (λ (l : List FoundEdge). l ++ found_edges others u ds) e
      ∙ append_assoc first (found_edges others (with_goals (goals es) s) es) (found_edges others u ds)
      ∙ ap (λ (l : List FoundEdge). first ++ l)
      (ap (λ (l : List FoundEdge). l ++ found_edges others u ds) (sym (noted-kept others (goals ds) s es))
      ∙ sym (map-append (found_edge others u) es ds))

-- ---- the exit classes of a function that is called

module _ (code : Code) (q : Place) (g : ℕ) (xs : List Shape) (s : Found) (i : ℕ) (d : Shape) (lt : i < length xs) where
  abbrev before : List Edge
  before = calls_of code q g (take i xs)

  abbrev now : List Edge
  now = call_edges code q g (get_or xs i d)

  abbrev so_far : Found
  so_far = with_goals (goals before) s

  calls-now : calls_of code q g (take (i + 1) xs) ≡ before ++ now
  calls-now = calls-more code q g xs i d lt

  pub calls-noted : with_goals (goals_of_calls code q g (take (i + 1) xs)) s
      ≡ with_goals (goals (call_edges code q g (get_or xs i d))) (with_goals (goals_of_calls code q g (take i xs)) s)
  calls-noted = ap (λ (es : List Edge). with_goals (goals es) s) calls-now ∙ both-noted before now s

  pub calls-over : are_over (goals_of_calls code q g (take i xs)) s ≡ false
      → are_over (goals_of_calls code q g (take (i + 1) xs)) s
      ≡ are_over (goals (call_edges code q g (get_or xs i d))) (with_goals (goals_of_calls code q g (take i xs)) s)
  calls-over fits = ap (λ (es : List Edge). are_over (goals es) s) calls-now ∙ later-over before now s fits

  pub calls-kept : (others : ℕ → List Shape) (first then all : List FoundEdge)
      → then ≡ first ++ found_edges others (with_goals (goals_of_calls code q g (take i xs)) s)
      (calls_of code q g (take i xs))
      → all ≡ then ++ found_edges others (with_goals (goals_of_calls code q g (take (i + 1) xs)) s)
      (call_edges code q g (get_or xs i d))
      → all ≡ first ++ found_edges others (with_goals (goals_of_calls code q g (take (i + 1) xs)) s)
      (calls_of code q g (take (i + 1) xs))
  calls-kept others first then all e d =
      both-kept before now s others first then all e
      (d ∙ ap (λ (u : Found). then ++ found_edges others u now) calls-noted)
      ∙ ap (λ (u : Found). first ++ found_edges others u (before ++ now)) (sym calls-noted)
      ∙ ap (λ (es : List Edge). first
      ++ found_edges others (with_goals (goals_of_calls code q g (take (i + 1) xs)) s) es)
      (sym calls-now)

-- where those of the first classes are too large, all are
pub calls-over-all : (code : Code) (q : Place) (g : ℕ) (xs : List Shape) (s : Found) (n : ℕ)
    → are_over (goals_of_calls code q g (take n xs)) s ≡ true → are_over (goals_of_calls code q g xs) s ≡ true
calls-over-all code q g xs s n over =
    ap (λ (l : List Shape). are_over (goals_of_calls code q g l) s) (sym (take-append-drop n xs))
    ∙ ap (λ (es : List Edge). are_over (goals es) s) (flat_map-append (call_edges code q g) (take n xs) (drop n xs))
    ∙ first-over (calls_of code q g (take n xs)) (calls_of code q g (drop n xs)) s over

-- ---- what is required for one exit class

module _ (code : Code) (q : Place) (g : ℕ) (xs : List Shape) (i : ℕ) (d : Shape) (lt : i < length xs) where
  pub calls-can : All CanBeNoted (goals_of_calls code q g xs)
      → All CanBeNoted (goals (call_edges code q g (get_or xs i d)))
  calls-can all =
      let before = calls_of code q g (take i xs) in
      let now = call_edges code q g (get_or xs i d) in
      let rest = calls_of code q g (drop (i + 1) xs) in
      let parts : calls_of code q g xs ≡ (before ++ now) ++ rest =
      ap (calls_of code q g) (sym (take-append-drop (i + 1) xs))
      ∙ flat_map-append (call_edges code q g) (take (i + 1) xs) (drop (i + 1) xs)
      ∙ ap (λ (es : List Edge). es ++ rest) (calls-more code q g xs i d lt) in
      let first : All CanBeNoted (goals (before ++ now)) =
      goals-left (before ++ now) rest (subst (λ (es : List Edge). All CanBeNoted (goals es)) parts all) in
      goals-right before now first

-- ---- the place that is visited

-- what is read at a place in range
pub read-there : (ps qs : List Place) (k : ℕ) (q : Place) → ps ≡ qs → q ≡ get_or ps k q → k < length qs
    → slice_get qs k ≡ Some q
read-there ps qs k q e is lt =
    slice_get_read qs (length qs) k q refl lt (is ∙ ap (λ (xs : List Place). get_or xs k q) e)

-- what stands at a place in range
pub someone : {X : Type 0} (xs : List X) (k : ℕ) → k < length xs → (x : X) × (slice_get xs k ≡ Some x)
someone [] k lt = absurd (omega (arith, lt))
someone (x ∷ xs) zero lt = (x, refl)
someone (x ∷ xs) (suc k) lt = someone xs k (omega (arith, lt))

module _ (gs : List Goal) (s t : Found) (same : t ≡ with_goals gs s) (k : ℕ) where
  pub still-there : (q : Place) → slice_get s.places.items k ≡ Some q → slice_get t.places.items k ≡ Some q
  still-there q at =
      let grown = with_goals-grows gs s in
      ap (λ (u : Found). slice_get u.places.items k) same ∙ ap (λ (l : List Place). slice_get l k) grown.places
      ∙ appended-at s.places.items grown.rest k q at

  pub still-within : k < length s.places.items → k < length t.places.items
  still-within lt =
      let at = someone s.places.items k lt in
      slice_get_within t.places.items k at.0 (still-there at.0 at.1)

  -- the place that is read then is the same
  pub same-place : (ps : List Place) (q r : Place) → slice_get s.places.items k ≡ Some q → ps ≡ t.places.items
      → r ≡ get_or ps k r → k < length s.places.items → r ≡ q
  same-place ps q r at items is lt =
      one_thing r q (sym (read-there ps t.places.items k r items is (still-within lt)) ∙ still-there q at)

-- ---- a place with edges that depend on no other function, and calls of one

module _ (code : Code) (others : ℕ → List Shape) (q : Place) (s : Found) (can : CanBeVisited code others q s) where
  abbrev own : List Edge
  own = edges_from code q

  abbrev calls : List Edge
  calls = calls_from code others q

  all-parts : goals_from code others q ≡ goals own ++ goals calls
  all-parts = map-append (λ (e : Edge). e.goal) own calls

  first-few : (i : ℕ) → i ≤ length (goals own) → length (with_goals (take i (goals own)) s).exits.items < 65536
  first-few i le =
      subst (λ (gs : List Goal). length (with_goals gs s).exits.items < 65536)
      (ap (take i) all-parts ∙ take-append-le i (goals own) (goals calls) le) (can.few i)

  own-few : (i : ℕ) → length (with_goals (take i (goals own)) s).exits.items < 65536
  own-few i = elim (cases_lt (length (goals own)) i) [
    | inl lt ↦ subst (λ (gs : List Goal). length (with_goals gs s).exits.items < 65536)
        (take_all (length (goals own)) (goals own) (omega arith)
        ∙ sym (take_all i (goals own) (omega (arith, lt)))) (first-few (length (goals own)) (omega arith))
    | inr le ↦ first-few i le
  ]

  pub can-alone : CanBeLeftAlone code q s
  can-alone = record {
    reached = can.reached;
    narrow = can.narrow;
    tokens = can.tokens;
    noted = goals-left own calls can.noted;
    few = own-few;
  }

  module _ (g : ℕ) (at : CallsAt code q g) (lists : AreClassLists others) where
    pub can-call : CanCall code g (others g) q (with_goals (own_goals code q) s)
    can-call = record {
      shape = plain-shape q (reached-plain code q can.reached);
      narrow = subst (λ (w : ℕ). w ≤ most_coordinates) at.width can.narrow;
      exits = (lists g).each;
      noted = goals-right own (calls_of code q g (others g))
          (subst (λ (es : List Edge). All CanBeNoted (goals es)) (calls-one code others q g at) can.noted);
      few = subst (λ (gs : List Goal). length (with_goals gs s).exits.items < 65536)
          (take_all (length (goals own)) (goals own) (omega arith)) (own-few (length (goals own)));
    }

    pub then-noted : with_goals (goals_of_calls code q g (others g)) (with_goals (own_goals code q) s)
        ≡ with_goals (goals_from code others q) s
    then-noted =
        sym (both-noted own (calls_of code q g (others g)) s)
        ∙ ap (λ (es : List Edge). with_goals (goals es) s) (sym (calls-one code others q g at))

    pub then-over : are_over (own_goals code q) s ≡ false
        → are_over (goals_of_calls code q g (others g)) (with_goals (own_goals code q) s)
        ≡ are_over (goals_from code others q) s
    then-over fits =
        sym (later-over own (calls_of code q g (others g)) s fits)
        ∙ ap (λ (es : List Edge). are_over (goals es) s) (sym (calls-one code others q g at))

    pub then-kept : (then all : List FoundEdge)
        → then ≡ found_edges others (with_goals (own_goals code q) s) (edges_from code q)
        → all ≡ then ++ found_edges others (with_goals (goals_of_calls code q g (others g))
        (with_goals (own_goals code q) s)) (calls_of code q g (others g))
        → all ≡ found_edges others (with_goals (goals_of_calls code q g (others g)) (with_goals (own_goals code q) s))
        (all_edges code others q)
    then-kept then all e d =
        let u = with_goals (goals_of_calls code q g (others g)) (with_goals (own_goals code q) s) in
        both-kept own (calls_of code q g (others g)) s others [] then all e d
        ∙ ap (found_edges others u) (sym (calls-one code others q g at))

  pub own-over : IsOwnOver code q s → IsVisitOver code others q s
  own-over (inl wide) = inl wide
  own-over (inr over) = inr (first-over own calls s over)

-- where no function is called
pub own-all : (code : Code) (others : ℕ → List Shape) (q : Place) → calls_from code others q ≡ []
    → edges_from code q ≡ all_edges code others q
own-all code others q none =
    sym (ap (λ (es : List Edge). edges_from code q ++ es) none ∙ append-nil (edges_from code q))
