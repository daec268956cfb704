-- The program of places and exit classes that fit the code is well-formed.
--   FitsAmong code others ps xs q    a place isn't too wide, and its edges fit and lead to these places and exit
--                           classes
use Rattle.std.proofs.Common.{◌≡◌, ◌∙◌, inl, inr, ℕ, suc, ◌+◌, ◌<◌, ◌≤◌, List, [], ◌∷◌, length}
use Rattle.std.proofs.Common.{map, get_or, slice_get, Some, refl, sym, subst, arith}
use Rattle.std.specs.List.{All, IsAmong, count_by, enumerate_from, flat_map}
use Rattle.std.proofs.lemmas.List.{length-map}
use Rattle.std.proofs.lemmas.List.Elements.{All-append, All-map, All-nil}
use Rattle.std.proofs.lemmas.List.FromFn.{get_or-range_with_len, length-range_with_len}
use Rattle.std.proofs.lemmas.List.Sums.{count_by-le-length}
use Rattle.std.proofs.lemmas.Option.{get_or_from_slice_get, slice_get_within}
use Rattle.pungi_domain.specs.Programs.{FitsEdge, IsWellFormed}
use Rattle.pungi_code.specs.declared.code.Code.{Code}
use Rattle.pungi_code.specs.declared.code.Codes.{Codes}
use Rattle.pungi_code.specs.WellFormed.{IsAlone}
use Rattle.pungi_shape.specs.declared.shape.Shape.{Shape}
use Rattle.pungi_shape.specs.Limits.{most_coordinates, most_places}
use Rattle.pungi_shape.specs.Named.{functions_from}
use Rattle.pungi_shape.specs.Places.{Place, place_cmp, width_at}
use Rattle.pungi_shape.specs.Programs.{Rises, all_edges, edges_in_order, edges_of, exit_cmp, is_entry, pos_of}
use Rattle.pungi_shape.specs.Programs.{program_of, with_numbers}
use Rattle.pungi_shape.specs.Reached.{FitsFrom}
use Rattle.pungi_shape.specs.Shapes.{width_of}
use Rattle.pungi_shape.proofs.FitLemmas.{IsIn, edge-fits, edges_in_order-all}
use Rattle.pungi_shape.proofs.NamedLemmas.{from_itself}
use Rattle.pungi_shape.proofs.sound.Members.{nothing_in, one_of}

-- ---- lists

pub stands-so : {X : Type 0} (P : X → Type 0) (xs : List X) (k : ℕ) (x : X) → All P xs → slice_get xs k ≡ Some x
    → P x
stands-so P xs k x all e = subst P (get_or_from_slice_get xs k x x e) (all k x (slice_get_within xs k x e))

pub all-each : {X Y : Type 0} (P : Y → Type 0) (g : ℕ × X → List Y) (n : ℕ) (xs : List X)
    → ((k : ℕ) (x : X) → slice_get xs k ≡ Some x → All P (g (n + k, x))) → All P (flat_map g (enumerate_from n xs))
all-each P g n [] h = All-nil P
all-each P g n (x ∷ xs) h =
    All-append P (g (n, x)) (flat_map g (enumerate_from (n + 1) xs))
    (subst (λ (m : ℕ). All P (g (m, x))) (omega arith) (h 0 x refl))
    (all-each P g (n + 1) xs (λ k y e. subst (λ (m : ℕ). All P (g (m, y))) (omega arith) (h (suc k) y e)))

-- ---- functions

-- a function reaches itself, and no other
pub called-itself : (codes : Codes) (f g : ℕ) → IsAlone codes f → IsAmong (functions_from codes f) g → g ≡ f
called-itself codes f g well there =
    elim (one_of f [] g (subst (λ fs. IsAmong fs g) (from_itself codes f well) there)) [
      | inl e ↦ e
      | inr rest ↦ absurd (nothing_in g rest)
    ]

-- ---- the program

pub record FitsAmong (code : Code) (others : ℕ → List Shape) (ps : List Place) (xs : List Shape) (q : Place)
    : Type 0 where
  pub narrow : width_at q ≤ most_coordinates
  pub goals : All (λ e. IsIn ps xs e.goal) (all_edges code others q)
  pub edges : All (FitsFrom (width_at q)) (all_edges code others q)

module _ (code : Code) (others : ℕ → List Shape) (ps : List Place) (xs : List Shape) (rise : Rises place_cmp ps)
    (exits : Rises exit_cmp xs) (few : length ps ≤ most_places) (fits : All (FitsAmong code others ps xs) ps)
    (narrow : All (λ x. width_of x ≤ most_coordinates) xs) where
  place-fits : (k : ℕ) (q : Place) → slice_get ps k ≡ Some q → All (FitsEdge (program_of code others ps xs))
      (edges_in_order (map (with_numbers ps xs others k) (all_edges code others q)))
  place-fits k q at =
      let es = all_edges code others q in
      let number = with_numbers ps xs others k in
      let Well = FitsEdge (program_of code others ps xs) in
      let own = stands-so (FitsAmong code others ps xs) ps k q fits at in
      edges_in_order-all Well (map number es) (All-map Well number es
      (λ i d lt.
      edge-fits code others ps xs rise exits k q at (get_or es i d) (own.goals i d lt) (own.edges i d lt)))

  edges-well : All (FitsEdge (program_of code others ps xs)) (edges_of code others ps xs)
  edges-well =
      all-each (FitsEdge (program_of code others ps xs))
      (λ (q : ℕ × Place). edges_in_order (map (with_numbers ps xs others q.0) (all_edges code others q.1))) 0 ps
      (λ k q at. subst (λ (m : ℕ). All (FitsEdge (program_of code others ps xs))
      (edges_in_order (map (with_numbers ps xs others m) (all_edges code others q)))) (omega arith)
      (place-fits k q at))

  pub program-fits : IsWellFormed (program_of code others ps xs)
  program-fits =
      let long = length-map ps width_at in
      record {
        few = omega (arith, long, few);
        places = length-map ps (pos_of code) ∙ sym (length-map ps width_at);
        narrow = All-map (λ w. w ≤ 256) width_at ps (λ i d lt. (fits i d lt).narrow);
        narrow_exits = All-map (λ w. w ≤ 256) width_of xs narrow;
        edges = edges-well;
        entries = λ i d lt.
            let n = count_by is_entry ps in
            let below : i < count_by is_entry ps = subst (λ m. i < m) (length-range_with_len 0 n) lt in
            let number = get_or-range_with_len 0 n i d below in
            let most = count_by-le-length is_entry ps in
            omega (arith, below, number, most, long);
      }
