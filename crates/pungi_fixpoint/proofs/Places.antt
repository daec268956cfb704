-- The search as a whole: how it begins, a place that is taken from the queue, and its end.
use Rattle.std.proofs.Common.{◌≡◌, ◌∙◌, ℕ, ◌<◌, ◌≤◌, inl, inr, Bool, List, [], ◌∷◌, length, Option, Some}
use Rattle.std.proofs.Common.{refl, sym, ap, subst, arith, All, slice_get, slice_index_or, ℤ, Err}
use Rattle.pungi_domain.specs.Builds.{IsFirst, IsLargeBuild, Stage, built_first}
use Rattle.pungi_domain.specs.Programs.{FitsEdge, IsWellFormed}
use Rattle.pungi_domain.specs.Vectors.{Vectors}
use Rattle.pungi_domain.specs.declared.affine_edge.AffineEdge.{AffineEdge}
use Rattle.pungi_domain.specs.declared.affine_program.AffineProgram.{AffineProgram}
use Rattle.pungi_domain.specs.declared.domain_fault.DomainFault.{DomainFault}
use Rattle.pungi_domain.specs.declared.domain_fault.DomainFault.TheVariants.{Range}
use Rattle.pungi_fixpoint.specs.Solver.{FitsWidths}
use Rattle.pungi_fixpoint.specs.Turns.{IsIndex, RangeOnly, Takes}
use Rattle.pungi_fixpoint.specs.Worklist.{AreLeft, AreTaken, IsSearching, work}
use Rattle.pungi_links.specs.Pending.{IsPending, PendingState, Takes as Takes_first}
use Rattle.pungi_links.specs.Ring.{Stands}
use Rattle.std.proofs.lemmas.Option.{slice_get_within}
use Rattle.pungi_fixpoint.proofs.Lists.{all_at, all_of}
use Rattle.pungi_fixpoint.proofs.Queue.{left_of}

limit_of : PendingState → ℕ
limit_of s = s.limit

list_of : PendingState → List ℕ
list_of s = s.list

pub took_list : (q q' : PendingState) (k : ℕ) → Takes_first q q' (Some k) → q.list ≡ k ∷ q'.list
unfolding list_of
took_list q q' k e = ap list_of e

pub took_limit : (q q' : PendingState) (k : ℕ) → Takes_first q q' (Some k) → q'.limit ≡ q.limit
unfolding limit_of
took_limit q q' k e = sym (ap limit_of e)

stands_in : (xs ys : List ℕ) (k : ℕ) → xs ≡ ys → Stands k ys → Stands k xs
stands_in xs ys k e s = subst (λ (zs : List ℕ). Stands k zs) (sym e) s

-- a number that was taken is a place
pub took_place : (q q' : PendingState) (k places : ℕ) → IsPending q → q.limit ≡ places → Takes_first q q' (Some k)
    → k < places
took_place q q' k places pending limit e =
    let below = pending.below k (stands_in q.list (k ∷ q'.list) k (took_list q q' k e) (inl refl)) in
    omega (arith, below, limit)

pub index_within : (edges : List AffineEdge) (places : ℕ) (lists : List (List ℕ)) (k i : ℕ) (numbers : List ℕ)
    → IsIndex edges places lists → numbers ≡ slice_index_or lists k [] → Stands i numbers → i < length edges
index_within edges places lists k i numbers index same s =
    let e = index.only k i (subst (λ (xs : List ℕ). Stands i xs) same s) in
    slice_get_within edges i e.0 e.1

-- a large step over one of these edges is one from this place
pub large_place : {D : Type 0} (least : Bool) (member : D → Vectors) (p : AffineProgram)
    (exit : ℕ → ℕ → Option D) (places : ℕ) (lists : List (List ℕ)) (k : ℕ) (numbers : List ℕ) (fault : DomainFault)
    (j : ℕ) (r : List ℤ) → IsIndex p.edges places lists → numbers ≡ slice_index_or lists k [] → j ≡ k
    → fault ≡ Range r → RangeOnly {A = Unit {0}} (λ r. (i : ℕ) × (e : AffineEdge) × Stands i numbers
    × (slice_get p.edges i ≡ Some e) × IsLargeBuild least member p exit e.from r) (Err fault)
    → IsLargeBuild least member p exit j r
large_place {D} least member p exit places lists k numbers fault j r index same here range h =
    let P : List ℤ → Type 0 = λ r. (i : ℕ) × (e : AffineEdge) × Stands i numbers
    × (slice_get p.edges i ≡ Some e) × IsLargeBuild least member p exit e.from r in
    let large : P r = subst (λ (f : DomainFault). RangeOnly {A = Unit {0}} P (Err f)) range h in
    let e = index.only k large.0 (subst (λ (xs : List ℕ). Stands large.0 xs) same large.2) in
    let is = large.3 in
    let other = e.1 in
    let this : large.1 ≡ e.0 = cc (is, other) in
    let from : AffineEdge → ℕ = λ x. x.from in
    subst (λ n. IsLargeBuild least member p exit n r) (ap from this ∙ (e.2 ∙ sym here)) large.4

pub index_same : (es es' : List AffineEdge) (n n' : ℕ) (ls ls' : List (List ℕ)) → es' ≡ es → n' ≡ n → ls ≡ ls'
    → IsIndex es' n' ls' → IsIndex es n ls
index_same es es' n n' ls ls' e_same n_same ls_same h =
    subst (λ (xs : List AffineEdge). IsIndex xs n ls) e_same
    (subst (λ m. IsIndex es' m ls) n_same (subst (λ (xs : List (List ℕ)). IsIndex es' n' xs) (sym ls_same) h))

pub sources_within : (p : AffineProgram) (places : ℕ) → IsWellFormed p → places ≡ length p.widths
    → All (λ e. e.from < places) p.edges
sources_within p places well same = λ k d lt.
    let from = (well.edges k d lt).from in
    omega (arith, from, same)

module _ {D : Type 0} (least : Bool) (member : D → Vectors) (width : D → ℕ) (p : AffineProgram)
    (exit : ℕ → ℕ → Option D) (calls : ℕ → ℕ → Vectors) where
  pub searching_first : (st : Stage D) (q : PendingState) → FitsWidths width p st.at st.exits
      → IsFirst least member p st → IsPending q → q.limit ≡ length p.widths
      → IsSearching least member width p exit st q
  searching_first st q widths first pending limit = record {
    widths = widths;
    built = built_first st first;
    places = pending;
    limit = limit;
  }

  pub taken_first : (st : Stage D) (list : List ℕ) (places : ℕ) → IsWellFormed p → places ≡ length p.widths
      → ((k : ℕ) → k < places → Stands k list) → AreTaken p calls member st list
  taken_first st list places well same all i e e_is =
      let fits : FitsEdge p e = all_at (FitsEdge p) p.edges i e well.edges e_is in
      let from = fits.from in
      inl (all e.from (omega (arith, from, same)))

  pub searching_took : (st : Stage D) (q q' : PendingState) (k : ℕ) → IsSearching least member width p exit st q
      → IsPending q' → Takes_first q q' (Some k) → IsSearching least member width p exit st q'
  searching_took st q q' k s pending e = record {
    widths = s.widths;
    built = s.built;
    places = pending;
    limit = took_limit q q' k e ∙ s.limit;
  }

  pub taken_took : (st : Stage D) (q q' : PendingState) (k : ℕ) → Takes_first q q' (Some k)
      → AreTaken p calls member st q.list → AreTaken p calls member st (k ∷ q'.list)
  taken_took st q q' k e taken = subst (λ (xs : List ℕ). AreTaken p calls member st xs) (took_list q q' k e) taken

  pub left_took : (st : Stage D) (rest : List ℕ) (k places : ℕ) (lists : List (List ℕ)) (numbers : List ℕ)
      → IsIndex p.edges places lists → numbers ≡ slice_index_or lists k []
      → AreTaken p calls member st (k ∷ rest) → AreLeft p calls member st rest numbers
  left_took st rest k places lists numbers index same taken =
      subst (λ (xs : List ℕ). AreLeft p calls member st rest xs) (sym same)
      (left_of p calls member st k places rest lists index taken)

  -- each turn of the search leaves less to do
  pub work_took : (rank : D → ℕ) (old new : Stage D) (q q' q'' : PendingState) (k : ℕ) → Takes_first q q' (Some k)
      → work width rank new q'' ≤ work width rank old q' → work width rank new q'' < work width rank old q
  work_took rank old new q q' q'' k e le =
      let l : length q.list ≡ length (k ∷ q'.list) = ap length (took_list q q' k e) in
      omega (arith, l, le)

  pub settled : (st : Stage D) (q : PendingState) → q.list ≡ [] → AreTaken p calls member st q.list
      → All (Takes p calls member st st) p.edges
  settled st q none taken = all_of (Takes p calls member st st) p.edges (λ k e e_is.
      elim (taken k e e_is) [
        | inl waits ↦ absurd (subst (λ (xs : List ℕ). Stands e.from xs) none waits)
        | inr took ↦ took
      ])
