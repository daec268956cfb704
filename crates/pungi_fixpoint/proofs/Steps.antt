-- One edge was taken: what the search keeps.
use Rattle.std.proofs.Common.{◌≡◌, ◌∙◌, ℕ, inr, Bool, List, ◌∷◌, Option, Some, ℤ, refl, sym, ap, subst}
use Rattle.std.proofs.Common.{slice_get, Err}
use Rattle.pungi_domain.specs.Annotations.{set_to}
use Rattle.pungi_domain.specs.Builds.{IsLargeBuild, LargeTurn, Stage, Turn, built_on}
use Rattle.pungi_domain.specs.Vectors.{Vectors}
use Rattle.pungi_domain.specs.declared.affine_edge.AffineEdge.{AffineEdge}
use Rattle.pungi_domain.specs.declared.affine_program.AffineProgram.{AffineProgram}
use Rattle.pungi_domain.specs.declared.domain_fault.DomainFault.{DomainFault}
use Rattle.pungi_domain.specs.declared.domain_fault.DomainFault.TheVariants.{Range, Memory}
use Rattle.pungi_domain.specs.declared.target.Target.TheVariants.{Place}
use Rattle.pungi_fixpoint.specs.Solver.{FitsWidths, sets}
use Rattle.pungi_fixpoint.specs.Turns.{RangeOnly, Takes}
use Rattle.pungi_fixpoint.specs.Worklist.{AreLeft, IsSearching}
use Rattle.pungi_links.specs.Pending.{IsPending, PendingState}
use Rattle.pungi_links.specs.Ring.{Stands}
use Rattle.pungi_fixpoint.proofs.Grows.{turn_grows, turn_places}
use Rattle.pungi_fixpoint.proofs.Queue.{left_after}

-- a fault of a call is one of a longer call
pub range_err : (A B : Type 0) (P Q : List ℤ → Type 0) (fault : DomainFault) → ((r : List ℤ) → P r → Q r)
    → RangeOnly {A = A} P (Err fault) → RangeOnly {A = B} Q (Err fault)
range_err A B P Q (Range r) f h = f r h
range_err A B P Q Memory f h = tt

module _ {D : Type 0} (least : Bool) (member : D → Vectors) (width : D → ℕ) (p : AffineProgram)
    (exit : ℕ → ℕ → Option D) (i : ℕ) (e : AffineEdge) (e_is : slice_get p.edges i ≡ Some e) where
  pub searching_turned : (old new : Stage D) (q q' : PendingState) → IsSearching least member width p exit old q
      → FitsWidths width p new.at new.exits → Turn least member p exit e old new → IsPending q'
      → q'.limit ≡ q.limit → IsSearching least member width p exit new q'
  searching_turned old new q q' s widths turn pending limit = record {
    widths = widths;
    built = built_on old new i e s.built e_is turn;
    places = pending;
    limit = limit ∙ s.limit;
  }

  pub left_turned : (calls : ℕ → ℕ → Vectors) (old new : Stage D) (list list' rest : List ℕ)
      → Turn least member p exit e old new → Takes p calls member old new e
      → ((k : ℕ) → e.to ≡ Place k → Stands k list') → ((j : ℕ) → Stands j list → Stands j list')
      → AreLeft p calls member old list (i ∷ rest) → AreLeft p calls member new list' rest
  left_turned calls old new list list' rest turn taken put kept left =
      left_after p calls member old new list list' rest i e e_is taken kept
      (turn_places least member p exit e old new list' turn put)
      (turn_grows least member p exit e old new turn) left

  pub left_same : (calls : ℕ → ℕ → Vectors) (old new : Stage D) (list rest : List ℕ) → new ≡ old
      → Takes p calls member old new e → AreLeft p calls member old list (i ∷ rest)
      → AreLeft p calls member new list rest
  left_same calls old new list rest same taken left =
      left_after p calls member old new list list rest i e e_is taken (λ j s. s)
      (λ k. inr (ap (λ (st : Stage D). slice_get st.at k) same))
      (λ t v m. subst (λ (st : Stage D). set_to (sets member st.at) (sets member st.exits) t v) (sym same) m) left

  pub large_edge : (st : Stage D) (q : PendingState) (r : List ℤ) → IsSearching least member width p exit st q
      → LargeTurn least member p exit e st r → IsLargeBuild least member p exit e.from r
  large_edge st q r s large = record {
    stage = st;
    built = s.built;
    number = i;
    edge = e;
    edge_is = e_is;
    from = refl;
    large = large;
  }

pub searching_same : {D : Type 0} (least : Bool) (member : D → Vectors) (width : D → ℕ) (p : AffineProgram)
    (exit : ℕ → ℕ → Option D) (old new : Stage D) (q q' : PendingState) → new ≡ old → q' ≡ q
    → IsSearching least member width p exit old q → IsSearching least member width p exit new q'
searching_same {D} least member width p exit old new q q' st_same q_same s =
    subst (λ (st : Stage D). IsSearching least member width p exit st q') (sym st_same)
    (subst (λ (x : PendingState). IsSearching least member width p exit old x) (sym q_same) s)
