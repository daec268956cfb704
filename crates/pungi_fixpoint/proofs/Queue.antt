-- The queue of places: what is put stays, and which edges are still to be taken after a step.
use Rattle.std.proofs.Common.{◌≡◌, ℕ, zero, suc, ◌+◌, ◌<◌, ◌≤◌, ◌⊎◌, inl, inr, Bool, true, false, List, [], ◌∷◌}
use Rattle.std.proofs.Common.{◌++◌, length}
use Rattle.std.proofs.Common.{Some, refl, sym, ap, subst, arith, slice_get, slice_index_or, length-append, drop}
use Rattle.std.proofs.lemmas.List.{drop_all, drop_more}
use Rattle.pungi_domain.specs.Annotations.{set_to}
use Rattle.pungi_domain.specs.Builds.{Stage}
use Rattle.pungi_domain.specs.Vectors.{Vector, Vectors}
use Rattle.pungi_domain.specs.declared.affine_edge.AffineEdge.{AffineEdge}
use Rattle.pungi_domain.specs.declared.affine_program.AffineProgram.{AffineProgram}
use Rattle.pungi_domain.specs.declared.target.Target.{Target}
use Rattle.pungi_fixpoint.specs.Solver.{members, sets}
use Rattle.pungi_fixpoint.specs.Turns.{IsIndex, Takes}
use Rattle.pungi_fixpoint.specs.Worklist.{AreLeft, AreTaken}
use Rattle.pungi_links.specs.Pending.{PendingState, Puts}
use Rattle.pungi_links.specs.Ring.{Stands}

stands_more : (j : ℕ) (xs ys : List ℕ) → Stands j xs → Stands j (xs ++ ys)
stands_more j [] ys h = absurd h
stands_more j (x ∷ xs) ys h = elim h [ inl here ↦ inl here | inr on ↦ inr (stands_more j xs ys on) ]

stands_last : (j : ℕ) (xs : List ℕ) → Stands j (xs ++ j ∷ [])
stands_last j [] = inl refl
stands_last j (x ∷ xs) = inr (stands_last j xs)

pub stands_at : (xs : List ℕ) (k d : ℕ) → k < length xs → Stands (slice_index_or xs k d) xs
stands_at [] k d lt = absurd (omega (arith, lt))
stands_at (x ∷ xs) zero d lt = inl refl
stands_at (x ∷ xs) (suc k) d lt = inr (stands_at xs k d (omega (arith, lt)))

-- what `put` does, whatever it returns
pub record IsPut (old : PendingState) (i : ℕ) (new : PendingState) : Type 0 where
  pub limit : new.limit ≡ old.limit
  pub there : Stands i new.list
  pub kept : (j : ℕ) → Stands j old.list → Stands j new.list
  pub one : length new.list ≤ length old.list + 1

pub put : (old : PendingState) (i : ℕ) (new : PendingState) (r : Bool) → Puts old i new r → IsPut old i new
put old i new true h =
    let limit : PendingState → ℕ = λ s. s.limit in
    let list : PendingState → List ℕ = λ s. s.list in
    let more : new.list ≡ old.list ++ i ∷ [] = ap list h.1 in
    record {
      limit = ap limit h.1;
      there = subst (λ (xs : List ℕ). Stands i xs) (sym more) (stands_last i old.list);
      kept = λ j s. subst (λ (xs : List ℕ). Stands j xs) (sym more) (stands_more j old.list (i ∷ []) s);
      one = rw more (omega (arith, length-append old.list (i ∷ [])));
    }
put old i new false h =
    let limit : PendingState → ℕ = λ s. s.limit in
    let list : PendingState → List ℕ = λ s. s.list in
    let same : new.list ≡ old.list = ap list h.1 in
    record {
      limit = ap limit h.1;
      there = subst (λ (xs : List ℕ). Stands i xs) (sym same) h.0;
      kept = λ j s. subst (λ (xs : List ℕ). Stands j xs) (sym same) s;
      one = rw same (omega arith);
    }

module _ {D : Type 0} (p : AffineProgram) (calls : ℕ → ℕ → Vectors) (member : D → Vectors) where
  -- an edge was taken: those from places that are not in the queue saw no change, and members only grew
  pub left_after : (old new : Stage D) (list list' rest : List ℕ) (i : ℕ) (e : AffineEdge)
      → slice_get p.edges i ≡ Some e → Takes p calls member old new e
      → ((j : ℕ) → Stands j list → Stands j list')
      → ((k : ℕ) → Stands k list' ⊎ (slice_get new.at k ≡ slice_get old.at k))
      → ((t : Target) (v : Vector) → set_to (sets member old.at) (sets member old.exits) t v
      → set_to (sets member new.at) (sets member new.exits) t v)
      → AreLeft p calls member old list (i ∷ rest) → AreLeft p calls member new list' rest
  left_after old new list list' rest i e e_is taken kept same grows left = go
    where
      was : (k : ℕ) → slice_get new.at k ≡ slice_get old.at k → (v : Vector) → sets member new.at k v
          → sets member old.at k v
      was k eq v m = subst (λ o. members member o v) eq m

      this : (j : ℕ) (f : AffineEdge) → slice_get p.edges j ≡ Some f → j ≡ i → f ≡ e
      this j f f_is here =
          let at : slice_get p.edges j ≡ slice_get p.edges i = ap (λ n. slice_get p.edges n) here in cc

      go : AreLeft p calls member new list' rest
      go j f f_is =
          elim (same f.from) [
            | inl waits ↦ inr (inl waits)
            | inr eq ↦ elim (left j f f_is) [
              | inl numbers ↦ elim numbers [
                | inl here ↦ inr (inr (λ v u at guard sends.
                    subst (λ (x : AffineEdge). Takes p calls member old new x) (sym (this j f f_is here)) taken v u
                    (was f.from eq v at) guard sends))
                | inr later ↦ inl later
              ]
              | inr done ↦ elim done [
                | inl waits ↦ inr (inl (kept f.from waits))
                | inr took ↦ inr (inr (λ v u at guard sends. grows f.to u (took v u (was f.from eq v at) guard sends)))
              ]
            ]
          ]

  -- a place was taken from the queue: its edges are left
  pub left_of : (st : Stage D) (k places : ℕ) (rest : List ℕ) (lists : List (List ℕ)) → IsIndex p.edges places lists
      → AreTaken p calls member st (k ∷ rest) → AreLeft p calls member st rest (slice_index_or lists k [])
  left_of st k places rest lists index taken i e e_is =
      elim (taken i e e_is) [
        | inl waits ↦ elim waits [
          | inl here ↦ inl (subst (λ n. Stands i (slice_index_or lists n [])) here (index.there i e e_is))
          | inr on ↦ inr (inl on)
        ]
        | inr took ↦ inr (inr took)
      ]

  pub left_here : (st : Stage D) (list numbers : List ℕ) (k : ℕ) → k < length numbers
      → AreLeft p calls member st list (drop k numbers)
      → AreLeft p calls member st list (slice_index_or numbers k 0 ∷ drop (k + 1) numbers)
  left_here st list numbers k lt left =
      subst (λ (xs : List ℕ). AreLeft p calls member st list xs) (drop_more numbers k 0 lt) left

  pub none_left : (st : Stage D) (list numbers : List ℕ) (k : ℕ) → length numbers ≤ k
      → AreLeft p calls member st list (drop k numbers) → AreTaken p calls member st list
  none_left st list numbers k le left i e e_is =
      elim (left i e e_is) [
        | inl there ↦ absurd (subst (λ (xs : List ℕ). Stands i xs) (drop_all k numbers le) there)
        | inr done ↦ done
      ]
