-- What a queue's list has after a number was put, or taken.
--   IsPut old i new         a number was put, whether it was there before or not
use Rattle.std.proofs.Common.{◌≡◌, inl, refl, ℕ, ◌+◌, ◌<◌, ◌≤◌, List, [], ◌∷◌, ◌++◌, length, Bool, true, false}
use Rattle.std.proofs.Common.{Some, sym, ap, subst, arith, length-append}
use Rattle.pungi_links.specs.Pending.{IsPending, PendingState, Puts, Takes}
use Rattle.pungi_links.specs.Ring.{Stands}
use Rattle.pungi_shape.proofs.CallerLemmas.{stands-last, stands-left}

pub record IsPut (old : PendingState) (i : ℕ) (new : PendingState) : Type 0 where
  pub limit : new.limit ≡ old.limit
  pub there : Stands i new.list
  pub kept : (j : ℕ) → Stands j old.list → Stands j new.list
  pub one : length new.list ≤ length old.list + 1

pub put : (old : PendingState) (i : ℕ) (new : PendingState) (r : Bool) → Puts old i new r → IsPut old i new
put old i new true h =
    let limit : PendingState → ℕ = λ s. s.limit in
    let list : PendingState → List ℕ = λ s. s.list in
    let more : new.list ≡ old.list ++ i ∷ [] = ap list h.1 in
    record {
      limit = ap limit h.1;
      there = subst (Stands i) (sym more) (stands-last i old.list);
      kept = λ j s. subst (Stands j) (sym more) (stands-left j old.list (i ∷ []) s);
      one = rw more (omega (arith, length-append old.list (i ∷ [])));
    }
put old i new false h =
    let limit : PendingState → ℕ = λ s. s.limit in
    let list : PendingState → List ℕ = λ s. s.list in
    let same : new.list ≡ old.list = ap list h.1 in
    record {
      limit = ap limit h.1;
      there = subst (Stands i) (sym same) h.0;
      kept = λ j s. subst (Stands j) (sym same) s;
      one = rw same (omega arith);
    }

pub took-list : (q q' : PendingState) (k : ℕ) → Takes q q' (Some k) → q.list ≡ k ∷ q'.list
took-list q q' k e = (let list : PendingState → List ℕ = λ s. s.list in ap list e)

pub took-limit : (q q' : PendingState) (k : ℕ) → Takes q q' (Some k) → q'.limit ≡ q.limit
took-limit q q' k e = (let limit : PendingState → ℕ = λ s. s.limit in sym (ap limit e))

pub took-within : (q q' : PendingState) (f n : ℕ) → IsPending q → q.limit ≡ n → Takes q q' (Some f) → f < n
took-within q q' f n pending limit took =
    let below = pending.below f (subst (Stands f) (sym (took-list q q' f took)) (inl refl)) in
    omega (arith, below, limit)
