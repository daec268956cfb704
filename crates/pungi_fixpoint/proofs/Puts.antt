-- Exit classes of functions, after a value was put.
--   same_more        a class without a value is added
--   value_put        a value is put for a class of one function
--   has_exit, same_exits    what that makes of the classes of all functions
use Rattle.std.proofs.Common.{◌≡◌, inl, inr, ℕ, zero, suc, ◌<◌, List, [], ◌∷◌, ◌++◌, length, get_or, Option, Some, None}
use Rattle.std.proofs.Common.{refl, ap, ◌∙◌}
use Rattle.std.specs.Prelude.{slice_get, slice_set}
use Rattle.std.specs.List.{slice_index_or}
use Rattle.std.proofs.lemmas.List.{get_or-set_same, get_or-set_other}
use Rattle.std.proofs.lemmas.Option.{slice_get_read, get_or_from_slice_get}
use Rattle.pungi_fixpoint.specs.Summaries.{HasExit, HasValue, SameExits, SameValues, flatten}
use Rattle.pungi_fixpoint.proofs.Gets.{same_or, set_same, set_other}

flatten_push : {D : Type 0} (xs : List (Option D)) (k : ℕ)
    → flatten (slice_get (xs ++ None ∷ []) k) ≡ flatten (slice_get xs k)
flatten_push [] zero = refl
flatten_push [] (suc k) = refl
flatten_push (x ∷ xs) zero = refl
flatten_push (x ∷ xs) (suc k) = flatten_push xs k

pub same_more : {D : Type 0} (old xs new : List (Option D)) → SameValues old xs → new ≡ xs ++ None ∷ []
    → SameValues old new
same_more old xs new h e k = rw e (flatten_push xs k ∙ h k)

pub value_put : {D : Type 0} (old xs new : List (Option D)) (class : ℕ) (exit : D) → class < length xs
    → SameValues old xs → new ≡ slice_set xs class (Some exit) → HasValue old class exit new
value_put old xs new class exit lt h e = record {
  this = rw e (ap flatten (set_same xs class (Some exit) lt));
  others = λ k ne. rw e (ap flatten (set_other xs class k (Some exit) ne) ∙ h k);
}

row_at : {D : Type 0} (old : List (List (Option D))) (f : ℕ) (row : List (Option D)) → f < length old
    → row ≡ get_or old f row → slice_index_or old f [] ≡ row
row_at old f row lt is = get_or_from_slice_get old f row [] (slice_get_read old (length old) f row refl lt is)

pub has_exit : {D : Type 0} (old : List (List (Option D))) (f class : ℕ) (exit : D) (row new : List (Option D))
    → f < length old → row ≡ get_or old f row → HasValue row class exit new
    → HasExit old f class exit (slice_set old f new)
has_exit {D} old f class exit row new lt is h =
    let there : slice_index_or (slice_set old f new) f [] ≡ new = get_or-set_same old f new [] lt in
    let was : slice_index_or old f [] ≡ row = row_at old f row lt is in
    record {
      this = rw there h.this;
      others = λ g k ne. elim (same_or g f) [
        | inl e ↦ rw (e, there, was) (h.others k (ne e))
        | inr n ↦ ap (λ l. flatten (slice_get l k)) (get_or-set_other old f g new [] n)
      ];
    }

pub same_exits : {D : Type 0} (old : List (List (Option D))) (f : ℕ) (row new : List (Option D)) → f < length old
    → row ≡ get_or old f row → SameValues row new → SameExits old (slice_set old f new)
same_exits old f row new lt is h g k =
    let there : slice_index_or (slice_set old f new) f [] ≡ new = get_or-set_same old f new [] lt in
    let was : slice_index_or old f [] ≡ row = row_at old f row lt is in
    elim (same_or g f) [
      | inl e ↦ rw (e, there, was) (h k)
      | inr n ↦ ap (λ l. flatten (slice_get l k)) (get_or-set_other old f g new [] n)
    ]
