-- Summaries of the functions of a file.
--   SummariesState         for each function its exit classes, with the value that was put, where one was; and its
--                          state
--   exit_of exits f class  the value of an exit class
--   SameExits old new      each exit class has the value that it had
--   HasExit old f class exit new    this one has this value, and each other one the value that it had
--   SameValues old new, HasValue old class exit new    the same of the exit classes of one function
use Rattle.std.specs.Prelude.{◌≡◌, ℕ, List, [], Option, None, Some, slice_get}
use Rattle.std.specs.List.{slice_index_or}
use Rattle.pungi_fixpoint.specs.declared.state.State.{State}

pub record SummariesState (D : Type 0) : Type 0 where
  pub exits : List (List (Option D))
  pub states : List State

abbrev pub flatten : {A : Type 0} → Option (Option A) → Option A
flatten None = None
flatten (Some o) = o

abbrev pub exit_of : {D : Type 0} → List (List (Option D)) → ℕ → ℕ → Option D
exit_of exits f class = flatten (slice_get (slice_index_or exits f []) class)

abbrev pub SameExits : {D : Type 0} → List (List (Option D)) → List (List (Option D)) → Type 0
SameExits old new = (f class : ℕ) → exit_of new f class ≡ exit_of old f class

pub record HasExit {D : Type 0} (old : List (List (Option D))) (f class : ℕ) (exit : D) (new : List (List (Option D)))
    : Type 0 where
  pub this : exit_of new f class ≡ Some exit
  pub others : (g c : ℕ) → (g ≡ f → c ≡ class → ⊥) → exit_of new g c ≡ exit_of old g c

abbrev pub SameValues : {D : Type 0} → List (Option D) → List (Option D) → Type 0
SameValues old new = (class : ℕ) → flatten (slice_get new class) ≡ flatten (slice_get old class)

pub record HasValue {D : Type 0} (old : List (Option D)) (class : ℕ) (exit : D) (new : List (Option D)) : Type 0 where
  pub this : flatten (slice_get new class) ≡ Some exit
  pub others : (c : ℕ) → (c ≡ class → ⊥) → flatten (slice_get new c) ≡ flatten (slice_get old c)
