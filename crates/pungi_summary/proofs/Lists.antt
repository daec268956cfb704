-- Elements of lists by their numbers.
--   get_same, get_other    the elements after one was put
--   get_push, get_kept, get_last    the elements after one more
--   read_at                an element as indexing a slice gives it
--   all_more, all_taken    what holds of the elements so far
--   has_program, within_program    a program by its number
--   stands_...             what a queue's list has after a number was put
use Rattle.std.proofs.Common.{◌≡◌, ◌∙◌, ◌⊎◌, inl, inr, ℕ, zero, suc, ◌+◌, ◌<◌, ◌≤◌, List, [], ◌∷◌, ◌++◌, length}
use Rattle.std.proofs.Common.{Bool, true, false, Option, Some, None, refl, sym, ap, subst, arith, All, take}
use Rattle.std.proofs.Common.{length-append}
use Rattle.std.specs.Prelude.{slice_get, slice_set, Result, Ok, Err, IfOk}
use Rattle.std.specs.List.{slice_index_or}
use Rattle.std.proofs.lemmas.List.{take_all}
use Rattle.std.proofs.lemmas.List.Elements.{All-more}
use Rattle.std.proofs.lemmas.Option.{slice_get_within, get_or_from_slice_get, slice_get-get_or}
use Rattle.pungi_domain.specs.declared.affine_program.AffineProgram.{AffineProgram}
use Rattle.pungi_fixpoint.specs.Summaries.{flatten}
use Rattle.pungi_links.specs.Pending.{PendingState, Puts, Takes}
use Rattle.pungi_links.specs.Ring.{Stands}
use Rattle.pungi_summary.specs.Calls.{program_of}

pub get_same : {A : Type 0} (xs : List A) (j : ℕ) (v : A) → j < length xs → slice_get (slice_set xs j v) j ≡ Some v
get_same [] j v h = absurd (omega arith)
get_same (x ∷ xs) zero v h = refl
get_same (x ∷ xs) (suc j) v h = get_same xs j v (omega arith)

pub get_other : {A : Type 0} (xs : List A) (j k : ℕ) (v : A) → (k ≡ j → ⊥)
    → slice_get (slice_set xs j v) k ≡ slice_get xs k
get_other [] j k v h = refl
get_other (x ∷ xs) zero zero v h = absurd (h refl)
get_other (x ∷ xs) zero (suc k) v h = refl
get_other (x ∷ xs) (suc j) zero v h = refl
get_other (x ∷ xs) (suc j) (suc k) v h = get_other xs j k v (λ e. h (ap suc e))

pub get_push : {A : Type 0} (xs : List A) (x : A) (k : ℕ) (d : A) → slice_get (xs ++ x ∷ []) k ≡ Some d
    → (slice_get xs k ≡ Some d) ⊎ ((k ≡ length xs) × (d ≡ x))
get_push [] x zero d h = inr (refl, cc)
get_push [] x (suc k) d h = absurd (cc)
get_push (y ∷ xs) x zero d h = inl h
get_push (y ∷ xs) x (suc k) d h = elim (get_push xs x k d h) [
  | inl e ↦ inl e
  | inr e ↦ inr (ap suc e.0, e.1)
]

pub get_kept : {A : Type 0} (xs : List A) (x d : A) (i : ℕ) → slice_get xs i ≡ Some d
    → slice_get (xs ++ x ∷ []) i ≡ Some d
get_kept [] x d i h = absurd (cc)
get_kept (y ∷ xs) x d zero h = h
get_kept (y ∷ xs) x d (suc i) h = get_kept xs x d i h

pub get_last : {A : Type 0} (xs : List A) (x : A) → slice_get (xs ++ x ∷ []) (length xs) ≡ Some x
get_last [] x = refl
get_last (y ∷ xs) x = get_last xs x

pub length_more : {A : Type 0} (xs : List A) (x : A) → length (xs ++ x ∷ []) ≡ length xs + 1
length_more [] x = refl
length_more (y ∷ xs) x = omega (arith, length_more xs x)

pub read_default : {A : Type 0} (xs : List A) (k : ℕ) (d e : A) → k < length xs
    → slice_index_or xs k d ≡ slice_index_or xs k e
read_default [] k d e lt = absurd (omega (arith, lt))
read_default (x ∷ xs) zero d e lt = refl
read_default (x ∷ xs) (suc k) d e lt = read_default xs k d e (omega (arith, lt))

pub read_at : {A : Type 0} (xs ys : List A) (k : ℕ) (x : A) → ys ≡ xs → k < length xs → x ≡ slice_index_or ys k x
    → slice_get xs k ≡ Some x
read_at {A} xs ys k x same lt is =
    slice_get-get_or xs k x lt ∙ ap Some (sym (subst (λ (zs : List A). x ≡ slice_index_or zs k x) same is))

pub read_or : {A : Type 0} (xs : List A) (k : ℕ) (x d : A) → k < length xs → x ≡ slice_index_or xs k x
    → x ≡ slice_index_or xs k d
read_or xs k x d lt is = is ∙ read_default xs k x d lt

pub flat_read : {A : Type 0} (xs : List (Option A)) (k : ℕ) (d : Option A) → k < length xs
    → flatten (slice_get xs k) ≡ slice_index_or xs k d
flat_read xs k d lt = ap flatten (slice_get-get_or xs k d lt)

pub if_ok_to : {A E : Type 0} (r : Result A E) (P Q : A → Type 0) → ((a : A) → P a → Q a) → IfOk r P → IfOk r Q
if_ok_to (Ok a) P Q f h = f a h
if_ok_to (Err e) P Q f h = tt

pub read_under : {A : Type 0} (xs ys : List A) (k : ℕ) (x : A) → ys ≡ xs → k < length ys → x ≡ slice_index_or ys k x
    → slice_get xs k ≡ Some x
read_under {A} xs ys k x same lt is =
    subst (λ (zs : List A). slice_get zs k ≡ Some x) same (slice_get-get_or ys k x lt ∙ ap Some (sym is))

pub all_of : {A : Type 0} (P : A → Type 0) (xs : List A) → ((k : ℕ) (x : A) → slice_get xs k ≡ Some x → P x) → All P xs
all_of P xs h = λ k d lt. h k (slice_index_or xs k d) (slice_get-get_or xs k d lt)

pub all_at : {A : Type 0} (P : A → Type 0) (xs : List A) (k : ℕ) (x : A) → All P xs → slice_get xs k ≡ Some x → P x
all_at P xs k x all e = subst P (get_or_from_slice_get xs k x x e) (all k x (slice_get_within xs k x e))

pub within : {A : Type 0} (xs : List A) (k : ℕ) → k < length xs → (x : A) × (slice_get xs k ≡ Some x)
within [] k lt = absurd (omega arith)
within (x ∷ xs) zero lt = (x, refl)
within (x ∷ xs) (suc k) lt = within xs k (omega (arith, lt))

pub all_more : {X : Type 0} (P : X → Type 0) (xs : List X) (i : ℕ) (x : X) → i < length xs → x ≡ slice_index_or xs i x
    → All P (take i xs) → P x → All P (take (i + 1) xs)
all_more P xs i x lt is all p = All-more P xs i x lt all (subst P is p)

pub all_taken : {X : Type 0} (P : X → Type 0) (xs : List X) (n : ℕ) → length xs ≤ n → All P (take n xs) → All P xs
all_taken {X} P xs n le all = subst (λ (ys : List X). All P ys) (take_all n xs le) all

-- ---- programs

pub program_here : (ps : List (Option AffineProgram)) (f : ℕ) (o : Option AffineProgram) → f < length ps
    → o ≡ slice_index_or ps f o → program_of ps f ≡ o
program_here ps f o lt is = ap flatten (slice_get-get_or ps f o lt ∙ ap Some (sym is))

pub program_within : (ps : List (Option AffineProgram)) (f : ℕ) (p : AffineProgram) → program_of ps f ≡ Some p
    → f < length ps
program_within ps f p = go (slice_get ps f) refl
  where
    go : (o : Option (Option AffineProgram)) → slice_get ps f ≡ o → flatten o ≡ Some p → f < length ps
    go None e h = absurd (cc)
    go (Some o) e h = slice_get_within ps f o e

-- ---- queues

stands_more : (j : ℕ) (xs ys : List ℕ) → Stands j xs → Stands j (xs ++ ys)
stands_more j [] ys h = absurd h
stands_more j (x ∷ xs) ys h = elim h [ inl here ↦ inl here | inr on ↦ inr (stands_more j xs ys on) ]

stands_last : (j : ℕ) (xs : List ℕ) → Stands j (xs ++ j ∷ [])
stands_last j [] = inl refl
stands_last j (x ∷ xs) = inr (stands_last j xs)

-- what `put` does, whatever it returns
pub record IsPut (old : PendingState) (i : ℕ) (new : PendingState) : Type 0 where
  pub limit : new.limit ≡ old.limit
  pub there : Stands i new.list
  pub kept : (j : ℕ) → Stands j old.list → Stands j new.list
  pub one : length new.list ≤ length old.list + 1

pub put : (old : PendingState) (i : ℕ) (new : PendingState) (r : Bool) → Puts old i new r → IsPut old i new
put old i new true h =
    let limit : PendingState → ℕ = λ s. s.limit in
    let list : PendingState → List ℕ = λ s. s.list in
    let more : new.list ≡ old.list ++ i ∷ [] = ap list h.1 in
    record {
      limit = ap limit h.1;
      there = subst (λ (xs : List ℕ). Stands i xs) (sym more) (stands_last i old.list);
      kept = λ j s. subst (λ (xs : List ℕ). Stands j xs) (sym more) (stands_more j old.list (i ∷ []) s);
      one = rw more (omega (arith, length-append old.list (i ∷ [])));
    }
put old i new false h =
    let limit : PendingState → ℕ = λ s. s.limit in
    let list : PendingState → List ℕ = λ s. s.list in
    let same : new.list ≡ old.list = ap list h.1 in
    record {
      limit = ap limit h.1;
      there = subst (λ (xs : List ℕ). Stands i xs) (sym same) h.0;
      kept = λ j s. subst (λ (xs : List ℕ). Stands j xs) (sym same) s;
      one = rw same (omega arith);
    }

pub took_list : (q q' : PendingState) (k : ℕ) → Takes q q' (Some k) → q.list ≡ k ∷ q'.list
took_list q q' k e = (let list : PendingState → List ℕ = λ s. s.list in ap list e)

pub took_limit : (q q' : PendingState) (k : ℕ) → Takes q q' (Some k) → q'.limit ≡ q.limit
took_limit q q' k e = (let limit : PendingState → ℕ = λ s. s.limit in sym (ap limit e))
