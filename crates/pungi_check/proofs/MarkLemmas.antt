-- Functions are marked, and wait.
use Rattle.std.proofs.Common.{◌≡◌, ℕ, zero, suc, ◌+◌, ◌<◌, ◌≤◌, Bool, true, false, ◌⊎◌, inl, inr, List, [], ◌∷◌, ◌++◌}
use Rattle.std.proofs.Common.{length, get_or, refl, ◌∙◌, sym, arith, length-append}
use Rattle.std.specs.Prelude.{◌==◌, nat_lt, ◌&&◌, ◌||◌, not, slice_set}
use Rattle.std.proofs.lemmas.Bool.Decides.{nat_tests}
use Rattle.std.proofs.lemmas.List.{length-set, get_or-set_same, get_or-set_other}
use Rattle.std.proofs.lemmas.List.Folds.{list_any-append}
use Rattle.pungi_types.specs.Names.{is_among}
use Rattle.pungi_check.specs.Worklist.{unmarked, Visited}
use Rattle.pungi_check.proofs.Monotone.{same_word}
use Rattle.pungi_check.proofs.Least.{is_word}

unmarked-set : (marks : List Bool) (i : ℕ) → i < length marks → get_or marks i false ≡ false
    → unmarked (slice_set marks i true) + 1 ≡ unmarked marks
unmarked-set [] i h k = absurd (omega arith)
unmarked-set (true ∷ marks) zero h k = absurd (cc)
unmarked-set (false ∷ marks) zero h k = refl
unmarked-set (true ∷ marks) (suc i) h k = unmarked-set marks i (omega arith) k
unmarked-set (false ∷ marks) (suc i) h k = let r = unmarked-set marks i (omega arith) k in omega arith

set_elsewhere : (marks : List Bool) (i k : ℕ) → (k == i) ≡ false
    → get_or (slice_set marks i true) k false ≡ get_or marks k false
set_elsewhere marks i k h =
    get_or-set_other marks i k true false (λ q. let s = same_word i in let p : (i == i)
    ≡ false = rw q at h in absurd (cc))

pub is_below : (i n : ℕ) → i < n → nat_lt i n ≡ true
is_below i n h = grind (arith, nat_tests)

is_past : (i n : ℕ) → n ≤ i → nat_lt i n ≡ false
is_past i n h = grind (arith, nat_tests)

or_true : (a : Bool) → true ≡ (a || true)
or_true true = refl
or_true false = refl

or_nothing : (a : Bool) → a ≡ (a || false)
or_nothing true = refl
or_nothing false = refl

or_same : (a b : Bool) → b ≡ false → a ≡ (a || b)
or_same true b h = refl
or_same false b h = sym h

and_not : (b : Bool) → (b && not b) ≡ false
and_not true = refl
and_not false = refl

or_kept : (a b : Bool) → (a || (false || false)) ≡ (a || (b && not b))
or_kept true b = refl
or_kept false true = refl
or_kept false false = refl

-- a function that wasn't marked
pub visited_one : (marks : List Bool) (i : ℕ) (w : List ℕ) → i < length marks → get_or marks i false ≡ false
    → Visited marks (slice_set marks i true) w (w ++ i ∷ []) (i ∷ [])
visited_one marks i w h u = record {
  count = length-set marks i true;
  marks = λ k. elim (k == i) as (λ b. ((k == i) ≡ b)
      → get_or (slice_set marks i true) k false ≡ (get_or marks k false || ((b || false) && nat_lt k (length marks)))) [
        | true ↦ λ e. let q : k ≡ i = sym (is_word k i e) in rw (
          q,
          get_or-set_same marks i true false h,
          is_below i
              (length marks) h,
        ) (or_true (get_or marks i false))
        | false ↦ λ e. rw (set_elsewhere marks i k e) (or_nothing (get_or marks k false))
      ] refl;
  waits = λ k. rw (list_any-append (λ x. k == x) w (i ∷ []))
      (elim (k == i) as (λ b. ((k == i) ≡ b) → (is_among w k || (b || false))
      ≡ (is_among w k || (get_or (slice_set marks i true) k false && not (get_or marks k false)))) [
        | true ↦ λ e. let q : k ≡ i = sym (is_word k i e) in rw (q, get_or-set_same marks i true false h, u) refl
        | false ↦ λ e. rw (set_elsewhere marks i k e) (or_kept (is_among w k) (get_or marks k false))
      ] refl);
  weight = let l = length-append w (i ∷ []) in let s = unmarked-set marks i h u in omega arith;
}

pub visited_pushed : (marks : List Bool) (i : ℕ) (w w' : List ℕ) → i < length marks → get_or marks i false ≡ false
    → w' ≡ w ++ i ∷ [] → Visited marks (slice_set marks i true) w w' (i ∷ [])
visited_pushed marks i w w' h u e = rw e (visited_one marks i w h u)

-- one that was marked, or that no function is
pub visited_passed : (marks : List Bool) (i : ℕ) (w : List ℕ) → (get_or marks i false ≡ true) ⊎ (length marks ≤ i)
    → Visited marks marks w w (i ∷ [])
visited_passed marks i w h = record {
  count = refl;
  marks = λ k. elim (k == i) as (λ b. ((k == i) ≡ b)
      → get_or marks k false ≡ (get_or marks k false || ((b || false) && nat_lt k (length marks)))) [
        | true ↦ λ e.
            let q : k ≡ i = sym (is_word k i e) in
            elim h [
              | inl m ↦ rw (q, m) refl
              | inr l ↦ rw (q, is_past i (length marks) l)
                  (or_nothing (get_or marks i false))
            ]
        | false ↦ λ e. or_nothing (get_or marks k false)
      ] refl;
  waits = λ k. or_same (is_among w k) (get_or marks k false && not (get_or marks k false))
      (and_not (get_or marks k false));
  weight = refl;
}

pub visited_none : (marks : List Bool) (w : List ℕ) → Visited marks marks w w []
visited_none marks w = record {
  count = refl;
  marks = λ k. or_nothing (get_or marks k false);
  waits = λ k. or_same (is_among w k) (get_or marks k false && not (get_or marks k false))
      (and_not (get_or marks k false));
  weight = refl;
}

both_marked : (a i j l : Bool) → ((a || (i && l)) || (j && l)) ≡ (a || ((i || j) && l))
both_marked true i j l = refl
both_marked false true true true = refl
both_marked false true true false = refl
both_marked false true false true = refl
both_marked false true false false = refl
both_marked false false j l = refl

both_wait : (w a y x : Bool) → ((w || ((a || y) && not a)) || (((a || y) || x) && not (a || y)))
    ≡ (w || (((a || y) || x) && not a))
both_wait true a y x = refl
both_wait false true y x = refl
both_wait false false true x = refl
both_wait false false false x = refl

pub visited_then : (a b c : List Bool) (w v u is js : List ℕ) → Visited a b w v is → Visited b c v u js
    → Visited a c w u (is ++ js)
visited_then a b c w v u is js f g = record {
  count = g.count ∙ f.count;
  marks = λ k. rw (g.marks k, f.marks k, f.count, list_any-append (λ x. k == x) is js)
      (both_marked (get_or a k false) (is_among is k) (is_among js k) (nat_lt k (length a)));
  waits = λ k. rw (g.waits k, f.waits k, g.marks k, f.marks k)
      (both_wait (is_among w k) (get_or a k false) (is_among is k && nat_lt k (length a))
      (is_among js k && nat_lt k (length b)));
  weight = let p = f.weight in let q = g.weight in omega arith;
}
