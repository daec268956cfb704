-- Callers are added to the lists of callers.
use Rattle.std.proofs.Common.{◌≡◌, ℕ, zero, suc, ◌<◌, ◌≤◌, Bool, true, false, List, [], ◌∷◌, ◌++◌, length, get_or, Some}
use Rattle.std.proofs.Common.{Vec, refl, ◌∙◌, sym, arith}
use Rattle.std.specs.Prelude.{◌==◌, ◌&&◌, ◌||◌, slice_get, slice_set}
use Rattle.std.specs.declared.alloc.Global.{Global}
use Rattle.std.proofs.lemmas.Bool.Decides.{nat_tests}
use Rattle.std.proofs.lemmas.List.{length-set}
use Rattle.std.proofs.lemmas.Option.{slice_get_read}
use Rattle.std.proofs.lemmas.List.Folds.{list_any-append}
use Rattle.pungi_types.specs.Names.{is_among}
use Rattle.pungi_check.specs.Worklist.{callers_at, Added}
use Rattle.pungi_check.proofs.Least.{is_word}

pub set_same : {A : Type 0} → (xs : List A) (j : ℕ) (v : A) → j < length xs → slice_get (slice_set xs j v) j ≡ Some v
set_same [] j v h = absurd (omega arith)
set_same (x ∷ xs) zero v h = refl
set_same (x ∷ xs) (suc j) v h = set_same xs j v (omega arith)

not_same : (k j : ℕ) → (suc k == suc j) ≡ false → (k == j) ≡ false
not_same k j h = grind (arith, nat_tests)

pub set_other : {A : Type 0} → (xs : List A) (j k : ℕ) (v : A) → (k == j) ≡ false
    → slice_get (slice_set xs j v) k ≡ slice_get xs k
set_other [] j k v h = refl
set_other (x ∷ xs) zero zero v h = absurd (cc)
set_other (x ∷ xs) zero (suc k) v h = refl
set_other (x ∷ xs) (suc j) zero v h = refl
set_other (x ∷ xs) (suc j) (suc k) v h = set_other xs j k v (not_same k j h)

or_end : (a b : Bool) → (a || (b || false)) ≡ (a || (b && true))
or_end true b = refl
or_end false true = refl
or_end false false = refl

pub and_none : (a b : Bool) → a ≡ (a || (b && false))
and_none true b = refl
and_none false true = refl
and_none false false = refl

or_split : (a e p q : Bool) → ((a || (e && p)) || (e && q)) ≡ (a || (e && (p || q)))
or_split true e p q = refl
or_split false true p q = refl
or_split false false p q = refl

-- one caller more of one function
pub added_one : (cs : List (Vec ℕ Global)) (j i : ℕ) (old new : Vec ℕ Global) → j < length cs
    → old ≡ get_or cs j old → new.items ≡ old.items ++ i ∷ [] → Added cs (slice_set cs j new) i (j ∷ [])
added_one cs j i old new h g n = let o = slice_get_read cs (length cs) j old refl h g in record {
  count = length-set cs j new;
  adds = λ k m l. elim (k == j) as (λ b. ((k == j) ≡ b)
      → is_among (callers_at (slice_set cs j new) k) m ≡ (is_among (callers_at cs k) m || (m == i && (b || false)))) [
        | true ↦ λ e.
            let q : k ≡ j = sym (is_word k j e) in
            rw (q, set_same cs j new h, o, n, list_any-append (λ x. m == x) old.items (i ∷ []))
            (or_end (is_among old.items m) (m == i))
        | false ↦ λ e. rw (set_other cs j k new e) (and_none (is_among (callers_at cs k) m) (m == i))
      ] refl;
}

-- a number that no function has is passed over
pub added_nowhere : (cs : List (Vec ℕ Global)) (j i : ℕ) → length cs ≤ j → Added cs cs i (j ∷ [])
added_nowhere cs j i h = record {
  count = refl;
  adds = λ k m l. elim (k == j) as (λ b. ((k == j) ≡ b)
      → is_among (callers_at cs k) m ≡ (is_among (callers_at cs k) m || (m == i && (b || false)))) [
        | true ↦ λ e. let q : j ≡ k = is_word k j e in absurd (omega arith)
        | false ↦ λ e. and_none (is_among (callers_at cs k) m) (m == i)
      ] refl;
}

pub added_none : (cs : List (Vec ℕ Global)) (i : ℕ) → Added cs cs i []
added_none cs i = record { count = refl; adds = λ k m l. and_none (is_among (callers_at cs k) m) (m == i) }

pub added_then : (a b c : List (Vec ℕ Global)) (i : ℕ) (js ks : List ℕ) → Added a b i js → Added b c i ks
    → Added a c i (js ++ ks)
added_then a b c i js ks f g = record {
  count = g.count ∙ f.count;
  adds = λ k m l.
      let first = f.adds k m l in
      let within : k < length b = rw f.count l in
      let second = g.adds k m within in
      rw (second, first, list_any-append (λ x. k == x) js ks) (or_split (is_among (callers_at a k) m) (m == i)
      (is_among js k) (is_among ks k));
}
