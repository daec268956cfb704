-- Restored arguments, one after another.
use Rattle.std.proofs.Common.{◌≡◌, ℕ, zero, suc, ◌+◌, ◌<◌, ◌≤◌, List, [], ◌∷◌, ◌++◌, length, arith, refl, sym, ap, ◌∙◌}
use Rattle.std.proofs.Common.{drop}
use Rattle.std.specs.Prelude.{get_or, slice_get}
use Rattle.std.proofs.Math.ListN.{drop_of_length-le}
use Rattle.std.proofs.Math.Seq.{drop-cons}
use Rattle.std.proofs.lemmas.List.{append-nil, append_assoc}
use Rattle.pungi_base.specs.declared.value.Value.{Value}
use Rattle.pungi_api.specs.declared.param.Param.{Param}
use Rattle.pungi_idle.proofs.Naming.{next_place}
use Rattle.pungi_idle.specs.RestoredRun.{restored_at, restored_values}

module _ (n : ℕ) where
  step : (k : ℕ) (ks : List Param) (i : ℕ) (v : Value) (vs : List Value)
      → restored_values n k (drop i ks) (v ∷ vs)
      ≡ restored_at n k (slice_get ks i) v ∷ restored_values n (k + 1) (drop (suc i) ks) vs
  step k [] zero v vs = refl
  step k [] (suc i) v vs = refl
  step k (p ∷ ks) zero v vs = refl
  step k (p ∷ ks) (suc i) v vs = step k ks i v vs

  restored_none : (k : ℕ) (ks : List Param) → restored_values n k ks [] ≡ []
  restored_none k [] = refl
  restored_none k (p ∷ ks) = refl

  -- one more
  pub restored_more : (k : ℕ) (ks : List Param) (vs out new : List Value) (i : ℕ) (v r : Value) → i < length vs
      → new ≡ out ++ r ∷ [] → r ≡ restored_at n (k + i) (slice_get ks i) (get_or vs i v)
      → out ++ restored_values n (k + i) (drop i ks) (drop i vs) ≡ restored_values n k ks vs
      → new ++ restored_values n (k + (i + 1)) (drop (i + 1) ks) (drop (i + 1) vs) ≡ restored_values n k ks vs
  restored_more k ks vs out new i v r lt is made before =
      let rest = drop (i + 1) vs in
      let more = restored_values n (k + (i + 1)) (drop (i + 1) ks) rest in
      let further : (k + i) + 1 ≡ k + (i + 1) = omega arith in
      let here : drop i vs ≡ get_or vs i v ∷ rest = drop-cons vs i v lt
      ∙ ap (λ m. get_or vs i v ∷ drop m vs) (next_place i) in
      let first = restored_at n (k + i) (slice_get ks i) (get_or vs i v) in
      let stepped : restored_values n (k + i) (drop i ks) (get_or vs i v ∷ rest) ≡ first ∷ more =
      step (k + i) ks i (get_or vs i v) rest
      ∙ ap (λ m. first ∷ restored_values n m (drop (suc i) ks) rest) further
      ∙ ap (λ m. first ∷ restored_values n (k + (i + 1)) (drop m ks) rest) (next_place i) in
      let one : r ∷ more ≡ restored_values n (k + i) (drop i ks) (drop i vs) = ap (λ (x : Value). x ∷ more) made
      ∙ sym stepped ∙ sym (ap (restored_values n (k + i) (drop i ks)) here) in
      ap (λ (xs : List Value). xs ++ more) is ∙ append_assoc out (r ∷ []) more
      ∙ ap (λ (xs : List Value). out ++ xs) one ∙ before

  -- all
  pub restored_all : (k : ℕ) (ks : List Param) (vs out : List Value) (i : ℕ) → length vs ≤ i
      → out ++ restored_values n (k + i) (drop i ks) (drop i vs) ≡ restored_values n k ks vs
      → out ≡ restored_values n k ks vs
  restored_all k ks vs out i le before =
      let none : restored_values n (k + i) (drop i ks) (drop i vs) ≡ [] =
      ap (restored_values n (k + i) (drop i ks)) (drop_of_length-le vs le) ∙ restored_none (k + i) (drop i ks) in
      sym (append-nil out) ∙ sym (ap (λ (xs : List Value). out ++ xs) none) ∙ before
