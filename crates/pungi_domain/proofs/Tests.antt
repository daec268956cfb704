-- Tests of lists, one element after the other.
use Rattle.std.proofs.Common.{◌≡◌, ◌∙◌, ℕ, ◌+◌, ◌<◌, ◌≤◌, ℤ, pos, List, length, map, All, slice_index_or, sym}
use Rattle.std.proofs.Common.{subst, arith, take}
use Rattle.std.proofs.lemmas.Bool.Decides.{Decides-eqb}
use Rattle.std.proofs.lemmas.List.{length-map, take_all, get_or-map, get_or_default}
use Rattle.std.proofs.lemmas.List.Elements.{All-more}
use Rattle.std.proofs.lemmas.Map.Made.{AllPairs-from_IsDistinct, IsDistinct-from_AllPairs}
use Rattle.pungi_domain.specs.Vectors.{IsMatrixRow}
use Rattle.pungi_domain.specs.WellFormed.{IsNew, coordinate}

pub all_more : {X : Type 0} (P : X → Type 0) (xs : List X) (i : ℕ) (x : X) → i < length xs → x ≡ slice_index_or xs i x
    → All P (take i xs) → P x → All P (take (i + 1) xs)
all_more P xs i x lt is all p = All-more P xs i x lt all (subst P is p)

pub all_taken : {X : Type 0} (P : X → Type 0) (xs : List X) (n : ℕ) → length xs ≤ n → All P (take n xs) → All P xs
all_taken {X} P xs n le all = subst (λ (ys : List X). All P ys) (take_all n xs le) all

names_at : (row : List (ℕ × ℤ)) (k d : ℕ) → k < length row
    → slice_index_or (map (λ (p : ℕ × ℤ). p.0) row) k d ≡ coordinate row k
names_at row k d lt = get_or-map (λ (p : ℕ × ℤ). p.0) row k (0, pos 0) d lt

pub matrix_row : (w : ℕ) (row : List (ℕ × ℤ)) → ((j : ℕ) → j < length row → IsNew w row j) → IsMatrixRow w row
matrix_row w row new = record {
  within = λ k d lt. subst (λ (p : ℕ × ℤ). p.0 < w) (get_or_default row k (0, pos 0) d lt) (new k lt).within;
  once = IsDistinct-from_AllPairs Decides-eqb (map (λ (p : ℕ × ℤ). p.0) row) (λ i j d lt in_names same.
      let in_row : j < length row = subst (λ (n : ℕ). j < n) (length-map row (λ (p : ℕ × ℤ). p.0)) in_names in
      (new j in_row).new (record {
        place = i;
        before = lt;
        same = sym (names_at row i d (omega (arith, lt, in_row))) ∙ same ∙ names_at row j d in_row;
      }));
}

pub row_new : (w : ℕ) (row : List (ℕ × ℤ)) → IsMatrixRow w row → (j : ℕ) → j < length row → IsNew w row j
row_new w row is j lt = record {
  within = is.within j (0, pos 0) lt;
  new = λ b.
      let pairs = AllPairs-from_IsDistinct Decides-eqb (map (λ (p : ℕ × ℤ). p.0) row) is.once in
      let in_names : j < length (map (λ (p : ℕ × ℤ). p.0) row) =
      subst (λ (n : ℕ). j < n) (sym (length-map row (λ (p : ℕ × ℤ). p.0))) lt in
      pairs b.place j 0 b.before in_names
      (names_at row b.place 0 (omega (arith, lt, b.before)) ∙ b.same ∙ sym (names_at row j 0 lt));
}
