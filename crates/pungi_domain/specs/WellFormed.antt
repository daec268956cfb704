-- What the test of a program looks at, one number after the other.
--   coordinate row k     the coordinate that the entry k of a row of a matrix names
--   ComesBefore row k    an entry before k names the same one
--   IsNew w row k        it is below w, and no entry before names it
--   CountUp w onto       the numbers are w, w + 1 and so on
use Rattle.std.specs.Prelude.{◌≡◌, ℕ, ◌+◌, ◌<◌, ℤ, pos, List, length}
use Rattle.std.specs.List.{slice_index_or}

abbrev pub coordinate : List (ℕ × ℤ) → ℕ → ℕ
coordinate row k = (slice_index_or row k (0, pos 0)).0

pub record ComesBefore (row : List (ℕ × ℤ)) (k : ℕ) : Type 0 where
  pub place : ℕ
  pub before : place < k
  pub same : coordinate row place ≡ coordinate row k

pub record IsNew (w : ℕ) (row : List (ℕ × ℤ)) (k : ℕ) : Type 0 where
  pub within : coordinate row k < w
  pub new : ComesBefore row k → ⊥

abbrev pub CountUp : ℕ → List ℕ → Type 0
CountUp w onto = (i : ℕ) → i < length onto → slice_index_or onto i 0 ≡ w + i
