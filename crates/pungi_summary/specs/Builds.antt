-- Builds of the programs of a file. Call edges read second spans of the exit classes, which grow round by round: a
-- round is a build of one program, from its first spans on, under the second spans as they are; then its exit spans are
-- added to the second ones.
--   AreFirstSpans least member ps second    each exit class of a program has a second span, of no vectors
--   IsAdded least member p f st old new     the second spans of f with the exit spans of a moment of its build added
--   AreSecondSpans least member ps second   the second spans after some rounds
--   LargeAdded member p f st second r       adding the exit spans is large
--   IsLargeRound least member ps f r        after some rounds a turn of a build of the program of f is large, or adding
--                          its exit spans; r is a scaled row of the large span, divided by the common divisor of its
--                          entries
use Rattle.std.specs.Prelude.{◌≡◌, ◌⊎◌, ℕ, ◌<◌, ℤ, Bool, List, length, Option, Some, slice_get}
use Rattle.std.specs.List.{slice_index_or}
use Rattle.pungi_domain.specs.Builds.{Covers, IsBuilt, IsLargeBuild, Stage}
use Rattle.pungi_domain.specs.Spans.{Zero, LargeGrow}
use Rattle.pungi_domain.specs.Vectors.{Vectors, Either}
use Rattle.pungi_domain.specs.declared.affine_program.AffineProgram.{AffineProgram}
use Rattle.pungi_summary.specs.Calls.{program_of}

abbrev pub AreFirstSpans : {S : Type 0} → Bool → (S → Vectors) → List (Option AffineProgram) → (ℕ → ℕ → Option S)
    → Type 0
AreFirstSpans {S} least member ps second =
    (f c : ℕ) (p : AffineProgram) → program_of ps f ≡ Some p → c < length p.exits
    → (s : S) × (second f c ≡ Some s)
    × Covers least (slice_index_or p.exits c 0) (Zero (slice_index_or p.exits c 0)) (member s)

pub record IsAdded {S : Type 0} (least : Bool) (member : S → Vectors) (p : AffineProgram) (f : ℕ) (st : Stage S)
    (old new : ℕ → ℕ → Option S) : Type 0 where
  pub others : (g c : ℕ) → (g ≡ f → ⊥) → new g c ≡ old g c
  pub added : (c : ℕ) (first second : S) → slice_get st.exits c ≡ Some first → old f c ≡ Some second
      → (s : S) × (new f c ≡ Some s)
      × Covers least (slice_index_or p.exits c 0) (Either (member second) (member first)) (member s)

pub data AreSecondSpans {S : Type 0} (least : Bool) (member : S → Vectors) (ps : List (Option AffineProgram))
    : (ℕ → ℕ → Option S) → Type 0 where
  spans_first : (second : ℕ → ℕ → Option S) → AreFirstSpans least member ps second
      → AreSecondSpans least member ps second
  spans_added : (old new : ℕ → ℕ → Option S) (f : ℕ) (p : AffineProgram) (st : Stage S)
      → AreSecondSpans least member ps old → program_of ps f ≡ Some p → IsBuilt least member p old st
      → IsAdded least member p f st old new → AreSecondSpans least member ps new

abbrev pub LargeAdded : {S : Type 0} → (S → Vectors) → AffineProgram → ℕ → Stage S → (ℕ → ℕ → Option S) → List ℤ
    → Type 0
LargeAdded {S} member p f st second r =
    (c : ℕ) × (first : S) × (s : S) × (slice_get st.exits c ≡ Some first) × (second f c ≡ Some s)
    × LargeGrow (slice_index_or p.exits c 0) (member s) (member first) r

pub record IsLargeRound {S : Type 0} (least : Bool) (member : S → Vectors) (ps : List (Option AffineProgram)) (f : ℕ)
    (r : List ℤ) : Type 0 where
  pub second : ℕ → ℕ → Option S
  pub spans : AreSecondSpans least member ps second
  pub program : AffineProgram
  pub program_is : program_of ps f ≡ Some program
  pub large : ((k : ℕ) × IsLargeBuild least member program second k r)
      ⊎ ((st : Stage S) × IsBuilt least member program second st × LargeAdded member program f st second r)
