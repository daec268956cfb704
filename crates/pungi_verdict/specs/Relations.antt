-- What linear equations between the numbers of a function show of its runs (Karr 1976): whether some hold at each
-- place of its affine program that each edge keeps, by which nothing is owed where a token is dropped or the function
-- returns.
--   AreRelations p              a program has such equations, given by the spans of the vectors that meet them
--   OwesNothing p               nothing is owed on any edge of a program
--   HasRelations codes f        the program of a function has some
--   AreNone p                   a program has none
--   HasNoRelations codes f      the program of a function has none
--   clamped n                   a number, or the end of the range of 64 bits that it is past
--   no_span f c                 no function of the file is called, and so none has a span at an exit class
--   IsLarge p at ns             the search for the least equations leads to a span with a scaled row that has an entry
--                               over 2^31, over an edge from a place with this position; these are the row's numbers,
--                               clamped
--   HasLargeSpan codes f at ns  so it is in the program of a function, at a place with this position
--   IsUndecided codes f         none are found: there are none, the affine program is too large, or so is a span
--   IsSolved p r, IsTried codes f r    what the search ended with is so, for a program and for a function
--   is_found r                  it ended with some
--   IsTriedIfMade codes f o     if it was made, what it ended with is so
--   unless_traces reason why, verdict_after reason r    the verdict where exploring left a function open for this reason,
--                               and the search ended so: too many traces are reported before all else
use Rattle.std.specs.Prelude.{◌≡◌, ◌⊎◌, ℕ, ◌-◌, ◌^◌, ℤ, pos, negsuc, int_le, Bool, true, false, List, [], map, slice_get}
use Rattle.std.specs.Prelude.{Option, Some, None, if◌then◌else◌}
use Rattle.std.specs.List.{All}
use Rattle.pungi_base.specs.declared.pos.Pos.{Pos}
use Rattle.pungi_base.specs.declared.verdict.Verdict.{Verdict}
use Rattle.pungi_base.specs.declared.verdict.Verdict.TheVariants as verdict
use Rattle.pungi_base.specs.declared.why.Why.{Why}
use Rattle.pungi_base.specs.declared.why.Why.TheVariants as why
use Rattle.pungi_domain.specs.Annotations.{IsInductive, IsSafe, IsSafeAnnotation, Rows}
use Rattle.pungi_domain.specs.Builds.{IsLargeBuild}
use Rattle.pungi_domain.specs.declared.affine_program.AffineProgram.{AffineProgram}
use Rattle.pungi_affine.specs.States.{SpanMember, SpanState}
use Rattle.pungi_code.specs.declared.code.Codes.{Codes}
use Rattle.pungi_shape.specs.Programs.{IsProgram, IsTooLarge}
use Rattle.pungi_shape.specs.Promises.{no_vectors, vectors_of}
use Rattle.pungi_verdict.specs.declared.relations.Tried.{Tried}
use Rattle.pungi_verdict.specs.declared.relations.Tried.TheVariants as tried

pub record AreRelations (program : AffineProgram) : Type 0 where
  pub at : ℕ → Option SpanState
  pub exits : ℕ → Option SpanState
  pub inductive : IsInductive program no_vectors (λ k. vectors_of SpanMember (at k))
      (λ k. vectors_of SpanMember (exits k))
  pub safe : IsSafe program (λ k. vectors_of SpanMember (at k))

abbrev pub OwesNothing : AffineProgram → Type 0
OwesNothing program = All (λ e. e.duties ≡ []) program.edges

pub record HasRelations (codes : Codes) (f : ℕ) : Type 0 where
  pub program : AffineProgram
  pub is : IsProgram codes f program
  pub are : AreRelations program

abbrev pub AreNone : AffineProgram → Type 0
AreNone program = (rows : Rows) → IsSafeAnnotation program no_vectors rows → ⊥

pub record HasNoRelations (codes : Codes) (f : ℕ) : Type 0 where
  pub program : AffineProgram
  pub is : IsProgram codes f program
  pub none : AreNone program

abbrev pub clamped : ℤ → ℤ
clamped n =
    if int_le n (negsuc (2 ^ 63 - 1)) then negsuc (2 ^ 63 - 1)
    else if int_le (pos (2 ^ 63 - 1)) n then pos (2 ^ 63 - 1) else n

abbrev pub no_span : ℕ → ℕ → Option SpanState
no_span f c = None

pub record IsLarge (program : AffineProgram) (at : Pos) (numbers : List ℤ) : Type 0 where
  pub place : ℕ
  pub row : List ℤ
  pub large : IsLargeBuild true SpanMember program no_span place row
  pub is : slice_get program.at place ≡ Some at
  pub are : numbers ≡ map clamped row

pub record HasLargeSpan (codes : Codes) (f : ℕ) (at : Pos) (numbers : List ℤ) : Type 0 where
  pub program : AffineProgram
  pub is : IsProgram codes f program
  pub large : IsLarge program at numbers

abbrev pub IsUndecided : Codes → ℕ → Type 0
IsUndecided codes f =
    HasNoRelations codes f ⊎ IsTooLarge codes f ⊎ ((at : Pos) × (numbers : List ℤ) × HasLargeSpan codes f at numbers)

-- ---- the search

abbrev pub IsSolved : AffineProgram → Tried → Type 0
IsSolved program tried.Found = AreRelations program
IsSolved program tried.NotFound = AreNone program
IsSolved program tried.TooLarge = ⊥
IsSolved program (tried.LargeSpan at numbers) = IsLarge program at numbers

abbrev pub IsTried : Codes → ℕ → Tried → Type 0
IsTried codes f tried.Found = HasRelations codes f
IsTried codes f tried.NotFound = HasNoRelations codes f
IsTried codes f tried.TooLarge = IsTooLarge codes f
IsTried codes f (tried.LargeSpan at numbers) = HasLargeSpan codes f at numbers

abbrev pub is_found : Tried → Bool
is_found tried.Found = true
is_found tried.NotFound = false
is_found tried.TooLarge = false
is_found (tried.LargeSpan at numbers) = false

abbrev pub IsTriedIfMade : Codes → ℕ → Option Tried → Type 0
IsTriedIfMade codes f None = Unit {0}
IsTriedIfMade codes f (Some t) = IsTried codes f t

-- ---- verdicts

abbrev pub unless_traces : Why → Why → Why
unless_traces why.Traces other = why.Traces
unless_traces reason other = other

abbrev pub verdict_after : Why → Tried → Verdict
verdict_after reason tried.Found = verdict.Clean
verdict_after reason tried.NotFound = verdict.Unknown reason
verdict_after reason tried.TooLarge = verdict.Unknown (unless_traces reason why.Shapes)
verdict_after reason (tried.LargeSpan at numbers) = verdict.Unknown (unless_traces reason (why.Range at numbers))
