-- When each verdict comes on a function in which no rule holds. Its code is judged with copies of the codes that it
-- calls in the place of its calls, up to four codes deep, and with an `int` in the place of each parameter that no
-- instruction names and whose reference isn't taken over. A run is free in which a computation that is no sum of a
-- token and a constant may give any number; it is left open where it returns unbalanced after such a computation, or
-- is blocked by a number.
--   file_codes c                the codes of a file
--   IsOpen codes f why          exploring leaves a function open for this reason
--   IsBlockedFirst codes f      a free run of a function is left open; or none is, and one is blocked by a loop
--   IsUnknown codes f why       this is why a function that calls none of the file is neither clean nor faulty. Traces:
--                               it has more traces than are explored, and no relations are found. Shapes, Range: such a
--                               run is left open or blocked, and the affine program, or a span, is too large. Number,
--                               Loop: so is it, first at this place, and there are no relations
--   IsDecided codes f v         a verdict on such a function is clean, faulty or unknown: clean only where there are
--                               few traces and no run is blocked, or where there are relations; unknown only for such
--                               a reason
--   AreRunsBalanced codes f     each run of a function that returns is balanced, where its calls end its runs
--   ShowsNoFault codes f        exploring finds no fault: all runs are balanced, and there are few traces, none of
--                               which is blocked; or there are many, or one is left open or blocked
--   IsLeftCall names code at name   the first call that is left in a code is at this place, of a function of this name
--   IsCut codes f names code v  a verdict on a function with calls that are left, which end its runs, is faulty; or it
--                               is unknown for the first of these calls, and exploring finds no fault
--   IsDecidedBy codes f names code v    a verdict on a function with this code is one or the other
--   IsDecidedAt names n code v  so is one on a function with this code, whose idle code stands in some file of so many
--                               static objects
--   code_in c d                 the code that is judged for a function of a file
--   IsCausedByCopies c d found v    a verdict on a function of a file with this finding, if it has one, comes for its
--                               cause where it is judged by that code
--   IsJudgedFrom c d v          a verdict on a function is that by this code, unless this leaves the function open and
--                               equations across the functions that it calls decide
--   IsCausedIn c d found v      a verdict on a function of a file with this finding, if it has one, comes for its cause
--   IsCaused c d line           so does one on a function
use Rattle.std.specs.Prelude.{◌≡◌, ◌⊎◌, ℕ, List, slice_get, Option, Some, None}
use Rattle.pungi_base.specs.declared.names.Name.{Name}
use Rattle.pungi_base.specs.declared.pos.Pos.{Pos}
use Rattle.pungi_base.specs.declared.verdict.Verdict.{Verdict}
use Rattle.pungi_base.specs.declared.verdict.Verdict.TheVariants as verdict
use Rattle.pungi_base.specs.declared.why.Why.{Why}
use Rattle.pungi_base.specs.declared.why.Why.TheVariants as why
use Rattle.pungi_types.specs.declared.finding.Finding.{Finding}
use Rattle.pungi_types.specs.Files.{Definition, definitions}
use Rattle.pungi_types.specs.Functions.{refusal}
use Rattle.pungi_types.specs.Refused.{CheckedFile}
use Rattle.pungi_resolve.specs.Functions.{resolved}
use Rattle.pungi_code.specs.declared.code.Code.{Code}
use Rattle.pungi_code.specs.declared.code.Codes.{Codes}
use Rattle.pungi_code.specs.Run.{code_at}
use Rattle.pungi_idle.specs.IdleCode.{idle}
use Rattle.pungi_inline.specs.FirstCall.{first_call}
use Rattle.pungi_inline.specs.Inlined.{inlined}
use Rattle.pungi_layout.specs.code.FunctionCode.{code_of}
use Rattle.pungi_lower.specs.Lowered.{codes_of, names_of}
use Rattle.pungi_explore.specs.Explored.{AreBalanced, IsFew, AreFollowed, IsMany, IsFirstNumber, IsFirstLoop}
use Rattle.pungi_shape.specs.Programs.{IsTooLarge}
use Rattle.pungi_verdict.specs.Across.{IsAcross}
use Rattle.pungi_verdict.specs.Relations.{HasLargeSpan, HasNoRelations, HasRelations, IsUndecided}
use Rattle.pungi_verdict.specs.Sound.{statics_of}

abbrev pub file_codes : CheckedFile → Codes
file_codes c = record { codes = codes_of c; statics = statics_of c; names = names_of c }

-- ---- functions whose code calls none of the file

abbrev pub IsOpen : Codes → ℕ → Why → Type 0
IsOpen codes f why.Traces = IsMany codes f
IsOpen codes f why.Shapes = ⊥
IsOpen codes f (why.Range at numbers) = ⊥
IsOpen codes f (why.Number at) = IsFirstNumber codes f at
IsOpen codes f (why.Loop at) = IsFirstLoop codes f at
IsOpen codes f (why.Call at n) = ⊥

abbrev pub IsBlockedFirst : Codes → ℕ → Type 0
IsBlockedFirst codes f = (p : Pos) × (IsFirstNumber codes f p ⊎ IsFirstLoop codes f p)

abbrev pub IsUnknown : Codes → ℕ → Why → Type 0
IsUnknown codes f why.Traces = IsMany codes f × IsUndecided codes f
IsUnknown codes f why.Shapes = IsBlockedFirst codes f × IsTooLarge codes f
IsUnknown codes f (why.Range at numbers) = IsBlockedFirst codes f × HasLargeSpan codes f at numbers
IsUnknown codes f (why.Number at) = IsFirstNumber codes f at × HasNoRelations codes f
IsUnknown codes f (why.Loop at) = IsFirstLoop codes f at × HasNoRelations codes f
IsUnknown codes f (why.Call at n) = ⊥

abbrev pub IsDecided : Codes → ℕ → Verdict → Type 0
IsDecided codes f verdict.Clean = (IsFew codes f × AreFollowed codes f) ⊎ HasRelations codes f
IsDecided codes f (verdict.Faulty fault) = Unit {0}
IsDecided codes f (verdict.Unknown because) = IsUnknown codes f because
IsDecided codes f (verdict.Refused at rule) = ⊥

-- ---- functions with calls that are left

abbrev pub AreRunsBalanced : Codes → ℕ → Type 0
AreRunsBalanced codes f = (code : Code) → code_at codes f ≡ Some code → AreBalanced codes.statics code

abbrev pub ShowsNoFault : Codes → ℕ → Type 0
ShowsNoFault codes f =
    (AreRunsBalanced codes f × (IsFew codes f × AreFollowed codes f)) ⊎ (IsMany codes f ⊎ IsBlockedFirst codes f)

abbrev pub IsLeftCall : List Name → Code → Pos → Name → Type 0
IsLeftCall names code at name =
    (g : ℕ) × ((first_call code.instrs ≡ Some (at, g)) × (slice_get names g ≡ Some name))

abbrev pub IsCut : Codes → ℕ → List Name → Code → Verdict → Type 0
IsCut codes f names code (verdict.Faulty fault) = Unit {0}
IsCut codes f names code (verdict.Unknown (why.Call at name)) = IsLeftCall names code at name × ShowsNoFault codes f
IsCut codes f names code v = ⊥

abbrev pub IsDecidedBy : Codes → ℕ → List Name → Code → Verdict → Option (Pos × ℕ) → Type 0
IsDecidedBy codes f names code v None = IsDecided codes f v
IsDecidedBy codes f names code v (Some call) = IsCut codes f names code v

pub record IsDecidedAt (names : List Name) (n : ℕ) (code : Code) (v : Verdict) : Type 0 where
  pub codes : Codes
  pub place : ℕ
  pub is : code_at codes place ≡ Some (idle code)
  pub statics : codes.statics ≡ n
  pub decided : IsDecidedBy codes place names code v (first_call code.instrs)

-- ---- functions of a file

abbrev pub code_in : CheckedFile → Definition → Code
code_in c d = inlined (codes_of c) (code_of (resolved c.file c.refused d))

abbrev pub IsCausedByCopies : CheckedFile → Definition → Option Finding → Verdict → Type 0
IsCausedByCopies c d (Some e) v = Unit {0}
IsCausedByCopies c d None v = IsDecidedAt (names_of c) (statics_of c) (code_in c d) v

pub record IsJudgedFrom (c : CheckedFile) (d : Definition) (v : Verdict) : Type 0 where
  pub first : Verdict
  pub by_copies : IsDecidedAt (names_of c) (statics_of c) (code_in c d) first
  pub place : ℕ
  pub is : slice_get (definitions c.file.items) place ≡ Some d
  pub across : IsAcross (file_codes c) place first v

abbrev pub IsCausedIn : CheckedFile → Definition → Option Finding → Verdict → Type 0
IsCausedIn c d (Some e) v = Unit {0}
IsCausedIn c d None v = IsJudgedFrom c d v

abbrev pub IsCaused : CheckedFile → Definition → Name × Verdict → Type 0
IsCaused c d line = IsCausedIn c d (refusal c.file c.refused d) line.1
