-- What linear equations between the numbers of functions that call each other show of the runs of one of them, through
-- all calls, however deep (Karr 1976; Sharir and Pnueli 1981, the functional approach): whether some hold at each place
-- of the affine programs of a function and of those that it reaches by calls that each edge keeps, where a call finds
-- those at the exit classes of the function that it calls, and by which nothing is owed where a token is dropped or
-- where the function itself returns.
--   ArePrograms codes ps        these are the affine programs of the functions of a file: a function with code has one
--                               unless it, or one that it reaches by calls, is too large
--   AreCallees codes ns         these are, for each function, the functions that it calls
--   FilePrograms codes          the functions of a file by both
--   HasEachProgram file f       each function that a function reaches by calls has a program
--   HasRelationsAcross codes f  there are such equations, given by the spans of the vectors that meet them
--   HasNoRelationsAcross codes f    there are none
--   position_of o k             the position of a place of a program
--   HasLargeSpanAcross codes f at ns    the search for the least equations leads to a span with a scaled row that has
--                               an entry over 2^31, in the program of a function that f reaches: at is the position of
--                               a place of f's program, from which a call leads to it unless it is f itself; ns are the
--                               row's numbers, clamped
--   IsTriedAcross codes f t     what the search ended with is so
--   if_call reason other        the second reason where the first one is a call that is left; the first one elsewhere
--   verdict_across reason t     the verdict where a function was left open for this reason by its code with copies, and
--                               the search ended so
--   CallsNoFunction codes f     no instruction of the code of a function calls a function of the file
--   is_unknown v                a verdict says that a function is unknown
--   IsAcross codes f first v    where the code with copies gives the first verdict, the other one is that on the
--                               function: a function that is left open and that calls others is judged by this search
--   IsProgramAmong codes others f o, AreProgramsAmong codes others ps    this is the program of a function, if it has
--                               one, as it is made where the exit classes of the others are given; those of all
--                               functions
--   IsStateFor codes ps ns f s  what a state says of a function of a file with these programs and calls
--   AreSummaries codes a        so it is with the states of all functions that have code
use Rattle.std.specs.Prelude.{◌≡◌, ◌⊎◌, ◌↔◌, ℕ, ℤ, Bool, true, false, List, length, map, get_or, slice_get, Option}
use Rattle.std.specs.Prelude.{Some, None, IsSome}
use Rattle.std.specs.List.{All, IsAmong}
use Rattle.pungi_base.specs.declared.pos.Pos.{Pos}
use Rattle.pungi_base.specs.declared.verdict.Verdict.{Verdict}
use Rattle.pungi_base.specs.declared.verdict.Verdict.TheVariants as verdict
use Rattle.pungi_base.specs.declared.why.Why.{Why}
use Rattle.pungi_base.specs.declared.why.Why.TheVariants as why
use Rattle.pungi_domain.specs.Annotations.{Rows}
use Rattle.pungi_domain.specs.Programs.{IsWellFormed}
use Rattle.pungi_domain.specs.declared.affine_program.AffineProgram.{AffineProgram}
use Rattle.pungi_affine.specs.States.{SpanMember, SpanState}
use Rattle.pungi_fixpoint.specs.declared.state.State.{State}
use Rattle.pungi_fixpoint.specs.declared.state.State.TheVariants as state
use Rattle.pungi_summary.specs.Calls.{IsCalled, Reaches, program_of}
use Rattle.pungi_summary.specs.Families.{AreSafe, AreSafeRows}
use Rattle.pungi_summary.specs.Results.{HasRange}
use Rattle.pungi_meaning.specs.Run.{nowhere}
use Rattle.pungi_code.specs.declared.code.Code.{Code}
use Rattle.pungi_code.specs.declared.code.Codes.{Codes}
use Rattle.pungi_code.specs.Alone.{CallsNone}
use Rattle.pungi_code.specs.Run.{code_at}
use Rattle.pungi_shape.specs.Callables.{IsCallOf}
use Rattle.pungi_shape.specs.declared.shape.Shape.{Shape}
use Rattle.pungi_shape.specs.Named.{callees_of}
use Rattle.pungi_shape.specs.Programs.{AreExits, IsProgram, IsTooLarge}
use Rattle.pungi_shape.specs.Promises.{vectors_of}
use Rattle.pungi_verdict.specs.declared.across.Across.{Across}
use Rattle.pungi_verdict.specs.declared.relations.Tried.{Tried}
use Rattle.pungi_verdict.specs.declared.relations.Tried.TheVariants as tried
use Rattle.pungi_verdict.specs.Relations.{clamped}

-- ---- the functions of a file

pub record ArePrograms (codes : Codes) (ps : List (Option AffineProgram)) : Type 0 where
  pub count : length ps ≡ length codes.codes
  pub each : (f : ℕ) (p : AffineProgram) → program_of ps f ≡ Some p → IsProgram codes f p
  pub none : (f : ℕ) (code : Code) → code_at codes f ≡ Some code → program_of ps f ≡ None → IsTooLarge codes f

pub record AreCallees (codes : Codes) (ns : List (List ℕ)) : Type 0 where
  pub count : length ns ≡ length codes.codes
  pub calls : (f g : ℕ) → IsCalled ns f g ↔ IsAmong (callees_of codes f) g

pub record FilePrograms (codes : Codes) : Type 0 where
  pub programs : List (Option AffineProgram)
  pub callees : List (List ℕ)
  pub are_programs : ArePrograms codes programs
  pub are_callees : AreCallees codes callees

abbrev pub HasEachProgram : {codes : Codes} → FilePrograms codes → ℕ → Type 0
HasEachProgram file f = (g : ℕ) → Reaches file.callees f g → IsSome (program_of file.programs g)

-- ---- equations

pub record HasRelationsAcross (codes : Codes) (f : ℕ) : Type 0 where
  pub file : FilePrograms codes
  pub programs : HasEachProgram file f
  pub at : ℕ → ℕ → Option SpanState
  pub exits : ℕ → ℕ → Option SpanState
  pub safe : AreSafe file.programs file.callees (λ g k. vectors_of SpanMember (at g k))
      (λ g c. vectors_of SpanMember (exits g c)) f

pub record HasNoRelationsAcross (codes : Codes) (f : ℕ) : Type 0 where
  pub file : FilePrograms codes
  pub programs : HasEachProgram file f
  pub none : (rows : ℕ → Rows) → AreSafeRows file.programs file.callees rows f → ⊥

abbrev pub position_of : Option AffineProgram → ℕ → Pos
position_of None k = nowhere
position_of (Some p) k = get_or p.at k nowhere

pub record HasLargeSpanAcross (codes : Codes) (f : ℕ) (at : Pos) (numbers : List ℤ) : Type 0 where
  pub file : FilePrograms codes
  pub place : ℕ
  pub row : List ℤ
  pub large : HasRange true SpanMember file.programs file.callees f place row
  pub is : at ≡ position_of (program_of file.programs f) place
  pub are : numbers ≡ map clamped row

abbrev pub IsTriedAcross : Codes → ℕ → Tried → Type 0
IsTriedAcross codes f tried.Found = HasRelationsAcross codes f
IsTriedAcross codes f tried.NotFound = HasNoRelationsAcross codes f
IsTriedAcross codes f tried.TooLarge = IsTooLarge codes f
IsTriedAcross codes f (tried.LargeSpan at numbers) = HasLargeSpanAcross codes f at numbers

-- ---- verdicts

abbrev pub if_call : Why → Why → Why
if_call (why.Call at name) other = other
if_call why.Traces other = why.Traces
if_call why.Shapes other = why.Shapes
if_call (why.Range at numbers) other = why.Range at numbers
if_call (why.Number at) other = why.Number at
if_call (why.Loop at) other = why.Loop at

abbrev pub verdict_across : Why → Tried → Verdict
verdict_across reason tried.Found = verdict.Clean
verdict_across reason tried.NotFound = verdict.Unknown reason
verdict_across reason tried.TooLarge = verdict.Unknown (if_call reason why.Shapes)
verdict_across reason (tried.LargeSpan at numbers) = verdict.Unknown (if_call reason (why.Range at numbers))

abbrev pub CallsNoFunction : Codes → ℕ → Type 0
CallsNoFunction codes f = (code : Code) → code_at codes f ≡ Some code → CallsNone code.instrs

abbrev pub is_unknown : Verdict → Bool
is_unknown verdict.Clean = false
is_unknown (verdict.Faulty fault) = false
is_unknown (verdict.Unknown because) = true
is_unknown (verdict.Refused at rule) = false

abbrev pub IsAcross : Codes → ℕ → Verdict → Verdict → Type 0
IsAcross codes f (verdict.Unknown reason) v =
    (CallsNoFunction codes f × (v ≡ verdict.Unknown reason))
    ⊎ ((t : Tried) × (IsTriedAcross codes f t × (v ≡ verdict_across reason t)))
IsAcross codes f verdict.Clean v = v ≡ verdict.Clean
IsAcross codes f (verdict.Faulty fault) v = v ≡ verdict.Faulty fault
IsAcross codes f (verdict.Refused at rule) v = v ≡ verdict.Refused at rule

-- ---- the search

abbrev pub IsProgramAmong : Codes → (ℕ → List Shape) → ℕ → Option AffineProgram → Type 0
IsProgramAmong codes others f None = (code : Code) → code_at codes f ≡ Some code → IsTooLarge codes f
IsProgramAmong codes others f (Some p) =
    IsProgram codes f p × AreExits codes f (others f) × IsWellFormed p
    × All (λ e. IsCallOf codes others f e.action) p.edges

pub record AreProgramsAmong (codes : Codes) (others : ℕ → List Shape) (ps : List (Option AffineProgram)) : Type 0 where
  pub count : length ps ≡ length codes.codes
  pub each : (f : ℕ) (o : Option AffineProgram) → slice_get ps f ≡ Some o → IsProgramAmong codes others f o

abbrev pub IsStateFor : Codes → List (Option AffineProgram) → List (List ℕ) → ℕ → State → Type 0
IsStateFor codes ps ns f state.Safe = HasRelationsAcross codes f
IsStateFor codes ps ns f (state.NotSafe k) = HasNoRelationsAcross codes f
IsStateFor codes ps ns f state.Shapes = IsTooLarge codes f
IsStateFor codes ps ns f (state.Range k row) = HasRange true SpanMember ps ns f k row

pub record AreSummaries (codes : Codes) (a : Across) : Type 0 where
  pub are_programs : ArePrograms codes a.programs
  pub are_callees : AreCallees codes a.callees
  pub count : length a.summaries.states ≡ length codes.codes
  pub states : (f : ℕ) (code : Code) (s : State) → code_at codes f ≡ Some code → slice_get a.summaries.states f ≡ Some s
      → IsStateFor codes a.programs a.callees f s
