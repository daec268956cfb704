-- What a code with copies of the codes that it calls is to the code itself.
--   Returns r w v p used        a run returns so
--   alone c entry choices n     a run of a code alone, where a call of a function of the file stops it
--   among_all codes c entry choices n    a run of a code among those of its file, through all calls
--   RunsAlike codes c entry choices    a run of the code with copies alone that returns is one of the code among those
--                               of its file, within as many instructions; and where no calls are left the other way
--                               round
--   IsAlikeInlined codes f c    so it is from any entry with values for at most the variables of a function's code, and
--                               with any choices
--   one_code n name c           a file with this code alone
--   IsFormed codes c            the code with copies is well-formed among those of its file, and names only static
--                               objects that are there; where no calls are left it is so alone; it has the same
--                               entries, and is judged under the same terms
--   IsFormedInlined codes f c   so is that of a function's code in a file of well-formed codes
use Rattle.std.specs.Prelude.{◌≡◌, ℕ, ◌≤◌, true, List, [], ◌∷◌, length, Option, Some}
use Rattle.pungi_base.specs.declared.choice.Choice.{Choice}
use Rattle.pungi_base.specs.declared.entry.Entry.{Entry}
use Rattle.pungi_base.specs.declared.names.Name.{Name}
use Rattle.pungi_base.specs.declared.pos.Pos.{Pos}
use Rattle.pungi_base.specs.declared.value.Value.{Value}
use Rattle.pungi_world.specs.declared.world.World.{World}
use Rattle.pungi_meaning.specs.Run.{Run, Returned}
use Rattle.pungi_code.specs.declared.code.Code.{Code}
use Rattle.pungi_code.specs.declared.code.Codes.{Codes}
use Rattle.pungi_code.specs.Alone.{CallsNone}
use Rattle.pungi_code.specs.Entries.{code_fits}
use Rattle.pungi_code.specs.Run.{exec, execute, start, code_at}
use Rattle.pungi_code.specs.WellFormed.{AreWellFormed, IsAlone, IsWellFormedAmong, kinds_of, has_statics}
use Rattle.pungi_inline.specs.Inlined.{inlined}

abbrev pub Returns : Run → World → Option Value → Pos → List Pos → Type 0
Returns r w v p used = r.end ≡ Returned w v p used

abbrev pub alone : Code → Entry → List Choice → ℕ → Run
alone c entry choices n = exec choices c.instrs n 0 (start c entry)

abbrev pub among_all : Codes → Code → Entry → List Choice → ℕ → Run
among_all codes c entry choices n = execute codes.codes choices n [] c.instrs 0 (start c entry)

pub record RunsAlike (codes : Codes) (c : Code) (entry : Entry) (choices : List Choice) : Type 0 where
  pub only : (n : ℕ) (w : World) (v : Option Value) (p : Pos) (used : List Pos)
      → Returns (alone (inlined codes.codes c) entry choices n) w v p used
      → Returns (among_all codes c entry choices n) w v p used
  pub all : CallsNone (inlined codes.codes c).instrs → (n : ℕ) (w : World) (v : Option Value) (p : Pos)
      (used : List Pos) → Returns (among_all codes c entry choices n) w v p used
      → (m : ℕ) × Returns (alone (inlined codes.codes c) entry choices m) w v p used

abbrev pub IsAlikeInlined : Codes → ℕ → Code → Type 0
IsAlikeInlined codes f c =
    AreWellFormed codes → code_at codes f ≡ Some c → (entry : Entry) (choices : List Choice)
    → length entry.args ≤ length c.vars → RunsAlike codes c entry choices

abbrev pub one_code : ℕ → Name → Code → Codes
one_code n name c = record { codes = Some c ∷ []; statics = n; names = name ∷ [] }

pub record IsFormed (codes : Codes) (c : Code) : Type 0 where
  pub among : IsWellFormedAmong (kinds_of codes) (inlined codes.codes c)
  pub there : has_statics codes.statics (inlined codes.codes c) ≡ true
  pub whole : CallsNone (inlined codes.codes c).instrs → (name : Name)
      → IsAlone (one_code codes.statics name (inlined codes.codes c)) 0
  pub fits : (entry : Entry) → code_fits codes.statics (inlined codes.codes c) entry
      ≡ code_fits codes.statics c entry
  pub terms : (inlined codes.codes c).terms ≡ c.terms

abbrev pub IsFormedInlined : Codes → ℕ → Code → Type 0
IsFormedInlined codes f c = AreWellFormed codes → code_at codes f ≡ Some c → IsFormed codes c
