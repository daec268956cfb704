-- Codes of a file, and their instructions.
--   IsInstrOfFile code i    an instruction is sound in a file whose functions have codes of some kinds
use Rattle.std.proofs.Common.{◌≡◌, ◌∙◌, ℕ, true, refl, ap, Option, Some, None}
use Rattle.std.specs.Prelude.{slice_get}
use Rattle.pungi_code.specs.Frames.{flatten}
use Rattle.pungi_code.specs.declared.code.Code.{Code}
use Rattle.pungi_code.specs.declared.code.Codes.{Codes}
use Rattle.pungi_code.specs.declared.code.Line.{Line}
use Rattle.pungi_code.specs.declared.instr.Instr.{Instr}
use Rattle.pungi_code.specs.Run.{code_at}
use Rattle.pungi_code.specs.WellFormed.{AreWellFormed, CallKinds, IsWellFormed, is_sound_among, kinds_of}
use Rattle.pungi_shape.specs.Bounds.{IsCodeOfFile}
use Rattle.pungi_shape.specs.Liveness.{instr_at, instr_of}

pub record IsInstrOfFile (code : Code) (i : Instr) : Type 0 where
  pub callees : ℕ → CallKinds
  pub sound : is_sound_among callees code i ≡ true

pub sound-at : (code : Code) (pc : ℕ) → IsCodeOfFile code → IsInstrOfFile code (instr_at code pc)
sound-at code pc h = record { callees = h.callees; sound = at (slice_get code.instrs pc) refl }
  where
    at : (o : Option Line) → slice_get code.instrs pc ≡ o → is_sound_among h.callees code (instr_of o) ≡ true
    at None e = refl
    at (Some line) e = h.well_formed.sound pc line e

-- an instruction that is the one of a place
pub sound-here : (code : Code) (pc : ℕ) (i : Instr) → IsCodeOfFile code → i ≡ instr_at code pc → IsInstrOfFile code i
sound-here code pc i h e =
    let here = sound-at code pc h in
    record { callees = here.callees; sound = ap (is_sound_among here.callees code) e ∙ here.sound }

-- a function that calls none of a file
pub code-alone : (code : Code) → IsWellFormed code → IsCodeOfFile code
code-alone code well = record { callees = λ n. None; well_formed = well }

flat : (o : Option (Option Code)) (code : Code) → flatten o ≡ Some code → o ≡ Some (Some code)
flat None code e = absurd (cc)
flat (Some o) code e = ap Some e

-- a function of a file
pub code-among : (codes : Codes) (f : ℕ) (code : Code) → AreWellFormed codes → code_at codes f ≡ Some code
    → IsCodeOfFile code
code-among codes f code well is =
    record { callees = kinds_of codes; well_formed = well.each f code (flat (slice_get codes.codes f) code is) }
