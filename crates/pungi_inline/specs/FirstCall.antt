-- The first call that is left in a code.
--   called_by l            the place in the text of the call that a line is, and the number of the called function
--   first_call ls          the first of these
use Rattle.std.specs.Prelude.{ℕ, List, [], ◌∷◌, Option, Some, None}
use Rattle.pungi_base.specs.declared.pos.Pos.{Pos}
use Rattle.pungi_code.specs.declared.code.Line.{Line}
use Rattle.pungi_code.specs.declared.instr.Instr.{Instr}
use Rattle.pungi_code.specs.declared.instr.Instr.TheVariants.{Call}

abbrev pub called_by : Pos → Instr → Option (Pos × ℕ)
called_by p (Call x f as') = Some (p, f)
called_by p i = None

abbrev pub first_of : Option (Pos × ℕ) → Option (Pos × ℕ) → Option (Pos × ℕ)
first_of None other = other
first_of (Some c) other = Some c

abbrev pub first_call : List Line → Option (Pos × ℕ)
first_call [] = None
first_call (l ∷ ls) = first_of (called_by l.pos l.instr) (first_call ls)
