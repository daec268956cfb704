-- Which variables a shape keeps at a point.
--   is_among xs x           a member
--   instr_of o, instr_at code pc    the instruction at a place; where none is, one that stops
--   passes next x pc i n    from part n of an instruction at a place on, the variable x is read before it is written;
--                           or it isn't written, and next says the same of an instruction that may follow
--   reads_first code n x pc some path of at most n instructions from this place reads x before it writes it
--   is_live code p x        some path from this point does
--   is_holder code p x      a local, or a temporary that is live
use Rattle.std.specs.Prelude.{ℕ, zero, suc, ◌==◌, nat_lt, Bool, false, ◌&&◌, ◌||◌, not, List, length}
use Rattle.std.specs.Prelude.{slice_get, Option, Some, None}
use Rattle.std.specs.List.{list_any}
use Rattle.pungi_code.specs.declared.code.Code.{Code}
use Rattle.pungi_code.specs.declared.code.Line.{Line}
use Rattle.pungi_code.specs.declared.instr.Instr.{Instr}
use Rattle.pungi_code.specs.declared.instr.Instr.TheVariants.{Fall}
use Rattle.pungi_shape.specs.declared.point.Point.{Point}
use Rattle.pungi_shape.specs.Parts.{reads, writes, following}

abbrev pub is_among : List ℕ → ℕ → Bool
is_among xs x = list_any (λ y. y == x) xs

abbrev pub instr_of : Option Line → Instr
instr_of None = Fall
instr_of (Some line) = line.instr

abbrev pub instr_at : Code → ℕ → Instr
instr_at code pc = instr_of (slice_get code.instrs pc)

-- ---- live variables

abbrev pub passes : (ℕ → Bool) → ℕ → ℕ → Instr → ℕ → Bool
passes next x pc i n =
    is_among (reads i n) x || (not (is_among (writes i n) x) && list_any next (following pc i))

abbrev pub reads_first : Code → ℕ → ℕ → ℕ → Bool
reads_first code zero x pc = false
reads_first code (suc n) x pc = passes (reads_first code n x) x pc (instr_at code pc) 0

-- no path needs to go through an instruction twice
abbrev pub is_live : Code → Point → ℕ → Bool
is_live code p x =
    passes (reads_first code (length code.instrs) x) x p.instr (instr_at code p.instr) p.done

abbrev pub is_holder : Code → Point → ℕ → Bool
is_holder code p x = nat_lt x code.locals || is_live code p x
