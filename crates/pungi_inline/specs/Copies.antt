-- The copy of a called code, in the place of its call. Its window of variables holds those of the called code and then
-- the result. First the parameters get the arguments and all others are unset; then come the instructions of the called
-- code, where a return sets the result and jumps to the end; last the result goes where the call wants it.
--   passed p w n as              from the n-th on the parameters get these arguments
--   unset p w n count            so many variables hold nothing, from the n-th on
--   copied_instr w to r end p i    the copy of an instruction, where the result is this variable, and a return jumps to
--                                this end
--   copied_line                  so is that of a line
--   result_var w c               the variable of the result
--   body_place at c              where the copy of the called code's instructions begins, in a copy that begins here
--   body_label at c              where each of these goes
--   end_place at c               where they end
--   exit_lines p r x             what gives the result to the call
--   entry_lines p w s            what comes before the copy of the instructions
--   body_lines w at c            these
--   copy p w at s                the whole copy, for a call at this place of the text
use Rattle.std.specs.Prelude.{ℕ, zero, suc, ◌+◌, ◌-◌, List, [], ◌∷◌, ◌++◌, length, Option, Some, None}
use Rattle.std.specs.List.{flat_map}
use Rattle.pungi_base.specs.declared.pos.Pos.{Pos}
use Rattle.pungi_code.specs.declared.atom.Atom.{Atom}
use Rattle.pungi_code.specs.declared.atom.Atom.TheVariants as atom
use Rattle.pungi_code.specs.declared.atom.Var.{Var}
use Rattle.pungi_code.specs.declared.code.Code.{Code}
use Rattle.pungi_code.specs.declared.code.Line.{Line}
use Rattle.pungi_code.specs.declared.instr.Instr.{Instr}
use Rattle.pungi_code.specs.declared.instr.Instr.TheVariants.{Set, Unset, Jump, Return}
use Rattle.pungi_inline.specs.Moved.{var_in, moved_atom, label_at, moved_instr, line}
use Rattle.pungi_inline.specs.Sites.{Site, body_sizes, total, place_from, entry_size}

abbrev pub passed : Pos → ℕ → ℕ → List Atom → List Line
passed p w n [] = []
passed p w n (a ∷ as') = line p (Set (var_in w n) a) ∷ passed p w (n + 1) as'

abbrev pub unset : Pos → ℕ → ℕ → ℕ → List Line
unset p w n zero = []
unset p w n (suc count) = line p (Unset (var_in w n)) ∷ unset p w (n + 1) count

abbrev pub copied_instr : ℕ → (ℕ → ℕ) → Var → ℕ → Pos → Instr → List Line
copied_instr w to r end p (Return None) = line p (Jump (label_at end)) ∷ []
copied_instr w to r end p (Return (Some a)) =
    line p (Set r (moved_atom w a)) ∷ line p (Jump (label_at end)) ∷ []
copied_instr w to r end p i = line p (moved_instr w to i) ∷ []

abbrev pub copied_line : ℕ → (ℕ → ℕ) → Var → ℕ → Line → List Line
copied_line w to r end l = copied_instr w to r end l.pos l.instr

abbrev pub result_var : ℕ → Code → Var
result_var w c = var_in w (length c.vars)

abbrev pub body_place : ℕ → Code → ℕ
body_place at c = at + entry_size c

abbrev pub body_label : ℕ → Code → ℕ → ℕ
body_label at c l = place_from (body_place at c) (body_sizes c.instrs) l

abbrev pub end_place : ℕ → Code → ℕ
end_place at c = body_place at c + total (body_sizes c.instrs)

abbrev pub exit_lines : Pos → Var → Option Var → List Line
exit_lines p r None = []
exit_lines p r (Some x) = line p (Set x (atom.Var r)) ∷ []

abbrev pub entry_lines : Pos → ℕ → Site → List Line
entry_lines p w s = passed p w 0 s.args ++ unset p w (length s.args) (entry_size s.code - length s.args)

abbrev pub body_lines : ℕ → ℕ → Code → List Line
body_lines w at c = flat_map (copied_line w (body_label at c) (result_var w c) (end_place at c)) c.instrs

abbrev pub copy : Pos → ℕ → ℕ → Site → List Line
copy p w at s =
    entry_lines p w s ++ (body_lines w at s.code ++ exit_lines p (result_var w s.code) s.into)
