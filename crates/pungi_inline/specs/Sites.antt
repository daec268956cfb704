-- The calls in whose place a copy of the called code is put.
--   Site                     such a call: where its result goes, its arguments, and the called code
--   result_kind k            what the variable of a result holds
--   is_copied c as           a code is copied: it has instructions, it takes so many arguments, and its result is an
--                            object, a text or a number
--   site_of x as c           the call of a code that is there and is copied
--   site cs i                the call that an instruction is, among these codes
--   site_at cs l             so is that of a line
--   copied_size i            how many instructions the copy of an instruction takes: a return with a value keeps the
--                            value and jumps
--   body_sizes ls            those of a called code
--   entry_size s, exit_size x    what comes before and after the copy of the called code's instructions
--   call_size s              the whole copy
--   line_size s              what stands in the place of a line
--   window_size s            how many variables it has of its own: those of the called code, and its result
--   total ns                 the sum
--   place_from at ns l       the place of the l-th of many parts of these sizes, where the first is at this place
--   line_sizes cs ls, window_sizes cs ls    the sizes of all lines of a code
--   has_site cs ls           there is such a call
--   is_small cs c            the code with copies is within the limits
use Rattle.std.specs.Prelude.{ℕ, ◌+◌, ◌==◌, nat_lt, nat_le, Bool, ◌&&◌, List, [], ◌∷◌, length, map, take}
use Rattle.std.specs.Prelude.{Option, Some, None, is_some, if◌then◌else◌}
use Rattle.std.specs.List.{list_any}
use Rattle.pungi_api.specs.declared.param.Param.{Param}
use Rattle.pungi_api.specs.declared.param.Param.TheVariants as param
use Rattle.pungi_code.specs.declared.atom.Atom.{Atom}
use Rattle.pungi_code.specs.declared.atom.Var.{Var}
use Rattle.pungi_code.specs.declared.code.Code.{Code}
use Rattle.pungi_code.specs.declared.code.Line.{Line}
use Rattle.pungi_code.specs.declared.instr.Instr.{Instr}
use Rattle.pungi_code.specs.declared.instr.Instr.TheVariants.{Call, Return}
use Rattle.pungi_code.specs.Frames.{code_numbered}
use Rattle.pungi_code.specs.Limits.{most_instructions, most_variables}
use Rattle.pungi_code.specs.WellFormed.{is_slot_kind}

pub record Site : Type 0 where
  pub into : Option Var
  pub args : List Atom
  pub code : Code

abbrev pub result_kind : Option Param → Param
result_kind None = param.Int
result_kind (Some k) = k

abbrev pub is_copied : Code → List Atom → Bool
is_copied c as' = nat_lt 0 (length c.instrs) && (length as' == c.params && is_slot_kind (result_kind c.result))

abbrev pub site_of : Option Var → List Atom → Option Code → Option Site
site_of x as' None = None
site_of x as' (Some c) = if is_copied c as' then Some (record { into = x; args = as'; code = c }) else None

abbrev pub site : List (Option Code) → Instr → Option Site
site cs (Call x f as') = site_of x as' (code_numbered cs f)
site cs i = None

abbrev pub site_at : List (Option Code) → Line → Option Site
site_at cs l = site cs l.instr

-- ---- sizes

abbrev pub copied_size : Instr → ℕ
copied_size (Return (Some a)) = 2
copied_size i = 1

abbrev pub body_sizes : List Line → List ℕ
body_sizes ls = map (λ l. copied_size l.instr) ls

abbrev pub total : List ℕ → ℕ
total [] = 0
total (n ∷ ns) = n + total ns

abbrev pub place_from : ℕ → List ℕ → ℕ → ℕ
place_from at ns l = at + total (take l ns)

abbrev pub entry_size : Code → ℕ
entry_size c = length c.vars + 1

abbrev pub exit_size : Option Var → ℕ
exit_size None = 0
exit_size (Some x) = 1

abbrev pub call_size : Site → ℕ
call_size s = entry_size s.code + total (body_sizes s.code.instrs) + exit_size s.into

abbrev pub line_size : Option Site → ℕ
line_size None = 1
line_size (Some s) = call_size s

abbrev pub window_size : Option Site → ℕ
window_size None = 0
window_size (Some s) = length s.code.vars + 1

abbrev pub line_sizes : List (Option Code) → List Line → List ℕ
line_sizes cs ls = map (λ l. line_size (site_at cs l)) ls

abbrev pub window_sizes : List (Option Code) → List Line → List ℕ
window_sizes cs ls = map (λ l. window_size (site_at cs l)) ls

abbrev pub has_site : List (Option Code) → List Line → Bool
has_site cs ls = list_any (λ l. is_some (site_at cs l)) ls

abbrev pub is_small : List (Option Code) → Code → Bool
is_small cs c =
    nat_le (total (line_sizes cs c.instrs)) most_instructions
    && nat_le (length c.vars + total (window_sizes cs c.instrs)) most_variables
