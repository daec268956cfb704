-- A code with copies of the codes that it calls in the place of its calls, up to four codes deep: three times each call
-- whose code can be copied is replaced by a copy, in which the calls of that code stand. A round in which nothing is
-- called, or after which the code is past the limits, changes nothing. The loop heads of the code come first, then
-- those of its copies.
--   lines_of to w at l s        what stands in the place of a line, which begins at this place, with a window at w
--   all_lines cs to w at ls     so do all lines of a code
--   site_kinds s, all_kinds cs ls    what the variables hold that are added
--   site_heads at s, all_heads cs at ls    the loop heads that are added
--   label_in cs ls              where each instruction of a code goes
--   expanded cs c               a code with one round of copies
--   replaced cs c               so it is where there is something to copy and the limits are kept
--   inlined cs c                after three rounds
use Rattle.std.specs.Prelude.{ℕ, ◌+◌, ◌&&◌, List, [], ◌∷◌, ◌++◌, length, map, Option, Some, None, if◌then◌else◌}
use Rattle.pungi_api.specs.declared.param.Param.{Param}
use Rattle.pungi_code.specs.declared.code.Code.{Code}
use Rattle.pungi_code.specs.declared.code.Head.{Head}
use Rattle.pungi_code.specs.declared.code.Line.{Line}
use Rattle.pungi_inline.specs.Copies.{copy, body_label}
use Rattle.pungi_inline.specs.Moved.{moved_line, moved_head}
use Rattle.pungi_inline.specs.Sites.{Site, result_kind, site_at, line_size, window_size, line_sizes, place_from}
use Rattle.pungi_inline.specs.Sites.{has_site, is_small}

abbrev pub lines_of : (ℕ → ℕ) → ℕ → ℕ → Line → Option Site → List Line
lines_of to w at l None = moved_line 0 to l ∷ []
lines_of to w at l (Some s) = copy l.pos w at s

abbrev pub all_lines : List (Option Code) → (ℕ → ℕ) → ℕ → ℕ → List Line → List Line
all_lines cs to w at [] = []
all_lines cs to w at (l ∷ ls) =
    lines_of to w at l (site_at cs l)
    ++ all_lines cs to (w + window_size (site_at cs l)) (at + line_size (site_at cs l)) ls

abbrev pub site_kinds : Option Site → List Param
site_kinds None = []
site_kinds (Some s) = s.code.vars ++ result_kind s.code.result ∷ []

abbrev pub all_kinds : List (Option Code) → List Line → List Param
all_kinds cs [] = []
all_kinds cs (l ∷ ls) = site_kinds (site_at cs l) ++ all_kinds cs ls

abbrev pub site_heads : ℕ → Option Site → List Head
site_heads at None = []
site_heads at (Some s) = map (moved_head (body_label at s.code)) s.code.heads

abbrev pub all_heads : List (Option Code) → ℕ → List Line → List Head
all_heads cs at [] = []
all_heads cs at (l ∷ ls) = site_heads at (site_at cs l) ++ all_heads cs (at + line_size (site_at cs l)) ls

abbrev pub label_in : List (Option Code) → List Line → ℕ → ℕ
label_in cs ls l = place_from 0 (line_sizes cs ls) l

abbrev pub expanded : List (Option Code) → Code → Code
expanded cs c = record {
  instrs = all_lines cs (label_in cs c.instrs) (length c.vars) 0 c.instrs;
  vars = c.vars ++ all_kinds cs c.instrs;
  params = c.params;
  locals = c.locals;
  result = c.result;
  heads = map (moved_head (label_in cs c.instrs)) c.heads ++ all_heads cs 0 c.instrs;
  terms = c.terms;
}

abbrev pub replaced : List (Option Code) → Code → Code
replaced cs c = if has_site cs c.instrs && is_small cs c then expanded cs c else c

abbrev pub inlined : List (Option Code) → Code → Code
inlined cs c = replaced cs (replaced cs (replaced cs c))
