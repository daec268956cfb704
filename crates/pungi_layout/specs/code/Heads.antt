-- The heads of a function's loops: the places of tests of loops, and those to which an instruction leads back.
--   stmt_marks pc a, stmts_marks pc ss    the loops and labels of a statement that begins at this place, those of the
--                                         statements in it
--                                too, in the order of the text: each with the place of its code and its place in the
--                                text
--   head_at n p                  a head
--   switch_marks pc a            those of a `switch`, after its value
--   first_pos p q               the first of two places that is there
--   loop_pos n ms, label_pos n ms    where the first loop stands whose head is at this place of the code; the first
--                                    label
--   names n ls, leads_back n i code    a label of a list is this place; of instructions whose first has the number i,
--                                      one that is not in
--                                front of the place n leads to it
--   pos_or o p                   a place of the text that was found, or else this
--   back_pos, head_pos ms code n    where the head at this place of the code stands in the text, if there is one
--   found_head n o               it, where it is there
--   heads_below ms code n        the heads at the places below n, in order
--   heads_of f                   the heads of a function
use Rattle.std.specs.Prelude.{ℕ, zero, suc, ◌+◌, ◌*◌, ◌==◌, nat_le, Bool, true, false, ◌&&◌, ◌||◌, List, [], ◌∷◌, ◌++◌}
use Rattle.std.specs.Prelude.{length, Option, Some, None, if◌then◌else◌}
use Rattle.pungi_base.specs.declared.pos.Pos.{Pos}
use Rattle.pungi_resolved.specs.Actions as stmt
use Rattle.pungi_resolved.specs.Functions.{ResolvedFunction}
use Rattle.pungi_meaning.specs.Run.{nowhere}
use Rattle.pungi_meaning.specs.Stmts.{block_cases}
use Rattle.pungi_meaning.specs.Todo.{listed}
use Rattle.pungi_meaning.specs.Work.{block_locals}
use Rattle.pungi_code.specs.declared.code.Head.{Head}
use Rattle.pungi_code.specs.declared.code.Line.{Line}
use Rattle.pungi_code.specs.declared.instr.Label.{Label}
use Rattle.pungi_code.specs.WellFormed.{targets}
use Rattle.pungi_layout.specs.declared.mark.Mark.{Mark}
use Rattle.pungi_layout.specs.declared.mark.Mark.TheVariants.{OfLoop, OfLabel}
use Rattle.pungi_layout.specs.code.Sizes.{expr_size, test_size, stmt_size}
use Rattle.pungi_layout.specs.code.ExprCode.{at_label}
use Rattle.pungi_layout.specs.code.Scopes.{for_head}
use Rattle.pungi_layout.specs.code.StmtCode.{body_code}

abbrev pub head_at : ℕ → Pos → Head
head_at n p = record { label = at_label n; pos = p }

abbrev mutual
  pub stmt_marks : ℕ → stmt.Action → List Mark
  stmt_marks pc (stmt.block p ss q) = stmts_marks (pc + length (block_locals (listed ss))) ss
  stmt_marks pc (stmt.if_only p c a) = stmt_marks (pc + expr_size c + 1) a
  stmt_marks pc (stmt.if_else p c a b) =
      stmt_marks (pc + expr_size c + 1) a ++ stmt_marks (pc + expr_size c + 1 + stmt_size a + 1) b
  stmt_marks pc (stmt.while p c a) = OfLoop (head_at pc p) ∷ stmt_marks (pc + (expr_size c + 1)) a
  stmt_marks pc (stmt.do_while p a c) = OfLoop (head_at (pc + 1) p) ∷ stmt_marks (pc + 1 + (expr_size c + 1)) a
  stmt_marks pc (stmt.for p rs u c w a) = OfLoop (head_at (for_head pc rs u) p)
      ∷ stmt_marks (for_head pc rs u + test_size c) a
  stmt_marks pc (stmt.switch p v (stmt.block q ss r)) =
      stmts_marks (pc + expr_size v + length (block_locals (listed ss)) + 2 * length (block_cases (listed ss)) + 1) ss
  stmt_marks pc (stmt.switch p v a) = stmt_marks (pc + expr_size v + 1) a
  stmt_marks pc (stmt.case p n a) = stmt_marks pc a
  stmt_marks pc (stmt.default p a) = stmt_marks pc a
  stmt_marks pc (stmt.label p l a) = OfLabel (head_at pc p) ∷ stmt_marks pc a
  stmt_marks pc a = []

  pub stmts_marks : ℕ → stmt.Actions → List Mark
  stmts_marks pc stmt.no_actions = []
  stmts_marks pc (stmt.action_and a ss) = stmt_marks pc a ++ stmts_marks (pc + stmt_size a) ss

-- those of a `switch`, after its value
abbrev pub switch_marks : ℕ → stmt.Action → List Mark
switch_marks pc (stmt.block q ss r) =
    stmts_marks (pc + length (block_locals (listed ss)) + 2 * length (block_cases (listed ss)) + 1) ss
switch_marks pc a = stmt_marks (pc + 1) a

-- ---- which places are heads

abbrev pub first_pos : Option Pos → Option Pos → Option Pos
first_pos None q = q
first_pos (Some p) q = Some p

abbrev pub loop_pos : ℕ → List Mark → Option Pos
loop_pos n [] = None
loop_pos n (OfLoop h ∷ ms) = if h.label.0 == n then Some h.pos else loop_pos n ms
loop_pos n (OfLabel h ∷ ms) = loop_pos n ms

abbrev pub label_pos : ℕ → List Mark → Option Pos
label_pos n [] = None
label_pos n (OfLoop h ∷ ms) = label_pos n ms
label_pos n (OfLabel h ∷ ms) = if h.label.0 == n then Some h.pos else label_pos n ms

abbrev pub names : ℕ → List Label → Bool
names n [] = false
names n (l ∷ ls) = l.0 == n || names n ls

abbrev pub leads_back : ℕ → ℕ → List Line → Bool
leads_back n i [] = false
leads_back n i (line ∷ rest) = (nat_le n i && names n (targets line.instr)) || leads_back n (i + 1) rest

abbrev pub pos_or : Option Pos → Pos → Pos
pos_or None p = p
pos_or (Some q) p = q

-- a loop's place comes first, then that of a label; each place that an instruction leads back to is one of both
abbrev pub back_pos : Option Pos → Bool → Option Pos → Option Pos
back_pos (Some p) back o = Some p
back_pos None true o = Some (pos_or o nowhere)
back_pos None false o = None

abbrev pub head_pos : List Mark → List Line → ℕ → Option Pos
head_pos ms code n = back_pos (loop_pos n ms) (leads_back n 0 code) (label_pos n ms)

abbrev pub found_head : ℕ → Option Pos → List Head
found_head n None = []
found_head n (Some p) = head_at n p ∷ []

abbrev pub heads_below : List Mark → List Line → ℕ → List Head
heads_below ms code zero = []
heads_below ms code (suc n) = heads_below ms code n ++ found_head n (head_pos ms code n)

abbrev pub heads_of : ResolvedFunction → List Head
heads_of f = heads_below (stmt_marks 0 f.body) (body_code f) (length (body_code f))
