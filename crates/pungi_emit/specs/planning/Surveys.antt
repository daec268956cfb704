-- What a survey of a statement finds.
--   Surveys end ms ps ls ..     it returns the place where the statement ends, and adds the statement's loops and
--                               labels, the places that it leads to and those of its labels, each after what was there
--   SurveysStmt pc a            the survey of a statement that begins at this place
--   SurveysSwitch pc a          that of a `switch` over this statement, whose value ends at this place
--   SurveysSkipped pc a         .. where the statement is no block
--   SurveysList pc list ps ls   that of statements, the first of which begins at this place: it adds where each of them
--                               begins, too
use Rattle.std.specs.Prelude.{◌≡◌, ℕ, ◌+◌, List, ◌++◌}
use Rattle.pungi_resolved.specs.Actions as stmt
use Rattle.pungi_resolved.specs.ActionView.{actions_of}
use Rattle.pungi_layout.specs.declared.mark.Mark.{Mark}
use Rattle.pungi_layout.specs.code.Heads.{stmt_marks, stmts_marks, switch_marks}
use Rattle.pungi_layout.specs.code.Sizes.{stmt_size, stmts_size, switch_size}
use Rattle.pungi_emit.specs.planning.LabelPlaces.{stmt_labels, list_starts}
use Rattle.pungi_emit.specs.planning.Plans.{places_of, plan_of, skipped_plan, switch_plan}

pub record Surveys (end : ℕ) (ms : List Mark) (ps ls : List ℕ) (at : ℕ) (m0 m1 : List Mark) (p0 p1 l0 l1 : List ℕ) :
    Type 0 where
  pub next : at ≡ end
  pub marks : m1 ≡ m0 ++ ms
  pub labels : l1 ≡ l0 ++ ls
  pub places : p1 ≡ p0 ++ ps

abbrev pub SurveysStmt : ℕ → stmt.Action → ℕ → List Mark → List Mark → List ℕ → List ℕ → List ℕ → List ℕ → Type 0
SurveysStmt pc a = Surveys (pc + stmt_size a) (stmt_marks pc a) (plan_of pc a) (places_of (stmt_labels pc a))

abbrev pub SurveysSwitch : ℕ → stmt.Action → ℕ → List Mark → List Mark → List ℕ → List ℕ → List ℕ → List ℕ → Type 0
SurveysSwitch pc a =
    Surveys (pc + switch_size a) (switch_marks pc a) (switch_plan pc a) (places_of (stmt_labels (pc + 1) a))

abbrev pub SurveysSkipped : ℕ → stmt.Action → ℕ → List Mark → List Mark → List ℕ → List ℕ → List ℕ → List ℕ → Type 0
SurveysSkipped pc a =
    Surveys (pc + (1 + stmt_size a)) (stmt_marks (pc + 1) a) (skipped_plan pc a)
    (places_of (stmt_labels (pc + 1) a))

pub record SurveysList (pc : ℕ) (list : List stmt.Action) (ps ls : List ℕ) (at : ℕ) (m0 m1 : List Mark)
    (p0 p1 l0 l1 s0 s1 : List ℕ) : Type 0 where
  pub found : Surveys (pc + stmts_size (actions_of list)) (stmts_marks pc (actions_of list)) ps ls at m0 m1 p0 p1 l0 l1
  pub starts : s1 ≡ s0 ++ list_starts pc list
