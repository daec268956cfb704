-- The places that statements lead to, in the order in which their code needs them.
--   stmt_names a, list_names list    the labels of a statement and of statements, by name; none in an inner block
--   names_of ms, places_of ms   the names of labels, and their places
--   switch_from pc list         where the statements of a block in a `switch` begin, whose value ends at this place
--   plan_of pc a, plans_of pc ss    the places of a statement that begins at this place, and of statements: what a test
--                                   leads to,
--                               where a loop turns and where it ends; of a block its labels; of a `switch` its end, and
--                               where the statements of its block begin; then those of the statements inside
--   skipped_plan pc a           those of a `switch` over what is no block, whose value ends at this place
--   switch_plan pc a            those of a `switch` whose value ends at this place
--   Begins xs plan              a plan begins with these places
use Rattle.std.specs.Prelude.{◌≡◌, ℕ, ◌+◌, ◌*◌, List, [], ◌∷◌, ◌++◌, length, map}
use Rattle.pungi_base.specs.declared.names.Name.{Name}
use Rattle.pungi_resolved.specs.Actions as stmt
use Rattle.pungi_meaning.specs.Stmts.{block_cases}
use Rattle.pungi_meaning.specs.Todo.{listed}
use Rattle.pungi_meaning.specs.Work.{block_locals}
use Rattle.pungi_emit.specs.declared.planning.scope.Placed.{Placed}
use Rattle.pungi_layout.specs.code.Sizes.{expr_size, option_size, test_size, stmt_size, stmts_size}
use Rattle.pungi_layout.specs.code.Scopes.{for_head}
use Rattle.pungi_emit.specs.planning.LabelPlaces.{list_labels, list_starts}

abbrev pub stmt_names : stmt.Action → List Name
stmt_names (stmt.label p n a) = n ∷ stmt_names a
stmt_names (stmt.case p n a) = stmt_names a
stmt_names (stmt.default p a) = stmt_names a
stmt_names (stmt.if_only p c a) = stmt_names a
stmt_names (stmt.if_else p c a b) = stmt_names a ++ stmt_names b
stmt_names (stmt.while p c a) = stmt_names a
stmt_names (stmt.do_while p a c) = stmt_names a
stmt_names (stmt.for p rs u c w a) = stmt_names a
stmt_names (stmt.switch p v a) = stmt_names a
stmt_names a = []

abbrev pub list_names : List stmt.Action → List Name
list_names [] = []
list_names (a ∷ rest) = stmt_names a ++ list_names rest

abbrev pub names_of : List Placed → List Name
names_of ms = map (λ (m : Placed). m.name) ms

abbrev pub places_of : List Placed → List ℕ
places_of ms = map (λ (m : Placed). m.place) ms

-- ---- plans

abbrev pub switch_from : ℕ → List stmt.Action → ℕ
switch_from pc list = pc + length (block_locals list) + 2 * length (block_cases list) + 1

abbrev mutual
  pub plan_of : ℕ → stmt.Action → List ℕ
  plan_of pc (stmt.block p ss q) = places_of (list_labels (pc + length (block_locals (listed ss))) (listed ss))
      ++ plans_of (pc + length (block_locals (listed ss))) ss
  plan_of pc (stmt.if_only p c a) = (pc + expr_size c + 1 + stmt_size a) ∷ plan_of (pc + expr_size c + 1) a
  plan_of pc (stmt.if_else p c a b) =
      (pc + expr_size c + 1 + stmt_size a + 1) ∷ (pc + expr_size c + 1 + stmt_size a + 1 + stmt_size b)
      ∷ (plan_of (pc + expr_size c + 1) a ++ plan_of (pc + expr_size c + 1 + stmt_size a + 1) b)
  plan_of pc (stmt.while p c a) = (pc + (expr_size c + 1) + stmt_size a) ∷ plan_of (pc + (expr_size c + 1)) a
  plan_of pc (stmt.do_while p a c) = (pc + 1 + (expr_size c + 1)) ∷ (pc + 1 + (expr_size c + 1) + stmt_size a)
      ∷ plan_of (pc + 1 + (expr_size c + 1)) a
  plan_of pc (stmt.for p rs u c w a) =
      (for_head pc rs u + test_size c + stmt_size a) ∷ (for_head pc rs u + test_size c + stmt_size a + option_size w
      + 1) ∷ plan_of (for_head pc rs u + test_size c) a
  plan_of pc (stmt.switch p v (stmt.block q ss r)) =
      (switch_from (pc + expr_size v) (listed ss) + stmts_size ss)
      ∷ (list_starts (switch_from (pc + expr_size v) (listed ss)) (listed ss)
      ++ (places_of (list_labels (switch_from (pc + expr_size v) (listed ss)) (listed ss))
      ++ plans_of (switch_from (pc + expr_size v) (listed ss)) ss))
  plan_of pc (stmt.switch p v a) = (pc + expr_size v + 1 + stmt_size a) ∷ plan_of (pc + expr_size v + 1) a
  plan_of pc (stmt.case p n a) = plan_of pc a
  plan_of pc (stmt.default p a) = plan_of pc a
  plan_of pc (stmt.label p l a) = plan_of pc a
  plan_of pc a = []

  pub plans_of : ℕ → stmt.Actions → List ℕ
  plans_of pc stmt.no_actions = []
  plans_of pc (stmt.action_and a ss) = plan_of pc a ++ plans_of (pc + stmt_size a) ss

abbrev pub skipped_plan : ℕ → stmt.Action → List ℕ
skipped_plan pc a = (pc + 1 + stmt_size a) ∷ plan_of (pc + 1) a

abbrev pub switch_plan : ℕ → stmt.Action → List ℕ
switch_plan pc (stmt.block q ss r) =
    (switch_from pc (listed ss) + stmts_size ss) ∷ (list_starts (switch_from pc (listed ss)) (listed ss)
    ++ (places_of (list_labels (switch_from pc (listed ss)) (listed ss))
    ++ plans_of (switch_from pc (listed ss)) ss))
switch_plan pc a = skipped_plan pc a

pub record Begins (xs plan : List ℕ) : Type 0 where
  pub rest : List ℕ
  pub is : plan ≡ xs ++ rest
