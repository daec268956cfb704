-- The places of labels as the emitters hold them.
--   stmt_labels pc a, list_labels pc list    the labels of a statement that begins at this place, each with its place;
--                                            none in
--                               an inner block
--   find l ms                   the place of a label among some
--   labels_of ls                where each `goto` leads
--   env_of s                    where `break`, `continue` and each `goto` lead
--   list_starts pc list         where each statement of a list begins
use Rattle.std.specs.Prelude.{ℕ, ◌+◌, ◌==◌, List, [], ◌∷◌, ◌++◌, Option, Some, None, if◌then◌else◌}
use Rattle.pungi_base.specs.declared.names.Name.{Name}
use Rattle.pungi_resolved.specs.Actions as stmt
use Rattle.pungi_emit.specs.declared.planning.scope.Labels.{Labels}
use Rattle.pungi_emit.specs.declared.planning.scope.Labels.TheVariants.{Nowhere, Inside'}
use Rattle.pungi_emit.specs.declared.planning.scope.Placed.{Placed}
use Rattle.pungi_emit.specs.declared.planning.scope.Scope.{Scope}
use Rattle.pungi_layout.specs.code.Sizes.{expr_size, test_size, stmt_size}
use Rattle.pungi_layout.specs.code.Scopes.{Env, for_head, label_or}

abbrev pub stmt_labels : ℕ → stmt.Action → List Placed
stmt_labels pc (stmt.label p n a) = record { name = n; place = pc } ∷ stmt_labels pc a
stmt_labels pc (stmt.case p n a) = stmt_labels pc a
stmt_labels pc (stmt.default p a) = stmt_labels pc a
stmt_labels pc (stmt.if_only p c a) = stmt_labels (pc + expr_size c + 1) a
stmt_labels pc (stmt.if_else p c a b) =
    stmt_labels (pc + expr_size c + 1) a ++ stmt_labels (pc + expr_size c + 1 + stmt_size a + 1) b
stmt_labels pc (stmt.while p c a) = stmt_labels (pc + test_size (Some c)) a
stmt_labels pc (stmt.do_while p a c) = stmt_labels (pc + 1 + test_size (Some c)) a
stmt_labels pc (stmt.for p rs u c w a) = stmt_labels (for_head pc rs u + test_size c) a
stmt_labels pc (stmt.switch p v a) = stmt_labels (pc + expr_size v + 1) a
stmt_labels pc a = []

abbrev pub list_labels : ℕ → List stmt.Action → List Placed
list_labels pc [] = []
list_labels pc (a ∷ rest) = stmt_labels pc a ++ list_labels (pc + stmt_size a) rest

abbrev pub find : Name → List Placed → Option ℕ
find l [] = None
find l (m ∷ ms) = if m.name.0 == l.0 then Some m.place else find l ms

abbrev pub labels_of : Labels → Name → ℕ
labels_of (Nowhere n) l = n
labels_of (Inside' ms p outer) l = label_or (find l ms.now) (labels_of outer l)

abbrev pub env_of : Scope → Env
env_of s = record { breaks = s.breaks; continues = s.continues; labels = labels_of s.labels.now }

abbrev pub list_starts : ℕ → List stmt.Action → List ℕ
list_starts pc [] = []
list_starts pc (a ∷ rest) = pc ∷ list_starts (pc + stmt_size a) rest
