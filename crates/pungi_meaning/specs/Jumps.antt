-- Where `goto`, `break` and `continue` lead (C11 6.8.6). What remains of a run shows it.
--   a_loop                  a loop by its parts
--   enter l a k             what remains of a statement from a label on, where k follows the statement; a label in an
--                           inner block isn't found. Of a loop its next turn remains
--   enter_among             the same of a block's statements, of which these stand from a place on
--   found_or                what was found, or else this
--   from_label l k          what remains from a label on: it stands in a block that is not done
--   after_break k           what remains after the innermost loop or `switch`
--   after_continue k        what remains from the next turn of the innermost loop on
-- All of them end at the end of the function.
use Rattle.std.specs.Prelude.{ℕ, ◌+◌, ◌==◌, List, [], ◌∷◌, Option, Some, None, if◌then◌else◌}
use Rattle.pungi_resolved.specs.Values as expr
use Rattle.pungi_resolved.specs.Actions as stmt
use Rattle.pungi_base.specs.declared.names.Name.{Name}
use Rattle.pungi_meaning.specs.Todo.{Loop, Todo, ToExec, ToRest, ToAgain, ToSwitchEnd, ToEnd}
use Rattle.pungi_meaning.specs.Work.{or_else}

abbrev pub a_loop : Option expr.Value → Option expr.Value → stmt.Action → Loop
a_loop test increment body = record { test = test; increment = increment; body = body }

abbrev pub enter : Name → stmt.Action → List Todo → Option (List Todo)
enter l (stmt.label p n a) k = if n.0 == l.0 then Some (ToExec a ∷ k) else enter l a k
enter l (stmt.case p n a) k = enter l a k
enter l (stmt.default p a) k = enter l a k
enter l (stmt.if_only p c a) k = enter l a k
enter l (stmt.if_else p c a b) k = or_else (enter l a k) (enter l b k)
enter l (stmt.while p c a) k = enter l a (ToAgain (a_loop (Some c) None a) ∷ k)
enter l (stmt.do_while p a c) k = enter l a (ToAgain (a_loop (Some c) None a) ∷ k)
enter l (stmt.for p rs u c w a) k = enter l a (ToAgain (a_loop c w a) ∷ k)
enter l (stmt.switch p v a) k = enter l a (ToSwitchEnd ∷ k)
enter l a k = None

abbrev pub enter_among : Name → List stmt.Action → ℕ → List stmt.Action → List Todo → Option (List Todo)
enter_among l block i [] k = None
enter_among l block i (a ∷ rest) k = or_else (enter l a (ToRest block (i + 1) ∷ k)) (enter_among l block (i + 1) rest k)

abbrev pub found_or : Option (List Todo) → List Todo → List Todo
found_or (Some k) other = k
found_or None other = other

abbrev pub from_label : Name → List Todo → List Todo
from_label l [] = []
from_label l (ToEnd p v ∷ k) = ToEnd p v ∷ k
from_label l (ToRest block i ∷ k) = found_or (enter_among l block 0 block k) (from_label l k)
from_label l (t ∷ k) = from_label l k

abbrev pub after_break : List Todo → List Todo
after_break [] = []
after_break (ToEnd p v ∷ k) = ToEnd p v ∷ k
after_break (ToAgain loop ∷ k) = k
after_break (ToSwitchEnd ∷ k) = k
after_break (t ∷ k) = after_break k

abbrev pub after_continue : List Todo → List Todo
after_continue [] = []
after_continue (ToEnd p v ∷ k) = ToEnd p v ∷ k
after_continue (ToAgain loop ∷ k) = ToAgain loop ∷ k
after_continue (t ∷ k) = after_continue k
