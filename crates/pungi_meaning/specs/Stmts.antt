-- What a statement does (C11 6.8).
--   declare_value, declare_next    a declared variable: its value comes first; without one it holds nothing
--   bind                    a variable gets its first value
--   else_part               the part after `else`
--   test_loop_by, test_loop loop k    a loop's test, or its body where it has none
--   turn                    the body of a loop, where its test holds
--   evaluate_first u k      what is done first, if anything
--   bears_case v a, is_default a     a statement stands after the case of this value; after `default`
--   cases_of a              the numbers of the cases that a statement stands after
--   block_cases list        those of a block, in order
--   case_comparisons p v cs    the comparisons of a `switch`, until one case is equal
--   first_from p i list     the place of the first statement of this kind, where the first of these stands at a place
--   target v list           the place in the block where a `switch` goes on
--   enter_at                a `switch` goes on there, or past it
--   switch                  a `switch`, once its value is known
--   return_value            a `return`
--   next_stmt               the next statement of a block
--   execute                 a statement
-- Entering a block makes its locals unset, and so does entering a `for` with those that it declares (C11 6.2.4, 6.8.5).
use Rattle.std.specs.Prelude.{ℕ, ◌+◌, ℤ, Bool, true, false, List, [], ◌∷◌, ◌++◌, Option, Some, None, if◌then◌else◌}
use Rattle.pungi_base.specs.declared.pos.Pos.{Pos}
use Rattle.pungi_base.specs.declared.value.Value.{Value}
use Rattle.pungi_base.specs.declared.value.Value.TheVariants as value
use Rattle.pungi_resolved.specs.Values as expr
use Rattle.pungi_resolved.specs.Actions as stmt
use Rattle.pungi_world.specs.declared.content.Content.TheVariants.{Unset, Holds}
use Rattle.pungi_meaning.specs.declared.cmp.Cmp.TheVariants as cmps
use Rattle.pungi_meaning.specs.Values.{is_equal}
use Rattle.pungi_meaning.specs.Todo.{Loop, Operation, Compared, Todo, ToEval, ToExec, ToForget, ToDeclare, ToBind}
use Rattle.pungi_meaning.specs.Todo.{ToChoose, ToRest, ToTurn, ToAgain, ToSwitch, ToSwitchEnd, ToReturn, State}
use Rattle.pungi_meaning.specs.Todo.{Step, Goes, Returns, listed}
use Rattle.pungi_meaning.specs.Work.{top, below, go_on, pop_value, with_local, block_locals, unset_locals, or_else}
use Rattle.pungi_meaning.specs.Jumps.{a_loop, from_label, after_break, after_continue}

abbrev pub declare_value : stmt.DeclaredLocal → Option expr.Value → List stmt.DeclaredLocal → List Todo → State → Step
declare_value r None rs k s = go_on (ToDeclare rs ∷ k) (with_local r.number Unset s)
declare_value r (Some v) rs k s = go_on (ToEval v ∷ ToBind r.number ∷ ToDeclare rs ∷ k) s

abbrev pub declare_next : List stmt.DeclaredLocal → List Todo → State → Step
declare_next [] k s = go_on k s
declare_next (r ∷ rs) k s = declare_value r r.value rs k s

abbrev pub bind : ℕ → List Todo → State → Step
bind x k s = pop_value k (with_local x (Holds (top s.values)) s)

abbrev pub else_part : Option stmt.Action → List Todo → List Todo
else_part None k = k
else_part (Some b) k = ToExec b ∷ k

-- ---- loops

abbrev pub test_loop_by : Option expr.Value → Loop → List Todo → List Todo
test_loop_by None loop k = ToExec loop.body ∷ ToAgain loop ∷ k
test_loop_by (Some c) loop k = ToEval c ∷ ToTurn loop ∷ k

abbrev pub test_loop : Loop → List Todo → List Todo
test_loop loop k = test_loop_by loop.test loop k

abbrev pub evaluate_first : Option expr.Value → List Todo → List Todo
evaluate_first None k = k
evaluate_first (Some v) k = ToEval v ∷ ToForget ∷ k

abbrev pub turn : Bool → Loop → List Todo → List Todo
turn true loop k = ToExec loop.body ∷ ToAgain loop ∷ k
turn false loop k = k

-- ---- switch

abbrev pub bears_case : Value → stmt.Action → Bool
bears_case v (stmt.case p m a) = if is_equal v (value.Int m) then true else bears_case v a
bears_case v (stmt.default p a) = bears_case v a
bears_case v (stmt.label p l a) = bears_case v a
bears_case v a = false

abbrev pub is_default : stmt.Action → Bool
is_default (stmt.default p a) = true
is_default (stmt.case p m a) = is_default a
is_default (stmt.label p l a) = is_default a
is_default a = false

abbrev pub cases_of : stmt.Action → List ℤ
cases_of (stmt.case p m a) = m ∷ cases_of a
cases_of (stmt.default p a) = cases_of a
cases_of (stmt.label p l a) = cases_of a
cases_of a = []

abbrev pub block_cases : List stmt.Action → List ℤ
block_cases [] = []
block_cases (a ∷ rest) = cases_of a ++ block_cases rest

abbrev pub case_comparisons : Pos → Value → List ℤ → List Operation
case_comparisons p v [] = []
case_comparisons p v (c ∷ cs) =
    Compared p cmps.Equal v (value.Int c) ∷ (if is_equal v (value.Int c) then [] else case_comparisons p v cs)

abbrev pub first_from : (stmt.Action → Bool) → ℕ → List stmt.Action → Option ℕ
first_from p i [] = None
first_from p i (a ∷ rest) = if p a then Some i else first_from p (i + 1) rest

abbrev pub target : Value → List stmt.Action → Option ℕ
target v list = or_else (first_from (bears_case v) 0 list) (first_from is_default 0 list)

abbrev pub enter_at : List stmt.Action → Option ℕ → List Todo → List Todo
enter_at list None k = k
enter_at list (Some i) k = ToRest list i ∷ ToSwitchEnd ∷ k

-- a case stands directly in the block of a `switch`; without a block there are no cases
abbrev pub switch : Pos → Value → stmt.Action → List Todo → State → Step
switch p v (stmt.block q ss r) k s =
    Goes (case_comparisons p v (block_cases (listed ss))) (enter_at (listed ss) (target v (listed ss)) k)
    (record s { locals = unset_locals (block_locals (listed ss)) s.locals; values = below s.values })
switch p v a k s = pop_value k s

-- ---- a node

abbrev pub return_value : Pos → Option expr.Value → List Todo → State → Step
return_value p None k s = Returns s.world None p s.used
return_value p (Some v) k s = go_on (ToEval v ∷ ToReturn p ∷ k) s

abbrev pub next_stmt : List stmt.Action → ℕ → Option stmt.Action → List Todo → State → Step
next_stmt list i None k s = go_on k s
next_stmt list i (Some a) k s = go_on (ToExec a ∷ ToRest list (i + 1) ∷ k) s

abbrev pub execute : stmt.Action → List Todo → State → Step
execute (stmt.block p ss q) k s =
    go_on (ToRest (listed ss) 0 ∷ k) (record s { locals = unset_locals (block_locals (listed ss)) s.locals })
execute (stmt.declare p rs) k s = go_on (ToDeclare rs ∷ k) s
execute (stmt.do_expr p v) k s = go_on (evaluate_first v k) s
execute (stmt.if_only p c a) k s = go_on (ToEval c ∷ ToChoose a None ∷ k) s
execute (stmt.if_else p c a b) k s = go_on (ToEval c ∷ ToChoose a (Some b) ∷ k) s
execute (stmt.while p c a) k s = go_on (ToEval c ∷ ToTurn (a_loop (Some c) None a) ∷ k) s
execute (stmt.do_while p a c) k s = go_on (ToExec a ∷ ToAgain (a_loop (Some c) None a) ∷ k) s
execute (stmt.for p rs u c w a) k s =
    go_on (ToDeclare rs ∷ evaluate_first u (test_loop (a_loop c w a) k))
    (record s { locals = unset_locals rs s.locals })
execute (stmt.switch p v a) k s = go_on (ToEval v ∷ ToSwitch p a ∷ k) s
execute (stmt.case p n a) k s = go_on (ToExec a ∷ k) s
execute (stmt.default p a) k s = go_on (ToExec a ∷ k) s
execute (stmt.label p l a) k s = go_on (ToExec a ∷ k) s
execute (stmt.goto p l) k s = go_on (from_label l k) s
execute (stmt.break p) k s = go_on (after_break k) s
execute (stmt.continue p) k s = go_on (after_continue k) s
execute (stmt.return p kind v) k s = return_value p v k s
