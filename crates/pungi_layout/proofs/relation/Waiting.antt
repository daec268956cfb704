-- The values that wait below an expression, and where the parts of a loop and of a `switch` begin.
use Rattle.std.proofs.Common.{◌≡◌, ℕ, zero, suc, ◌+◌, ◌*◌, List, [], ◌∷◌, map, length, Option, Some, None, Bool, true}
use Rattle.std.proofs.Common.{false, not}
use Rattle.pungi_base.specs.declared.value.Value.{Value}
use Rattle.pungi_types.specs.declared.kind.ValueKind.{ValueKind}
use Rattle.pungi_resolved.specs.Values as expr
use Rattle.pungi_types.specs.Operators.{is_same_kind, is_void}
use Rattle.pungi_resolved.specs.Actions as stmt
use Rattle.pungi_meaning.specs.Stmts.{block_cases}
use Rattle.pungi_meaning.specs.Todo.{Loop, Target, Row, Defined, UnlessNull, WithOutputs, listed}
use Rattle.pungi_code.specs.declared.atom.Var.{Var}
use Rattle.pungi_layout.specs.code.Parts.{has_call_value}
use Rattle.pungi_layout.specs.code.Sizes.{option_size, test_size, stmt_size}
use Rattle.pungi_layout.specs.code.ExprCode.{to_var}

-- what stands in a variable below an expression
pub data Waiting : Type 0 where
  w : ℕ → Waiting  -- a value that waits
  hidden : ℕ → Value → Waiting  -- a value that the code puts there beforehand, and that is no part of the state

abbrev pub var_of : Waiting → ℕ
var_of (w t) = t
var_of (hidden t v) = t

abbrev pub top_var : List Waiting → ℕ
top_var [] = 0
top_var (x ∷ ks) = var_of x

abbrev pub rest : List Waiting → List Waiting
rest [] = []
rest (x ∷ ks) = ks

-- so many values wait
abbrev pub HasMany : ℕ → List Waiting → Type 0
HasMany zero ks = Unit {0}
HasMany (suc n) [] = ⊥
HasMany (suc n) (w t ∷ ks) = HasMany n ks
HasMany (suc n) (hidden t v ∷ ks) = ⊥

abbrev pub HasOne : List Waiting → Type 0
HasOne ks = HasMany 1 ks

abbrev pub HasTwo : List Waiting → Type 0
HasTwo ks = HasMany 2 ks

-- the newest is no part of the state
abbrev pub IsHidden : List Waiting → Type 0
IsHidden [] = ⊥
IsHidden (w t ∷ ks) = ⊥
IsHidden (hidden t v ∷ ks) = Unit {0}

-- a value waits, and below it stands this one
abbrev pub OverHidden : Value → List Waiting → Type 0
OverHidden v [] = ⊥
OverHidden v (w t ∷ []) = ⊥
OverHidden v (w t ∷ w u ∷ ks) = ⊥
OverHidden v (w t ∷ hidden u x ∷ ks) = x ≡ v
OverHidden v (hidden t x ∷ ks) = ⊥

abbrev pub vars_of : List Waiting → List ℕ
vars_of ks = map var_of ks

abbrev pub answer_var : Bool → ℕ → Option Var
answer_var true t = Some (to_var t)
answer_var false t = None

-- a call leaves a value
abbrev pub target_gives : Target → Bool
target_gives (Row g) = has_call_value g.answer
target_gives (Defined f) = not (is_void f.result)
target_gives (UnlessNull g) = has_call_value g.answer
target_gives (WithOutputs g steps) = true

abbrev pub pushed_if : Bool → ℕ → List Waiting → List Waiting
pushed_if true t ks = w t ∷ ks
pushed_if false t ks = ks

-- the base of a field waits
abbrev pub BaseWaits : expr.Place → List Waiting → Type 0
BaseWaits (expr.field_place p base tag field) ks = HasOne ks
BaseWaits place ks = Unit {0}

-- what waits below a value that is stored, besides the base of a field
abbrev pub below_store : expr.Place → List Waiting → List Waiting
below_store (expr.field_place p base tag field) ks = rest (rest ks)
below_store place ks = rest ks

-- one of two
abbrev pub One : Bool → Type 0 → Type 0 → Type 0
One true A B = A
One false A B = B

abbrev pub is_same : ValueKind → ValueKind → Bool
is_same to from = is_same_kind (Some to) (Some from)

-- how many values wait below one that is stored
abbrev pub level : expr.Place → ℕ → ℕ
level (expr.field_place p base tag field) d = suc d
level place d = d

-- where a loop goes on, and where it ends, by the place of its head
abbrev pub loop_body : ℕ → Option expr.Value → ℕ
loop_body head test = head + test_size test

abbrev pub loop_again : ℕ → Option expr.Value → stmt.Action → ℕ
loop_again head test a = head + test_size test + stmt_size a

abbrev pub loop_end : ℕ → Option expr.Value → stmt.Action → Option expr.Value → ℕ
loop_end head test a behind = head + test_size test + stmt_size a + option_size behind + 1

-- where the statements of a `switch` begin, after its comparisons
abbrev pub switch_first : ℕ → ℕ → stmt.Actions → ℕ
switch_first pc count ss = pc + count + 2 * length (block_cases (listed ss)) + 1

abbrev pub end_of_loop : ℕ → Loop → ℕ
end_of_loop head loop = loop_end head loop.test loop.body loop.increment

abbrev pub join_size : Option stmt.Action → ℕ
join_size None = 0
join_size (Some b) = 1
