-- The small words that describe a step.
--   top, below vs                      the newest value that waits, and the values below it; never used where there is
--                                      none
--   newest n vs                        the n newest values, the oldest of them first
--   go_on, push_value, replace_value, replace_two    goes on; with one value more; with a value for the newest, or for
--                                                    the two newest
--   pop_value                          goes on without the newest value
--   with_result o vs                   one value more, where there is one
--   with_local x c s                   a local holds something else
--   content_at locals x                what a local holds
--   action_locals a, block_locals list    the locals that a statement declares, and those of a block
--   unset_locals rs locals             declared locals hold nothing
--   unused choices s                   the choices that are left
--   after_effect p r go s              what the world does at a place: with its effect and the world after it the run
--                                      goes on
--   or_else                            the first of two that is there
use Rattle.std.specs.Prelude.{ℕ, List, [], ◌∷◌, ◌++◌, length, take, drop, reverse, replicate, get_or, slice_set}
use Rattle.std.specs.Prelude.{Option, Some, None, Result, Ok, Err}
use Rattle.pungi_base.specs.declared.choice.Choice.{Choice}
use Rattle.pungi_base.specs.declared.pos.Pos.{Pos}
use Rattle.pungi_base.specs.declared.value.Value.{Value}
use Rattle.pungi_base.specs.declared.value.Value.TheVariants as value
use Rattle.pungi_resolved.specs.Actions.{DeclaredLocal, Action, declare}
use Rattle.pungi_world.specs.declared.content.Content.{Content}
use Rattle.pungi_world.specs.declared.content.Content.TheVariants.{Unset}
use Rattle.pungi_world.specs.declared.effect.Effect.{Effect}
use Rattle.pungi_world.specs.declared.halt.Halt.{Halt}
use Rattle.pungi_world.specs.declared.halt.Halt.TheVariants as halt
use Rattle.pungi_world.specs.declared.world.World.{World}
use Rattle.pungi_meaning.specs.Todo.{Operation, Todo, State, Step, Goes, Stops, Wants}

abbrev pub top : List Value → Value
top [] = value.Null
top (v ∷ vs) = v

abbrev pub below : List Value → List Value
below [] = []
below (v ∷ vs) = vs

abbrev pub newest : ℕ → List Value → List Value
newest n vs = reverse (take n vs)

abbrev pub go_on : List Todo → State → Step
go_on k s = Goes [] k s

abbrev pub push_value : Value → List Todo → State → Step
push_value v k s = Goes [] k (record s { values = v ∷ s.values })

abbrev pub pop_value : List Todo → State → Step
pop_value k s = Goes [] k (record s { values = below s.values })

abbrev pub replace_value : List Operation → Value → List Todo → State → Step
replace_value os v k s = Goes os k (record s { values = v ∷ below s.values })

abbrev pub replace_two : List Operation → Value → List Todo → State → Step
replace_two os v k s = Goes os k (record s { values = v ∷ below (below s.values) })

abbrev pub with_result : Option Value → List Value → List Value
with_result None vs = vs
with_result (Some v) vs = v ∷ vs

-- ---- locals

abbrev pub content_at : List Content → ℕ → Content
content_at locals x = get_or locals x Unset

abbrev pub with_local : ℕ → Content → State → State
with_local x c s = record s { locals = slice_set s.locals x c }

-- what a statement in it declares is no local of the block
abbrev pub action_locals : Action → List DeclaredLocal
action_locals (declare p rs) = rs
action_locals a = []

abbrev pub block_locals : List Action → List DeclaredLocal
block_locals [] = []
block_locals (a ∷ rest) = action_locals a ++ block_locals rest

abbrev pub unset_locals : List DeclaredLocal → List Content → List Content
unset_locals [] locals = locals
unset_locals (r ∷ rs) locals = unset_locals rs (slice_set locals r.number Unset)

-- ---- the world

abbrev pub unused : List Choice → State → List Choice
unused choices s = drop (length s.used) choices

abbrev pub after_effect : Pos → Result (Effect × World) Halt → (Effect → State → Step) → State → Step
after_effect p (Ok r) go s = go r.0 (record s { world = r.1; used = s.used ++ replicate r.0.used p })
after_effect p (Err halt.Stopped) go s = Stops p
after_effect p (Err halt.NeedsChoice) go s = Wants
after_effect p (Err halt.Memory) go s = Wants

abbrev pub or_else : {A : Type 0} → Option A → Option A → Option A
or_else (Some x) other = Some x
or_else None other = other
