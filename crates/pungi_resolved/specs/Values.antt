-- What an expression of a resolved function does: its names resolved, its conversions written out. One node for each
-- node of the text.
--   Value               what an expression does
--   Values              the arguments of a call
--   Place               what can be read and assigned to
use Rattle.std.specs.Prelude.{ℕ, ℤ, Bool, List}
use Rattle.pungi_base.specs.declared.kind.Kind.{Kind}
use Rattle.pungi_base.specs.declared.names.Name.{Name}
use Rattle.pungi_base.specs.declared.pos.Pos.{Pos}
use Rattle.pungi_base.specs.declared.punct.Punct.{Punct}
use Rattle.pungi_api.specs.declared.signature.Signature.{Signature}
use Rattle.pungi_types.specs.declared.kind.ValueKind.{ValueKind}
use Rattle.pungi_resolved.specs.declared.callee.CalledFunction.{CalledFunction}
use Rattle.pungi_resolved.specs.declared.output_step.OutputStep.{OutputStep}

mutual
  pub data Value : Type 0 where
    constant : Pos → ℤ → Value
    text_of : Pos → List Name → Value
    null_of : Pos → Value
    static_of : Pos → ℕ → Value  -- a static object, by its number
    module_of : Pos → Name → Value  -- `&` of a module table
    read : Pos → ValueKind → Place → Value
    inner : Pos → Value → Value  -- a parenthesis
    signed : Pos → Kind → ValueKind → Value → Value  -- `+` and `-`: the kind of the result
    negated : Pos → Value → Value  -- `!`
    stepped : Pos → Bool → Kind → ValueKind → Place → Value  -- `++` and `--`, true after the operand
    emptied : Pos → ValueKind → Place → Value  -- what a place held, which holds NULL from then on
    computed : Pos → Punct → ValueKind → Value → Value → Value
    compared : Pos → Punct → Value → Value → Value
    joined_by : Pos → Punct → Value → Value → Value  -- `&&` and `||`
    stored : Pos → ValueKind → Place → Value → Value  -- the kind of the place
    updated : Pos → Punct → ValueKind → ValueKind → Place → Value
        → Value  -- `+=` and its kin: the kind of the arithmetic, and that of the place
    chosen : Pos → Value → Value → Value → Value  -- `?:`
    converted : Pos → ValueKind → Value → Value  -- to another integer kind; stops at this place where it doesn't fit
    cast_of : Pos → Value → Value  -- a cast that converts nothing
    dropped : Pos → Value → Value  -- a cast to void
    called : Pos → CalledFunction → Values → Value  -- a function of the file
    called_row : Pos → Name → Signature → Values → Value  -- a call of the API
    called_unless_null : Pos → Name → Signature → Values
        → Value  -- one that returns NULL where an argument that is an object is NULL
    called_with_outputs : Pos → Name → Signature → Values → List OutputStep
        → Value  -- one that ends with a number, after which these steps come
    nonsense : Pos → Value  -- no checked function has this

  pub data Values : Type 0 where
    no_values : Values
    value_and : Value → Values → Values

  -- what can be read and assigned to
  pub data Place : Type 0 where
    local_place : Pos → ℕ → Place  -- the place of the word
    global_place : Pos → Name → Place
    field_place : Pos → Value → Name → Name → Place  -- the place of `->`, the base, its struct and the field
    no_place : Place
