use Rattle.std.proofs.Common.{◌≡◌, Option, None, Some, MatchOption, true, false}
use Rattle.std.specs.Prelude.{is_some}
use Rattle.pungi_symbol.specs.declared.runs.model.Model.{Model}
use Rattle.pungi_symbol.specs.declared.states.state.State.{State}
use Rattle.pungi_symbol.specs.runs.Paths.{HasNoTable}
use Rattle.pungi_symbol.specs.runs.AtZero.{HasNoZeroTable}
use Rattle.pungi_symbol.proofs.runs.numbers.real_model_of.Goals as goal

none_at_zero : (s : State) (P : Model → Type 0) (o : Option Model) → MatchOption o (HasNoTable s) P
    → is_some o ≡ false → HasNoZeroTable s
none_at_zero s P None none e table f zero = none table f
none_at_zero s P (Some m) h e table f zero = absurd (let bad : true ≡ false = e in cc)

pub returns-then-is_empty-clause-none : goal.returns-then-is_empty-clause-none
returns-then-is_empty-clause-none c missing =
    none_at_zero c.args.state.now _ c.in_ok-model.model c.in_ok-model.ensures missing
