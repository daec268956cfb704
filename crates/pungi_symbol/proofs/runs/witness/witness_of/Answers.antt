use Rattle.std.proofs.Common.{rules}
use Rattle.pungi_symbol.specs.runs.Paths.{canon}
use Rattle.pungi_symbol.proofs.runs.Canon.{choices_came}
use Rattle.pungi_symbol.proofs.runs.witness.witness_of.Goals as goal

pub returns-clause-choices : goal.returns-clause-choices
returns-clause-choices c =
    search (
      rules,
      choices_came c.args.arguments c.args.statics c.args.state.now.known.marks
          (canon c.args.state.now c.args.numbers.now),
    )
