use Rattle.std.proofs.Common.{ap}
use Rattle.std.specs.Prelude.{is_some}
use Rattle.pungi_symbol.specs.Promises.{IsRunOf, IsShortRunOf, IsOwn, HasEachChoice}
use Rattle.pungi_explore.proofs.Endings.{of_some}
use Rattle.pungi_explore.proofs.visit.at_run.Goals as goal

pub returns-then-is_balanced : goal.returns-then-is_balanced
returns-then-is_balanced c = (
  c.is_balanced.ensures.balanced c.if-is_balanced.true,
  (c.is_balanced.ensures.level c.if-is_balanced.true, c.requires.run),
)

pub returns-in-Some : goal.returns-in-Some
returns-in-Some c =
    let codes = c.args.codes.now in
    let s = c.args.state.now in
    let o = c.in_ok-witness.field-0 in
    let w = c.in-Some.witness in
    record {
      returned = c.is_balanced.ensures.returned c.if-is_balanced.false;
      uneven = c.is_balanced.ensures.uneven c.if-is_balanced.false;
      run_at = record {
        run = of_some (IsRunOf codes s) o w c.in-Some.is c.in_ok-witness.ensures.run;
        short = of_some (IsShortRunOf codes s) o w c.in-Some.is c.in_ok-witness.ensures.short;
        own = of_some (IsOwn codes s) o w c.in-Some.is c.in_ok-witness.ensures.own;
        each = of_some (HasEachChoice codes s) o w c.in-Some.is c.in_ok-witness.ensures.each;
      };
    }

pub at_doubt-requires-clause-off : goal.at_doubt-requires-clause-off
at_doubt-requires-clause-off c = c.is_balanced.ensures.off c.if-is_balanced.false

pub at_doubt-requires-clause-run : goal.at_doubt-requires-clause-run
at_doubt-requires-clause-run c = c.requires.run

pub at_doubt-requires-clause-none : goal.at_doubt-requires-clause-none
at_doubt-requires-clause-none c = c.in_ok-witness.ensures.none (ap is_some c.in-None.is)

pub at_doubt-requires-clause-place : goal.at_doubt-requires-clause-place
at_doubt-requires-clause-place c = c.requires.place

pub returns-in-None : goal.returns-in-None
returns-in-None c = c.at_doubt.ensures
