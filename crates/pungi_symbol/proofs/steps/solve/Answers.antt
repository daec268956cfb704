use Rattle.std.proofs.Common.{ap, subst}
use Rattle.std.specs.Prelude.{is_some}
use Rattle.pungi_symbol.specs.runs.Numbers.{numbers_in}
use Rattle.pungi_symbol.specs.runs.AtZero.{HasNoZeroTable}
use Rattle.pungi_symbol.proofs.Promised.{HasParts, model_there, real_there, solved_run, solved_short, solved_own}
use Rattle.pungi_symbol.proofs.Promised.{solved_each, solved_apart}
use Rattle.pungi_symbol.proofs.steps.solve.Goals as goal

pub returns-in-None-clause-none : goal.returns-in-None-clause-none
returns-in-None-clause-none c _ =
    subst HasNoZeroTable c.state.ensures (c.in_ok-real_model_of.ensures.none (ap is_some c.in-None.is))

pub returns-in_ok-witness-in-Some-clause-run : goal.returns-in_ok-witness-in-Some-clause-run
returns-in_ok-witness-in-Some-clause-run c =
    let s = c.args.state.now in
    let w = c.in_ok-witness-in-Some in
    let model = model_there c.state.result.now s c.in_ok-real_model_of.field-0 c.state.ensures c.in-Some.model
    c.in-Some.is c.in_ok-real_model_of.ensures.model in
    let parts = subst (λ l. HasParts c.args.codes.now s l w.witness) c.as_slice.ensures.value
    (w.ensures.objects, w.ensures.few, w.ensures.args, w.ensures.choices) in
    solved_run c.args.codes.now s w.witness (numbers_in c.in-Some.model) model parts
    (real_there c.state.result.now c.args.state.now c.in_ok-real_model_of.field-0 c.state.ensures c.in-Some.model
    c.in-Some.is c.in_ok-real_model_of.ensures.real)

pub returns-in_ok-witness-in-Some-clause-short : goal.returns-in_ok-witness-in-Some-clause-short
returns-in_ok-witness-in-Some-clause-short c =
    let s = c.args.state.now in
    let w = c.in_ok-witness-in-Some in
    let model = model_there c.state.result.now s c.in_ok-real_model_of.field-0 c.state.ensures c.in-Some.model
    c.in-Some.is c.in_ok-real_model_of.ensures.model in
    let parts = subst (λ l. HasParts c.args.codes.now s l w.witness) c.as_slice.ensures.value
    (w.ensures.objects, w.ensures.few, w.ensures.args, w.ensures.choices) in
    solved_short c.args.codes.now s w.witness (numbers_in c.in-Some.model) model parts
    (real_there c.state.result.now c.args.state.now c.in_ok-real_model_of.field-0 c.state.ensures c.in-Some.model
    c.in-Some.is c.in_ok-real_model_of.ensures.real)

pub returns-in_ok-witness-in-Some-clause-own : goal.returns-in_ok-witness-in-Some-clause-own
returns-in_ok-witness-in-Some-clause-own c =
    let s = c.args.state.now in
    let w = c.in_ok-witness-in-Some in
    let model = model_there c.state.result.now s c.in_ok-real_model_of.field-0 c.state.ensures c.in-Some.model
    c.in-Some.is c.in_ok-real_model_of.ensures.model in
    let parts = subst (λ l. HasParts c.args.codes.now s l w.witness) c.as_slice.ensures.value
    (w.ensures.objects, w.ensures.few, w.ensures.args, w.ensures.choices) in
    solved_own c.args.codes.now s w.witness (numbers_in c.in-Some.model) model parts

pub returns-in_ok-witness-in-Some-clause-each : goal.returns-in_ok-witness-in-Some-clause-each
returns-in_ok-witness-in-Some-clause-each c =
    let s = c.args.state.now in
    let w = c.in_ok-witness-in-Some in
    let model = model_there c.state.result.now s c.in_ok-real_model_of.field-0 c.state.ensures c.in-Some.model
    c.in-Some.is c.in_ok-real_model_of.ensures.model in
    let parts = subst (λ l. HasParts c.args.codes.now s l w.witness) c.as_slice.ensures.value
    (w.ensures.objects, w.ensures.few, w.ensures.args, w.ensures.choices) in
    solved_each c.args.codes.now s w.witness (numbers_in c.in-Some.model) model parts

pub returns-in_ok-witness-in-Some-clause-apart : goal.returns-in_ok-witness-in-Some-clause-apart
returns-in_ok-witness-in-Some-clause-apart c =
    let s = c.args.state.now in
    let w = c.in_ok-witness-in-Some in
    let model = model_there c.state.result.now s c.in_ok-real_model_of.field-0 c.state.ensures c.in-Some.model
    c.in-Some.is c.in_ok-real_model_of.ensures.model in
    let parts = subst (λ l. HasParts c.args.codes.now s l w.witness) c.as_slice.ensures.value
    (w.ensures.objects, w.ensures.few, w.ensures.args, w.ensures.choices) in
    solved_apart c.args.codes.now s w.witness (numbers_in c.in-Some.model) model parts
