use Rattle.std.proofs.Common.{sym, subst}
use Rattle.std.proofs.lemmas.Result.{IfErr-weaker, IfOk-weaker}
use Rattle.pungi_tree.specs.UnitFlat.{items_flat}
use Rattle.pungi_tree.specs.UnitView.{unit_view}
use Rattle.pungi_types.specs.Files.{SourceFile}
use Rattle.pungi.specs.Api.{Api}
use Rattle.pungi.specs.Front.{AreKnownKinds}
use Rattle.pungi.proofs.Fronts.{no_file, no_memory, unit_refused, verdicts_on}
use Rattle.pungi.proofs.examine.examine.Goals as goal

pub returns-in-Err-clause-fault : goal.returns-in-Err-clause-fault
returns-in-Err-clause-fault c =
    let api : Api = record { names = c.args.names.now; rows = c.args.rows.now; terms = c.args.terms.now } in
    no_file api c.args.text.now c.in-Err.fault (c.in-Err.ensures.fault c.args.rows.now c.args.terms.now)

pub verdicts-requires-clause-known : goal.verdicts-requires-clause-known
verdicts-requires-clause-known c =
    subst (λ (f : SourceFile). AreKnownKinds c.unit_of.new.names (items_flat f.items))
    (sym c.in-Ok-check.ensures.file) c.in-Ok.ensures.known

pub returns-in-Ok-check-clause-verdicts : goal.returns-in-Ok-check-clause-verdicts
returns-in-Ok-check-clause-verdicts c =
    let api : Api = record { names = c.args.names.now; rows = c.args.rows.now; terms = c.args.terms.now } in
    IfOk-weaker c.verdicts.result _ _ (λ lines h.
    verdicts_on api c.args.text.now c.unit_of.new.names (unit_view c.in-Ok.unit) c.in-Ok-check.checked lines.items
    c.in-Ok.ensures.unit c.in-Ok-check.ensures.file c.in-Ok-check.ensures.checked h) c.verdicts.ensures.judged

pub returns-in-Ok-check-clause-fault : goal.returns-in-Ok-check-clause-fault
returns-in-Ok-check-clause-fault c =
    let api : Api = record { names = c.args.names.now; rows = c.args.rows.now; terms = c.args.terms.now } in
    IfErr-weaker c.verdicts.result _ _ (λ found h. no_memory api c.args.text.now found h) c.verdicts.ensures.memory

pub returns-clause-fault : goal.returns-clause-fault
returns-clause-fault c =
    let api : Api = record { names = c.args.names.now; rows = c.args.rows.now; terms = c.args.terms.now } in
    unit_refused api c.args.text.now c.unit_of.new.names (unit_view c.in-Ok.unit) c.in-Err-check.fault
    c.in-Ok.ensures.unit c.in-Ok.ensures.only c.in-Err-check.ensures.fault
