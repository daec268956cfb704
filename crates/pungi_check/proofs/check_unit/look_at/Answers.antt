use Rattle.std.proofs.Common.{map, ap, sym, subst, ◌∙◌, IfOk, IfErr, IsTrue}
use Rattle.pungi_api.specs.Rows.{are_rows}
use Rattle.pungi_types.specs.Files.{SourceFile, definitions}
use Rattle.pungi_resolve.specs.Resolutions.{resolution_view}
use Rattle.pungi_check.specs.Faults.{IsFaultOf}
use Rattle.pungi_check.specs.Found.{IsFound}
use Rattle.pungi_check.proofs.check_unit.look_at.Goals as goal

pub look-requires-clause-unit : goal.look-requires-clause-unit
look-requires-clause-unit c = sym (ap (λ (file : SourceFile). file.items) c.in_ok-names.ensures)

pub look-requires-clause-listed : goal.look-requires-clause-listed
look-requires-clause-listed c =
    c.requires.functions ∙ ap (λ (file : SourceFile). definitions file.items) (sym c.in_ok-names.ensures)

pub look-requires-clause-rows : goal.look-requires-clause-rows
look-requires-clause-rows c =
    subst (λ (file : SourceFile). IsTrue (are_rows file.rows)) (sym c.in_ok-names.ensures)
    c.rows_are_well_formed.ensures

pub returns-clause-found : goal.returns-clause-found
returns-clause-found c =
    subst (λ (file : SourceFile). IfOk c.look.result (λ p. IsFound file p.names p.found.refused.keys
    p.found.refusals.items (map resolution_view p.found.resolved.items) p.statics))
    c.in_ok-names.ensures c.look.ensures.found

pub returns-clause-fault : goal.returns-clause-fault
returns-clause-fault c =
    subst (λ (file : SourceFile). IfErr c.look.result (λ e. IsFaultOf file e)) c.in_ok-names.ensures
    c.look.ensures.fault
