use Rattle.std.proofs.Common.{sym, ◌∙◌}
use Rattle.pungi_names.specs.NamesView.{file_of}
use Rattle.pungi_check.proofs.FaultRules.{fault-of}
use Rattle.pungi_check.proofs.check_unit.refuse_fault.Goals as goal

pub returns-in-Ok-Some-clause-fault : goal.returns-in-Ok-Some-clause-fault
returns-in-Ok-Some-clause-fault c =
    fault-of (file_of c.args.names.now) c.in-Ok-Some.found c.fault.result (sym c.in-Ok-Some.field-0-is
    ∙ c.in-Ok-Some.ensures) c.fault.ensures.one c.fault.ensures.two
