use Rattle.pungi_fixpoint.specs.Duties.{stage_of}
use Rattle.pungi_fixpoint.proofs.Below.{not_broken}
use Rattle.pungi_fixpoint.proofs.Checks.{large_build}
use Rattle.pungi_fixpoint.proofs.check.check_duties.Goals as goal

pub returns-clause-not_safe : goal.returns-clause-not_safe
returns-clause-not_safe g c l k e rows wide below =
    not_broken g.D.Domain.least l g.D.Domain.member c.args.program.now rows c.requires.well_formed wide c.args.kind
    (stage_of c.args.annotation.now.at c.args.annotation.now.exits) below (c.check_edges.ensures.fails l k e)

pub returns-clause-range : goal.returns-clause-range
returns-clause-range g c k row e exit built =
    large_build g.D.Domain.least g.D.Domain.member c.args.program.now exit
    (stage_of c.args.annotation.now.at c.args.annotation.now.exits) k row built
    (c.check_edges.ensures.range k row e)
