use Rattle.pungi_fixpoint.specs.Solver.{calls}
use Rattle.pungi_fixpoint.specs.Summaries.{exit_of}
use Rattle.pungi_fixpoint.proofs.Below.{built_below}
use Rattle.pungi_fixpoint.proofs.Grows.{built_inductive}
use Rattle.pungi_fixpoint.proofs.solver.annotate.Goals as goal

pub returns-clause-inductive : goal.returns-clause-inductive
returns-clause-inductive g c =
    rw (c.annotation_of.ensures.at, c.annotation_of.ensures.exits) (built_inductive g.D.Domain.least
    g.D.Domain.member c.args.program.now (exit_of c.args.summaries.now.exits)
    (calls g.D.Domain.member c.args.summaries.now.exits) c.settle.new.stage c.requires.well_formed
    c.settle.ensures.built c.in_ok-settle.ensures.settled)

pub returns-clause-least : goal.returns-clause-least
returns-clause-least g c l rows wide inductive =
    rw (c.annotation_of.ensures.at, c.annotation_of.ensures.exits) (built_below g.D.Domain.least l g.D.Domain.member
    g.met.D.Domain.zero c.args.program.now c.args.summaries.now.exits rows c.requires.well_formed wide inductive
    c.settle.new.stage c.settle.ensures.built)
