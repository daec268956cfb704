use Rattle.pungi_verdict.proofs.Related.{tried-found}
use Rattle.pungi_verdict.proofs.relations.try_relations.Goals as goal

pub returns-in-Ok : goal.returns-in-Ok
returns-in-Ok c =
    tried-found c.args.codes.now c.args.f c.in-Ok.program c.in-Ok.ensures.program c.search.result c.search.ensures
