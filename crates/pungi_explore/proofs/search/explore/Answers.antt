use Rattle.pungi_explore.proofs.Searched.{finds_fault}
use Rattle.pungi_explore.proofs.search.explore.Goals as goal

pub returns-clause-found : goal.returns-clause-found
returns-clause-found c = finds_fault c.args.codes.now c.args.f c.in_ok-explored.explored c.in_ok-explored.ensures
