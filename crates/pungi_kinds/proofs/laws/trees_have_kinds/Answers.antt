use Rattle.pungi_kinds.proofs.Trees.{trees_hold}
use Rattle.pungi_kinds.proofs.laws.trees_have_kinds.Goals as goal

pub returns : goal.returns
returns c = trees_hold c.args.codes.now
