use Rattle.std.proofs.Common.{nat_eq}
use Rattle.indexmap.specs.IndexMap.{get}
use Rattle.pungi_tree.specs.UnitView.{unit_view}
use Rattle.pungi_names.specs.Depth.{known_at}
use Rattle.pungi_names.proofs.WalkLemmas.{kept}
use Rattle.pungi_names.proofs.typedefs.reach_word.Goals as goal

pub returns-clause-all : goal.returns-clause-all
returns-clause-all c =
    kept (known_at (unit_view c.args.unit.now)) (get nat_eq c.args.all.now) (get nat_eq c.insert.new.self)
    c.args.word c.in_ok-reached.reached
    c.in_ok-reached.ensures.reached c.requires.all c.in_ok-insert.ensures.updates.0
