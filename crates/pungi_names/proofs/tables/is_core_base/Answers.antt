use Rattle.std.proofs.Common.{◌∙◌}
use Rattle.pungi_tree.specs.ExprView.{base_view}
use Rattle.pungi_tree.specs.UnitView.{unit_view}
use Rattle.pungi_types.specs.Kinds.{core_of}
use Rattle.pungi_types.specs.Names.{is_core}
use Rattle.pungi_names.specs.CoresView.{followed_view}
use Rattle.pungi_names.proofs.CoresLemmas.{core-seen}
use Rattle.pungi_names.proofs.tables.is_core_base.Goals as goal

pub returns : goal.returns
returns c =
    c.is_core.ensures
    ∙ core-seen (is_core c.args.word.0) (followed_view c.core_of-followed.result)
    (core_of (unit_view c.args.cores.now.unit.now) (base_view c.args.base.now)) c.core_of-followed.ensures
