use Rattle.std.proofs.Common.{◌∙◌, ap, refl, ◌+◌, ◌==◌, ◌&&◌}
use Rattle.pungi_tree.specs.ExprView.{base_view}
use Rattle.pungi_tree.specs.UnitView.{unit_view}
use Rattle.pungi_types.specs.Kinds.{core_of, is_head_core}
use Rattle.pungi_names.specs.CoresView.{followed_view}
use Rattle.pungi_names.proofs.CoresLemmas.{test-seen}
use Rattle.pungi_names.proofs.tables.is_head_base.Goals as goal

pub returns : goal.returns
returns c =
    let f = followed_view c.core_of-followed.result in
    c.both.ensures ∙ ap (λ x. x && c.is_head_core.result) c.is_no_star.ensures
    ∙ ap (λ y. (f.stars + c.args.stars) == 0 && y) c.is_head_core.ensures
    ∙ test-seen is_head_core refl c.args.stars f (core_of (unit_view c.args.cores.now.unit.now)
    (base_view c.args.base.now)) c.core_of-followed.ensures
