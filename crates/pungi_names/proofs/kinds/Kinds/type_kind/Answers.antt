use Rattle.std.proofs.Common.{◌∙◌, sym, ap}
use Rattle.pungi_tree.specs.ExprView.{base_view}
use Rattle.pungi_tree.specs.UnitView.{unit_view}
use Rattle.pungi_types.specs.Kinds.{core_of, type_kind}
use Rattle.pungi_names.specs.CoresView.{followed_view}
use Rattle.pungi_names.proofs.CoresLemmas.{kind-seen}
use Rattle.pungi_names.proofs.SpecLemmas.{spec_base-view}
use Rattle.pungi_names.proofs.kinds.Kinds.type_kind.Goals as goal

pub returns : goal.returns
returns c =
    let file = unit_view c.args.self.now.cores.unit.now in
    let s = c.args.spec.now in
    c.starred_kind.ensures ∙ kind-seen file c.args.stars (followed_view c.core_of-followed.result)
    (core_of file (base_view s.base)) c.core_of-followed.ensures
    ∙ ap (λ b. type_kind file b c.args.stars) (sym (spec_base-view s))
