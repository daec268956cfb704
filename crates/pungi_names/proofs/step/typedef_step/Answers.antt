use Rattle.std.proofs.Common.{◌∙◌, sym, ap, is_some}
use Rattle.pungi_base.specs.declared.names.Name.{Name}
use Rattle.pungi_tree.specs.Syntax.{Base}
use Rattle.pungi_tree.specs.UnitView.{unit_view}
use Rattle.pungi_tree.specs.ExprView.{base_view}
use Rattle.pungi_types.specs.Kinds.{tagged_in, written_tag}
use Rattle.pungi_types.specs.Tags.{tags}
use Rattle.pungi_types.specs.TypesView.{typedef_view, core_view}
use Rattle.pungi_names.specs.Depth.{alias_of, struct_word, own_core}
use Rattle.pungi_names.proofs.SpecLemmas.{spec_base-view}
use Rattle.pungi_names.proofs.StepLemmas.{ends}
use Rattle.pungi_names.proofs.step.typedef_step.Goals as goal

pub returns-in-None : goal.returns-in-None
returns-in-None c =
    let file = unit_view c.args.unit.now in
    let t = c.args.found.now in
    let s = t.spec.now in
    ends file c.args.word (typedef_view t) (core_view c.own_core.result) c.requires.unlisted c.requires.found
    (ap alias_of (spec_base-view s) ∙ sym c.alias_of.ensures ∙ c.in-None.is)
    (c.own_core.ensures
    ∙ ap (λ b. own_core b t.name (base_view s.base)) (c.contains.ensures ∙ c.requires.tags c.struct_word.result.0
    ∙ ap (λ (w : Name). is_some (tagged_in (tags file) w.0)) c.struct_word.ensures)
    ∙ ap (λ (b : Base). own_core (is_some (tagged_in (tags file) (struct_word t.name (written_tag b)).0)) t.name b)
    (sym (spec_base-view s)))
