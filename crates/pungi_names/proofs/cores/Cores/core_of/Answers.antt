use Rattle.std.proofs.Common.{Bool, length, sym, ap, ◌∙◌}
use Rattle.pungi_tree.specs.ExprView.{base_view}
use Rattle.pungi_tree.specs.UnitView.{unit_view}
use Rattle.pungi_types.specs.Files.{typedefs}
use Rattle.pungi_types.specs.Kinds.{Core, core_alone, written_core}
use Rattle.pungi_names.specs.Depth.{known}
use Rattle.pungi_names.proofs.StepLemmas.{written-itself}
use Rattle.pungi_names.proofs.cores.Cores.core_of.Goals as goal

pub returns-in-None : goal.returns-in-None
returns-in-None c =
    let file = unit_view c.args.self.now.unit.now in
    let b = base_view c.args.base.now in
    ap (λ (k : Core). known (core_alone k)) (c.written_core.ensures
    ∙ ap (λ (f : Bool). written_core f b) c.is_fielded.ensures)
    ∙ sym (ap known (written-itself file (length (typedefs file)) b (sym c.alias_of.ensures ∙ c.in-None.is)))
