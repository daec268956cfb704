use Rattle.std.proofs.Common.{◌≡◌, ◌+◌, ◌≤◌, ℕ, List, length, subst, sym}
use Rattle.std.proofs.lemmas.Result.{IfOk-weaker}
use Rattle.pungi_base.specs.Numbers.{static_count}
use Rattle.pungi_tree.specs.UnitView.{unit_view}
use Rattle.pungi_types.specs.Limits.{most_statics}
use Rattle.pungi_types.specs.Names.{type_objects}
use Rattle.pungi_names.proofs.SizeLemmas.{few_type_objects}
use Rattle.pungi_names.proofs.gather.fill_values.Goals as goal

pub returns-clause-few : goal.returns-clause-few
returns-clause-few c =
    let items = unit_view c.args.kinds.now.cores.unit.now in
    IfOk-weaker c.note_type_objects.result (λ _. c.note_type_objects.new.objects.keys ≡ type_objects items)
    (λ _. static_count + length c.note_type_objects.new.objects.keys ≤ most_statics)
    (λ _ e. subst (λ (ws : List ℕ). static_count + length ws ≤ most_statics) (sym e)
    (few_type_objects items c.requires.few)) c.note_type_objects.ensures
