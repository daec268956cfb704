use Rattle.std.proofs.Common.{◌∙◌, ap, nat_eq}
use Rattle.std.specs.Map.{lookup}
use Rattle.indexmap.specs.IndexMap.{get}
use Rattle.pungi_tree.specs.UnitView.{unit_view}
use Rattle.pungi_types.specs.Kinds.{tagged_in, typedef_in}
use Rattle.pungi_names.specs.First.{or_first}
use Rattle.pungi_names.specs.StructsView.{head_kept, typedef_head}
use Rattle.pungi_names.proofs.StructLemmas.{objects-found}
use Rattle.pungi_names.proofs.heads.object_structs.Goals as goal

pub returns : goal.returns
returns c =
    let file = unit_view c.args.cores.now.unit.now in
    objects-found file (get nat_eq c.new-objects.result) (get nat_eq c.note_tags.new.objects)
    (get nat_eq c.note_typedefs.new.objects)
    (λ w. ap (lookup (nat_eq w)) c.new-objects.ensures.empty)
    (λ w. c.in_ok-note_tags.ensures w ∙ ap (λ ts. or_first (get nat_eq c.new-objects.result w)
    (head_kept file (tagged_in ts w))) c.requires.tags)
    (λ w. c.in_ok-note_typedefs.ensures w ∙ ap (λ ts. or_first (get nat_eq c.note_tags.new.objects w)
    (typedef_head file (typedef_in ts w))) c.requires.typedefs)
