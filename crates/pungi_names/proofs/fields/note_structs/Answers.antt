use Rattle.std.proofs.Common.{◌∙◌, ap, nat_eq, option_map}
use Rattle.std.specs.Map.{lookup}
use Rattle.indexmap.specs.IndexMap.{get}
use Rattle.pungi_tree.specs.UnitView.{unit_view}
use Rattle.pungi_types.specs.Kinds.{tagged_in, typedef_in}
use Rattle.pungi_names.specs.FieldsView.{kind_in}
use Rattle.pungi_names.specs.First.{or_first}
use Rattle.pungi_names.specs.StructsView.{fields_kept, typedef_kept}
use Rattle.pungi_names.proofs.StructLemmas.{fields-found}
use Rattle.pungi_names.proofs.fields.note_structs.Goals as goal

pub returns : goal.returns
returns c =
    let file = unit_view c.args.kinds.now.cores.unit.now in
    λ s w.
    fields-found file s w (option_map (kind_in w) (get nat_eq c.args.structs.now s))
    (option_map (kind_in w) (get nat_eq c.note_tags.new.structs s))
    (option_map (kind_in w) (get nat_eq c.note_typedefs.new.structs s))
    (ap (λ es. option_map (kind_in w) (lookup (nat_eq s) es)) c.requires.empty)
    (c.in_ok-note_tags.ensures s w ∙ ap (λ ts. or_first (option_map (kind_in w) (get nat_eq c.args.structs.now s))
    (fields_kept file (tagged_in ts s) w)) c.requires.tags)
    (c.in_ok-note_typedefs.ensures s w ∙ ap (λ ts. or_first (option_map (kind_in w)
    (get nat_eq c.note_tags.new.structs s)) (typedef_kept file (typedef_in ts s) w)) c.requires.typedefs)
