-- The parts of types and declarators, seen through the trees that they stand for.
use Rattle.std.proofs.Common.{◌≡◌, map, length, rules, Vec, Option, Some}
use Rattle.std.specs.declared.alloc.Global.{Global}
use Rattle.pungi_base.specs.declared.key.Key.{Key}
use Rattle.pungi_base.specs.declared.names.Name.{Name}
use Rattle.pungi_base.specs.declared.pos.Pos.{Pos}
use Rattle.pungi_types.specs.Kinds.{spec_base}
use Rattle.pungi_types.specs.Files.{declr_name, declr_stars}
use Rattle.pungi_tree.specs.Syntax as plain
use Rattle.pungi_tree.specs.ExprView.{spec_view, base_view, declr_view, field_view, declrs_of, fields_of}
use Rattle.pungi_tree.specs.declared.spec.Base.TheVariants.{Tagged}
use Rattle.pungi_tree.specs.declared.spec.Field.TheVariants.{Members}
use Rattle.pungi_tree.specs.declared.declr.Tail.TheViews.{the_lemmas}
use Rattle.pungi_tree.specs.declared.declr.Tail.TheFolds.{fold_out-Spec, fold_out-Declr, fold_out-Base, fold_out-Field}
use Rattle.pungi_tree.specs.declared.declr.Declr.{Declr}
use Rattle.pungi_tree.specs.declared.spec.Field.{Field}
use Rattle.pungi_tree.specs.declared.spec.Spec.{Spec}

pub spec_base-view : (s : Spec) → spec_base (spec_view s) ≡ base_view s.base
spec_base-view s = search (rules, the_lemmas, fold_out-Spec)

pub declr_name-view : (d : Declr) → declr_name (declr_view d) ≡ d.name
declr_name-view d = search (rules, the_lemmas, fold_out-Declr)

pub declr_stars-view : (d : Declr) → declr_stars (declr_view d) ≡ length d.stars.items
declr_stars-view d = search (rules, the_lemmas, fold_out-Declr)

pub field_view-members : (qs : Vec Key Global) (s : Spec) (ds : Vec Declr Global)
    → field_view (Members qs s ds) ≡ plain.members qs.items (spec_view s) (declrs_of (map declr_view ds.items))
field_view-members qs s ds = search (rules, the_lemmas, fold_out-Field, fold_out-Declr)

pub base_view-fields : (of : Key) (tag : Option (Name × Pos)) (fs : Vec Field Global)
    → base_view (Tagged of tag (Some fs)) ≡ plain.tagged_fields of tag (fields_of (map field_view fs.items))
base_view-fields of tag fs = search (rules, the_lemmas, fold_out-Base, fold_out-Field)

pub ruleset views = (spec_base-view, declr_name-view, declr_stars-view, base_view-fields)
