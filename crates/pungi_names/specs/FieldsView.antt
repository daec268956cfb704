-- The kinds of the fields of a struct, as they are kept.
--   kind_in w fields    the kind of the field of this name
use Rattle.std.specs.Prelude.{ℕ, Option, None, nat_eq}
use Rattle.std.specs.declared.hash.FoldHasher.{FoldHasher}
use Rattle.std.specs.declared.hash.BuildHasherDefault.{BuildHasherDefault}
use Rattle.indexmap.specs.IndexMap.{get, IndexMap}
use Rattle.pungi_names.specs.StructsView.{kept_or}
use Rattle.pungi_types.specs.declared.kind.ValueKind.{ValueKind}

abbrev pub kind_in : ℕ → IndexMap ℕ (Option ValueKind) (BuildHasherDefault FoldHasher) → Option ValueKind
kind_in w fields = kept_or (get nat_eq fields w) None
