-- What the fields of a struct are to the names of a file.
--   fields_list fs      the fields of a struct
--   kept_or o r         what is kept, or else this
--   first_declr b ds    the first field of those that are declared together
--   field_head file f   whether a line of fields is the head of an object, where it declares a field
--   head_kept file o, typedef_head file o    whether a struct begins with the head of an object, where there is one; of
--                                            a typedef of a struct without a tag
--   typedef_fields o    the fields of the struct without a tag that a typedef writes
--   field_or file f w r the kind of a field of this name among those of a line, or else this
--   fields_kept file o w, typedef_kept file o w    the kind of a field of this name, where there is such a struct or
--                                                  typedef
use Rattle.std.specs.Prelude.{ℕ, Bool, List, Option, Some, None, map, Vec}
use Rattle.std.specs.declared.alloc.Global.{Global}
use Rattle.pungi_tree.specs.ExprView.{field_view, fields_of}
use Rattle.pungi_tree.specs.Syntax as plain
use Rattle.pungi_tree.specs.Syntax.{Base, Declrs, no_declrs, declr_and, empty, members, Fields, Item}
use Rattle.pungi_tree.specs.declared.spec.Field.{Field}
use Rattle.pungi_types.specs.Files.{Typedef}
use Rattle.pungi_types.specs.Kinds.{Member, is_head, begins_with_head, untagged_fields, spec_base, member_kind}
use Rattle.pungi_types.specs.Kinds.{declr_named, field_in, field_in_some}
use Rattle.pungi_types.specs.declared.kind.ValueKind.{ValueKind}

abbrev pub fields_list : Vec Field Global → Fields
fields_list v = fields_of (map field_view v.items)

abbrev pub kept_or : {A : Type 0} → Option A → A → A
kept_or None r = r
kept_or (Some x) r = x

abbrev pub first_declr : Base → Declrs → Option Member
first_declr b no_declrs = None
first_declr b (declr_and d ds) = Some (record { base = b; declr = d })

abbrev pub field_head : List Item → plain.Field → Option Bool
field_head file empty = None
field_head file (members qs s ds) = Some (is_head file (first_declr (spec_base s) ds))

abbrev pub head_kept : List Item → Option Fields → Option Bool
head_kept file None = None
head_kept file (Some fs) = Some (begins_with_head file (Some fs))

abbrev pub typedef_head : List Item → Option Typedef → Option Bool
typedef_head file None = None
typedef_head file (Some t) = Some (begins_with_head file (untagged_fields (spec_base t.spec)))

abbrev pub typedef_fields : Option Typedef → Option Fields
typedef_fields None = None
typedef_fields (Some t) = untagged_fields (spec_base t.spec)

abbrev pub field_or : List Item → plain.Field → ℕ → Option ValueKind → Option ValueKind
field_or file empty w r = r
field_or file (members qs s ds) w r = member_kind file s (declr_named ds w) r

abbrev pub fields_kept : List Item → Option Fields → ℕ → Option (Option ValueKind)
fields_kept file None w = None
fields_kept file (Some fs) w = Some (field_in file fs w)

abbrev pub typedef_kept : List Item → Option Typedef → ℕ → Option (Option ValueKind)
typedef_kept file None w = None
typedef_kept file (Some t) w = Some (field_in_some file (untagged_fields (spec_base t.spec)) w)
