-- What a type is once typedefs are followed, and the kind of its values (C11 6.7.2, 6.7.8; Python/C API Reference
-- Manual 3.11, 'Object Structures').
--   Core, Followed      a type without its stars, and with as many as stand after typedefs
--   core_alone c, more_stars n f    no stars; more of them
--   spec_base s, is_struct k, tag_is t w    the parts of a type
--   typedef_in ts w, tagged_in ts w    the first typedef of a word; the fields of the first struct with a tag
--   tagged_core, written_core    the core of a tagged type, and of a type as it is written, where a struct with its tag
--                                has fields or none has
--   written_tag b, is_fielded file tag, core_here file b    the tag of a type, whether a struct with it has fields in
--                                                           the file, and the core there
--   named_core, typedef_core    the core after a typedef, and of a typedef
--   is_listed_type w    the name of a type that is known before a text is read
--   core_at n file b, core_of file b    typedefs followed so many times, and to their end
--   untagged_fields, untagged_in, or_else, struct_fields file w    the fields of the struct of this name
--   Member, first_member fs    a field, and the first of them
--   is_head_core, is_zero, is_head, begins_with_head, is_object_struct file w    a struct whose first field is
--   `PyObject ob_base` or `PyVarObject ob_base`
--   is_int_key, is_long_key, is_char_key, is_void_key, only p ks, both p q ks    tests of base words
--   words_kind ks n, listed_kind w n, core_kind file c n, type_kind file b n    the kind of a type with n stars
--   not_void k          only a result or a cast may be of kind Void
--   declared_kind file s d, type_name_kind file t    the kind of what is declared, and of a type's name
--   struct_only k, made_struct file t    the kind of a pointer to what `PyObject_New` makes of this type, if that is an
--   object struct
--   type_name_pos t     where a type's name begins
--   declr_named, member_kind, field_in, field_in_some, field_kind file k w    the kind of a field, by the struct of a
--                                                                             pointer
use Rattle.std.specs.Prelude.{ℕ, zero, suc, ◌+◌, ◌==◌, nat_le, Bool, true, false, ◌&&◌, ◌||◌, not, List, [], ◌∷◌}
use Rattle.std.specs.Prelude.{length, Option, Some, None, is_some, if◌then◌else◌}
use Rattle.pungi_base.specs.declared.key.Key.{Key}
use Rattle.pungi_base.specs.declared.key.Key.TheVariants as keys
use Rattle.pungi_base.specs.declared.names.Name.{Name}
use Rattle.pungi_base.specs.declared.pos.Pos.{Pos}
use Rattle.pungi_tree.specs.Syntax.{Spec, spec, Base, words, alias, tagged, tagged_fields, empty, members, Fields}
use Rattle.pungi_tree.specs.Syntax.{no_fields, field_and, Declr, Declrs, no_declrs, declr_and, TypeName, type_name}
use Rattle.pungi_tree.specs.Syntax.{Item}
use Rattle.pungi_base.specs.Numbers.{py_object, py_var_object, py_type_object, py_ssize_t, ob_base, py_module_def}
use Rattle.pungi_base.specs.Numbers.{first_type, types_end}
use Rattle.pungi_types.specs.Tags.{Tag, tags}
use Rattle.pungi_types.specs.Files.{Typedef, typedefs, declr_name, declr_stars, declr_tail, is_plain_tail}
use Rattle.pungi_types.specs.declared.kind.ValueKind.{ValueKind}
use Rattle.pungi_types.specs.declared.kind.ValueKind.TheVariants as kinds

-- a type without its stars: base words, a word of the list, a struct by the word that names it, or none of these
pub data Core : Type 0 where
  base_words : List Key → Core
  builtin : Name → Core
  struct_of : Name → Core
  no_core : Core

pub record Followed : Type 0 where
  pub core : Core
  pub stars : ℕ

abbrev pub core_alone : Core → Followed
core_alone c = record { core = c; stars = 0 }

abbrev pub more_stars : ℕ → Followed → Followed
more_stars n f = record { core = f.core; stars = f.stars + n }

abbrev pub spec_base : Spec → Base
spec_base (spec p b c) = b

abbrev pub is_struct : Key → Bool
is_struct keys.Struct = true
is_struct _ = false

abbrev pub typedef_in : List Typedef → ℕ → Option Typedef
typedef_in [] w = None
typedef_in (t ∷ ts) w = (if t.name.0 == w then Some t else typedef_in ts w)

abbrev pub tag_is : Option (Name × Pos) → ℕ → Bool
tag_is None w = false
tag_is (Some n) w = n.0.0 == w

-- the fields of the first struct with this tag
abbrev pub tagged_in : List Tag → ℕ → Option Fields
tagged_in [] w = None
tagged_in (t ∷ ts) w = (if is_struct t.of && tag_is t.tag w then Some t.fields else tagged_in ts w)

-- `struct PyModuleDef` is `PyModuleDef`; unions are no structs, and a tag that no struct with fields has is no type
abbrev pub tagged_core : Bool → Key → Name → Core
tagged_core fielded of n =
    (if is_struct of then (if n.0 == py_module_def then builtin n else (if fielded then struct_of n else no_core))
    else no_core)

abbrev pub is_listed_type : ℕ → Bool
is_listed_type w = nat_le first_type w && not (nat_le types_end w)

abbrev pub written_core : Bool → Base → Core
written_core fielded (words ks) = base_words ks
written_core fielded (alias n) = (if is_listed_type n.0 then builtin n else no_core)
written_core fielded (tagged of None) = no_core
written_core fielded (tagged of (Some t)) = tagged_core fielded of t.0
written_core fielded (tagged_fields of None fs) = no_core
written_core fielded (tagged_fields of (Some t) fs) = tagged_core fielded of t.0

-- the tag that a type is written with
abbrev pub written_tag : Base → Option Name
written_tag (tagged of (Some t)) = Some t.0
written_tag (tagged_fields of (Some t) fs) = Some t.0
written_tag _ = None

-- a struct with this tag has fields in the file
abbrev pub is_fielded : List Item → Option Name → Bool
is_fielded file None = false
is_fielded file (Some n) = is_some (tagged_in (tags file) n.0)

-- the core of a type where no typedef is followed
abbrev pub core_here : List Item → Base → Core
core_here file b = written_core (is_fielded file (written_tag b)) b

-- a struct without a tag is named by the word of its typedef, unless that is also the tag of a struct with fields
abbrev pub named_core : (Base → Followed) → List Item → Name → Base → Followed
named_core go file n (words ks) = go (words ks)
named_core go file n (alias w) = go (alias w)
named_core go file n (tagged of t) = go (tagged of t)
named_core go file n (tagged_fields of (Some t) fs) = go (tagged_fields of (Some t) fs)
named_core go file n (tagged_fields of None fs) =
    core_alone (if is_struct of && not (is_some (tagged_in (tags file) n.0)) then struct_of n else no_core)

abbrev pub typedef_core : (Base → Followed) → List Item → Option Typedef → Followed
typedef_core go file None = core_alone no_core
typedef_core go file (Some t) = more_stars t.stars (named_core go file t.name (spec_base t.spec))

-- typedefs followed at most so many times
abbrev pub core_at : ℕ → List Item → Base → Followed
core_at zero file b = core_alone (core_here file b)
core_at (suc n) file (words ks) = core_alone (base_words ks)
core_at (suc n) file (tagged of t) = core_alone (core_here file (tagged of t))
core_at (suc n) file (tagged_fields of t fs) = core_alone (core_here file (tagged_fields of t fs))
core_at (suc n) file (alias w) =
    (if is_listed_type w.0 then core_alone (builtin w) else typedef_core (core_at n file) file
    (typedef_in (typedefs file) w.0))

-- a chain of typedefs is no longer than the list of typedefs, or it goes in a circle and leads nowhere
abbrev pub core_of : List Item → Base → Followed
core_of file b = core_at (length (typedefs file)) file b

-- .. object structs
abbrev pub untagged_fields : Base → Option Fields
untagged_fields (tagged_fields of None fs) = (if is_struct of then Some fs else None)
untagged_fields _ = None

abbrev pub untagged_in : List Typedef → ℕ → Option Fields
untagged_in [] w = None
untagged_in (t ∷ ts) w = (if t.name.0 == w then untagged_fields (spec_base t.spec) else untagged_in ts w)

abbrev pub or_else : Option Fields → Option Fields → Option Fields
or_else (Some fs) o = Some fs
or_else None o = o

-- the fields of the struct of this name
abbrev pub struct_fields : List Item → ℕ → Option Fields
struct_fields file w = or_else (tagged_in (tags file) w) (untagged_in (typedefs file) w)

pub record Member : Type 0 where
  pub base : Base
  pub declr : Declr

abbrev pub first_member : Fields → Option Member
first_member no_fields = None
first_member (field_and empty fs) = first_member fs
first_member (field_and (members qs s no_declrs) fs) = None
first_member (field_and (members qs s (declr_and d ds)) fs) = Some (record { base = spec_base s; declr = d })

abbrev pub is_head_core : Core → Bool
is_head_core (builtin n) = n.0 == py_object || n.0 == py_var_object
is_head_core _ = false

abbrev pub is_zero : ℕ → Bool
is_zero n = n == 0

-- `PyObject ob_base` or `PyVarObject ob_base`
abbrev pub is_head : List Item → Option Member → Bool
is_head file None = false
is_head file (Some m) = (declr_name m.declr).0 == ob_base && (is_plain_tail (declr_tail m.declr)
    && (is_zero ((core_of file m.base).stars + declr_stars m.declr) && is_head_core (core_of file m.base).core))

abbrev pub begins_with_head : List Item → Option Fields → Bool
begins_with_head file None = false
begins_with_head file (Some fs) = is_head file (first_member fs)

abbrev pub is_object_struct : List Item → ℕ → Bool
is_object_struct file w = begins_with_head file (struct_fields file w)

-- .. kinds
abbrev pub is_int_key : Key → Bool
is_int_key keys.Int = true
is_int_key _ = false

abbrev pub is_long_key : Key → Bool
is_long_key keys.Long = true
is_long_key _ = false

abbrev pub is_char_key : Key → Bool
is_char_key keys.Char = true
is_char_key _ = false

abbrev pub is_void_key : Key → Bool
is_void_key keys.Void = true
is_void_key _ = false

abbrev pub only : (Key → Bool) → List Key → Bool
only p [] = false
only p (k ∷ []) = p k
only p (k ∷ l ∷ ks) = false

abbrev pub both : (Key → Bool) → (Key → Bool) → List Key → Bool
both p q [] = false
both p q (k ∷ []) = false
both p q (k ∷ l ∷ []) = p k && q l
both p q (k ∷ l ∷ m ∷ ks) = false

-- `int`, `long`, `long int`, `void`, and `char *`
abbrev pub words_kind : List Key → ℕ → Option ValueKind
words_kind ks n =
    (if n == 0 && only is_int_key ks then Some kinds.Int else
    (if n == 0 && (only is_long_key ks || both is_long_key is_int_key ks) then Some kinds.Long else
    (if n == 0 && only is_void_key ks then Some kinds.Void else
    (if n == 1 && only is_char_key ks then Some kinds.Text else None))))

-- `Py_ssize_t`, `PyObject *` and `PyTypeObject *`
abbrev pub listed_kind : ℕ → ℕ → Option ValueKind
listed_kind w n =
    (if n == 0 && w == py_ssize_t then Some kinds.Size else
    (if n == 1 && (w == py_object || w == py_type_object) then Some (kinds.Object None) else None))

abbrev pub core_kind : List Item → Core → ℕ → Option ValueKind
core_kind file (base_words ks) n = words_kind ks n
core_kind file (builtin w) n = listed_kind w.0 n
core_kind file (struct_of w) n = (if n == 1 && is_object_struct file w.0 then Some (kinds.Object (Some w)) else None)
core_kind file no_core n = None

-- the kind of a type with so many stars
abbrev pub type_kind : List Item → Base → ℕ → Option ValueKind
type_kind file b n = core_kind file (core_of file b).core ((core_of file b).stars + n)

-- only a result or a cast may be of kind Void
abbrev pub not_void : Option ValueKind → Option ValueKind
not_void (Some kinds.Void) = None
not_void k = k

-- the kind of what is declared: none for an array or a pointer to a function
abbrev pub declared_kind : List Item → Spec → Declr → Option ValueKind
declared_kind file s d =
    (if is_plain_tail (declr_tail d) then not_void (type_kind file (spec_base s) (declr_stars d)) else None)

abbrev pub type_name_kind : List Item → TypeName → Option ValueKind
type_name_kind file (type_name s stars) = type_kind file (spec_base s) (length stars)

abbrev pub struct_only : Option ValueKind → Option ValueKind
struct_only (Some (kinds.Object (Some s))) = Some (kinds.Object (Some s))
struct_only k = None

abbrev pub made_struct : List Item → TypeName → Option ValueKind
made_struct file (type_name s stars) = struct_only (type_kind file (spec_base s) (length stars + 1))

abbrev pub type_name_pos : TypeName → Pos
type_name_pos (type_name (spec p b c) stars) = p

abbrev pub declr_named : Declrs → ℕ → Option Declr
declr_named no_declrs w = None
declr_named (declr_and d ds) w = (if (declr_name d).0 == w then Some d else declr_named ds w)

abbrev pub member_kind : List Item → Spec → Option Declr → Option ValueKind → Option ValueKind
member_kind file s None others = others
member_kind file s (Some d) others = declared_kind file s d

-- a name that stands more than once has the kind of its first field
abbrev pub field_in : List Item → Fields → ℕ → Option ValueKind
field_in file no_fields w = None
field_in file (field_and empty fs) w = field_in file fs w
field_in file (field_and (members qs s ds) fs) w = member_kind file s (declr_named ds w) (field_in file fs w)

abbrev pub field_in_some : List Item → Option Fields → ℕ → Option ValueKind
field_in_some file None w = None
field_in_some file (Some fs) w = field_in file fs w

-- the kind of a field of the struct of a pointer
abbrev pub field_kind : List Item → Option ValueKind → ℕ → Option ValueKind
field_kind file (Some (kinds.Object (Some s))) w = field_in_some file (struct_fields file s.0) w
field_kind file _ w = None
