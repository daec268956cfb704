-- What a word means at its place in a function (C11 6.2.1, 6.2.2).
--   Env                 where an expression stands: the file, the function's name, the refused functions, and the
--                       locals, the innermost and latest first
--   is_among ws w, with_word ws w    a word is among these; these, with one more at the end where it wasn't among them
--   is_table_type, is_table_core, is_core, is_no_function, is_table file v, is_single file w v    a variable without
--   stars of one of the five table types
--   global_in, global_kind file w    the kind of the first variable of this name that is no table
--   type_objects_in, type_objects file    the names of the file's static type objects, each once, by first declaration
--   table_in, is_table_name file w    a table
--   module_in, is_module file w    a table of type `PyModuleDef`
--   is_some_definition, is_function file w    a function, defined or only declared
--   is_plain_static w, is_type_object file w, is_static file w    an object that is there before any run; one that is
--                                                                 used with `&`; either
--   is_built_in_static w    one that is there whatever the file declares
--   is_own_static file w    a name that the file doesn't take for a table, of an object that is used without `&`
--   place_among ws w, static_number file w    the number of a static's object
--   statics_in file    how many static objects there are
--   local_in ls w       the latest local of a name
--   Meaning             what a word that stands as a value is
--   static_or_unknown, global_or, local_or, meaning_of env w    what it is: a local, else a function, else a global of
--                                                               a kind, else a static
use Rattle.std.specs.Prelude.{ℕ, ◌+◌, ◌-◌, ◌==◌, nat_le, Bool, true, false, ◌&&◌, ◌||◌, not, List, [], ◌∷◌, ◌++◌}
use Rattle.std.specs.Prelude.{length, Option, Some, None, if◌then◌else◌}
use Rattle.std.specs.List.{list_any}
use Rattle.pungi_tree.specs.Syntax.{Tail, sizes, function, Item}
use Rattle.pungi_base.specs.Numbers.{static_count, py_type_object, py_method_def, py_module_def, py_member_def}
use Rattle.pungi_base.specs.Numbers.{py_get_set_def, first_static, first_type_object, statics_end}
use Rattle.pungi_types.specs.Files.{SourceFile, Variable, variables_of, definitions, definition_in, prototypes}
use Rattle.pungi_types.specs.Files.{is_place_in, declr_name, declr_stars, declr_tail, is_plain_tail, Definition}
use Rattle.pungi_types.specs.Kinds.{Core, builtin, core_of, spec_base, declared_kind}
use Rattle.pungi_types.specs.declared.kind.ValueKind.{ValueKind}
use Rattle.pungi_types.specs.declared.local.Local.{Local}

-- where an expression stands: locals with the innermost and latest first
pub record Env : Type 0 where
  pub file : SourceFile
  pub self : ℕ
  pub refused : List ℕ
  pub locals : List Local

abbrev pub is_among : List ℕ → ℕ → Bool
is_among ws w = list_any (λ x. w == x) ws

-- these words, with one more at the end where it wasn't among them
abbrev pub with_word : List ℕ → ℕ → List ℕ
with_word ws w = (if is_among ws w then ws else ws ++ w ∷ [])

abbrev pub is_table_type : ℕ → Bool
is_table_type w =
    w == py_type_object || (w == py_method_def
    || (w == py_module_def || (w == py_member_def || w == py_get_set_def)))

abbrev pub is_table_core : Core → Bool
is_table_core (builtin n) = is_table_type n.0
is_table_core _ = false

abbrev pub is_core : ℕ → Core → Bool
is_core w (builtin n) = n.0 == w
is_core w _ = false

abbrev pub is_no_function : Tail → Bool
is_no_function (sizes ss) = true
is_no_function (function ps) = false

-- a table: a variable without stars of one of the five table types
abbrev pub is_table : List Item → Variable → Bool
is_table file v =
    is_no_function (declr_tail v.declr) && (((core_of file (spec_base v.spec)).stars + declr_stars v.declr) == 0
    && is_table_core (core_of file (spec_base v.spec)).core)

-- a table of this type that is no array
abbrev pub is_single : List Item → ℕ → Variable → Bool
is_single file w v =
    is_table file v && (is_plain_tail (declr_tail v.declr) && is_core w (core_of file (spec_base v.spec)).core)

-- the first variable of this name that is no table
abbrev pub global_in : List Item → List Variable → ℕ → Option ValueKind
global_in file [] w = None
global_in file (v ∷ vs) w =
    (if (declr_name v.declr).0 == w && not (is_table file v) then declared_kind file v.spec v.declr else global_in
    file vs w)

abbrev pub global_kind : List Item → ℕ → Option ValueKind
global_kind file w = global_in file (variables_of file) w

-- the names of the file's static type objects, each once, by first declaration
abbrev pub type_objects_in : List Item → List ℕ → List Variable → List ℕ
type_objects_in file seen [] = seen
type_objects_in file seen (v ∷ vs) =
    type_objects_in file (if is_single file py_type_object v then with_word seen (declr_name v.declr).0 else seen) vs

abbrev pub type_objects : List Item → List ℕ
type_objects file = type_objects_in file [] (variables_of file)

abbrev pub table_in : List Item → List Variable → ℕ → Bool
table_in file [] w = false
table_in file (v ∷ vs) w = ((declr_name v.declr).0 == w && is_table file v) || table_in file vs w

abbrev pub is_table_name : List Item → ℕ → Bool
is_table_name file w = table_in file (variables_of file) w

abbrev pub module_in : List Item → List Variable → ℕ → Bool
module_in file [] w = false
module_in file (v ∷ vs) w = ((declr_name v.declr).0 == w && is_single file py_module_def v) || module_in file vs w

abbrev pub is_module : List Item → ℕ → Bool
is_module file w = module_in file (variables_of file) w

-- a function, defined or only declared
abbrev pub is_some_definition : Option Definition → Bool
is_some_definition None = false
is_some_definition (Some d) = true

abbrev pub is_function : List Item → ℕ → Bool
is_function file w = is_some_definition (definition_in (definitions file) w) || is_place_in (prototypes file) w

abbrev pub is_plain_static : ℕ → Bool
is_plain_static w = nat_le first_static w && not (nat_le first_type_object w)

-- a type object, which is used with `&`
abbrev pub is_type_object : List Item → ℕ → Bool
is_type_object file w = (nat_le first_type_object w && not (nat_le statics_end w)) || is_among (type_objects file) w

abbrev pub is_static : List Item → ℕ → Bool
is_static file w = is_plain_static w || is_type_object file w

abbrev pub place_among : List ℕ → ℕ → ℕ
place_among [] w = 0
place_among (x ∷ xs) w = (if x == w then 0 else place_among xs w + 1)

-- a built-in static, whether a type object or not
abbrev pub is_built_in_static : ℕ → Bool
is_built_in_static w = nat_le first_static w && not (nat_le statics_end w)

-- a name that the file declares as a table is that, also where it is the name of a built-in static
abbrev pub is_own_static : List Item → ℕ → Bool
is_own_static file w = is_plain_static w && not (is_table_name file w)

-- the number of a static's object
abbrev pub statics_in : List Item → ℕ
statics_in file = static_count + length (type_objects file)

abbrev pub static_number : List Item → ℕ → ℕ
static_number file w =
    (if is_built_in_static w then w - first_static else place_among (type_objects file) w + static_count)

abbrev pub local_in : List Local → ℕ → Option Local
local_in [] w = None
local_in (l ∷ ls) w = (if l.name.0 == w then Some l else local_in ls w)

-- what a word that stands as a value is
pub data Meaning : Type 0 where
  a_local : Local → Meaning
  a_function : Meaning
  a_global : ValueKind → Meaning
  a_static : ℕ → Meaning
  unknown : Meaning

abbrev pub static_or_unknown : List Item → ℕ → Meaning
static_or_unknown file w = (if is_own_static file w then a_static (static_number file w) else unknown)

abbrev pub global_or : List Item → ℕ → Option ValueKind → Meaning
global_or file w None = static_or_unknown file w
global_or file w (Some k) = a_global k

abbrev pub local_or : List Item → ℕ → Option Local → Meaning
local_or file w (Some l) = a_local l
local_or file w None = (if is_function file w then a_function else global_or file w (global_kind file w))

abbrev pub meaning_of : Env → ℕ → Meaning
meaning_of env w = local_or env.file.items w (local_in env.locals w)
