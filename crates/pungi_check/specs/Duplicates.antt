-- Names that a file may not use twice (C11 6.7, 6.9). A fault is a finding: 1 a duplicate name, 2 too many functions.
--   Use, NameUse, is_same_use    a file-level name: that of a function, a variable or a table
--   vars_uses, uses     these names in text order
--   used_otherwise, use_faults    a name for two of function, variable and table
--   is_variable_use, is_taken, variable_faults    a variable with the name of a row or a built-in static
--   definition_faults   a function defined twice, or with the name of a row or a built-in static
--   typedef_faults      a type word defined twice, or one that is known before a text is read
--   is_same_of, has_tag, tag_seen, one_tag_fault, tag_faults    a struct's or union's tag defined twice
--   count_faults, faults file    the first function that is too many, and all of these
use Rattle.std.specs.Prelude.{ℕ, ◌==◌, Bool, true, false, ◌&&◌, ◌||◌, not, List, [], ◌∷◌, ◌++◌, Option, Some, None}
use Rattle.std.specs.Prelude.{is_some, slice_get, if◌then◌else◌}
use Rattle.pungi_base.specs.declared.key.Key.{Key}
use Rattle.pungi_base.specs.declared.names.Name.{Name}
use Rattle.pungi_base.specs.declared.pos.Pos.{Pos}
use Rattle.pungi_tree.specs.Syntax.{Item, variables, head, prototype, function_def, Spec, decl, VarDecl, var_decl}
use Rattle.pungi_api.specs.declared.row.Row.{Row}
use Rattle.pungi_api.specs.Rows.{row_in}
use Rattle.pungi_types.specs.Tags.{Tag, tags}
use Rattle.pungi_types.specs.Files.{SourceFile, Typedef, typedefs, Definition, definitions, declr_name, declr_pos}
use Rattle.pungi_types.specs.Limits.{most_functions}
use Rattle.pungi_types.specs.Kinds.{is_struct, is_listed_type}
use Rattle.pungi_types.specs.Names.{is_among, with_word, is_table, is_built_in_static}
use Rattle.pungi_types.specs.Findings.{Findings, nothing_found, ◌and◌, when}

pub data Use : Type 0 where
  as_function : Use
  as_variable : Use
  as_table : Use

pub record NameUse : Type 0 where
  pub name : Name
  pub pos : Pos
  pub as_what : Use

abbrev pub is_same_use : Use → Use → Bool
is_same_use as_function as_function = true
is_same_use as_variable as_variable = true
is_same_use as_table as_table = true
is_same_use _ _ = false

abbrev pub vars_uses : List Item → Spec → List VarDecl → List NameUse
vars_uses file s [] = []
vars_uses file s (var_decl d v ∷ vs) =
    record {
      name = declr_name d;
      pos = declr_pos d;
      as_what = (if is_table file (record { spec = s; declr = d })
          then as_table else as_variable);
    } ∷ vars_uses file s vs

-- the file-level names in text order
abbrev pub uses : List Item → List Item → List NameUse
uses file [] = []
uses file (prototype (head qs s stars n p ps) ∷ is) = record { name = n; pos = p; as_what = as_function } ∷ uses file is
uses file (function_def (head qs s stars n p ps) b ∷ is) =
    record { name = n; pos = p; as_what = as_function } ∷ uses file is
uses file (variables (decl qs s vs) ∷ is) = vars_uses file s vs ++ uses file is
uses file (_ ∷ is) = uses file is

abbrev pub used_otherwise : List NameUse → NameUse → Bool
used_otherwise [] u = false
used_otherwise (v ∷ vs) u = (v.name.0 == u.name.0 && not (is_same_use v.as_what u.as_what)) || used_otherwise vs u

-- a name for two of function, variable and table
abbrev pub use_faults : List NameUse → List NameUse → Findings
use_faults seen [] = nothing_found
use_faults seen (u ∷ us) = when (used_otherwise seen u) u.pos 1 and use_faults (u ∷ seen) us

abbrev pub is_variable_use : Use → Bool
is_variable_use as_variable = true
is_variable_use _ = false

abbrev pub is_taken : List (ℕ × Row) → ℕ → Bool
is_taken rows w = is_some (row_in rows w) || is_built_in_static w

-- a variable with the name of a row or a built-in static
abbrev pub variable_faults : SourceFile → List NameUse → Findings
variable_faults file [] = nothing_found
variable_faults file (u ∷ us) =
    when (is_variable_use u.as_what && is_taken file.rows u.name.0) u.pos 1 and variable_faults file us

-- a function defined twice, or with the name of a row or a built-in static
abbrev pub definition_faults : SourceFile → List ℕ → List Definition → Findings
definition_faults file seen [] = nothing_found
definition_faults file seen (d ∷ ds) =
    when (is_among seen d.name.0 || is_taken file.rows d.name.0) d.pos 1
    and definition_faults file (with_word seen d.name.0) ds

-- a type word defined twice, or one that is listed
abbrev pub typedef_faults : List ℕ → List Typedef → Findings
typedef_faults seen [] = nothing_found
typedef_faults seen (t ∷ ts) =
    when (is_among seen t.name.0 || is_listed_type t.name.0) t.pos 1 and typedef_faults (with_word seen t.name.0) ts

abbrev pub is_same_of : Bool → Bool → Bool
is_same_of true b = b
is_same_of false b = not b

abbrev pub has_tag : Option (Name × Pos) → ℕ → Bool
has_tag None w = false
has_tag (Some n) w = n.0.0 == w

abbrev pub tag_seen : List Tag → Key → ℕ → Bool
tag_seen [] of w = false
tag_seen (t ∷ ts) of w = (is_same_of (is_struct t.of) (is_struct of) && has_tag t.tag w) || tag_seen ts of w

abbrev pub one_tag_fault : List Tag → Tag → Option (Name × Pos) → Findings
one_tag_fault seen t None = nothing_found
one_tag_fault seen t (Some n) = when (tag_seen seen t.of n.0.0) n.1 1

-- a struct's or union's tag defined twice
abbrev pub tag_faults : List Tag → List Tag → Findings
tag_faults seen [] = nothing_found
tag_faults seen (t ∷ ts) = one_tag_fault seen t t.tag and tag_faults (t ∷ seen) ts

-- the first function that is too many
abbrev pub count_faults : Option Definition → Findings
count_faults None = nothing_found
count_faults (Some d) = when true d.pos 2

abbrev pub faults : SourceFile → Findings
faults file =
    definition_faults file [] (definitions file.items)
    and (use_faults [] (uses file.items file.items) and (variable_faults file (uses file.items file.items)
    and (typedef_faults [] (typedefs file.items)
    and (tag_faults [] (tags file.items) and count_faults (slice_get (definitions file.items) most_functions)))))
