-- What is known of a file, and what it declares outside functions (C11 6.9).
--   SourceFile          what is known of a file
--   source_file texts items rows terms    the same, of a file whose names have these texts
--   Typedef, Variable, Definition, Place    a typedef, a variable or table, a function with its body, a name and where
--                                           it stands
--   declr_name, declr_pos, declr_stars, declr_tail    the parts of a declarator
--   is_no_array ss, is_plain_tail t    no sizes stand after a name; neither these nor the parameters of a pointer to a
--                                      function
--   typedefs, variables_of, definitions, prototypes    those of a file, in text order; decl_variables those of one
--                                                      declaration
--   is_place_in ps w, definition_in ds w    a name is among these; the first definition of a name
--   number_in i ds w    the number of the first definition of a name, where the first of these has number i
--   AreOwn whole ds     each of these is the first definition of its name in the whole list
use Rattle.std.specs.Prelude.{◌≡◌, ℕ, ◌+◌, Bool, true, false, ◌==◌, ◌||◌, List, [], ◌∷◌, ◌++◌, length, Option}
use Rattle.std.specs.Prelude.{Some, None, if◌then◌else◌}
use Rattle.pungi_base.specs.declared.names.Name.{Name}
use Rattle.pungi_base.specs.declared.pos.Pos.{Pos}
use Rattle.pungi_base.specs.Numbers.{first_free}
use Rattle.pungi_api.specs.declared.row.Row.{Row}
use Rattle.pungi_api.specs.Terms.{FileTerms}
use Rattle.pungi_tree.specs.Syntax.{Spec, Declr, declr, Tail, sizes, function, Sizes, no_sizes, open_and, size_and}
use Rattle.pungi_tree.specs.Syntax.{Params, Stmt, VarDecl, var_decl, decl, Item, typedef, variables, head, prototype}
use Rattle.pungi_tree.specs.Syntax.{function_def}

-- its items, the rows of the API by their names, the texts of names by their numbers, the number of the first name that
-- a text may bring, and the terms under which its functions are judged
pub record SourceFile : Type 0 where
  pub items : List Item
  pub rows : List (ℕ × Row)
  pub texts : List (List ℕ)
  pub first : ℕ
  pub terms : FileTerms

abbrev pub source_file : List (List ℕ) → List Item → List (ℕ × Row) → FileTerms → SourceFile
source_file texts items rows terms =
    record { items = items; rows = rows; texts = texts; first = first_free; terms = terms }

pub record Typedef : Type 0 where
  pub name : Name
  pub pos : Pos
  pub spec : Spec
  pub stars : ℕ

-- a variable or table
pub record Variable : Type 0 where
  pub spec : Spec
  pub declr : Declr

pub record Definition : Type 0 where
  pub name : Name
  pub pos : Pos
  pub result : Spec
  pub stars : ℕ
  pub params : Params
  pub body : Stmt

pub record Place : Type 0 where
  pub name : Name
  pub pos : Pos

abbrev pub declr_name : Declr → Name
declr_name (declr stars n p t) = n

abbrev pub declr_pos : Declr → Pos
declr_pos (declr stars n p t) = p

abbrev pub declr_stars : Declr → ℕ
declr_stars (declr stars n p t) = length stars

abbrev pub declr_tail : Declr → Tail
declr_tail (declr stars n p t) = t

abbrev pub is_no_array : Sizes → Bool
is_no_array no_sizes = true
is_no_array (open_and ss) = false
is_no_array (size_and e ss) = false

-- neither an array nor a pointer to a function
abbrev pub is_plain_tail : Tail → Bool
is_plain_tail (sizes ss) = is_no_array ss
is_plain_tail (function ps) = false

abbrev pub typedefs : List Item → List Typedef
typedefs [] = []
typedefs (typedef s stars n p ∷ is) = record { name = n; pos = p; spec = s; stars = length stars } ∷ typedefs is
typedefs (_ ∷ is) = typedefs is

abbrev pub decl_variables : Spec → List VarDecl → List Variable
decl_variables s [] = []
decl_variables s (var_decl d v ∷ vs) = record { spec = s; declr = d } ∷ decl_variables s vs

abbrev pub variables_of : List Item → List Variable
variables_of [] = []
variables_of (variables (decl qs s vs) ∷ is) = decl_variables s vs ++ variables_of is
variables_of (_ ∷ is) = variables_of is

abbrev pub definitions : List Item → List Definition
definitions [] = []
definitions (function_def (head qs s stars n p ps) b ∷ is) =
    record { name = n; pos = p; result = s; stars = length stars; params = ps; body = b } ∷ definitions is
definitions (_ ∷ is) = definitions is

abbrev pub prototypes : List Item → List Place
prototypes [] = []
prototypes (prototype (head qs s stars n p ps) ∷ is) = record { name = n; pos = p } ∷ prototypes is
prototypes (_ ∷ is) = prototypes is

abbrev pub is_place_in : List Place → ℕ → Bool
is_place_in [] w = false
is_place_in (x ∷ xs) w = x.name.0 == w || is_place_in xs w

-- the first definition of this name
abbrev pub definition_in : List Definition → ℕ → Option Definition
definition_in [] w = None
definition_in (d ∷ ds) w = (if d.name.0 == w then Some d else definition_in ds w)

abbrev pub number_in : ℕ → List Definition → ℕ → Option ℕ
number_in i [] w = None
number_in i (d ∷ ds) w = (if d.name.0 == w then Some i else number_in (i + 1) ds w)

abbrev pub AreOwn : List Definition → List Definition → Type 0
AreOwn whole [] = Unit {0}
AreOwn whole (d ∷ ds) = (definition_in whole d.name.0 ≡ Some d) × AreOwn whole ds
