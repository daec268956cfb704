-- Names under which each local and each call has a kind.
use Rattle.std.proofs.Common.{◌≡◌, ℕ, Bool, true, false, List, [], ◌∷◌, Option, Some, None, refl}
use Rattle.std.specs.Prelude.{◌==◌, ◌&&◌, ◌||◌, not, is_some, if◌then◌else◌}
use Rattle.pungi_tree.specs.Syntax.{Expr, word, arrow, Spec, Declr, Fields, no_fields, field_and, empty, members, Item}
use Rattle.pungi_types.specs.declared.kind.ValueKind.{ValueKind}
use Rattle.pungi_types.specs.declared.kind.ValueKind.TheVariants as kinds
use Rattle.pungi_types.specs.declared.local.Local.{Local}
use Rattle.pungi_api.specs.Rows.{row_in}
use Rattle.pungi_types.specs.Operators.{is_void}
use Rattle.pungi_types.specs.Files.{Definition, definitions, definition_in, Variable, variables_of, declr_name}
use Rattle.pungi_types.specs.Files.{declr_tail, declr_stars, is_plain_tail}
use Rattle.pungi_types.specs.Kinds.{type_kind, not_void, spec_base, declared_kind, declr_named, member_kind, field_in}
use Rattle.pungi_types.specs.Kinds.{field_in_some, field_kind, struct_fields}
use Rattle.pungi_types.specs.Names.{Env, a_static, a_function, unknown, local_in, local_or, global_or, global_in}
use Rattle.pungi_types.specs.Names.{global_kind, is_table, is_function, is_own_static, static_number}
use Rattle.pungi_types.specs.Calls.{Callee, defined, callee_of, local_called_or, defined_or, row_or, is_refused}
use Rattle.pungi_types.specs.Calls.{meaning_kind, is_place}
use Rattle.pungi_types.specs.Exprs.{kind_of}
use Rattle.pungi_types.specs.Stmts.{with_local}

-- a kind that a value may be kept in
abbrev pub is_value_kind : Option ValueKind → Bool
is_value_kind k = is_some k && not (is_void k)

abbrev pub is_known_local : Option Local → Bool
is_known_local None = true
is_known_local (Some l) = is_value_kind l.kind

-- a function that may be called has a result of a kind
abbrev pub answers : Env → Callee → Bool
answers env (defined d) = is_refused env d || is_some (type_kind env.file.items (spec_base d.result) d.stars)
answers env _ = true

pub record HasKinds (env : Env) : Type 0 where
  pub locals : (w : ℕ) → is_known_local (local_in env.locals w) ≡ true
  pub calls : (w : ℕ) → answers env (callee_of env w) ≡ true

-- .. one more local
answers_same : (env : Env) (l : Local) (c : Callee) → answers env c ≡ true → answers (with_local env l) c ≡ true
answers_same env l (defined d) h = h
answers_same env l _ h = refl

defined_kept : (env : Env) (l : Local) (w : ℕ) (x : Option Definition) → answers env (defined_or env w x) ≡ true
    → answers (with_local env l) (defined_or (with_local env l) w x) ≡ true
defined_kept env l w (Some d) h = h
defined_kept env l w None h = answers_same env l (row_or env.file.items w (row_in env.file.rows w)) h

called_kept : (env : Env) (l : Local) (w : ℕ) (o : Option Local) → answers env (local_called_or env w o) ≡ true
    → answers (with_local env l) (local_called_or (with_local env l) w o) ≡ true
called_kept env l w (Some m) h = refl
called_kept env l w None h = defined_kept env l w (definition_in (definitions env.file.items) w) h

pub one_more : (env : Env) (l : Local) → is_value_kind l.kind ≡ true → HasKinds env → HasKinds (with_local env l)
one_more env l k h = record {
  locals = λ w. elim (l.name.0 == w) as (λ b. is_known_local (if b then Some l else local_in env.locals w) ≡ true)
      [ true ↦ k | false ↦ h.locals w ];
  calls = λ w. elim (l.name.0 == w) as (λ b. answers (with_local env l) (local_called_or (with_local env l) w
      (if b then Some l else local_in env.locals w)) ≡ true) [
        | true ↦ refl
        | false ↦ called_kept env l w (local_in env.locals w) (h.calls w)
      ];
}

-- .. what is declared is never Void
not_void-holds : (k : Option ValueKind) → is_void (not_void k) ≡ false
not_void-holds None = refl
not_void-holds (Some kinds.Int) = refl
not_void-holds (Some kinds.Long) = refl
not_void-holds (Some kinds.Size) = refl
not_void-holds (Some kinds.Text) = refl
not_void-holds (Some (kinds.Object s)) = refl
not_void-holds (Some kinds.Null) = refl
not_void-holds (Some kinds.Void) = refl

pub plain-not_void : (file : List Item) (s : Spec) (n : ℕ) → is_void (not_void (type_kind file (spec_base s) n)) ≡ false
plain-not_void file s n = not_void-holds (type_kind file (spec_base s) n)

pub declared-not_void : (file : List Item) (s : Spec) (d : Declr) → is_void (declared_kind file s d) ≡ false
declared-not_void file s d =
    elim (is_plain_tail (declr_tail d)) as (λ b. is_void (if b then not_void
    (type_kind file (spec_base s) (declr_stars d)) else None) ≡ false) [
      | true ↦ plain-not_void file s (declr_stars d)
      | false ↦ refl
    ]

member-not_void : (file : List Item) (s : Spec) (o : Option Declr) (k : Option ValueKind) → is_void k ≡ false
    → is_void (member_kind file s o k) ≡ false
member-not_void file s None k h = h
member-not_void file s (Some d) k h = declared-not_void file s d

field_in-not_void : (file : List Item) (fs : Fields) (w : ℕ) → is_void (field_in file fs w) ≡ false
field_in-not_void file no_fields w = refl
field_in-not_void file (field_and empty fs) w = field_in-not_void file fs w
field_in-not_void file (field_and (members qs s ds) fs) w =
    member-not_void file s (declr_named ds w) (field_in file fs w) (field_in-not_void file fs w)

some_field-not_void : (file : List Item) (fs : Option Fields) (w : ℕ) → is_void (field_in_some file fs w) ≡ false
some_field-not_void file None w = refl
some_field-not_void file (Some fs) w = field_in-not_void file fs w

field-not_void : (file : List Item) (k : Option ValueKind) (w : ℕ) → is_void (field_kind file k w) ≡ false
field-not_void file (Some (kinds.Object (Some s))) w = some_field-not_void file (struct_fields file s.0) w
field-not_void file _ w = refl

global_in-not_void : (file : List Item) (vs : List Variable) (w : ℕ) → is_void (global_in file vs w) ≡ false
global_in-not_void file [] w = refl
global_in-not_void file (v ∷ vs) w =
    elim ((declr_name v.declr).0 == w && not (is_table file v)) as (λ b. is_void
    (if b then declared_kind file v.spec v.declr else global_in file vs w) ≡ false) [
      | true ↦ declared-not_void file v.spec v.declr
      | false ↦ global_in-not_void file vs w
    ]

global-not_void : (file : List Item) (w : ℕ) (g : Option ValueKind) → is_void g ≡ false
    → is_void (meaning_kind (global_or file w g)) ≡ false
global-not_void file w (Some k) h = h
global-not_void file w None h =
    elim (is_own_static file w) as (λ b. is_void (meaning_kind (if b then a_static (static_number file w) else
    unknown)) ≡ false) [
      | true ↦ refl
      | false ↦ refl
    ]

known-not_void : (k : Option ValueKind) → is_value_kind k ≡ true → is_void k ≡ false
known-not_void (Some kinds.Void) h = absurd (cc)
known-not_void _ h = refl

local-not_void : (file : List Item) (w : ℕ) (o : Option Local) → is_known_local o ≡ true
    → is_void (meaning_kind (local_or file w o)) ≡ false
local-not_void file w (Some l) h = known-not_void l.kind h
local-not_void file w None h =
    elim (is_function file w) as (λ b. is_void (meaning_kind (if b then a_function else global_or file w
    (global_kind file w))) ≡ false) [
      | true ↦ refl
      | false ↦ global-not_void file w (global_kind file w) (global_in-not_void file (variables_of file) w)
    ]

pub place-not_void : (env : Env) → HasKinds env → (e : Expr) → is_place env e ≡ true → is_void (kind_of env e) ≡ false
place-not_void env h (word p n) s = local-not_void env.file.items n.0 (local_in env.locals n.0) (h.locals n.0)
place-not_void env h (arrow p e n) s = field-not_void env.file.items (kind_of env e) n.0
place-not_void env h _ s = absurd (cc)
