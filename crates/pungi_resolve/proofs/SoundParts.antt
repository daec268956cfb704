-- What is sound of a node, and of its parts.
use Rattle.std.proofs.Common.{◌≡◌, ℕ, zero, suc, arith, Bool, true, false, List, Option, Some, None, refl}
use Rattle.std.proofs.lemmas.Bool.Decides.{nat_tests}
use Rattle.std.specs.Prelude.{◌&&◌, ◌||◌, not, nat_lt, is_some, if◌then◌else◌}
use Rattle.pungi_base.specs.declared.kind.Kind.{Kind}
use Rattle.pungi_base.specs.declared.names.Name.{Name}
use Rattle.pungi_base.specs.declared.pos.Pos.{Pos}
use Rattle.pungi_base.specs.declared.punct.Punct.{Punct}
use Rattle.pungi_tree.specs.Syntax.{Expr, word, unary, Exprs, no_exprs, expr_and, Item}
use Rattle.pungi_api.specs.Rows.{row_in}
use Rattle.pungi_api.specs.declared.row.Row.{Row}
use Rattle.pungi_types.specs.declared.kind.ValueKind.{ValueKind}
use Rattle.pungi_types.specs.declared.kind.ValueKind.TheVariants as kinds
use Rattle.pungi_types.specs.declared.local.Local.{Local}
use Rattle.pungi_types.specs.declared.wants.Want.{Want}
use Rattle.pungi_types.specs.Files.{Definition, definitions, definition_in}
use Rattle.pungi_types.specs.Findings.{when_some}
use Rattle.pungi_types.specs.Formats.{arg_at, expr_pos, pos_of, format_pos}
use Rattle.pungi_types.specs.Kinds.{field_kind}
use Rattle.pungi_types.specs.Names.{Env, Meaning, a_local, a_global, a_function, a_static, unknown, local_in, local_or}
use Rattle.pungi_types.specs.Names.{global_or, global_kind, is_function, is_own_static, static_number}
use Rattle.pungi_types.specs.Operators.{prefix_of, is_integer, is_void, is_order, is_equality, is_arithmetic}
use Rattle.pungi_types.specs.Operators.{is_arithmetic_assign, struct_part, wider, is_same_kind}
use Rattle.pungi_types.specs.Calls.{Callee, no_word, a_value, defined, a_row, no_function, callee, local_called_or}
use Rattle.pungi_types.specs.Calls.{defined_or, row_or, is_refused, result_kind, takes_arguments, is_slot, meaning_kind}
use Rattle.pungi_types.specs.Calls.{is_word, is_address, names_type_object, names_module, is_module_address, how_many}
use Rattle.pungi_types.specs.Calls.{call_wants, call_format}
use Rattle.pungi_types.specs.Exprs.{is_unknown_call, is_value_called, is_function_meaning, is_unknown, are_met}
use Rattle.pungi_types.specs.Exprs.{are_fixed_met, is_call_met}
use Rattle.pungi_resolve.specs.Exprs.{convert, convert_some, cast_value, read_as, field_of, word_place, word_value}
use Rattle.pungi_resolve.specs.Exprs.{or_int, binary_value, assign_value, static_address, module_address}
use Rattle.pungi_resolved.specs.Values.{Value, Place, computed, compared, joined_by, updated, stored, dropped}
use Rattle.pungi_resolved.specs.Values.{cast_of}
use Rattle.pungi_resolve.specs.Sound.{is_sound, is_sound_place}
use Rattle.pungi_resolve.proofs.Clean.{Clean, not_when, not_false, and_left, and_right}
use Rattle.pungi_resolve.proofs.Known.{answers, is_known_local, is_value_kind}

-- .. conversions
some-same : (p : Pos) (to : Option ValueKind) (v : Value) → is_sound (convert_some p to v) ≡ is_sound v
some-same p None v = refl
some-same p (Some k) v = refl

pub convert-same : (p : Pos) (to from : Option ValueKind) (v : Value) → is_sound (convert p to from v) ≡ is_sound v
convert-same p to from v =
    elim (is_integer to && (is_integer from && not (is_same_kind to from))) as
    (λ b. is_sound (if b then convert_some p to v else v) ≡ is_sound v) [
      | true ↦ some-same p to v
      | false ↦ refl
    ]

pub cast-same : (p : Pos) (to from : Option ValueKind) (v : Value) → is_sound (cast_value p to from v) ≡ is_sound v
cast-same p to from v =
    elim (is_void to) as (λ b. is_sound (if b then dropped p v else (if is_integer to
    && not (is_same_kind to from) then convert_some p to v else cast_of p v)) ≡ is_sound v) [
      | true ↦ refl
      | false ↦ elim (is_integer to && not (is_same_kind to from)) as (λ c. is_sound
          (if c then convert_some p to v else cast_of p v) ≡ is_sound v) [
            | true ↦ some-same p to v
            | false ↦ refl
          ]
    ]

-- .. operators
pub binary-same : (p : Pos) (m : Punct) (k : Option ValueKind) (a b : Value)
    → is_sound (binary_value p m k a b) ≡ (is_sound a && is_sound b)
binary-same p m k a b =
    elim (is_arithmetic m) as (λ x. is_sound (if x then computed p m (or_int k) a b else
    (if is_order m || is_equality m then compared p m a b else joined_by p m a b)) ≡ (is_sound a && is_sound b)) [
      | true ↦ refl
      | false ↦ elim (is_order m || is_equality m) as (λ y. is_sound (if y then compared p m a b else joined_by p m
          a b) ≡ (is_sound a && is_sound b)) [
            | true ↦ refl
            | false ↦ refl
          ]
    ]

pub assign-same : (p : Pos) (m : Punct) (k from : Option ValueKind) (s : Place) (v : Value)
    → is_sound (assign_value p m k from s v) ≡ (is_sound_place s && is_sound v)
assign-same p m k from s v =
    elim (is_arithmetic_assign m) as (λ x. is_sound (if x then updated p m (wider k from) (or_int k) s v else stored
    p (or_int k) s (convert p k from v)) ≡ (is_sound_place s && is_sound v)) [
      | true ↦ refl
      | false ↦ rw (convert-same p k from v) refl
    ]

-- .. places
pub read-sound : (p : Pos) (k : Option ValueKind) (s : Place) → is_some k ≡ true → is_sound_place s ≡ true
    → is_sound (read_as p k s) ≡ true
read-sound p None s e h = absurd (cc)
read-sound p (Some k) s e h = h

pub read-place : (p : Pos) (k : Option ValueKind) (s : Place) → is_sound (read_as p k s) ≡ true
    → is_sound_place s ≡ true
read-place p None s h = absurd (cc)
read-place p (Some k) s h = h

pub field-sound : (p : Pos) (v : Value) (o : Option Name) (n : Name) → is_some o ≡ true → is_sound v ≡ true
    → is_sound_place (field_of p v o n) ≡ true
field-sound p v None n e h = absurd (cc)
field-sound p v (Some s) n e h = h

pub field-base : (p : Pos) (v : Value) (o : Option Name) (n : Name) → is_sound_place (field_of p v o n) ≡ true
    → is_sound v ≡ true
field-base p v None n h = absurd (cc)
field-base p v (Some s) n h = h

-- a pointer whose struct has a field
pub has_struct : (file : List Item) (k : Option ValueKind) (w : ℕ) → is_some (field_kind file k w) ≡ true
    → is_some (struct_part k) ≡ true
has_struct file (Some (kinds.Object (Some s))) w h = refl
has_struct file _ w h = absurd (cc)

pub slot-sound : (p : Pos) (m : Meaning) (n : Name) → is_slot m ≡ true → is_sound_place (word_place p m n) ≡ true
slot-sound p (a_local l) n h = refl
slot-sound p (a_global k) n h = refl
slot-sound p _ n h = absurd (cc)

-- .. words
-- a word that has a meaning as a value, with its kind
pub record WordHolds (p : Pos) (n : Name) (m : Meaning) : Type 0 where
  pub known : is_some (meaning_kind m) ≡ true
  pub sound : is_sound (word_value p n m (meaning_kind m)) ≡ true

value_kind-known : (k : Option ValueKind) → is_value_kind k ≡ true → is_some k ≡ true
value_kind-known None h = absurd (cc)
value_kind-known (Some k) h = refl

global-holds : (file : List Item) (p : Pos) (n : Name) (g : Option ValueKind)
    → is_unknown (global_or file n.0 g) ≡ false → WordHolds p n (global_or file n.0 g)
global-holds file p n (Some k) u = record { known = refl; sound = refl }
global-holds file p n None u =
    elim (is_own_static file n.0) as (λ b. is_unknown (if b then a_static (static_number file n.0) else unknown) ≡ false
    → WordHolds p n (if b then a_static (static_number file n.0) else unknown)) [
      | true ↦ λ k. record { known = refl; sound = refl }
      | false ↦ λ k. absurd (cc)
    ] u

pub word-holds : (file : List Item) (p : Pos) (n : Name) (o : Option Local) → is_known_local o ≡ true
    → is_function_meaning (local_or file n.0 o) ≡ false → is_unknown (local_or file n.0 o) ≡ false
    → WordHolds p n (local_or file n.0 o)
word-holds file p n (Some l) h f u =
    let k = value_kind-known l.kind h in
    record { known = k; sound = read-sound p l.kind (word_place p (a_local l) n) k refl }
word-holds file p n None h f u =
    elim (is_function file n.0) as (λ b. is_function_meaning (if b then a_function else global_or file n.0
    (global_kind file n.0)) ≡ false
    → is_unknown (if b then a_function else global_or file n.0 (global_kind file n.0)) ≡ false
    → WordHolds p n (if b then a_function else global_or file n.0 (global_kind file n.0))) [
      | true ↦ λ x y. absurd (cc)
      | false ↦ λ x y. global-holds file p n (global_kind file n.0) y
    ] f u

-- .. addresses
pub static-sound : (env : Env) (p : Pos) (e : Expr) → names_type_object env e ≡ true
    → is_sound (static_address env p e) ≡ true
static-sound env p (word q n) h = refl
static-sound env p _ h = absurd (cc)

under-module : (env : Env) (p : Pos) (k : Kind) (e : Expr) → names_module env e ≡ true
    → is_sound (module_address (unary p k e)) ≡ true
under-module env p k (word q n) h = refl
under-module env p k _ h = absurd (cc)

pub module-sound : (env : Env) (e : Expr) → is_module_address env e ≡ true → is_sound (module_address e) ≡ true
module-sound env (unary p k e) h = under-module env p k e (and_right (is_address (prefix_of k)) (names_module env e) h)
module-sound env _ h = absurd (cc)

-- .. calls
abbrev pub is_callable : Callee → Bool
is_callable no_word = false
is_callable _ = true

row-callable : (file : List Item) (w : ℕ) (r : Option Row) → is_callable (row_or file w r) ≡ true
row-callable file w (Some r) = refl
row-callable file w None =
    elim (is_some (global_kind file w) || is_own_static file w) as (λ b. is_callable
    (if b then a_value else no_function) ≡ true) [ true ↦ refl | false ↦ refl ]

defined-callable : (env : Env) (w : ℕ) (x : Option Definition) → is_callable (defined_or env w x) ≡ true
defined-callable env w (Some d) = refl
defined-callable env w None = row-callable env.file.items w (row_in env.file.rows w)

called-callable : (env : Env) (w : ℕ) (o : Option Local) → is_callable (local_called_or env w o) ≡ true
called-callable env w (Some l) = refl
called-callable env w None = defined-callable env w (definition_in (definitions env.file.items) w)

pub word-callable : (env : Env) (f : Expr) → is_word f ≡ true → is_callable (callee env f) ≡ true
word-callable env (word p n) h = called-callable env n.0 (local_in env.locals n.0)
word-callable env _ h = absurd (cc)

-- the arguments that a rule looks at are there
arg-there : (i : ℕ) (es : Exprs) → nat_lt i (how_many es) ≡ true → is_some (arg_at i es) ≡ true
arg-there i no_exprs h = absurd (grind (arith, nat_tests))
arg-there zero (expr_and e es) h = refl
arg-there (suc i) (expr_and e es) h = arg-there i es (grind (arith, nat_tests))

clean-at : (o : Option Expr) (c m : Bool) → is_some o ≡ true → Clean (when_some (c && not m) (pos_of o) 11)
    → c ≡ true → m ≡ true
clean-at None c m s h e = absurd (cc)
clean-at (Some x) true m s h e = not_false m (not_when (not m) (expr_pos x) 11 h)
clean-at (Some x) false m s h e = absurd (cc)

-- where all that is before the format fits, and no rule holds of it, all fits
format-met : (o : Option ℕ) (env : Env) (ws : List Want) (es : Exprs) → are_fixed_met o env ws es ≡ true
    → Clean (when_some (are_fixed_met o env ws es && not (are_met env ws es)) (format_pos o es) 11)
    → are_met env ws es ≡ true
format-met None env ws es h c = h
format-met (Some i) env ws es h c =
    clean-at (arg_at i es) (are_fixed_met (Some i) env ws es) (are_met env ws es)
    (arg-there i es (and_left (nat_lt i (how_many es)) _ h)) c h

-- a call that breaks no rule
pub record CallHolds (env : Env) (c : Callee) (es : Exprs) : Type 0 where
  pub all_met : are_met env (call_wants env c es) es ≡ true
  pub known : is_some (result_kind env c) ≡ true

unless_refused : (b : Bool) (k : Option ValueKind) → b ≡ false → (b || is_some k) ≡ true
    → is_some (if b then None else k) ≡ true
unless_refused true k e h = absurd (cc)
unless_refused false k e h = h

pub call-holds : (env : Env) (c : Callee) (es : Exprs) → is_callable c ≡ true → answers env c ≡ true
    → is_unknown_call env c ≡ false → (is_value_called c || (takes_arguments c && not (is_call_met env c es))) ≡ false
    → Clean (when_some (is_call_met env c es && not (are_met env (call_wants env c es) es))
    (format_pos (call_format c) es) 11) → CallHolds env c es
call-holds env no_word es w a u h f = absurd (cc)
call-holds env a_value es w a u h f = absurd (cc)
call-holds env no_function es w a u h f = absurd (cc)
call-holds env (defined d) es w a u h f = record {
  all_met = format-met (call_format (defined d)) env (call_wants env (defined d) es) es (not_false _ h) f;
  known = unless_refused (is_refused env d) _ u a;
}
call-holds env (a_row r) es w a u h f = record {
  all_met = format-met (call_format (a_row r)) env (call_wants env (a_row r) es) es (not_false _ h) f;
  known = refl;
}
