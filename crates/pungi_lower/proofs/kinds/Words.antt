-- Constants, words and fields of the kinds that the rules know.
use Rattle.std.proofs.Common.{◌≡◌, ◌∙◌, ℕ, ◌+◌, ◌<◌, ◌≤◌, ℤ, pos, negsuc, arith, Bool, true, false, List, [], ◌∷◌}
use Rattle.std.proofs.Common.{length, Option, Some, None, refl, sym, ap, subst}
use Rattle.std.specs.Prelude.{◌&&◌, ◌||◌, ◌==◌, not, nat_lt, int_lt, is_some, if◌then◌else◌}
use Rattle.std.proofs.lemmas.Bool.Decides.{nat_tests}
use Rattle.pungi_base.specs.declared.names.Name.{Name}
use Rattle.pungi_base.specs.declared.pos.Pos.{Pos}
use Rattle.pungi_base.specs.Numbers.{py_object, py_type_object, py_ssize_t}
use Rattle.pungi_tree.specs.Syntax.{Spec, Declr, Fields, no_fields, field_and, empty, members, Item, ParamDeclr, named}
use Rattle.pungi_tree.specs.Syntax.{bare, unused}
use Rattle.pungi_api.specs.declared.param.Param.{Param}
use Rattle.pungi_types.specs.declared.kind.ValueKind.{ValueKind}
use Rattle.pungi_types.specs.declared.kind.ValueKind.TheVariants as kinds
use Rattle.pungi_types.specs.declared.local.Local.{Local}
use Rattle.pungi_types.specs.Files.{Variable, variables_of, declr_name, declr_tail, declr_stars, is_plain_tail}
use Rattle.pungi_types.specs.Kinds.{Core, base_words, builtin, struct_of, no_core, core_of, core_kind, type_kind}
use Rattle.pungi_types.specs.Kinds.{not_void, spec_base, declared_kind, declr_named, member_kind, field_in}
use Rattle.pungi_types.specs.Kinds.{field_in_some, field_kind, struct_fields, is_object_struct, only, both, is_int_key}
use Rattle.pungi_types.specs.Kinds.{is_long_key, is_void_key, is_char_key}
use Rattle.pungi_types.specs.Names.{Env, Meaning, a_global, a_function, a_static, unknown, local_in, local_or}
use Rattle.pungi_types.specs.Names.{global_or, global_in, global_kind, is_table, is_function, is_own_static}
use Rattle.pungi_types.specs.Names.{static_number}
use Rattle.pungi_types.specs.Calls.{is_slot, meaning_kind, param_kind}
use Rattle.pungi_types.specs.Exprs.{int_kind, is_bad_int}
use Rattle.pungi_types.specs.Labels.{byte}
use Rattle.pungi_types.specs.Operators.{struct_part}
use Rattle.pungi_resolve.specs.Exprs.{read_as, field_of, word_place, word_value, int_value}
use Rattle.pungi_resolved.specs.Values.{Value, local_place, field_place, constant, read}
use Rattle.pungi_meaning.specs.Values.{fits, slot_kind}
use Rattle.pungi_code.specs.WellFormed.{is_constant}
use Rattle.pungi_resolve.proofs.Clean.{or_right}
use Rattle.pungi_layout.specs.code.Temporaries.{value_column}
use Rattle.pungi_layout.specs.kinds.Typed.{Known, is_kept, is_given, IsObject, IsHeld, IsTyped}
use Rattle.pungi_layout.proofs.well_formed.Instructions.{le_true}
use Rattle.pungi_lower.proofs.kinds.Parts.{kin_column, HasStatics, Typed}
use Rattle.pungi_lower.proofs.kinds.Operators.{IsPlaceOf}
use Rattle.pungi_lower.proofs.kinds.Statics.{own_static_there}

-- .. constants
pub not_less : (m n : ℕ) → nat_lt m n ≡ false → n ≤ m
not_less m n h = grind (arith, nat_tests)

pub fits_pos : (k : ValueKind) (n : ℕ) → n ≤ 2147483647 → fits k (pos n) ≡ true
fits_pos kinds.Int n h = le_true n 2147483647 h
fits_pos _ n h = le_true n 9223372036854775807 (omega (arith, h))

pub constant_pos : (n : ℕ) → n ≤ 9223372036854775807 → is_constant (pos n) ≡ true
constant_pos n h = le_true n 9223372036854775807 h

pub byte_low : (c : ℕ) → byte c ≤ 255
byte_low c = elim (nat_lt c 256) as (λ b. (nat_lt c 256 ≡ b) → (if b then c else 0) ≤ 255) [
  | true ↦ λ e. grind (arith, nat_tests)
  | false ↦ λ e. omega arith
] refl

-- a constant that an `int` holds
int_column : (p : Pos) (i : ℤ) → fits kinds.Int i ≡ true → value_column (constant p i) ≡ 0
int_column p i h = rw h refl

constant_one : (b : Bool) → (if b then 0 else 1) ≤ 1
constant_one true = omega arith
constant_one false = omega arith

-- a number that is neither below 0 nor over what a `long` holds
pub record Bounded (v : ℤ) : Type 0 where
  pub long : is_constant v ≡ true
  pub int : int_lt (pos 2147483647) v ≡ false → fits kinds.Int v ≡ true

pub bounded : (v : ℤ) (u : Bool) → is_bad_int v u ≡ false → Bounded v
bounded (pos n) u h =
    let r = or_right (int_lt (pos n) (pos 0)) _ (or_right u _ h) in
    record {
      long = constant_pos n (not_less 9223372036854775807 n r);
      int = λ k. fits_pos kinds.Int n
          (not_less 2147483647 n k);
    }
bounded (negsuc n) u h = let r : true ≡ false = or_right u true h in absurd (cc)

module _ (file : Known) (vars : List Param) where
  pub char_typed : (p : Pos) (c : ℕ) → Typed file vars (Some kinds.Int) (constant p (pos (byte c)))
  char_typed p c =
      let l = byte_low c in
      record {
        typed = fits_pos kinds.Long (byte c) (omega (arith, l));
        kin = int_column p (pos (byte c)) (fits_pos kinds.Int (byte c) (omega (arith, l)));
      }

  pub int_typed : (p : Pos) (v : ℤ) (l u : Bool) → Typed file vars (int_kind v l u) (int_value p (int_kind v l u) v)
  int_typed p v l u =
      elim (is_bad_int v u) as (λ b. (is_bad_int v u ≡ b)
      → Typed file vars (if b then None else (if l
      || int_lt (pos 2147483647) v then Some kinds.Long else Some kinds.Int))
      (int_value p (if b then None else (if l || int_lt (pos 2147483647) v then Some kinds.Long else Some
      kinds.Int)) v)) [
        | true ↦ λ e. record { typed = tt; kin = tt }
        | false ↦ λ e.
            let h = bounded v u e in
            elim (l || int_lt (pos 2147483647) v) as (λ c. ((l || int_lt (pos 2147483647) v) ≡ c)
            → Typed file vars (if c then Some kinds.Long else Some kinds.Int) (int_value p
            (if c then Some kinds.Long else Some kinds.Int) v)) [
              | true ↦ λ f. record { typed = h.long; kin = constant_one (fits kinds.Int v) }
              | false ↦ λ f. record { typed = h.long; kin = int_column p v (h.int (or_right l _ f)) }
            ] refl
      ] refl

-- .. kinds that places have
abbrev pub may_be_kept : Option ValueKind → Bool
may_be_kept None = true
may_be_kept (Some k) = is_kept k

abbrev is_written : Option ValueKind → Bool
is_written (Some kinds.Null) = false
is_written k = true

if_written : (c : Bool) (a b : Option ValueKind) → is_written a ≡ true → is_written b ≡ true
    → is_written (if c then a else b) ≡ true
if_written true a b h k = h
if_written false a b h k = k

core_written : (file : List Item) (c : Core) (n : ℕ) → is_written (core_kind file c n) ≡ true
core_written file (base_words ks) n =
    if_written (n == 0 && only is_int_key ks) (Some kinds.Int) _ refl
    (if_written (n == 0 && (only is_long_key ks || both is_long_key is_int_key ks)) (Some kinds.Long) _ refl
    (if_written (n == 0 && only is_void_key ks) (Some kinds.Void) _ refl (if_written (n == 1 && only is_char_key ks)
    (Some kinds.Text) None refl refl)))
core_written file (builtin w) n =
    if_written (n == 0 && w.0 == py_ssize_t) (Some kinds.Size) _ refl (if_written
    (n == 1 && (w.0 == py_object || w.0 == py_type_object)) (Some (kinds.Object None)) None refl refl)
core_written file (struct_of w) n =
    if_written (n == 1 && is_object_struct file w.0) (Some (kinds.Object (Some w))) None refl refl
core_written file no_core n = refl

kept_if : (k : Option ValueKind) → is_written k ≡ true → may_be_kept (not_void k) ≡ true
kept_if None h = refl
kept_if (Some kinds.Int) h = refl
kept_if (Some kinds.Long) h = refl
kept_if (Some kinds.Size) h = refl
kept_if (Some kinds.Text) h = refl
kept_if (Some (kinds.Object s)) h = refl
kept_if (Some kinds.Void) h = refl
kept_if (Some kinds.Null) h = absurd (cc)

pub plain_kept : (file : List Item) (s : Spec) (n : ℕ) → may_be_kept (not_void (type_kind file (spec_base s) n)) ≡ true
plain_kept file s n =
    kept_if (type_kind file (spec_base s) n) (core_written file (core_of file (spec_base s)).core
    ((core_of file (spec_base s)).stars + n))

pub declared_kept : (file : List Item) (s : Spec) (d : Declr) → may_be_kept (declared_kind file s d) ≡ true
declared_kept file s d =
    elim (is_plain_tail (declr_tail d)) as (λ b. may_be_kept (if b then not_void
    (type_kind file (spec_base s) (declr_stars d)) else None) ≡ true) [
      | true ↦ plain_kept file s (declr_stars d)
      | false ↦ refl
    ]

pub param_kept : (file : List Item) (s : Spec) (d : ParamDeclr) → may_be_kept (param_kind file s d) ≡ true
param_kept file s (named d) = declared_kept file s d
param_kept file s (bare stars) = plain_kept file s (length stars)
param_kept file s (unused stars n p) = plain_kept file s (length stars)

member_kept : (file : List Item) (s : Spec) (o : Option Declr) (k : Option ValueKind) → may_be_kept k ≡ true
    → may_be_kept (member_kind file s o k) ≡ true
member_kept file s None k h = h
member_kept file s (Some d) k h = declared_kept file s d

-- a kind that is written is one of a result
given_if : (k : Option ValueKind) → is_some k ≡ true → is_written k ≡ true → is_given k ≡ true
given_if None s h = absurd (cc)
given_if (Some kinds.Int) s h = refl
given_if (Some kinds.Long) s h = refl
given_if (Some kinds.Size) s h = refl
given_if (Some kinds.Text) s h = refl
given_if (Some (kinds.Object t)) s h = refl
given_if (Some kinds.Void) s h = refl
given_if (Some kinds.Null) s h = absurd (cc)

pub result_given : (file : List Item) (s : Spec) (n : ℕ) → is_some (type_kind file (spec_base s) n) ≡ true
    → is_given (type_kind file (spec_base s) n) ≡ true
result_given file s n h =
    given_if (type_kind file (spec_base s) n) h (core_written file (core_of file (spec_base s)).core
    ((core_of file (spec_base s)).stars + n))

field_kept : (file : List Item) (fs : Fields) (w : ℕ) → may_be_kept (field_in file fs w) ≡ true
field_kept file no_fields w = refl
field_kept file (field_and empty fs) w = field_kept file fs w
field_kept file (field_and (members qs s ds) fs) w =
    member_kept file s (declr_named ds w) (field_in file fs w) (field_kept file fs w)

some_field_kept : (file : List Item) (fs : Option Fields) (w : ℕ) → may_be_kept (field_in_some file fs w) ≡ true
some_field_kept file None w = refl
some_field_kept file (Some fs) w = field_kept file fs w

global_in_kept : (file : List Item) (vs : List Variable) (w : ℕ) → may_be_kept (global_in file vs w) ≡ true
global_in_kept file [] w = refl
global_in_kept file (v ∷ vs) w =
    elim ((declr_name v.declr).0 == w && not (is_table file v)) as (λ b. may_be_kept
    (if b then declared_kind file v.spec v.declr else global_in file vs w) ≡ true) [
      | true ↦ declared_kept file v.spec v.declr
      | false ↦ global_in_kept file vs w
    ]

-- .. words
-- what is known of a local's variable
abbrev pub IsKindHeld : List Param → ℕ → Option ValueKind → Type 0
IsKindHeld vars x None = Unit {0}
IsKindHeld vars x (Some k) = (is_kept k ≡ true) × IsHeld vars x (slot_kind k)

abbrev pub IsLocalHeld : List Param → Option Local → Type 0
IsLocalHeld vars None = Unit {0}
IsLocalHeld vars (Some l) = IsKindHeld vars l.number l.kind

pub record HasVars (vars : List Param) (env : Env) : Type 0 where
  pub locals : (w : ℕ) → IsLocalHeld vars (local_in env.locals w)

-- a word as a value and as a place
pub record WordTyped (file : Known) (vars : List Param) (p : Pos) (w : Name) (m : Meaning) : Type 0 where
  pub value : Typed file vars (meaning_kind m) (word_value p w m (meaning_kind m))
  pub place : is_slot m ≡ true → IsPlaceOf file vars (meaning_kind m) (word_place p m w)

read_local : (file : Known) (vars : List Param) (p : Pos) (x : ℕ) (k : Option ValueKind) → IsKindHeld vars x k
    → Typed file vars k (read_as p k (local_place p x))
read_local file vars p x None h = record { typed = tt; kin = tt }
read_local file vars p x (Some k) h =
    record { typed = h; kin = kin_column k (read p k (local_place p x)) h.0 refl }

to_local : (file : Known) (vars : List Param) (p : Pos) (x : ℕ) (k : Option ValueKind) → IsKindHeld vars x k
    → IsPlaceOf file vars k (local_place p x)
to_local file vars p x None h = tt
to_local file vars p x (Some k) h = h

known_global : (file : Known) (vars : List Param) (p : Pos) (w : Name) (k : ValueKind)
    → global_kind file.items w.0 ≡ Some k → is_kept k ≡ true → WordTyped file vars p w (a_global k)
known_global file vars p w k e h = record {
  value = record { typed = (h, e); kin = kin_column k (read p k (word_place p (a_global k) w)) h refl };
  place = λ s. (h, e);
}

no_value : (file : Known) (vars : List Param) (p : Pos) (w : Name) (m : Meaning)
    → Typed file vars (meaning_kind m) (word_value p w m (meaning_kind m)) → is_slot m ≡ false
    → WordTyped file vars p w m
no_value file vars p w m t e = record { value = t; place = λ s. absurd (cc) }

global_typed : (file : Known) (vars : List Param) (p : Pos) (w : Name) (g : Option ValueKind)
    → HasStatics file → global_kind file.items w.0 ≡ g → WordTyped file vars p w (global_or file.items w.0 g)
global_typed file vars p w (Some k) s e =
    known_global file vars p w k e (ap may_be_kept (sym e) ∙ global_in_kept file.items (variables_of file.items) w.0)
global_typed file vars p w None s e =
    let n = static_number file.items w.0 in
    elim (is_own_static file.items w.0) as (λ b. (is_own_static file.items w.0 ≡ b) → WordTyped file vars p w
    (if b then a_static n else unknown)) [
      | true ↦ λ own. no_value file vars p w (a_static n) (record {
        typed = subst (λ (all : ℕ). n < all) (sym s) (own_static_there file.items w.0 own);
        kin = refl;
      }) refl
      | false ↦ λ own. no_value file vars p w unknown (record { typed = tt; kin = tt }) refl
    ] refl

pub word_typed : (file : Known) (vars : List Param) (p : Pos) (w : Name) (o : Option Local) → HasStatics file
    → IsLocalHeld vars o → WordTyped file vars p w (local_or file.items w.0 o)
word_typed file vars p w (Some l) s h =
    record { value = read_local file vars p l.number l.kind h; place = λ x. to_local file vars p l.number l.kind h }
word_typed file vars p w None s h =
    elim (is_function file.items w.0) as (λ b. WordTyped file vars p w
    (if b then a_function else global_or file.items w.0 (global_kind file.items w.0))) [
      | true ↦ no_value file vars p w a_function (record { typed = tt; kin = tt }) refl
      | false ↦ global_typed file vars p w (global_kind file.items w.0) s refl
    ]

-- .. fields
-- a field as a value and as a place
pub record FieldTyped (file : Known) (vars : List Param) (p : Pos) (w : Name) (k : Option ValueKind) (v : Value)
    : Type 0 where
  pub value : Typed file vars (field_kind file.items k w.0) (read_as p (field_kind file.items k w.0)
      (field_of p v (struct_part k) w))
  pub place : IsPlaceOf file vars (field_kind file.items k w.0) (field_of p v (struct_part k) w)

field_place_typed : (file : Known) (vars : List Param) (p : Pos) (w s : Name) (v : Value) (g : Option ValueKind)
    → field_in_some file.items (struct_fields file.items s.0) w.0 ≡ g → may_be_kept g ≡ true → IsObject v
    → IsTyped file vars v → IsPlaceOf file vars g (field_place p v s w)
field_place_typed file vars p w s v None e k o t = tt
field_place_typed file vars p w s v (Some g) e k o t = (k, e, o, t)

field_value_typed : (file : Known) (vars : List Param) (p : Pos) (w s : Name) (v : Value) (g : Option ValueKind)
    → may_be_kept g ≡ true → IsPlaceOf file vars g (field_place p v s w)
    → Typed file vars g (read_as p g (field_place p v s w))
field_value_typed file vars p w s v None k h = record { typed = tt; kin = tt }
field_value_typed file vars p w s v (Some g) k h =
    record { typed = h; kin = kin_column g (read p g (field_place p v s w)) k refl }

pub field_typed : (file : Known) (vars : List Param) (p : Pos) (w : Name) (k : Option ValueKind) (v : Value)
    → is_some (field_kind file.items k w.0) ≡ true → Typed file vars k v → FieldTyped file vars p w k v
field_typed file vars p w (Some (kinds.Object (Some s))) v h t =
    let g = field_in_some file.items (struct_fields file.items s.0) w.0 in
    let kept = some_field_kept file.items (struct_fields file.items s.0) w.0 in
    let place : IsPlaceOf file vars g (field_place p v s w) = field_place_typed file vars p w s v g refl kept t.kin
    t.typed in
    record { value = field_value_typed file vars p w s v g kept place; place = place }
field_typed file vars p w _ v h t = absurd (cc)
