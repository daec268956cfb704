-- What is sound for the layout of a node, from its parts.
use Rattle.std.proofs.Common.{◌≡◌, ℕ, ◌<◌, Bool, true, false, List, Option, Some, None, refl}
use Rattle.std.specs.Prelude.{◌&&◌, ◌||◌, not, is_some, if◌then◌else◌}
use Rattle.pungi_base.specs.declared.kind.Kind.{Kind}
use Rattle.pungi_base.specs.declared.names.Name.{Name}
use Rattle.pungi_base.specs.declared.pos.Pos.{Pos}
use Rattle.pungi_base.specs.declared.punct.Punct.{Punct}
use Rattle.pungi_tree.specs.Syntax.{Expr, word, unary, Item}
use Rattle.pungi_types.specs.declared.kind.ValueKind.{ValueKind}
use Rattle.pungi_types.specs.declared.kind.ValueKind.TheVariants as kinds
use Rattle.pungi_types.specs.declared.local.Local.{Local}
use Rattle.pungi_types.specs.declared.operator.Prefix.{Prefix}
use Rattle.pungi_types.specs.declared.operator.Prefix.TheVariants as prefixes
use Rattle.pungi_types.specs.Names.{Env, Meaning, a_local, a_global, a_function, a_static, unknown, local_in, local_or}
use Rattle.pungi_types.specs.Names.{global_or, global_kind, is_function, is_own_static, static_number}
use Rattle.pungi_types.specs.Kinds.{field_kind}
use Rattle.pungi_types.specs.Operators.{is_arithmetic, is_order, is_equality, is_arithmetic_assign, is_integer}
use Rattle.pungi_types.specs.Operators.{is_pointer, is_void, wider, is_same_kind}
use Rattle.pungi_types.specs.Calls.{is_place, is_slot, is_address, names_type_object, meaning_kind}
use Rattle.pungi_types.specs.Exprs.{kind_of, is_step_or_sign, unary_wrong, cast_wrong, cast_kind}
use Rattle.pungi_resolve.specs.Exprs.{resolve, place_of, convert, convert_some, cast_value, read_as, field_of}
use Rattle.pungi_resolve.specs.Exprs.{word_place, word_value, or_int, binary_value, assign_value, static_address}
use Rattle.pungi_resolve.specs.Exprs.{module_address, unary_value}
use Rattle.pungi_resolved.specs.Values.{Value, Place, computed, compared, joined_by, updated, stored, dropped, cast_of}
use Rattle.pungi_resolve.proofs.Clean.{or_left, or_right}
use Rattle.pungi_resolve.proofs.OperatorKinds.{step-kept}
use Rattle.pungi_resolve.proofs.SoundExprs.{Good}
use Rattle.pungi_layout.specs.code.Parts.{gives}
use Rattle.pungi_layout.specs.code.Sound.{IsSound, IsPlaceSound}

-- a local that a name stands for is one of the first n
abbrev pub IsBelow : ℕ → Option Local → Type 0
IsBelow n None = Unit {0}
IsBelow n (Some l) = l.number < n

pub record HasNumbers (n : ℕ) (env : Env) : Type 0 where
  pub locals : (w : ℕ) → IsBelow n (local_in env.locals w)

-- an expression that is sound, also as a place, and leaves a value where its kind isn't Void
pub record Works (n : ℕ) (env : Env) (e : Expr) : Type 0 where
  pub sound : IsSound n (resolve env e)
  pub gives : is_void (kind_of env e) ≡ false → gives (resolve env e) ≡ true
  pub place : is_place env e ≡ true → IsPlaceSound n (place_of env e)

-- .. conversions
-- a value that is sound, and leaves something where it is to
pub record Given (n : ℕ) (v : Value) (void : Bool) : Type 0 where
  pub sound : IsSound n v
  pub gives : void ≡ false → gives v ≡ true

some-works : (n : ℕ) (p : Pos) (to : Option ValueKind) (v : Value) → gives v ≡ true → IsSound n v
    → Given n (convert_some p to v) false
some-works n p None v g s = record { sound = s; gives = λ x. g }
some-works n p (Some k) v g s = record { sound = (g, s); gives = λ x. refl }

pub convert-works : (n : ℕ) (p : Pos) (to from : Option ValueKind) (v : Value) → gives v ≡ true → IsSound n v
    → Given n (convert p to from v) false
convert-works n p to from v g s =
    elim (is_integer to && (is_integer from && not (is_same_kind to from))) as
    (λ b. Given n (if b then convert_some p to v else v) false) [
      | true ↦ some-works n p to v g s
      | false ↦ record { sound = s; gives = λ x. g }
    ]

cast_void : (to from : Option ValueKind) → is_void to ≡ true → is_some from ≡ true
    → is_void (cast_kind to from) ≡ false → ⊥
cast_void (Some kinds.Void) (Some k) e s h = cc
cast_void _ _ e s h = cc

cast-scalar : (s t v x : Bool) → s ≡ true → t ≡ false → (s && (not t && (v || x))) ≡ false → v ≡ false
cast-scalar true false v x e f h = or_left v x h
cast-scalar _ _ v x e f h = absurd (cc)

pub cast-works : (n : ℕ) (p : Pos) (to from : Option ValueKind) (v : Value) → IsSound n v
    → (is_void from ≡ false → gives v ≡ true) → is_some from ≡ true → is_some to ≡ true → cast_wrong to from ≡ false
    → Given n (cast_value p to from v) (is_void (cast_kind to from))
cast-works n p to from v s g f t w =
    elim (is_void to) as (λ b. (is_void to ≡ b)
    → Given n (if b then dropped p v else (if is_integer to
    && not (is_same_kind to from) then convert_some p to v else cast_of p v)) (is_void (cast_kind to from))) [
      | true ↦ λ e. record { sound = s; gives = λ x. absurd (cast_void to from e f x) }
      | false ↦ λ e.
          let h = g (cast-scalar (is_some to) (is_void to) (is_void from) _ t e w) in
          elim (is_integer to && not (is_same_kind to from)) as (λ c. Given n (if c then convert_some p to v else
          cast_of p v) (is_void (cast_kind to from))) [
            | true ↦ let k = some-works n p to v h s in record { sound = k.sound; gives = λ x. k.gives refl }
            | false ↦ record { sound = s; gives = λ x. h }
          ]
    ] refl

-- .. words
pub place-works : (n : ℕ) (p : Pos) (file : List Item) (w : Name) (o : Option Local) → IsBelow n o
    → is_slot (local_or file w.0 o) ≡ true → IsPlaceSound n (word_place p (local_or file w.0 o) w)
place-works n p file w (Some l) b s = b
place-works n p file w None b s =
    elim (is_function file w.0) as (λ x. is_slot (if x then a_function else global_or file w.0
    (global_kind file w.0)) ≡ true
    → IsPlaceSound n (word_place p (if x then a_function else global_or file w.0 (global_kind file w.0)) w)) [
      | true ↦ λ k. absurd (cc)
      | false ↦ λ k. global-place n p file w (global_kind file w.0) k
    ] s
  where
    global-place : (n : ℕ) (p : Pos) (file : List Item) (w : Name) (g : Option ValueKind)
        → is_slot (global_or file w.0 g) ≡ true → IsPlaceSound n (word_place p (global_or file w.0 g) w)
    global-place n p file w (Some k) s = tt
    global-place n p file w None s =
        elim (is_own_static file w.0) as (λ x. is_slot (if x then a_static (static_number file w.0) else unknown) ≡ true
        → IsPlaceSound n (word_place p (if x then a_static (static_number file w.0) else unknown) w)) [
          | true ↦ λ k. absurd (cc)
          | false ↦ λ k. absurd (cc)
        ] s

pub read-works : (n : ℕ) (p : Pos) (k : Option ValueKind) (s : Place) (void : Bool)
    → (is_some k ≡ true → IsPlaceSound n s) → Given n (read_as p k s) void
read-works n p None s void h = record { sound = tt; gives = λ x. refl }
read-works n p (Some k) s void h = record { sound = h refl; gives = λ x. refl }

-- a word of a kind that isn't a static is a slot
pub word-works : (n : ℕ) (p : Pos) (w : Name) (m : Meaning) (void : Bool)
    → (is_slot m ≡ true → IsPlaceSound n (word_place p m w)) → Given n (word_value p w m (meaning_kind m)) void
word-works n p w (a_static i) void h = record { sound = tt; gives = λ x. refl }
word-works n p w (a_local l) void h = read-works n p l.kind (word_place p (a_local l) w) void (λ x. h refl)
word-works n p w (a_global k) void h = record { sound = h refl; gives = λ x. refl }
word-works n p w a_function void h = record { sound = tt; gives = λ x. refl }
word-works n p w unknown void h = record { sound = tt; gives = λ x. refl }

pub static-works : (n : ℕ) (env : Env) (p : Pos) (e : Expr) (void : Bool) → Given n (static_address env p e) void
static-works n env p (word q w) void = record { sound = tt; gives = λ x. refl }
static-works n env p _ void = record { sound = tt; gives = λ x. refl }

under-works : (n : ℕ) (p : Pos) (k : Kind) (e : Expr) → Given n (module_address (unary p k e)) false
under-works n p k (word q w) = record { sound = tt; gives = λ x. refl }
under-works n p k _ = record { sound = tt; gives = λ x. refl }

pub module-works : (n : ℕ) (e : Expr) → Given n (module_address e) false
module-works n (unary p k e) = under-works n p k e
module-works n _ = record { sound = tt; gives = λ x. refl }

-- .. operators
-- what the operator before an operand requires of it
pub record Before (n : ℕ) (env : Env) (pr : Prefix) (e : Expr) : Type 0 where
  pub ten : unary_wrong pr (is_place env e) (kind_of env e) ≡ false
  pub thirteen : (is_step_or_sign pr && is_pointer (kind_of env e)) ≡ false
  pub good : (is_address pr && names_type_object env e) ≡ false → Good env e
  pub works : (is_address pr && names_type_object env e) ≡ false → Works n env e

pub unary-works : (n : ℕ) (env : Env) (p : Pos) (k : Kind) (pr : Prefix) (e : Expr) (void : Bool)
    → Before n env pr e → Given n (unary_value env p k e pr (resolve env e) (place_of env e)) void
unary-works n env p k prefixes.Address e void b = static-works n env p e void
unary-works n env p k prefixes.Step e void b =
    let s = step-kept (is_place env e) (kind_of env e) (b.good refl).known b.ten b.thirteen in
    record { sound = (b.works refl).place s.0; gives = λ x. refl }
unary-works n env p k prefixes.Sign e void b =
    let w = b.works refl in record { sound = (w.gives b.ten, w.sound); gives = λ x. refl }
unary-works n env p k prefixes.Negation e void b =
    let w = b.works refl in record { sound = (w.gives b.ten, w.sound); gives = λ x. refl }
unary-works n env p k prefixes.LeftOut e void b = record { sound = tt; gives = λ x. refl }

pub binary-works : (n : ℕ) (p : Pos) (m : Punct) (k : Option ValueKind) (a b : Value) (void : Bool) → gives a ≡ true
    → IsSound n a → gives b ≡ true → IsSound n b → Given n (binary_value p m k a b) void
binary-works n p m k a b void g s h t =
    elim (is_arithmetic m) as (λ x. Given n (if x then computed p m (or_int k) a b else
    (if is_order m || is_equality m then compared p m a b else joined_by p m a b)) void) [
      | true ↦ record { sound = (g, s, h, t); gives = λ x. refl }
      | false ↦ elim (is_order m || is_equality m) as (λ y. Given n (if y then compared p m a b else joined_by p m a
          b) void) [
            | true ↦ record { sound = (g, s, h, t); gives = λ x. refl }
            | false ↦ record { sound = (g, s, h, t); gives = λ x. refl }
          ]
    ]

pub assign-works : (n : ℕ) (p : Pos) (m : Punct) (k from : Option ValueKind) (s : Place) (v : Value) (void : Bool)
    → IsPlaceSound n s → gives v ≡ true → IsSound n v → Given n (assign_value p m k from s v) void
assign-works n p m k from s v void h g t =
    let c = convert-works n p k from v g t in
    elim (is_arithmetic_assign m) as (λ x. Given n (if x then updated p m (wider k from) (or_int k) s v else stored
    p (or_int k) s (convert p k from v)) void) [
      | true ↦ record { sound = (h, g, t); gives = λ x. refl }
      | false ↦ record { sound = (h, c.gives refl, c.sound); gives = λ x. refl }
    ]

-- both operands have a value
pub operands : (bits a b x : Bool) → bits ≡ false → (not bits && (a || (b || x))) ≡ false → (a ≡ false) × (b ≡ false)
operands true a b x e h = absurd (cc)
operands false a b x e h = (or_left a _ h, or_left b x (or_right a _ h))

pub right_side : (bits a b x : Bool) → bits ≡ false → (not bits && (a || (b || x))) ≡ false → b ≡ false
right_side bits a b x e h = (operands bits a b x e h).1

-- .. fields
pub field-not_void : (file : List Item) (k : Option ValueKind) (w : ℕ) → is_some (field_kind file k w) ≡ true
    → is_void k ≡ false
field-not_void file (Some (kinds.Object (Some s))) w h = refl
field-not_void file _ w h = absurd (cc)

pub field-works : (n : ℕ) (p : Pos) (v : Value) (o : Option Name) (w : Name) → is_some o ≡ true → gives v ≡ true
    → IsSound n v → IsPlaceSound n (field_of p v o w)
field-works n p v None w e g s = absurd (cc)
field-works n p v (Some t) w e g s = (g, s)
