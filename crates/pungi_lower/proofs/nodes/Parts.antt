-- How many nodes and instructions a node of the text becomes, from its parts: at most three nodes and four
-- instructions, with a conversion of its value, where one is wanted.
use Rattle.std.proofs.Common.{ℕ, ◌+◌, ◌*◌, ◌≤◌, arith, Bool, true, false, Option, Some, None}
use Rattle.std.specs.Prelude.{◌&&◌, ◌||◌, not, if◌then◌else◌, ℤ}
use Rattle.pungi_base.specs.declared.kind.Kind.{Kind}
use Rattle.pungi_base.specs.declared.names.Name.{Name}
use Rattle.pungi_base.specs.declared.pos.Pos.{Pos}
use Rattle.pungi_base.specs.declared.punct.Punct.{Punct}
use Rattle.pungi_tree.specs.Syntax.{Expr, word, unary}
use Rattle.pungi_types.specs.declared.kind.ValueKind.{ValueKind}
use Rattle.pungi_types.specs.declared.operator.Prefix.{Prefix}
use Rattle.pungi_types.specs.declared.operator.Prefix.TheVariants as prefixes
use Rattle.pungi_types.specs.Names.{Env, Meaning, a_local, a_global, a_function, a_static, unknown}
use Rattle.pungi_types.specs.Operators.{is_integer, is_void, is_order, is_equality, is_arithmetic, is_arithmetic_assign}
use Rattle.pungi_types.specs.Operators.{wider, is_same_kind}
use Rattle.pungi_types.specs.Exprs.{kind_of}
use Rattle.pungi_resolve.specs.Exprs.{convert, convert_some, cast_value, read_as, field_of, word_place, word_value}
use Rattle.pungi_resolve.specs.Exprs.{int_value, or_int, binary_value, assign_value, static_address, module_address}
use Rattle.pungi_resolve.specs.Exprs.{unary_value}
use Rattle.pungi_resolved.specs.Values.{Value, Place, computed, compared, joined_by, updated, stored, dropped, cast_of}
use Rattle.pungi_meaning.specs.Values.{wide}
use Rattle.pungi_layout.specs.code.Parts.{is_minus}
use Rattle.pungi_layout.specs.code.Sizes.{expr_size, place_size, fit_size, store_size}
use Rattle.pungi_layout.specs.code.Sound.{expr_nodes, place_nodes}

-- a value that n nodes of the text become, with one conversion more
pub record Few (v : Value) (n : ℕ) : Type 0 where
  pub nodes : expr_nodes v + 1 ≤ 3 * n
  pub size : expr_size v + 1 ≤ 4 * n

-- without it
pub record Bare (v : Value) (n : ℕ) : Type 0 where
  pub nodes : expr_nodes v ≤ 3 * n
  pub size : expr_size v ≤ 4 * n

-- a place, with what steps or empties it
pub record FewPlace (s : Place) (n : ℕ) : Type 0 where
  pub nodes : place_nodes s + 1 ≤ 3 * n
  pub size : place_size s + store_size + 6 ≤ 4 * (n + 1)
  pub base : place_size s + 1 ≤ 4 * n

pub one_at_most : (b : Bool) → (if b then 0 else 1) ≤ 1
one_at_most true = omega arith
one_at_most false = omega arith

pub one_at_least : (b : Bool) → (if b then 1 else 0) ≤ 1
one_at_least true = omega arith
one_at_least false = omega arith

pub fit_few : (to from : ValueKind) → fit_size to from ≤ 1
fit_few to from = one_at_most (is_same_kind (Some to) (Some from))

pub some-few : (p : Pos) (to : Option ValueKind) (v : Value) (n : ℕ) → Few v n → Bare (convert_some p to v) n
some-few p None v n h = record { nodes = omega (arith, h.nodes); size = omega (arith, h.size) }
some-few p (Some k) v n h = record { nodes = h.nodes; size = h.size }

pub convert-few : (p : Pos) (to from : Option ValueKind) (v : Value) (n : ℕ) → Few v n → Bare (convert p to from v) n
convert-few p to from v n h =
    elim (is_integer to && (is_integer from && not (is_same_kind to from))) as
    (λ b. Bare (if b then convert_some p to v else v) n) [
      | true ↦ some-few p to v n h
      | false ↦ record { nodes = omega (arith, h.nodes); size = omega (arith, h.size) }
    ]

pub binary-few : (p : Pos) (m : Punct) (k : Option ValueKind) (a b : Value) (i j : ℕ) → Few a i → Few b j
    → Few (binary_value p m k a b) (i + j + 1)
binary-few p m k a b i j f g =
    elim (is_arithmetic m) as (λ x. Few (if x then computed p m (or_int k) a b else
    (if is_order m || is_equality m then compared p m a b else joined_by p m a b)) (i + j + 1)) [
      | true ↦ record { nodes = omega (arith, f.nodes, g.nodes); size = omega (arith, f.size, g.size) }
      | false ↦ elim (is_order m || is_equality m) as (λ y. Few (if y then compared p m a b else joined_by p m a b)
          (i + j + 1)) [
            | true ↦ record { nodes = omega (arith, f.nodes, g.nodes); size = omega (arith, f.size, g.size) }
            | false ↦ record { nodes = omega (arith, f.nodes, g.nodes); size = omega (arith, f.size, g.size) }
          ]
    ]

pub assign-few : (p : Pos) (m : Punct) (k from : Option ValueKind) (s : Place) (v : Value) (i j : ℕ) → FewPlace s i
    → Few v j → Few (assign_value p m k from s v) (i + j + 1)
assign-few p m k from s v i j f g =
    let c = convert-few p k from v j g in
    let t = fit_few (or_int k) (wider k from) in
    elim (is_arithmetic_assign m) as (λ x. Few (if x then updated p m (wider k from) (or_int k) s v else stored p
    (or_int k) s (convert p k from v)) (i + j + 1)) [
      | true ↦ record { nodes = omega (arith, f.nodes, g.nodes); size = omega (arith, f.size, g.size, t) }
      | false ↦ record { nodes = omega (arith, f.nodes, c.nodes); size = omega (arith, f.size, c.size) }
    ]

pub cast-few : (p : Pos) (to from : Option ValueKind) (v : Value) (n : ℕ) → Few v n
    → Few (cast_value p to from v) (n + 1)
cast-few p to from v n h =
    let s = some-few p to v n h in
    elim (is_void to) as (λ b. Few (if b then dropped p v else (if is_integer to
    && not (is_same_kind to from) then convert_some p to v else cast_of p v)) (n + 1)) [
      | true ↦ record { nodes = omega (arith, h.nodes); size = omega (arith, h.size) }
      | false ↦ elim (is_integer to && not (is_same_kind to from)) as (λ c. Few
          (if c then convert_some p to v else cast_of p v) (n + 1)) [
            | true ↦ record { nodes = omega (arith, s.nodes); size = omega (arith, s.size) }
            | false ↦ record { nodes = omega (arith, h.nodes); size = omega (arith, h.size) }
          ]
    ]

-- .. words and places
pub place-few : (p : Pos) (m : Meaning) (n : Name) → FewPlace (word_place p m n) 1
place-few p (a_local l) n = record { nodes = omega arith; size = omega arith; base = omega arith }
place-few p (a_global k) n = record { nodes = omega arith; size = omega arith; base = omega arith }
place-few p a_function n = record { nodes = omega arith; size = omega arith; base = omega arith }
place-few p (a_static i) n = record { nodes = omega arith; size = omega arith; base = omega arith }
place-few p unknown n = record { nodes = omega arith; size = omega arith; base = omega arith }

pub field-few : (p : Pos) (v : Value) (o : Option Name) (w : Name) (n : ℕ) → Few v n
    → FewPlace (field_of p v o w) (n + 1)
field-few p v None w n h = record { nodes = omega arith; size = omega arith; base = omega arith }
field-few p v (Some s) w n h =
    record { nodes = omega (arith, h.nodes); size = omega (arith, h.size); base = omega (arith, h.size) }

pub word_read-few : (p : Pos) (m : Meaning) (n : Name) (k : Option ValueKind) → Few (read_as p k (word_place p m n)) 1
word_read-few p m n None = record { nodes = omega arith; size = omega arith }
word_read-few p (a_local l) n (Some k) = record { nodes = omega arith; size = omega arith }
word_read-few p (a_global g) n (Some k) = record { nodes = omega arith; size = omega arith }
word_read-few p a_function n (Some k) = record { nodes = omega arith; size = omega arith }
word_read-few p (a_static i) n (Some k) = record { nodes = omega arith; size = omega arith }
word_read-few p unknown n (Some k) = record { nodes = omega arith; size = omega arith }

pub word-few : (p : Pos) (m : Meaning) (n : Name) (k : Option ValueKind) → Few (word_value p n m k) 1
word-few p (a_static i) n k = record { nodes = omega arith; size = omega arith }
word-few p (a_local l) n k = word_read-few p (a_local l) n k
word-few p (a_global g) n k = word_read-few p (a_global g) n k
word-few p a_function n k = word_read-few p a_function n k
word-few p unknown n k = word_read-few p unknown n k

pub field_read-few : (p : Pos) (k : Option ValueKind) (v : Value) (o : Option Name) (w : Name) (n : ℕ) → Few v n
    → Few (read_as p k (field_of p v o w)) (n + 1)
field_read-few p None v o w n h = record { nodes = omega arith; size = omega arith }
field_read-few p (Some k) v None w n h = record { nodes = omega arith; size = omega arith }
field_read-few p (Some k) v (Some s) w n h = record { nodes = omega (arith, h.nodes); size = omega (arith, h.size) }

pub int-few : (p : Pos) (k : Option ValueKind) (v : ℤ) → Few (int_value p k v) 1
int-few p None v = record { nodes = omega arith; size = omega arith }
int-few p (Some k) v = record { nodes = omega arith; size = omega arith }

pub static-few : (env : Env) (p : Pos) (e : Expr) (n : ℕ) → Few (static_address env p e) (n + 1)
static-few env p (word q w) n = record { nodes = omega arith; size = omega arith }
static-few env p _ n = record { nodes = omega arith; size = omega arith }

pub under-few : (p : Pos) (k : Kind) (e : Expr) (n : ℕ) → 1 ≤ n → Few (module_address (unary p k e)) n
under-few p k (word q w) n h = record { nodes = omega (arith, h); size = omega (arith, h) }
under-few p k _ n h = record { nodes = omega (arith, h); size = omega (arith, h) }

pub module-few : (e : Expr) (n : ℕ) → 1 ≤ n → Few (module_address e) n
module-few (unary p k e) n h = under-few p k e n h
module-few _ n h = record { nodes = omega (arith, h); size = omega (arith, h) }

pub step-few : (k : ValueKind) (s : Place) (n : ℕ) → FewPlace s n
    → 1 + place_size s + 1 + 1 + 1 + fit_size k (wide k) + store_size + 1 ≤ 4 * (n + 1)
step-few k s n h = let t = fit_few k (wide k) in omega (arith, h.size, t)

pub unary-few : (env : Env) (p : Pos) (k : Kind) (pr : Prefix) (e : Expr) (v : Value) (s : Place) (n : ℕ) → Few v n
    → FewPlace s n → Few (unary_value env p k e pr v s) (n + 1)
unary-few env p k prefixes.Address e v s n h f = static-few env p e n
unary-few env p k prefixes.Step e v s n h f =
    let t = step-few (or_int (kind_of env e)) s n f in
    record { nodes = omega (arith, f.nodes); size = omega (arith, t) }
unary-few env p k prefixes.Sign e v s n h f =
    let b = one_at_least (is_minus k) in
    record { nodes = omega (arith, h.nodes); size = omega (arith, h.size, b) }
unary-few env p k prefixes.Negation e v s n h f =
    record { nodes = omega (arith, h.nodes); size = omega (arith, h.size) }
unary-few env p k prefixes.LeftOut e v s n h f = record { nodes = omega arith; size = omega arith }
