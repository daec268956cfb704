-- What an argument is by how it is written, and what it is resolved to.
use Rattle.std.proofs.Common.{◌≡◌, ℕ, ℤ, pos, Bool, true, false, List, Option, Some, None, refl}
use Rattle.std.specs.Prelude.{◌&&◌, ◌||◌, int_lt, is_some, is_none, if◌then◌else◌}
use Rattle.pungi_tree.specs.Syntax.{Expr, word, int, null, unary, arrow}
use Rattle.pungi_types.specs.declared.kind.ValueKind.{ValueKind}
use Rattle.pungi_types.specs.declared.kind.ValueKind.TheVariants as kinds
use Rattle.pungi_types.specs.declared.wants.ArgumentForm.{ArgumentForm}
use Rattle.pungi_types.specs.declared.wants.ArgumentForm.TheVariants as written
use Rattle.pungi_types.specs.declared.wants.Want.{Want}
use Rattle.pungi_types.specs.Names.{Env}
use Rattle.pungi_types.specs.Operators.{is_integer}
use Rattle.pungi_types.specs.Calls.{is_place, is_module_address, is_local_address, local_kind, argument_form}
use Rattle.pungi_types.specs.Calls.{is_module_form, is_place_form, is_count_form, is_limit_form, is_null_form}
use Rattle.pungi_types.specs.Calls.{wants_module, wants_place}
use Rattle.pungi_types.specs.Exprs.{kind_of, int_kind, is_bad_int}
use Rattle.pungi_types.specs.Formats.{expr_pos}
use Rattle.pungi_resolve.specs.Exprs.{convert, want_kind, or_int, module_address, resolve, place_of}
use Rattle.pungi_resolved.specs.Values.{Value, emptied}

-- .. how an argument is written
abbrev IsWritten : Env → Expr → ArgumentForm → Type 0
IsWritten env e written.Module = is_module_address env e ≡ true
IsWritten env e written.Null = kind_of env e ≡ Some kinds.Null
IsWritten env e (written.Constant v) = is_some (kind_of env e) ≡ true → is_integer (kind_of env e) ≡ true
IsWritten env e written.Place = is_place env e ≡ true
IsWritten env e (written.LocalAddress k) = Unit {0}
IsWritten env e written.Other = Unit {0}

int_counts : (v : ℤ) (l u : Bool) → is_some (int_kind v l u) ≡ true → is_integer (int_kind v l u) ≡ true
int_counts v l u h =
    elim (is_bad_int v u) as (λ b. is_some (if b then None else (if l
    || int_lt (pos 2147483647) v then Some kinds.Long else Some kinds.Int)) ≡ true
    → is_integer (if b then None else (if l || int_lt (pos 2147483647) v then Some kinds.Long else Some kinds.Int))
    ≡ true) [
      | true ↦ λ k. absurd (cc)
      | false ↦ λ k. elim (l || int_lt (pos 2147483647) v) as (λ c. is_integer (if c then Some kinds.Long else Some
          kinds.Int) ≡ true) [ true ↦ refl | false ↦ refl ]
    ] h

pub form_written : (env : Env) (e : Expr) → IsWritten env e (argument_form env e)
form_written env (null p) = refl
form_written env (int p v l u) = int_counts v l u
form_written env (arrow p e n) = refl
form_written env (word p n) =
    elim (is_place env (word p n)) as (λ b. (is_place env (word p n) ≡ b)
    → IsWritten env (word p n) (if b then written.Place else written.Other)) [ true ↦ λ h. h | false ↦ λ h. tt ] refl
form_written env (unary p k e) =
    elim (is_module_address env (unary p k e)) as (λ b. (is_module_address env (unary p k e) ≡ b)
    → IsWritten env (unary p k e) (if b then written.Module else (if is_local_address env
    (unary p k e) then written.LocalAddress (local_kind env e) else written.Other))) [
      | true ↦ λ h. h
      | false ↦ λ h. elim (is_local_address env (unary p k e)) as (λ c. IsWritten env (unary p k e)
          (if c then written.LocalAddress (local_kind env e) else written.Other)) [ true ↦ tt | false ↦ tt ]
    ] refl
form_written env _ = tt

pub module_written : (env : Env) (e : Expr) (f : ArgumentForm) → IsWritten env e f → is_module_form f ≡ true
    → is_module_address env e ≡ true
module_written env e written.Module w h = w
module_written env e _ w h = absurd (cc)

pub place_written : (env : Env) (e : Expr) (f : ArgumentForm) → IsWritten env e f → is_place_form f ≡ true
    → is_place env e ≡ true
place_written env e written.Place w h = w
place_written env e _ w h = absurd (cc)

pub null_written : (env : Env) (e : Expr) (f : ArgumentForm) → IsWritten env e f → is_null_form f ≡ true
    → kind_of env e ≡ Some kinds.Null
null_written env e written.Null w h = w
null_written env e _ w h = absurd (cc)

pub count_written : (env : Env) (e : Expr) (n : ℕ) (f : ArgumentForm) → IsWritten env e f → is_count_form n f ≡ true
    → is_some (kind_of env e) ≡ true → is_integer (kind_of env e) ≡ true
count_written env e n (written.Constant v) w h s = w s
count_written env e n _ w h s = absurd (cc)

pub limit_written : (env : Env) (e : Expr) (n : ℕ) (f : ArgumentForm) → IsWritten env e f → is_limit_form n f ≡ true
    → is_some (kind_of env e) ≡ true → is_integer (kind_of env e) ≡ true
limit_written env e n (written.Constant v) w h s = w s
limit_written env e n _ w h s = absurd (cc)

-- what is required of an argument whose kind is known
pub required : (k : Option ValueKind) (b : Bool) → is_some k ≡ true → (is_none k || b) ≡ true → b ≡ true
required None b s h = absurd (cc)
required (Some k) b s h = h

-- the address of a module table, where one is wanted
pub table_address : (m b : Bool) (k : Option ValueKind) → (m ≡ false → is_some k ≡ true) → (b ≡ true → m ≡ true)
    → (b || is_none k) ≡ true → m ≡ true
table_address true b k s f h = refl
table_address false true k s f h = f refl
table_address false false None s f h = let e = s refl in absurd (cc)
table_address false false (Some k) s f h = absurd (cc)

-- .. what it is resolved to
-- where these are wanted
abbrev pub argument : Env → List Want → Expr → Value
argument env ws e =
    (if wants_module ws && is_module_address env e then module_address e else
    (if wants_place ws && is_place env e then emptied (expr_pos e) (or_int (kind_of env e)) (place_of env e) else
    convert (expr_pos e) (want_kind ws) (kind_of env e) (resolve env e)))
