-- The kind of an expression is the same under two sets of refused functions that agree on the words that it calls.
use Rattle.std.proofs.Common.{◌≡◌, ℕ, true, false, List, [], ◌∷◌, ◌++◌, Option, Some, None, refl, ap, ◌∙◌, arith}
use Rattle.std.specs.Prelude.{◌==◌, ◌&&◌, ◌||◌, is_some, if◌then◌else◌}
use Rattle.std.proofs.lemmas.Bool.Decides.{nat_tests}
use Rattle.pungi_tree.specs.Syntax.{Expr, word, int, float, char, text, null, paren, unary, post, binary, assign}
use Rattle.pungi_tree.specs.Syntax.{conditional, comma, cast, size_of_type, call, new, index, dot, arrow, Exprs}
use Rattle.pungi_tree.specs.Syntax.{no_exprs, expr_and}
use Rattle.pungi_api.specs.declared.row.Row.{Row}
use Rattle.pungi_api.specs.declared.special.Special.{Special}
use Rattle.pungi_api.specs.declared.special.Special.TheVariants as specials
use Rattle.pungi_api.specs.Rows.{row_in}
use Rattle.pungi_types.specs.Files.{Definition, definitions, definition_in}
use Rattle.pungi_types.specs.Names.{local_in, is_some_definition, global_kind, is_own_static}
use Rattle.pungi_types.specs.declared.local.Local.{Local}
use Rattle.pungi_types.specs.declared.wants.Want.{Want}
use Rattle.pungi_types.specs.Calls.{Callee, a_value, defined, a_row, no_function, is_place, names_type_object}
use Rattle.pungi_types.specs.Calls.{names_module, is_module_address, local_called_or, defined_or, row_or, callee, wants}
use Rattle.pungi_types.specs.Calls.{names_local, is_local_address, local_kind, passed_address, argument_form, how_many}
use Rattle.pungi_types.specs.Calls.{special_of, special_wants, call_wants, call_format, result_kind, other_wants}
use Rattle.pungi_types.specs.Exprs.{are_fixed_met, is_call_met, met_before, is_unknown_call, kind_of, are_met}
use Rattle.pungi_check.specs.Calls.{called_word, expr_calls, exprs_calls}
use Rattle.pungi_check.proofs.Places.{World, env_at, other_in, refused_call}
use Rattle.pungi_check.proofs.Agreement.{Agree, left, right}

pub is_place-same : (x : World) (s t : List ℕ) (ls : List Local) (e : Expr)
    → is_place (env_at x s ls) e ≡ is_place (env_at x t ls) e
is_place-same x s t ls (word p n) = refl
is_place-same x s t ls (arrow p e n) = refl
is_place-same x s t ls _ = refl

pub names_type_object-same : (x : World) (s t : List ℕ) (ls : List Local) (e : Expr)
    → names_type_object (env_at x s ls) e ≡ names_type_object (env_at x t ls) e
names_type_object-same x s t ls (word p n) = refl
names_type_object-same x s t ls _ = refl

pub names_module-same : (x : World) (s t : List ℕ) (ls : List Local) (e : Expr)
    → names_module (env_at x s ls) e ≡ names_module (env_at x t ls) e
names_module-same x s t ls (word p n) = refl
names_module-same x s t ls _ = refl

is_module_address-same : (x : World) (s t : List ℕ) (ls : List Local) (e : Expr)
    → is_module_address (env_at x s ls) e ≡ is_module_address (env_at x t ls) e
is_module_address-same x s t ls (unary p k e) = rw (names_module-same x s t ls e) refl
is_module_address-same x s t ls _ = refl

names_local-same : (x : World) (s t : List ℕ) (ls : List Local) (e : Expr)
    → names_local (env_at x s ls) e ≡ names_local (env_at x t ls) e
names_local-same x s t ls (word p n) = refl
names_local-same x s t ls _ = refl

is_local_address-same : (x : World) (s t : List ℕ) (ls : List Local) (e : Expr)
    → is_local_address (env_at x s ls) e ≡ is_local_address (env_at x t ls) e
is_local_address-same x s t ls (unary p k e) = rw (names_local-same x s t ls e) refl
is_local_address-same x s t ls _ = refl

local_kind-same : (x : World) (s t : List ℕ) (ls : List Local) (e : Expr)
    → local_kind (env_at x s ls) e ≡ local_kind (env_at x t ls) e
local_kind-same x s t ls (word p n) = refl
local_kind-same x s t ls _ = refl

pub passed_address-same : (x : World) (s t : List ℕ) (ls : List Local) (ws : List Want) (e : Expr)
    → passed_address (env_at x s ls) ws e ≡ passed_address (env_at x t ls) ws e
passed_address-same x s t ls ws e = cc (is_module_address-same x s t ls e, is_local_address-same x s t ls e)

pub argument_form-same : (x : World) (s t : List ℕ) (ls : List Local) (e : Expr)
    → argument_form (env_at x s ls) e ≡ argument_form (env_at x t ls) e
argument_form-same x s t ls (unary p k e) =
    cc (names_module-same x s t ls e, names_local-same x s t ls e, local_kind-same x s t ls e)
argument_form-same x s t ls (word p n) = refl
argument_form-same x s t ls _ = refl

-- a definition that is found by a word has its name
abbrev pub IsNamed : ℕ → Option Definition → Type 0
IsNamed w None = Unit {0}
IsNamed w (Some d) = d.name.0 ≡ w

pub definition_in-named : (ds : List Definition) (w : ℕ) → IsNamed w (definition_in ds w)
definition_in-named [] w = tt
definition_in-named (d ∷ ds) w =
    elim (d.name.0 == w) as (λ b. ((d.name.0 == w) ≡ b) → IsNamed w (if b then Some d else definition_in ds w))
    [ true ↦ λ e. grind (arith, nat_tests) | false ↦ λ e. definition_in-named ds w ] refl

-- .. what is called
defined-same : (x : World) (s t : List ℕ) (ls : List Local) (w : ℕ) (o : Option Definition)
    → defined_or (env_at x s ls) w o ≡ defined_or (env_at x t ls) w o
defined-same x s t ls w (Some d) = refl
defined-same x s t ls w None = refl

local_called-same : (x : World) (s t : List ℕ) (ls : List Local) (w : ℕ) (o : Option Local)
    → local_called_or (env_at x s ls) w o ≡ local_called_or (env_at x t ls) w o
local_called-same x s t ls w (Some l) = refl
local_called-same x s t ls w None = defined-same x s t ls w (definition_in (definitions x.file.items) w)

pub callee-same : (x : World) (s t : List ℕ) (ls : List Local) (f : Expr)
    → callee (env_at x s ls) f ≡ callee (env_at x t ls) f
callee-same x s t ls (word p n) = local_called-same x s t ls n.0 (local_in ls n.0)
callee-same x s t ls _ = refl

wants-same : (x : World) (s t : List ℕ) (ls : List Local) (c : Callee) (n : ℕ)
    → wants (env_at x s ls) c n ≡ wants (env_at x t ls) c n
wants-same x s t ls (defined d) n = refl
wants-same x s t ls (a_row r) n = refl
wants-same x s t ls _ n = refl

special_wants-same : (x : World) (s t : List ℕ) (ls : List Local) (o : Option Special) (c : Callee) (es : Exprs)
    → special_wants o (env_at x s ls) c es ≡ special_wants o (env_at x t ls) c es
special_wants-same x s t ls (Some specials.ParseTuple) c es = refl
special_wants-same x s t ls (Some specials.BuildValue) c es = refl
special_wants-same x s t ls (Some specials.UnpackTuple) c es = refl
special_wants-same x s t ls _ c es = wants-same x s t ls c (how_many es)

pub call_wants-same : (x : World) (s t : List ℕ) (ls : List Local) (c : Callee) (es : Exprs)
    → call_wants (env_at x s ls) c es ≡ call_wants (env_at x t ls) c es
call_wants-same x s t ls c es = special_wants-same x s t ls (special_of c) c es

-- what is called has the same kind, and is refused alike
pub record SameCall (x : World) (s t : List ℕ) (ls : List Local) (c c' : Callee) : Type 0 where
  pub kind : result_kind (env_at x s ls) c ≡ result_kind (env_at x t ls) c'
  pub unknown : is_unknown_call (env_at x s ls) c ≡ is_unknown_call (env_at x t ls) c'

row-alike : (x : World) (s t : List ℕ) (ls : List Local) (w : ℕ) (o : Option Row)
    → SameCall x s t ls (row_or x.file.items w o) (row_or x.file.items w o)
row-alike x s t ls w (Some r) = record { kind = refl; unknown = refl }
row-alike x s t ls w None =
    elim (is_some (global_kind x.file.items w) || is_own_static x.file.items w) as
    (λ b. SameCall x s t ls (if b then a_value else no_function) (if b then a_value else no_function))
    [ true ↦ record { kind = refl; unknown = refl } | false ↦ record { kind = refl; unknown = refl } ]

defined-alike : (x : World) (s t : List ℕ) (ls : List Local) (w : ℕ) (o : Option Definition) → IsNamed w o
    → (is_some_definition o && other_in x s w) ≡ (is_some_definition o && other_in x t w)
    → SameCall x s t ls (defined_or (env_at x s ls) w o) (defined_or (env_at x t ls) w o)
defined-alike x s t ls w None n h = row-alike x s t ls w (row_in x.file.rows w)
defined-alike x s t ls w (Some d) n h =
    let e : other_in x s d.name.0 ≡ other_in x t d.name.0 = rw n h in
    record { kind = rw e refl; unknown = e }

local_called-alike : (x : World) (s t : List ℕ) (ls : List Local) (w : ℕ) (o : Option Local)
    → refused_call x s w ≡ refused_call x t w
    → SameCall x s t ls (local_called_or (env_at x s ls) w o) (local_called_or (env_at x t ls) w o)
local_called-alike x s t ls w (Some l) h = record { kind = refl; unknown = refl }
local_called-alike x s t ls w None h =
    defined-alike x s t ls w (definition_in (definitions x.file.items) w) (definition_in-named
    (definitions x.file.items) w) h

pub called-alike : (x : World) (s t : List ℕ) (ls : List Local) (f : Expr) → Agree x s t (called_word f)
    → SameCall x s t ls (callee (env_at x s ls) f) (callee (env_at x t ls) f)
called-alike x s t ls (word p n) h = local_called-alike x s t ls n.0 (local_in ls n.0) h.0
called-alike x s t ls _ h = record { kind = refl; unknown = refl }

mutual
  pub kind-same : (x : World) (s t : List ℕ) (ls : List Local) (e : Expr) → Agree x s t (expr_calls e)
      → kind_of (env_at x s ls) e ≡ kind_of (env_at x t ls) e
  kind-same x s t ls (word p n) h = refl
  kind-same x s t ls (int p v l u) h = refl
  kind-same x s t ls (float p) h = refl
  kind-same x s t ls (char p c) h = refl
  kind-same x s t ls (text p ns) h = refl
  kind-same x s t ls (null p) h = refl
  kind-same x s t ls (paren p e) h = kind-same x s t ls e h
  kind-same x s t ls (unary p k e) h = cc (
    names_type_object-same x s t ls e,
    is_place-same x s t ls e,
    kind-same x
        s t ls e h,
  )
  kind-same x s t ls (post p m e) h = cc (is_place-same x s t ls e, kind-same x s t ls e h)
  kind-same x s t ls (binary p m a b) h = cc (
    kind-same x s t ls a (left x s t (expr_calls a) (expr_calls b) h),
    kind-same x s t ls b (right x s t (expr_calls a) (expr_calls b) h),
  )
  kind-same x s t ls (assign p m a b) h = cc (
    is_place-same x s t ls a,
    kind-same x s t ls a
        (left x s t (expr_calls a) (expr_calls b) h),
    kind-same x s t ls b (right x s t (expr_calls a) (expr_calls b)
        h),
  )
  kind-same x s t ls (conditional p c a b) h =
      let g = right x s t (expr_calls c) (expr_calls a ++ expr_calls b) h in
      cc (
        kind-same x s t ls c (left x s t (expr_calls c) (expr_calls a ++ expr_calls b) h),
        kind-same x s t ls a
            (left x s t (expr_calls a) (expr_calls b) g),
        kind-same x s t ls b (right x s t (expr_calls a)
            (expr_calls b) g),
      )
  kind-same x s t ls (comma p a b) h = refl
  kind-same x s t ls (cast p ty e) h = cc (kind-same x s t ls e h)
  kind-same x s t ls (size_of_type p ty) h = refl
  kind-same x s t ls (call p f es) h =
      let g = right x s t (called_word f) (expr_calls f ++ exprs_calls es) h in
      let c = called-alike x s t ls f (left x s t (called_word f) (expr_calls f ++ exprs_calls es) h) in
      let ce = callee-same x s t ls f in
      let w = call_wants-same x s t ls (callee (env_at x t ls) f) es in
      let m = met-same x s t ls (call_wants (env_at x t ls) (callee (env_at x t ls) f) es) es
      (right x s t (expr_calls f) (exprs_calls es) g) in
      cc (c.kind, ce, w, m)
  kind-same x s t ls (new p ty e) h = cc (kind-same x s t ls e h)
  kind-same x s t ls (index p a b) h = refl
  kind-same x s t ls (dot p e n) h = refl
  kind-same x s t ls (arrow p e n) h = cc (kind-same x s t ls e h)

  pub met-same : (x : World) (s t : List ℕ) (ls : List Local) (ws : List Want) (es : Exprs)
      → Agree x s t (exprs_calls es) → are_met (env_at x s ls) ws es ≡ are_met (env_at x t ls) ws es
  met-same x s t ls ws no_exprs h = refl
  met-same x s t ls ws (expr_and e es) h =
      cc (
        argument_form-same x s t ls e,
        kind-same x s t ls e (left x s t (expr_calls e) (exprs_calls es) h),
        met-same x s t ls (other_wants ws) es (right x s t (expr_calls e) (exprs_calls es) h),
      )

front-same : (x : World) (s t : List ℕ) (ls : List Local) (ws : List Want) (es : Exprs) → Agree x s t (exprs_calls es)
    → met_before (env_at x s ls) ws es ≡ met_before (env_at x t ls) ws es
front-same x s t ls ws no_exprs h = refl
front-same x s t ls ws (expr_and e es) h =
    cc (
      argument_form-same x s t ls e,
      kind-same x s t ls e (left x s t (expr_calls e) (exprs_calls es) h),
      front-same x s t ls (other_wants ws) es (right x s t (expr_calls e) (exprs_calls es) h),
    )

fixed-same : (x : World) (s t : List ℕ) (ls : List Local) (o : Option ℕ) (ws : List Want) (es : Exprs)
    → Agree x s t (exprs_calls es)
    → are_fixed_met o (env_at x s ls) ws es ≡ are_fixed_met o (env_at x t ls) ws es
fixed-same x s t ls None ws es h = met-same x s t ls ws es h
fixed-same x s t ls (Some i) ws es h = cc (front-same x s t ls ws es h)

pub call_met-same : (x : World) (s t : List ℕ) (ls : List Local) (c : Callee) (es : Exprs)
    → Agree x s t (exprs_calls es) → is_call_met (env_at x s ls) c es ≡ is_call_met (env_at x t ls) c es
call_met-same x s t ls c es h =
    ap (λ (ws : List Want). are_fixed_met (call_format c) (env_at x s ls) ws es) (call_wants-same x s t ls c es)
    ∙ fixed-same x s t ls (call_format c) (call_wants (env_at x t ls) c es) es h
