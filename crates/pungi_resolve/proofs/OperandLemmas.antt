-- The operands of what is sound are sound, and the trees that operators stand for.
use Rattle.std.proofs.Common.{◌≡◌, ◌∙◌, ◌<◌, Bool, true, false, List, [], ◌∷◌, length, map, None, refl, sym, ap}
use Rattle.std.proofs.Common.{arith, rules}
use Rattle.std.specs.Prelude.{◌&&◌, if◌then◌else◌}
use Rattle.std.specs.declared.alloc.Global.{Global}
use Rattle.std.specs.declared.boxed.Box.{Box as Boxed}
use Rattle.pungi_base.specs.declared.pos.Pos.{Pos}
use Rattle.pungi_base.specs.declared.punct.Punct.{Punct}
use Rattle.pungi_tree.specs.Syntax as plain
use Rattle.pungi_tree.specs.ExprView.{expr_view, exprs_of}
use Rattle.pungi_tree.specs.declared.expr.Expr.{Expr}
use Rattle.pungi_tree.specs.declared.expr.ExprNode.TheVariants.{Binary, Assign, Cond}
use Rattle.pungi_tree.specs.declared.declr.Tail.TheViews.{the_lemmas}
use Rattle.pungi_tree.specs.declared.declr.Tail.TheFolds.{fold_out-Expr, fold_out-ExprNode, fold-roll-ExprNode}
use Rattle.pungi_tree.specs.declared.declr.Tail.TheFolds.{fold-roll-Expr}
use Rattle.pungi_types.specs.Names.{Env}
use Rattle.pungi_types.specs.Kinds.{type_name_kind}
use Rattle.pungi_types.specs.Calls.{is_module_address, is_place, wants_module, wants_place, wants_output, other_wants}
use Rattle.pungi_types.specs.Exprs.{kind_of}
use Rattle.pungi_types.specs.Formats.{arg_at, expr_pos}
use Rattle.pungi_resolve.specs.Exprs.{resolve, resolve_all, place_of, convert, or_int, want_kind}
use Rattle.pungi_resolved.specs.Values.{Value, value_and, emptied}
use Rattle.pungi_resolve.specs.Sound.{is_sound, are_sound, is_sound_place}
use Rattle.pungi_types.specs.declared.wants.Want.{Want}
use Rattle.pungi_resolve.specs.Arguments.{argument_in, argument_values}
use Rattle.pungi_resolve.proofs.Clean.{and_left, and_right}
use Rattle.pungi_resolve.proofs.ListLemmas.{values_before}
use Rattle.pungi_resolve.proofs.SoundParts.{binary-same, assign-same, cast-same, convert-same}

expr_view-binary : (e : Expr) (m : Punct) (a b : Boxed Expr Global) → e.node ≡ Binary m a b
    → expr_view e ≡ plain.binary e.pos m (expr_view a.value) (expr_view b.value)
expr_view-binary e m a b h =
    search (rules, the_lemmas, fold_out-Expr, fold_out-ExprNode, fold-roll-ExprNode, fold-roll-Expr)

expr_view-assign : (e : Expr) (m : Punct) (a b : Boxed Expr Global) → e.node ≡ Assign m a b
    → expr_view e ≡ plain.assign e.pos m (expr_view a.value) (expr_view b.value)
expr_view-assign e m a b h =
    search (rules, the_lemmas, fold_out-Expr, fold_out-ExprNode, fold-roll-ExprNode, fold-roll-Expr)

expr_view-cond : (e : Expr) (t a b : Boxed Expr Global) → e.node ≡ Cond t a b
    → expr_view e ≡ plain.conditional e.pos (expr_view t.value) (expr_view a.value) (expr_view b.value)
expr_view-cond e t a b h =
    search (rules, the_lemmas, fold_out-Expr, fold_out-ExprNode, fold-roll-ExprNode, fold-roll-Expr)

-- the operands of a binary operator
pub record Operands (env : Env) (a b : plain.Expr) : Type 0 where
  pub first : is_sound (resolve env a) ≡ true
  pub second : is_sound (resolve env b) ≡ true

pub binary-operands : (env : Env) (e : Expr) (m : Punct) (a b : Boxed Expr Global) → e.node ≡ Binary m a b
    → is_sound (resolve env (expr_view e)) ≡ true → Operands env (expr_view a.value) (expr_view b.value)
binary-operands env e m a b n h =
    let v = expr_view-binary e m a b n in
    let k = sym (binary-same e.pos m (kind_of env (plain.binary e.pos m (expr_view a.value) (expr_view b.value)))
    (resolve env (expr_view a.value)) (resolve env (expr_view b.value)))
    ∙ sym (ap (λ x. is_sound (resolve env x)) v) ∙ h in
    record { first = and_left _ _ k; second = and_right _ _ k }

-- the sides of an assignment
pub record Sides (env : Env) (a b : plain.Expr) : Type 0 where
  pub place : is_sound_place (place_of env a) ≡ true
  pub value : is_sound (resolve env b) ≡ true

pub assign-sides : (env : Env) (e : Expr) (m : Punct) (a b : Boxed Expr Global) → e.node ≡ Assign m a b
    → is_sound (resolve env (expr_view e)) ≡ true → Sides env (expr_view a.value) (expr_view b.value)
assign-sides env e m a b n h =
    let v = expr_view-assign e m a b n in
    let k = sym (assign-same e.pos m (kind_of env (expr_view a.value)) (kind_of env (expr_view b.value))
    (place_of env (expr_view a.value)) (resolve env (expr_view b.value)))
    ∙ sym (ap (λ x. is_sound (resolve env x)) v) ∙ h in
    record { place = and_left _ _ k; value = and_right _ _ k }

-- the three operands of `?:`
pub record Choices (env : Env) (t a b : plain.Expr) : Type 0 where
  pub test : is_sound (resolve env t) ≡ true
  pub yes : is_sound (resolve env a) ≡ true
  pub no : is_sound (resolve env b) ≡ true

pub cond-choices : (env : Env) (e : Expr) (t a b : Boxed Expr Global) → e.node ≡ Cond t a b
    → is_sound (resolve env (expr_view e)) ≡ true
    → Choices env (expr_view t.value) (expr_view a.value) (expr_view b.value)
cond-choices env e t a b n h =
    let v = expr_view-cond e t a b n in
    let k : (is_sound (resolve env (expr_view t.value))
    && (is_sound (resolve env (expr_view a.value)) && is_sound (resolve env (expr_view b.value))))
    ≡ true = sym (ap (λ x. is_sound (resolve env x)) v) ∙ h in
    let r = and_right _ _ k in
    record { test = and_left _ _ k; yes = and_left _ _ r; no = and_right _ _ r }

pub cast-operand : (env : Env) (p : Pos) (t : plain.TypeName) (a : plain.Expr)
    → is_sound (resolve env (plain.cast p t a)) ≡ true → is_sound (resolve env a) ≡ true
cast-operand env p t a h = sym (cast-same p (type_name_kind env.file.items t) (kind_of env a) (resolve env a)) ∙ h

pub made-operand : (env : Env) (p : Pos) (t : plain.TypeName) (a : plain.Expr)
    → is_sound (resolve env (plain.new p t a)) ≡ true → is_sound (resolve env a) ≡ true
made-operand env p t a h = and_left (is_sound (resolve env a)) true h

-- .. arguments
other_value : (b : Bool) (x y : Value) → b ≡ false → (if b then x else y) ≡ y
other_value true x y h = absurd (cc)
other_value false x y h = refl

first_value : (b : Bool) (x y : Value) → b ≡ true → (if b then x else y) ≡ x
first_value true x y h = refl
first_value false x y h = absurd (cc)

pub argument-emptied : (env : Env) (ws : List Want) (e : plain.Expr)
    → (wants_module ws && is_module_address env e) ≡ false → (wants_place ws && is_place env e) ≡ true
    → argument_in env ws e ≡ emptied (expr_pos e) (or_int (kind_of env e)) (place_of env e)
argument-emptied env ws e h k =
    other_value (wants_module ws && is_module_address env e) _ _ h
    ∙ first_value (wants_place ws && is_place env e) _ _ k

pub argument-place : (env : Env) (ws : List Want) (e : plain.Expr)
    → (wants_module ws && is_module_address env e) ≡ false → (wants_place ws && is_place env e) ≡ true
    → is_sound (argument_in env ws e) ≡ true → is_sound_place (place_of env e) ≡ true
argument-place env ws e h k s = sym (ap is_sound (argument-emptied env ws e h k)) ∙ s

pub argument-value : (env : Env) (ws : List Want) (e : plain.Expr)
    → (wants_module ws && is_module_address env e) ≡ false → (wants_place ws && is_place env e) ≡ false
    → argument_in env ws e ≡ convert (expr_pos e) (want_kind ws) (kind_of env e) (resolve env e)
argument-value env ws e h k =
    other_value (wants_module ws && is_module_address env e) _ _ h
    ∙ other_value (wants_place ws && is_place env e) _ _ k

pub argument-operand : (env : Env) (ws : List Want) (e : plain.Expr)
    → (wants_module ws && is_module_address env e) ≡ false → (wants_place ws && is_place env e) ≡ false
    → is_sound (argument_in env ws e) ≡ true → is_sound (resolve env e) ≡ true
argument-operand env ws e h k s =
    sym (convert-same (expr_pos e) (want_kind ws) (kind_of env e) (resolve env e))
    ∙ sym (ap is_sound (argument-value env ws e h k)) ∙ s

pub neither-left : (a b : Bool) → a ≡ false → (a && b) ≡ false
neither-left true b h = absurd (cc)
neither-left false b h = refl

pub neither-right : (a b : Bool) → b ≡ false → (a && b) ≡ false
neither-right true b h = h
neither-right false b h = refl

-- .. the arguments of a call
-- fewer than three arguments have no third
pub none_third : {A : Type 0} (f : A → plain.Expr) (xs : List A) → length xs < 3 → arg_at 2 (exprs_of (map f xs)) ≡ None
none_third f [] h = refl
none_third f (a ∷ []) h = refl
none_third f (a ∷ b ∷ []) h = refl
none_third f (a ∷ b ∷ c ∷ xs) h = absurd (omega arith)

pub resolve_all-next : (env : Env) (ws : List Want) (e : plain.Expr) (es : plain.Exprs)
    → resolve_all env ws (plain.expr_and e es)
    ≡ values_before (argument_values env ws e) (resolve_all env (other_wants ws) es)
resolve_all-next env ws e es =
    let rest = resolve_all env (other_wants ws) es in
    elim (wants_output ws) as (λ b. (if b then rest else value_and (argument_in env ws e) rest)
    ≡ values_before (if b then [] else argument_in env ws e ∷ []) rest) [ true ↦ refl | false ↦ refl ]

pub argument-sound : (env : Env) (ws : List Want) (e : plain.Expr) (es : plain.Exprs)
    → are_sound (resolve_all env ws (plain.expr_and e es)) ≡ true → wants_output ws ≡ false
    → is_sound (argument_in env ws e) ≡ true
argument-sound env ws e es h k =
    let rest = resolve_all env (other_wants ws) es in
    elim (wants_output ws) as (λ b. b ≡ false → are_sound (if b then rest else value_and (argument_in env ws e) rest)
    ≡ true → is_sound (argument_in env ws e) ≡ true) [
      | true ↦ λ f s. absurd (cc)
      | false ↦ λ f s. and_left (is_sound (argument_in env ws e)) (are_sound rest) s
    ] k h

pub rest-sound : (env : Env) (ws : List Want) (e : plain.Expr) (es : plain.Exprs)
    → are_sound (resolve_all env ws (plain.expr_and e es)) ≡ true
    → are_sound (resolve_all env (other_wants ws) es) ≡ true
rest-sound env ws e es h =
    let rest = resolve_all env (other_wants ws) es in
    elim (wants_output ws) as (λ b. are_sound (if b then rest else value_and (argument_in env ws e) rest) ≡ true
    → are_sound rest ≡ true) [
      | true ↦ λ s. s
      | false ↦ λ s. and_right (is_sound (argument_in env ws e)) (are_sound rest) s
    ] h

pub and-grouped : (a b c : Bool) → ((a && b) && c) ≡ (a && (b && c))
and-grouped true b c = refl
and-grouped false b c = refl
