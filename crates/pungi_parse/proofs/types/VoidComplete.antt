-- Where parameters are no lone `void`, their reader sees none.
--   .._at_close       what can stand before a closing parenthesis at once
--   .._at_void        what can begin with `void` and a closing parenthesis
--   no_void_front     the tokens of parameters are no `void` and a closing parenthesis
use Rattle.std.proofs.Common.{◌≡◌, ℕ, zero, suc, true, false, List, [], ◌∷◌, Option, Some, None, refl, sym, ◌∙◌, ap}
use Rattle.std.proofs.Common.{subst}
use Rattle.pungi_base.specs.declared.key.Key.{Key}
use Rattle.pungi_base.specs.declared.key.Key.TheVariants as keys
use Rattle.pungi_base.specs.declared.kind.Kind.{Kind}
use Rattle.pungi_base.specs.declared.kind.Kind.TheVariants as kind
use Rattle.pungi_base.specs.declared.names.Name.{Name}
use Rattle.pungi_base.specs.declared.pos.Pos.{Pos}
use Rattle.pungi_base.specs.declared.punct.Punct.TheVariants as puncts
use Rattle.pungi_parse.specs.types.TypeReader.{void_front}
use Rattle.pungi_parse.proofs.tokens.Eaten.{eat_some, eat_key_some}
use Rattle.pungi_parse.proofs.Tools.{bind_some, and_true}
use Rattle.pungi_tree.specs.ExprLevels.{base_ok, spec_ok, param_decl_ok, param_declr_ok, is_void_param, is_void_spec}
use Rattle.pungi_tree.specs.ExprLevels.{is_void_base, is_nothing, has_no_params, void_ok}
use Rattle.pungi_tree.specs.ExprSpells.{SpellsKeys, SpellsConsts, SpellsStars, SpellsBase, SpellsSpec, SpellsTail}
use Rattle.pungi_tree.specs.ExprSpells.{SpellsDeclr, SpellsParamDeclr, SpellsParamDecl, SpellsMoreParamDecls}
use Rattle.pungi_tree.specs.ExprSpells.{SpellsDots}
use Rattle.pungi_tree.specs.Operators.{is_qualifier, is_aggregate}
use Rattle.pungi_tree.specs.Placed.{Placed, mark_at, key_at}
use Rattle.pungi_tree.specs.Syntax.{Spec, spec, Base, words, alias, tagged, tagged_fields, Declr, declr, Tail, sizes}
use Rattle.pungi_tree.specs.Syntax.{function, ParamDecl, param_decl, ParamDecls, no_params, param_and, ParamDeclr}
use Rattle.pungi_tree.specs.Syntax.{named, bare, unused}

-- these tokens begin with a closing parenthesis, or with `void` before it
record Closes (ts : List Placed) : Type 0 where
  place : Pos
  after : List Placed
  tokens : ts ≡ mark_at puncts.RightParen place ∷ after

record Voids (ts : List Placed) : Type 0 where
  place : Pos
  after : List Placed
  tokens : ts ≡ key_at keys.Void place ∷ after
  closes : Closes after

first_kind : List Placed → Option Kind
first_kind [] = None
first_kind (t ∷ ts) = Some t.0

first_at_close : (ts : List Placed) → Closes ts → first_kind ts ≡ Some (kind.Punct puncts.RightParen)
unfolding first_kind
first_at_close ts c = rw c.tokens refl

other_first : (k : Kind) (p : Pos) (ts after : List Placed) → Closes ts → ts ≡ (k, p) ∷ after
    → k ≡ kind.Punct puncts.RightParen
unfolding first_kind
other_first k p ts after c e =
    let h : Some k ≡ Some (kind.Punct puncts.RightParen) = sym (ap first_kind e) ∙ first_at_close ts c in cc

first_at_void : (ts : List Placed) → Voids ts → first_kind ts ≡ Some (kind.Key keys.Void)
unfolding first_kind
first_at_void ts v = rw v.tokens refl

void_first : (k : Kind) (p : Pos) (ts after : List Placed) → Voids ts → ts ≡ (k, p) ∷ after → k ≡ kind.Key keys.Void
unfolding first_kind
void_first k p ts after v e =
    let h : Some k ≡ Some (kind.Key keys.Void) = sym (ap first_kind e) ∙ first_at_void ts v in cc

other_void : (k : Kind) (p : Pos) (ts after : List Placed) → Voids ts → ts ≡ (k, p) ∷ after
    → (k ≡ kind.Key keys.Void) × Closes after
other_void k p ts after v e =
    let both : (kind.Key keys.Void, v.place) ∷ v.after ≡ (k, p) ∷ after = sym v.tokens ∙ e in
    let same : v.after ≡ after = cc in
    (void_first k p ts after v e, subst Closes same v.closes)

keys_at_close : (ks : List Key) (ts rest : List Placed) → Closes ts → SpellsKeys ks ts rest → (ks ≡ []) × (ts ≡ rest)
keys_at_close [] ts rest c s = (refl, s)
keys_at_close (k ∷ ks) ts rest c s =
    let e : kind.Key k ≡ kind.Punct puncts.RightParen = other_first (kind.Key k) s.1 ts s.0 c s.2 in absurd (cc)

consts_at_close : (n : ℕ) (ts rest : List Placed) → Closes ts → SpellsConsts n ts rest → (n ≡ 0) × (ts ≡ rest)
consts_at_close zero ts rest c s = (refl, s)
consts_at_close (suc n) ts rest c s =
    let e : kind.Key keys.Const ≡ kind.Punct puncts.RightParen = other_first (kind.Key keys.Const) s.1 ts s.0 c s.2
    in absurd (cc)

star_is_no_paren : kind.Punct puncts.Star ≡ kind.Punct puncts.RightParen → ⊥
star_is_no_paren e = cc

left_is_no_right : kind.Punct puncts.LeftParen ≡ kind.Punct puncts.RightParen → ⊥
left_is_no_right e = cc

comma_is_no_paren : kind.Punct puncts.Comma ≡ kind.Punct puncts.RightParen → ⊥
comma_is_no_paren e = cc

stars_at_close : (ss : List ℕ) (ts rest : List Placed) → Closes ts → SpellsStars ss ts rest → (ss ≡ []) × (ts ≡ rest)
stars_at_close [] ts rest c s = (refl, s)
stars_at_close (n ∷ ss) ts rest c s = absurd (star_is_no_paren (other_first (kind.Punct puncts.Star) s.2 ts s.0 c s.3))

tail_at_close : (w : Name) (p : Pos) (t : Tail) (ts rest : List Placed) → Closes ts → SpellsTail w p t ts rest → ⊥
tail_at_close w p (sizes ss) ts rest c s =
    let e : kind.Word w ≡ kind.Punct puncts.RightParen = other_first (kind.Word w) p ts s.0 c s.1 in absurd (cc)
tail_at_close w p (function ps) ts rest c s =
    left_is_no_right (other_first (kind.Punct puncts.LeftParen) s.1 ts _ c s.6)

declr_at_close : (d : Declr) (ts rest : List Placed) → Closes ts → SpellsDeclr d ts rest → ⊥
declr_at_close (declr ss w p t) ts rest c s =
    let e = stars_at_close ss ts s.0 c s.1 in
    tail_at_close w p t s.0 rest (subst Closes e.1 c) s.2

param_declr_at_close : (d : ParamDeclr) (ts rest : List Placed) → Closes ts → SpellsParamDeclr d ts rest
    → (is_nothing d ≡ true) × (ts ≡ rest)
param_declr_at_close (named d) ts rest c s = absurd (declr_at_close d ts rest c s)
param_declr_at_close (bare []) ts rest c s = (refl, s)
param_declr_at_close (bare (n ∷ ss)) ts rest c s =
    absurd (star_is_no_paren (other_first (kind.Punct puncts.Star) s.2 ts s.0 c s.3))
param_declr_at_close (unused ss n p) ts rest c s =
    let e = stars_at_close ss ts _ c s.3 in
    let f = other_first _ s.0 ts _ c e.1 in
    absurd (cc)

more_at_close : (ds : ParamDecls) (ts rest : List Placed) → Closes ts → SpellsMoreParamDecls ds ts rest
    → (has_no_params ds ≡ true) × (ts ≡ rest)
more_at_close no_params ts rest c s = (refl, s)
more_at_close (param_and d ds) ts rest c s =
    absurd (comma_is_no_paren (other_first (kind.Punct puncts.Comma) s.2 ts s.0 c s.3))

dots_at_close : (dots : Option Pos) (ts rest : List Placed) → Closes ts → SpellsDots dots ts rest → dots ≡ None
dots_at_close None ts rest c s = refl
dots_at_close (Some p) ts rest c s = absurd (comma_is_no_paren (other_first (kind.Punct puncts.Comma) s.0 ts _ c s.1))

void_is_no_aggregate : (k : Key) → is_aggregate k ≡ true → kind.Key k ≡ kind.Key keys.Void → ⊥
void_is_no_aggregate k h e = let s : k ≡ keys.Void = cc in let f : is_aggregate k ≡ false = ap is_aggregate s in cc

void_is_no_qualifier : (k : Key) → is_qualifier k ≡ true → kind.Key k ≡ kind.Key keys.Void → ⊥
void_is_no_qualifier k h e = let s : k ≡ keys.Void = cc in let f : is_qualifier k ≡ false = ap is_qualifier s in cc

word_is_no_key : (w : Name) (k : Key) → kind.Word w ≡ kind.Key k → ⊥
word_is_no_key w k e = cc

module _ (types : List Name) where
  base_at_void : (b : Base) (ts rest : List Placed) → Voids ts → SpellsBase b ts rest → base_ok types b ≡ true
      → (is_void_base b ≡ true) × Closes rest
  base_at_void (words []) ts rest v s ok = absurd (cc)
  base_at_void (words (k ∷ [])) ts rest v s ok =
      let o = other_void (kind.Key k) s.1 ts s.0 v s.2 in
      let e : k ≡ keys.Void = let h : kind.Key k ≡ kind.Key keys.Void = o.0 in cc in
      (rw e refl, subst Closes s.3 o.1)
  base_at_void (words (k ∷ l ∷ ks)) ts rest v s ok =
      let o = other_void (kind.Key k) s.1 ts s.0 v s.2 in
      let e = keys_at_close (l ∷ ks) s.0 rest o.1 s.3 in
      absurd (cc)
  base_at_void (alias n) ts rest v s ok = absurd (word_is_no_key n keys.Void
      (other_void (kind.Word n) s.0 ts rest v s.1).0)
  base_at_void (tagged of tag) ts rest v s ok = absurd (void_is_no_aggregate of (and_true _ _ ok).0
      (other_void (kind.Key of) s.1 ts s.0 v s.2).0)
  base_at_void (tagged_fields of tag fs) ts rest v s ok = absurd (void_is_no_aggregate of (and_true _ _ ok).0
      (other_void (kind.Key of) s.2 ts s.0 v s.5).0)

  spec_at_void : (c : Spec) (ts rest : List Placed) → Voids ts → SpellsSpec c ts rest → spec_ok types c ≡ true
      → (is_void_spec c ≡ true) × Closes rest
  spec_at_void (spec p b n) ts rest v s ok =
      let o = base_at_void b ts s.0 v s.2 ok in
      let e = consts_at_close n s.0 rest o.1 s.3 in
      (rw (o.0, e.0) refl, subst Closes e.1 o.1)

  param_at_void : (d : ParamDecl) (ts rest : List Placed) → Voids ts → SpellsParamDecl d ts rest
      → param_decl_ok types d ≡ true → (is_void_param d ≡ true) × Closes rest
  param_at_void (param_decl (k ∷ ks) c d) ts rest v s ok =
      let o = other_void (kind.Key k) s.2.1 ts s.2.0 v s.2.2 in
      absurd (void_is_no_qualifier k (and_true _ _ (and_true _ _ ok).0).0 o.0)
  param_at_void (param_decl [] c d) ts rest v s ok =
      let o = spec_at_void c s.0 s.1 (subst Voids s.2 v) s.3 (and_true (spec_ok types c) (param_declr_ok types d)
      ok).0 in
      let e = param_declr_at_close d s.1 rest o.1 s.4 in
      (rw (o.0, e.0) refl, subst Closes e.1 o.1)

  lone_at_void : (d : ParamDecl) (ds : ParamDecls) (dots : Option Pos) (ts between after rest : List Placed)
      → Voids ts → SpellsParamDecl d ts between → SpellsMoreParamDecls ds between after → SpellsDots dots after rest
      → param_decl_ok types d ≡ true → void_ok false (param_and d ds) dots ≡ false
  lone_at_void d ds dots ts between after rest v s m e ok =
      let o = param_at_void d ts between v s ok in
      let a = more_at_close ds between after o.1 m in
      let b = dots_at_close dots after rest (subst Closes a.1 o.1) e in
      rw (b, o.0, a.0) refl

  pub no_void_front : (d : ParamDecl) (ds : ParamDecls) (dots : Option Pos) (ts between after rest : List Placed)
      → SpellsParamDecl d ts between → SpellsMoreParamDecls ds between after → SpellsDots dots after rest
      → param_decl_ok types d ≡ true → void_ok false (param_and d ds) dots ≡ true → void_front ts ≡ None
  unfolding void_front
  no_void_front d ds dots ts between after rest s m e ok fine = by (void_front ts) refl
    where
      by : (o : Option (Pos × List Placed)) → void_front ts ≡ o → o ≡ None
      by None h = refl
      by (Some x) h =
          let k = bind_some _ _ _ h in
          let v : Voids ts = record {
            place = k.0.0;
            after = k.0.1;
            tokens = eat_key_some _ ts k.0 k.1;
            closes
                = record { place = x.0; after = x.1; tokens = eat_some _ k.0.1 x k.2 };
          } in
          let f : void_ok false (param_and d ds) dots ≡ false = lone_at_void d ds dots ts between after rest v s m e
          ok in
          absurd (cc)
