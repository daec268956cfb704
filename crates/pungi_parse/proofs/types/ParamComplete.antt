-- Parameters that stand at the front of the tokens are read, by what is known of their parts.
--   .._reads, .._read    the reader of the same name reads it
use Rattle.std.proofs.Common.{◌≡◌, ℕ, zero, suc, ◌≤◌, Bool, true, false, ◌&&◌, List, ◌∷◌, length, Option, Some, None}
use Rattle.std.proofs.Common.{refl, sym, ap, subst, arith}
use Rattle.std.specs.Prelude.{◌==◌}
use Rattle.pungi_base.specs.declared.key.Key.{Key}
use Rattle.pungi_base.specs.declared.names.Name.{Name}
use Rattle.pungi_base.specs.declared.pos.Pos.{Pos}
use Rattle.pungi_base.specs.declared.punct.Punct.{Punct}
use Rattle.pungi_base.specs.declared.punct.Punct.TheVariants as puncts
use Rattle.pungi_base.specs.Numbers.{py_unused}
use Rattle.pungi_parse.specs.tokens.OneToken.{eat}
use Rattle.pungi_parse.specs.Reading.{chain, on_some, when, unless}
use Rattle.pungi_parse.specs.Readers.{readers}
use Rattle.pungi_parse.specs.types.TypeReader.{plain_word, unused_front, param_rest, begins_name, param_declr_at, param}
use Rattle.pungi_parse.specs.types.TypeReader.{dots_front, more_params, void_front, some_params, params_at}
use Rattle.pungi_parse.proofs.tokens.Ends.{SpecEnds}
use Rattle.pungi_parse.proofs.trees.Facts.{SpecReads, ParamsReads, TailReads, ParamDeclrReads, ParamDeclReads}
use Rattle.pungi_parse.proofs.trees.Facts.{MoreParamsRead, ParamEnds}
use Rattle.pungi_parse.proofs.trees.Fronts.{spec_begins, decl_begins}
use Rattle.pungi_parse.proofs.trees.Shorter.{spec_no_longer, param_decl_no_longer}
use Rattle.pungi_parse.proofs.Tools.{and_true, not_true}
use Rattle.pungi_parse.proofs.types.TypeComplete.{tail_begins, stars_begin, declr_begins}
use Rattle.pungi_parse.proofs.types.VoidComplete.{no_void_front}
use Rattle.pungi_parse.proofs.tokens.WordReadings.{keywords_complete, stars_complete, keys_no_longer, stars_no_longer}
use Rattle.pungi_tree.specs.ExprDepth.{param_decl_depth, param_decls_depth}
use Rattle.pungi_tree.specs.ExprLevels.{spec_ok, tail_ok, param_decl_ok, param_decls_ok, param_declr_ok, void_ok}
use Rattle.pungi_tree.specs.ExprSpells.{SpellsSizes, SpellsTail, SpellsParamDeclr, SpellsParamDecl}
use Rattle.pungi_tree.specs.ExprSpells.{SpellsMoreParamDecls, SpellsDots}
use Rattle.pungi_tree.specs.Operators.{is_qualifier, all_keys}
use Rattle.pungi_tree.specs.Placed.{Placed, mark_at}
use Rattle.pungi_tree.specs.Syntax.{Spec, declr, Tail, sizes, function, Sizes, no_sizes, open_and, size_and, params}
use Rattle.pungi_tree.specs.Syntax.{ParamDecl, param_decl, ParamDecls, no_params, param_and, ParamDeclr, named, bare}
use Rattle.pungi_tree.specs.Syntax.{unused}
use Rattle.pungi_tree.specs.Tokens.{named_word}
use Rattle.pungi_tree.specs.TypeWords.{is_word}

when_none : {A : Type 0} (b : Bool) → when {A = A} b None ≡ None
unfolding when
when_none true = refl
when_none false = refl

pub ends_at_paren : (q : Pos) (ts : List Placed) → ParamEnds (mark_at puncts.RightParen q ∷ ts)
ends_at_paren q ts =
    record {
      spec = record { no_const = refl; no_base_word = refl; no_brace = refl };
      stars = record
          { no_star = refl; no_const = refl };
      declr = record { no_size = refl };
      no_word = refl;
      no_paren = refl;
    }

pub ends_at_comma : (q : Pos) (ts : List Placed) → ParamEnds (mark_at puncts.Comma q ∷ ts)
ends_at_comma q ts =
    record {
      spec = record { no_const = refl; no_base_word = refl; no_brace = refl };
      stars = record
          { no_star = refl; no_const = refl };
      declr = record { no_size = refl };
      no_word = refl;
      no_paren = refl;
    }

dots_end : (dots : Option Pos) (q : Pos) (ts rest : List Placed)
    → SpellsDots dots ts (mark_at puncts.RightParen q ∷ rest) → ParamEnds ts
dots_end None q ts rest s = subst ParamEnds (sym s) (ends_at_paren q rest)
dots_end (Some p) q ts rest s = subst ParamEnds (sym s.1) (ends_at_comma s.0 _)

more_end : (ds : ParamDecls) (dots : Option Pos) (q : Pos) (ts after rest : List Placed)
    → SpellsMoreParamDecls ds ts after → SpellsDots dots after (mark_at puncts.RightParen q ∷ rest) → ParamEnds ts
more_end no_params dots q ts after rest s e = subst ParamEnds (sym s) (dots_end dots q after rest e)
more_end (param_and d ds) dots q ts after rest s e = subst ParamEnds (sym s.3) (ends_at_comma s.2 s.0)

-- what a parameter has after its type stops the type
param_declr_begins : (d : ParamDeclr) (ts rest : List Placed) → SpellsParamDeclr d ts rest → ParamEnds rest
    → SpecEnds ts
param_declr_begins (named c) ts rest s e = declr_begins c ts rest s
param_declr_begins (bare ss) ts rest s e = stars_begin ss ts rest s e.spec
param_declr_begins (unused ss n p) ts rest s e =
    stars_begin ss ts _ s.3 (record { no_const = refl; no_base_word = refl; no_brace = refl })

module _ (types : List Name) where
  -- a declared name is no `Py_UNUSED (`
  tail_no_unused : (w : Name) (p : Pos) (t : Tail) (ts rest : List Placed) → SpellsTail w p t ts rest
      → is_word types w ≡ true → ParamEnds rest → unused_front types ts ≡ None
  unfolding unused_front plain_word chain unless
  tail_no_unused w p (sizes ss) ts rest s ok e = rw (s.1, not_true _ ok, sizes_no_paren ss s.0 rest s.2 e)
      (when_none (w.0 == py_unused))
    where
      sizes_no_paren : (ss : Sizes) (ts rest : List Placed) → SpellsSizes ss ts rest → ParamEnds rest
          → eat puncts.LeftParen ts ≡ None
      sizes_no_paren no_sizes ts rest s e = rw s e.no_paren
      sizes_no_paren (open_and ss) ts rest s e = rw s.3 refl
      sizes_no_paren (size_and x ss) ts rest s e = rw s.4 refl
  tail_no_unused w p (function ps) ts rest s ok e = rw s.6 refl

  tail_begins_name : (w : Name) (p : Pos) (t : Tail) (ts rest : List Placed) → SpellsTail w p t ts rest
      → begins_name ts ≡ true
  unfolding begins_name
  tail_begins_name w p (sizes ss) ts rest s = rw s.1 refl
  tail_begins_name w p (function ps) ts rest s = rw s.6 refl

  pub param_named : (ss : List ℕ) (w : Name) (p : Pos) (t : Tail) → TailReads types t
      → ParamDeclrReads types (named (declr ss w p t))
  unfolding param_declr_at param_rest on_some chain when
  param_named ss w p t f n d ts rest s ok deep long e =
      let a = and_true (is_word types w) (tail_ok types t) ok in
      let c = stars_complete ss ts s.0 s.1 (tail_begins w p t s.0 rest s.2).stars in
      let b = tail_begins_name w p t s.0 rest s.2 in
      let u = tail_no_unused w p t s.0 rest s.2 a.0 e in
      let r = f n d ss w p s.0 rest s.2 a.0 a.1 deep (omega (arith, long, stars_no_longer ss ts s.0 s.1)) e.declr in
      rw (c, b, u, r) refl

  pub param_bare : (ss : List ℕ) → ParamDeclrReads types (bare ss)
  unfolding param_declr_at begins_name on_some when
  param_bare ss n d ts rest s ok deep long e = rw (stars_complete ss ts rest s e.stars, e.no_word, e.no_paren) refl

  pub param_unused : (ss : List ℕ) (w : Name) (p : Pos) → ParamDeclrReads types (unused ss w p)
  unfolding param_declr_at param_rest begins_name unused_front plain_word on_some chain when unless
  param_unused ss w p n d ts rest s ok deep long e =
      let a = and_true (is_word types (named_word py_unused)) (is_word types w) ok in
      let c = stars_complete ss ts _ s.3 (record { no_star = refl; no_const = refl }) in
      rw (c, not_true _ a.0, not_true _ a.1) refl

  pub param_reads : (qs : List Key) (c : Spec) (x : ParamDeclr) → SpecReads types c → ParamDeclrReads types x
      → ParamDeclReads types (param_decl qs c x)
  unfolding param chain
  param_reads qs c x g f n d ts rest s ok deep long e =
      let a = and_true (all_keys is_qualifier qs) (spec_ok types c && param_declr_ok types x) ok in
      let b = and_true (spec_ok types c) (param_declr_ok types x) a.1 in
      let i = keys_no_longer qs ts s.0 s.2 in
      let j = spec_no_longer c s.0 s.1 s.3 in
      let k = keywords_complete is_qualifier qs ts s.0 s.2 a.0 (spec_begins types c s.0 s.1 s.3 b.0).no_qualifier in
      let r = g n d s.0 s.1 s.3 b.0 (omega (arith, deep)) (omega (arith, long, i))
      (param_declr_begins x s.1 rest s.4 e) in
      let t = f n d s.1 rest s.4 b.1 (omega (arith, deep)) (omega (arith, long, i, j)) e in
      rw (k, r, t) refl

  -- a parameter begins with no punctuator
  param_no_mark : (q : Punct) (x : ParamDecl) (ts rest : List Placed) → SpellsParamDecl x ts rest
      → param_decl_ok types x ≡ true → eat q ts ≡ None
  param_no_mark q (param_decl qs c x) ts rest s ok =
      let a = and_true (all_keys is_qualifier qs) (spec_ok types c && param_declr_ok types x) ok in
      let b = and_true (spec_ok types c) (param_declr_ok types x) a.1 in
      (decl_begins types qs c ts s.0 s.1 s.2 a.0 s.3 b.0).no_mark q

  pub more_params_end : MoreParamsRead types no_params
  unfolding more_params dots_front on_some chain
  more_params_end n d zero dots q ts after rest s e ok deep long fuel = absurd (omega (arith, fuel))
  more_params_end n d (suc k) None q ts after rest s e ok deep long fuel = rw (s, e) refl
  more_params_end n d (suc k) (Some p) q ts after rest s e ok deep long fuel = rw (s, e.1) refl

  pub more_params_and : (x : ParamDecl) (ds : ParamDecls) → ParamDeclReads types x → MoreParamsRead types ds
      → MoreParamsRead types (param_and x ds)
  unfolding more_params dots_front on_some chain
  more_params_and x ds g f n d zero dots q ts after rest s e ok deep long fuel = absurd (omega (arith, fuel))
  more_params_and x ds g f n d (suc k) dots q ts after rest s e ok deep long fuel =
      let a = and_true (param_decl_ok types x) (param_decls_ok types ds) ok in
      let i = param_decl_no_longer x _ _ s.4 in
      let none = param_no_mark puncts.Ellipsis x s.0 s.1 s.4 a.0 in
      let r = g n d s.0 s.1 s.4 a.0 (omega (arith, deep)) (omega (arith, long, ap length s.3))
      (more_end ds dots q s.1 after rest s.5 e) in
      let t = f n d k dots q s.1 after rest s.5 e a.1 (omega (arith, deep)) (omega (arith, long, i, ap length s.3))
      (omega (arith, fuel, i, ap length s.3)) in
      rw (s.3, none, r, t) refl

  some_params_read : (x : ParamDecl) (ds : ParamDecls) (dots : Option Pos) (n d : ℕ) (q : Pos)
      (ts between after rest : List Placed) → ParamDeclReads types x → MoreParamsRead types ds
      → SpellsParamDecl x ts between → SpellsMoreParamDecls ds between after
      → SpellsDots dots after (mark_at puncts.RightParen q ∷ rest) → param_decl_ok types x ≡ true
      → param_decls_ok types ds ≡ true → param_decl_depth x ≤ d → param_decls_depth ds ≤ d → length ts ≤ n
      → some_params types (readers types n d) ts ≡ Some (params (param_and x ds) false dots, rest)
  unfolding some_params chain
  some_params_read x ds dots n d q ts between after rest g f s m e ok oks deep deeper long =
      let i = param_decl_no_longer x ts between s in
      let r = g n d ts between s ok deep long (more_end ds dots q between after rest m e) in
      let t = f n d (suc (length between)) dots q between after rest m e oks deeper (omega (arith, long, i))
      (omega arith) in
      rw (r, t) refl

  pub params_void : (ds : ParamDecls) (dots : Option Pos) → ParamsReads types (params ds true dots)
  unfolding readers params_at void_front on_some chain
  params_void no_params None zero d q ts rest s ok deep long = absurd (omega (arith, long))
  params_void no_params None (suc n) d q ts rest s ok deep long = rw (s.2.1, s.3, s.4) refl
  params_void no_params (Some p) n d q ts rest s ok deep long = absurd (cc)
  params_void (param_and x ds) dots n d q ts rest s ok deep long = absurd (cc)

  pub params_none : (dots : Option Pos) → ParamsReads types (params no_params false dots)
  unfolding readers params_at on_some
  params_none None zero d q ts rest s ok deep long = absurd (omega (arith, long))
  params_none None (suc n) d q ts rest s ok deep long = rw (s.2, s.3, s.4) refl
  params_none (Some p) n d q ts rest s ok deep long = absurd (cc)

  pub params_read : (x : ParamDecl) (ds : ParamDecls) (dots : Option Pos) → ParamDeclReads types x
      → MoreParamsRead types ds → ParamsReads types (params (param_and x ds) false dots)
  unfolding readers params_at on_some
  params_read x ds dots g f zero d q ts rest s ok deep long = absurd (omega (arith, long))
  params_read x ds dots g f (suc n) d q ts rest s ok deep long =
      let a = and_true (void_ok false (param_and x ds) dots) (param_decl_ok types x && param_decls_ok types ds) ok in
      let b = and_true (param_decl_ok types x) (param_decls_ok types ds) a.1 in
      let p : SpellsParamDecl x ts s.3.0 = subst (λ z. SpellsParamDecl x z s.3.0) (sym s.2) s.3.1 in
      let none = param_no_mark puncts.RightParen x ts s.3.0 p b.0 in
      let v = no_void_front types x ds dots ts s.3.0 s.1 _ p s.3.2 s.4 b.0 a.0 in
      let r = some_params_read x ds dots n d q ts s.3.0 s.1 rest g f p s.3.2 s.4 b.0 b.1 (omega (arith, deep))
      (omega (arith, deep)) (omega (arith, long)) in
      rw (none, v) r
