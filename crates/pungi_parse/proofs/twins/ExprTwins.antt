-- Expressions and types have twins: where the kinds of tokens begin with those of a tree that is allowed, the same tree
-- with other places stands there.
--   twin_expr, twin_spec, twin_declr, twin_params    the twin
use Rattle.std.proofs.Common.{◌≡◌, ℕ, ◌+◌, true, false, List, [], ◌∷◌, ◌++◌, refl, ◌∙◌, ap, subst}
use Rattle.std.specs.Prelude.{◌&&◌, ◌==◌, nat_le, is_some}
use Rattle.pungi_base.specs.declared.key.Key.TheVariants as keys
use Rattle.pungi_base.specs.declared.kind.Kind.{Kind}
use Rattle.pungi_base.specs.declared.kind.Kind.TheVariants as kind
use Rattle.pungi_base.specs.declared.names.Name.{Name}
use Rattle.pungi_base.specs.declared.pos.Pos.{Pos}
use Rattle.pungi_base.specs.declared.punct.Punct.TheVariants as puncts
use Rattle.pungi_base.specs.Numbers.{py_object_new, py_unused}
use Rattle.pungi_parse.proofs.twins.ExprLikes.{LikeExpr, LikeArgs, LikeTypeName, LikeSpec, LikeBase, LikeField}
use Rattle.pungi_parse.proofs.twins.ExprLikes.{LikeFields, LikeDeclr, LikeSomeDeclrs, LikeDeclrs, LikeTail, LikeSizes}
use Rattle.pungi_parse.proofs.twins.ExprLikes.{LikeParams, LikeParamDecl, LikeParamDecls, LikeParamDeclr, void_like}
use Rattle.pungi_parse.proofs.Tools.{and_true, and_join}
use Rattle.pungi_parse.proofs.twins.Twin.{Twin, deeper, wider, deeper_two, first_of, two_of, again, ends_with}
use Rattle.pungi_parse.proofs.twins.Twin.{ends_with_two, same_void, some_place, twin_texts, twin_keys, twin_consts}
use Rattle.pungi_parse.proofs.twins.Twin.{twin_stars, twin_tag, twin_void, twin_dots}
use Rattle.pungi_parse.proofs.expr.TypeExprTheorems.{expr_shorter}
use Rattle.pungi_tree.specs.ExprDepth.{expr_depth}
use Rattle.pungi_tree.specs.ExprFlat.{expr_flat, args_flat, more_args_flat, type_name_flat, spec_flat, base_flat}
use Rattle.pungi_tree.specs.ExprFlat.{field_flat, fields_flat, declr_flat, declrs_flat, more_declrs_flat, tail_flat}
use Rattle.pungi_tree.specs.ExprFlat.{sizes_flat, params_flat, param_decl_flat, param_decls_flat, more_param_decls_flat}
use Rattle.pungi_tree.specs.ExprFlat.{param_declr_flat}
use Rattle.pungi_tree.specs.ExprLevels.{is_empty, tag_ok, void_ok, expr_at, args_ok, type_name_ok, spec_ok, base_ok}
use Rattle.pungi_tree.specs.ExprLevels.{field_ok, fields_ok, declr_ok, some_declrs_ok, declrs_ok, tail_ok, sizes_ok}
use Rattle.pungi_tree.specs.ExprLevels.{params_ok, param_decl_ok, param_decls_ok, param_declr_ok}
use Rattle.pungi_tree.specs.ExprSpells.{Spells, SpellsArgs, SpellsMoreArgs, SpellsTypeName, SpellsSpec, SpellsBase}
use Rattle.pungi_tree.specs.ExprSpells.{SpellsField, SpellsFields, SpellsDeclr, SpellsDeclrs, SpellsMoreDeclrs}
use Rattle.pungi_tree.specs.ExprSpells.{SpellsTail, SpellsSizes, SpellsParams, SpellsParamDecl, SpellsParamDecls}
use Rattle.pungi_tree.specs.ExprSpells.{SpellsMoreParamDecls, SpellsParamDeclr, SpellsStars}
use Rattle.pungi_tree.specs.Operators.{binary_level, is_assign, prefix_need, is_step, is_qualifier, is_aggregate}
use Rattle.pungi_tree.specs.Operators.{all_keys}
use Rattle.pungi_tree.specs.Placed.{Placed, kinds, first_place, mark_at, word_at}
use Rattle.pungi_tree.specs.Syntax.{Expr, word, int, float, char, text, null, paren, unary, post, binary, assign}
use Rattle.pungi_tree.specs.Syntax.{conditional, comma, cast, size_of_type, call, new, index, dot, arrow, Exprs}
use Rattle.pungi_tree.specs.Syntax.{no_exprs, expr_and, TypeName, type_name, Spec, spec, Base, words, alias, tagged}
use Rattle.pungi_tree.specs.Syntax.{tagged_fields, Field, empty, members, Fields, no_fields, field_and, Declr, declr}
use Rattle.pungi_tree.specs.Syntax.{Declrs, no_declrs, declr_and, Tail, sizes, function, Sizes, no_sizes, open_and}
use Rattle.pungi_tree.specs.Syntax.{size_and, Params, params, ParamDecl, param_decl, ParamDecls, no_params, param_and}
use Rattle.pungi_tree.specs.Syntax.{ParamDeclr, named, bare, unused}
use Rattle.pungi_tree.specs.Tokens.{mark, key, named_word, keys_flat, consts_flat, stars_flat, tag_flat, void_flat}
use Rattle.pungi_tree.specs.Tokens.{dots_flat}
use Rattle.pungi_tree.specs.TypeWords.{is_word}

module _ (types : List Name) where
  mutual
    pub twin_expr : (l : ℕ) (e : Expr) (ts : List Placed) (more : List Kind) → kinds ts ≡ expr_flat e ++ more
        → expr_at types l e ≡ true → Twin Expr Spells (LikeExpr types l e) ts more
    twin_expr l (word p n) ts more h ok =
        let f = first_of ts (kind.Word n) more h in
        record { twin = word f.1 n; rest = f.0; spells = f.2; behind = f.3; alike = record { ok = ok; deep = refl } }
    twin_expr l (int p v b u) ts more h ok =
        let f = first_of ts (kind.Int v b u) more h in
        record { twin = int f.1 v b u; rest = f.0; spells = f.2; behind = f.3; alike = record { ok = ok; deep = refl } }
    twin_expr l (float p) ts more h ok =
        let f = first_of ts kind.Float more h in
        record { twin = float f.1; rest = f.0; spells = f.2; behind = f.3; alike = record { ok = ok; deep = refl } }
    twin_expr l (char p c) ts more h ok =
        let f = first_of ts (kind.Char c) more h in
        record { twin = char f.1 c; rest = f.0; spells = f.2; behind = f.3; alike = record { ok = ok; deep = refl } }
    twin_expr l (text p []) ts more h ok = absurd (no_text (and_true (nat_le l 16) false ok).1)
      where
        no_text : false ≡ true → ⊥
        no_text h = cc
    twin_expr l (text p (n ∷ ns)) ts more h ok =
        let r = twin_texts (n ∷ ns) ts more h in
        record {
          twin = text r.1.1 (n ∷ ns);
          rest = r.0;
          spells = (ap first_place r.1.2, r.1);
          behind = r.2;
          alike
              = record { ok = ok; deep = refl };
        }
    twin_expr l (null p) ts more h ok =
        let f = first_of ts (key keys.Null) more h in
        record { twin = null f.1; rest = f.0; spells = f.2; behind = f.3; alike = record { ok = ok; deep = refl } }
    twin_expr l (paren p e) ts more h ok =
        let o = and_true (nat_le l 16) (expr_at types 0 e) ok in
        let f = first_of ts (mark puncts.LeftParen) ((expr_flat e ++ mark puncts.RightParen ∷ []) ++ more) h in
        let i = twin_expr 0 e f.0 (mark puncts.RightParen ∷ more) (again _ (expr_flat e)
        (mark puncts.RightParen ∷ []) more f.3) o.1 in
        let c = ends_with (mark puncts.RightParen) more i in
        record {
          twin = paren f.1 i.twin;
          rest = c.0;
          spells = (f.0, c.1, f.2, c.2);
          behind = c.3;
          alike = record
              { ok = and_join _ _ o.0 i.alike.ok; deep = deeper _ _ i.alike.deep };
        }
    twin_expr l (unary p k e) ts more h ok =
        let o = and_true (nat_le l 14) (expr_at types (prefix_need k) e) ok in
        let f = first_of ts k (expr_flat e ++ more) h in
        let i = twin_expr (prefix_need k) e f.0 more f.3 o.1 in
        record {
          twin = unary f.1 k i.twin;
          rest = i.rest;
          spells = (f.0, f.2, i.spells);
          behind = i.behind;
          alike
              = record { ok = and_join _ _ o.0 i.alike.ok; deep = deeper _ _ i.alike.deep };
        }
    twin_expr l (post p m e) ts more h ok =
        let o = and_true (nat_le l 15) (is_step m && expr_at types 15 e) ok in
        let q = and_true (is_step m) (expr_at types 15 e) o.1 in
        let i = twin_expr 15 e ts (mark m ∷ more) (again _ (expr_flat e) (mark m ∷ []) more h) q.1 in
        let c = ends_with (mark m) more i in
        record {
          twin = post c.1 m i.twin;
          rest = c.0;
          spells = c.2;
          behind = c.3;
          alike = record
              { ok = and_join _ _ o.0 (and_join _ _ q.0 i.alike.ok); deep = deeper _ _ i.alike.deep };
        }
    twin_expr l (binary p m a b) ts more h ok =
        let o = and_true (nat_le l (binary_level m)) (expr_at types (binary_level m) a
        && expr_at types (binary_level m + 1) b) ok in
        let q = and_true (expr_at types (binary_level m) a) (expr_at types (binary_level m + 1) b) o.1 in
        let i = twin_expr (binary_level m) a ts (mark m ∷ (expr_flat b ++ more))
        (again _ (expr_flat a) (mark m ∷ expr_flat b) more h) q.0 in
        let c = ends_with (mark m) (expr_flat b ++ more) i in
        let j = twin_expr (binary_level m + 1) b c.0 more c.3 q.1 in
        record {
          twin = binary c.1 m i.twin j.twin;
          rest = j.rest;
          spells = (c.0, c.2, j.spells);
          behind = j.behind;
          alike = record {
            ok = and_join _ _ o.0 (and_join _ _ i.alike.ok j.alike.ok);
            deep = deeper_two _ _ _ _
                i.alike.deep j.alike.deep;
          };
        }
    twin_expr l (assign p m a b) ts more h ok =
        let o = and_true (nat_le l 1) (is_assign m && (expr_at types 14 a && expr_at types 1 b)) ok in
        let q = and_true (is_assign m) (expr_at types 14 a && expr_at types 1 b) o.1 in
        let r = and_true (expr_at types 14 a) (expr_at types 1 b) q.1 in
        let i = twin_expr 14 a ts (mark m ∷ (expr_flat b ++ more)) (again _ (expr_flat a) (mark m ∷ expr_flat b)
        more h) r.0 in
        let c = ends_with (mark m) (expr_flat b ++ more) i in
        let j = twin_expr 1 b c.0 more c.3 r.1 in
        record {
          twin = assign c.1 m i.twin j.twin;
          rest = j.rest;
          spells = (c.0, c.2, j.spells);
          behind = j.behind;
          alike = record {
            ok = and_join _ _ o.0 (and_join _ _ q.0 (and_join _ _ i.alike.ok j.alike.ok));
            deep
                = deeper_two _ _ _ _ i.alike.deep j.alike.deep;
          };
        }
    twin_expr l (conditional p a b e) ts more h ok =
        let o = and_true (nat_le l 2) (expr_at types 3 a && (expr_at types 0 b && expr_at types 2 e)) ok in
        let q = and_true (expr_at types 3 a) (expr_at types 0 b && expr_at types 2 e) o.1 in
        let r = and_true (expr_at types 0 b) (expr_at types 2 e) q.1 in
        let behind = (expr_flat b ++ (mark puncts.Colon ∷ expr_flat e)) ++ more in
        let i = twin_expr 3 a ts (mark puncts.Question ∷ behind) (again _ (expr_flat a)
        (mark puncts.Question ∷ (expr_flat b ++ (mark puncts.Colon ∷ expr_flat e))) more h) q.0 in
        let c = ends_with (mark puncts.Question) behind i in
        let j = twin_expr 0 b c.0 (mark puncts.Colon ∷ (expr_flat e ++ more)) (again _ (expr_flat b)
        (mark puncts.Colon ∷ expr_flat e) more c.3) r.0 in
        let d = ends_with (mark puncts.Colon) (expr_flat e ++ more) j in
        let k = twin_expr 2 e d.0 more d.3 r.1 in
        record {
          twin = conditional c.1 i.twin j.twin k.twin;
          rest = k.rest;
          spells
              = (c.0, d.0, d.1, c.2, d.2, k.spells);
          behind = k.behind;
          alike = record {
            ok = and_join _ _ o.0 (and_join _ _ i.alike.ok (and_join _ _ j.alike.ok k.alike.ok));
            deep = deeper_two
                _ _ _ _ i.alike.deep (wider (expr_depth j.twin) (expr_depth b) (expr_depth k.twin) (expr_depth e)
                j.alike.deep k.alike.deep);
          };
        }
    twin_expr l (comma p a b) ts more h ok =
        let o = and_true (nat_le l 0) (expr_at types 0 a && expr_at types 1 b) ok in
        let q = and_true (expr_at types 0 a) (expr_at types 1 b) o.1 in
        let i = twin_expr 0 a ts (mark puncts.Comma ∷ (expr_flat b ++ more)) (again _ (expr_flat a)
        (mark puncts.Comma ∷ expr_flat b) more h) q.0 in
        let c = ends_with (mark puncts.Comma) (expr_flat b ++ more) i in
        let j = twin_expr 1 b c.0 more c.3 q.1 in
        record {
          twin = comma c.1 i.twin j.twin;
          rest = j.rest;
          spells = (c.0, c.2, j.spells);
          behind = j.behind;
          alike = record {
            ok = and_join _ _ o.0 (and_join _ _ i.alike.ok j.alike.ok);
            deep = deeper_two _ _ _ _
                i.alike.deep j.alike.deep;
          };
        }
    twin_expr l (cast p t e) ts more h ok =
        let o = and_true (nat_le l 13) (type_name_ok types t && expr_at types 13 e) ok in
        let q = and_true (type_name_ok types t) (expr_at types 13 e) o.1 in
        let f = first_of ts (mark puncts.LeftParen) ((type_name_flat t ++ (mark puncts.RightParen ∷ expr_flat e))
        ++ more) h in
        let i = twin_type_name t f.0 (mark puncts.RightParen ∷ (expr_flat e ++ more))
        (again _ (type_name_flat t) (mark puncts.RightParen ∷ expr_flat e) more f.3) q.0 in
        let c = ends_with (mark puncts.RightParen) (expr_flat e ++ more) i in
        let j = twin_expr 13 e c.0 more c.3 q.1 in
        record {
          twin = cast f.1 i.twin j.twin;
          rest = j.rest;
          spells = (f.0, c.0, c.1, f.2, c.2, j.spells);
          behind
              = j.behind;
          alike = record {
            ok = and_join _ _ o.0 (and_join _ _ i.alike.ok j.alike.ok);
            deep = deeper_two
                _ _ _ _ i.alike.deep j.alike.deep;
          };
        }
    twin_expr l (size_of_type p t) ts more h ok =
        let o = and_true (nat_le l 14) (type_name_ok types t) ok in
        let f = two_of ts (key keys.Sizeof) (mark puncts.LeftParen) ((type_name_flat t ++ mark puncts.RightParen
        ∷ []) ++ more) h in
        let i = twin_type_name t f.0 (mark puncts.RightParen
        ∷ more) (again _ (type_name_flat t) (mark puncts.RightParen ∷ []) more f.4) o.1 in
        let c = ends_with (mark puncts.RightParen) more i in
        record {
          twin = size_of_type f.1 i.twin;
          rest = c.0;
          spells = (f.0, f.2, c.1, f.3, c.2);
          behind = c.3;
          alike
              = record { ok = and_join _ _ o.0 i.alike.ok; deep = deeper _ _ i.alike.deep };
        }
    twin_expr l (call p g es) ts more h ok =
        let o = and_true (nat_le l 15) (expr_at types 15 g && args_ok types es) ok in
        let q = and_true (expr_at types 15 g) (args_ok types es) o.1 in
        let behind = (args_flat es ++ mark puncts.RightParen ∷ []) ++ more in
        let i = twin_expr 15 g ts (mark puncts.LeftParen ∷ behind) (again _ (expr_flat g)
        (mark puncts.LeftParen ∷ (args_flat es ++ mark puncts.RightParen ∷ [])) more h) q.0 in
        let c = ends_with (mark puncts.LeftParen) behind i in
        let j = twin_args es c.0 (mark puncts.RightParen ∷ more) (again _ (args_flat es)
        (mark puncts.RightParen ∷ []) more c.3) q.1 in
        let d = ends_with (mark puncts.RightParen) more j in
        let place = some_place ts i.rest (expr_shorter types 15 i.twin ts i.rest i.spells i.alike.ok) in
        record {
          twin = call place.0 i.twin j.twin;
          rest = d.0;
          spells = (c.0, c.1, d.1, place.1, c.2, d.2);
          behind
              = d.3;
          alike = record {
            ok = and_join _ _ o.0 (and_join _ _ i.alike.ok j.alike.ok);
            deep = deeper_two _ _
                _ _ i.alike.deep j.alike.deep;
          };
        }
    twin_expr l (new p t e) ts more h ok =
        let o = and_true (nat_le l 16) (is_word types (named_word py_object_new)
        && (type_name_ok types t && expr_at types 1 e)) ok in
        let q = and_true (is_word types (named_word py_object_new)) (type_name_ok types t && expr_at types 1 e) o.1 in
        let r = and_true (type_name_ok types t) (expr_at types 1 e) q.1 in
        let behind = (type_name_flat t ++ (mark puncts.Comma ∷ (expr_flat e ++ mark puncts.RightParen ∷ []))) ++ more in
        let f = two_of ts (kind.Word (named_word py_object_new)) (mark puncts.LeftParen) behind h in
        let last = (expr_flat e ++ mark puncts.RightParen ∷ []) ++ more in
        let i = twin_type_name t f.0 (mark puncts.Comma ∷ last) (again _ (type_name_flat t)
        (mark puncts.Comma ∷ (expr_flat e ++ mark puncts.RightParen ∷ [])) more f.4) r.0 in
        let c = ends_with (mark puncts.Comma) last i in
        let j = twin_expr 1 e c.0 (mark puncts.RightParen ∷ more) (again _ (expr_flat e)
        (mark puncts.RightParen ∷ []) more c.3) r.1 in
        let d = ends_with (mark puncts.RightParen) more j in
        record {
          twin = new f.1 i.twin j.twin;
          rest = d.0;
          spells = (f.0, c.0, f.2, c.1, d.1, f.3, c.2, d.2);
          behind
              = d.3;
          alike = record {
            ok = and_join _ _ o.0 (and_join _ _ q.0 (and_join _ _ i.alike.ok j.alike.ok));
            deep = deeper_two _ _ _ _ i.alike.deep j.alike.deep;
          };
        }
    twin_expr l (index p a b) ts more h ok =
        let o = and_true (nat_le l 15) (expr_at types 15 a && expr_at types 0 b) ok in
        let q = and_true (expr_at types 15 a) (expr_at types 0 b) o.1 in
        let behind = (expr_flat b ++ mark puncts.RightBracket ∷ []) ++ more in
        let i = twin_expr 15 a ts (mark puncts.LeftBracket
        ∷ behind) (again _ (expr_flat a) (mark puncts.LeftBracket
        ∷ (expr_flat b ++ mark puncts.RightBracket ∷ [])) more h) q.0 in
        let c = ends_with (mark puncts.LeftBracket) behind i in
        let j = twin_expr 0 b c.0 (mark puncts.RightBracket
        ∷ more) (again _ (expr_flat b) (mark puncts.RightBracket ∷ []) more c.3) q.1 in
        let d = ends_with (mark puncts.RightBracket) more j in
        record {
          twin = index c.1 i.twin j.twin;
          rest = d.0;
          spells = (c.0, d.1, c.2, d.2);
          behind = d.3;
          alike
              = record {
                ok = and_join _ _ o.0 (and_join _ _ i.alike.ok j.alike.ok);
                deep = deeper_two _ _ _ _
                    i.alike.deep j.alike.deep;
              };
        }
    twin_expr l (dot p e n) ts more h ok =
        let o = and_true (nat_le l 15) (expr_at types 15 e && is_word types n) ok in
        let q = and_true (expr_at types 15 e) (is_word types n) o.1 in
        let i = twin_expr 15 e ts (mark puncts.Dot ∷ kind.Word n
        ∷ more) (again _ (expr_flat e) (mark puncts.Dot ∷ kind.Word n ∷ []) more h) q.0 in
        let c = ends_with_two (mark puncts.Dot) (kind.Word n) more i in
        record {
          twin = dot c.1 i.twin n;
          rest = c.0;
          spells = (c.2, c.3);
          behind = c.4;
          alike = record
              { ok = and_join _ _ o.0 (and_join _ _ i.alike.ok q.1); deep = deeper _ _ i.alike.deep };
        }
    twin_expr l (arrow p e n) ts more h ok =
        let o = and_true (nat_le l 15) (expr_at types 15 e && is_word types n) ok in
        let q = and_true (expr_at types 15 e) (is_word types n) o.1 in
        let i = twin_expr 15 e ts (mark puncts.Arrow ∷ kind.Word n
        ∷ more) (again _ (expr_flat e) (mark puncts.Arrow ∷ kind.Word n ∷ []) more h) q.0 in
        let c = ends_with_two (mark puncts.Arrow) (kind.Word n) more i in
        record {
          twin = arrow c.1 i.twin n;
          rest = c.0;
          spells = (c.2, c.3);
          behind = c.4;
          alike = record
              { ok = and_join _ _ o.0 (and_join _ _ i.alike.ok q.1); deep = deeper _ _ i.alike.deep };
        }

    twin_args : (es : Exprs) (ts : List Placed) (more : List Kind) → kinds ts ≡ args_flat es ++ more
        → args_ok types es ≡ true → Twin Exprs SpellsArgs (LikeArgs types es) ts more
    twin_args no_exprs ts more h ok = record {
      twin = no_exprs;
      rest = ts;
      spells = refl;
      behind = h;
      alike = record
          { ok = ok; deep = refl };
    }
    twin_args (expr_and e es) ts more h ok =
        let o = and_true (expr_at types 1 e) (args_ok types es) ok in
        let i = twin_expr 1 e ts (more_args_flat es ++ more) (again _ (expr_flat e) (more_args_flat es) more h) o.0 in
        let j = twin_more_args es i.rest more i.behind o.1 in
        record {
          twin = expr_and i.twin j.twin;
          rest = j.rest;
          spells = (i.rest, i.spells, j.spells);
          behind
              = j.behind;
          alike = record {
            ok = and_join _ _ i.alike.ok j.alike.ok;
            deep = wider _ _ _ _ i.alike.deep
                j.alike.deep;
          };
        }

    twin_more_args : (es : Exprs) (ts : List Placed) (more : List Kind) → kinds ts ≡ more_args_flat es ++ more
        → args_ok types es ≡ true → Twin Exprs SpellsMoreArgs (LikeArgs types es) ts more
    twin_more_args no_exprs ts more h ok = record {
      twin = no_exprs;
      rest = ts;
      spells = refl;
      behind = h;
      alike
          = record { ok = ok; deep = refl };
    }
    twin_more_args (expr_and e es) ts more h ok =
        let o = and_true (expr_at types 1 e) (args_ok types es) ok in
        let f = first_of ts (mark puncts.Comma) ((expr_flat e ++ more_args_flat es) ++ more) h in
        let i = twin_expr 1 e f.0 (more_args_flat es ++ more) (again _ (expr_flat e) (more_args_flat es) more f.3)
        o.0 in
        let j = twin_more_args es i.rest more i.behind o.1 in
        record {
          twin = expr_and i.twin j.twin;
          rest = j.rest;
          spells = (f.0, i.rest, f.1, f.2, i.spells, j.spells);
          behind = j.behind;
          alike = record {
            ok = and_join _ _ i.alike.ok j.alike.ok;
            deep = wider _ _ _ _
                i.alike.deep j.alike.deep;
          };
        }

    pub twin_type_name : (t : TypeName) (ts : List Placed) (more : List Kind) → kinds ts ≡ type_name_flat t ++ more
        → type_name_ok types t ≡ true → Twin TypeName SpellsTypeName (LikeTypeName types t) ts more
    twin_type_name (type_name b ns) ts more h ok =
        let i = twin_spec b ts (stars_flat ns ++ more) (again _ (spec_flat b) (stars_flat ns) more h) ok in
        let j = twin_stars ns i.rest more i.behind in
        record {
          twin = type_name i.twin ns;
          rest = j.0;
          spells = (i.rest, i.spells, j.1);
          behind = j.2;
          alike
              = record { ok = i.alike.ok; deep = i.alike.deep };
        }

    pub twin_spec : (b : Spec) (ts : List Placed) (more : List Kind) → kinds ts ≡ spec_flat b ++ more
        → spec_ok types b ≡ true → Twin Spec SpellsSpec (LikeSpec types b) ts more
    twin_spec (spec p b n) ts more h ok =
        let i = twin_base b ts (consts_flat n ++ more) (again _ (base_flat b) (consts_flat n) more h) ok in
        let j = twin_consts n i.rest more i.behind in
        record {
          twin = spec i.alike.first i.twin n;
          rest = j.0;
          spells = (i.rest, i.alike.place, i.spells, j.1);
          behind = j.2;
          alike = record {
            ok = i.alike.ok;
            deep = i.alike.deep;
            void = ap (λ z. z && n == 0)
                i.alike.void;
          };
        }

    twin_base : (b : Base) (ts : List Placed) (more : List Kind) → kinds ts ≡ base_flat b ++ more
        → base_ok types b ≡ true → Twin Base SpellsBase (LikeBase types ts b) ts more
    twin_base (words []) ts more h ok = absurd (no_words ok)
      where
        no_words : false ≡ true → ⊥
        no_words h = cc
    twin_base (words (k ∷ ks)) ts more h ok =
        let r = twin_keys (k ∷ ks) ts more h in
        record {
          twin = words (k ∷ ks);
          rest = r.0;
          spells = r.1;
          behind = r.2;
          alike = record
              { ok = ok; deep = refl; void = refl; first = r.1.1; place = ap first_place r.1.2 };
        }
    twin_base (alias n) ts more h ok =
        let f = first_of ts (kind.Word n) more h in
        record {
          twin = alias n;
          rest = f.0;
          spells = (f.1, f.2);
          behind = f.3;
          alike = record
              { ok = ok; deep = refl; void = refl; first = f.1; place = ap first_place f.2 };
        }
    twin_base (tagged of tag) ts more h ok =
        let o = and_true (is_aggregate of) (is_some tag) ok in
        let f = first_of ts (key of) (tag_flat tag ++ more) h in
        let i = twin_tag types tag f.0 more f.3 in
        record {
          twin = tagged of i.twin;
          rest = i.rest;
          spells = (f.0, f.1, f.2, i.spells);
          behind = i.behind;
          alike = record {
            ok = and_join _ _ o.0 (i.alike.there ∙ o.1);
            deep = refl;
            void = refl;
            first = f.1;
            place
                = ap first_place f.2;
          };
        }
    twin_base (tagged_fields of tag fs) ts more h ok =
        let o = and_true (is_aggregate of) (tag_ok types tag && fields_ok types fs) ok in
        let q = and_true (tag_ok types tag) (fields_ok types fs) o.1 in
        let f = first_of ts (key of) ((tag_flat tag ++ (mark puncts.LeftBrace
        ∷ (fields_flat fs ++ mark puncts.RightBrace ∷ []))) ++ more) h in
        let behind = (fields_flat fs ++ mark puncts.RightBrace ∷ []) ++ more in
        let i = twin_tag types tag f.0 (mark puncts.LeftBrace
        ∷ behind) (again _ (tag_flat tag) (mark puncts.LeftBrace
        ∷ (fields_flat fs ++ mark puncts.RightBrace ∷ [])) more f.3) in
        let c = ends_with (mark puncts.LeftBrace) behind i in
        let j = twin_fields fs c.0 (mark puncts.RightBrace
        ∷ more) (again _ (fields_flat fs) (mark puncts.RightBrace ∷ []) more c.3) q.1 in
        let d = ends_with (mark puncts.RightBrace) more j in
        record {
          twin = tagged_fields of i.twin j.twin;
          rest = d.0;
          spells = (
            f.0,
            c.0,
            f.1,
            c.1,
            d.1,
            f.2,
            c.2,
            d.2,
          );
          behind = d.3;
          alike = record {
            ok = and_join _ _ o.0 (and_join _ _ (i.alike.allowed ∙ q.0)
                j.alike.ok);
            deep = j.alike.deep;
            void = refl;
            first = f.1;
            place = ap first_place f.2;
          };
        }

    twin_field : (f : Field) (ts : List Placed) (more : List Kind) → kinds ts ≡ field_flat f ++ more
        → field_ok types f ≡ true → Twin Field SpellsField (LikeField types f) ts more
    twin_field empty ts more h ok =
        let f = first_of ts (mark puncts.Semicolon) more h in
        record {
          twin = empty;
          rest = f.0;
          spells = (f.1, f.2);
          behind = f.3;
          alike = record
              { ok = refl; deep = refl };
        }
    twin_field (members qs b ds) ts more h ok =
        let o = and_true (all_keys is_qualifier qs) (spec_ok types b && some_declrs_ok types ds) ok in
        let q = and_true (spec_ok types b) (some_declrs_ok types ds) o.1 in
        let behind = (declrs_flat ds ++ mark puncts.Semicolon ∷ []) ++ more in
        let k = twin_keys qs ts ((spec_flat b ++ (declrs_flat ds ++ mark puncts.Semicolon ∷ [])) ++ more)
        (again _ (keys_flat qs) (spec_flat b ++ (declrs_flat ds ++ mark puncts.Semicolon ∷ [])) more h) in
        let i = twin_spec b k.0 behind (again _ (spec_flat b) (declrs_flat ds ++ mark puncts.Semicolon ∷ []) more
        k.2) q.0 in
        let j = twin_declrs ds i.rest (mark puncts.Semicolon
        ∷ more) (again _ (declrs_flat ds) (mark puncts.Semicolon ∷ []) more i.behind) q.1 in
        let d = ends_with (mark puncts.Semicolon) more j in
        record {
          twin = members qs i.twin j.twin;
          rest = d.0;
          spells = (k.0, i.rest, d.1, k.1, i.spells, d.2);
          behind = d.3;
          alike = record {
            ok = and_join _ _ o.0 (and_join _ _ i.alike.ok j.alike.ok);
            deep = wider _
                _ _ _ i.alike.deep j.alike.deep;
          };
        }

    twin_fields : (fs : Fields) (ts : List Placed) (more : List Kind) → kinds ts ≡ fields_flat fs ++ more
        → fields_ok types fs ≡ true → Twin Fields SpellsFields (LikeFields types fs) ts more
    twin_fields no_fields ts more h ok = record {
      twin = no_fields;
      rest = ts;
      spells = refl;
      behind = h;
      alike
          = record { ok = refl; deep = refl };
    }
    twin_fields (field_and f fs) ts more h ok =
        let o = and_true (field_ok types f) (fields_ok types fs) ok in
        let i = twin_field f ts (fields_flat fs ++ more) (again _ (field_flat f) (fields_flat fs) more h) o.0 in
        let j = twin_fields fs i.rest more i.behind o.1 in
        record {
          twin = field_and i.twin j.twin;
          rest = j.rest;
          spells = (i.rest, i.spells, j.spells);
          behind
              = j.behind;
          alike = record {
            ok = and_join _ _ i.alike.ok j.alike.ok;
            deep = wider _ _ _ _ i.alike.deep
                j.alike.deep;
          };
        }

    pub twin_declr : (c : Declr) (ts : List Placed) (more : List Kind) → kinds ts ≡ declr_flat c ++ more
        → declr_ok types c ≡ true → Twin Declr SpellsDeclr (LikeDeclr types c) ts more
    twin_declr (declr ns n p t) ts more h ok =
        let o = and_true (is_word types n) (tail_ok types t) ok in
        let k = twin_stars ns ts (tail_flat n t ++ more) (again _ (stars_flat ns) (tail_flat n t) more h) in
        let i = twin_tail n t k.0 more k.2 o.1 in
        record {
          twin = declr ns n i.twin.0 i.twin.1;
          rest = i.rest;
          spells = (k.0, k.1, i.spells);
          behind
              = i.behind;
          alike = record { ok = and_join _ _ o.0 i.alike.ok; deep = i.alike.deep };
        }

    twin_declrs : (ds : Declrs) (ts : List Placed) (more : List Kind) → kinds ts ≡ declrs_flat ds ++ more
        → some_declrs_ok types ds ≡ true → Twin Declrs SpellsDeclrs (LikeSomeDeclrs types ds) ts more
    twin_declrs no_declrs ts more h ok = record {
      twin = no_declrs;
      rest = ts;
      spells = refl;
      behind = h;
      alike
          = record { ok = ok; deep = refl };
    }
    twin_declrs (declr_and c ds) ts more h ok =
        let o = and_true (declr_ok types c) (declrs_ok types ds) ok in
        let i = twin_declr c ts (more_declrs_flat ds ++ more) (again _ (declr_flat c) (more_declrs_flat ds) more h)
        o.0 in
        let j = twin_more_declrs ds i.rest more i.behind o.1 in
        record {
          twin = declr_and i.twin j.twin;
          rest = j.rest;
          spells = (i.rest, i.spells, j.spells);
          behind
              = j.behind;
          alike = record {
            ok = and_join _ _ i.alike.ok j.alike.ok;
            deep = wider _ _ _ _ i.alike.deep
                j.alike.deep;
          };
        }

    twin_more_declrs : (ds : Declrs) (ts : List Placed) (more : List Kind) → kinds ts ≡ more_declrs_flat ds ++ more
        → declrs_ok types ds ≡ true → Twin Declrs SpellsMoreDeclrs (LikeDeclrs types ds) ts more
    twin_more_declrs no_declrs ts more h ok = record {
      twin = no_declrs;
      rest = ts;
      spells = refl;
      behind = h;
      alike
          = record { ok = refl; deep = refl };
    }
    twin_more_declrs (declr_and c ds) ts more h ok =
        let o = and_true (declr_ok types c) (declrs_ok types ds) ok in
        let f = first_of ts (mark puncts.Comma) ((declr_flat c ++ more_declrs_flat ds) ++ more) h in
        let i = twin_declr c f.0 (more_declrs_flat ds ++ more) (again _ (declr_flat c) (more_declrs_flat ds) more
        f.3) o.0 in
        let j = twin_more_declrs ds i.rest more i.behind o.1 in
        record {
          twin = declr_and i.twin j.twin;
          rest = j.rest;
          spells = (
            f.0,
            i.rest,
            f.1,
            f.2,
            i.spells,
            j.spells,
          );
          behind = j.behind;
          alike = record {
            ok = and_join _ _ i.alike.ok j.alike.ok;
            deep = wider _ _ _
                _ i.alike.deep j.alike.deep;
          };
        }

    twin_tail : (n : Name) (t : Tail) (ts : List Placed) (more : List Kind) → kinds ts ≡ tail_flat n t ++ more
        → tail_ok types t ≡ true → Twin (Pos × Tail) (λ x. SpellsTail n x.0 x.1) (LikeTail types t) ts more
    twin_tail n (sizes ss) ts more h ok =
        let f = first_of ts (kind.Word n) (sizes_flat ss ++ more) h in
        let i = twin_sizes ss f.0 more f.3 ok in
        record {
          twin = (f.1, sizes i.twin);
          rest = i.rest;
          spells = (f.0, f.2, i.spells);
          behind = i.behind;
          alike
              = record { ok = i.alike.ok; deep = i.alike.deep };
        }
    twin_tail n (function ps) ts more h ok =
        let behind = (params_flat ps ++ mark puncts.RightParen ∷ []) ++ more in
        let f = two_of ts (mark puncts.LeftParen) (mark puncts.Star) (kind.Word n ∷ mark puncts.RightParen
        ∷ mark puncts.LeftParen ∷ behind) h in
        let g = two_of f.0 (kind.Word n) (mark puncts.RightParen) (mark puncts.LeftParen ∷ behind) f.4 in
        let k = first_of g.0 (mark puncts.LeftParen) behind g.4 in
        let i = twin_params ps k.0 (mark puncts.RightParen
        ∷ more) (again _ (params_flat ps) (mark puncts.RightParen ∷ []) more k.3) ok in
        let d = ends_with (mark puncts.RightParen) more i in
        let at = f.3 ∙ ap (λ z. mark_at puncts.LeftParen f.1 ∷ mark_at puncts.Star f.2 ∷ z)
        (g.3 ∙ ap (λ z. word_at n g.1 ∷ mark_at puncts.RightParen g.2 ∷ z) k.2) in
        record {
          twin = (g.1, function i.twin);
          rest = d.0;
          spells = (k.0, f.1, f.2, g.2, k.1, d.1, at, d.2);
          behind
              = d.3;
          alike = record { ok = i.alike.ok; deep = i.alike.deep };
        }

    twin_sizes : (ss : Sizes) (ts : List Placed) (more : List Kind) → kinds ts ≡ sizes_flat ss ++ more
        → sizes_ok types ss ≡ true → Twin Sizes SpellsSizes (LikeSizes types ss) ts more
    twin_sizes no_sizes ts more h ok = record {
      twin = no_sizes;
      rest = ts;
      spells = refl;
      behind = h;
      alike
          = record { ok = refl; deep = refl };
    }
    twin_sizes (open_and ss) ts more h ok =
        let f = two_of ts (mark puncts.LeftBracket) (mark puncts.RightBracket) (sizes_flat ss ++ more) h in
        let i = twin_sizes ss f.0 more f.4 ok in
        record {
          twin = open_and i.twin;
          rest = i.rest;
          spells = (f.0, f.1, f.2, f.3, i.spells);
          behind = i.behind;
          alike = record { ok = i.alike.ok; deep = i.alike.deep };
        }
    twin_sizes (size_and e ss) ts more h ok =
        let o = and_true (expr_at types 0 e) (sizes_ok types ss) ok in
        let f = first_of ts (mark puncts.LeftBracket) ((expr_flat e ++ (mark puncts.RightBracket ∷ sizes_flat ss))
        ++ more) h in
        let i = twin_expr 0 e f.0 (mark puncts.RightBracket ∷ (sizes_flat ss ++ more))
        (again _ (expr_flat e) (mark puncts.RightBracket ∷ sizes_flat ss) more f.3) o.0 in
        let c = ends_with (mark puncts.RightBracket) (sizes_flat ss ++ more) i in
        let j = twin_sizes ss c.0 more c.3 o.1 in
        record {
          twin = size_and i.twin j.twin;
          rest = j.rest;
          spells = (f.0, c.0, f.1, c.1, f.2, c.2, j.spells);
          behind = j.behind;
          alike = record {
            ok = and_join _ _ i.alike.ok j.alike.ok;
            deep = wider _ _ _ _
                i.alike.deep j.alike.deep;
          };
        }

    pub twin_params : (ps : Params) (ts : List Placed) (more : List Kind) → kinds ts ≡ params_flat ps ++ more
        → params_ok types ps ≡ true → Twin Params SpellsParams (LikeParams types ps) ts more
    twin_params (params ds v dots) ts more h ok =
        let o = and_true (void_ok v ds dots) (param_decls_ok types ds) ok in
        let k = twin_void v ts ((param_decls_flat ds ++ dots_flat dots) ++ more)
        (again _ (void_flat v) (param_decls_flat ds ++ dots_flat dots) more h) in
        let i = twin_param_decls ds k.0 (dots_flat dots ++ more) (again _ (param_decls_flat ds) (dots_flat dots)
        more k.2) o.1 in
        let j = twin_dots dots i.rest more i.behind in
        record {
          twin = params i.twin v j.twin;
          rest = j.rest;
          spells = (k.0, i.rest, k.1, i.spells, j.spells);
          behind = j.behind;
          alike = record {
            ok = and_join _ _ (void_like types v ds i.twin dots j.twin
                i.alike.none i.alike.lone j.alike ∙ o.0) i.alike.ok;
            deep = i.alike.deep;
          };
        }

    twin_param_decl : (d : ParamDecl) (ts : List Placed) (more : List Kind) → kinds ts ≡ param_decl_flat d ++ more
        → param_decl_ok types d ≡ true → Twin ParamDecl SpellsParamDecl (LikeParamDecl types d) ts more
    twin_param_decl (param_decl qs b d) ts more h ok =
        let o = and_true (all_keys is_qualifier qs) (spec_ok types b && param_declr_ok types d) ok in
        let q = and_true (spec_ok types b) (param_declr_ok types d) o.1 in
        let k = twin_keys qs ts ((spec_flat b ++ param_declr_flat d)
        ++ more) (again _ (keys_flat qs) (spec_flat b ++ param_declr_flat d) more h) in
        let i = twin_spec b k.0 (param_declr_flat d ++ more) (again _ (spec_flat b) (param_declr_flat d) more k.2)
        q.0 in
        let j = twin_param_declr d i.rest more i.behind q.1 in
        record {
          twin = param_decl qs i.twin j.twin;
          rest = j.rest;
          spells = (k.0, i.rest, k.1, i.spells, j.spells);
          behind = j.behind;
          alike = record {
            ok = and_join _ _ o.0 (and_join _ _ i.alike.ok j.alike.ok);
            deep
                = wider _ _ _ _ i.alike.deep j.alike.deep;
            void = same_void (is_empty qs) _ _ _ _ i.alike.void
                j.alike.nothing;
          };
        }

    twin_param_decls : (ds : ParamDecls) (ts : List Placed) (more : List Kind)
        → kinds ts ≡ param_decls_flat ds ++ more → param_decls_ok types ds ≡ true
        → Twin ParamDecls SpellsParamDecls (LikeParamDecls types ds) ts more
    twin_param_decls no_params ts more h ok = record {
      twin = no_params;
      rest = ts;
      spells = refl;
      behind = h;
      alike
          = record { ok = refl; deep = refl; none = refl; lone = refl };
    }
    twin_param_decls (param_and d ds) ts more h ok =
        let o = and_true (param_decl_ok types d) (param_decls_ok types ds) ok in
        let i = twin_param_decl d ts (more_param_decls_flat ds
        ++ more) (again _ (param_decl_flat d) (more_param_decls_flat ds) more h) o.0 in
        let j = twin_more_param_decls ds i.rest more i.behind o.1 in
        record {
          twin = param_and i.twin j.twin;
          rest = j.rest;
          spells = (i.rest, i.spells, j.spells);
          behind
              = j.behind;
          alike = record {
            ok = and_join _ _ i.alike.ok j.alike.ok;
            deep = wider _ _ _ _ i.alike.deep
                j.alike.deep;
            none = refl;
            lone = same_void true _ _ _ _ i.alike.void j.alike.none;
          };
        }

    twin_more_param_decls : (ds : ParamDecls) (ts : List Placed) (more : List Kind)
        → kinds ts ≡ more_param_decls_flat ds ++ more → param_decls_ok types ds ≡ true
        → Twin ParamDecls SpellsMoreParamDecls (LikeParamDecls types ds) ts more
    twin_more_param_decls no_params ts more h ok = record {
      twin = no_params;
      rest = ts;
      spells = refl;
      behind = h;
      alike = record { ok = refl; deep = refl; none = refl; lone = refl };
    }
    twin_more_param_decls (param_and d ds) ts more h ok =
        let o = and_true (param_decl_ok types d) (param_decls_ok types ds) ok in
        let f = first_of ts (mark puncts.Comma) ((param_decl_flat d ++ more_param_decls_flat ds) ++ more) h in
        let i = twin_param_decl d f.0 (more_param_decls_flat ds
        ++ more) (again _ (param_decl_flat d) (more_param_decls_flat ds) more f.3) o.0 in
        let j = twin_more_param_decls ds i.rest more i.behind o.1 in
        record {
          twin = param_and i.twin j.twin;
          rest = j.rest;
          spells = (
            f.0,
            i.rest,
            f.1,
            f.2,
            i.spells,
            j.spells,
          );
          behind = j.behind;
          alike = record {
            ok = and_join _ _ i.alike.ok j.alike.ok;
            deep = wider _ _ _
                _ i.alike.deep j.alike.deep;
            none = refl;
            lone = same_void true _ _ _ _ i.alike.void j.alike.none;
          };
        }

    twin_param_declr : (d : ParamDeclr) (ts : List Placed) (more : List Kind)
        → kinds ts ≡ param_declr_flat d ++ more → param_declr_ok types d ≡ true
        → Twin ParamDeclr SpellsParamDeclr (LikeParamDeclr types d) ts more
    twin_param_declr (named c) ts more h ok =
        let i = twin_declr c ts more h ok in
        record {
          twin = named i.twin;
          rest = i.rest;
          spells = i.spells;
          behind = i.behind;
          alike = record
              { ok = i.alike.ok; deep = i.alike.deep; nothing = refl };
        }
    twin_param_declr (bare ns) ts more h ok =
        let k = twin_stars ns ts more h in
        record {
          twin = bare ns;
          rest = k.0;
          spells = k.1;
          behind = k.2;
          alike = record
              { ok = refl; deep = refl; nothing = refl };
        }
    twin_param_declr (unused ns n p) ts more h ok =
        let k = twin_stars ns ts (kind.Word (named_word py_unused) ∷ mark puncts.LeftParen ∷ kind.Word n
        ∷ mark puncts.RightParen ∷ more) (again _ (stars_flat ns) (kind.Word (named_word py_unused)
        ∷ mark puncts.LeftParen ∷ kind.Word n ∷ mark puncts.RightParen ∷ []) more h) in
        let f = two_of k.0 (kind.Word (named_word py_unused)) (mark puncts.LeftParen)
        (kind.Word n ∷ mark puncts.RightParen ∷ more) k.2 in
        let g = two_of f.0 (kind.Word n) (mark puncts.RightParen) more f.4 in
        let at = f.3 ∙ ap (λ z. word_at (named_word py_unused) f.1 ∷ mark_at puncts.LeftParen f.2 ∷ z) g.3 in
        record {
          twin = unused ns n g.1;
          rest = g.0;
          spells = (
            f.1,
            f.2,
            g.2,
            subst (λ z. SpellsStars ns ts z) at
                k.1,
          );
          behind = g.4;
          alike = record { ok = ok; deep = refl; nothing = refl };
        }
