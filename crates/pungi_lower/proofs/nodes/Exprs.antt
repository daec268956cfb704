-- An expression of the text becomes at most three nodes for each of its nodes, and four instructions; a conversion of
-- its value, where one is wanted, is among them.
use Rattle.std.proofs.Common.{arith, List, refl}
use Rattle.pungi_tree.specs.Syntax.{Expr, word, int, float, char, text, null, paren, unary, post, binary, assign}
use Rattle.pungi_tree.specs.Syntax.{conditional, comma, cast, size_of_type, call, new, index, dot, arrow, Exprs}
use Rattle.pungi_tree.specs.Syntax.{no_exprs, expr_and}
use Rattle.pungi_types.specs.declared.wants.Want.{Want}
use Rattle.pungi_types.specs.Kinds.{type_name_kind}
use Rattle.pungi_types.specs.Names.{Env, meaning_of}
use Rattle.pungi_types.specs.Nodes as written
use Rattle.pungi_types.specs.Operators.{prefix_of, struct_part}
use Rattle.pungi_types.specs.Calls.{callee, call_wants, other_wants, wants_output}
use Rattle.pungi_types.specs.Exprs.{int_kind, kind_of}
use Rattle.pungi_resolve.specs.Exprs.{resolve, place_of, resolve_all, or_int, callee_name, given_params}
use Rattle.pungi_lower.proofs.nodes.Parts.{Few, FewPlace, binary-few, assign-few, cast-few, place-few, field-few}
use Rattle.pungi_lower.proofs.nodes.Parts.{word-few, field_read-few, int-few, unary-few, step-few}
use Rattle.pungi_lower.proofs.nodes.Calls.{FewValues, places, spare, all-few, call-few}

mutual
  pub expr-few : (env : Env) (e : Expr) → Few (resolve env e) (written.expr_nodes e)
  expr-few env (word p n) = word-few p (meaning_of env n.0) n (kind_of env (word p n))
  expr-few env (int p v l u) = int-few p (int_kind v l u) v
  expr-few env (char p x) = record { nodes = omega arith; size = omega arith }
  expr-few env (text p ns) = record { nodes = omega arith; size = omega arith }
  expr-few env (null p) = record { nodes = omega arith; size = omega arith }
  expr-few env (paren p e) = let h = expr-few env e in record {
    nodes = omega (arith, h.nodes);
    size = omega
        (arith, h.size);
  }
  expr-few env (unary p k e) =
      unary-few env p k (prefix_of k) e (resolve env e) (place_of env e) (written.expr_nodes e) (expr-few env e)
      (to_place-few env e)
  expr-few env (post p m e) =
      let f = to_place-few env e in
      let t = step-few (or_int (kind_of env e)) (place_of env e) (written.expr_nodes e) f in
      record { nodes = omega (arith, f.nodes); size = omega (arith, t) }
  expr-few env (binary p m a b) =
      binary-few p m (kind_of env (binary p m a b)) (resolve env a) (resolve env b) (written.expr_nodes a)
      (written.expr_nodes b) (expr-few env a) (expr-few env b)
  expr-few env (assign p m a b) =
      assign-few p m (kind_of env a) (kind_of env b) (place_of env a) (resolve env b) (written.expr_nodes a)
      (written.expr_nodes b) (to_place-few env a) (expr-few env b)
  expr-few env (conditional p c a b) =
      let h = expr-few env c in
      let f = expr-few env a in
      let g = expr-few env b in
      record { nodes = omega (arith, h.nodes, f.nodes, g.nodes); size = omega (arith, h.size, f.size, g.size) }
  expr-few env (cast p t e) =
      let h = cast-few p (type_name_kind env.file.items t) (kind_of env e) (resolve env e) (written.expr_nodes e)
      (expr-few env e) in
      record { nodes = omega (arith, h.nodes); size = omega (arith, h.size) }
  expr-few env (call p f es) =
      let k = expr-few env f in
      call-few env p (callee env f) (callee_name f) es (given_params env es) (written.expr_nodes f)
      (written.exprs_nodes es) (omega (arith, k.size)) (args-few env (call_wants env (callee env f) es) es)
  expr-few env (arrow p e n) =
      field_read-few p (kind_of env (arrow p e n)) (resolve env e) (struct_part (kind_of env e)) n
      (written.expr_nodes e) (expr-few env e)
  expr-few env (float p) = record { nodes = omega arith; size = omega arith }
  expr-few env (comma p a b) = record { nodes = omega arith; size = omega arith }
  expr-few env (size_of_type p t) = record { nodes = omega arith; size = omega arith }
  expr-few env (new p t e) =
      let h = expr-few env e in
      record { nodes = omega (arith, h.nodes); size = omega (arith, h.size) }
  expr-few env (index p a b) = record { nodes = omega arith; size = omega arith }
  expr-few env (dot p e n) = record { nodes = omega arith; size = omega arith }

  to_place-few : (env : Env) (e : Expr) → FewPlace (place_of env e) (written.expr_nodes e)
  to_place-few env (word p n) = place-few p (meaning_of env n.0) n
  to_place-few env (arrow p e n) = field-few p (resolve env e) (struct_part (kind_of env e)) n
      (written.expr_nodes e) (expr-few env e)
  to_place-few env e = record { nodes = omega arith; size = omega arith; base = omega arith }

  args-few : (env : Env) (ws : List Want) (es : Exprs)
      → FewValues (resolve_all env ws es) (spare env ws es) (places ws) (written.exprs_nodes es)
  args-few env ws no_exprs = record { nodes = omega arith; size = omega arith }
  args-few env ws (expr_and e es) =
      all-few env ws e es (wants_output ws) (written.expr_nodes e) (written.exprs_nodes es) refl refl (expr-few env e)
      (to_place-few env e) (args-few env (other_wants ws) es)
