use Rattle.std.proofs.Common.{arith, ◌≡◌, None, sym, ◌∙◌, rules, true, false, map, refl}
use Rattle.std.proofs.lemmas.Result.{err_from_is_err_and, IfOk-weaker}
use Rattle.std.proofs.lemmas.List.{map_push}
use Rattle.pungi_base.specs.declared.punct.Punct.TheVariants as puncts
use Rattle.pungi_parse.proofs.expr.ArgLoop.{args_begin, args_turn, args_fail, args_open, args_end, args_depth}
use Rattle.pungi_parse.proofs.expr.ClimbLoop.{climb_begins, climb_ends, climb_deep, climb_fails, climb_turns}
use Rattle.pungi_parse.proofs.expr.CommaLoop.{comma_begins, comma_ends, comma_deep, comma_fails, comma_turns}
use Rattle.pungi_parse.proofs.types.DeclrLoop.{declrs_begin, declrs_turn, declrs_fail, declrs_end, declrs_deepest}
use Rattle.pungi_parse.proofs.types.FieldLoop.{fields_begin, fields_turn, fields_fail, fields_end, fields_deepest}
use Rattle.pungi_parse.proofs.types.FunctionRest.{function_none, function_fails, function_ends}
use Rattle.pungi_parse.proofs.ListLoop.{placed_shorter}
use Rattle.pungi_parse.proofs.types.ParamLoop.{params_begin, params_turn, params_fail, params_dots, params_end}
use Rattle.pungi_parse.proofs.types.ParamLoop.{params_deepest}
use Rattle.pungi_parse.proofs.expr.PostfixLoop.{postfix_begins, postfix_ends, postfix_deep, postfix_fails}
use Rattle.pungi_parse.proofs.expr.PostfixLoop.{postfix_turns}
use Rattle.pungi_parse.proofs.expr.ReadAt.{expr_none, expr_flat, expr_some, spec_none, spec_some, params_none}
use Rattle.pungi_parse.proofs.expr.ReadAt.{params_some, read_at_comma, read_at_assign, read_at_conditional}
use Rattle.pungi_parse.proofs.expr.ReadAt.{read_at_climb, read_at_unary}
use Rattle.pungi_parse.proofs.types.SizeLoop.{sizes_begin, sizes_turn, sizes_fail, sizes_end, sizes_deepest}
use Rattle.pungi_parse.proofs.Tools.{IfOk-both}
use Rattle.pungi_parse.specs.tokens.OneToken.{eat, eat_operator}
use Rattle.pungi_parse.specs.ReaderParts.{goes_on, function_front}
use Rattle.pungi_parse.specs.types.TypeReader.{dots_front}
use Rattle.pungi_tree.specs.ExprView.{expr_view, field_view, declr_view, optional_view, param_decl_view}
use Rattle.pungi_tree.specs.Placed.{placed}
use Rattle.pungi_parse.proofs.parser.Parser.+parts.Goals as goal

pub expr-returns-then-self-eq0 : goal.expr-returns-then-self-eq0
expr-returns-then-self-eq0 t c =
    record { tree = expr_none _ _ _ _ _ c.if-self-eq0.true; deep = tt; bound = tt; shorter = tt }

pub expr-returns-then-self-eq0-2 : goal.expr-returns-then-self-eq0-2
expr-returns-then-self-eq0-2 t c =
    record { tree = expr_flat _ _ _ _ _ c.if-self-eq0-2.true; deep = tt; bound = tt; shorter = tt }

pub expr-returns : goal.expr-returns
expr-returns t c =
    record {
      tree = rw (expr_some c.args.self.now.types.now c.args.self.now.nest c.args.self.now.most c.args.level _
          (omega arith) (omega arith)) c.read_at.ensures.tree;
      deep = c.read_at.ensures.deep;
      bound = IfOk-weaker c.read_at.result _ _ (λ x h. omega (arith, h)) c.read_at.ensures.bound;
      shorter = c.read_at.ensures.shorter;
    }

pub spec-returns-then-self-eq0 : goal.spec-returns-then-self-eq0
spec-returns-then-self-eq0 t c =
    record { tree = spec_none _ _ _ _ c.if-self-eq0.true; deep = tt; bound = tt; shorter = tt }

pub spec-returns : goal.spec-returns
spec-returns t c =
    record {
      tree = rw (spec_some c.args.self.now.types.now c.args.self.now.nest c.args.self.now.most _ (omega arith))
          c.spec_at.ensures.tree;
      deep = c.spec_at.ensures.deep;
      bound = c.spec_at.ensures.bound;
      shorter = c.spec_at.ensures.shorter;
    }

pub params-returns-then-self-eq0 : goal.params-returns-then-self-eq0
params-returns-then-self-eq0 t c =
    record { tree = params_none _ _ _ _ c.if-self-eq0.true; deep = tt; bound = tt; shorter = tt }

pub params-returns : goal.params-returns
params-returns t c =
    record {
      tree = rw (params_some c.args.self.now.types.now c.args.self.now.nest c.args.self.now.most _ (omega arith))
          c.params_at.ensures.tree;
      deep = c.params_at.ensures.deep;
      bound = c.params_at.ensures.bound;
      shorter = c.params_at.ensures.shorter;
    }

pub read_at-returns-then-level-eq0 : goal.read_at-returns-then-level-eq0
read_at-returns-then-level-eq0 t c =
    record {
      tree = rw (read_at_comma _ _ _ _ _ c.if-level-eq0.true) c.comma.ensures.tree;
      deep = c.comma.ensures.deep;
      bound = c.comma.ensures.bound;
      shorter = c.comma.ensures.shorter;
    }

pub read_at-returns-then-level-eq1 : goal.read_at-returns-then-level-eq1
read_at-returns-then-level-eq1 t c =
    record {
      tree = rw (read_at_assign _ _ _ _ _ c.if-level-eq1.true) c.assign.ensures.tree;
      deep = c.assign.ensures.deep;
      bound = c.assign.ensures.bound;
      shorter = c.assign.ensures.shorter;
    }

pub read_at-returns-then-level-eq2 : goal.read_at-returns-then-level-eq2
read_at-returns-then-level-eq2 t c =
    record {
      tree = rw (read_at_conditional _ _ _ _ _ c.if-level-eq2.true) c.conditional.ensures.tree;
      deep = c.conditional.ensures.deep;
      bound = c.conditional.ensures.bound;
      shorter = c.conditional.ensures.shorter;
    }

pub read_at-returns-then-level-lt14 : goal.read_at-returns-then-level-lt14
read_at-returns-then-level-lt14 t c =
    record {
      tree = rw (read_at_climb _ _ _ _ c.args.level (omega arith) (omega arith)) c.climb.ensures.tree;
      deep = c.climb.ensures.deep;
      bound = c.climb.ensures.bound;
      shorter = c.climb.ensures.shorter;
    }

pub read_at-returns-else-level-lt14 : goal.read_at-returns-else-level-lt14
read_at-returns-else-level-lt14 t c =
    record {
      tree = rw (read_at_unary _ _ _ _ c.args.level (omega arith)) c.unary.ensures.tree;
      deep = c.unary.ensures.deep;
      bound = c.unary.ensures.bound;
      shorter = c.unary.ensures.shorter;
    }

pub comma-loop-pos-init : goal.comma-loop-pos-init
comma-loop-pos-init t c =
    record {
      commas = comma_begins _ _ _ _ _ _ _ c.in_ok-left.ensures.tree c.in_ok-left.ensures.deep
          c.in_ok-left.ensures.bound;
      shorter = c.in_ok-left.ensures.shorter;
    }

pub comma-returns-then-left_depth-self : goal.comma-returns-then-left_depth-self
comma-returns-then-left_depth-self t c =
    record {
      tree = comma_deep _ _ _ _ _ _ _ _ c.loop-pos.invariant.commas (sym c.in-Some.ensures.token)
          c.if-left_depth-self.true;
      deep = tt;
      bound = tt;
      shorter = tt;
    }

pub comma-returns-in_err-right : goal.comma-returns-in_err-right
comma-returns-in_err-right t c =
    let p = err_from_is_err_and c.from_residual-in_err-right.result c.from_residual-in_err-right.ensures.1 in
    record {
      tree = rw (p.1, p.2) (comma_fails _ _ _ _ c.in_err-right.field-0.0 _ _ _
          (c.in-Some.pos, placed c.in-Some.after.now) c.loop-pos.invariant.commas (sym c.in-Some.ensures.token)
          (omega arith) c.in_err-right.ensures.tree);
      deep = rw p.1 tt;
      bound = rw p.1 tt;
      shorter = rw p.1 tt;
    }

pub comma-loop-pos-preserved : goal.comma-loop-pos-preserved
comma-loop-pos-preserved t c = record {
  commas = rw (c.in_ok-left-2.ensures, c.max-left_depth.ensures)
      (comma_turns _ _ _ _ _ _ _ _ _ _ (c.in-Some.pos, placed c.in-Some.after.now) c.loop-pos.invariant.commas
      (sym c.in-Some.ensures.token) (omega arith) c.in_ok-right.ensures.tree c.in_ok-right.ensures.deep
      (omega (arith, c.in_ok-right.ensures.bound)));
  shorter = omega (arith, c.in_ok-right.ensures.shorter, c.in-Some.ensures.shorter);
}

pub comma-returns : goal.comma-returns
comma-returns t c =
    let none : eat puncts.Comma (placed c.loop-pos.rest.now) ≡ None = search rules in
    record {
      tree = comma_ends _ _ _ _ _ _ _ c.loop-pos.invariant.commas none;
      deep = c.loop-pos.invariant.commas.deep;
      bound = c.loop-pos.invariant.commas.bound;
      shorter = c.loop-pos.invariant.shorter;
    }

pub climb-loop-operator-init : goal.climb-loop-operator-init
climb-loop-operator-init t c =
    record {
      climbs = climb_begins _ _ _ _ _ _ _ _ c.in_ok-left.ensures.tree c.in_ok-left.ensures.deep
          c.in_ok-left.ensures.bound;
      shorter = c.in_ok-left.ensures.shorter;
    }

pub climb-returns-then-left_depth-self : goal.climb-returns-then-left_depth-self
climb-returns-then-left_depth-self t c =
    record {
      tree = climb_deep _ _ _ _ _ _ _ _ _ c.loop-operator.invariant.climbs (sym c.in-Some.ensures.token)
          c.if-left_depth-self.true;
      deep = tt;
      bound = tt;
      shorter = tt;
    }

pub climb-returns-in_err-right : goal.climb-returns-in_err-right
climb-returns-in_err-right t c =
    let p = err_from_is_err_and c.from_residual-in_err-right.result c.from_residual-in_err-right.ensures.1 in
    record {
      tree = rw (p.1, p.2) (climb_fails _ _ _ _ _ c.in_err-right.field-0.0 _ _ _
          (c.in-Some.operator, c.in-Some.pos, placed c.in-Some.after.now) c.loop-operator.invariant.climbs
          (sym c.in-Some.ensures.token) (omega arith) (rw c.binary_level.ensures at c.in_err-right.ensures.tree));
      deep = rw p.1 tt;
      bound = rw p.1 tt;
      shorter = rw p.1 tt;
    }

pub climb-loop-operator-preserved : goal.climb-loop-operator-preserved
climb-loop-operator-preserved t c = record {
  climbs = rw (c.in_ok-left-2.ensures, c.max-left_depth.ensures)
      (climb_turns _ _ _ _ _ _ _ _ _ _ _ (c.in-Some.operator, c.in-Some.pos, placed c.in-Some.after.now)
      c.loop-operator.invariant.climbs (sym c.in-Some.ensures.token) (omega arith)
      (rw c.binary_level.ensures at c.in_ok-right.ensures.tree) c.in_ok-right.ensures.deep
      (omega (arith, c.in_ok-right.ensures.bound)));
  shorter = omega (arith, c.in_ok-right.ensures.shorter, c.in-Some.ensures.shorter);
}

pub climb-returns : goal.climb-returns
climb-returns t c =
    let none : eat_operator c.args.level (placed c.loop-operator.rest.now) ≡ None = search rules in
    record {
      tree = climb_ends _ _ _ _ _ _ _ _ c.loop-operator.invariant.climbs none;
      deep = c.loop-operator.invariant.climbs.deep;
      bound = c.loop-operator.invariant.climbs.bound;
      shorter = c.loop-operator.invariant.shorter;
    }

pub postfix-each-init : goal.postfix-each-init
postfix-each-init t c = record {
  comes = postfix_begins _ _ _ _ _ _ _ _ (sym c.in-Some.ensures) c.in_ok-tree.ensures.tree c.in_ok-tree.ensures.deep
      c.in_ok-tree.ensures.bound;
  shorter = c.in_ok-tree.ensures.shorter;
}

pub postfix-returns-then-not-goes_on : goal.postfix-returns-then-not-goes_on
postfix-returns-then-not-goes_on t c =
    let stops : goes_on (placed c.each.rest.now) ≡ false = search rules in
    record {
      tree = postfix_ends _ _ _ _ _ _ _ _ c.each.invariant.comes stops;
      deep = c.each.invariant.comes.deep;
      bound = c.each.invariant.comes.bound;
      shorter = c.each.invariant.shorter;
    }

pub postfix-returns-then-depth-self : goal.postfix-returns-then-depth-self
postfix-returns-then-depth-self t c =
    let goes : goes_on (placed c.each.rest.now) ≡ true = search rules in
    record {
      tree = postfix_deep _ _ _ _ _ _ _ _ c.each.invariant.comes goes c.if-depth-self.true;
      deep = tt;
      bound = tt;
      shorter = tt;
    }

pub postfix-returns-in_err-longer : goal.postfix-returns-in_err-longer
postfix-returns-in_err-longer t c =
    let goes : goes_on (placed c.each.rest.now) ≡ true = search rules in
    let p = err_from_is_err_and c.from_residual-in_err-longer.result c.from_residual-in_err-longer.ensures.1 in
    record {
      tree = rw (p.1, p.2) (postfix_fails _ _ _ _ _ c.in_err-longer.field-0.0 _ _ _ c.each.invariant.comes goes
          (omega arith) c.in_err-longer.ensures.reads.tree);
      deep = rw p.1 tt;
      bound = rw p.1 tt;
      shorter = rw p.1 tt;
    }

pub postfix-each-preserved : goal.postfix-each-preserved
postfix-each-preserved t c =
    let goes : goes_on (placed c.each.rest.now) ≡ true = search rules in
    record {
      comes = postfix_turns _ _ _ _ _ _ _ _ _ _ _ c.each.invariant.comes goes (omega arith)
          c.in_ok-longer.ensures.reads.tree c.in_ok-longer.ensures.reads.deep c.in_ok-longer.ensures.deeper
          c.in_ok-longer.ensures.reads.bound;
      shorter = omega (arith, c.in_ok-longer.ensures.reads.shorter, c.each.invariant.shorter);
    }

pub args-loop-inner-init : goal.args-loop-inner-init
args-loop-inner-init t c =
    let none : eat puncts.RightParen (placed c.args.tokens.now) ≡ None = search rules in
    record {
      reads = rw (c.in_ok-push.ensures, c.new-list.ensures.items) (args_begin _ _ _ _ _ none
          c.in_ok-first.ensures.tree);
      deep = rw (c.in_ok-push.ensures, c.new-list.ensures.items) (omega (arith, c.in_ok-first.ensures.deep));
      bound = c.in_ok-first.ensures.bound;
      shorter = c.in_ok-first.ensures.shorter;
    }

pub args-loop-inner-preserved : goal.args-loop-inner-preserved
args-loop-inner-preserved t c = record {
  reads = rw (c.in_ok-push-2.ensures, map_push expr_view c.loop-inner.list.items c.in_ok-arg.arg.value)
      (args_turn _ _ _ _ _ _ _ _ c.loop-inner.invariant.reads (sym c.in-Some-eat.ensures.token) c.in_ok-arg.ensures.tree
      (placed_shorter _ _ (omega (arith, c.in_ok-arg.ensures.shorter, c.in-Some-eat.ensures.shorter))));
  deep = rw (c.in_ok-push-2.ensures, map_push expr_view c.loop-inner.list.items c.in_ok-arg.arg.value)
      (omega (
        arith,
        args_depth (map expr_view c.loop-inner.list.items) (expr_view c.in_ok-arg.arg.value),
        c.loop-inner.invariant.deep,
        c.in_ok-arg.ensures.deep,
      ));
  bound = omega (arith, c.in_ok-arg.ensures.bound, c.loop-inner.invariant.bound);
  shorter = omega (arith, c.in_ok-arg.ensures.shorter, c.in-Some-eat.ensures.shorter, c.loop-inner.invariant.shorter);
}

pub args-returns-in_err-arg : goal.args-returns-in_err-arg
args-returns-in_err-arg t c =
    let p = err_from_is_err_and c.from_residual-in_err-arg.result c.from_residual-in_err-arg.ensures.1 in
    record {
      tree = rw (p.1, p.2) (args_fail _ _ _ c.in_err-arg.field-0.0 _ _ _ c.loop-inner.invariant.reads
          (sym c.in-Some-eat.ensures.token) c.in_err-arg.ensures.tree);
      deep = rw p.1 tt;
      bound = rw p.1 tt;
      shorter = rw p.1 tt;
    }

pub args-returns-in_default-eat-2 : goal.args-returns-in_default-eat-2
args-returns-in_default-eat-2 t c =
    let no_comma : eat puncts.Comma (placed c.loop-inner.rest.now) ≡ None = search rules in
    let no_paren : eat puncts.RightParen (placed c.loop-inner.rest.now) ≡ None = search rules in
    record {
      tree = args_open _ _ _ _ _ c.loop-inner.invariant.reads no_comma no_paren;
      deep = tt;
      bound = tt;
      shorter = tt;
    }

pub args-returns : goal.args-returns
args-returns t c =
    let no_comma : eat puncts.Comma (placed c.loop-inner.rest.now) ≡ None = search rules in
    record {
      tree = args_end _ _ _ _ _ _ c.loop-inner.invariant.reads no_comma (sym c.in-Some-eat-2.ensures.token);
      deep = c.loop-inner.invariant.deep;
      bound = c.loop-inner.invariant.bound;
      shorter = omega (arith, c.in-Some-eat-2.ensures.shorter, c.loop-inner.invariant.shorter);
    }

pub fields-each-init : goal.fields-each-init
fields-each-init t c = record {
  reads = rw c.new-list.ensures.items (fields_begin _ _ _);
  deep = rw c.new-list.ensures.items refl;
  bound = omega arith;
  shorter = omega arith;
}

pub fields-each-preserved : goal.fields-each-preserved
fields-each-preserved t c =
    let none : eat puncts.RightBrace (placed c.each.rest.now) ≡ None = search rules in
    record {
      reads = rw (c.in_ok-push.ensures.items, map_push field_view c.each.list.items c.in_ok-field.field)
          (fields_turn _ _ _ _ _ _ _ c.each.invariant.reads none c.in_ok-field.ensures.tree
          (placed_shorter _ _ c.in_ok-field.ensures.shorter));
      deep = rw (c.in_ok-push.ensures.items, map_push field_view c.each.list.items c.in_ok-field.field)
          (omega (
            arith,
            fields_deepest (map field_view c.each.list.items) (field_view c.in_ok-field.field),
            c.each.invariant.deep,
            c.in_ok-field.ensures.deep,
          ));
      bound = omega (arith, c.in_ok-field.ensures.bound, c.each.invariant.bound);
      shorter = omega (arith, c.in_ok-field.ensures.shorter, c.each.invariant.shorter);
    }

pub fields-returns-in_err-field : goal.fields-returns-in_err-field
fields-returns-in_err-field t c =
    let none : eat puncts.RightBrace (placed c.each.rest.now) ≡ None = search rules in
    let p = err_from_is_err_and c.from_residual.result c.from_residual.ensures.1 in
    record {
      tree = rw (p.1, p.2) (fields_fail _ _ _ c.in_err-field.field-0.0 _ _ c.each.invariant.reads none
          c.in_err-field.ensures.tree);
      deep = rw p.1 tt;
      bound = rw p.1 tt;
      shorter = rw p.1 tt;
    }

pub fields-returns-in-Some : goal.fields-returns-in-Some
fields-returns-in-Some t c =
    record {
      tree = fields_end _ _ _ _ _ _ c.each.invariant.reads (sym c.in-Some.ensures.token);
      deep = c.each.invariant.deep;
      bound = c.each.invariant.bound;
      shorter = omega (arith, c.each.invariant.shorter);
    }

pub declrs-loop-inner-init : goal.declrs-loop-inner-init
declrs-loop-inner-init t c = record {
  reads = rw (c.in_ok-push.ensures.items, c.new-list.ensures.items) (declrs_begin _ _ _ _ _ c.in_ok-first.ensures.tree);
  deep = rw (c.in_ok-push.ensures.items, c.new-list.ensures.items) (omega (arith, c.in_ok-first.ensures.deep));
  bound = c.in_ok-first.ensures.bound;
  shorter = c.in_ok-first.ensures.shorter;
}

pub declrs-loop-inner-preserved : goal.declrs-loop-inner-preserved
declrs-loop-inner-preserved t c = record {
  reads = rw (c.in_ok-push-2.ensures.items, map_push declr_view c.loop-inner.list.items c.in_ok-declr.declr)
      (declrs_turn _ _ _ _ _ _ _ _ c.loop-inner.invariant.reads (sym c.in-Some.ensures.token) c.in_ok-declr.ensures.tree
      (placed_shorter _ _ (omega (arith, c.in_ok-declr.ensures.shorter, c.in-Some.ensures.shorter))));
  deep = rw (c.in_ok-push-2.ensures.items, map_push declr_view c.loop-inner.list.items c.in_ok-declr.declr)
      (omega (
        arith,
        declrs_deepest (map declr_view c.loop-inner.list.items) (declr_view c.in_ok-declr.declr),
        c.loop-inner.invariant.deep,
        c.in_ok-declr.ensures.deep,
      ));
  bound = omega (arith, c.in_ok-declr.ensures.bound, c.loop-inner.invariant.bound);
  shorter = omega (arith, c.in_ok-declr.ensures.shorter, c.in-Some.ensures.shorter, c.loop-inner.invariant.shorter);
}

pub declrs-returns-in_err-declr : goal.declrs-returns-in_err-declr
declrs-returns-in_err-declr t c =
    let p = err_from_is_err_and c.from_residual-in_err-declr.result c.from_residual-in_err-declr.ensures.1 in
    record {
      tree = rw (p.1, p.2) (declrs_fail _ _ _ c.in_err-declr.field-0.0 _ _ _ c.loop-inner.invariant.reads
          (sym c.in-Some.ensures.token) c.in_err-declr.ensures.tree);
      deep = rw p.1 tt;
      bound = rw p.1 tt;
      shorter = rw p.1 tt;
    }

pub declrs-returns : goal.declrs-returns
declrs-returns t c =
    let no_comma : eat puncts.Comma (placed c.loop-inner.rest.now) ≡ None = search rules in
    record {
      tree = declrs_end _ _ _ _ _ c.loop-inner.invariant.reads no_comma;
      deep = c.loop-inner.invariant.deep;
      bound = c.loop-inner.invariant.bound;
      shorter = c.loop-inner.invariant.shorter;
    }

pub function_rest-returns-in_default : goal.function_rest-returns-in_default
function_rest-returns-in_default t c =
    let none : function_front c.args.self.now.types.now (placed c.args.tokens.now) ≡ None = search rules in
    record { tree = function_none _ _ _ _ none; deep = tt; bound = tt; shorter = tt }

pub function_rest-returns-in_err-params : goal.function_rest-returns-in_err-params
function_rest-returns-in_err-params t c =
    let p = err_from_is_err_and c.from_residual.result c.from_residual.ensures.1 in
    record {
      tree = rw (p.1, p.2) (function_fails _ _ c.in_err-params.field-0.0 _ _ _ (sym c.in-Some.ensures.token)
          c.in_err-params.ensures.tree);
      deep = rw p.1 tt;
      bound = rw p.1 tt;
      shorter = rw p.1 tt;
    }

pub function_rest-returns : goal.function_rest-returns
function_rest-returns t c =
    record {
      tree = rw c.function.ensures (function_ends _ _ _ _ _ _ _ (sym c.in-Some.ensures.token)
          c.in_ok-params.ensures.tree);
      deep = rw c.function.ensures (omega (arith, c.in_ok-params.ensures.deep));
      bound = c.in_ok-params.ensures.bound;
      shorter = omega (arith, c.in_ok-params.ensures.shorter, c.in-Some.ensures.shorter);
    }

pub sizes-loop-inner-init : goal.sizes-loop-inner-init
sizes-loop-inner-init t c = record {
  reads = rw c.new-list.ensures.items (sizes_begin _ _ _);
  deep = rw c.new-list.ensures.items refl;
  bound = omega arith;
  shorter = omega arith;
}

pub sizes-loop-inner-preserved : goal.sizes-loop-inner-preserved
sizes-loop-inner-preserved t c = record {
  reads = rw (c.in_ok-push.ensures.items, map_push optional_view c.loop-inner.list.items c.in_ok-size.size)
      (sizes_turn _ _ _ _ _ _ _ _ c.loop-inner.invariant.reads (sym c.in-Some.ensures.token) c.in_ok-size.ensures.tree
      (placed_shorter _ _ (omega (arith, c.in_ok-size.ensures.shorter, c.in-Some.ensures.shorter))));
  deep = rw (c.in_ok-push.ensures.items, map_push optional_view c.loop-inner.list.items c.in_ok-size.size)
      (omega (
        arith,
        sizes_deepest (map optional_view c.loop-inner.list.items) (optional_view c.in_ok-size.size),
        c.loop-inner.invariant.deep,
        c.in_ok-size.ensures.deep,
      ));
  bound = omega (arith, c.in_ok-size.ensures.bound, c.loop-inner.invariant.bound);
  shorter = omega (arith, c.in_ok-size.ensures.shorter, c.in-Some.ensures.shorter, c.loop-inner.invariant.shorter);
}

pub sizes-returns-in_err-size : goal.sizes-returns-in_err-size
sizes-returns-in_err-size t c =
    let p = err_from_is_err_and c.from_residual.result c.from_residual.ensures.1 in
    record {
      tree = rw (p.1, p.2) (sizes_fail _ _ _ c.in_err-size.field-0.0 _ _ _ c.loop-inner.invariant.reads
          (sym c.in-Some.ensures.token) c.in_err-size.ensures.tree);
      deep = rw p.1 tt;
      bound = rw p.1 tt;
      shorter = rw p.1 tt;
    }

pub sizes-returns : goal.sizes-returns
sizes-returns t c =
    let none : eat puncts.LeftBracket (placed c.loop-inner.rest.now) ≡ None = search rules in
    record {
      tree = sizes_end _ _ _ _ _ c.loop-inner.invariant.reads none;
      deep = c.loop-inner.invariant.deep;
      bound = c.loop-inner.invariant.bound;
      shorter = omega (arith, c.loop-inner.invariant.shorter);
    }

pub some_params-each-init : goal.some_params-each-init
some_params-each-init t c = record {
  reads = rw (c.in_ok-push.ensures.items, c.new-list.ensures.items) (params_begin _ _ _ _ _ c.in_ok-first.ensures.tree);
  deep = rw (c.in_ok-push.ensures.items, c.new-list.ensures.items) (omega (arith, c.in_ok-first.ensures.deep));
  bound = c.in_ok-first.ensures.bound;
  shorter = c.in_ok-first.ensures.shorter;
}

pub some_params-each-preserved : goal.some_params-each-preserved
some_params-each-preserved t c =
    let none : dots_front (placed c.each.rest.now) ≡ None = search rules in
    record {
      reads = rw (c.in_ok-push-2.ensures.items, map_push param_decl_view c.each.list.items c.in_ok-param.param)
          (params_turn _ _ _ _ _ _ _ _ c.each.invariant.reads none (sym c.in-Some-eat.ensures.token)
          c.in_ok-param.ensures.tree
          (placed_shorter _ _ (omega (arith, c.in_ok-param.ensures.shorter, c.in-Some-eat.ensures.shorter))));
      deep = rw (c.in_ok-push-2.ensures.items, map_push param_decl_view c.each.list.items c.in_ok-param.param)
          (omega (
            arith,
            params_deepest (map param_decl_view c.each.list.items) (param_decl_view
                c.in_ok-param.param),
            c.each.invariant.deep,
            c.in_ok-param.ensures.deep,
          ));
      bound = omega (arith, c.in_ok-param.ensures.bound, c.each.invariant.bound);
      shorter = omega (arith, c.in_ok-param.ensures.shorter, c.in-Some-eat.ensures.shorter, c.each.invariant.shorter);
    }

pub some_params-returns-in_err-param : goal.some_params-returns-in_err-param
some_params-returns-in_err-param t c =
    let none : dots_front (placed c.each.rest.now) ≡ None = search rules in
    let p = err_from_is_err_and c.from_residual-in_err-param.result c.from_residual-in_err-param.ensures.1 in
    record {
      tree = rw (p.1, p.2) (params_fail _ _ _ c.in_err-param.field-0.0 _ _ _ c.each.invariant.reads none
          (sym c.in-Some-eat.ensures.token) c.in_err-param.ensures.tree);
      deep = rw p.1 tt;
      bound = rw p.1 tt;
      shorter = rw p.1 tt;
    }

pub some_params-returns-in-Some : goal.some_params-returns-in-Some
some_params-returns-in-Some t c =
    record {
      tree = rw (params_dots _ _ _ _ _ _ c.each.invariant.reads (sym c.in-Some.ensures.token))
          c.close_params.ensures.reads.tree;
      deep = IfOk-both c.close_params.result _ _ _ (λ x d s. rw s (d ∙ c.each.invariant.deep))
          c.close_params.ensures.reads.deep c.close_params.ensures.same;
      bound = IfOk-weaker c.close_params.result _ _ (λ x h. omega (arith, h, c.each.invariant.bound))
          c.close_params.ensures.reads.bound;
      shorter = IfOk-weaker c.close_params.result _ _ (λ x h. omega (
        arith,
        h,
        c.in-Some.ensures.shorter,
        c.each.invariant.shorter,
      )) c.close_params.ensures.reads.shorter;
    }

pub some_params-returns-in_default-eat : goal.some_params-returns-in_default-eat
some_params-returns-in_default-eat t c =
    let none : dots_front (placed c.each.rest.now) ≡ None = search rules in
    let no_comma : eat puncts.Comma (placed c.each.rest.now) ≡ None = search rules in
    record {
      tree = rw (params_end _ _ _ _ _ c.each.invariant.reads none no_comma)
          c.close_params-in_default-eat.ensures.reads.tree;
      deep = IfOk-both c.close_params-in_default-eat.result _ _ _ (λ x d s. rw s (d ∙ c.each.invariant.deep))
          c.close_params-in_default-eat.ensures.reads.deep c.close_params-in_default-eat.ensures.same;
      bound = IfOk-weaker c.close_params-in_default-eat.result _ _ (λ x h. omega (arith, h, c.each.invariant.bound))
          c.close_params-in_default-eat.ensures.reads.bound;
      shorter = IfOk-weaker c.close_params-in_default-eat.result _ _ (λ x h. omega
          (arith, h, c.each.invariant.shorter)) c.close_params-in_default-eat.ensures.reads.shorter;
    }
