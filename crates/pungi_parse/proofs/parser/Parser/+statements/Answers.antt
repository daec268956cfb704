use Rattle.std.proofs.Common.{◌≡◌, ◌<◌, ◌++◌, ◌∷◌, [], true, false, length, map, None, sym, arith, rules}
use Rattle.std.proofs.lemmas.List.{map_push}
use Rattle.std.proofs.lemmas.Result.{err_from_is_err_and, IfOk-weaker}
use Rattle.pungi_base.specs.declared.punct.Punct.TheVariants as puncts
use Rattle.pungi_parse.specs.stmt.Begun.{begun_view}
use Rattle.pungi_parse.specs.tokens.OneToken.{eat}
use Rattle.pungi_parse.specs.types.TypeReader.{begins_decl}
use Rattle.pungi_parse.proofs.stmt.Blocks.{stmt_none, element_none, element_decl, element_stmt, block_begin, block_turn}
use Rattle.pungi_parse.proofs.stmt.Blocks.{block_fails, block_end}
use Rattle.pungi_parse.proofs.stmt.StmtSteps.{stmt_fails, stmt_goes}
use Rattle.pungi_parse.proofs.stmt.Vars.{placed_length}
use Rattle.pungi_tree.specs.Placed.{placed}
use Rattle.pungi_tree.specs.StmtView.{stmt_view}
use Rattle.pungi_parse.proofs.parser.Parser.+statements.Goals as goal

pub stmt-returns-then-self-eq0 : goal.stmt-returns-then-self-eq0
stmt-returns-then-self-eq0 t c =
    let s = c.args.self.now in
    record {
      tree = stmt_none s.types.now s.nest s.most (placed c.args.tokens.now) c.if-self-eq0.true;
      shorter = tt;
    }

pub stmt-returns-in_err-begun : goal.stmt-returns-in_err-begun
stmt-returns-in_err-begun t c =
    let s = c.args.self.now in
    let p = err_from_is_err_and c.from_residual.result c.from_residual.ensures.1 in
    record {
      tree = rw (p.1, p.2) (stmt_fails s.types.now s.nest s.most (placed c.args.tokens.now) (omega arith)
          c.in_err-begun.field-0.0 c.in_err-begun.ensures.tree);
      shorter = rw p.1 tt;
    }

pub stmt-returns : goal.stmt-returns
stmt-returns t c =
    let s = c.args.self.now in
    record {
      tree = rw (← stmt_goes s.types.now s.nest s.most (placed c.args.tokens.now) (omega arith)
          (begun_view c.in_ok-begun.begun) (placed c.in_ok-begun.rest.now) c.in_ok-begun.ensures.tree)
          c.go_on.ensures.tree;
      shorter = IfOk-weaker c.go_on.result _ _ (λ x h. omega (arith, h, c.in_ok-begun.ensures.shorter))
          c.go_on.ensures.shorter;
    }

pub element-returns-then-self-eq0 : goal.element-returns-then-self-eq0
element-returns-then-self-eq0 t c =
    let s = c.args.self.now in
    record {
      tree = element_none s.types.now s.nest s.most (placed c.args.tokens.now) c.if-self-eq0.true;
      shorter = tt;
    }

pub element-returns-then-not-begins_decl : goal.element-returns-then-not-begins_decl
element-returns-then-not-begins_decl t c =
    let s = c.args.self.now in
    let none : begins_decl s.types.now (placed c.args.tokens.now) ≡ false = search rules in
    record {
      tree = rw (← element_stmt s.types.now s.nest s.most (placed c.args.tokens.now) (omega arith) none)
          c.stmt.ensures.tree;
      shorter = c.stmt.ensures.shorter;
    }

pub element-returns : goal.element-returns
element-returns t c =
    let s = c.args.self.now in
    let one : begins_decl s.types.now (placed c.args.tokens.now) ≡ true = search rules in
    record {
      tree = rw (← element_decl s.types.now s.nest s.most (placed c.args.tokens.now) (omega arith) one)
          c.declare.ensures.tree;
      shorter = c.declare.ensures.shorter;
    }

pub block-each-init : goal.block-each-init
block-each-init t c =
    let s = c.args.self.now in
    record {
      to = rw c.new-list.ensures.items (block_begin s.types.now s.nest s.most (placed c.args.tokens.now) c.args.pos);
      shorter = omega arith;
    }

pub block-returns-in_err-more : goal.block-returns-in_err-more
block-returns-in_err-more t c =
    let s = c.args.self.now in
    let p = err_from_is_err_and c.from_residual-in_err-more.result c.from_residual-in_err-more.ensures.1 in
    let none : eat puncts.RightBrace (placed c.each.rest.now) ≡ None = search rules in
    record {
      tree = rw (p.1, p.2) (block_fails s.types.now s.nest s.most (placed c.args.tokens.now) c.args.pos
          (map stmt_view c.each.list.items) (placed c.each.rest.now) c.in_err-more.field-0.0 c.each.invariant.to none
          c.in_err-more.ensures.tree);
      shorter = rw p.1 tt;
    }

pub block-each-preserved : goal.block-each-preserved
block-each-preserved t c =
    let s = c.args.self.now in
    let none : eat puncts.RightBrace (placed c.each.rest.now) ≡ None = search rules in
    let items : map stmt_view c.push.new.list.items ≡ map stmt_view c.each.list.items
    ++ stmt_view c.in_ok-more.more.value ∷ [] = rw c.in_ok-push.ensures (map_push stmt_view c.each.list.items
    c.in_ok-more.more.value) in
    let shorter : length c.in_ok-more.behind.now < length c.each.rest.now = c.in_ok-more.ensures.shorter in
    record {
      to = rw items (block_turn s.types.now s.nest s.most (placed c.args.tokens.now) c.args.pos
          (map stmt_view c.each.list.items) (placed c.each.rest.now)
          (stmt_view c.in_ok-more.more.value) (placed c.in_ok-more.behind.now) c.each.invariant.to none
          c.in_ok-more.ensures.tree
          (omega (arith, placed_length c.in_ok-more.behind.now, placed_length c.each.rest.now)));
      shorter = omega (arith, c.each.invariant.shorter);
    }

pub block-returns-in-Some : goal.block-returns-in-Some
block-returns-in-Some t c =
    let s = c.args.self.now in
    record {
      tree = rw c.in_ok-block.ensures (block_end s.types.now s.nest s.most (placed c.args.tokens.now) c.args.pos
          (map stmt_view c.each.list.items) (placed c.each.rest.now) c.in-Some.close (placed c.in-Some.behind.now)
          c.each.invariant.to (sym c.in-Some.ensures.token));
      shorter = omega (arith, c.in-Some.ensures.shorter, c.each.invariant.shorter);
    }
