use Rattle.std.proofs.Common.{◌≡◌, ◌<◌, ◌++◌, ◌∷◌, [], length, map, Some, None, sym, arith, rules}
use Rattle.std.proofs.lemmas.List.{map_push}
use Rattle.std.proofs.lemmas.Result.{err_from_is_err_and}
use Rattle.pungi_base.specs.declared.punct.Punct.TheVariants as puncts
use Rattle.pungi_parse.specs.tokens.OneToken.{eat}
use Rattle.pungi_parse.proofs.stmt.Vars.{vars_begin, vars_first_fails, vars_turn, vars_fail, vars_finish, vars_open}
use Rattle.pungi_parse.proofs.stmt.Vars.{placed_length}
use Rattle.pungi_tree.specs.Placed.{placed}
use Rattle.pungi_tree.specs.StmtView.{var_decl_view}
use Rattle.pungi_parse.proofs.parser.Parser.vars.Goals as goal

pub returns-in_err-first : goal.returns-in_err-first
returns-in_err-first c =
    let s = c.args.self.now in
    let p = err_from_is_err_and c.from_residual.result c.from_residual.ensures.1 in
    record {
      tree = rw (p.1, p.2) (vars_first_fails s.types.now s.nest s.most (placed c.args.tokens.now)
          c.in_err-first.field-0.0 c.in_err-first.ensures.tree);
      shorter = rw p.1 tt;
    }

pub each-init : goal.each-init
each-init c =
    let s = c.args.self.now in
    let items : c.push.new.self.items ≡ c.in_ok-first.first ∷ [] = search rules in
    record {
      to = rw items (vars_begin s.types.now s.nest s.most (placed c.args.tokens.now)
          (var_decl_view c.in_ok-first.first) (placed c.in_ok-first.rest.now) c.in_ok-first.ensures.tree);
      shorter = c.in_ok-first.ensures.shorter;
    }

pub returns-in_err-more : goal.returns-in_err-more
returns-in_err-more c =
    let s = c.args.self.now in
    let p = err_from_is_err_and c.from_residual-in_err-more.result c.from_residual-in_err-more.ensures.1 in
    record {
      tree = rw (p.1, p.2) (vars_fail s.types.now s.nest s.most (placed c.args.tokens.now)
          (map var_decl_view c.each.list.items) (placed c.each.rest.now) c.in-Some.field-0-0
          (placed c.in-Some.after.now) c.in_err-more.field-0.0 c.each.invariant.to (sym c.in-Some.ensures.token)
          c.in_err-more.ensures.tree);
      shorter = rw p.1 tt;
    }

pub each-preserved : goal.each-preserved
each-preserved c =
    let s = c.args.self.now in
    let pushed : c.push-in-Some.new.self.items ≡ c.each.list.items ++ c.in_ok-more.more ∷ [] = search rules in
    let items : map var_decl_view c.push-in-Some.new.self.items
    ≡ map var_decl_view c.each.list.items ++ var_decl_view c.in_ok-more.more
    ∷ [] = rw pushed (map_push var_decl_view c.each.list.items c.in_ok-more.more) in
    let shorter : length c.in_ok-more.behind.now < length c.each.rest.now = omega
    (arith, c.in_ok-more.ensures.shorter, c.in-Some.ensures.shorter) in
    record {
      to = rw items (vars_turn s.types.now s.nest s.most (placed c.args.tokens.now)
          (map var_decl_view c.each.list.items) (placed c.each.rest.now)
          c.in-Some.field-0-0 (placed c.in-Some.after.now) (var_decl_view c.in_ok-more.more)
          (placed c.in_ok-more.behind.now) c.each.invariant.to
          (sym c.in-Some.ensures.token) c.in_ok-more.ensures.tree (omega (
            arith,
            placed_length
                c.in_ok-more.behind.now,
            placed_length c.each.rest.now,
          )));
      shorter = omega (arith, c.each.invariant.shorter);
    }

pub returns-in-None : goal.returns-in-None
returns-in-None c =
    let s = c.args.self.now in
    let none : eat puncts.Comma (placed c.each.rest.now) ≡ None = search rules in
    record {
      tree = vars_open s.types.now s.nest s.most (placed c.args.tokens.now) (map var_decl_view c.each.list.items)
          (placed c.each.rest.now) c.each.invariant.to none (sym c.in-None.ensures.token);
      shorter = tt;
    }

pub returns : goal.returns
returns c =
    let s = c.args.self.now in
    let none : eat puncts.Comma (placed c.each.rest.now) ≡ None = search rules in
    record {
      tree = vars_finish s.types.now s.nest s.most (placed c.args.tokens.now) (map var_decl_view c.each.list.items)
          (placed c.each.rest.now) c.in-Some-eat.field-0-0 (placed c.in-Some-eat.behind.now) c.each.invariant.to none
          (sym c.in-Some-eat.ensures.token);
      shorter = omega (arith, c.in-Some-eat.ensures.shorter, c.each.invariant.shorter);
    }
