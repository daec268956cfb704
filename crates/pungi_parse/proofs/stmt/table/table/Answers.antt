use Rattle.std.proofs.Common.{◌≡◌, ◌++◌, ◌∷◌, [], Some, None, sym, arith, rules}
use Rattle.std.proofs.lemmas.Result.{err_from_is_err_and}
use Rattle.pungi_parse.specs.stmt.StmtReader.{table_in}
use Rattle.pungi_parse.specs.stmt.Table.{closing_here}
use Rattle.pungi_tree.specs.Balanced.{awaited_after}
use Rattle.pungi_tree.specs.Placed.{placed}
use Rattle.pungi_parse.proofs.stmt.Tables.{with_none, table_turn, table_fails, table_ends, table_open}
use Rattle.pungi_parse.proofs.stmt.table.table.Goals as goal

pub each-init : goal.each-init
each-init c = record {
  goes_on = rw (c.new-found.ensures.items, c.new-awaited.ensures) (with_none (table_in [] (placed c.args.tokens.now)));
  shorter = omega arith;
}

pub returns-in-Some-closing_here : goal.returns-in-Some-closing_here
returns-in-Some-closing_here c =
    record {
      tree = table_ends c.each.found.items c.each.awaited (placed c.each.rest.now) _
          c.in-Some-closing_here.field-0-0 (placed c.in-Some-closing_here.behind.now) c.each.invariant.goes_on
          (search rules);
      shorter = omega (arith, c.in-Some-closing_here.ensures.shorter, c.each.invariant.shorter);
    }

pub returns-in_err-read : goal.returns-in_err-read
returns-in_err-read c =
    let p = err_from_is_err_and c.from_residual.result c.from_residual.ensures.1 in
    let split : placed c.each.rest.now ≡ (c.in-Some.token.now.kind, c.in-Some.token.now.pos)
    ∷ placed c.in-Some.after.now = search rules in
    let none : closing_here c.each.awaited (placed c.each.rest.now) ≡ None = search rules in
    record {
      tree = rw (p.1, p.2) (table_fails c.each.found.items c.each.awaited (
        c.in-Some.token.now.kind,
        c.in-Some.token.now.pos,
      ) (placed c.in-Some.after.now) _ c.in_err-read.field-0.0
          (rw split at c.each.invariant.goes_on) (rw split at none) c.in_err-read.ensures);
      shorter = rw p.1 tt;
    }

pub each-preserved : goal.each-preserved
each-preserved c =
    let split : placed c.each.rest.now ≡ (c.in-Some.token.now.kind, c.in-Some.token.now.pos)
    ∷ placed c.in-Some.after.now = search rules in
    let none : closing_here c.each.awaited (placed c.each.rest.now) ≡ None = search rules in
    let items : c.push.new.self.items ≡ c.each.found.items ++ (c.in-Some.token.now.kind, c.in-Some.token.now.pos)
    ∷ [] = search rules in
    record {
      goes_on = rw items (table_turn c.each.found.items c.each.awaited c.read.new.self
          (c.in-Some.token.now.kind, c.in-Some.token.now.pos) (placed c.in-Some.after.now) _
          (rw split at c.each.invariant.goes_on) (rw split at none) c.in_ok-read.ensures);
      shorter = search rules;
    }

pub returns : goal.returns
returns c =
    record {
      tree = table_open c.each.found.items c.each.awaited c.each.rest.now _ c.each.invariant.goes_on
          c.in_default.ensures.cases;
      shorter = tt;
    }
