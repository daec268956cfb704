use Rattle.std.proofs.Common.{◌<◌, length, map}
use Rattle.pungi_parse.proofs.stmt.Vars.{VarsTo}
use Rattle.pungi_tree.specs.Placed.{placed}
use Rattle.pungi_tree.specs.StmtView.{var_decl_view}
use Rattle.pungi_parse.proofs.parser.Parser.vars.Given as goal

abbrev pub invariant-each : goal.invariant-each
invariant-each l = record {
  to : VarsTo l.self.types.now l.self.nest l.self.most (placed l.fn.tokens) (map var_decl_view l.list.items)
      (placed l.rest);
  shorter : length l.rest < length l.fn.tokens;
}

abbrev pub decreases-each : goal.decreases-each
decreases-each l = length l.rest
