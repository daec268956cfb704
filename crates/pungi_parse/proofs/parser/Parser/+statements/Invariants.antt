use Rattle.std.proofs.Common.{◌+◌, ◌*◌, ◌≤◌, length, map}
use Rattle.pungi_parse.proofs.stmt.Blocks.{BlockTo}
use Rattle.pungi_tree.specs.Placed.{placed}
use Rattle.pungi_tree.specs.StmtView.{stmt_view}
use Rattle.pungi_parse.proofs.parser.Parser.+statements.Given as goal

abbrev pub decreases-stmt : goal.decreases-stmt
decreases-stmt l = 8 * l.self.now.most

abbrev pub decreases-element : goal.decreases-element
decreases-element l = 8 * l.self.now.most + 1

abbrev pub decreases-block : goal.decreases-block
decreases-block l = 8 * l.self.now.most + 2

abbrev pub decreases-branch : goal.decreases-branch
decreases-branch l = 8 * l.self.now.most + 1

abbrev pub decreases-go_on : goal.decreases-go_on
decreases-go_on l = 8 * l.self.now.most + 3

abbrev pub invariant-block-each : goal.invariant-block-each
invariant-block-each l = record {
  to : BlockTo l.self.types.now l.self.nest l.self.most (placed l.fn.tokens) l.pos (map stmt_view l.list.items)
      (placed l.rest);
  shorter : length l.rest ≤ length l.fn.tokens;
}

abbrev pub decreases-block-each : goal.decreases-block-each
decreases-block-each l = length l.rest
