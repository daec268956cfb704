use Rattle.std.proofs.Common.{◌≡◌, drop}
use Rattle.pungi_lex.specs.Comment.{close_count}
use Rattle.pungi_lex.specs.Lengths.{add_to}
use Rattle.pungi_lex.proofs.comment.close_count.Given as goal

abbrev pub invariant-loop-i : goal.invariant-loop-i
invariant-loop-i l = close_count l.text ≡ add_to l.i (close_count (drop l.i l.text))
