use Rattle.std.proofs.Common.{sym, ◌∙◌, ap}
use Rattle.pungi_lex.specs.Bytes.{begins_with}
use Rattle.std.specs.Prelude.{codes}
use Rattle.pungi_lex.proofs.CommentLemmas.{close_step}
use Rattle.pungi_lex.proofs.comment.close_count.Goals as goal

pub loop-i-preserved : goal.loop-i-preserved
loop-i-preserved c =
    close_step c.loop-i.i c.args.text.now c.loop-i.invariant c.loop-i-test.true
    (ap (begins_with (codes "*/")) (sym c.split_at.ensures.back) ∙ sym c.is_close.ensures.close
    ∙ c.if-is_close.false)
