use Rattle.std.proofs.Common.{sym, ◌∙◌}
use Rattle.pungi_lex.proofs.FrameLemmas.{stays}
use Rattle.pungi_lex.proofs.frames.expand_token.Goals as goal

pub returns-then-not-is_word-clause-replaced : goal.returns-then-not-is_word-clause-replaced
returns-then-not-is_word-clause-replaced c =
    stays c.args.table.now.items c.args.used c.args.token.now c.args.out.now.items c.push.new.self.items
    (sym c.is_word.ensures ∙ c.if-not-is_word.true) c.in_ok-push.ensures.items
