use Rattle.std.proofs.Common.{sym, ◌∙◌}
use Rattle.pungi_verdict.proofs.judge_code.judge_code.Goals as goal

pub judge_cut-requires-clause-named : goal.judge_cut-requires-clause-named
judge_cut-requires-clause-named c =
    c.requires.named c.in-Some.call.0 c.in-Some.call.1 (sym c.first_call.ensures.first ∙ c.in-Some.is)
