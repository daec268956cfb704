use Rattle.pungi_resolved.specs.ActionView.{function_view}
use Rattle.pungi_lower.proofs.TypedLaws.{agree_if_passed}
use Rattle.pungi_lower.proofs.passed.passed_agree.Goals as goal

pub returns : goal.returns
returns c = agree_if_passed (function_view c.args.f.now) (function_view c.args.g.now)
