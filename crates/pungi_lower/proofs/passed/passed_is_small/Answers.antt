use Rattle.pungi_resolved.specs.ActionView.{function_view}
use Rattle.pungi_lower.proofs.TypedLaws.{small_if_passed}
use Rattle.pungi_lower.proofs.passed.passed_is_small.Goals as goal

pub returns : goal.returns
returns c = small_if_passed (function_view c.args.f.now)
