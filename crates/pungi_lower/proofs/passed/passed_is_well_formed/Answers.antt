use Rattle.pungi_resolved.specs.ActionView.{function_view}
use Rattle.pungi_lower.proofs.TypedLaws.{well_formed_if_passed}
use Rattle.pungi_lower.proofs.passed.passed_is_well_formed.Goals as goal

pub returns : goal.returns
returns c = well_formed_if_passed (function_view c.args.f.now)
