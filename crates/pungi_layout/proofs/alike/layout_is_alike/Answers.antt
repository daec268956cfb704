use Rattle.pungi_resolved.specs.ActionView.{function_view}
use Rattle.pungi_layout.proofs.whole_runs.Behaves.{laid_out}
use Rattle.pungi_layout.proofs.alike.layout_is_alike.Goals as goal

pub returns : goal.returns
returns c = laid_out (function_view c.args.f.now)
