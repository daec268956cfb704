use Rattle.pungi_resolved.specs.ActionView.{function_view}
use Rattle.pungi_layout.proofs.boundaries.Heads.{keeps_nothing}
use Rattle.pungi_layout.proofs.alike.layout_keeps_nothing.Goals as goal

pub returns : goal.returns
returns c = keeps_nothing (function_view c.args.f.now) c.requires
