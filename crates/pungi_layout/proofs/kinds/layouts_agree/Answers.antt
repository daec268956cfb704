use Rattle.pungi_resolved.specs.ActionView.{function_view}
use Rattle.pungi_layout.proofs.well_formed.Slots.{codes-agree}
use Rattle.pungi_layout.proofs.kinds.layouts_agree.Goals as goal

pub returns : goal.returns
returns c = codes-agree (function_view c.args.f.now) (function_view c.args.g.now)
