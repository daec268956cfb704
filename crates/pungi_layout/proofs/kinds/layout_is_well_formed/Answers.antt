use Rattle.pungi_resolved.specs.ActionView.{function_view}
use Rattle.pungi_layout.proofs.well_formed.FunctionCode.{well-formed}
use Rattle.pungi_layout.proofs.kinds.layout_is_well_formed.Goals as goal

pub returns : goal.returns
returns c = well-formed (function_view c.args.f.now)
