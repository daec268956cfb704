use Rattle.std.proofs.Common.{◌<◌, pos, length, get_or, arith}
use Rattle.pungi_symbol.specs.declared.states.limit.Limit.{Limit}
use Rattle.pungi_symbol.specs.declared.states.node.Node.TheVariants as nodes
use Rattle.pungi_symbol.specs.runs.Fits.{IsMet}
use Rattle.pungi_symbol.proofs.runs.opposed.is_one_opposed.Goals as goal

pub returns : goal.returns
returns c e table met =
    let none : Limit = record { x = nodes.Zero; y = nodes.Zero; c = pos 0 } in
    let lt : c.args.i < length c.args.limits.now = omega arith in
    let one : IsMet table (get_or c.args.limits.now c.args.i none) = met c.args.i none lt in
    c.is_opposed.ensures e table met one
