use Rattle.std.proofs.Common.{◌≡◌, pos, ◌+ℤ◌, ◌<ℤ◌, true, rules}
use Rattle.pungi_symbol.specs.states.Terms.{is_same_node}
use Rattle.pungi_symbol.proofs.runs.TwoBounds.{no_numbers}
use Rattle.pungi_symbol.proofs.runs.opposed.are_opposed.Goals as goal

pub returns : goal.returns
returns c e =
    let a = c.args.a in
    let b = c.args.b in
    let x : is_same_node a.x b.y ≡ true = search rules in
    let y : is_same_node a.y b.x ≡ true = search rules in
    let below : (a.c +ℤ b.c) <ℤ pos 0 = search rules in
    no_numbers a b x y below
