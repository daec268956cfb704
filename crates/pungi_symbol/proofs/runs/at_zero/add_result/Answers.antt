use Rattle.std.proofs.Common.{rules, ◌≡◌, w64, to_z, of_z, subst}
use Rattle.pungi_symbol.specs.states.Terms.{computed_at}
use Rattle.pungi_symbol.specs.runs.AtZero.{Adds}
use Rattle.pungi_symbol.proofs.runs.AtZero.{adds_result}
use Rattle.pungi_symbol.proofs.runs.at_zero.add_result.Goals as goal

pub returns : goal.returns
returns c =
    let two = c.add_zero-2.new.limits.items in
    let three = c.add_number.new.limits.items in
    let same : to_z w64 (of_z w64 c.args.n) ≡ c.args.n = search rules in
    adds_result c.args.c c.args.j c.args.n c.args.limits.now.items c.add_zero.new.limits.items two three
    (c.in_ok-add_zero.ensures {u = tt}) (c.in_ok-add_zero-2.ensures {u = tt})
    (subst (λ m. Adds two three (λ table. computed_at table c.args.j ≡ m)) same (c.in_ok-add_number.ensures {u = tt}))
