use Rattle.std.proofs.Common.{◌≡◌, ◌-◌, map, ap, ◌∙◌, arith}
use Rattle.std.specs.List.{range_with_len}
use Rattle.pungi_symbol.specs.declared.states.term.Term.TheVariants.{Token}
use Rattle.pungi_symbol.proofs.runs.begin.tokens.Goals as goal

pub returns : goal.returns
returns c =
    let e : c.loop-t.t - c.args.from ≡ c.args.end - c.args.from = omega arith in
    c.loop-t.invariant.so_far ∙ ap (λ n. map Token (range_with_len c.args.from n)) e
