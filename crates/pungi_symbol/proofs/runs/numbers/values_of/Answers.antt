use Rattle.std.proofs.Common.{◌≡◌, ◌∙◌, subst, rules}
use Rattle.std.specs.Prelude.{reverse}
use Rattle.pungi_diff.specs.Bounds.{Solution}
use Rattle.pungi_diff.specs.Constraint.{at, Solves}
use Rattle.pungi_symbol.proofs.runs.Reversed.{solves_back}
use Rattle.pungi_symbol.proofs.runs.numbers.values_of.Goals as goal

pub returns : goal.returns
returns c =
    let ks = c.args.constraints.now in
    let b = c.hold_all.new.bounds in
    let values = c.in_ok-values.values.items in
    let found : Solution b values = search rules in
    let held : b.held ≡ reverse ks = search rules in
    let nodes : b.nodes ≡ c.args.nodes = search rules in
    record {
      all_nodes = found.all_nodes ∙ nodes;
      solves = solves_back (at values) ks (subst (Solves (at values)) held found.solves);
      zero = found.zero;
    }
