use Rattle.std.proofs.Common.{ℕ, ◌<◌, ◌≡◌, pos}
use Rattle.pungi_domain.proofs.FlatLemmas.{zero_meets}
use Rattle.pungi_domain.proofs.flat.FlatDomain.holds.Goals as goal

pub returns-in_default-clause-members : goal.returns-in_default-clause-members
returns-in_default-clause-members c _ v m =
    let z : (i : ℕ) → i < c.self.inside.width → v i ≡ pos 0 = rw c.in_default.is at (rw (← c.self.view_is) at m) in
    zero_meets c.self.inside.width c.args.equation.now.coefficients v (rw (← c.self.view_is) at c.requires.width) z
