use Rattle.std.proofs.Common.{ℕ, ◌<◌, ◌≡◌, pos}
use Rattle.pungi_domain.proofs.FlatLemmas.{image_zero}
use Rattle.pungi_domain.proofs.flat.FlatDomain.map.Goals as goal

pub returns-in_default-clause-members : goal.returns-in_default-clause-members
returns-in_default-clause-members c v m =
    let z : (i : ℕ) → i < c.self.inside.width → v i ≡ pos 0 = rw c.in_default.is at (rw (← c.self.view_is) at m) in
    rw (c.zero.ensures, c.len-width.ensures) (image_zero c.self.inside.width c.args.matrix.now.rows v z
    (rw (← c.self.view_is) at c.requires.fits))
