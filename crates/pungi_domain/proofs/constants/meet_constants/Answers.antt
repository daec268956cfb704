use Rattle.std.proofs.Common.{◌≡◌, Some, length, slice_set, rules, refl}
use Rattle.pungi_domain.proofs.FlatLemmas.{told_meets, told_constants}
use Rattle.pungi_domain.proofs.constants.meet_constants.Goals as goal

pub returns-clause-constants : goal.returns-clause-constants
returns-clause-constants c =
    let t = rw c.as_slice.ensures at c.in-Some.ensures in
    let e : c.set.new.self ≡ slice_set c.args.constants.now c.in-Some.told.place (Some c.in-Some.told.constant)
    = search rules in
    rw e (told_constants c.args.constants.now c.args.coefficients.now c.in-Some.told.place c.in-Some.told.constant
    c.requires.constants t)

pub returns-clause-members : goal.returns-clause-members
returns-clause-members c v m z =
    let t = rw c.as_slice.ensures at c.in-Some.ensures in
    let e : c.set.new.self ≡ slice_set c.args.constants.now c.in-Some.told.place (Some c.in-Some.told.constant)
    = search rules in
    rw e (told_meets (length c.args.constants.now) c.args.constants.now c.args.coefficients.now c.in-Some.told.place
    c.in-Some.told.constant v refl c.requires.width t m z)
