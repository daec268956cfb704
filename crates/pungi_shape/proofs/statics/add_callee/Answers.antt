use Rattle.std.proofs.Common.{ℕ, List, [], subst, sym}
use Rattle.std.specs.List.{IsAmong}
use Rattle.pungi_shape.specs.Named.{callee_of}
use Rattle.pungi_shape.proofs.sound.Members.{first_among}
use Rattle.pungi_shape.proofs.statics.add_callee.Goals as goal

pub add-requires-clause-there : goal.add-requires-clause-there
add-requires-clause-there c =
    let none : List ℕ = [] in
    let g = c.in-Call.g in
    c.requires.there g (subst (λ i. IsAmong (callee_of i) g) (sym c.in-Call.is) (first_among g none))
