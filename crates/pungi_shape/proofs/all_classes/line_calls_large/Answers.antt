use Rattle.std.proofs.Common.{◌≡◌, [], ◌∷◌, ap, arith, subst, sym}
use Rattle.std.specs.List.{IsAmong}
use Rattle.pungi_shape.specs.Named.{callee_of, callees_in}
use Rattle.pungi_shape.proofs.sound.Members.{first_among}
use Rattle.pungi_shape.proofs.all_classes.line_calls_large.Goals as goal

pub overflow_cast-g : goal.overflow_cast-g
overflow_cast-g c =
    let g = c.in-Call.g in
    let called : callees_in c.args.line.now ≡ g ∷ [] = ap callee_of c.in-Call.is in
    let lt = c.requires g (subst (λ gs. IsAmong gs g) (sym called) (first_among g [])) in
    omega (arith, lt)
