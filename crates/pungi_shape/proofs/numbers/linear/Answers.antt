use Rattle.std.proofs.Common.{◌∙◌, sym}
use Rattle.pungi_shape.specs.Numbers.{constant_of}
use Rattle.pungi_shape.proofs.FormBounds.{sum-storable, difference-storable}
use Rattle.pungi_shape.proofs.NumberLemmas.{constant-opposite, sum-factor, difference-factor, left-storable}
use Rattle.pungi_shape.proofs.NumberLemmas.{right-storable}
use Rattle.pungi_shape.proofs.numbers.linear.Goals as goal

pub sum-requires-clause-storable : goal.sum-requires-clause-storable
sum-requires-clause-storable c =
    sum-storable c.args.scene.now c.args.a c.args.b c.requires.scene c.requires.fresh
    (sum-factor c.args.kind (constant_of c.args.a) (constant_of c.args.b)
    (constant-opposite c.args.a c.requires.left c.requires.left_factor)
    (constant-opposite c.args.b c.requires.right c.requires.right_factor) (rw c.in-Add.is at c.requires.inside))

pub difference-requires-clause-storable : goal.difference-requires-clause-storable
difference-requires-clause-storable c =
    difference-storable c.args.scene.now c.args.a c.args.b c.requires.scene c.requires.fresh
    (difference-factor c.args.kind (constant_of c.args.a) (constant_of c.args.b)
    (constant-opposite c.args.a c.requires.left c.requires.left_factor)
    (constant-opposite c.args.b c.requires.right c.requires.right_factor) (rw c.in-Sub.is at c.requires.inside))

pub multiple-requires-clause-storable : goal.multiple-requires-clause-storable
multiple-requires-clause-storable c =
    left-storable c.args.scene.now c.args.kind c.args.a c.args.b c.in-Some-default.m c.requires.fresh
    (sym c.small_constant.ensures ∙ c.in-Some-default.is-0) (rw c.in-Mul.is at c.requires.inside)

pub multiple-requires-in-None-Some-clause-storable : goal.multiple-requires-in-None-Some-clause-storable
multiple-requires-in-None-Some-clause-storable c =
    right-storable c.args.scene.now c.args.kind c.args.a c.args.b c.in-None-Some.n c.requires.fresh
    (sym c.small_constant-in-Mul.ensures ∙ c.in-None-Some.is-1) (rw c.in-Mul.is at c.requires.inside)
