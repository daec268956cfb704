use Rattle.std.proofs.Common.{pos, ◌<ℤ◌, arith, rules}
use Rattle.std.proofs.lemmas.Int.{ints}
use Rattle.pungi_domain.specs.Vectors.{at}
use Rattle.pungi_affine.proofs.Meets.{turned_same, turned_negated, wide_long}
use Rattle.pungi_affine.proofs.meet.turn.Goals as goal

pub negate-requires : goal.negate-requires
negate-requires c = λ i lt. wide_long (at c.args.sums.now i) (c.requires.wide i lt)

pub returns-then-sums-p-lt0 : goal.returns-then-sums-p-lt0
returns-then-sums-p-lt0 c =
    let w = c.requires.wide c.args.p c.requires.within in
    let t = c.if-sums-p-lt0.true in
    let lt : at c.args.sums.now c.args.p <ℤ pos 0 = grind (arith, ints, t, w) in
    turned_negated c.args.sums.now c.negate.new.entries c.args.p c.requires.within lt (search rules)
    c.negate.ensures c.requires.wide

pub returns-else-sums-p-lt0 : goal.returns-else-sums-p-lt0
returns-else-sums-p-lt0 c =
    let w = c.requires.wide c.args.p c.requires.within in
    let n = c.requires.entry in
    let t = c.if-sums-p-lt0.false in
    let gt : pos 0 <ℤ at c.args.sums.now c.args.p = grind (arith, ints, t, n, w) in
    turned_same c.args.sums.now c.args.p gt c.requires.wide
