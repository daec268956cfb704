use Rattle.std.proofs.Common.{◌∙◌, List, ℤ, length, sym, subst, drop}
use Rattle.pungi_affine.specs.Meets.{IsTurned}
use Rattle.pungi_affine.proofs.PartLemmas.{written}
use Rattle.pungi_affine.proofs.meet.turned_sums.Goals as goal

pub returns : goal.returns
returns c =
    let a = c.as_mut_slice.ensures.value in
    let p : IsTurned c.args.sums.items c.args.p c.turn.new.sums = subst (λ (xs : List ℤ). IsTurned xs c.args.p
    c.turn.new.sums) a c.turn.ensures in
    rw (written c.turn.new.sums (drop (length c.turn.new.sums) c.args.sums.items) c.args.sums.len
    (p.count ∙ sym c.args.sums.ok.0)) p
