use Rattle.std.proofs.Common.{◌∙◌, List, ℤ, length, sym, subst, drop}
use Rattle.pungi_affine.specs.Parts.{IsPart}
use Rattle.pungi_affine.proofs.PartLemmas.{written}
use Rattle.pungi_affine.proofs.part.part_at.Goals as goal

pub returns : goal.returns
returns c =
    let a = c.as_mut_slice.ensures.value in
    let b = c.reduce.ensures in
    let p : IsPart c.args.entries.items c.args.q c.reduce.new.entries = subst
    (λ (xs : List ℤ). IsPart xs c.args.q c.reduce.new.entries) a b in
    rw (written c.reduce.new.entries (drop (length c.reduce.new.entries) c.args.entries.items) c.args.entries.len
    (p.lengths ∙ sym c.args.entries.ok.0)) p
