use Rattle.std.proofs.Common.{ℤ, List, subst, arith}
use Rattle.pungi_affine.specs.Parts.{IsPart}
use Rattle.pungi_affine.proofs.PartLemmas.{pivot_part}
use Rattle.pungi_affine.proofs.part.part_of.Goals as goal

pub returns : goal.returns
returns c =
    pivot_part c.args.vector.now c.part_at.result.items c.first_entry-q.result (omega arith)
    c.first_entry-q.ensures.before
    (subst (λ (xs : List ℤ). IsPart xs c.first_entry-q.result c.part_at.result.items) c.in_ok-entries.ensures.items
    c.part_at.ensures)
