use Rattle.std.proofs.Common.{◌++◌, map, refl}
use Rattle.pungi_shape.specs.Shapes.{holding_of_static}
use Rattle.pungi_shape.proofs.NumberedLemmas.{mark_all-append}
use Rattle.pungi_shape.proofs.kept.anchored.Goals as goal

pub returns : goal.returns
returns c =
    let s = c.args.shape.now in
    rw (
      mark_all-append s.entry (s.vars ++ map holding_of_static s.statics),
      mark_all-append s.vars (map holding_of_static s.statics),
      c.mark_statics.ensures,
      c.mark_all-2.ensures,
      c.mark_all.ensures,
      c.as_slice.ensures,
      c.as_slice-2.ensures,
      c.as_slice-3.ensures,
      c.new-marks.ensures,
      c.in_ok-marks.ensures.items_if_clones_equal (λ y same. same),
      ← c.len.ensures,
    ) refl
