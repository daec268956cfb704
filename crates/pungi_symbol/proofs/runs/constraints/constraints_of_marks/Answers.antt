use Rattle.std.proofs.Common.{◌<◌, length, ◌∙◌, arith}
use Rattle.pungi_symbol.specs.declared.states.mark.Mark.TheVariants.{Pointer}
use Rattle.pungi_symbol.proofs.runs.Models.{mark_step}
use Rattle.pungi_symbol.proofs.runs.constraints.constraints_of_marks.Goals as goal

pub loop-t-preserved : goal.loop-t-preserved
loop-t-preserved c =
    let ms = c.args.marks.now in
    let so_far = c.loop-t.constraints.items in
    let lt : c.loop-t.t < length ms = omega arith in (
      rw c.in_ok-add_mark.ensures.is (mark_step ms so_far c.loop-t.t Pointer lt ∙ c.loop-t.invariant.0),
      c.in_ok-add_mark.ensures.within c.loop-t.invariant.1,
    )
