use Rattle.std.proofs.Common.{◌≡◌, ◌<◌, pos, length, get_or, ◌∙◌, arith, rules}
use Rattle.pungi_symbol.specs.declared.states.mark.Mark.TheVariants.{Pointer}
use Rattle.pungi_symbol.specs.runs.Paths.{object_number, own_value}
use Rattle.pungi_symbol.proofs.runs.Canon.{own_step}
use Rattle.pungi_symbol.proofs.runs.witness.own_table.Goals as goal

pub loop-i-preserved : goal.loop-i-preserved
loop-i-preserved c =
    let ms = c.as_slice-marks.result.now in
    let cs = c.as_slice-classes.result.now in
    let made = c.as_slice-made.result.now in
    let ns = c.args.numbers.now in
    let i = c.loop-i.i in
    let is : c.value_for.result ≡ own_value (get_or ms i Pointer) (object_number (length ms) made (get_or cs i 0))
    (get_or ns i (pos 0)) = search rules in
    let marks : i < length ms = omega arith in
    let classes : i < length cs = omega arith in
    let numbers : i < length ns = omega arith in
    rw (c.in_ok-push.ensures.items, is) (own_step (object_number (length ms) made) ms cs ns c.loop-i.table.items i
    Pointer 0 (pos 0) marks classes numbers
    ∙ c.loop-i.invariant)
