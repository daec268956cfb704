use Rattle.std.proofs.Common.{◌≡◌, ◌<◌, length, get_or, ◌∙◌, arith, rules}
use Rattle.pungi_base.specs.declared.value.Value.TheVariants as value
use Rattle.pungi_symbol.specs.declared.states.mark.Mark.TheVariants.{Pointer}
use Rattle.pungi_symbol.specs.runs.Paths.{choice_of}
use Rattle.pungi_symbol.proofs.runs.Canon.{choices_step}
use Rattle.pungi_symbol.proofs.runs.witness.choices_for.Goals as goal

pub loop-i-preserved : goal.loop-i-preserved
loop-i-preserved c =
    let ms = c.args.marks.now in
    let vs = c.args.values.now in
    let i = c.loop-i.i in
    let is : c.in_ok-choice_for.field-0 ≡ choice_of (get_or ms i Pointer) (get_or vs i value.Null) = search rules in
    let marks : i < length ms = omega arith in
    let values : i < length vs = omega arith in
    rw (c.in_ok-push.ensures.items, is) (choices_step ms vs c.loop-i.choices.items i Pointer value.Null marks values
    ∙ c.loop-i.invariant)
