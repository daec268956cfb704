use Rattle.std.proofs.Common.{◌∙◌, sym, arith}
use Rattle.pungi_format.proofs.OutFormatLemmas.{unit_built, group_opened, group_closed, blank_passed}
use Rattle.pungi_format.proofs.out_format.build_units.Goals as goal
use Rattle.pungi_format.proofs.out_format.build_units.Goals.{in-Some+in_ok-push}
use Rattle.pungi_format.proofs.out_format.build_units.Goals.{in_default+in-Some-closing_of+in_ok-push-2}
use Rattle.pungi_format.proofs.out_format.build_units.Goals.{in_default+in_default-closing_of+then-is_closing+else-not-closes}
use Rattle.pungi_format.proofs.out_format.build_units.Goals.{in_default+in_default-closing_of+else-is_closing+else-not-is_blank}

pub loop-place-preserved : goal.loop-place-preserved
loop-place-preserved c =
    elim c.match-letter.branch [
      | in-Some+in_ok-push w ↦ rw (w.units-is, w.groups-is, w.in_ok-push.ensures.items)
          (unit_built c.args.text.now c.loop-place.units.items c.loop-place.groups.items c.loop-place.place _
          (omega arith) c.loop-place.invariant (sym c.letter.ensures ∙ w.in-Some.is))
      | in_default+in-Some-closing_of+in_ok-push-2 w ↦ rw (w.units-is, w.groups-is, w.in_ok-push-2.ensures.ok)
          (group_opened c.args.text.now c.loop-place.units.items c.loop-place.groups.items c.loop-place.place _
          (omega arith) c.loop-place.invariant
          (sym c.letter.ensures ∙ w.in_default.is) (sym w.closing_of.ensures ∙ w.in-Some-closing_of.is))
      | in_default+in_default-closing_of+then-is_closing+else-not-closes w ↦ rw (w.units-is, w.groups-is)
          (group_closed c.args.text.now c.loop-place.units.items c.loop-place.groups.items _ c.loop-place.place
          (omega arith) c.loop-place.invariant
          (sym c.letter.ensures ∙ w.in_default.is) (sym w.closing_of.ensures ∙ w.in_default-closing_of.is)
          (sym w.is_closing.ensures ∙ w.if-is_closing.true) w.if-not-closes.ensures)
      | in_default+in_default-closing_of+else-is_closing+else-not-is_blank w ↦ rw (w.units-is, w.groups-is)
          (blank_passed c.args.text.now c.loop-place.units.items c.loop-place.groups.items c.loop-place.place
          (omega arith) c.loop-place.invariant
          (sym c.letter.ensures ∙ w.in_default.is) (sym w.closing_of.ensures ∙ w.in_default-closing_of.is)
          (sym w.is_closing.ensures ∙ w.if-is_closing.false) (sym w.is_blank.ensures ∙ w.if-not-is_blank.false))
    ]
