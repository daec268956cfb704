use Rattle.std.proofs.Common.{◌∙◌, sym, arith, ◌==◌, ◌≡◌, false, slice_index, append-nil, Some, None}
use Rattle.std.proofs.lemmas.Bool.Decides.{nat_tests}
use Rattle.pungi_format.specs.InFormat.{bar_byte}
use Rattle.pungi_format.proofs.InFormatLemmas.{begun, unit_read, bar_read}
use Rattle.pungi_format.proofs.in_format.read_units.Goals as goal
use Rattle.pungi_format.proofs.in_format.read_units.Goals.{then-byte-eq-BAR}
use Rattle.pungi_format.proofs.in_format.read_units.Goals.{else-byte-eq-BAR+in-Some-unit_at+in_ok-push}
use Rattle.pungi_format.proofs.in_format.read_units.Goals.{else-byte-eq-BAR+in_default-unit_at}

pub loop-place-init : goal.loop-place-init
loop-place-init c = rw (c.new-units.ensures, c.new.ensures.items) (begun c.args.text.now)

pub loop-place-preserved : goal.loop-place-preserved
loop-place-preserved c =
    let none = sym c.fault_at.ensures ∙ c.in_default.is in
    elim c.if-byte-eq-BAR.branch [
      | then-byte-eq-BAR w ↦ rw (w.units-is, w.required-is, w.len.ensures)
          (bar_read c.args.text.now c.loop-place.units c.loop-place.required c.loop-place.place (omega arith)
          c.loop-place.invariant none w.if-byte-eq-BAR.true)
      | else-byte-eq-BAR+in-Some-unit_at+in_ok-push w ↦
          let no_bar : (slice_index c.args.text.now c.loop-place.place == bar_byte)
          ≡ false = (let h = w.if-byte-eq-BAR.false in grind (arith, nat_tests)) in
          rw (w.units-is, w.required-is, w.in_ok-push.ensures.ok)
          (unit_read c.args.text.now c.loop-place.units c.loop-place.required c.loop-place.place
          (Some w.in-Some-unit_at.unit) (omega arith) c.loop-place.invariant none no_bar
          (sym w.in-Some-unit_at.is ∙ w.unit_at.ensures))
      | else-byte-eq-BAR+in_default-unit_at w ↦
          let no_bar : (slice_index c.args.text.now c.loop-place.place == bar_byte)
          ≡ false = (let h = w.if-byte-eq-BAR.false in grind (arith, nat_tests)) in
          rw (w.units-is, w.required-is)
          (rw append-nil at (unit_read c.args.text.now c.loop-place.units c.loop-place.required c.loop-place.place
          None (omega arith) c.loop-place.invariant none no_bar
          (sym w.in_default-unit_at.is ∙ w.unit_at.ensures)))
    ]
