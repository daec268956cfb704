use Rattle.std.proofs.Common.{◌+◌, ◌<◌, length, set, get_or, ap, ◌∙◌, arith}
use Rattle.std.proofs.lemmas.List.Edits.{paste_more}
use Rattle.pungi_emit.proofs.planning.reserved_places.fill.Goals as goal

pub loop-i-preserved : goal.loop-i-preserved
loop-i-preserved c =
    let old = c.args.places.now in
    let known = c.args.known.now in
    let at = c.args.room in
    let i = c.loop-i.i in
    let within : at + i < length old = omega arith in
    let one : i < length known = omega arith in
    record {
      room = c.requires;
      places = c.set.ensures ∙ ap (λ p. set p (at + i) (get_or known i 0)) c.loop-i.invariant.places
          ∙ paste_more old at known i 0 within one;
    }
