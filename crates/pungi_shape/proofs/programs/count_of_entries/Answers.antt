use Rattle.std.proofs.Common.{◌∙◌, sym, arith}
use Rattle.std.specs.List.{count_by}
use Rattle.pungi_shape.specs.Programs.{is_entry}
use Rattle.pungi_shape.specs.Ranks.{places_in}
use Rattle.pungi_shape.proofs.RankLemmas.{count-end, count-no, count-yes, places-length}
use Rattle.pungi_shape.proofs.programs.count_of_entries.Goals as goal
use Rattle.pungi_shape.proofs.programs.count_of_entries.Goals.{then-is_entry, else-is_entry}

pub loop-k-preserved : goal.loop-k-preserved
loop-k-preserved c =
    let places = places_in c.args.numbers.now.found.now in
    let at = c.loop-k in
    let few = at.invariant.few in
    elim c.if-is_entry.branch [
      | then-is_entry w ↦
          let more = count-yes is_entry places at.k c.place_at.result.now c.place_at.ensures at.count
          (count_by is_entry places) at.invariant.all (sym c.is_entry.ensures ∙ w.if-is_entry.true) in
          let is = w.count-is in
          record { all = omega (arith, more, is); few = omega (arith, few, is) }
      | else-is_entry w ↦
          let more = count-no is_entry places at.k c.place_at.result.now c.place_at.ensures at.count
          (count_by is_entry places) at.invariant.all (sym c.is_entry.ensures ∙ w.if-is_entry.false) in
          let is = w.count-is in
          record { all = omega (arith, more, is); few = omega (arith, few, is) }
    ]

pub returns : goal.returns
returns c =
    let numbers = c.args.numbers.now in
    let places = places_in numbers.found.now in
    let at = c.loop-k in
    let long = places-length numbers.found.now numbers.places.now numbers.exits.now c.requires.numbers in
    let end = c.len-k-end.ensures in
    let past = c.loop-k-test.false in
    count-end is_entry places at.k at.count (count_by is_entry places) at.invariant.all (omega (arith, long, end, past))
