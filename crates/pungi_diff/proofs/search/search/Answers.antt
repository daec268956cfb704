use Rattle.std.proofs.Common.{◌∙◌, arith, slice_index}
use Rattle.std.proofs.lemmas.Int.{ints}
use Rattle.pungi_diff.specs.Search.{IsLeastIn, IsLeastOpen, NoneIn}
use Rattle.pungi_diff.proofs.FringeLemmas.{none_open, least_open}
use Rattle.pungi_diff.proofs.SearchLemmas.{ends_well, settled}
use Rattle.pungi_diff.proofs.search.search.Goals as goal

pub returns-in_default-clause-ends : goal.returns-in_default-clause-ends
returns-in_default-clause-ends c =
    let none : NoneIn c.loop-gap.gap c.loop-gap.rank c.loop-gap.fringe.items = rw c.as_slice.ensures.value at
    c.in_default.ensures in
    ends_well c.args.held.now.list c.args.value.now c.loop-gap.rank c.loop-gap.gap c.loop-gap.via c.args.new.now
    c.loop-gap.turn c.loop-gap.invariant.searching
    (none_open c.loop-gap.gap c.loop-gap.rank c.loop-gap.fringe.items c.loop-gap.invariant.fringe none)
    c.requires.solved c.requires.range c.requires.new_in.0 c.requires.new_in.1
    (let s = c.loop-gap.invariant.searching.small.gaps c.args.new.now.y c.requires.new_in.1 in omega (arith, ints, s))

pub loop-gap-preserved : goal.loop-gap-preserved
loop-gap-preserved c =
    let least : IsLeastIn c.loop-gap.gap c.loop-gap.rank c.loop-gap.fringe.items c.in-Some.place = rw
    c.as_slice.ensures.value at c.in-Some.ensures in
    let open_one : IsLeastOpen c.loop-gap.gap c.loop-gap.rank (slice_index c.loop-gap.fringe.items c.in-Some.place)
    = least_open c.loop-gap.gap c.loop-gap.rank c.loop-gap.fringe.items c.loop-gap.invariant.fringe
    c.in-Some.place least in
    record {
      searching = rw c.settle.ensures.rank (settled c.args.held.now.list c.args.value.now c.loop-gap.rank
          c.loop-gap.gap c.loop-gap.via c.args.new.now c.loop-gap.turn
          (slice_index c.loop-gap.fringe.items c.in-Some.place) c.settle.new.gap c.settle.new.via
          c.loop-gap.invariant.searching open_one c.requires.solved c.requires.range c.requires.new_in.0
          (rw c.settle.ensures.rank at c.settle.ensures.relaxes) c.settle.ensures.small (omega arith) (omega arith));
      fringe = c.settle.ensures.fringe;
      room = c.settle.ensures.room ∙ c.loop-gap.invariant.room;
    }
