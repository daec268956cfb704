use Rattle.std.proofs.Common.{◌≡◌, drop, map}
use Rattle.pungi_resolved.specs.ActionView.{action_view}
use Rattle.pungi_meaning.specs.Jumps.{enter_among}
use Rattle.pungi_meaning.specs.Machine.{todos}
use Rattle.pungi_meaning.proofs.unwind.enter_block.Given as goal

abbrev pub invariant-loop-i : goal.invariant-loop-i
invariant-loop-i l = record {
  kept : todos l.tasks.items ≡ todos l.initial.tasks.items;
  rest :
      enter_among l.label (map action_view l.block) l.i (map action_view (drop l.i l.block))
      (todos l.initial.tasks.items)
      ≡ enter_among l.label (map action_view l.block) 0 (map action_view l.block) (todos l.initial.tasks.items);
}
