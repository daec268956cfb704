use Rattle.std.proofs.Common.{◌≡◌, ◌+◌, ◌^◌, drop}
use Rattle.pungi_world.specs.Counts.{AreWithin}
use Rattle.pungi_world.specs.Calls.{take_over}
use Rattle.pungi_world.proofs.calls.take_over.Given as goal

-- what is left to take over gives the whole, and each turn hands over at most one reference
abbrev pub invariant-loop-i : goal.invariant-loop-i
invariant-loop-i l = record {
  same : take_over l.world l.success (drop l.i l.takes) (drop l.i l.args)
      ≡ take_over l.initial.world l.success l.takes l.args;
  within : AreWithin (2 ^ 61 + 1 + l.i) l.world;
}
