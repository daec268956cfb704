use Rattle.std.proofs.Common.{◌≡◌, drop, map}
use Rattle.pungi_shape.specs.Numbered.{number_tokens}
use Rattle.pungi_shape.specs.Shapes.{holding_of_slot, tokens_in}
use Rattle.pungi_shape.proofs.numbering.Numbering.put_slots.Given as goal

abbrev pub invariant-loop-r : goal.invariant-loop-r
invariant-loop-r l =
    number_tokens (tokens_in (map holding_of_slot (drop l.r-index l.slots))) l.self
    ≡ number_tokens (tokens_in (map holding_of_slot l.slots)) l.initial.self
