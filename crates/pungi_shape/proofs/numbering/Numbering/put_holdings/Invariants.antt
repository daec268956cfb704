use Rattle.std.proofs.Common.{◌≡◌, drop}
use Rattle.pungi_shape.specs.Numbered.{number_tokens}
use Rattle.pungi_shape.specs.Shapes.{tokens_in}
use Rattle.pungi_shape.proofs.numbering.Numbering.put_holdings.Given as goal

abbrev pub invariant-loop-h : goal.invariant-loop-h
invariant-loop-h l =
    number_tokens (tokens_in (drop l.h-index l.holdings)) l.self ≡ number_tokens (tokens_in l.holdings) l.initial.self
