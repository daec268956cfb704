use Rattle.std.proofs.Common.{◌≡◌, drop, map}
use Rattle.pungi_shape.specs.Numbered.{number_tokens}
use Rattle.pungi_shape.specs.Shapes.{holding_of_static, tokens_in}
use Rattle.pungi_shape.proofs.numbering.Numbering.put_statics.Given as goal

abbrev pub invariant-loop-k : goal.invariant-loop-k
invariant-loop-k l =
    number_tokens (tokens_in (map holding_of_static (drop l.k-index l.statics))) l.self
    ≡ number_tokens (tokens_in (map holding_of_static l.statics)) l.initial.self
