use Rattle.std.proofs.Common.{subst, sym}
use Rattle.pungi_base.specs.Names.{AreNames}
use Rattle.pungi_base.proofs.TextLemmas.{texts_of, distinct_none}
use Rattle.pungi_base.proofs.names.Names.new.Goals as goal

pub invariant_of-result : goal.invariant_of-result
invariant_of-result c = subst (λ keys. AreNames (texts_of keys)) (sym c.new.ensures.empty) distinct_none
