use Rattle.pungi_inline.proofs.FormedLaw.{formed_inlined}
use Rattle.pungi_inline.proofs.laws.inlined_is_well_formed.Goals as goal

pub returns : goal.returns
returns c = formed_inlined c.args.codes.now c.args.f c.args.code.now
