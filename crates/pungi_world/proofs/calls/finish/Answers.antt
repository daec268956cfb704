use Rattle.std.proofs.Common.{◌+◌, ◌^◌, sym, subst}
use Rattle.pungi_world.specs.declared.world.World.{World}
use Rattle.pungi_world.specs.Counts.{AreWithin}
use Rattle.pungi_world.proofs.CallLemmas.{within_answered}
use Rattle.pungi_world.proofs.calls.finish.Goals as goal

pub take_over-requires-clause-within : goal.take_over-requires-clause-within
take_over-requires-clause-within c =
    let Near : World → Type 0 = λ w. AreWithin (2 ^ 61 + 1) w in
    subst Near (sym c.in_ok-with_answer.ensures) (within_answered c.args.signature.now.answer c.args.world.now
    c.args.value (2 ^ 61) c.requires.within)
