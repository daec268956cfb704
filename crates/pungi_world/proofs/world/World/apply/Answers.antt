use Rattle.pungi_world.proofs.CallLemmas.{follows_call}
use Rattle.pungi_world.proofs.world.World.apply.Goals as goal

pub returns-clause-follows : goal.returns-clause-follows
returns-clause-follows c =
    follows_call c.args.api.now.signature.now c.args.api.now.args.now c.args.choices.now c.args.self.now
    c.call.new.world c.in_ok-call.field-0 c.in_ok-call.ensures
