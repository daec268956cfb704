use Rattle.pungi_world.proofs.SlotLemmas.{follows_load}
use Rattle.pungi_world.proofs.world.World.load.Goals as goal

pub returns-clause-follows : goal.returns-clause-follows
returns-clause-follows c =
    follows_load c.args.self.now c.load_slot.new.world c.args.slot c.args.kind c.args.choices.now
    c.in_ok-load_slot.field-0 c.in_ok-load_slot.ensures
