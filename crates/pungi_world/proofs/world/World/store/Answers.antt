use Rattle.pungi_world.proofs.SlotLemmas.{follows_store}
use Rattle.pungi_world.proofs.world.World.store.Goals as goal

pub returns-clause-follows : goal.returns-clause-follows
returns-clause-follows c =
    follows_store c.args.self.now c.store_slot.new.world c.args.slot c.args.kind c.args.value c.args.choices.now
    c.in_ok-store_slot.field-0 c.in_ok-store_slot.ensures
