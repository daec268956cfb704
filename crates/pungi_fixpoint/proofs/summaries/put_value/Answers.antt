use Rattle.pungi_fixpoint.proofs.Puts.{value_put}
use Rattle.pungi_fixpoint.proofs.summaries.put_value.Goals as goal

pub returns-clause-ok : goal.returns-clause-ok
returns-clause-ok g c =
    value_put c.args.exits.now c.fill.new.exits c.set.new.self c.args.class c.args.exit c.in_ok-fill.ensures.room
    c.in_ok-fill.ensures.same c.set.ensures
