use Rattle.std.proofs.lemmas.Result.{on_ok_weaker, on_err_weaker}
use Rattle.pungi_fixpoint.proofs.Puts.{has_exit, same_exits}
use Rattle.pungi_fixpoint.proofs.summaries.Summaries.put.Goals as goal

pub returns-clause-ok : goal.returns-clause-ok
returns-clause-ok g c =
    let lt = rw (← c.self.view_is) at c.requires in
    rw (← c.self.view_is) (on_ok_weaker c.put_value.result (λ h. has_exit c.self.inside.exits.items c.args.f
    c.args.class c.args.exit c.index_mut.result.now c.put_value.new.exits lt c.index_mut.ensures.value h)
    c.put_value.ensures.ok)

pub returns-clause-err : goal.returns-clause-err
returns-clause-err g c =
    let lt = rw (← c.self.view_is) at c.requires in
    rw (← c.self.view_is) (on_err_weaker c.put_value.result (λ h. same_exits c.self.inside.exits.items c.args.f
    c.index_mut.result.now c.put_value.new.exits lt c.index_mut.ensures.value h) c.put_value.ensures.err)
