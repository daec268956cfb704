use Rattle.std.proofs.lemmas.Result.{on_ok_weaker}
use Rattle.pungi_summary.proofs.Sited.{site_put}
use Rattle.pungi_summary.proofs.sites.put_site.Goals as goal

pub returns : goal.returns
returns c =
    on_ok_weaker c.push.result (λ now. site_put c.args.site c.args.sites.now.items c.args.callee
    c.index_mut.result.now c.push.new.self c.requires c.index_mut.ensures.value now) c.push.ensures.ok
