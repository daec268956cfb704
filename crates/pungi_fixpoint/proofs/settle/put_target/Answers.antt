use Rattle.std.proofs.Common.{◌≡◌, subst}
use Rattle.pungi_links.specs.Ring.{Stands}
use Rattle.pungi_fixpoint.proofs.Queue.{put}
use Rattle.pungi_fixpoint.proofs.settle.put_target.Goals as goal

pub returns-in-Place-clause-put : goal.returns-in-Place-clause-put
returns-in-Place-clause-put c k e =
    let s = put c.args.pending.now c.in-Place.k c.put.new.self c.put.result c.put.ensures.puts in
    let here : c.in-Place.k ≡ k = cc in
    subst (λ i. Stands i c.put.new.self.list) here s.there

pub returns-in-Place-clause-kept : goal.returns-in-Place-clause-kept
returns-in-Place-clause-kept c =
    let s = put c.args.pending.now c.in-Place.k c.put.new.self c.put.result c.put.ensures.puts in
    s.kept
