use Rattle.pungi_summary.proofs.Visits.{visited_old, visited_new, way_missing, way_there}
use Rattle.pungi_summary.proofs.walk.visit.Goals as goal

pub returns-then-is_none-clause-visited : goal.returns-then-is_none-clause-visited
returns-then-is_none-clause-visited c =
    visited_new c.args.site.caller c.args.site.place c.args.origin c.args.ways.now.items c.args.pending.now
    c.put.new.self c.put.result
    (way_missing c.args.ways.now.items c.args.site.caller c.index.result.now c.is_none.result c.requires.caller
    c.index.ensures c.is_none.ensures c.if-is_none.true) c.put.ensures.puts

pub returns-else-is_none-clause-visited : goal.returns-else-is_none-clause-visited
returns-else-is_none-clause-visited c =
    let w = way_there c.args.ways.now.items c.args.site.caller c.index.result.now c.is_none.result c.requires.caller
    c.index.ensures c.is_none.ensures c.if-is_none.false in
    visited_old c.args.site.caller c.args.site.place c.args.origin c.args.ways.now.items c.args.pending.now.list w.0 w.1
