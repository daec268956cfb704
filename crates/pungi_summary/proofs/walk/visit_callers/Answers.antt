use Rattle.std.proofs.Common.{◌∙◌, refl, arith}
use Rattle.std.specs.List.{slice_index_or}
use Rattle.pungi_summary.specs.declared.call_site.CallSite.{CallSite}
use Rattle.pungi_summary.proofs.Lists.{read_default}
use Rattle.pungi_summary.proofs.Visits.{visited_none, visited_more, visited_all}
use Rattle.pungi_summary.proofs.walk.visit_callers.Goals as goal

pub loop-site-init : goal.loop-site-init
loop-site-init c = record {
  visited = visited_none c.args.sites.now c.args.origin c.args.ways.now.items c.args.pending.now.list;
  pending = c.requires.pending;
  limit = refl;
}

pub visit-requires-clause-caller : goal.visit-requires-clause-caller
visit-requires-clause-caller c =
    let sites = c.args.sites.now in
    let i = c.loop-site.site-index in
    let d : CallSite = record { caller = 0; place = 0 } in
    let s = slice_index_or sites i d in
    let h = c.requires.callers s (i, c.loop-site-test.true, read_default sites i s d c.loop-site-test.true) in
    let n = c.loop-site.invariant.visited.count in
    omega (arith, h, n)

pub loop-site-preserved : goal.loop-site-preserved
loop-site-preserved c =
    let sites = c.args.sites.now in
    let i = c.loop-site.site-index in
    let d : CallSite = record { caller = 0; place = 0 } in
    let s = slice_index_or sites i d in
    record {
      visited = visited_more sites i c.args.origin s c.args.ways.now.items c.loop-site.ways.items
          c.visit.new.ways.items c.args.pending.now.list c.loop-site.pending.list c.visit.new.pending.list
          c.loop-site-test.true (read_default sites i d s c.loop-site-test.true) c.loop-site.invariant.visited
          c.visit.ensures.visited;
      pending = c.visit.ensures.pending;
      limit = c.visit.ensures.limit ∙ c.loop-site.invariant.limit;
    }

pub returns-clause-visited : goal.returns-clause-visited
returns-clause-visited c =
    visited_all c.args.sites.now c.loop-site.site-index c.args.origin c.args.ways.now.items c.loop-site.ways.items
    c.args.pending.now.list c.loop-site.pending.list (omega (arith, c.loop-site-test.false))
    c.loop-site.invariant.visited
