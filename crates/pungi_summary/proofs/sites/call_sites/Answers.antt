use Rattle.std.proofs.Common.{◌∙◌, ◌<◌, List, Option, [], None, length, arith, ap, subst, sym, All, ℕ}
use Rattle.std.proofs.lemmas.List.{length-replicate}
use Rattle.pungi_summary.specs.CallPlaces.{HasFirst}
use Rattle.pungi_summary.specs.Sites.{AreCalleesNoted}
use Rattle.pungi_summary.specs.declared.call_site.CallSite.{CallSite}
use Rattle.pungi_summary.proofs.Callees.{callees_within}
use Rattle.pungi_summary.proofs.Lists.{program_here, read_or}
use Rattle.pungi_summary.proofs.Noted.{callable_within, no_first}
use Rattle.pungi_summary.proofs.Sited.{sites_all, sites_more, sites_none}
use Rattle.pungi_summary.proofs.sites.call_sites.Goals as goal

pub loop-f-init : goal.loop-f-init
loop-f-init c =
    let ps = c.args.programs.now in
    record {
      table = ap length c.in_ok-firsts.ensures ∙ length-replicate (length ps) None;
      below = λ g s m. absurd (no_first (length ps) g s
          (subst (λ (x : List (Option CallSite)). HasFirst x g s) c.in_ok-firsts.ensures m));
      sites = rw c.in_ok-sites.ensures (sites_none ps c.args.callees.now);
    }

pub note_program-entry-requires-clause-within : goal.note_program-entry-requires-clause-within
note_program-entry-requires-clause-within c = λ p is.
    let here = program_here c.args.programs.now c.loop-f.f c.index-programs-f.result c.loop-f-test.true
    c.index-programs-f.is in
    callable_within c.args.programs.now c.args.callees.now c.loop-f.f (length c.loop-f.firsts.items) p
    c.requires.callable (here ∙ is) c.loop-f.invariant.table

pub note_callees-requires-clause-within : goal.note_callees-requires-clause-within
note_callees-requires-clause-within c =
    let count = c.requires.callable.count in
    let called = c.as_slice-called.ensures ∙ read_or c.args.callees.now c.loop-f.f c.index-callees-f.result []
    (omega (arith, c.loop-f-test.true, count)) c.index-callees-f.is in
    subst (λ (fs : List ℕ). All (λ g. g < length c.loop-f.sites.items) fs) (sym called)
    (callees_within c.args.programs.now c.args.callees.now c.loop-f.f (length c.loop-f.sites.items)
    c.requires.callable c.loop-f.invariant.sites.count)

pub loop-f-preserved : goal.loop-f-preserved
loop-f-preserved c =
    let f = c.loop-f.f in
    let here = program_here c.args.programs.now f c.index-programs-f.result c.loop-f-test.true
    c.index-programs-f.is in
    let count = c.requires.callable.count in
    let called = c.as_slice-called.ensures ∙ read_or c.args.callees.now f c.index-callees-f.result []
    (omega (arith, c.loop-f-test.true, count)) c.index-callees-f.is in
    let firsts = c.note_program-entry.new.firsts.items in
    let old = c.loop-f.sites.items in
    let new = c.note_callees.new.sites.items in
    let fs = c.as_slice-called.result.now in
    let noted = subst (λ e. AreCalleesNoted firsts f e fs old new) c.note_program-entry.ensures.entry
    (subst (λ (x : List (Option CallSite)). AreCalleesNoted x f c.note_program-entry.result fs old new)
    c.as_slice.ensures.value c.in_ok-note_callees.ensures) in
    record {
      table = c.note_program-entry.ensures.count ∙ c.loop-f.invariant.table;
      below = c.note_program-entry.ensures.below;
      sites = sites_more c.args.programs.now c.args.callees.now f c.index-programs-f.result fs firsts old new here
          (sym called) c.note_program-entry.ensures.places noted c.loop-f.invariant.sites;
    }

pub returns : goal.returns
returns c =
    sites_all c.args.programs.now c.args.callees.now c.loop-f.f c.loop-f.sites.items c.requires.callable
    (omega (arith, c.loop-f-test.false)) c.loop-f.invariant.sites
