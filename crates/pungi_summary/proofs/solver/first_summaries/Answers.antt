use Rattle.std.proofs.Common.{◌∙◌, List, Option, length, ap, sym, subst, arith}
use Rattle.std.proofs.lemmas.List.{length-replicate}
use Rattle.pungi_fixpoint.specs.Summaries.{SummariesState}
use Rattle.pungi_fixpoint.specs.declared.state.State.TheVariants.{NotSafe}
use Rattle.pungi_summary.proofs.Firsts.{AreFirstBelow, firsts_none, firsts_more, firsts_skip, firsts_all}
use Rattle.pungi_summary.proofs.Lists.{program_here}
use Rattle.pungi_summary.proofs.solver.first_summaries.Goals as goal
use Rattle.pungi_summary.proofs.solver.first_summaries.Goals.{in-Some+in_ok-values, in_default}

pub loop-f-init : goal.loop-f-init
loop-f-init g c =
    let d = g.D.Domain in
    let ps = c.args.programs.now in
    record {
      exits = subst (λ (xs : List (List (Option g.row.D.Denot))). AreFirstBelow d.least d.member d.width_of ps 0 xs)
          (sym (ap (λ (s : SummariesState g.row.D.Denot). s.exits) c.in_ok-summaries.ensures))
          (firsts_none d.least d.member d.width_of ps);
      states = ap (λ (s : SummariesState g.row.D.Denot). length s.states) c.in_ok-summaries.ensures
          ∙ length-replicate (length ps) (NotSafe 0);
    }

pub no_vectors-requires : goal.no_vectors-requires
no_vectors-requires g c =
    let here = program_here c.args.programs.now c.loop-f.f c.index-programs-f.result c.loop-f-test.true
    c.index-programs-f.is in
    rw c.as_slice.ensures (c.requires.well_formed c.loop-f.f c.in-Some.program
    (here ∙ c.in-Some.is)).narrow_exits

pub loop-f-preserved : goal.loop-f-preserved
loop-f-preserved g c =
    let d = g.D.Domain in
    let ps = c.args.programs.now in
    let here = program_here ps c.loop-f.f c.index-programs-f.result c.loop-f-test.true c.index-programs-f.is in
    elim c.match-programs-f.branch [
      | in-Some+in_ok-values w ↦ rw w.summaries-is (record {
        exits = rw w.put_exits.ensures.exits (firsts_more d.least d.member d.width_of ps c.loop-f.f
            w.in-Some.program w.in_ok-values.values c.loop-f.summaries.exits (here ∙ w.in-Some.is)
            (rw w.as_slice.ensures at w.in_ok-values.ensures) c.loop-f.invariant.exits);
        states = ap length w.put_exits.ensures.states ∙ c.loop-f.invariant.states;
      })
      | in_default w ↦ rw w.summaries-is (record {
        exits = firsts_skip d.least d.member d.width_of ps c.loop-f.f c.loop-f.summaries.exits
            (here ∙ w.in_default.is) c.loop-f.invariant.exits;
        states = c.loop-f.invariant.states;
      })
    ]

pub returns-clause-exits : goal.returns-clause-exits
returns-clause-exits g c =
    let d = g.D.Domain in
    firsts_all d.least d.member d.width_of c.args.programs.now c.loop-f.f c.loop-f.summaries.exits
    (omega (arith, c.loop-f-test.false)) c.loop-f.invariant.exits
