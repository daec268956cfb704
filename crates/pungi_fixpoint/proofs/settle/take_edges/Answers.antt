use Rattle.std.proofs.Common.{◌≡◌, ◌+◌, ◌<◌, ℕ, ℤ, Some, List, drop, length, slice_get, slice_index_or, arith, le_trans}
use Rattle.std.proofs.lemmas.Result.{err_from_is_err_and}
use Rattle.pungi_domain.specs.Builds.{IsLargeBuild}
use Rattle.pungi_domain.specs.declared.affine_edge.AffineEdge.{AffineEdge}
use Rattle.pungi_fixpoint.specs.Solver.{calls}
use Rattle.pungi_fixpoint.specs.Summaries.{exit_of}
use Rattle.pungi_links.specs.Ring.{Stands}
use Rattle.pungi_fixpoint.proofs.Queue.{left_here, none_left, stands_at}
use Rattle.pungi_fixpoint.proofs.Steps.{range_err}
use Rattle.pungi_fixpoint.proofs.settle.take_edges.Goals as goal

pub take_edge-requires-clause-within : goal.take_edge-requires-clause-within
take_edge-requires-clause-within g c =
    c.requires.within _ (stands_at c.args.numbers.now c.loop-number.number-index 0
    (omega (arith, c.loop-number-test.true)))

pub returns-in_err-take_edge-clause-work : goal.returns-in_err-take_edge-clause-work
returns-in_err-take_edge-clause-work g c = le_trans c.take_edge.ensures.work c.loop-number.invariant.work

pub returns-in_err-take_edge-clause-range : goal.returns-in_err-take_edge-clause-range
returns-in_err-take_edge-clause-range g c =
    let program = c.args.program.now in
    let numbers = c.args.numbers.now in
    let exit = exit_of c.args.summaries.now.exits in
    let number = slice_index_or numbers c.loop-number.number-index 0 in
    let p = err_from_is_err_and c.from_residual.result c.from_residual.ensures.1 in
    rw (p.1, p.2) (range_err (Unit {0}) (Unit {0})
    (λ (r : List ℤ). (e : AffineEdge) × (slice_get program.edges number ≡ Some e)
    × IsLargeBuild g.D.Domain.least g.D.Domain.member program exit e.from r)
    (λ (r : List ℤ). (i : ℕ) × (e : AffineEdge) × Stands i numbers × (slice_get program.edges i ≡ Some e)
    × IsLargeBuild g.D.Domain.least g.D.Domain.member program exit e.from r)
    c.in_err-take_edge.field-0.0
    (λ r h. (
      number,
      h.0,
      stands_at numbers c.loop-number.number-index 0 (omega (arith, c.loop-number-test.true)),
      h.1,
      h.2,
    ))
    c.in_err-take_edge.ensures.range)

pub loop-number-preserved : goal.loop-number-preserved
loop-number-preserved g c =
    let numbers = c.args.numbers.now in
    let k = c.loop-number.number-index in
    let within : k < length numbers = omega (arith, c.loop-number-test.true) in
    record {
      searching = c.take_edge.ensures.searching;
      work = (let one = c.take_edge.ensures.work in let before = c.loop-number.invariant.work in le_trans one before);
      left = c.in_ok-take_edge.ensures.left (drop (k + 1) numbers)
          (left_here c.args.program.now (calls g.D.Domain.member c.args.summaries.now.exits) g.D.Domain.member
          c.loop-number.stage c.loop-number.pending.list numbers k within c.loop-number.invariant.left);
    }

pub returns-clause-taken : goal.returns-clause-taken
returns-clause-taken g c =
    none_left c.args.program.now (calls g.D.Domain.member c.args.summaries.now.exits) g.D.Domain.member
    c.loop-number.stage c.loop-number.pending.list c.args.numbers.now c.loop-number.number-index
    (omega (arith, c.loop-number-test.false)) c.loop-number.invariant.left
