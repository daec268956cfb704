use Rattle.std.proofs.Common.{◌≡◌, ◌∙◌, ℤ, Bool, true, false, Ok, Some, List, slice_get, ap}
use Rattle.std.proofs.lemmas.Result.{err_from_is_err_and}
use Rattle.pungi_domain.specs.Builds.{IsLargeBuild, LargeTurn}
use Rattle.pungi_domain.specs.declared.affine_edge.AffineEdge.{AffineEdge}
use Rattle.pungi_fixpoint.specs.Solver.{calls}
use Rattle.pungi_fixpoint.specs.Summaries.{exit_of}
use Rattle.pungi_fixpoint.proofs.Lists.{read_at}
use Rattle.pungi_fixpoint.proofs.Steps.{range_err, searching_turned, searching_same, left_turned, left_same, large_edge}
use Rattle.pungi_fixpoint.proofs.settle.take_edge.Goals as goal
use Rattle.pungi_fixpoint.proofs.settle.take_edge.Goals.{then-branch, else-branch}

pub returns-in_err-turn-clause-range : goal.returns-in_err-turn-clause-range
returns-in_err-turn-clause-range g c =
    let program = c.args.program.now in
    let edge = c.index-as_slice-number.result in
    let exit = exit_of c.args.summaries.now.exits in
    let is : slice_get program.edges c.args.number ≡ Some edge = read_at program.edges c.as_slice.result.now
    c.args.number edge c.as_slice.ensures c.requires.within c.index-as_slice-number.is in
    let p = err_from_is_err_and c.from_residual.result c.from_residual.ensures.1 in
    rw (p.1, p.2) (range_err Bool (Unit {0})
    (LargeTurn g.D.Domain.least g.D.Domain.member program exit edge c.args.stage.now)
    (λ (r : List ℤ). (e : AffineEdge) × (slice_get program.edges c.args.number ≡ Some e)
    × IsLargeBuild g.D.Domain.least g.D.Domain.member program exit e.from r)
    c.in_err-turn.field-0.0
    (λ r large. (
      edge,
      is,
      large_edge g.D.Domain.least g.D.Domain.member g.D.Domain.width_of program exit c.args.number
          edge is c.args.stage.now c.args.pending.now r c.requires.searching large,
    ))
    c.in_err-turn.ensures.range)

pub returns-clause-searching : goal.returns-clause-searching
returns-clause-searching g c =
    let program = c.args.program.now in
    let edge = c.index-as_slice-number.result in
    let exit = exit_of c.args.summaries.now.exits in
    let is : slice_get program.edges c.args.number ≡ Some edge = read_at program.edges c.as_slice.result.now
    c.args.number edge c.as_slice.ensures c.requires.within c.index-as_slice-number.is in
    elim c.if-branch.branch [
      | then-branch w ↦
          let grew : c.turn.result ≡ Ok true = c.in_ok-turn.was ∙ ap Ok w.if-branch.true in
          rw w.pending-is (searching_turned g.D.Domain.least g.D.Domain.member g.D.Domain.width_of program exit
          c.args.number edge is c.args.stage.now c.turn.new.stage c.args.pending.now w.put_target.new.pending
          c.requires.searching c.turn.ensures.widths (c.turn.ensures.turned grew) w.put_target.ensures.pending
          w.put_target.ensures.limit)
      | else-branch w ↦
          let stayed : c.turn.result ≡ Ok false = c.in_ok-turn.was ∙ ap Ok w.if-branch.false in
          searching_same g.D.Domain.least g.D.Domain.member g.D.Domain.width_of program exit c.args.stage.now
          c.turn.new.stage c.args.pending.now c.if-branch.pending (c.turn.ensures.unchanged stayed) w.pending-is
          c.requires.searching
    ]

pub returns-clause-left : goal.returns-clause-left
returns-clause-left g c rest left =
    let program = c.args.program.now in
    let edge = c.index-as_slice-number.result in
    let exit = exit_of c.args.summaries.now.exits in
    let found = calls g.D.Domain.member c.args.summaries.now.exits in
    let is : slice_get program.edges c.args.number ≡ Some edge = read_at program.edges c.as_slice.result.now
    c.args.number edge c.as_slice.ensures c.requires.within c.index-as_slice-number.is in
    elim c.if-branch.branch [
      | then-branch w ↦
          let grew : c.turn.result ≡ Ok true = c.in_ok-turn.was ∙ ap Ok w.if-branch.true in
          rw w.pending-is (left_turned g.D.Domain.least g.D.Domain.member g.D.Domain.width_of program exit
          c.args.number edge is found c.args.stage.now c.turn.new.stage c.args.pending.now.list
          w.put_target.new.pending.list rest (c.turn.ensures.turned grew) c.in_ok-turn.ensures.taken
          w.put_target.ensures.put w.put_target.ensures.kept left)
      | else-branch w ↦
          let stayed : c.turn.result ≡ Ok false = c.in_ok-turn.was ∙ ap Ok w.if-branch.false in
          rw w.pending-is (left_same g.D.Domain.least g.D.Domain.member g.D.Domain.width_of program exit c.args.number
          edge is found c.args.stage.now c.turn.new.stage c.args.pending.now.list rest (c.turn.ensures.unchanged stayed)
          c.in_ok-turn.ensures.taken left)
    ]
