use Rattle.std.proofs.Common.{◌∙◌, ◌<◌, Err, List, Some, ap, get_or, length, map, refl, slice_get, subst, sym, true}
use Rattle.std.proofs.lemmas.Option.{slice_get-get_or}
use Rattle.pungi_base.specs.declared.pos.Pos.{Pos}
use Rattle.pungi_domain.specs.Annotations.{IsInductive, IsSafeAnnotation}
use Rattle.pungi_domain.specs.Builds.{IsLargeBuild}
use Rattle.pungi_affine.specs.States.{SpanMember, SpanState}
use Rattle.pungi_fixpoint.specs.Solver.{calls, sets}
use Rattle.pungi_fixpoint.specs.Summaries.{SummariesState, exit_of}
use Rattle.pungi_verdict.specs.Relations.{clamped, no_span}
use Rattle.pungi_verdict.proofs.Related.{large-place, none-needed}
use Rattle.pungi_verdict.proofs.relations.search.Goals as goal

pub returns-then-owes_nothing : goal.returns-then-owes_nothing
returns-then-owes_nothing c =
    none-needed c.args.program.now (c.owes_nothing.ensures (c.if-owes_nothing.true))

pub returns-in-Ok : goal.returns-in-Ok
returns-in-Ok c =
    let p = c.args.program.now in
    let a = c.in-Ok.field-0 in
    record {
      at = λ k. slice_get a.at k;
      exits = λ k. slice_get a.exits k;
      inductive = subst (λ (s : SummariesState SpanState). IsInductive p (calls SpanMember s.exits)
          (sets SpanMember a.at) (sets SpanMember a.exits)) c.in_ok-summaries.ensures c.in-Ok.ensures.inductive;
      safe = c.in-Ok.ensures.safe;
    }

pub returns-in-Err-NotSafe : goal.returns-in-Err-NotSafe
returns-in-Err-NotSafe c = λ rows safe.
    let p = c.args.program.now in
    let none = c.solve.ensures.not_safe refl c.in-Err-NotSafe.field-0-0
    (c.in-Err-NotSafe.is ∙ ap Err c.in-Err-NotSafe.field-0-is) rows in
    none (subst (λ (s : SummariesState SpanState). IsSafeAnnotation p (calls SpanMember s.exits) rows)
    (sym c.in_ok-summaries.ensures) safe)

pub bounds-as_slice-place : goal.bounds-as_slice-place
bounds-as_slice-place c =
    let p = c.args.program.now in
    let k = c.in-Err-Range.place in
    let row = c.in-Err-Range.row in
    let large = c.solve.ensures.range k row (c.in-Err-Range.is ∙ ap Err c.in-Err-Range.field-0-is) in
    let alone : IsLargeBuild true SpanMember p no_span k row =
    subst (λ (s : SummariesState SpanState). IsLargeBuild true SpanMember p (exit_of s.exits) k row)
    c.in_ok-summaries.ensures large in
    subst (λ (at : List Pos). k < length at) (sym c.as_slice-in-Err-Range.ensures)
    (large-place p c.requires k row alone)

pub returns-in-Err-Range : goal.returns-in-Err-Range
returns-in-Err-Range c =
    let p = c.args.program.now in
    let k = c.in-Err-Range.place in
    let row = c.in-Err-Range.row in
    let large = c.solve.ensures.range k row (c.in-Err-Range.is ∙ ap Err c.in-Err-Range.field-0-is) in
    let alone : IsLargeBuild true SpanMember p no_span k row =
    subst (λ (s : SummariesState SpanState). IsLargeBuild true SpanMember p (exit_of s.exits) k row)
    c.in_ok-summaries.ensures large in
    let nowhere : Pos = record { line = 0; col = 0 } in
    record {
      place = k;
      row = row;
      large = alone;
      is = slice_get-get_or p.at k nowhere (large-place p c.requires k row alone)
          ∙ ap (λ (at : List Pos). Some (get_or at k nowhere)) (sym c.as_slice-in-Err-Range.ensures);
      are = c.in_ok-numbers-in-Err-Range.ensures ∙ ap (map clamped) c.as_slice.ensures;
    }
