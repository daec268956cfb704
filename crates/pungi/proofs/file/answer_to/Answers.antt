use Rattle.std.proofs.Common.{List, inl, inr, subst}
use Rattle.std.proofs.lemmas.Result.{IfOk-weaker}
use Rattle.pungi_base.specs.declared.names.Name.{Name}
use Rattle.pungi_base.specs.declared.verdict.Verdict.{Verdict}
use Rattle.pungi.specs.Api.{Api}
use Rattle.pungi.specs.Examine.{IsReportOn}
use Rattle.pungi.proofs.Fronts.{refused_as}
use Rattle.pungi.proofs.file.answer_to.Goals as goal

pub returns-in-Ok : goal.returns-in-Ok
returns-in-Ok c =
    IfOk-weaker c.report_answer.result _ _ (λ a h.
    inl (
      h.0,
      record {
        names = c.examine.new.names;
        lines = c.in-Ok.lines.items;
        verdicts = c.in-Ok.ensures.verdicts;
        report = subst (λ (ls : List (Name × Verdict)). IsReportOn c.examine.new.names ls a.status a.text.items)
            c.deref.ensures.value h.1;
      },
    )) c.report_answer.ensures

pub returns-in-Err : goal.returns-in-Err
returns-in-Err c =
    let api : Api = record { names = c.args.names.now; rows = c.args.rows.now; terms = c.args.terms.now } in
    IfOk-weaker c.refusal_answer.result _ _ (λ a h.
    inr (h.0, refused_as api c.args.text.now c.in-Err.fault a.text.items c.in-Err.ensures.fault h.1))
    c.refusal_answer.ensures
