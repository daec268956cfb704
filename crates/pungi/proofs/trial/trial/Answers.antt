use Rattle.std.proofs.Common.{inl, inr, ◌∙◌, subst, ap, ℕ, ◌≤◌, List, length, arith}
use Rattle.std.proofs.lemmas.Grind.{common_steps}
use Rattle.std.proofs.lemmas.Result.{IfOk-weaker}
use Rattle.pungi_base.specs.declared.names.Name.{Name}
use Rattle.pungi_base.specs.declared.verdict.Verdict.{Verdict}
use Rattle.pungi_trial.specs.Text.{trial_text}
use Rattle.pungi.specs.Api.{Api}
use Rattle.pungi.specs.Examine.{status_of, trial_report}
use Rattle.pungi.specs.Limits.{file_limit}
use Rattle.pungi.proofs.Fronts.{refused_as}
use Rattle.pungi.proofs.Trials.{manual_refused, manual_verdicts}
use Rattle.pungi.proofs.trial.trial.Goals as goal

pub returns-in-Ok : goal.returns-in-Ok
returns-in-Ok c =
    let small : length c.in_ok-text.text.items ≤ file_limit = omega arith in
    let lines : List (Name × Verdict) = c.in-Ok.lines.items in
    IfOk-weaker c.trial_answer.result _ _ (λ a h.
    inl (
      h.0,
      subst (λ (t : List ℕ). length t ≤ file_limit) c.in_ok-text.ensures small,
      record {
        names = c.examine.new.names;
        lines = lines;
        verdicts = manual_verdicts c.in_ok-names.names c.in_ok-rows.rows c.manual-terms.result c.deref.result.now
            (trial_text c.args.n) c.examine.new.names lines c.in_ok-names.ensures c.in_ok-rows.ensures
            c.manual-terms.ensures (c.deref.ensures.value ∙ c.in_ok-text.ensures) c.in-Ok.ensures.verdicts;
        counted = h.1 ∙ ap (λ (ls : List (Name × Verdict)). status_of ls) c.deref-in-Ok.ensures.value;
        printed = h.2 ∙ ap (λ (ls : List (Name × Verdict)). trial_report c.args.n ls) c.deref-in-Ok.ensures.value;
      },
    )) c.trial_answer.ensures

pub returns : goal.returns
returns c =
    let api : Api = record { names = c.in_ok-names.names; rows = c.in_ok-rows.rows; terms = c.manual-terms.result } in
    let small : length c.in_ok-text.text.items ≤ file_limit = grind (arith, common_steps) in
    IfOk-weaker c.refusal_answer.result _ _ (λ a h.
    inr (
      h.0,
      inr (
        subst (λ (t : List ℕ). length t ≤ file_limit) c.in_ok-text.ensures small,
        manual_refused c.in_ok-names.names c.in_ok-rows.rows c.manual-terms.result c.deref.result.now
            (trial_text c.args.n) a.text.items c.in_ok-names.ensures c.in_ok-rows.ensures c.manual-terms.ensures
            (c.deref.ensures.value ∙ c.in_ok-text.ensures)
            (refused_as api c.deref.result.now c.in-Err.fault a.text.items c.in-Err.ensures.fault h.1),
      ),
    )) c.refusal_answer.ensures
