use Rattle.std.proofs.Common.{◌++◌, inl, inr, refl, map}
use Rattle.std.proofs.lemmas.Result.{IfOk-weaker}
use Rattle.pungi_api.specs.Rows.{named_row}
use Rattle.pungi.proofs.Configured.{configured_by, wrong_for}
use Rattle.pungi.proofs.Statuses.{both}
use Rattle.pungi.proofs.file.with_config.Goals as goal

pub returns-in-Ok-clause-answer : goal.returns-in-Ok-clause-answer
returns-in-Ok-clause-answer g c =
    IfOk-weaker c.with_rows.result _ _ (λ a h.
    inr (
      record {
        names = c.rows.new.names;
        rows = c.in_ok-table.table ++ map named_row c.in-Ok.config.rows.items;
        terms = c.in-Ok.config.terms;
      },
      configured_by c.args.text.now c.in_ok-names.names c.rows.new.names c.in_ok-table.table
          (map named_row c.in-Ok.config.rows.items) _ c.in-Ok.config.terms c.in_ok-names.ensures
          c.in_ok-table.ensures c.in-Ok.ensures.rows c.in-Ok.ensures.names refl,
      h.1,
      h.0,
    )) (both c.with_rows.result _ _ c.with_rows.ensures.answer c.with_rows.ensures.names_opened)

pub returns-in-Err-clause-answer : goal.returns-in-Err-clause-answer
returns-in-Err-clause-answer g c =
    IfOk-weaker c.config_answer.result _ _ (λ a h.
    inl (
      h.0,
      refl,
      (
        h.1.0,
        wrong_for c.args.text.now c.in_ok-names.names c.in_ok-table.table c.in-Err.fault h.1.0 c.in_ok-names.ensures
            c.in_ok-table.ensures c.in-Err.ensures.rows h.1.1,
        h.1.2,
      ),
    )) c.config_answer.ensures
