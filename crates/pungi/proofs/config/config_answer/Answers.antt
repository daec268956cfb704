use Rattle.std.proofs.Common.{ap}
use Rattle.std.proofs.lemmas.Result.{IfOk-weaker}
use Rattle.pungi.specs.Api.{fault_reason, text_reason}
use Rattle.pungi.proofs.config.config_answer.Goals as goal

pub returns-in-Text : goal.returns-in-Text
returns-in-Text c =
    IfOk-weaker c.wrong_answer.result _ _ (λ a h. (h.0, (text_reason, ap fault_reason c.in-Text.is, h.1)))
    c.wrong_answer.ensures
