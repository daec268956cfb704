use Rattle.std.proofs.Common.{◌≡◌, ◌∙◌, Some, ap}
use Rattle.pungi_code.specs.declared.code.Code.{Code}
use Rattle.pungi_code.specs.declared.code.Codes.{Codes}
use Rattle.pungi_code.specs.Run.{code_at}
use Rattle.pungi_idle.specs.IdleCode.{idle}
use Rattle.pungi_verdict.proofs.Files.{ok-caused}
use Rattle.pungi_verdict.proofs.judge.judge_idle.Goals as goal

pub returns-clause-caused : goal.returns-clause-caused
returns-clause-caused c =
    let own = c.in_ok-own.own in
    let is : code_at own 0 ≡ Some (idle c.args.code.now) =
    ap (λ (x : Codes). code_at x 0) c.in_ok-own.ensures ∙ ap (λ (x : Code). Some x) c.requires.lean in
    let statics : own.statics ≡ c.args.statics = ap (λ (x : Codes). x.statics) c.in_ok-own.ensures in
    ok-caused own 0 c.args.names.now c.args.statics c.args.code.now is statics c.judge_code.result
    c.judge_code.ensures.decided
