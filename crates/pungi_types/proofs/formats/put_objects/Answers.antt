use Rattle.std.proofs.Common.{◌∙◌, ap, ◌++◌, ◌-◌, ◌+◌, replicate, arith}
use Rattle.pungi_api.specs.declared.answer.Answer.TheVariants as answers
use Rattle.pungi_types.specs.declared.wants.Want.TheVariants as wanted
use Rattle.pungi_types.proofs.FormatLemmas.{replicate_step}
use Rattle.pungi_types.proofs.formats.put_objects.Goals as goal

pub loop-preserved : goal.loop-preserved
loop-preserved c =
    let x = wanted.Output answers.BorrowedSure in
    ap (λ ws. ws ++ replicate (c.args.count - (c.loop.counter + 1)) x) c.in_ok-push.ensures.ok
    ∙ replicate_step c.loop.wants x c.loop.counter c.args.count (omega arith)
    ∙ c.loop.invariant
