use Rattle.std.proofs.Common.{◌∙◌, ap, drop}
use Rattle.pungi_scope.proofs.DropLemmas.{drop-one}
use Rattle.pungi_scope.proofs.local_names.LocalNames.truncate.Goals as goal

pub loop-step-preserved : goal.loop-step-preserved
loop-step-preserved c = c.pop.ensures ∙ ap (drop 1) c.loop-step.invariant ∙ drop-one c.loop-step._step c.args.self.now
