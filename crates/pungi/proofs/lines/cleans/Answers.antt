use Rattle.std.proofs.Common.{◌∙◌, rules}
use Rattle.std.proofs.lemmas.Iterator.{YieldsList-from_slice}
use Rattle.std.proofs.lemmas.Iterator.Consumers.{YieldsList-at, YieldsList-from_filter, count_from_yields_List}
use Rattle.std.proofs.lemmas.List.Sums.{length-filter}
use Rattle.pungi_base.specs.declared.names.Name.{Name}
use Rattle.pungi_base.specs.declared.verdict.Verdict.{Verdict}
use Rattle.pungi.specs.Examine.{is_clean}
use Rattle.pungi.proofs.lines.cleans.Goals as goal

pub returns : goal.returns
returns c =
    count_from_yields_List c.filter.result _ c.count.ensures.ran (YieldsList-from_filter _
    (λ (line : Name × Verdict). is_clean line.1)
    (YieldsList-at c.filter.ensures.source (YieldsList-from_slice c.args.lines.now (cc))) c.filter.ensures.closure
    (λ x b q k. search rules)) ∙ length-filter (λ (line : Name × Verdict). is_clean line.1) c.args.lines.now
