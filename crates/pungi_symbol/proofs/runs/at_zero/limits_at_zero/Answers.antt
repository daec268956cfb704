use Rattle.std.proofs.Common.{length, subst, MatchOption}
use Rattle.pungi_symbol.specs.runs.AtZero.{AreNeverAtZero, AreResults, SayResults}
use Rattle.pungi_symbol.proofs.runs.AtZero.{means_at_zero}
use Rattle.pungi_symbol.proofs.runs.at_zero.limits_at_zero.Goals as goal

pub returns-in_ok-limits-in-Some : goal.returns-in_ok-limits-in-Some
returns-in_ok-limits-in-Some c =
    let cs = c.args.computed.now in
    let ns = c.in-Some.results.items in
    let r : AreResults (length cs) cs ns = subst (λ o. MatchOption o (AreNeverAtZero cs)
    (λ ns. AreResults (length cs) cs ns.items)) c.in-Some.is (c.in_ok-results_at_zero.ensures) in
    let s : SayResults (length cs) cs ns c.in_ok-limits-in-Some.limits.items = subst
    (λ l. SayResults (length cs) cs l c.in_ok-limits-in-Some.limits.items) c.as_slice.ensures.value
    c.in_ok-limits-in-Some.ensures in
    means_at_zero cs ns c.in_ok-limits-in-Some.limits.items r s
