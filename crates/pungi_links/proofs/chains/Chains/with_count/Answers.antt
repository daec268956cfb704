use Rattle.std.proofs.Common.{[], arith}
use Rattle.pungi_links.proofs.ChainsLemmas.{alone_all, copy_linked, none_linked}
use Rattle.pungi_links.proofs.chains.Chains.with_count.Goals as goal

pub invariant_of-result : goal.invariant_of-result
invariant_of-result c =
    copy_linked [] [] _ _ c.args.count none_linked c.requires (omega arith) c.in_ok-next.ensures
    c.in_ok-before.ensures

pub returns : goal.returns
returns c = alone_all c.args.count c.in_ok-next.next.items c.in_ok-next.ensures
