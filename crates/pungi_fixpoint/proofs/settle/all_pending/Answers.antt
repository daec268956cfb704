use Rattle.std.proofs.Common.{◌≡◌, ◌∙◌, inl, inr, subst, arith}
use Rattle.std.proofs.lemmas.Bool.{cases_lt}
use Rattle.pungi_links.specs.Ring.{Stands}
use Rattle.pungi_fixpoint.proofs.Queue.{put}
use Rattle.pungi_fixpoint.proofs.settle.all_pending.Goals as goal

pub loop-k-preserved : goal.loop-k-preserved
loop-k-preserved c =
    let s = put c.loop-k.pending c.loop-k.k c.put.new.self c.put.result c.put.ensures.puts in
    record {
      pending = c.put.ensures.pending;
      limit = s.limit ∙ c.loop-k.invariant.limit;
      all = λ j lt. elim (cases_lt j c.loop-k.k) [
        | inl before ↦ s.kept j (c.loop-k.invariant.all j before)
        | inr from ↦ (let here : c.loop-k.k ≡ j = omega arith in subst (λ i. Stands i c.put.new.self.list) here s.there)
      ];
    }
