use Rattle.std.proofs.Common.{◌≡◌, ◌∙◌, inl, inr, subst, arith}
use Rattle.std.proofs.lemmas.Bool.{cases_lt}
use Rattle.pungi_links.specs.Ring.{Stands}
use Rattle.pungi_shape.proofs.PendingLemmas.{put}
use Rattle.pungi_shape.proofs.all_classes.all_pending.Goals as goal

pub loop-f-preserved : goal.loop-f-preserved
loop-f-preserved c =
    let s = put c.loop-f.pending c.loop-f.f c.put.new.self c.put.result c.put.ensures.puts in
    record {
      pending = c.put.ensures.pending;
      limit = s.limit ∙ c.loop-f.invariant.limit;
      all = λ j lt. elim (cases_lt j c.loop-f.f) [
        | inl before ↦ s.kept j (c.loop-f.invariant.all j before)
        | inr from ↦ (let here : c.loop-f.f ≡ j = omega arith in subst (λ i. Stands i c.put.new.self.list) here s.there)
      ];
    }
