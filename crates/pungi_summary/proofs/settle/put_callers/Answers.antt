use Rattle.std.proofs.Common.{◌≡◌, ◌∙◌, inl, inr, refl, sym, ap, subst, arith}
use Rattle.std.specs.List.{slice_index_or}
use Rattle.std.proofs.lemmas.Bool.{cases_lt}
use Rattle.pungi_links.specs.Ring.{Stands}
use Rattle.pungi_summary.specs.declared.call_site.CallSite.{CallSite}
use Rattle.pungi_summary.proofs.Lists.{put, read_default}
use Rattle.pungi_summary.proofs.settle.put_callers.Goals as goal

pub loop-site-init : goal.loop-site-init
loop-site-init c = record {
  pending = c.requires.pending;
  limit = refl;
  kept = λ f s. s;
  put = λ j s lt. absurd (omega (arith, lt));
  few = omega arith;
}

pub put-requires : goal.put-requires
put-requires c =
    let sites = c.args.sites.now in
    let i = c.loop-site.site-index in
    let d : CallSite = record { caller = 0; place = 0 } in
    let s = slice_index_or sites i d in
    let h = c.requires.callers s (i, c.loop-site-test.true, read_default sites i s d c.loop-site-test.true) in
    let n = c.loop-site.invariant.limit in
    omega (arith, h, n)

pub loop-site-preserved : goal.loop-site-preserved
loop-site-preserved c =
    let sites = c.args.sites.now in
    let i = c.loop-site.site-index in
    let d : CallSite = record { caller = 0; place = 0 } in
    let s = slice_index_or sites i d in
    let p = put c.loop-site.pending s.caller c.put.new.self c.put.result c.put.ensures.puts in
    record {
      pending = c.put.ensures.pending;
      limit = p.limit ∙ c.loop-site.invariant.limit;
      kept = λ f h. p.kept f (c.loop-site.invariant.kept f h);
      put = λ j t lt at. elim (cases_lt j i) [
        | inl before ↦ p.kept t.caller (c.loop-site.invariant.put j t before at)
        | inr from ↦
            let number : j ≡ i = omega arith in
            let same : s ≡ t = read_default sites i d t c.loop-site-test.true
            ∙ (ap (λ k. slice_index_or sites k t) (sym number) ∙ at) in
            subst (λ (x : CallSite). Stands x.caller c.put.new.self.list) same p.there
      ];
      few = (let one = p.one in let before = c.loop-site.invariant.few in omega (arith, one, before));
    }

pub returns-clause-put : goal.returns-clause-put
returns-clause-put c = λ s m.
    let lt = m.1 in
    c.loop-site.invariant.put m.0 s (omega (arith, lt, c.loop-site-test.false)) m.2

pub returns-clause-few : goal.returns-clause-few
returns-clause-few c =
    let few = c.loop-site.invariant.few in
    omega (arith, few, c.loop-site.auto.site-index-end)
