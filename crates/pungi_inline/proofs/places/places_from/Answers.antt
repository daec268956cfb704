use Rattle.std.proofs.Common.{◌≡◌, ◌+◌, ◌<◌, length, take, drop, get_or, ap, ◌∙◌, arith}
use Rattle.std.proofs.lemmas.List.{length_push}
use Rattle.pungi_inline.proofs.PlaceLemmas.{total_more, total_less, places_more, places_all}
use Rattle.pungi_inline.specs.Sites.{total}
use Rattle.pungi_inline.proofs.places.places_from.Goals as goal

pub loop-size-preserved : goal.loop-size-preserved
loop-size-preserved c =
    let i = c.loop-size.size-index in
    let lt : i < length c.args.sizes.now = omega arith in
    let more : total (take (i + 1) c.args.sizes.now) ≡ total (take i c.args.sizes.now) + get_or c.args.sizes.now i 0
    = total_more c.args.sizes.now i lt in
    let less : total (drop i c.args.sizes.now) ≡ get_or c.args.sizes.now i 0 + total (drop (i + 1) c.args.sizes.now)
    = total_less c.args.sizes.now i lt in
    let long : length c.loop-size.starts.items ≡ i + 1 = c.loop-size.invariant.long in
    let at : c.loop-size.at + get_or c.args.sizes.now i 0 ≡ c.args.start + total (take (i + 1) c.args.sizes.now)
    = omega arith in
    record {
      at = at;
      long = ap length c.in_ok-push-2.ensures.items ∙ length_push c.loop-size.starts.items
          (c.loop-size.at + get_or c.args.sizes.now i 0) ∙ ap (λ n. n + 1) long;
      places = λ k below. ap (λ xs. get_or xs k 0) c.in_ok-push-2.ensures.items ∙ places_more c.args.start
          c.loop-size.starts.items c.args.sizes.now i (c.loop-size.at + get_or c.args.sizes.now i 0) long at
          c.loop-size.invariant.places k below;
      room = omega arith;
    }

pub returns : goal.returns
returns c = places_all c.args.start c.loop-size.starts.items c.args.sizes.now (omega arith)
    (λ k lt. c.loop-size.invariant.places k (omega arith))
