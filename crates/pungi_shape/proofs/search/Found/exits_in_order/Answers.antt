use Rattle.std.proofs.Common.{◌≡◌, ◌∙◌, ℕ, ◌+◌, ◌<◌, Some, List, [], ◌∷◌, ◌++◌, length, take, get_or, slice_get, refl}
use Rattle.std.proofs.Common.{sym}
use Rattle.std.proofs.Common.{ap, arith}
use Rattle.std.proofs.lemmas.List.{take_all, take_more}
use Rattle.std.proofs.lemmas.Option.{get_or_from_slice_get, slice_get_read, slice_get_within}
use Rattle.pungi_shape.specs.declared.shape.Shape.{Shape}
use Rattle.pungi_shape.specs.Keys.{CatalogState, IsCatalog, order_of}
use Rattle.pungi_shape.specs.Ranks.{exits_in}
use Rattle.pungi_shape.specs.Shapes.{numbers_of_shape}
use Rattle.pungi_shape.proofs.CatalogLemmas.{in_order-at, length-in_order, length-order, order-places}
use Rattle.pungi_shape.proofs.search.Found.exits_in_order.Goals as goal

-- the number that is read in an order
module _ (ks : List ℕ) (n : CatalogState Shape) (h : IsCatalog numbers_of_shape n) (is : ks ≡ order_of n) (i p : ℕ)
    (lt : i < length ks) (read : p ≡ get_or ks i p) where
  number-read : slice_get (order_of n) i ≡ Some p
  number-read = ap (λ (l : List ℕ). slice_get l i) (sym is) ∙ slice_get_read ks (length ks) i p refl lt read

  number-within : p < length n.items
  number-within =
      let below = order-places numbers_of_shape n h i p number-read in
      let same = length-order numbers_of_shape n h in
      omega (arith, below, same)

pub bounds-items-index : goal.bounds-items-index
bounds-items-index c =
    let n = c.args.self.now.exits in
    let long = c.len-k-end.ensures in
    let lt = c.loop-k-test.true in
    let within = number-within c.in_ok-order.order.items n c.requires c.in_ok-order.ensures c.loop-k.k
    c.index.result.now (omega (arith, long, lt)) c.index.ensures in
    let same = ap length c.items.ensures in
    omega (arith, within, same)

pub loop-k-preserved : goal.loop-k-preserved
loop-k-preserved c =
    let n = c.args.self.now.exits in
    let exits = exits_in c.args.self.now in
    let k = c.loop-k.k in
    let p = c.index.result.now in
    let x = c.index-items-index.result in
    let long = c.len-k-end.ensures in
    let lt = c.loop-k-test.true in
    let below : k < length c.in_ok-order.order.items = omega (arith, long, lt) in
    let read = number-read c.in_ok-order.order.items n c.requires c.in_ok-order.ensures k p below c.index.ensures in
    let within = number-within c.in_ok-order.order.items n c.requires c.in_ok-order.ensures k p below c.index.ensures in
    let there : slice_get exits k ≡ Some x = in_order-at numbers_of_shape n c.requires k p read
    ∙ slice_get_read n.items (length n.items) p x refl within
    (c.index-items-index.is ∙ ap (λ (xs : List Shape). get_or xs p x) c.items.ensures) in
    let more : take (k + 1) exits ≡ take k exits ++ x ∷ [] = take_more exits k x (slice_get_within exits k x there)
    ∙ ap (λ (y : Shape). take k exits ++ y ∷ []) (get_or_from_slice_get exits k x x there) in
    let list : c.loop-k.list ≡ take k exits = c.loop-k.invariant in
    let copy : c.in_ok-copy.field-0 ≡ x = c.in_ok-copy.ensures in
    c.in_ok-push.ensures.ok ∙ ap (λ (l : List Shape). l ++ c.in_ok-copy.field-0 ∷ []) list
    ∙ ap (λ (y : Shape). take k exits ++ y ∷ []) copy ∙ sym more

pub returns : goal.returns
returns c =
    let n = c.args.self.now.exits in
    let exits = exits_in c.args.self.now in
    let long = c.len-k-end.ensures in
    let past = c.loop-k-test.false in
    let all = length-in_order numbers_of_shape n c.requires in
    let order = length-order numbers_of_shape n c.requires in
    let same = ap length c.in_ok-order.ensures in
    c.loop-k.invariant ∙ take_all c.loop-k.k exits (omega (arith, long, past, all, order, same))
