use Rattle.std.proofs.Common.{◌≡◌, ◌-◌, length, subst, sym, Some, slice_get}
use Rattle.std.proofs.lemmas.Bool.{eqb-true}
use Rattle.pungi_links.specs.Ring.{Stands}
use Rattle.pungi_shape.proofs.CallerLemmas.{stands-at}
use Rattle.pungi_shape.proofs.callers.is_last.Goals as goal

pub returns-in-Some : goal.returns-in-Some
returns-in-Some c = λ e.
    let list = c.args.list.now in
    let at : slice_get list (length list - 1) ≡ Some c.in-Some.last.now = sym c.in-Some.ensures.value in
    subst (λ x. Stands x list) (eqb-true c.in-Some.last.now c.args.f e)
    (stands-at list (length list - 1) c.in-Some.last.now at)
