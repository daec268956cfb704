use Rattle.std.proofs.Common.{◌≡◌, ◌∙◌, ◌++◌, None, map, sym, ap, rules}
use Rattle.std.proofs.lemmas.List.{append-nil}
use Rattle.std.specs.Prelude.{slice_get}
use Rattle.pungi_types.specs.WantsView.{wants_view}
use Rattle.pungi_resolve.specs.Exprs.{wanted_kind}
use Rattle.pungi_resolve.proofs.ListLemmas.{none_first}
use Rattle.pungi_resolve.proofs.call.put_kinds.Goals as goal

pub returns : goal.returns
returns c =
    let none : slice_get (wants_view c.loop-want.rest) 0 ≡ None = search rules in
    let kinds = c.loop-want.kinds in
    sym (append-nil kinds)
    ∙ ap (λ ws. kinds ++ map wanted_kind ws) (sym (none_first (wants_view c.loop-want.rest) none))
    ∙ c.loop-want.invariant
