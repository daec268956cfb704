use Rattle.std.proofs.Common.{◌∙◌, [], ◌∷◌, ◌++◌, List, ℕ, ap}
use Rattle.std.proofs.lemmas.List.{replicate-append-replicate}
use Rattle.pungi_shape.proofs.callers.no_callers.Goals as goal

pub loop-preserved : goal.loop-preserved
loop-preserved c =
    let none : List ℕ = [] in
    c.in_ok-push.ensures.items
    ∙ (ap (λ (l : List ℕ). c.loop.lists.items ++ l ∷ []) (c.new-in-loop.ensures ∙ c.new.ensures.items)
    ∙ (ap (λ ls. ls ++ none ∷ []) c.loop.invariant
    ∙ replicate-append-replicate c.loop.counter 1 none))
