use Rattle.std.proofs.Common.{◌∙◌, ◌+◌, ◌≤◌, ◌++◌, length, sym, ap, arith, append_assoc}
use Rattle.pungi_shape.proofs.AlikeLemmas.{zip_end, zip_turn}
use Rattle.pungi_shape.proofs.joins.push_arguments.Goals as goal
use Rattle.pungi_shape.proofs.joins.push_arguments.Goals.{then-i-atoms+in_ok-push, else-i-atoms}

pub loop-i-preserved : goal.loop-i-preserved
loop-i-preserved c =
    let hs = c.args.entry.now in
    let as' = c.args.atoms.now in
    let i = c.loop-i.i in
    let pairs = c.loop-i.pairs in
    elim c.if-i-atoms.branch [
      | then-i-atoms+in_ok-push w ↦
          rw (w.pairs-is, w.in_ok-push.ensures.ok) (append_assoc pairs _ _
          ∙ ap (λ l. pairs ++ l) (sym (zip_turn hs as' i _ _ c.loop-i-test.true w.if-i-atoms.true))
          ∙ c.loop-i.invariant)
      | else-i-atoms w ↦
          let le : length as' ≤ i = w.if-i-atoms.false in
          rw w.pairs-is (ap (λ l. pairs ++ l) (zip_end hs as' (i + 1) (omega (arith, le))
          ∙ sym (zip_end hs as' i le)) ∙ c.loop-i.invariant)
    ]
