use Rattle.std.proofs.Common.{◌≡◌, ◌∙◌, ℕ, Some, [], Option, List, length, replicate, arith, sym, ap, subst}
use Rattle.pungi_shape.specs.declared.shape.Shape.{Shape}
use Rattle.pungi_shape.specs.AllClasses.{IsSettling}
use Rattle.pungi_shape.proofs.SettleLemmas.{settling-end, settling-first}
use Rattle.pungi_shape.proofs.all_classes.exit_classes.Goals as goal

pub returns : goal.returns
returns c = settling-end c.args.codes.now c.settle.new.classes c.in_ok-settle.ensures

pub settle-requires-clause-settling : goal.settle-requires-clause-settling
settle-requires-clause-settling c =
    let codes = c.args.codes.now in
    let list = c.in_ok-pending.pending.list in
    let none : Option (List Shape) = Some [] in
    let count = c.len-count.ensures in
    let e : c.in_ok-classes.classes ≡ replicate (length codes.codes) none =
    c.in_ok-classes.ensures ∙ ap (λ (k : ℕ). replicate k none) count in
    subst (λ cs. IsSettling codes cs list) (sym e)
    (settling-first codes list (λ f lt. c.in_ok-pending.ensures.all f (omega (arith, lt, count))))
