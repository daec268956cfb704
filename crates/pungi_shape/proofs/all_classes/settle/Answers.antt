use Rattle.std.proofs.Common.{◌≡◌, ◌∷◌, Some, None, length, ap, arith, subst}
use Rattle.pungi_links.specs.Pending.{Takes}
use Rattle.pungi_shape.specs.AllClasses.{IsSettling}
use Rattle.pungi_shape.proofs.PendingLemmas.{took-limit, took-list, took-within}
use Rattle.pungi_shape.proofs.all_classes.settle.Goals as goal

pub take_function-requires-clause-function : goal.take_function-requires-clause-function
take_function-requires-clause-function c =
    let took : Takes c.functions.pending c.take.new.self (Some c.in-Some.f) = rw c.in-Some.is at c.take.ensures.takes in
    took-within c.functions.pending c.take.new.self c.in-Some.f (length c.args.codes.now.codes)
    c.functions.invariant.pending c.functions.invariant.limit took

pub take_function-requires-clause-settling : goal.take_function-requires-clause-settling
take_function-requires-clause-settling c =
    let took : Takes c.functions.pending c.take.new.self (Some c.in-Some.f) = rw c.in-Some.is at c.take.ensures.takes in
    subst (IsSettling c.args.codes.now c.functions.classes) (took-list c.functions.pending c.take.new.self c.in-Some.f
    took) c.functions.invariant.settling

pub functions-smaller : goal.functions-smaller
functions-smaller c =
    let took : Takes c.functions.pending c.take.new.self (Some c.in-Some.f) = rw c.in-Some.is at c.take.ensures.takes in
    let l : length c.functions.pending.list ≡ length (c.in-Some.f ∷ c.take.new.self.list) =
    ap length (took-list c.functions.pending c.take.new.self c.in-Some.f took) in
    let le = c.in_ok-take_function.ensures.work in
    omega (arith, l, le)

pub returns : goal.returns
returns c =
    let took : Takes c.functions.pending c.take.new.self None = rw c.in_default.is at c.take.ensures.takes in
    subst (IsSettling c.args.codes.now c.functions.classes) took.0 c.functions.invariant.settling
