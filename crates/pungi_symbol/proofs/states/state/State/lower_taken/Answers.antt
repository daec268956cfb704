use Rattle.std.proofs.Common.{◌≡◌, ◌+◌, ◌<◌, length, get_or, min, sym, ap, ◌∙◌, arith}
use Rattle.pungi_api.specs.declared.take.Take.TheVariants.{Never}
use Rattle.pungi_world.specs.Calls.{is_taken}
use Rattle.pungi_code.specs.declared.atom.Atom.TheVariants.{Var}
use Rattle.pungi_symbol.specs.states.Known.{term_of}
use Rattle.pungi_symbol.proofs.answers.TakenOver.{Lowered, Less, lowered_step, lowered_end}
use Rattle.pungi_symbol.proofs.states.state.State.lower_taken.Goals as goal

pub returns : goal.returns
returns c =
    let e : c.loop-i.i ≡ min (length c.args.takes.now) (length c.args.atoms.now) = omega arith in
    sym (lowered_end c.args.success c.args.takes.now c.args.atoms.now c.loop-i.self c.loop-i.i e) ∙ c.loop-i.invariant

pub loop-i-preserved : goal.loop-i-preserved
loop-i-preserved c =
    let s = c.loop-i.self in
    let t = get_or c.args.takes.now c.loop-i.i Never in
    let x = term_of s.known (get_or c.args.atoms.now c.loop-i.i (Var (record { 0 = 0 }))) in
    let new : c.lower_if.new.self ≡ Less (is_taken c.args.success t) x s =
    c.in_ok-lower_if.ensures {u = tt} ∙ ap (λ b. Less b c.term-x.result s) c.counts.ensures
    ∙ ap (λ y. Less (is_taken c.args.success t) y s) c.term-x.ensures in
    let takes : c.loop-i.i < length c.args.takes.now = omega arith in
    let atoms : c.loop-i.i < length c.args.atoms.now = omega arith in
    ap (Lowered c.args.success c.args.takes.now c.args.atoms.now (c.loop-i.i + 1)) new
    ∙ lowered_step c.args.success c.args.takes.now c.args.atoms.now s c.loop-i.i Never (Var (record { 0 = 0 }))
    takes atoms
    ∙ c.loop-i.invariant
