use Rattle.std.proofs.Common.{List, drop, reverse, Some, ap, ◌∙◌}
use Rattle.pungi_base.specs.declared.value.Value.{Value}
use Rattle.pungi_resolved.specs.ActionView.{function_view}
use Rattle.pungi_meaning.specs.Frames.{numbered}
use Rattle.pungi_meaning.specs.Machine.{frames_of, functions_of, state_of, todos}
use Rattle.pungi_meaning.specs.Outcomes.{GoesOn}
use Rattle.pungi_meaning.specs.Work.{newest}
use Rattle.pungi_meaning.proofs.RunLemmas.{entered_same}
use Rattle.pungi_meaning.proofs.frames.enter.Goals as goal

pub returns-in-Some : goal.returns-in-Some
returns-in-Some c =
    let m = c.args.m.now in
    let waiting = reverse m.values.items in
    let with_values = λ (vs : List Value). record (state_of m) { values = vs } in
    entered_same c.enter_with.result (λ run halt. GoesOn run halt c.enter_with.new.frames.items c.enter_with.new.m)
    (frames_of c.args.frames.now.items) c.args.pos c.args.number c.args.has_value (todos m.tasks.items)
    c.deref.result.now (newest c.args.count waiting) (with_values (reverse c.take_newest.new.values.items))
    (with_values (drop c.args.count waiting)) (Some (function_view c.in-Some.f.now))
    (numbered (functions_of c.args.functions.now) c.args.number) (c.deref.ensures.value ∙ c.in_ok-args.ensures.taken)
    (ap with_values c.in_ok-args.ensures.rest) c.in-Some.ensures (c.enter_with.ensures c.args.number)
