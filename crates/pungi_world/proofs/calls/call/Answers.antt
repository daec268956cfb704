use Rattle.std.proofs.Common.{List, ap, sym, ◌∙◌, ℕ}
use Rattle.pungi_api.specs.declared.param.Param.{Param}
use Rattle.pungi_world.specs.Calls.{stops, call_answer}
use Rattle.pungi_world.proofs.CallLemmas.{call_is}
use Rattle.pungi_world.proofs.calls.call.Goals as goal

pub returns : goal.returns
returns c =
    call_is c.args.world.now c.finish_own.new.world c.args.signature.now c.args.args.now c.args.choices.now
    c.in_ok-value.value c.in_ok-value.used
    (ap (λ (ps : List Param). stops ps c.args.args.now) (sym c.as_slice.ensures) ∙ sym c.stops.ensures
    ∙ c.if-stops.false)
    (ap (λ (n : ℕ). call_answer n c.args.signature.now.answer c.args.args.now c.args.choices.now) (sym c.len.ensures)
    ∙ sym c.in_ok-value.ensures)
    (sym c.in_ok-finish_own.ensures)
