use Rattle.std.proofs.Common.{length, sym, ap, ◌∙◌, arith}
use Rattle.std.proofs.lemmas.List.{drop_all}
use Rattle.pungi_inline.specs.FirstCall.{first_call}
use Rattle.pungi_inline.proofs.CallsLeft.{none_left}
use Rattle.pungi_inline.proofs.first_calls.first_call.Goals as goal

pub returns-clause-none : goal.returns-clause-none
returns-clause-none c = λ _.
    none_left c.args.code.now.instrs
    (sym c.loop-line.invariant ∙ ap first_call (drop_all c.loop-line.line-index c.args.code.now.instrs (omega (
      arith,
      ap length
          c.as_slice-line-items.ensures,
    ))))
