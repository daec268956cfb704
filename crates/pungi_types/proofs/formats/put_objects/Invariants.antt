use Rattle.std.proofs.Common.{◌≡◌, ◌++◌, ◌-◌, replicate}
use Rattle.pungi_api.specs.declared.answer.Answer.TheVariants as answers
use Rattle.pungi_types.specs.declared.wants.Want.TheVariants as wanted
use Rattle.pungi_types.proofs.formats.put_objects.Given as goal

abbrev pub invariant-loop : goal.invariant-loop
invariant-loop l =
    l.wants ++ replicate (l.count - l.counter) (wanted.Output answers.BorrowedSure)
    ≡ l.fn.wants ++ replicate l.count (wanted.Output answers.BorrowedSure)
