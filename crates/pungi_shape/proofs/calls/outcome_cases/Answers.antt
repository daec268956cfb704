use Rattle.std.proofs.Common.{◌≤◌, length, arith}
use Rattle.pungi_api.specs.declared.answer.Answer.{Answer}
use Rattle.pungi_api.specs.declared.answer.Answer.TheVariants as answer
use Rattle.pungi_api.specs.declared.call_answer.CallAnswer.{CallAnswer}
use Rattle.pungi_api.specs.declared.call_answer.CallAnswer.TheVariants.{Of, Argument}
use Rattle.pungi_shape.specs.Calls.{outcomes_of, outcomes_of_row}
use Rattle.pungi_shape.proofs.calls.outcome_cases.Goals as goal

row_few : (a : Answer) → length (outcomes_of_row a) ≤ 3
row_few answer.New = omega arith
row_few answer.Borrowed = omega arith
row_few answer.BorrowedSure = omega arith
row_few answer.Status = omega arith
row_few answer.Truth = omega arith
row_few answer.Size = omega arith
row_few answer.Int = omega arith
row_few answer.Long = omega arith
row_few answer.Text = omega arith
row_few answer.Void = omega arith
row_few answer.Null = omega arith
row_few answer.Found = omega arith
row_few (answer.Converted failures least most) = omega arith
row_few answer.AnySize = omega arith
row_few answer.Flag = omega arith
row_few answer.TextSure = omega arith
row_few answer.Made = omega arith

few : (a : CallAnswer) → length (outcomes_of a) ≤ 3
few (Of a) = row_few a
few Argument = omega arith

pub add_outcomes-requires-clause-few : goal.add_outcomes-requires-clause-few
add_outcomes-requires-clause-few c = rw c.outcomes_of.ensures (few c.args.g.now.answer)
