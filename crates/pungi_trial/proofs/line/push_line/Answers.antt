use Rattle.std.proofs.Common.{◌≡◌, ◌%◌, arith}
use Rattle.pungi_trial.proofs.line.push_line.Goals as goal

pub returns-in-1 : goal.returns-in-1
returns-in-1 c = rw c.in-1.is c.push_text.ensures

pub returns-in-2 : goal.returns-in-2
returns-in-2 c = rw c.in-2.is c.push_text-in-2.ensures

pub returns-in-3 : goal.returns-in-3
returns-in-3 c = rw c.in-3.is c.push_text-in-3.ensures

pub returns-in-4 : goal.returns-in-4
returns-in-4 c = rw c.in-4.is c.push_text-in-4.ensures

pub returns-in_default : goal.returns-in_default
returns-in_default c =
    let zero : c.args.k % 5 ≡ 0 = omega arith in
    rw zero c.push_text-in_default.ensures
