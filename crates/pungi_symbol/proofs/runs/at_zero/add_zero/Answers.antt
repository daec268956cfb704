use Rattle.pungi_symbol.proofs.runs.at_zero.add_zero.Goals as goal

pub returns-in-Token : goal.returns-in-Token
returns-in-Token c = rw c.in-Token.is c.add_number.ensures
