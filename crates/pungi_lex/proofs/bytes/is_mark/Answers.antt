use Rattle.std.proofs.Common.{refl, arith}
use Rattle.pungi_lex.specs.declared.bytes.TheConstants.{CLASS}
use Rattle.pungi_lex.specs.Start.{is_mark}
use Rattle.pungi_lex.proofs.ClassLemmas.{agree_below, from_table}
use Rattle.pungi_lex.proofs.bytes.is_mark.Goals as goal

pub returns : goal.returns
unfolding agree_below
returns c = from_table CLASS 8 is_mark c.args.b (omega arith) refl
