use Rattle.std.proofs.Common.{refl, arith}
use Rattle.pungi_lex.specs.declared.bytes.TheConstants.{CLASS}
use Rattle.pungi_lex.specs.Bytes.{is_blank}
use Rattle.pungi_lex.proofs.ClassLemmas.{agree_below, from_table}
use Rattle.pungi_lex.proofs.bytes.is_blank.Goals as goal

pub returns : goal.returns
unfolding agree_below
returns c = from_table CLASS 1 is_blank c.args.b (omega arith) refl
