use Rattle.std.proofs.Common.{refl, arith}
use Rattle.pungi_lex.specs.declared.bytes.TheConstants.{CLASS}
use Rattle.pungi_lex.specs.Bytes.{is_word_byte}
use Rattle.pungi_lex.proofs.ClassLemmas.{agree_below, from_table}
use Rattle.pungi_lex.proofs.bytes.is_word_byte.Goals as goal

pub returns : goal.returns
unfolding agree_below
returns c = from_table CLASS 6 is_word_byte c.args.b (omega arith) refl
