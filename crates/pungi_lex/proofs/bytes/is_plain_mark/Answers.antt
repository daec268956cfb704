use Rattle.std.proofs.Common.{refl, arith}
use Rattle.std.specs.Prelude.{codes}
use Rattle.pungi_lex.specs.declared.bytes.TheConstants.{CLASS}
use Rattle.pungi_lex.specs.Bytes.{is_one_of}
use Rattle.pungi_lex.proofs.ClassLemmas.{agree_below, from_table}
use Rattle.pungi_lex.proofs.bytes.is_plain_mark.Goals as goal

pub returns : goal.returns
unfolding agree_below
returns c = from_table CLASS 32 (is_one_of (codes "()[]{};,-+&*~!%<>=^|?:#")) c.args.b (omega arith) refl
