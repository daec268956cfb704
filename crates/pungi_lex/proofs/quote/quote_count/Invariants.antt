use Rattle.std.proofs.Common.{◌≡◌, drop, false}
use Rattle.pungi_lex.specs.Quote.{quote_count}
use Rattle.pungi_lex.specs.Lengths.{add_to}
use Rattle.pungi_lex.proofs.quote.quote_count.Given as goal

abbrev pub invariant-loop-i : goal.invariant-loop-i
invariant-loop-i l = quote_count false l.text ≡ add_to l.i (quote_count l.taken (drop l.i l.text))
