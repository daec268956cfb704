-- The brackets that are awaited in a table.
--   closer_mark c     the punctuator that a closing bracket is
--   awaited_marks cs  those that are awaited, the innermost first, where it stands last in the list
use Rattle.std.specs.Prelude.{List, map, reverse}
use Rattle.pungi_base.specs.declared.punct.Punct.{Punct}
use Rattle.pungi_base.specs.declared.punct.Punct.TheVariants as puncts
use Rattle.pungi_parse.specs.declared.tokens.closing_bracket.Closer.{Closer}
use Rattle.pungi_parse.specs.declared.tokens.closing_bracket.Closer.TheVariants as closers

abbrev pub closer_mark : Closer → Punct
closer_mark closers.Paren = puncts.RightParen
closer_mark closers.Bracket = puncts.RightBracket
closer_mark closers.Brace = puncts.RightBrace

abbrev pub awaited_marks : List Closer → List Punct
awaited_marks cs = reverse (map closer_mark cs)
