-- Reading a table, one token at a time.
--   with_tokens found read    what was read, with the tokens that stand in front of it
--   closing_here awaited ts   the brace that closes the table, where no other bracket is awaited in it
use Rattle.std.specs.Prelude.{List, [], ◌∷◌, ◌++◌, Option, Some, None}
use Rattle.pungi_base.specs.declared.pos.Pos.{Pos}
use Rattle.pungi_base.specs.declared.punct.Punct.{Punct}
use Rattle.pungi_base.specs.declared.punct.Punct.TheVariants as puncts
use Rattle.pungi_parse.specs.tokens.OneToken.{eat}
use Rattle.pungi_parse.specs.Reading.{Read, ◌>>=◌, chain}
use Rattle.pungi_tree.specs.Placed.{Placed}

abbrev pub with_tokens : List Placed → Read (List Placed) → Read (List Placed)
with_tokens found read = read >>= λ more. Some (found ++ more.0, more.1)

abbrev pub closing_here : List Punct → List Placed → Option (Pos × List Placed)
closing_here [] ts = eat puncts.RightBrace ts
closing_here (m ∷ awaited) ts = None
