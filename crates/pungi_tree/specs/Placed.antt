-- Tokens by what they are and where they stand, as a tree spells them.
--   Placed            a kind with its place
--   placed tokens     the tokens of a text in this form
--   kinds tokens      their kinds
--   mark_at, key_at, word_at, text_at    a punctuator, a keyword, a word or a text, each at a place
--   first_place ts    the place of the first token
use Rattle.std.specs.Prelude.{List, [], ◌∷◌, map, Option, Some, None}
use Rattle.pungi_base.specs.declared.key.Key.{Key}
use Rattle.pungi_base.specs.declared.kind.Kind.{Kind}
use Rattle.pungi_base.specs.declared.kind.Kind.TheVariants as kind
use Rattle.pungi_base.specs.declared.names.Name.{Name}
use Rattle.pungi_base.specs.declared.pos.Pos.{Pos}
use Rattle.pungi_base.specs.declared.punct.Punct.{Punct}
use Rattle.pungi_base.specs.declared.token.Token.{Token}

abbrev pub Placed : Type 0
Placed = Kind × Pos

abbrev pub placed : List Token → List Placed
placed tokens = map (λ t. (t.kind, t.pos)) tokens

abbrev pub kinds : List Placed → List Kind
kinds ts = map (λ t. t.0) ts

abbrev pub mark_at : Punct → Pos → Placed
mark_at m p = (kind.Punct m, p)

abbrev pub key_at : Key → Pos → Placed
key_at k p = (kind.Key k, p)

abbrev pub word_at : Name → Pos → Placed
word_at n p = (kind.Word n, p)

abbrev pub text_at : Name → Pos → Placed
text_at n p = (kind.Text n, p)

abbrev pub first_place : List Placed → Option Pos
first_place [] = None
first_place (t ∷ ts) = Some t.1
