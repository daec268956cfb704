-- Tokens in which the three kinds of brackets match.
--   awaited_by k, closing k    the bracket that one that opens awaits, and the bracket that closes; none for any other
--                              token. awaited_by_mark and closing_mark say it of a punctuator
--   is_right_paren, is_right_bracket, is_right_brace    this closing bracket
--   is_same m n                the same closing bracket
--   closed m awaited           the brackets that are awaited once a closing one was read, where it is the innermost
--                              that was
--   after_bracket left right awaited    the brackets that are awaited once one was read that awaits `left`, or that is
--                                       `right`
--   none_awaited, holds_of     no bracket is awaited; the test holds of what is there
--   awaited_after k awaited    the brackets that are awaited once a token was read, the innermost first; none where it
--                              closes another one
--   closes ts awaited          the tokens close the brackets that are awaited, and all that they open
--   is_balanced ts             the tokens close all that they open, and nothing else
use Rattle.std.specs.Prelude.{Bool, true, false, if◌then◌else◌, List, [], ◌∷◌, Option, Some, None}
use Rattle.pungi_base.specs.declared.kind.Kind.{Kind}
use Rattle.pungi_base.specs.declared.kind.Kind.TheVariants as kind
use Rattle.pungi_base.specs.declared.punct.Punct.{Punct}
use Rattle.pungi_base.specs.declared.punct.Punct.TheVariants as puncts
use Rattle.pungi_tree.specs.Placed.{Placed}

abbrev pub awaited_by_mark : Punct → Option Punct
awaited_by_mark puncts.LeftParen = Some puncts.RightParen
awaited_by_mark puncts.LeftBracket = Some puncts.RightBracket
awaited_by_mark puncts.LeftBrace = Some puncts.RightBrace
awaited_by_mark _ = None

abbrev pub awaited_by : Kind → Option Punct
awaited_by (kind.Punct m) = awaited_by_mark m
awaited_by _ = None

abbrev pub closing_mark : Punct → Option Punct
closing_mark puncts.RightParen = Some puncts.RightParen
closing_mark puncts.RightBracket = Some puncts.RightBracket
closing_mark puncts.RightBrace = Some puncts.RightBrace
closing_mark _ = None

abbrev pub closing : Kind → Option Punct
closing (kind.Punct m) = closing_mark m
closing _ = None

abbrev pub is_right_paren : Punct → Bool
is_right_paren puncts.RightParen = true
is_right_paren _ = false

abbrev pub is_right_bracket : Punct → Bool
is_right_bracket puncts.RightBracket = true
is_right_bracket _ = false

abbrev pub is_right_brace : Punct → Bool
is_right_brace puncts.RightBrace = true
is_right_brace _ = false

abbrev pub is_same : Punct → Punct → Bool
is_same puncts.RightParen n = is_right_paren n
is_same puncts.RightBracket n = is_right_bracket n
is_same puncts.RightBrace n = is_right_brace n
is_same _ n = false

abbrev pub closed : Punct → List Punct → Option (List Punct)
closed m [] = None
closed m (n ∷ awaited) = if is_same m n then Some awaited else None

abbrev pub after_bracket : Option Punct → Option Punct → List Punct → Option (List Punct)
after_bracket (Some m) right awaited = Some (m ∷ awaited)
after_bracket None (Some m) awaited = closed m awaited
after_bracket None None awaited = Some awaited

abbrev pub awaited_after : Kind → List Punct → Option (List Punct)
awaited_after k awaited = after_bracket (awaited_by k) (closing k) awaited

abbrev pub none_awaited : List Punct → Bool
none_awaited [] = true
none_awaited (m ∷ awaited) = false

abbrev pub holds_of : Option (List Punct) → (List Punct → Bool) → Bool
holds_of None test = false
holds_of (Some awaited) test = test awaited

abbrev pub closes : List Placed → List Punct → Bool
closes [] awaited = none_awaited awaited
closes (t ∷ ts) awaited = holds_of (awaited_after t.0 awaited) (closes ts)

abbrev pub is_balanced : List Placed → Bool
is_balanced ts = closes ts []
