-- What stands at the front of the tokens of a tree, said by the tests of the readers.
--   is_expr_key k, is_expr_mark m    an expression may begin with this keyword, with this punctuator
--   ExprBegins types ts    tokens with which an expression begins: no declaration, and no keyword or punctuator that
--                          begins none
--   TypeBegins types ts    tokens with which a type begins
--   DeclBegins types ts    tokens with which a declaration begins
use Rattle.std.proofs.Common.{◌≡◌, Bool, true, false, List, None}
use Rattle.std.specs.Prelude.{nat_le}
use Rattle.pungi_base.specs.declared.key.Key.{Key}
use Rattle.pungi_base.specs.declared.key.Key.TheVariants as keys
use Rattle.pungi_base.specs.declared.names.Name.{Name}
use Rattle.pungi_base.specs.declared.punct.Punct.{Punct}
use Rattle.pungi_base.specs.declared.punct.Punct.TheVariants as puncts
use Rattle.pungi_parse.specs.tokens.OneToken.{eat, eat_key, eat_listed}
use Rattle.pungi_parse.specs.types.TypeReader.{plain_word, begins_type, begins_decl}
use Rattle.pungi_tree.specs.Operators.{is_qualifier, prefix_mark_need}
use Rattle.pungi_tree.specs.Placed.{Placed}

abbrev pub is_expr_key : Key → Bool
is_expr_key keys.Sizeof = true
is_expr_key keys.Null = true
is_expr_key _ = false

abbrev pub is_expr_mark : Punct → Bool
is_expr_mark puncts.LeftParen = true
is_expr_mark m = nat_le (prefix_mark_need m) 14

pub record ExprBegins (types : List Name) (ts : List Placed) : Type 0 where
  pub no_decl : begins_decl types ts ≡ false
  pub no_type : begins_type types ts ≡ false
  pub no_key : (k : Key) → is_expr_key k ≡ false → eat_key k ts ≡ None
  pub no_mark : (m : Punct) → is_expr_mark m ≡ false → eat m ts ≡ None

pub record TypeBegins (types : List Name) (ts : List Placed) : Type 0 where
  pub begins : begins_type types ts ≡ true
  pub no_plain_word : plain_word types ts ≡ None
  pub no_qualifier : eat_listed is_qualifier ts ≡ None
  pub no_typedef : eat_key keys.Typedef ts ≡ None
  pub no_mark : (m : Punct) → eat m ts ≡ None

pub record DeclBegins (types : List Name) (ts : List Placed) : Type 0 where
  pub begins : begins_decl types ts ≡ true
  pub no_plain_word : plain_word types ts ≡ None
  pub no_typedef : eat_key keys.Typedef ts ≡ None
  pub no_mark : (m : Punct) → eat m ts ≡ None
