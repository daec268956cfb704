-- Where reading stops: the tokens after a tree do not go on with it. Each field is one test of the readers that finds
-- nothing.
--   at_least l        the lowest level of a binary operator that goes on with an expression that is read at level `l`
--   PostfixEnds rest  nothing goes on with a primary or postfix expression
--   ExprEnds l rest   nothing goes on with an expression that is read at level `l`
--   SpecEnds rest     nothing goes on with a type before its pointers
--   StarsEnd rest     nothing goes on with pointers
--   DeclrEnds rest    nothing goes on with a declarator
--   ends_at_paren, ends_at_bracket, ends_at_semicolon, ends_at_colon, ends_at_comma    such a mark stops expressions
--   ends_at_assignment, ends_at_conditional    what stops an expression stops one of level 1 or 2
use Rattle.std.proofs.Common.{◌≡◌, ℕ, zero, suc, ◌≤◌, List, ◌∷◌, None, refl, arith}
use Rattle.pungi_base.specs.declared.key.Key.TheVariants as keys
use Rattle.pungi_base.specs.declared.pos.Pos.{Pos}
use Rattle.pungi_base.specs.declared.punct.Punct.TheVariants as puncts
use Rattle.pungi_parse.specs.tokens.OneToken.{eat, eat_key, eat_text, eat_listed, eat_operator, eat_assign, eat_step}
use Rattle.pungi_tree.specs.Operators.{is_base_word}
use Rattle.pungi_tree.specs.Placed.{Placed, mark_at}

abbrev pub at_least : ℕ → ℕ
at_least zero = 3
at_least (suc zero) = 3
at_least (suc (suc zero)) = 3
at_least (suc (suc (suc l))) = suc (suc (suc l))

pub record PostfixEnds (rest : List Placed) : Type 0 where
  pub no_text : eat_text rest ≡ None
  pub no_call : eat puncts.LeftParen rest ≡ None
  pub no_index : eat puncts.LeftBracket rest ≡ None
  pub no_dot : eat puncts.Dot rest ≡ None
  pub no_arrow : eat puncts.Arrow rest ≡ None
  pub no_step : eat_step rest ≡ None

pub record ExprEnds (l : ℕ) (rest : List Placed) : Type 0 where
  pub no_postfix : PostfixEnds rest
  pub no_operator : eat_operator (at_least l) rest ≡ None
  pub no_question : l ≤ 2 → eat puncts.Question rest ≡ None
  pub no_assign : l ≤ 1 → eat_assign rest ≡ None
  pub no_comma : l ≡ 0 → eat puncts.Comma rest ≡ None

pub record SpecEnds (rest : List Placed) : Type 0 where
  pub no_const : eat_key keys.Const rest ≡ None
  pub no_base_word : eat_listed is_base_word rest ≡ None
  pub no_brace : eat puncts.LeftBrace rest ≡ None

pub record StarsEnd (rest : List Placed) : Type 0 where
  pub no_star : eat puncts.Star rest ≡ None
  pub no_const : eat_key keys.Const rest ≡ None

pub record DeclrEnds (rest : List Placed) : Type 0 where
  pub no_size : eat puncts.LeftBracket rest ≡ None

pub ends_at_paren : (q : Pos) (ts : List Placed) → ExprEnds 0 (mark_at puncts.RightParen q ∷ ts)
ends_at_paren q ts =
    record {
      no_postfix = record {
        no_text = refl;
        no_call = refl;
        no_index = refl;
        no_dot = refl;
        no_arrow = refl;
        no_step = refl;
      };
      no_operator = refl;
      no_question = λ _. refl;
      no_assign = λ _. refl;
      no_comma = λ _. refl;
    }

pub ends_at_bracket : (q : Pos) (ts : List Placed) → ExprEnds 0 (mark_at puncts.RightBracket q ∷ ts)
ends_at_bracket q ts =
    record {
      no_postfix = record {
        no_text = refl;
        no_call = refl;
        no_index = refl;
        no_dot = refl;
        no_arrow = refl;
        no_step = refl;
      };
      no_operator = refl;
      no_question = λ _. refl;
      no_assign = λ _. refl;
      no_comma = λ _. refl;
    }

pub ends_at_semicolon : (q : Pos) (ts : List Placed) → ExprEnds 0 (mark_at puncts.Semicolon q ∷ ts)
ends_at_semicolon q ts =
    record {
      no_postfix = record {
        no_text = refl;
        no_call = refl;
        no_index = refl;
        no_dot = refl;
        no_arrow = refl;
        no_step = refl;
      };
      no_operator = refl;
      no_question = λ _. refl;
      no_assign = λ _. refl;
      no_comma = λ _. refl;
    }

pub ends_at_colon : (q : Pos) (ts : List Placed) → ExprEnds 0 (mark_at puncts.Colon q ∷ ts)
ends_at_colon q ts =
    record {
      no_postfix = record {
        no_text = refl;
        no_call = refl;
        no_index = refl;
        no_dot = refl;
        no_arrow = refl;
        no_step = refl;
      };
      no_operator = refl;
      no_question = λ _. refl;
      no_assign = λ _. refl;
      no_comma = λ _. refl;
    }

pub ends_at_comma : (q : Pos) (ts : List Placed) → ExprEnds 1 (mark_at puncts.Comma q ∷ ts)
ends_at_comma q ts =
    record {
      no_postfix = record {
        no_text = refl;
        no_call = refl;
        no_index = refl;
        no_dot = refl;
        no_arrow = refl;
        no_step = refl;
      };
      no_operator = refl;
      no_question = λ _. refl;
      no_assign = λ _. refl;
      no_comma = λ h. absurd
          (omega (arith, h));
    }

-- what stops an expression of level 0 stops one of level 1 or 2 too
pub ends_at_assignment : (ts : List Placed) → ExprEnds 0 ts → ExprEnds 1 ts
ends_at_assignment ts e =
    record {
      no_postfix = e.no_postfix;
      no_operator = e.no_operator;
      no_question = λ _. e.no_question (omega arith);
      no_assign = λ _. e.no_assign (omega arith);
      no_comma = λ h. absurd (omega (arith, h));
    }

pub ends_at_conditional : (ts : List Placed) → ExprEnds 0 ts → ExprEnds 2 ts
ends_at_conditional ts e =
    record {
      no_postfix = e.no_postfix;
      no_operator = e.no_operator;
      no_question = λ _. e.no_question (omega arith);
      no_assign = λ h. absurd (omega (arith, h));
      no_comma = λ h. absurd (omega (arith, h));
    }
