-- An operator stops the expression that stands before it.
--   operator_ends, assign_ends    a binary operator, an assignment operator
--   tight_ends, right_ends        what stops a unary expression or a cast, and the right side of an operator
use Rattle.std.proofs.Common.{◌≡◌, ℕ, suc, ◌+◌, ◌≤◌, true, List, ◌∷◌, None, refl, sym, ◌∙◌, subst, add-one, arith}
use Rattle.pungi_base.specs.declared.pos.Pos.{Pos}
use Rattle.pungi_base.specs.declared.punct.Punct.{Punct}
use Rattle.pungi_base.specs.declared.punct.Punct.TheVariants as puncts
use Rattle.pungi_parse.specs.tokens.OneToken.{eat_operator}
use Rattle.pungi_parse.proofs.tokens.Ends.{at_least, PostfixEnds, ExprEnds}
use Rattle.pungi_parse.proofs.expr.ExprSound.{at_least_same, none_so_tight}
use Rattle.pungi_tree.specs.Operators.{binary_level, is_assign}
use Rattle.pungi_tree.specs.Placed.{Placed, mark_at}

pub operator_ends : (m : Punct) (p : Pos) (ts : List Placed) → binary_level m ≤ 12 → PostfixEnds (mark_at m p ∷ ts)
operator_ends puncts.LeftParen p ts h = absurd (omega (arith, h))
operator_ends puncts.RightParen p ts h = absurd (omega (arith, h))
operator_ends puncts.LeftBracket p ts h = absurd (omega (arith, h))
operator_ends puncts.RightBracket p ts h = absurd (omega (arith, h))
operator_ends puncts.LeftBrace p ts h = absurd (omega (arith, h))
operator_ends puncts.RightBrace p ts h = absurd (omega (arith, h))
operator_ends puncts.Semicolon p ts h = absurd (omega (arith, h))
operator_ends puncts.Comma p ts h = absurd (omega (arith, h))
operator_ends puncts.Dot p ts h = absurd (omega (arith, h))
operator_ends puncts.Arrow p ts h = absurd (omega (arith, h))
operator_ends puncts.PlusPlus p ts h = absurd (omega (arith, h))
operator_ends puncts.MinusMinus p ts h = absurd (omega (arith, h))
operator_ends puncts.And p ts h =
    record { no_text = refl; no_call = refl; no_index = refl; no_dot = refl; no_arrow = refl; no_step = refl }
operator_ends puncts.Star p ts h =
    record { no_text = refl; no_call = refl; no_index = refl; no_dot = refl; no_arrow = refl; no_step = refl }
operator_ends puncts.Plus p ts h =
    record { no_text = refl; no_call = refl; no_index = refl; no_dot = refl; no_arrow = refl; no_step = refl }
operator_ends puncts.Minus p ts h =
    record { no_text = refl; no_call = refl; no_index = refl; no_dot = refl; no_arrow = refl; no_step = refl }
operator_ends puncts.Tilde p ts h = absurd (omega (arith, h))
operator_ends puncts.Not p ts h = absurd (omega (arith, h))
operator_ends puncts.Slash p ts h =
    record { no_text = refl; no_call = refl; no_index = refl; no_dot = refl; no_arrow = refl; no_step = refl }
operator_ends puncts.Percent p ts h =
    record { no_text = refl; no_call = refl; no_index = refl; no_dot = refl; no_arrow = refl; no_step = refl }
operator_ends puncts.ShiftLeft p ts h =
    record { no_text = refl; no_call = refl; no_index = refl; no_dot = refl; no_arrow = refl; no_step = refl }
operator_ends puncts.ShiftRight p ts h =
    record { no_text = refl; no_call = refl; no_index = refl; no_dot = refl; no_arrow = refl; no_step = refl }
operator_ends puncts.Less p ts h =
    record { no_text = refl; no_call = refl; no_index = refl; no_dot = refl; no_arrow = refl; no_step = refl }
operator_ends puncts.Greater p ts h =
    record { no_text = refl; no_call = refl; no_index = refl; no_dot = refl; no_arrow = refl; no_step = refl }
operator_ends puncts.LessEqual p ts h =
    record { no_text = refl; no_call = refl; no_index = refl; no_dot = refl; no_arrow = refl; no_step = refl }
operator_ends puncts.GreaterEqual p ts h =
    record { no_text = refl; no_call = refl; no_index = refl; no_dot = refl; no_arrow = refl; no_step = refl }
operator_ends puncts.Equal p ts h =
    record { no_text = refl; no_call = refl; no_index = refl; no_dot = refl; no_arrow = refl; no_step = refl }
operator_ends puncts.NotEqual p ts h =
    record { no_text = refl; no_call = refl; no_index = refl; no_dot = refl; no_arrow = refl; no_step = refl }
operator_ends puncts.Caret p ts h =
    record { no_text = refl; no_call = refl; no_index = refl; no_dot = refl; no_arrow = refl; no_step = refl }
operator_ends puncts.Or p ts h =
    record { no_text = refl; no_call = refl; no_index = refl; no_dot = refl; no_arrow = refl; no_step = refl }
operator_ends puncts.AndAnd p ts h =
    record { no_text = refl; no_call = refl; no_index = refl; no_dot = refl; no_arrow = refl; no_step = refl }
operator_ends puncts.OrOr p ts h =
    record { no_text = refl; no_call = refl; no_index = refl; no_dot = refl; no_arrow = refl; no_step = refl }
operator_ends puncts.Question p ts h = absurd (omega (arith, h))
operator_ends puncts.Colon p ts h = absurd (omega (arith, h))
operator_ends puncts.Assign p ts h = absurd (omega (arith, h))
operator_ends puncts.PlusAssign p ts h = absurd (omega (arith, h))
operator_ends puncts.MinusAssign p ts h = absurd (omega (arith, h))
operator_ends puncts.StarAssign p ts h = absurd (omega (arith, h))
operator_ends puncts.SlashAssign p ts h = absurd (omega (arith, h))
operator_ends puncts.PercentAssign p ts h = absurd (omega (arith, h))
operator_ends puncts.ShiftLeftAssign p ts h = absurd (omega (arith, h))
operator_ends puncts.ShiftRightAssign p ts h = absurd (omega (arith, h))
operator_ends puncts.AndAssign p ts h = absurd (omega (arith, h))
operator_ends puncts.CaretAssign p ts h = absurd (omega (arith, h))
operator_ends puncts.OrAssign p ts h = absurd (omega (arith, h))
operator_ends puncts.Ellipsis p ts h = absurd (omega (arith, h))
operator_ends puncts.Hash p ts h = absurd (omega (arith, h))
operator_ends puncts.HashHash p ts h = absurd (omega (arith, h))

pub assign_ends : (m : Punct) (p : Pos) (ts : List Placed) → is_assign m ≡ true → ExprEnds 2 (mark_at m p ∷ ts)
assign_ends puncts.LeftParen p ts h = absurd (cc)
assign_ends puncts.RightParen p ts h = absurd (cc)
assign_ends puncts.LeftBracket p ts h = absurd (cc)
assign_ends puncts.RightBracket p ts h = absurd (cc)
assign_ends puncts.LeftBrace p ts h = absurd (cc)
assign_ends puncts.RightBrace p ts h = absurd (cc)
assign_ends puncts.Semicolon p ts h = absurd (cc)
assign_ends puncts.Comma p ts h = absurd (cc)
assign_ends puncts.Dot p ts h = absurd (cc)
assign_ends puncts.Arrow p ts h = absurd (cc)
assign_ends puncts.PlusPlus p ts h = absurd (cc)
assign_ends puncts.MinusMinus p ts h = absurd (cc)
assign_ends puncts.And p ts h = absurd (cc)
assign_ends puncts.Star p ts h = absurd (cc)
assign_ends puncts.Plus p ts h = absurd (cc)
assign_ends puncts.Minus p ts h = absurd (cc)
assign_ends puncts.Tilde p ts h = absurd (cc)
assign_ends puncts.Not p ts h = absurd (cc)
assign_ends puncts.Slash p ts h = absurd (cc)
assign_ends puncts.Percent p ts h = absurd (cc)
assign_ends puncts.ShiftLeft p ts h = absurd (cc)
assign_ends puncts.ShiftRight p ts h = absurd (cc)
assign_ends puncts.Less p ts h = absurd (cc)
assign_ends puncts.Greater p ts h = absurd (cc)
assign_ends puncts.LessEqual p ts h = absurd (cc)
assign_ends puncts.GreaterEqual p ts h = absurd (cc)
assign_ends puncts.Equal p ts h = absurd (cc)
assign_ends puncts.NotEqual p ts h = absurd (cc)
assign_ends puncts.Caret p ts h = absurd (cc)
assign_ends puncts.Or p ts h = absurd (cc)
assign_ends puncts.AndAnd p ts h = absurd (cc)
assign_ends puncts.OrOr p ts h = absurd (cc)
assign_ends puncts.Question p ts h = absurd (cc)
assign_ends puncts.Colon p ts h = absurd (cc)
assign_ends puncts.Assign p ts h =
    record {
      no_postfix = record {
        no_text = refl;
        no_call = refl;
        no_index = refl;
        no_dot = refl;
        no_arrow = refl;
        no_step = refl;
      };
      no_operator = refl;
      no_question = λ _. refl;
      no_assign = λ k. absurd (omega (arith, k));
      no_comma = λ k. absurd (omega (arith, k));
    }
assign_ends puncts.PlusAssign p ts h =
    record {
      no_postfix = record {
        no_text = refl;
        no_call = refl;
        no_index = refl;
        no_dot = refl;
        no_arrow = refl;
        no_step = refl;
      };
      no_operator = refl;
      no_question = λ _. refl;
      no_assign = λ k. absurd (omega (arith, k));
      no_comma = λ k. absurd (omega (arith, k));
    }
assign_ends puncts.MinusAssign p ts h =
    record {
      no_postfix = record {
        no_text = refl;
        no_call = refl;
        no_index = refl;
        no_dot = refl;
        no_arrow = refl;
        no_step = refl;
      };
      no_operator = refl;
      no_question = λ _. refl;
      no_assign = λ k. absurd (omega (arith, k));
      no_comma = λ k. absurd (omega (arith, k));
    }
assign_ends puncts.StarAssign p ts h =
    record {
      no_postfix = record {
        no_text = refl;
        no_call = refl;
        no_index = refl;
        no_dot = refl;
        no_arrow = refl;
        no_step = refl;
      };
      no_operator = refl;
      no_question = λ _. refl;
      no_assign = λ k. absurd (omega (arith, k));
      no_comma = λ k. absurd (omega (arith, k));
    }
assign_ends puncts.SlashAssign p ts h =
    record {
      no_postfix = record {
        no_text = refl;
        no_call = refl;
        no_index = refl;
        no_dot = refl;
        no_arrow = refl;
        no_step = refl;
      };
      no_operator = refl;
      no_question = λ _. refl;
      no_assign = λ k. absurd (omega (arith, k));
      no_comma = λ k. absurd (omega (arith, k));
    }
assign_ends puncts.PercentAssign p ts h =
    record {
      no_postfix = record {
        no_text = refl;
        no_call = refl;
        no_index = refl;
        no_dot = refl;
        no_arrow = refl;
        no_step = refl;
      };
      no_operator = refl;
      no_question = λ _. refl;
      no_assign = λ k. absurd (omega (arith, k));
      no_comma = λ k. absurd (omega (arith, k));
    }
assign_ends puncts.ShiftLeftAssign p ts h =
    record {
      no_postfix = record {
        no_text = refl;
        no_call = refl;
        no_index = refl;
        no_dot = refl;
        no_arrow = refl;
        no_step = refl;
      };
      no_operator = refl;
      no_question = λ _. refl;
      no_assign = λ k. absurd (omega (arith, k));
      no_comma = λ k. absurd (omega (arith, k));
    }
assign_ends puncts.ShiftRightAssign p ts h =
    record {
      no_postfix = record {
        no_text = refl;
        no_call = refl;
        no_index = refl;
        no_dot = refl;
        no_arrow = refl;
        no_step = refl;
      };
      no_operator = refl;
      no_question = λ _. refl;
      no_assign = λ k. absurd (omega (arith, k));
      no_comma = λ k. absurd (omega (arith, k));
    }
assign_ends puncts.AndAssign p ts h =
    record {
      no_postfix = record {
        no_text = refl;
        no_call = refl;
        no_index = refl;
        no_dot = refl;
        no_arrow = refl;
        no_step = refl;
      };
      no_operator = refl;
      no_question = λ _. refl;
      no_assign = λ k. absurd (omega (arith, k));
      no_comma = λ k. absurd (omega (arith, k));
    }
assign_ends puncts.CaretAssign p ts h =
    record {
      no_postfix = record {
        no_text = refl;
        no_call = refl;
        no_index = refl;
        no_dot = refl;
        no_arrow = refl;
        no_step = refl;
      };
      no_operator = refl;
      no_question = λ _. refl;
      no_assign = λ k. absurd (omega (arith, k));
      no_comma = λ k. absurd (omega (arith, k));
    }
assign_ends puncts.OrAssign p ts h =
    record {
      no_postfix = record {
        no_text = refl;
        no_call = refl;
        no_index = refl;
        no_dot = refl;
        no_arrow = refl;
        no_step = refl;
      };
      no_operator = refl;
      no_question = λ _. refl;
      no_assign = λ k. absurd (omega (arith, k));
      no_comma = λ k. absurd (omega (arith, k));
    }
assign_ends puncts.Ellipsis p ts h = absurd (cc)
assign_ends puncts.Hash p ts h = absurd (cc)
assign_ends puncts.HashHash p ts h = absurd (cc)

-- what stops a postfix expression stops a unary one and a cast
pub tight_ends : (l : ℕ) (ts : List Placed) → 13 ≤ l → PostfixEnds ts → ExprEnds l ts
tight_ends l ts h e =
    record {
      no_postfix = e;
      no_operator = none_so_tight l ts h;
      no_question = λ k. absurd (omega (arith, h, k));
      no_assign = λ k. absurd (omega (arith, h, k));
      no_comma = λ k. absurd (omega (arith, h, k));
    }

-- what stops the right side of an operator
pub right_ends : (l : ℕ) (ts : List Placed) → 3 ≤ l → PostfixEnds ts → eat_operator (suc l) ts ≡ None → ExprEnds (l + 1) ts
right_ends l ts h e o =
    let same : at_least (l + 1) ≡ suc l = at_least_same (l + 1) (omega (arith, h)) ∙ add-one l in
    record {
      no_postfix = e;
      no_operator = subst (λ m. eat_operator m ts ≡ None) (sym same) o;
      no_question = λ k.
          absurd (omega (arith, h, k));
      no_assign = λ k. absurd (omega (arith, h, k));
      no_comma = λ k. absurd
          (omega (arith, h, k));
    }
