-- What the lowering requires of a node.
--   is_minus m             a sign is a minus
--   has_value a, has_call_value a    the answer of a row, and that of a call, is a value
--   gives v                an expression leaves a value; a call that returns nothing doesn't
--   is_converted kind      what is counted in the wide kind is converted to this kind
--   base_of place          the base of a field
use Rattle.std.specs.Prelude.{Bool, true, false, not}
use Rattle.pungi_base.specs.declared.kind.Kind.{Kind}
use Rattle.pungi_base.specs.declared.kind.Kind.TheVariants as tokens
use Rattle.pungi_base.specs.declared.punct.Punct.TheVariants as puncts
use Rattle.pungi_api.specs.declared.answer.Answer.{Answer}
use Rattle.pungi_api.specs.declared.answer.Answer.TheVariants as answer
use Rattle.pungi_api.specs.declared.call_answer.CallAnswer.{CallAnswer}
use Rattle.pungi_api.specs.declared.call_answer.CallAnswer.TheVariants.{Of, Argument}
use Rattle.pungi_resolved.specs.Values as expr
use Rattle.pungi_types.specs.Operators.{is_void}

abbrev pub is_minus : Kind → Bool
is_minus (tokens.Punct puncts.Minus) = true
is_minus m = false

abbrev pub has_value : Answer → Bool
has_value answer.Void = false
has_value a = true

abbrev pub has_call_value : CallAnswer → Bool
has_call_value (Of a) = has_value a
has_call_value Argument = true

abbrev pub gives : expr.Value → Bool
gives (expr.called p f vs) = not (is_void f.result)
gives (expr.called_row p n g vs) = has_call_value g.answer
gives (expr.called_unless_null p n g vs) = has_call_value g.answer
gives (expr.inner p v) = gives v
gives (expr.cast_of p v) = gives v
gives (expr.dropped p v) = gives v
gives v = true
