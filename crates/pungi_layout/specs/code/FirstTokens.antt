-- Where the text of an expression begins: the node of an operator between or after its operands stands at the operator,
-- and its text begins with that of its left operand. What is said of a condition stands there.
--   first_token v                  the place of the first token of an expression
--   place_token place              .. of what is read or assigned to: with `->`, that of its base
-- A `converted` that an expression begins with is a cast: other conversions are of a right operand of `=`, of an
-- argument or of a first value.
use Rattle.std.specs.Prelude.{true, false}
use Rattle.pungi_base.specs.declared.pos.Pos.{Pos}
use Rattle.pungi_resolved.specs.Values as expr
use Rattle.pungi_meaning.specs.Run.{nowhere}

abbrev mutual
  pub first_token : expr.Value → Pos
  first_token (expr.read p kind place) = place_token place
  first_token (expr.stepped p true m kind place) = place_token place
  first_token (expr.emptied p kind place) = place_token place
  first_token (expr.computed p m kind a b) = first_token a
  first_token (expr.compared p m a b) = first_token a
  first_token (expr.joined_by p m a b) = first_token a
  first_token (expr.stored p kind place v) = place_token place
  first_token (expr.updated p m counted kind place v) = place_token place
  first_token (expr.chosen p c a b) = first_token c
  first_token (expr.constant p n) = p
  first_token (expr.text_of p ns) = p
  first_token (expr.null_of p) = p
  first_token (expr.static_of p n) = p
  first_token (expr.module_of p n) = p
  first_token (expr.inner p v) = p
  first_token (expr.signed p m kind v) = p
  first_token (expr.negated p v) = p
  first_token (expr.stepped p false m kind place) = p
  first_token (expr.converted p kind v) = p
  first_token (expr.cast_of p v) = p
  first_token (expr.dropped p v) = p
  first_token (expr.called p f vs) = p
  first_token (expr.called_row p n g vs) = p
  first_token (expr.called_unless_null p n g vs) = p
  first_token (expr.called_with_outputs p n g vs steps) = p
  first_token (expr.nonsense p) = p

  pub place_token : expr.Place → Pos
  place_token (expr.local_place p x) = p
  place_token (expr.global_place p n) = p
  place_token (expr.field_place p base tag field) = first_token base
  place_token expr.no_place = nowhere
