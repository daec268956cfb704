-- How an expression of a function in which no rule holds is resolved.
--   convert_some, convert p to from v    a conversion between two integer kinds that differ
--   want_kind           the kind of a wanted argument
--   given_param k, given_params env es    what arguments of these kinds are where any is taken
--   wanted_kind, or_zero, called_function env n c    the function of the file that is called by a name, with the kinds
--                       that it takes and gives; where there is none of that name, its number is 0
--   special_value, row_value    a call of a row, by the rule of its own that it has
--   read_as, word_place, word_value, int_value, field_of, or_int, binary_value, assign_value, cast_value, call_value,
--   made_value, callee_name, static_address, module_address, post_kind,
--   unary_value         a node from what is known of its parts
--   resolve env e, place_of env e, resolve_all env ws es    an expression, as a place, and arguments
use Rattle.std.specs.Prelude.{ℕ, ℤ, pos, true, false, ◌&&◌, ◌||◌, not, List, [], ◌∷◌, map, Option, Some, None}
use Rattle.std.specs.Prelude.{if◌then◌else◌}
use Rattle.pungi_base.specs.Numbers.{py_object_new}
use Rattle.pungi_base.specs.declared.kind.Kind.{Kind}
use Rattle.pungi_base.specs.declared.kind.Kind.TheVariants as tokens
use Rattle.pungi_base.specs.declared.names.Name.{Name}
use Rattle.pungi_base.specs.declared.pos.Pos.{Pos}
use Rattle.pungi_base.specs.declared.punct.Punct.{Punct}
use Rattle.pungi_api.specs.declared.param.Param.{Param}
use Rattle.pungi_api.specs.declared.param.Param.TheVariants as params
use Rattle.pungi_api.specs.declared.row.Row.{Row}
use Rattle.pungi_api.specs.declared.special.Special.{Special}
use Rattle.pungi_api.specs.declared.special.Special.TheVariants as specials
use Rattle.pungi_api.specs.Signatures.{signature_of, made_signature}
use Rattle.pungi_tree.specs.Syntax.{Expr, word, int, float, char, text, null, paren, unary, post, binary, assign}
use Rattle.pungi_tree.specs.Syntax.{conditional, comma, cast, size_of_type, call, new, index, dot, arrow, Exprs}
use Rattle.pungi_tree.specs.Syntax.{no_exprs, expr_and}
use Rattle.pungi_types.specs.Files.{definitions, number_in}
use Rattle.pungi_types.specs.Kinds.{type_name_kind}
use Rattle.pungi_types.specs.Names.{Env, Meaning, a_local, a_global, a_static, meaning_of, static_number}
use Rattle.pungi_types.specs.Operators.{prefix_of, is_arithmetic, is_order, is_equality, is_arithmetic_assign}
use Rattle.pungi_types.specs.Operators.{is_integer, is_int, is_void, is_same_kind, wider, struct_part}
use Rattle.pungi_resolved.specs.declared.callee.CalledFunction.{CalledFunction}
use Rattle.pungi_resolved.specs.Values.{Value, constant, text_of, null_of, static_of, module_of, read, inner, signed}
use Rattle.pungi_resolved.specs.Values.{negated, stepped, emptied, computed, compared, joined_by, stored, updated}
use Rattle.pungi_resolved.specs.Values.{chosen, converted, cast_of, dropped, called, called_row, nonsense, Values}
use Rattle.pungi_resolved.specs.Values.{no_values, value_and, Place, local_place, global_place, field_place, no_place}
use Rattle.pungi_resolved.specs.declared.output_step.OutputStep.{OutputStep}
use Rattle.pungi_resolve.specs.Outputs.{outputs_of, number_in_front, parse_value, unpack_value, next_value, build_value}
use Rattle.pungi_types.specs.Labels.{byte}
use Rattle.pungi_types.specs.Calls.{is_module_address, is_place, wants, wants_module, wants_place, wants_output}
use Rattle.pungi_types.specs.Calls.{special_form, call_wants, other_wants, callee, Callee, defined, a_row, result_kind}
use Rattle.pungi_types.specs.Exprs.{int_kind, kind_of}
use Rattle.pungi_types.specs.Formats.{arg_at, expr_pos, format_at}
use Rattle.pungi_types.specs.declared.wants.Want.{Want}
use Rattle.pungi_types.specs.declared.wants.Want.TheVariants as wanted
use Rattle.pungi_types.specs.declared.operator.Prefix.{Prefix}
use Rattle.pungi_types.specs.declared.operator.Prefix.TheVariants as prefixes
use Rattle.pungi_types.specs.declared.kind.ValueKind.{ValueKind}
use Rattle.pungi_types.specs.declared.kind.ValueKind.TheVariants as kinds

abbrev pub convert_some : Pos → Option ValueKind → Value → Value
convert_some p None v = v
convert_some p (Some k) v = converted p k v

-- to this kind from that: only between two integer kinds that differ
abbrev pub convert : Pos → Option ValueKind → Option ValueKind → Value → Value
convert p to from v =
    (if is_integer to && (is_integer from && not (is_same_kind to from)) then convert_some p to v else v)

-- a counted argument is passed as a size
abbrev pub want_kind : List Want → Option ValueKind
want_kind (wanted.OfKind k ∷ ws) = Some k
want_kind (wanted.Count n ∷ ws) = Some kinds.Size
want_kind (wanted.AtMost n ∷ ws) = Some kinds.Size
want_kind _ = None

-- what an argument of this kind is where any is taken
abbrev pub given_param : Option ValueKind → Param
given_param (Some kinds.Int) = params.Int
given_param (Some kinds.Long) = params.Long
given_param (Some kinds.Size) = params.Size
given_param (Some kinds.Text) = params.TextOrNull
given_param k = params.ObjectOrNull

abbrev pub given_params : Env → Exprs → List Param
given_params env no_exprs = []
given_params env (expr_and e es) = given_param (kind_of env e) ∷ given_params env es

-- .. by the kinds and meanings that were found
abbrev pub read_as : Pos → Option ValueKind → Place → Value
read_as p None s = nonsense p
read_as p (Some k) s = read p k s

abbrev pub word_place : Pos → Meaning → Name → Place
word_place p (a_local l) n = local_place p l.number
word_place p (a_global k) n = global_place p n
word_place p _ n = no_place

abbrev pub word_value : Pos → Name → Meaning → Option ValueKind → Value
word_value p n (a_static i) k = static_of p i
word_value p n m k = read_as p k (word_place p m n)

-- a constant of no kind is refused
abbrev pub int_value : Pos → Option ValueKind → ℤ → Value
int_value p None v = nonsense p
int_value p (Some k) v = constant p v

abbrev pub field_of : Pos → Value → Option Name → Name → Place
field_of p base None n = no_place
field_of p base (Some s) n = field_place p base s n

abbrev pub or_int : Option ValueKind → ValueKind
or_int None = kinds.Int
or_int (Some k) = k

abbrev pub binary_value : Pos → Punct → Option ValueKind → Value → Value → Value
binary_value p m k a b =
    (if is_arithmetic m then computed p m (or_int k) a b else (if is_order m
    || is_equality m then compared p m a b else joined_by p m a b))

abbrev pub assign_value : Pos → Punct → Option ValueKind → Option ValueKind → Place → Value → Value
assign_value p m k from s v =
    (if is_arithmetic_assign m then updated p m (wider k from) (or_int k) s v else stored p (or_int k) s
    (convert p k from v))

abbrev pub cast_value : Pos → Option ValueKind → Option ValueKind → Value → Value
cast_value p to from v =
    (if is_void to then dropped p v else (if is_integer to
    && not (is_same_kind to from) then convert_some p to v else cast_of p v))

abbrev pub wanted_kind : Want → Option ValueKind
wanted_kind (wanted.OfKind k) = Some k
wanted_kind _ = None

abbrev pub or_zero : Option ℕ → ℕ
or_zero None = 0
or_zero (Some n) = n

abbrev pub called_function : Env → Name → Callee → CalledFunction
called_function env n c = record {
  number = or_zero (number_in 0 (definitions env.file.items) n.0);
  params = map wanted_kind (wants env c 0);
  result = result_kind env c;
}

abbrev pub special_value : Option Special → Env → Pos → Row → Name → Exprs → List Param → List OutputStep → Values
    → Value
special_value (Some specials.ParseTuple) env p r n es given outs vs =
    parse_value p n (format_at env.file.texts 1 es) outs vs
special_value (Some specials.UnpackTuple) env p r n es given outs vs =
    unpack_value p n (number_in_front (arg_at 2 es)) outs vs
special_value (Some specials.DictNext) env p r n es given outs vs = next_value p n outs vs
special_value (Some specials.BuildValue) env p r n es given outs vs =
    build_value p n (format_at env.file.texts 0 es) vs
special_value s env p r n es given outs vs = called_row p n (signature_of r given) vs

abbrev pub row_value : Env → Pos → Row → Name → Exprs → List Param → List OutputStep → Values → Value
row_value env p r n es given outs vs = special_value (special_form r.form) env p r n es given outs vs

abbrev pub call_value : Env → Pos → Callee → Name → Exprs → List Param → List OutputStep → Values → Value
call_value env p (defined d) n es given outs vs = called p (called_function env n (defined d)) vs
call_value env p (a_row r) n es given outs vs = row_value env p r n es given outs vs
call_value env p _ n es given outs vs = nonsense p

abbrev pub made_value : Pos → Value → Value
made_value p v = called_row p (record { 0 = py_object_new }) made_signature (value_and v no_values)

abbrev pub callee_name : Expr → Name
callee_name (word p n) = n
callee_name _ = record { 0 = 0 }

abbrev pub static_address : Env → Pos → Expr → Value
static_address env p (word q n) = static_of p (static_number env.file.items n.0)
static_address env p _ = nonsense p

abbrev pub module_address : Expr → Value
module_address (unary p k (word q n)) = module_of p n
module_address e = nonsense (expr_pos e)

abbrev pub post_kind : Punct → Kind
post_kind m = tokens.Punct m

abbrev pub unary_value : Env → Pos → Kind → Expr → Prefix → Value → Place → Value
unary_value env p k e prefixes.Address v s = static_address env p e
unary_value env p k e prefixes.Step v s = stepped p false k (or_int (kind_of env e)) s
unary_value env p k e prefixes.Sign v s = signed p k (if is_int (kind_of env e) then kinds.Int else kinds.Long) v
unary_value env p k e prefixes.Negation v s = negated p v
unary_value env p k e prefixes.LeftOut v s = nonsense p

abbrev mutual
  pub resolve : Env → Expr → Value
  resolve env (word p n) = word_value p n (meaning_of env n.0) (kind_of env (word p n))
  resolve env (int p v l u) = int_value p (int_kind v l u) v
  resolve env (char p c) = constant p (pos (byte c))
  resolve env (text p ns) = text_of p ns
  resolve env (null p) = null_of p
  resolve env (paren p e) = inner p (resolve env e)
  resolve env (unary p k e) = unary_value env p k e (prefix_of k) (resolve env e) (place_of env e)
  resolve env (post p m e) = stepped p true (post_kind m) (or_int (kind_of env e)) (place_of env e)
  resolve env (binary p m a b) = binary_value p m (kind_of env (binary p m a b)) (resolve env a) (resolve env b)
  resolve env (assign p m a b) = assign_value p m (kind_of env a) (kind_of env b) (place_of env a) (resolve env b)
  resolve env (conditional p c a b) = chosen p (resolve env c) (resolve env a) (resolve env b)
  resolve env (cast p t e) = cast_value p (type_name_kind env.file.items t) (kind_of env e) (resolve env e)
  resolve env (call p f es) = call_value env p (callee env f) (callee_name f) es (given_params env es)
      (outputs_of env (call_wants env (callee env f) es) es)
      (resolve_all env (call_wants env (callee env f) es) es)
  resolve env (arrow p e n) = read_as p (kind_of env (arrow p e n)) (field_of p (resolve env e)
      (struct_part (kind_of env e)) n)
  resolve env (float p) = nonsense p
  resolve env (comma p a b) = nonsense p
  resolve env (size_of_type p t) = nonsense p
  resolve env (new p t e) = made_value p (resolve env e)
  resolve env (index p a b) = nonsense p
  resolve env (dot p e n) = nonsense p

  pub place_of : Env → Expr → Place
  place_of env (word p n) = word_place p (meaning_of env n.0) n
  place_of env (arrow p e n) = field_of p (resolve env e) (struct_part (kind_of env e)) n
  place_of env _ = no_place

  -- a conversion in passing stops at its argument; what is written has no value
  pub resolve_all : Env → List Want → Exprs → Values
  resolve_all env ws no_exprs = no_values
  resolve_all env ws (expr_and e es) = if wants_output ws then resolve_all env (other_wants ws) es else
      value_and (if wants_module ws && is_module_address env e then module_address e else
      (if wants_place ws && is_place env e then emptied (expr_pos e) (or_int (kind_of env e)) (place_of env e) else
      convert (expr_pos e) (want_kind ws) (kind_of env e) (resolve env e)))
      (resolve_all env (other_wants ws) es)
