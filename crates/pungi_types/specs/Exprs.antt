-- The kind of an expression, and where each rule holds in it (C11 6.5; Python/C API Reference Manual 3.11).
--   is_bad_int, int_kind, step_kind, unary_kind, binary_kind, assign_kind, cond_kind, cast_kind    the kind of an
--   expression from those of its operands
--   void_call e, operand k e    the place of a call, also in parentheses; what is required of a value that is used
--   kind_of env e, are_met env ws es    the kind of an expression; as many arguments as are wanted, and each fits
--   met_before env ws es    how many arguments fit before the first that doesn't
--   are_fixed_met, is_call_met env c es    the arguments before the format are there and fit, or all do where there is
--   no format
--   void_use env e      the value of a Void call is used
--   n1 n2 n3 n4 n5 n9 n10 n11 n12 n13 n14    where a rule holds in the expression's own node
--   is_left_out, is_function_meaning, crosses, is_unknown, is_unknown_call, is_value_called, unary_wrong, binary_wrong,
--   assign_wrong, cond_wrong, cast_wrong, is_step_or_sign     what the rules require
--   node_findings, expr_findings env e, args_findings, arg_findings, called_findings, cast_findings    where a rule
--   holds in an expression, and in its parts
use Rattle.std.specs.Prelude.{ℕ, suc, nat_lt, nat_le, ℤ, pos, int_lt, Bool, true, false, ◌&&◌, ◌||◌, not}
use Rattle.std.specs.Prelude.{List, Option, Some, None, is_some, is_none, if◌then◌else◌}
use Rattle.pungi_base.specs.declared.pos.Pos.{Pos}
use Rattle.pungi_base.specs.declared.punct.Punct.{Punct}
use Rattle.pungi_tree.specs.Syntax.{Expr, word, int, float, char, text, null, paren, unary, post, binary, assign}
use Rattle.pungi_tree.specs.Syntax.{conditional, comma, cast, size_of_type, call, new, index, dot, arrow, Exprs}
use Rattle.pungi_tree.specs.Syntax.{no_exprs, expr_and, TypeName}
use Rattle.pungi_types.specs.Formats.{format_pos}
use Rattle.pungi_types.specs.Kinds.{not_void, type_name_kind, type_name_pos, field_kind, made_struct}
use Rattle.pungi_types.specs.Names.{Env, Meaning, a_function, unknown, meaning_of}
use Rattle.pungi_types.specs.Calls.{meaning_kind, is_place, names_type_object, is_address, how_many, argument_form}
use Rattle.pungi_types.specs.Calls.{Callee, callee, call_wants, call_format, is_refused, result_kind, takes_arguments}
use Rattle.pungi_types.specs.Calls.{is_word, passed_address, other_wants, is_done, first_met, a_value, defined}
use Rattle.pungi_types.specs.Calls.{no_function, made_wrong, made_kind}
use Rattle.pungi_types.specs.Findings.{Findings, nothing_found, ◌and◌, when, when_some}
use Rattle.pungi_types.specs.Operators.{is_bits, is_arithmetic, is_order, is_equality, is_bits_assign}
use Rattle.pungi_types.specs.Operators.{is_arithmetic_assign, prefix_of, on_pointers, assigns_pointers, is_integer}
use Rattle.pungi_types.specs.Operators.{is_pointer, is_void, wider, fits, comparable, joinable, joined_kind, both_known}
use Rattle.pungi_types.specs.declared.wants.Want.{Want}
use Rattle.pungi_types.specs.declared.operator.Prefix.{Prefix}
use Rattle.pungi_types.specs.declared.operator.Prefix.TheVariants as prefixes
use Rattle.pungi_types.specs.declared.kind.ValueKind.{ValueKind}
use Rattle.pungi_types.specs.declared.kind.ValueKind.TheVariants as kinds

-- .. the kind of an expression, from the kinds of its operands; none where a rule holds in its own node
-- marked unsigned, too large, or below 0, which no text spells
abbrev pub is_bad_int : ℤ → Bool → Bool
is_bad_int v u = u || (int_lt v (pos 0) || int_lt (pos 9223372036854775807) v)

abbrev pub int_kind : ℤ → Bool → Bool → Option ValueKind
int_kind v l u =
    (if is_bad_int v u then None else (if l || int_lt (pos 2147483647) v then Some kinds.Long else Some kinds.Int))

abbrev pub step_kind : Bool → Option ValueKind → Option ValueKind
step_kind place k = (if place && is_integer k then k else None)

abbrev pub unary_kind : Prefix → Bool → Bool → Option ValueKind → Option ValueKind
unary_kind prefixes.Address type_object place k = (if type_object then Some (kinds.Object None) else None)
unary_kind prefixes.Step type_object place k = step_kind place k
unary_kind prefixes.Sign type_object place k = (if is_integer k then Some (wider k k) else None)
unary_kind prefixes.Negation type_object place k = (if is_integer k || is_pointer k then Some kinds.Int else None)
unary_kind prefixes.LeftOut type_object place k = None

abbrev pub binary_kind : Punct → Option ValueKind → Option ValueKind → Option ValueKind
binary_kind m a b =
    (if is_bits m then None else
    (if is_arithmetic m then (if is_integer a && is_integer b then Some (wider a b) else None) else
    (if is_order m then (if is_integer a && is_integer b then Some kinds.Int else None) else
    (if is_equality m then (if comparable a b then Some kinds.Int else None) else
    (if (is_integer a || is_pointer a) && (is_integer b || is_pointer b) then Some kinds.Int else None)))))

abbrev pub assign_kind : Punct → Bool → Option ValueKind → Option ValueKind → Option ValueKind
assign_kind m place a b =
    (if is_bits_assign m then None else
    (if is_arithmetic_assign m then (if place && (is_integer a && is_integer b) then a else None) else
    (if place && fits a b then a else None)))

abbrev pub cond_kind : Option ValueKind → Option ValueKind → Option ValueKind → Option ValueKind
cond_kind c a b = (if (is_some c && not (is_void c)) && (both_known a b && joinable a b) then joined_kind a b else None)

-- a cast to `void` takes any kind
abbrev pub cast_kind : Option ValueKind → Option ValueKind → Option ValueKind
cast_kind to k = (if (is_void to && is_some k) || fits to k then to else None)

-- the place of a call, also in parentheses
abbrev pub void_call : Expr → Option Pos
void_call (paren p e) = void_call e
void_call (call p f es) = Some p
void_call _ = None

-- what is required of a value that is used: nothing of a Void call, since a rule holds at that call
abbrev pub operand : Option ValueKind → Expr → Option ValueKind
operand k e = (if is_some (void_call e) then not_void k else k)

abbrev mutual
  pub kind_of : Env → Expr → Option ValueKind
  kind_of env (word p n) = meaning_kind (meaning_of env n.0)
  kind_of env (int p v l u) = int_kind v l u
  kind_of env (float p) = None
  kind_of env (char p c) = Some kinds.Int
  kind_of env (text p ns) = Some kinds.Text
  kind_of env (null p) = Some kinds.Null
  kind_of env (paren p e) = kind_of env e
  kind_of env (unary p k e) = unary_kind (prefix_of k) (names_type_object env e) (is_place env e) (kind_of env e)
  kind_of env (post p m e) = step_kind (is_place env e) (kind_of env e)
  kind_of env (binary p m a b) = binary_kind m (kind_of env a) (kind_of env b)
  kind_of env (assign p m a b) = assign_kind m (is_place env a) (kind_of env a) (kind_of env b)
  kind_of env (conditional p c a b) = cond_kind (kind_of env c) (kind_of env a) (kind_of env b)
  kind_of env (comma p a b) = None
  kind_of env (cast p t e) = cast_kind (type_name_kind env.file.items t) (kind_of env e)
  kind_of env (size_of_type p t) = None
  kind_of env (call p f es) = (if is_word f
      && are_met env (call_wants env (callee env f) es) es then result_kind env (callee env f) else None)
  kind_of env (new p t e) = made_kind (made_struct env.file.items t) (operand (kind_of env e) e)
  kind_of env (index p a b) = None
  kind_of env (dot p e n) = None
  kind_of env (arrow p e n) = field_kind env.file.items (kind_of env e) n.0

  -- as many arguments as are wanted, and each fits
  pub are_met : Env → List Want → Exprs → Bool
  are_met env ws no_exprs = is_done ws
  are_met env ws (expr_and e es) = first_met ws (argument_form env e) (operand (kind_of env e) e)
      && are_met env (other_wants ws) es

abbrev pub met_before : Env → List Want → Exprs → ℕ
met_before env ws no_exprs = 0
met_before env ws (expr_and e es) =
    if first_met ws (argument_form env e) (operand (kind_of env e) e) then suc (met_before env (other_wants ws) es)
    else 0

-- with a format, the arguments before it
abbrev pub are_fixed_met : Option ℕ → Env → List Want → Exprs → Bool
are_fixed_met None env ws es = are_met env ws es
are_fixed_met (Some i) env ws es = nat_lt i (how_many es) && nat_le i (met_before env ws es)

abbrev pub is_call_met : Env → Callee → Exprs → Bool
is_call_met env c es = are_fixed_met (call_format c) env (call_wants env c es) es

-- .. where the rules hold
-- N10: the value of a Void call is used
abbrev pub void_use : Env → Expr → Findings
void_use env e = when_some (is_void (kind_of env e)) (void_call e) 10

-- N1: a cast to a type of no kind
abbrev pub n1 : Env → Expr → Findings
n1 env (cast p t e) = when (is_none (type_name_kind env.file.items t)) (type_name_pos t) 1
n1 env _ = nothing_found

abbrev pub is_left_out : Prefix → Bool
is_left_out prefixes.LeftOut = true
is_left_out _ = false

-- N2: an operator or constant that the subset leaves out
abbrev pub n2 : Env → Expr → Findings
n2 env (float p) = when true p 2
n2 env (unary p k e) = when (is_left_out (prefix_of k)) p 2
n2 env (binary p m a b) = when (is_bits m) p 2
n2 env (assign p m a b) = when (is_bits_assign m) p 2
n2 env (comma p a b) = when true p 2
n2 env (size_of_type p t) = when true p 2
n2 env (index p a b) = when true p 2
n2 env (dot p e n) = when true p 2
n2 env _ = nothing_found

abbrev pub is_function_meaning : Meaning → Bool
is_function_meaning a_function = true
is_function_meaning _ = false

-- N3: a call of what is no word, and a function's name that isn't called
abbrev pub n3 : Env → Expr → Findings
n3 env (call p f es) = when (not (is_word f)) p 3
n3 env (word p n) = when (is_function_meaning (meaning_of env n.0)) p 3
n3 env _ = nothing_found

-- N4: a cast between an integer and a pointer
abbrev pub crosses : Option ValueKind → Option ValueKind → Bool
crosses a b = (is_integer a && is_pointer b) || (is_pointer a && is_integer b)

abbrev pub n4 : Env → Expr → Findings
n4 env (cast p t e) = when (crosses (type_name_kind env.file.items t) (kind_of env e)) p 4
n4 env _ = nothing_found

-- N5: an address of what is no static type object (output arguments and module tables are no expressions of their own)
abbrev pub n5 : Env → Expr → Findings
n5 env (unary p k e) = when (is_address (prefix_of k) && not (names_type_object env e)) p 5
n5 env _ = nothing_found

abbrev pub is_unknown : Meaning → Bool
is_unknown unknown = true
is_unknown _ = false

abbrev pub is_unknown_call : Env → Callee → Bool
is_unknown_call env no_function = true
is_unknown_call env (defined d) = is_refused env d
is_unknown_call env _ = false

-- N9: a name that isn't one of those that may be used, and a call of another function that is refused
abbrev pub n9 : Env → Expr → Findings
n9 env (word p n) = when (is_unknown (meaning_of env n.0)) p 9
n9 env (call p f es) = when (is_unknown_call env (callee env f)) p 9
n9 env _ = nothing_found

abbrev pub is_value_called : Callee → Bool
is_value_called a_value = true
is_value_called _ = false

abbrev pub unary_wrong : Prefix → Bool → Option ValueKind → Bool
unary_wrong prefixes.Step place k = is_void k || (is_integer k && not place)
unary_wrong prefixes.Sign place k = is_void k
unary_wrong prefixes.Negation place k = is_void k
unary_wrong _ place k = false

abbrev pub binary_wrong : Punct → Option ValueKind → Option ValueKind → Bool
binary_wrong m a b =
    not (is_bits m) && (is_void a || (is_void b ||
    ((is_order m && (is_pointer a || is_pointer b)) || (is_equality m && (both_known a b && not (comparable a b))))))

-- of a pointer operand of `+=` and its kin only N13 is tested
abbrev pub assign_wrong : Punct → Bool → Option ValueKind → Option ValueKind → Bool
assign_wrong m place a b =
    not (is_bits_assign m) && ((is_some a && (not place && not (is_arithmetic_assign m && is_pointer a)))
    || (is_void b ||
    (not (is_arithmetic_assign m) && (place && (both_known a b && not (fits a b))))))

abbrev pub cond_wrong : Option ValueKind → Option ValueKind → Option ValueKind → Bool
cond_wrong c a b = is_void c || (is_void a || (is_void b || (both_known a b && not (joinable a b))))

abbrev pub cast_wrong : Option ValueKind → Option ValueKind → Bool
cast_wrong to k =
    is_some to && (not (is_void to) && (is_void k || (is_some k && (not (crosses to k) && not (fits to k)))))

-- N10: a wrong kind or number of operands or arguments, at the node; and a used value of a Void call, at that call
-- alone
abbrev pub n10 : Env → Expr → Findings
n10 env (unary p k e) =
    when (unary_wrong (prefix_of k) (is_place env e) (operand (kind_of env e) e)) p 10 and void_use env e
n10 env (post p m e) =
    when (unary_wrong prefixes.Step (is_place env e) (operand (kind_of env e) e)) p 10 and void_use env e
n10 env (binary p m a b) =
    when (binary_wrong m (operand (kind_of env a) a) (operand (kind_of env b) b)) p 10
    and (void_use env a and void_use env b)
n10 env (assign p m a b) =
    when (assign_wrong m (is_place env a) (operand (kind_of env a) a) (operand (kind_of env b) b)) p 10
    and (void_use env a and void_use env b)
n10 env (conditional p c a b) =
    when (cond_wrong (operand (kind_of env c) c) (operand (kind_of env a) a) (operand (kind_of env b) b)) p 10
    and (void_use env c and (void_use env a and void_use env b))
n10 env (cast p t e) =
    when (cast_wrong (type_name_kind env.file.items t) (operand (kind_of env e) e)) p 10
    and (if is_void (type_name_kind env.file.items t) then nothing_found else void_use env e)
n10 env (call p f es) =
    when (is_value_called (callee env f) || (takes_arguments (callee env f)
    && not (is_call_met env (callee env f) es))) p 10
n10 env (new p t e) =
    when (made_wrong (made_struct env.file.items t) (operand (kind_of env e) e)) p 10 and void_use env e
n10 env (index p a b) = void_use env a and void_use env b
n10 env (dot p e n) = void_use env e
n10 env (arrow p e n) = void_use env e
n10 env _ = nothing_found

-- N11: a format that is no string literal, has a fault, or doesn't fit the arguments, at the format
abbrev pub n11 : Env → Expr → Findings
n11 env (call p f es) =
    when_some (is_call_met env (callee env f) es && not (are_met env (call_wants env (callee env f) es) es))
    (format_pos (call_format (callee env f)) es) 11
n11 env _ = nothing_found

-- N12: a field that isn't there or has no kind, or a base that is no pointer to an object struct
abbrev pub n12 : Env → Expr → Findings
n12 env (arrow p e n) = when (is_none (field_kind env.file.items (kind_of env e) n.0)) p 12
n12 env _ = nothing_found

abbrev pub is_step_or_sign : Prefix → Bool
is_step_or_sign prefixes.Step = true
is_step_or_sign prefixes.Sign = true
is_step_or_sign _ = false

-- N13: arithmetic on a pointer
abbrev pub n13 : Env → Expr → Findings
n13 env (unary p k e) = when (is_step_or_sign (prefix_of k) && is_pointer (kind_of env e)) p 13
n13 env (post p m e) = when (is_pointer (kind_of env e)) p 13
n13 env (binary p m a b) = when (on_pointers m (kind_of env a) (kind_of env b)) p 13
n13 env (assign p m a b) = when (assigns_pointers m (kind_of env a) (kind_of env b)) p 13
n13 env _ = nothing_found

-- N14: a constant that is marked unsigned or that no long holds
abbrev pub n14 : Env → Expr → Findings
n14 env (int p v l u) = when (is_bad_int v u) p 14
n14 env _ = nothing_found

-- where a rule holds in the expression's own node
abbrev pub node_findings : Env → Expr → Findings
node_findings env e =
    n1 env e and (n2 env e and (n3 env e and (n4 env e
    and (n5 env e and (n9 env e and (n10 env e and (n11 env e and (n12 env e and (n13 env e and n14 env e)))))))))

abbrev mutual
  -- where a rule holds in an expression; a word that is called is examined by the call alone
  pub expr_findings : Env → Expr → Findings
  expr_findings env (word p n) = node_findings env (word p n)
  expr_findings env (int p v l u) = node_findings env (int p v l u)
  expr_findings env (float p) = node_findings env (float p)
  expr_findings env (char p c) = nothing_found
  expr_findings env (text p ns) = nothing_found
  expr_findings env (null p) = nothing_found
  expr_findings env (paren p e) = expr_findings env e
  expr_findings env (unary p k e) = (if is_address (prefix_of k)
      && names_type_object env e then nothing_found else expr_findings env e) and node_findings env (unary p k e)
  expr_findings env (post p m e) = expr_findings env e and node_findings env (post p m e)
  expr_findings env (binary p m a b) = expr_findings env a
      and (expr_findings env b and node_findings env (binary p m a b))
  expr_findings env (assign p m a b) = expr_findings env a
      and (expr_findings env b and node_findings env (assign p m a b))
  expr_findings env (conditional p c a b) = expr_findings env c
      and (expr_findings env a and (expr_findings env b and node_findings env (conditional p c a b)))
  expr_findings env (comma p a b) = expr_findings env a and (expr_findings env b and node_findings env (comma p a b))
  expr_findings env (cast p t e) = expr_findings env e and node_findings env (cast p t e)
  expr_findings env (size_of_type p t) = node_findings env (size_of_type p t)
  expr_findings env (call p f es) = args_findings env (call_wants env (callee env f) es) es
      and ((if is_word f then nothing_found else expr_findings env f) and node_findings env (call p f es))
  expr_findings env (new p t e) = expr_findings env e and node_findings env (new p t e)
  expr_findings env (index p a b) = expr_findings env a and (expr_findings env b and node_findings env (index p a b))
  expr_findings env (dot p e n) = expr_findings env e and node_findings env (dot p e n)
  expr_findings env (arrow p e n) = expr_findings env e and node_findings env (arrow p e n)

  -- the address of a module table, and that of a local that the call writes, are examined by the call alone
  pub args_findings : Env → List Want → Exprs → Findings
  args_findings env ws no_exprs = nothing_found
  args_findings env ws (expr_and e es) =
      (if passed_address env ws e then nothing_found else expr_findings env e and void_use env e)
      and args_findings env (other_wants ws) es

-- where a rule holds in an argument
abbrev pub arg_findings : Bool → Env → Expr → Findings
arg_findings skipped env e = (if skipped then nothing_found else expr_findings env e and void_use env e)

abbrev pub called_findings : Env → Expr → Findings
called_findings env f = (if is_word f then nothing_found else expr_findings env f)

-- where a rule holds in the node of a cast to this kind, over an operand of this kind
abbrev pub cast_findings : Option ValueKind → Pos → TypeName → Option ValueKind → Expr → Findings
cast_findings to p t k e =
    when (is_none to) (type_name_pos t) 1 and (when (crosses to k) p 4 and (when (cast_wrong to (operand k e)) p 10 and
    (if is_void to then nothing_found else when_some (is_void k) (void_call e) 10)))
