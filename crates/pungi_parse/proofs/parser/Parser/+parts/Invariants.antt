use Rattle.std.proofs.Common.{suc, length, ◌≤◌, ◌<◌, ◌≡◌, map, ◌*◌, ◌+◌}
use Rattle.pungi_parse.proofs.expr.ArgLoop.{ArgsTo}
use Rattle.pungi_parse.proofs.expr.ClimbLoop.{ClimbsTo}
use Rattle.pungi_parse.proofs.expr.CommaLoop.{CommasTo}
use Rattle.pungi_parse.proofs.types.DeclrLoop.{DeclrsTo}
use Rattle.pungi_parse.proofs.types.FieldLoop.{FieldsTo}
use Rattle.pungi_parse.proofs.types.ParamLoop.{ParamsTo}
use Rattle.pungi_parse.proofs.expr.PostfixLoop.{PostfixTo}
use Rattle.pungi_parse.proofs.types.SizeLoop.{SizesTo}
use Rattle.pungi_parse.specs.Readers.{readers}
use Rattle.pungi_tree.specs.ExprDepth.{exprs_depth, fields_depth, declrs_depth, sizes_depth, param_decls_depth}
use Rattle.pungi_tree.specs.ExprView.{expr_view, exprs_of, fields_of, field_view, declrs_of, declr_view, sizes_of}
use Rattle.pungi_tree.specs.ExprView.{optional_view, param_decls_of, param_decl_view}
use Rattle.pungi_tree.specs.Placed.{placed}
use Rattle.pungi_parse.proofs.parser.Parser.+parts.Given as goal

abbrev pub decreases-expr : goal.decreases-expr
decreases-expr l = 64 * l.self.now.nest

abbrev pub decreases-spec : goal.decreases-spec
decreases-spec l = 64 * l.self.now.nest

abbrev pub decreases-params : goal.decreases-params
decreases-params l = 64 * l.self.now.nest

abbrev pub decreases-read_at : goal.decreases-read_at
decreases-read_at l = 64 * l.self.now.nest + 20

abbrev pub decreases-comma : goal.decreases-comma
decreases-comma l = 64 * l.self.now.nest + 19

abbrev pub decreases-assign : goal.decreases-assign
decreases-assign l = 64 * l.self.now.nest + 18

abbrev pub decreases-conditional : goal.decreases-conditional
decreases-conditional l = 64 * l.self.now.nest + 17

abbrev pub decreases-climb : goal.decreases-climb
decreases-climb l = 64 * l.self.now.nest + 16

abbrev pub decreases-casted : goal.decreases-casted
decreases-casted l = 64 * l.self.now.nest + 15

abbrev pub decreases-unary : goal.decreases-unary
decreases-unary l = 64 * l.self.now.nest + 14

abbrev pub decreases-sizeof_at : goal.decreases-sizeof_at
decreases-sizeof_at l = 64 * l.self.now.nest + 13

abbrev pub decreases-postfix : goal.decreases-postfix
decreases-postfix l = 64 * l.self.now.nest + 12

abbrev pub decreases-postfix_turn : goal.decreases-postfix_turn
decreases-postfix_turn l = 64 * l.self.now.nest + 11

abbrev pub decreases-call : goal.decreases-call
decreases-call l = 64 * l.self.now.nest + 10

abbrev pub decreases-index : goal.decreases-index
decreases-index l = 64 * l.self.now.nest + 9

abbrev pub decreases-args : goal.decreases-args
decreases-args l = 64 * l.self.now.nest + 8

abbrev pub decreases-primary : goal.decreases-primary
decreases-primary l = 64 * l.self.now.nest + 7

abbrev pub decreases-paren : goal.decreases-paren
decreases-paren l = 64 * l.self.now.nest + 6

abbrev pub decreases-new_object : goal.decreases-new_object
decreases-new_object l = 64 * l.self.now.nest + 5

abbrev pub decreases-type_name : goal.decreases-type_name
decreases-type_name l = 64 * l.self.now.nest + 1

abbrev pub decreases-spec_at : goal.decreases-spec_at
decreases-spec_at l = 64 * l.self.now.nest + 20

abbrev pub decreases-base : goal.decreases-base
decreases-base l = 64 * l.self.now.nest + 19

abbrev pub decreases-aggregate : goal.decreases-aggregate
decreases-aggregate l = 64 * l.self.now.nest + 18

abbrev pub decreases-fields_at : goal.decreases-fields_at
decreases-fields_at l = 64 * l.self.now.nest + 17

abbrev pub decreases-fields : goal.decreases-fields
decreases-fields l = 64 * l.self.now.nest + 16

abbrev pub decreases-field : goal.decreases-field
decreases-field l = 64 * l.self.now.nest + 15

abbrev pub decreases-declrs : goal.decreases-declrs
decreases-declrs l = 64 * l.self.now.nest + 14

abbrev pub decreases-declr : goal.decreases-declr
decreases-declr l = 64 * l.self.now.nest + 13

abbrev pub decreases-declr_rest : goal.decreases-declr_rest
decreases-declr_rest l = 64 * l.self.now.nest + 12

abbrev pub decreases-function_rest : goal.decreases-function_rest
decreases-function_rest l = 64 * l.self.now.nest + 11

abbrev pub decreases-sizes : goal.decreases-sizes
decreases-sizes l = 64 * l.self.now.nest + 11

abbrev pub decreases-size : goal.decreases-size
decreases-size l = 64 * l.self.now.nest + 10

abbrev pub decreases-params_at : goal.decreases-params_at
decreases-params_at l = 64 * l.self.now.nest + 20

abbrev pub decreases-some_params : goal.decreases-some_params
decreases-some_params l = 64 * l.self.now.nest + 19

abbrev pub decreases-param : goal.decreases-param
decreases-param l = 64 * l.self.now.nest + 18

abbrev pub decreases-param_declr : goal.decreases-param_declr
decreases-param_declr l = 64 * l.self.now.nest + 17

abbrev pub decreases-param_rest : goal.decreases-param_rest
decreases-param_rest l = 64 * l.self.now.nest + 16

abbrev pub invariant-comma-loop-pos : goal.invariant-comma-loop-pos
invariant-comma-loop-pos l = record {
  commas : CommasTo l.self.types.now (readers l.self.types.now l.self.nest l.self.most) (suc l.self.most)
      (placed l.fn.tokens) (expr_view l.left.value) l.left_depth (placed l.rest);
  shorter : length l.rest < length l.fn.tokens;
}

abbrev pub decreases-comma-loop-pos : goal.decreases-comma-loop-pos
decreases-comma-loop-pos l = length l.rest

abbrev pub invariant-climb-loop-operator : goal.invariant-climb-loop-operator
invariant-climb-loop-operator l = record {
  climbs : ClimbsTo l.self.types.now (readers l.self.types.now l.self.nest l.self.most) (suc l.self.most) l.level
      (placed l.fn.tokens) (expr_view l.left.value) l.left_depth (placed l.rest);
  shorter : length l.rest < length l.fn.tokens;
}

abbrev pub decreases-climb-loop-operator : goal.decreases-climb-loop-operator
decreases-climb-loop-operator l = length l.rest

abbrev pub invariant-postfix-each : goal.invariant-postfix-each
invariant-postfix-each l = record {
  comes : PostfixTo l.self.types.now (readers l.self.types.now l.self.nest l.self.most) (suc l.self.most)
      (placed l.fn.tokens) l.start (expr_view l.tree.value) l.depth (placed l.rest);
  shorter : length l.rest < length l.fn.tokens;
}

abbrev pub decreases-postfix-each : goal.decreases-postfix-each
decreases-postfix-each l = length l.rest

abbrev pub invariant-args-loop-inner : goal.invariant-args-loop-inner
invariant-args-loop-inner l = record {
  reads : ArgsTo l.self.types.now (readers l.self.types.now l.self.nest l.self.most) (placed l.fn.tokens)
      (map expr_view l.list.items) (placed l.rest);
  deep : l.deepest ≡ exprs_depth (exprs_of (map expr_view l.list.items));
  bound : l.deepest ≤ l.self.most;
  shorter : length l.rest < length l.fn.tokens;
}

abbrev pub decreases-args-loop-inner : goal.decreases-args-loop-inner
decreases-args-loop-inner l = length l.rest

abbrev pub invariant-fields-each : goal.invariant-fields-each
invariant-fields-each l = record {
  reads : FieldsTo l.self.types.now (readers l.self.types.now l.self.nest l.self.most) (placed l.fn.tokens)
      (map field_view l.list.items) (placed l.rest);
  deep : l.deepest ≡ fields_depth (fields_of (map field_view l.list.items));
  bound : l.deepest ≤ l.self.most;
  shorter : length l.rest ≤ length l.fn.tokens;
}

abbrev pub decreases-fields-each : goal.decreases-fields-each
decreases-fields-each l = length l.rest

abbrev pub invariant-declrs-loop-inner : goal.invariant-declrs-loop-inner
invariant-declrs-loop-inner l = record {
  reads : DeclrsTo l.self.types.now (readers l.self.types.now l.self.nest l.self.most) (placed l.fn.tokens)
      (map declr_view l.list.items) (placed l.rest);
  deep : l.deepest ≡ declrs_depth (declrs_of (map declr_view l.list.items));
  bound : l.deepest ≤ l.self.most;
  shorter : length l.rest < length l.fn.tokens;
}

abbrev pub decreases-declrs-loop-inner : goal.decreases-declrs-loop-inner
decreases-declrs-loop-inner l = length l.rest

abbrev pub invariant-sizes-loop-inner : goal.invariant-sizes-loop-inner
invariant-sizes-loop-inner l = record {
  reads : SizesTo l.self.types.now (readers l.self.types.now l.self.nest l.self.most) (placed l.fn.tokens)
      (map optional_view l.list.items) (placed l.rest);
  deep : l.deepest ≡ sizes_depth (sizes_of (map optional_view l.list.items));
  bound : l.deepest ≤ l.self.most;
  shorter : length l.rest ≤ length l.fn.tokens;
}

abbrev pub decreases-sizes-loop-inner : goal.decreases-sizes-loop-inner
decreases-sizes-loop-inner l = length l.rest

abbrev pub invariant-some_params-each : goal.invariant-some_params-each
invariant-some_params-each l = record {
  reads : ParamsTo l.self.types.now (readers l.self.types.now l.self.nest l.self.most) (placed l.fn.tokens)
      (map param_decl_view l.list.items) (placed l.rest);
  deep : l.deepest ≡ param_decls_depth (param_decls_of (map param_decl_view l.list.items));
  bound : l.deepest ≤ l.self.most;
  shorter : length l.rest < length l.fn.tokens;
}

abbrev pub decreases-some_params-each : goal.decreases-some_params-each
decreases-some_params-each l = length l.rest
