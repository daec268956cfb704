-- How many nodes and instructions a call becomes. A place that is emptied takes two instructions more, which its call
-- has to spare; what is written to a variable takes five, for the two nodes of its address; and a branch on an argument
-- that may be NULL takes the one that a conversion would, since a pointer has none.
use Rattle.std.proofs.Common.{◌≡◌, ◌∙◌, ℕ, zero, suc, ◌+◌, ◌-◌, ◌*◌, ◌≤◌, arith, Bool, true, false, List, [], ◌∷◌, ◌++◌}
use Rattle.std.proofs.Common.{map, replicate, Option, Some, None, refl, length, subst, length-append}
use Rattle.std.specs.Prelude.{◌&&◌, if◌then◌else◌, ℤ, pos, negsuc, nat_le, nat_lt, is_none}
use Rattle.pungi_base.specs.declared.kind.Kind.{Kind}
use Rattle.pungi_base.specs.declared.names.Name.{Name}
use Rattle.pungi_base.specs.declared.pos.Pos.{Pos}
use Rattle.pungi_tree.specs.Syntax.{Expr, word, unary, Exprs, no_exprs, expr_and, Params, params, ParamDecls, no_params}
use Rattle.pungi_tree.specs.Syntax.{param_and, param_decl, Item}
use Rattle.pungi_api.specs.declared.param.Param.{Param}
use Rattle.pungi_api.specs.declared.param.Param.TheVariants as param
use Rattle.pungi_api.specs.declared.row.Form.{Form}
use Rattle.pungi_api.specs.declared.row.Form.TheVariants as forms
use Rattle.pungi_api.specs.declared.special.Special.{Special}
use Rattle.pungi_api.specs.declared.special.Special.TheVariants as specials
use Rattle.pungi_types.specs.declared.kind.ValueKind.{ValueKind}
use Rattle.pungi_types.specs.declared.wants.Want.{Want}
use Rattle.pungi_types.specs.declared.wants.Want.TheVariants as wanted
use Rattle.pungi_types.specs.Names.{Env, Meaning, a_local, meaning_of}
use Rattle.pungi_types.specs.Nodes as written
use Rattle.pungi_types.specs.Calls.{Callee, no_word, a_value, defined, a_row, no_function, is_place, is_module_address}
use Rattle.pungi_types.specs.Calls.{how_many, kind_want, param_kind, param_wants, params_wants, own_wants, wants_module}
use Rattle.pungi_types.specs.Calls.{wants_place, other_wants, wants_output, special_form, call_wants}
use Rattle.pungi_types.specs.Exprs.{kind_of}
use Rattle.pungi_resolve.specs.Exprs.{resolve, place_of, resolve_all, convert, or_int, call_value, module_address}
use Rattle.pungi_resolve.specs.Exprs.{want_kind, special_value}
use Rattle.pungi_types.specs.Formats.{expr_pos, is_few, is_fine_in, is_fine_out, in_wants, parsed_wants, parse_wants}
use Rattle.pungi_types.specs.Formats.{built_wants, build_wants, format_at, arg_at, param_want, an_object}
use Rattle.pungi_resolved.specs.Values.{Value, Values, Place, emptied, no_values, value_and, read, local_place}
use Rattle.pungi_resolved.specs.Values.{called_row}
use Rattle.pungi_layout.specs.code.Sizes.{expr_size, values_size, missing_size, outputs_size}
use Rattle.pungi_layout.specs.code.Sound.{expr_nodes, values_nodes}
use Rattle.pungi_format.specs.InFormat.{in_fault, in_format}
use Rattle.pungi_format.specs.OutFormat.{out_units}
use Rattle.pungi_format.specs.declared.in_unit.InUnit.{InUnit}
use Rattle.pungi_format.specs.declared.in_unit.InUnit.TheVariants as unit
use Rattle.pungi_format.specs.declared.out_unit.OutUnit.{OutUnit}
use Rattle.pungi_format.specs.declared.out_unit.OutUnit.TheVariants as out
use Rattle.pungi_api.specs.Signatures.{signature_of, build_signature, unit_param}
use Rattle.pungi_api.specs.declared.answer.Answer.{Answer}
use Rattle.pungi_api.specs.declared.answer.Answer.TheVariants as answers
use Rattle.pungi_api.specs.declared.row.Row.{Row}
use Rattle.pungi_api.specs.declared.signature.Signature.{Signature}
use Rattle.pungi_types.specs.declared.kind.ValueKind.TheVariants as kinds
use Rattle.pungi_resolve.specs.Outputs.{local_output, written_local, output_of, outputs_of, ends_if, unit_steps}
use Rattle.pungi_resolve.specs.Outputs.{parser_steps, parsed_ending, unpacked_ending, position_local, ending_value}
use Rattle.pungi_resolve.specs.Outputs.{next_from, built_value, and_last, number_in_front, parse_value, build_value}
use Rattle.pungi_resolve.proofs.SoundCalls.{limits}
use Rattle.pungi_resolved.specs.declared.output_step.OutputStep.{OutputStep}
use Rattle.pungi_resolved.specs.declared.output_step.OutputStep.TheVariants.{Ends, Writes}
use Rattle.pungi_meaning.specs.Todo.{listed_values}
use Rattle.pungi_lower.proofs.Written.{argument}
use Rattle.pungi_lower.proofs.kinds.Formats.{form_wants}
use Rattle.pungi_lower.proofs.nodes.Parts.{Few, Bare, FewPlace, convert-few, module-few}

-- of which m are places that are emptied, with x instructions more
pub record FewValues (vs : Values) (x m n : ℕ) : Type 0 where
  pub nodes : values_nodes vs ≤ 3 * n
  pub size : values_size vs + x ≤ 4 * n + 2 * m

-- .. arguments
-- how many of the wanted arguments are places
abbrev pub one_place : List Want → ℕ
one_place ws = (if wants_place ws then 1 else 0)

abbrev pub places : List Want → ℕ
places [] = 0
places (w ∷ ws) = (if wants_place (w ∷ ws) then places ws + 1 else places ws)

first-place : (ws : List Want) → places ws ≡ one_place ws + places (other_wants ws)
first-place [] = refl
first-place (w ∷ ws) =
    elim (wants_place (w ∷ ws)) as (λ b. (if b then places ws + 1 else places ws) ≡ (if b then 1 else 0) + places ws)
    [ true ↦ omega arith | false ↦ omega arith ]

params-places : (ps : List Param) → places (map param_want ps) ≡ 0
params-places [] = refl
params-places (param.Int ∷ ps) = params-places ps
params-places (param.Long ∷ ps) = params-places ps
params-places (param.Size ∷ ps) = params-places ps
params-places (param.Text ∷ ps) = params-places ps
params-places (param.TextOrNull ∷ ps) = params-places ps
params-places (param.Object ∷ ps) = params-places ps
params-places (param.ObjectOrNull ∷ ps) = params-places ps
params-places (param.ModuleDef ∷ ps) = params-places ps

kind-places : (k : Option ValueKind) (ws : List Want) → places (kind_want k ∷ ws) ≡ places ws
kind-places None ws = refl
kind-places (Some k) ws = refl

defined-places : (file : List Item) (ds : ParamDecls) → places (param_wants file ds) ≡ 0
defined-places file no_params = refl
defined-places file (param_and (param_decl qs s d) ds) =
    kind-places (param_kind file s d) (param_wants file ds) ∙ defined-places file ds

objects-places : (n : ℕ) → places (replicate n an_object) ≡ 0
objects-places zero = refl
objects-places (suc n) = objects-places n

closed-places : (n : ℕ) → places (replicate n an_object ++ wanted.NullConstant ∷ []) ≡ 0
closed-places zero = refl
closed-places (suc n) = closed-places n

anything-places : (n : ℕ) → places (replicate n wanted.Anything) ≡ 0
anything-places zero = refl
anything-places (suc n) = anything-places n

units-places : (us : List InUnit) → places (in_wants us) ≡ 0
units-places [] = refl
units-places (unit.Object ∷ us) = units-places us
units-places (unit.ObjectOf ∷ us) = units-places us
units-places (unit.Int ∷ us) = units-places us
units-places (unit.Long ∷ us) = units-places us
units-places (unit.Size ∷ us) = units-places us
units-places (unit.Truth ∷ us) = units-places us
units-places (unit.Text ∷ us) = units-places us
units-places (unit.TextOrNull ∷ us) = units-places us

parsed-places : (b : Bool) (bytes : List ℕ) → places (parsed_wants b bytes) ≡ 0
parsed-places true bytes = units-places (in_format bytes).units
parsed-places false bytes = refl

parse-places : (o : Option (List ℕ)) → places (parse_wants o) ≡ 0
parse-places None = refl
parse-places (Some bytes) = parsed-places (is_fine_in bytes) bytes

built-places : (b : Bool) (bytes : List ℕ) → places (built_wants b bytes) ≡ 0
built-places true bytes = params-places (map unit_param (out_units bytes))
built-places false bytes = refl

build-places : (o : Option (List ℕ)) → places (build_wants o) ≡ 0
build-places None = refl
build-places (Some bytes) = built-places (is_fine_out bytes) bytes

items-places : (m : ℕ) → places (replicate m (wanted.Output answers.BorrowedSure)) ≡ 0
items-places zero = refl
items-places (suc m) = items-places m

unpack-places : (b : Bool) (n : ℕ) → places (if b then limits n else []) ≡ 0
unpack-places true n = items-places (n - 4)
unpack-places false n = refl

-- `Py_CLEAR` alone empties a place
own-places : (s : Special) (n : ℕ) → places (own_wants s n) ≤ 1
own-places specials.TuplePack n = let h = objects-places (n - 1) in omega (arith, h)
own-places specials.CallFunctionObjArgs n = let h = closed-places (n - 2) in omega (arith, h)
own-places specials.ErrFormat n = let h = anything-places (n - 2) in omega (arith, h)
own-places _ n = omega arith

definition-places : (file : List Item) (ps : Params) → places (params_wants file ps) ≤ 1
definition-places file (params ds v dots) = let h = defined-places file ds in omega (arith, h)

-- .. what the call writes, and what may be NULL
-- the instructions of so many steps after an argument parser
abbrev pub steps_size : List OutputStep → ℕ
steps_size outs = 4 * length outs + outputs_size outs

abbrev one_object : List Want → ℕ
one_object (wanted.OfKind (kinds.Object s) ∷ ws) = 1
one_object _ = 0

abbrev objects : List Want → Exprs → ℕ
objects ws no_exprs = 0
objects ws (expr_and e es) = one_object ws + objects (other_wants ws) es

-- the instructions that the arguments have to spare
abbrev pub spare : Env → List Want → Exprs → ℕ
spare env ws es = steps_size (outputs_of env ws es) + objects ws es

outputs-after : (xs ys : List OutputStep) → outputs_size (xs ++ ys) ≡ outputs_size xs + outputs_size ys
outputs-after [] ys = omega arith
outputs-after (Ends n gives ∷ xs) ys = let h = outputs-after xs ys in omega (arith, h)
outputs-after (Writes x a ∷ xs) ys = let h = outputs-after xs ys in omega (arith, h)

steps-after : (xs ys : List OutputStep) → steps_size (xs ++ ys) ≡ steps_size xs + steps_size ys
steps-after xs ys =
    let h = outputs-after xs ys in
    let l = length-append xs ys in
    omega (arith, h, l)

meaning-steps : (a : Answer) (m : Meaning) → steps_size (local_output a m) ≤ 8
meaning-steps a (a_local l) = omega arith
meaning-steps a _ = omega arith

under-steps : (env : Env) (a : Answer) (p : Pos) (k : Kind) (e : Expr)
    → steps_size (written_local env a (unary p k e)) ≤ 4 * written.expr_nodes (unary p k e)
under-steps env a p k (word q n) = meaning-steps a (meaning_of env n.0)
under-steps env a p k _ = omega arith

written-steps : (env : Env) (a : Answer) (e : Expr) → steps_size (written_local env a e) ≤ 4 * written.expr_nodes e
written-steps env a (unary p k e) = under-steps env a p k e
written-steps env a _ = omega arith

-- what the call writes has no value
output-steps : (env : Env) (ws : List Want) (e : Expr) → wants_output ws ≡ true
    → steps_size (output_of env ws e) + one_object ws ≤ 4 * written.expr_nodes e
output-steps env (wanted.Output a ∷ ws) e h = let s = written-steps env a e in omega (arith, s)
output-steps env (wanted.OptionalOutput a ∷ ws) e h = let s = written-steps env a e in omega (arith, s)
output-steps env (wanted.Position ∷ ws) e h = let s = written-steps env answers.AnySize e in omega (arith, s)
output-steps env _ e h = absurd (cc)

no-steps : (env : Env) (ws : List Want) (e : Expr) → wants_output ws ≡ false → steps_size (output_of env ws e) ≡ 0
no-steps env (wanted.Output a ∷ ws) e h = absurd (cc)
no-steps env (wanted.OptionalOutput a ∷ ws) e h = absurd (cc)
no-steps env (wanted.Position ∷ ws) e h = absurd (cc)
no-steps env _ e h = refl

one-object : (ws : List Want) → one_object ws ≤ 1
one-object (wanted.OfKind (kinds.Object s) ∷ ws) = omega arith
one-object _ = omega arith

place-object : (ws : List Want) → wants_place ws ≡ true → one_object ws ≡ 0
place-object (wanted.ObjectPlace ∷ ws) h = refl
place-object _ h = absurd (cc)

-- .. arguments
-- an argument, which may be a place that is emptied, with x instructions more
record FewArgument (v : Value) (x m n : ℕ) : Type 0 where
  nodes : expr_nodes v ≤ 3 * n
  size : expr_size v + x ≤ 4 * n + 2 * m

-- a pointer is passed as it is
converted-few : (ws : List Want) (p : Pos) (from : Option ValueKind) (v : Value) (m n : ℕ) → Few v n
    → FewArgument (convert p (want_kind ws) from v) (one_object ws) m n
converted-few (wanted.OfKind (kinds.Object s) ∷ ws) p from v m n h =
    record { nodes = omega (arith, h.nodes); size = omega (arith, h.size) }
converted-few ws p from v m n h = bare-few (convert-few p (want_kind ws) from v n h)
  where
    bare-few : {w : Value} → Bare w n → FewArgument w 0 m n
    bare-few b = record { nodes = b.nodes; size = omega (arith, b.size) }

emptied-few : (p : Pos) (k : ValueKind) (s : Place) (x n : ℕ) → x ≡ 0 → FewPlace s n
    → FewArgument (emptied p k s) x 1 n
emptied-few p k s x n h f = record { nodes = f.nodes; size = omega (arith, f.size, h) }

other-few : (env : Env) (ws : List Want) (e : Expr) (b : Bool) (n : ℕ) → wants_place ws ≡ b → Few (resolve env e) n
    → FewPlace (place_of env e) n
    → FewArgument (if b && is_place env e then emptied (expr_pos e) (or_int (kind_of env e)) (place_of env e) else
    convert (expr_pos e) (want_kind ws) (kind_of env e) (resolve env e)) (one_object ws) (if b then 1 else 0) n
other-few env ws e false n t h f = converted-few ws (expr_pos e) (kind_of env e) (resolve env e) 0 n h
other-few env ws e true n t h f =
    elim (is_place env e) as (λ c. FewArgument (if c then emptied (expr_pos e) (or_int (kind_of env e))
    (place_of env e) else convert (expr_pos e) (want_kind ws) (kind_of env e) (resolve env e)) (one_object ws) 1 n) [
      | true ↦ emptied-few (expr_pos e) (or_int (kind_of env e)) (place_of env e) (one_object ws) n
          (place-object ws t) f
      | false ↦ converted-few ws (expr_pos e) (kind_of env e) (resolve env e) 1 n h
    ]

arg-few : (env : Env) (ws : List Want) (e : Expr) (b : Bool) (n : ℕ) → Few (resolve env e) n
    → FewPlace (place_of env e) n
    → FewArgument (if b then module_address e else (if wants_place ws && is_place env e then emptied (expr_pos e)
    (or_int (kind_of env e)) (place_of env e) else convert (expr_pos e) (want_kind ws) (kind_of env e)
    (resolve env e))) (one_object ws) (one_place ws) n
arg-few env ws e false n h f = other-few env ws e (wants_place ws) n refl h f
arg-few env ws e true n h f =
    let m = module-few e n (omega (arith, h.size)) in
    let o = one-object ws in
    record { nodes = omega (arith, m.nodes); size = omega (arith, m.size, o) }

pub all-few : (env : Env) (ws : List Want) (e : Expr) (es : Exprs) (b : Bool) (n k : ℕ) → wants_output ws ≡ b
    → written.expr_nodes e ≡ n → Few (resolve env e) n → FewPlace (place_of env e) n
    → FewValues (resolve_all env (other_wants ws) es) (spare env (other_wants ws) es) (places (other_wants ws)) k
    → FewValues (if b then resolve_all env (other_wants ws) es else value_and (argument env ws e)
    (resolve_all env (other_wants ws) es)) (spare env ws (expr_and e es)) (places ws) (n + k)
all-few env ws e es true n k t s h p r =
    let f = first-place ws in
    let o = output-steps env ws e t in
    let a = steps-after (output_of env ws e) (outputs_of env (other_wants ws) es) in
    record { nodes = omega (arith, r.nodes); size = omega (arith, r.size, f, o, a, s) }
all-few env ws e es false n k t s h p r =
    let f = first-place ws in
    let o = no-steps env ws e t in
    let a = steps-after (output_of env ws e) (outputs_of env (other_wants ws) es) in
    let x = arg-few env ws e (wants_module ws && is_module_address env e) n h p in
    record { nodes = omega (arith, r.nodes, x.nodes); size = omega (arith, r.size, x.size, f, o, a) }

-- .. calls that are made of a format or of the number of their arguments
ends-few : (b : Bool) (n : ℤ) (gives : Bool) → outputs_size (ends_if b n gives) ≤ 2
ends-few true n gives = omega arith
ends-few false n gives = omega arith

first-size : (o : OutputStep) (outs : List OutputStep)
    → outputs_size (o ∷ outs) ≡ outputs_size (o ∷ []) + outputs_size outs
first-size (Ends n gives) outs = omega arith
first-size (Writes x a) outs = omega arith

units-few : (least : ℕ) (fails : Bool) (i : ℕ) (outs : List OutputStep)
    → outputs_size (unit_steps least fails i outs) ≤ steps_size outs
units-few least fails i [] = omega arith
units-few least fails i (o ∷ outs) =
    let rest = unit_steps least fails (i + 1) outs in
    let s = ends_if (nat_le least i) (pos i) true in
    let f = ends_if (fails && nat_lt 0 i) (negsuc i) false in
    let a = outputs-after s (f ++ o ∷ rest) in
    let b = outputs-after f (o ∷ rest) in
    let c = ends-few (nat_le least i) (pos i) true in
    let d = ends-few (fails && nat_lt 0 i) (negsuc i) false in
    let x = first-size o rest in
    let y = first-size o outs in
    let r = units-few least fails (i + 1) outs in
    omega (arith, a, b, c, d, x, y, r)

ending-few : (p : Pos) (w : Name) (g : Signature) (least : ℕ) (fails : Bool) (outs : List OutputStep) (b : Bool)
    (vs : Values) (x m n : ℕ) → steps_size outs ≤ x → 1 ≤ m → FewValues vs x 0 n
    → Few (ending_value p w (if b then Some (record { signature = g; steps = parser_steps least fails outs }) else None)
    vs) (m + n + 1)
ending-few p w g least fails outs true vs x m n s l h =
    let u = units-few least fails 0 outs in
    record { nodes = omega (arith, h.nodes, l); size = omega (arith, h.size, s, l, u) }
ending-few p w g least fails outs false vs x m n s l h = record { nodes = omega (arith, l); size = omega (arith, l) }

parse-few : (p : Pos) (w : Name) (o : Option (List ℕ)) (outs : List OutputStep) (vs : Values) (x m n : ℕ)
    → steps_size outs ≤ x → 1 ≤ m → FewValues vs x 0 n → Few (parse_value p w o outs vs) (m + n + 1)
parse-few p w None outs vs x m n s l h = record { nodes = omega (arith, l); size = omega (arith, l) }
parse-few p w (Some bytes) outs vs x m n s l h =
    ending-few p w (parsed_ending (in_format bytes) outs).signature (in_format bytes).required true outs
    (is_none (in_fault bytes) && (is_few (length outs) && is_few (in_format bytes).required)) vs x m n s l h

last-nodes : (vs : Values) (v : Value) → values_nodes (and_last vs v) ≡ values_nodes vs + expr_nodes v
last-nodes no_values v = omega arith
last-nodes (value_and w vs) v = let h = last-nodes vs v in omega (arith, h)

last-size : (vs : Values) (v : Value) → values_size (and_last vs v) ≡ values_size vs + expr_size v
last-size no_values v = omega arith
last-size (value_and w vs) v = let h = last-size vs v in omega (arith, h)

next-few : (p : Pos) (w : Name) (o : Option ℕ) (outs : List OutputStep) (vs : Values) (x m n : ℕ)
    → steps_size outs ≤ x → 1 ≤ m → FewValues vs x 0 n → Few (next_from o p w outs vs) (m + n + 1)
next-few p w None outs vs x m n s l h = record { nodes = omega (arith, l); size = omega (arith, l) }
next-few p w (Some y) outs vs x m n s l h =
    let a = last-nodes vs (read p kinds.Size (local_place p y)) in
    let b = last-size vs (read p kinds.Size (local_place p y)) in
    record { nodes = omega (arith, h.nodes, l, a); size = omega (arith, h.size, s, l, b) }

missing-few : (env : Env) (us : List OutUnit) (es : Exprs)
    → missing_size (map unit_param us) (listed_values (resolve_all env (map param_want (map unit_param us)) es))
    ≤ objects (map param_want (map unit_param us)) es
missing-few env [] es = omega arith
missing-few env (u ∷ us) no_exprs = omega arith
missing-few env (out.Keep ∷ us) (expr_and e es) = let h = missing-few env us es in omega (arith, h)
missing-few env (out.Take ∷ us) (expr_and e es) = let h = missing-few env us es in omega (arith, h)
missing-few env (out.Int ∷ us) (expr_and e es) = let h = missing-few env us es in omega (arith, h)
missing-few env (out.Long ∷ us) (expr_and e es) = let h = missing-few env us es in omega (arith, h)
missing-few env (out.Size ∷ us) (expr_and e es) = let h = missing-few env us es in omega (arith, h)
missing-few env (out.TextOrNull ∷ us) (expr_and e es) = let h = missing-few env us es in omega (arith, h)

format-missing : (env : Env) (b : Bool) (us : List OutUnit) (es : Exprs)
    → missing_size (param.Text ∷ map unit_param us) (listed_values (resolve_all env (wanted.Format b
    ∷ map param_want (map unit_param us)) es)) ≤ objects (wanted.Format b ∷ map param_want (map unit_param us)) es
format-missing env b us no_exprs = omega arith
format-missing env b us (expr_and e es) = let h = missing-few env us es in omega (arith, h)

built-few : (env : Env) (p : Pos) (w : Name) (bytes : List ℕ) (b : Bool) (es : Exprs) (m n : ℕ) → 1 ≤ m
    → FewValues (resolve_all env (wanted.Format b ∷ built_wants b bytes) es) (spare env (wanted.Format b
    ∷ built_wants b bytes) es) 0 n
    → Few (built_value p w (if b then Some (build_signature (out_units bytes)) else None) (resolve_all env
    (wanted.Format b ∷ built_wants b bytes) es)) (m + n + 1)
built-few env p w bytes false es m n l h = record { nodes = omega (arith, l); size = omega (arith, l) }
built-few env p w bytes true es m n l h =
    let q = format-missing env true (out_units bytes) es in
    record { nodes = omega (arith, h.nodes, l); size = omega (arith, h.size, l, q) }

build-few : (env : Env) (p : Pos) (w : Name) (o : Option (List ℕ)) (es : Exprs) (m n : ℕ) → 1 ≤ m
    → FewValues (resolve_all env (build_wants o) es) (spare env (build_wants o) es) 0 n
    → Few (build_value p w o (resolve_all env (build_wants o) es)) (m + n + 1)
build-few env p w None es m n l h = record { nodes = omega (arith, l); size = omega (arith, l) }
build-few env p w (Some bytes) es m n l h = built-few env p w bytes (is_fine_out bytes) es m n l h

-- .. a call
no-places : (vs : Values) (x k n : ℕ) → k ≡ 0 → FewValues vs x k n → FewValues vs x 0 n
no-places vs x k n e h = subst (λ (j : ℕ). FewValues vs x j n) e h

spare-steps : (env : Env) (ws : List Want) (es : Exprs) → steps_size (outputs_of env ws es) ≤ spare env ws es
spare-steps env ws es = omega arith

plain-few : (p : Pos) (w : Name) (g : Signature) (vs : Values) (x k m n : ℕ) → k ≤ 1 → FewValues vs x k n
    → Few (called_row p w g vs) (m + n + 1)
plain-few p w g vs x k m n l h = record { nodes = omega (arith, h.nodes); size = omega (arith, h.size, l) }

form-few : (env : Env) (p : Pos) (w : Name) (row : Row) (f : Form) (es : Exprs) (given : List Param) (m n : ℕ) → 1 ≤ m
    → FewValues (resolve_all env (form_wants env f row es) es) (spare env (form_wants env f row es) es)
    (places (form_wants env f row es)) n
    → Few (special_value (special_form f) env p row w es given (outputs_of env (form_wants env f row es) es)
    (resolve_all env (form_wants env f row es) es)) (m + n + 1)
form-few env p w row (forms.Special specials.ParseTuple) es given m n l h =
    let o = format_at env.file.texts 1 es in
    let ws = parse_wants o in
    parse-few p w o (outputs_of env ws es) (resolve_all env ws es) (spare env ws es) m n (spare-steps env ws es) l
    (no-places (resolve_all env ws es) (spare env ws es) (places ws) n (parse-places o) h)
form-few env p w row (forms.Special specials.UnpackTuple) es given m n l h =
    let ws = if is_few (how_many es) then limits (how_many es) else [] in
    let outs = outputs_of env ws es in
    let least = number_in_front (arg_at 2 es) in
    ending-few p w (unpacked_ending least outs).signature least false outs (is_few (length outs) && is_few least)
    (resolve_all env ws es) (spare env ws es) m n (spare-steps env ws es) l
    (no-places (resolve_all env ws es) (spare env ws es) (places ws) n (unpack-places (is_few (how_many es))
    (how_many es)) h)
form-few env p w row (forms.Special specials.DictNext) es given m n l h =
    let ws = own_wants specials.DictNext (how_many es) in
    next-few p w (position_local (outputs_of env ws es)) (outputs_of env ws es) (resolve_all env ws es)
    (spare env ws es) m n (spare-steps env ws es) l h
form-few env p w row (forms.Special specials.BuildValue) es given m n l h =
    let o = format_at env.file.texts 0 es in
    let ws = build_wants o in
    build-few env p w o es m n l (no-places (resolve_all env ws es) (spare env ws es) (places ws) n (build-places o) h)
form-few env p w row forms.Plain es given m n l h =
    let q = params-places row.params in
    plain-few p w (signature_of row given) (resolve_all env (form_wants env forms.Plain row es) es)
    (spare env (form_wants env forms.Plain row es) es) (places (form_wants env forms.Plain row es)) m n
    (omega (arith, q)) h
form-few env p w row (forms.Special s) es given m n l h =
    let ws = own_wants s (how_many es) in
    plain-few p w (signature_of row given) (resolve_all env ws es) (spare env ws es) (places ws) m n
    (own-places s (how_many es)) h

pub call-few : (env : Env) (p : Pos) (c : Callee) (w : Name) (es : Exprs) (given : List Param) (m n : ℕ) → 1 ≤ m
    → FewValues (resolve_all env (call_wants env c es) es) (spare env (call_wants env c es) es)
    (places (call_wants env c es)) n
    → Few (call_value env p c w es given (outputs_of env (call_wants env c es) es)
    (resolve_all env (call_wants env c es) es)) (m + n + 1)
call-few env p (defined d) w es given m n l h =
    let k = definition-places env.file.items d.params in
    record { nodes = omega (arith, h.nodes); size = omega (arith, h.size, k) }
call-few env p (a_row r) w es given m n l h = form-few env p w r r.form es given m n l h
call-few env p no_word w es given m n l h = record { nodes = omega arith; size = omega arith }
call-few env p a_value w es given m n l h = record { nodes = omega arith; size = omega arith }
call-few env p no_function w es given m n l h = record { nodes = omega arith; size = omega arith }
