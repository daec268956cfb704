-- A file has no more variables and type objects than tokens.
--   few_type_objects    the type objects of a file within the limit are few enough to have numbers
use Rattle.std.proofs.Common.{◌≡◌, ℕ, suc, ◌+◌, ◌≤◌, Bool, true, false, List, [], ◌∷◌, ◌++◌, length, refl, ap, arith}
use Rattle.std.proofs.Common.{length-append}
use Rattle.std.specs.Prelude.{if◌then◌else◌}
use Rattle.pungi_base.specs.declared.key.Key.{Key}
use Rattle.pungi_base.specs.declared.punct.Punct.TheVariants as puncts
use Rattle.pungi_base.specs.Numbers.{static_count, py_type_object}
use Rattle.pungi_tree.specs.ExprFlat.{spec_flat}
use Rattle.pungi_tree.specs.StmtFlat.{var_decl_flat, more_vars_flat, vars_flat, decl_flat}
use Rattle.pungi_tree.specs.Syntax.{Spec, VarDecl, var_decl, decl, Item, nothing, doc, typedef, tag, variables}
use Rattle.pungi_tree.specs.Syntax.{prototype, function_def}
use Rattle.pungi_tree.specs.Tokens.{mark, keys_flat}
use Rattle.pungi_tree.specs.UnitFlat.{item_flat, items_flat}
use Rattle.pungi_types.specs.Files.{Variable, declr_name, decl_variables, variables_of}
use Rattle.pungi_types.specs.Limits.{most_statics}
use Rattle.pungi_types.specs.Names.{is_among, with_word, is_single, type_objects_in, type_objects}
use Rattle.pungi_names.specs.Limits.{most_tokens}

more_vars : (vs : List VarDecl) → length vs ≤ length (more_vars_flat vs)
more_vars [] = omega arith
more_vars (v ∷ vs) = omega (arith, length-append (var_decl_flat v) (more_vars_flat vs), more_vars vs)

some_vars : (vs : List VarDecl) → length vs ≤ length (vars_flat vs) + 1
some_vars [] = omega arith
some_vars (v ∷ vs) = omega (arith, length-append (var_decl_flat v) (more_vars_flat vs), more_vars vs)

each_var : (s : Spec) (vs : List VarDecl) → length (decl_variables s vs) ≡ length vs
each_var s [] = refl
each_var s (var_decl d i ∷ vs) = ap suc (each_var s vs)

declared : (qs : List Key) (s : Spec) (vs : List VarDecl)
    → length (decl_variables s vs) ≤ length (decl_flat (decl qs s vs))
declared qs s vs =
    let tail = vars_flat vs ++ mark puncts.Semicolon ∷ [] in
    omega (
      arith,
      each_var s vs,
      some_vars vs,
      length-append (vars_flat vs) (mark puncts.Semicolon ∷ []),
      length-append (spec_flat s) tail,
      length-append (keys_flat qs) (spec_flat s ++ tail),
    )

few_variables : (items : List Item) → length (variables_of items) ≤ length (items_flat items)
few_variables [] = omega arith
few_variables (variables (decl qs s vs) ∷ is) =
    omega (
      arith,
      length-append (decl_variables s vs) (variables_of is),
      length-append (decl_flat (decl qs s vs)) (items_flat is),
      declared qs s vs,
      few_variables is,
    )
few_variables (nothing p ∷ is) = omega (arith, length-append (item_flat (nothing p)) (items_flat is), few_variables is)
few_variables (doc p n ts ∷ is) = omega
    (arith, length-append (item_flat (doc p n ts)) (items_flat is), few_variables is)
few_variables (typedef s stars n p ∷ is) =
    omega (arith, length-append (item_flat (typedef s stars n p)) (items_flat is), few_variables is)
few_variables (tag qs s ∷ is) = omega (arith, length-append (item_flat (tag qs s)) (items_flat is), few_variables is)
few_variables (prototype h ∷ is) =
    omega (arith, length-append (item_flat (prototype h)) (items_flat is), few_variables is)
few_variables (function_def h b ∷ is) =
    omega (arith, length-append (item_flat (function_def h b)) (items_flat is), few_variables is)

one_word : (among : Bool) (ws : List ℕ) (w : ℕ) → length (if among then ws else ws ++ w ∷ []) ≤ length ws + 1
one_word true ws w = omega arith
one_word false ws w = omega (arith, length-append ws (w ∷ []))

one_object : (single : Bool) (ws : List ℕ) (w : ℕ) → length (if single then with_word ws w else ws) ≤ length ws + 1
one_object true ws w = one_word (is_among ws w) ws w
one_object false ws w = omega arith

objects_within : (file : List Item) (seen : List ℕ) (vs : List Variable)
    → length (type_objects_in file seen vs) ≤ length seen + length vs
objects_within file seen [] = omega arith
objects_within file seen (v ∷ vs) =
    let w = (declr_name v.declr).0 in
    let single = is_single file py_type_object v in
    omega (
      arith,
      one_object single seen w,
      objects_within file (if single then with_word seen w else seen) vs,
    )

pub few_type_objects : (items : List Item) → length (items_flat items) ≤ most_tokens
    → static_count + length (type_objects items) ≤ most_statics
few_type_objects items h = omega (arith, h, objects_within items [] (variables_of items), few_variables items)
