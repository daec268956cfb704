-- An expression or a type that the grammar allows has no `typedef` and no `;` outside its braces, and closes them.
use Rattle.std.proofs.Common.{◌≡◌, ℕ, zero, suc, ◌+◌, ◌≤◌, Bool, true, false, List, [], ◌∷◌, Option, Some, None, refl}
use Rattle.std.proofs.Common.{arith}
use Rattle.std.specs.Prelude.{nat_le, not}
use Rattle.std.proofs.lemmas.Bool.Decides.{nat_tests}
use Rattle.pungi_base.specs.declared.key.Key.{Key}
use Rattle.pungi_base.specs.declared.names.Name.{Name}
use Rattle.pungi_base.specs.declared.pos.Pos.{Pos}
use Rattle.pungi_spelling.proofs.Harmless.{first, second, step_steps, assign_steps, binary_steps, prefix_steps}
use Rattle.pungi_spelling.proofs.Harmless.{base_word_steps, qualifier_steps, aggregate_steps}
use Rattle.pungi_spelling.proofs.Scans.{Steps, Scans, none, one, plain, two, semicolon}
use Rattle.pungi_tree.specs.ExprFlat.{expr_flat, args_flat, more_args_flat, type_name_flat, spec_flat, base_flat}
use Rattle.pungi_tree.specs.ExprFlat.{field_flat, fields_flat, declr_flat, declrs_flat, more_declrs_flat, tail_flat}
use Rattle.pungi_tree.specs.ExprFlat.{sizes_flat, params_flat, param_decl_flat, param_decls_flat, more_param_decls_flat}
use Rattle.pungi_tree.specs.ExprFlat.{param_declr_flat}
use Rattle.pungi_tree.specs.ExprLevels.{is_empty, tag_ok, void_ok, expr_at, args_ok, type_name_ok, spec_ok, base_ok}
use Rattle.pungi_tree.specs.ExprLevels.{field_ok, fields_ok, declr_ok, some_declrs_ok, declrs_ok, tail_ok, sizes_ok}
use Rattle.pungi_tree.specs.ExprLevels.{params_ok, param_decl_ok, param_decls_ok, param_declr_ok}
use Rattle.pungi_tree.specs.Operators.{binary_level, is_assign, prefix_need, is_step, is_aggregate, is_base_word}
use Rattle.pungi_tree.specs.Operators.{is_qualifier, all_keys}
use Rattle.pungi_tree.specs.Syntax.{Expr, word, int, float, char, text, null, paren, unary, post, binary, assign}
use Rattle.pungi_tree.specs.Syntax.{conditional, comma, cast, size_of_type, call, new, index, dot, arrow, Exprs}
use Rattle.pungi_tree.specs.Syntax.{no_exprs, expr_and, TypeName, type_name, Spec, spec, Base, words, alias, tagged}
use Rattle.pungi_tree.specs.Syntax.{tagged_fields, Field, empty, members, Fields, no_fields, field_and, Declr, declr}
use Rattle.pungi_tree.specs.Syntax.{Declrs, no_declrs, declr_and, Tail, sizes, function, Sizes, no_sizes, open_and}
use Rattle.pungi_tree.specs.Syntax.{size_and, Params, params, ParamDecl, param_decl, ParamDecls, no_params, param_and}
use Rattle.pungi_tree.specs.Syntax.{ParamDeclr, named, bare, unused}
use Rattle.pungi_base.specs.Numbers.{py_object_new}
use Rattle.pungi_tree.specs.TypeWords.{is_word}
use Rattle.pungi_tree.specs.Tokens.{key, named_word, keys_flat, texts_flat, consts_flat, stars_flat, tag_flat}
use Rattle.pungi_tree.specs.Tokens.{void_flat, dots_flat}

le_from : (m n : ℕ) → nat_le m n ≡ true → m ≤ n
le_from m n h = grind (arith, nat_tests)

-- no expression binds tighter than a primary one
at_most_primary : (T : List Name) (l : ℕ) (e : Expr) → expr_at T l e ≡ true → l ≤ 16
at_most_primary T l (binary p m x y) h =
    let low = le_from l (binary_level m) (first (nat_le l (binary_level m)) _ h) in
    let high = at_most_primary T (binary_level m + 1) y (second (expr_at T (binary_level m) x) _
    (second (nat_le l (binary_level m)) _ h)) in
    omega (arith, low, high)
at_most_primary T l (word p n) h = le_from l 16 (first (nat_le l 16) _ h)
at_most_primary T l (int p v b u) h = le_from l 16 h
at_most_primary T l (float p) h = le_from l 16 h
at_most_primary T l (char p c) h = le_from l 16 h
at_most_primary T l (text p ns) h = le_from l 16 (first (nat_le l 16) _ h)
at_most_primary T l (null p) h = le_from l 16 h
at_most_primary T l (paren p e) h = le_from l 16 (first (nat_le l 16) _ h)
at_most_primary T l (unary p k e) h = let low = le_from l 14 (first (nat_le l 14) _ h) in omega (arith, low)
at_most_primary T l (post p m e) h = let low = le_from l 15 (first (nat_le l 15) _ h) in omega (arith, low)
at_most_primary T l (assign p m x y) h = let low = le_from l 1 (first (nat_le l 1) _ h) in omega (arith, low)
at_most_primary T l (conditional p x y z) h = let low = le_from l 2 (first (nat_le l 2) _ h) in omega (arith, low)
at_most_primary T l (comma p x y) h = let low = le_from l 0 (first (nat_le l 0) _ h) in omega (arith, low)
at_most_primary T l (cast p t e) h = let low = le_from l 13 (first (nat_le l 13) _ h) in omega (arith, low)
at_most_primary T l (size_of_type p t) h = let low = le_from l 14 (first (nat_le l 14) _ h) in omega (arith, low)
at_most_primary T l (call p f es) h = let low = le_from l 15 (first (nat_le l 15) _ h) in omega (arith, low)
at_most_primary T l (new p t e) h = le_from l 16 (first (nat_le l 16) _ h)
at_most_primary T l (index p x y) h = let low = le_from l 15 (first (nat_le l 15) _ h) in omega (arith, low)
at_most_primary T l (dot p e n) h = let low = le_from l 15 (first (nat_le l 15) _ h) in omega (arith, low)
at_most_primary T l (arrow p e n) h = let low = le_from l 15 (first (nat_le l 15) _ h) in omega (arith, low)

pub texts_read : (a : ℕ) (ns : List Name) → Scans a a (texts_flat ns)
texts_read a [] = none a
texts_read a (n ∷ ns) = plain (refl, refl, refl) (texts_read a ns)

consts_read : (a n : ℕ) → Scans a a (consts_flat n)
consts_read a zero = none a
consts_read a (suc n) = plain (refl, refl, refl) (consts_read a n)

pub stars_read : (a : ℕ) (ns : List ℕ) → Scans a a (stars_flat ns)
stars_read a [] = none a
stars_read a (n ∷ ns) = plain (refl, refl, refl) (two (consts_read a n) (stars_read a ns))

keys_read : (a : ℕ) (test : Key → Bool) → ((k : Key) → test k ≡ true → Steps a (key k) a) → (ks : List Key)
    → all_keys test ks ≡ true → Scans a a (keys_flat ks)
keys_read a test steps [] h = none a
keys_read a test steps (k ∷ ks) h =
    plain (steps k (first (test k) _ h)) (keys_read a test steps ks (second (test k) _ h))

pub qualifiers_read : (a : ℕ) (ks : List Key) → all_keys is_qualifier ks ≡ true → Scans a a (keys_flat ks)
qualifiers_read a ks h = keys_read a is_qualifier (qualifier_steps a) ks h

tag_read : (a : ℕ) (tag : Option (Name × Pos)) → Scans a a (tag_flat tag)
tag_read a None = none a
tag_read a (Some t) = plain (refl, refl, refl) (none a)

void_read : (a : ℕ) (v : Bool) → Scans a a (void_flat v)
void_read a true = plain (refl, refl, refl) (none a)
void_read a false = none a

dots_read : (a : ℕ) (dots : Option Pos) → Scans a a (dots_flat dots)
dots_read a None = none a
dots_read a (Some p) = plain (refl, refl, refl) (plain (refl, refl, refl) (none a))

mutual
  pub expr_reads : (T : List Name) (l a : ℕ) (e : Expr) → expr_at T l e ≡ true → Scans a a (expr_flat e)
  expr_reads T l a (word p n) h = plain (refl, refl, refl) (none a)
  expr_reads T l a (int p v b u) h = plain (refl, refl, refl) (none a)
  expr_reads T l a (float p) h = plain (refl, refl, refl) (none a)
  expr_reads T l a (char p c) h = plain (refl, refl, refl) (none a)
  expr_reads T l a (text p ns) h = texts_read a ns
  expr_reads T l a (null p) h = plain (refl, refl, refl) (none a)
  expr_reads T l a (paren p e) h = plain (refl, refl, refl) (two (expr_reads T 0 a e (second (nat_le l 16) _ h))
      (plain (refl, refl, refl) (none a)))
  expr_reads T l a (unary p k e) h = plain (prefix_steps a k (at_most_primary T (prefix_need k) e
      (second (nat_le l 14) _ h))) (expr_reads T (prefix_need k) a e (second (nat_le l 14) _ h))
  expr_reads T l a (post p m e) h = two (expr_reads T 15 a e (second (is_step m) _ (second (nat_le l 15) _ h)))
      (plain (step_steps a m (first (is_step m) _ (second (nat_le l 15) _ h))) (none a))
  expr_reads T l a (binary p m x y) h =
      two (expr_reads T (binary_level m) a x (first (expr_at T (binary_level m) x) _
      (second (nat_le l (binary_level m)) _ h)))
      (plain (binary_steps a m (at_most_primary T (binary_level m) x (first (expr_at T (binary_level m) x) _
      (second (nat_le l (binary_level m)) _ h)))) (expr_reads T (binary_level m + 1) a y
      (second (expr_at T (binary_level m) x) _ (second (nat_le l (binary_level m)) _ h))))
  expr_reads T l a (assign p m x y) h =
      two (expr_reads T 14 a x (first (expr_at T 14 x) _ (second (is_assign m) _ (second (nat_le l 1) _ h))))
      (plain (assign_steps a m (first (is_assign m) _ (second (nat_le l 1) _ h)))
      (expr_reads T 1 a y (second (expr_at T 14 x) _ (second (is_assign m) _ (second (nat_le l 1) _ h)))))
  expr_reads T l a (conditional p x y z) h =
      two (expr_reads T 3 a x (first (expr_at T 3 x) _ (second (nat_le l 2) _ h)))
      (plain (refl, refl, refl) (two (expr_reads T 0 a y (first (expr_at T 0 y) _
      (second (expr_at T 3 x) _ (second (nat_le l 2) _ h)))) (plain (refl, refl, refl)
      (expr_reads T 2 a z (second (expr_at T 0 y) _ (second (expr_at T 3 x) _ (second (nat_le l 2) _ h)))))))
  expr_reads T l a (comma p x y) h = two (expr_reads T 0 a x (first (expr_at T 0 x) _ (second (nat_le l 0) _ h)))
      (plain (refl, refl, refl) (expr_reads T 1 a y (second (expr_at T 0 x) _ (second (nat_le l 0) _ h))))
  expr_reads T l a (cast p t e) h =
      plain (refl, refl, refl) (two (type_name_reads T a t (first (type_name_ok T t) _ (second (nat_le l 13) _ h)))
      (plain (refl, refl, refl) (expr_reads T 13 a e (second (type_name_ok T t) _ (second (nat_le l 13) _ h)))))
  expr_reads T l a (size_of_type p t) h =
      plain (refl, refl, refl) (plain (refl, refl, refl) (two (type_name_reads T a t (second (nat_le l 14) _ h))
      (plain (refl, refl, refl) (none a))))
  expr_reads T l a (call p f es) h =
      two (expr_reads T 15 a f (first (expr_at T 15 f) _ (second (nat_le l 15) _ h)))
      (plain (refl, refl, refl) (two (args_read T a es (second (expr_at T 15 f) _ (second (nat_le l 15) _ h)))
      (plain (refl, refl, refl) (none a))))
  expr_reads T l a (new p t e) h =
      plain (refl, refl, refl) (plain (refl, refl, refl) (two (type_name_reads T a t
      (first (type_name_ok T t) _ (second (is_word T (named_word py_object_new)) _ (second (nat_le l 16) _ h))))
      (plain (refl, refl, refl) (two (expr_reads T 1 a e (second (type_name_ok T t) _
      (second (is_word T (named_word py_object_new)) _ (second (nat_le l 16) _ h))))
      (plain (refl, refl, refl) (none a))))))
  expr_reads T l a (index p x y) h =
      two (expr_reads T 15 a x (first (expr_at T 15 x) _ (second (nat_le l 15) _ h)))
      (plain (refl, refl, refl) (two (expr_reads T 0 a y (second (expr_at T 15 x) _ (second (nat_le l 15) _ h)))
      (plain (refl, refl, refl) (none a))))
  expr_reads T l a (dot p e n) h = two (expr_reads T 15 a e (first (expr_at T 15 e) _ (second (nat_le l 15) _ h)))
      (plain (refl, refl, refl) (plain (refl, refl, refl) (none a)))
  expr_reads T l a (arrow p e n) h = two (expr_reads T 15 a e (first (expr_at T 15 e) _ (second (nat_le l 15) _ h)))
      (plain (refl, refl, refl) (plain (refl, refl, refl) (none a)))

  args_read : (T : List Name) (a : ℕ) (es : Exprs) → args_ok T es ≡ true → Scans a a (args_flat es)
  args_read T a no_exprs h = none a
  args_read T a (expr_and e es) h = two (expr_reads T 1 a e (first (expr_at T 1 e) _ h))
      (more_args_read T a es (second (expr_at T 1 e) _ h))

  more_args_read : (T : List Name) (a : ℕ) (es : Exprs) → args_ok T es ≡ true → Scans a a (more_args_flat es)
  more_args_read T a no_exprs h = none a
  more_args_read T a (expr_and e es) h = plain (refl, refl, refl) (two (expr_reads T 1 a e
      (first (expr_at T 1 e) _ h)) (more_args_read T a es (second (expr_at T 1 e) _ h)))

  type_name_reads : (T : List Name) (a : ℕ) (t : TypeName) → type_name_ok T t ≡ true → Scans a a (type_name_flat t)
  type_name_reads T a (type_name s stars) h = two (spec_reads T a s h) (stars_read a stars)

  pub spec_reads : (T : List Name) (a : ℕ) (s : Spec) → spec_ok T s ≡ true → Scans a a (spec_flat s)
  spec_reads T a (spec p b n) h = two (base_reads T a b h) (consts_read a n)

  base_reads : (T : List Name) (a : ℕ) (b : Base) → base_ok T b ≡ true → Scans a a (base_flat b)
  base_reads T a (words ks) h = keys_read a is_base_word (base_word_steps a) ks (second (not (is_empty ks)) _ h)
  base_reads T a (alias n) h = plain (refl, refl, refl) (none a)
  base_reads T a (tagged of tag) h = plain (aggregate_steps a of (first (is_aggregate of) _ h)) (tag_read a tag)
  base_reads T a (tagged_fields of tag fs) h =
      plain (aggregate_steps a of (first (is_aggregate of) _ h)) (two (tag_read a tag)
      (one a (suc a) a _ _ (refl, refl, refl)
      (two (fields_read T a fs (second (tag_ok T tag) _ (second (is_aggregate of) _ h)))
      (one (suc a) a a _ _ (refl, refl, refl) (none a)))))

  field_reads : (T : List Name) (a : ℕ) (f : Field) → field_ok T f ≡ true → Scans (suc a) (suc a) (field_flat f)
  field_reads T a empty h = semicolon (none (suc a))
  field_reads T a (members qs s ds) h =
      two (qualifiers_read (suc a) qs (first (all_keys is_qualifier qs) _ h))
      (two (spec_reads T (suc a) s (first (spec_ok T s) _ (second (all_keys is_qualifier qs) _ h)))
      (two (declrs_read T (suc a) ds (second (spec_ok T s) _ (second (all_keys is_qualifier qs) _ h)))
      (semicolon (none (suc a)))))

  fields_read : (T : List Name) (a : ℕ) (fs : Fields) → fields_ok T fs ≡ true → Scans (suc a) (suc a) (fields_flat fs)
  fields_read T a no_fields h = none (suc a)
  fields_read T a (field_and f fs) h = two (field_reads T a f (first (field_ok T f) _ h))
      (fields_read T a fs (second (field_ok T f) _ h))

  pub declr_reads : (T : List Name) (a : ℕ) (d : Declr) → declr_ok T d ≡ true → Scans a a (declr_flat d)
  declr_reads T a (declr stars n p t) h = two (stars_read a stars) (tail_reads T a n t (second (is_word T n) _ h))

  declrs_read : (T : List Name) (a : ℕ) (ds : Declrs) → some_declrs_ok T ds ≡ true → Scans a a (declrs_flat ds)
  declrs_read T a no_declrs h = none a
  declrs_read T a (declr_and d ds) h = two (declr_reads T a d (first (declr_ok T d) _ h))
      (more_declrs_read T a ds (second (declr_ok T d) _ h))

  more_declrs_read : (T : List Name) (a : ℕ) (ds : Declrs) → declrs_ok T ds ≡ true → Scans a a (more_declrs_flat ds)
  more_declrs_read T a no_declrs h = none a
  more_declrs_read T a (declr_and d ds) h = plain (refl, refl, refl) (two
      (declr_reads T a d (first (declr_ok T d) _ h)) (more_declrs_read T a ds (second (declr_ok T d) _ h)))

  tail_reads : (T : List Name) (a : ℕ) (n : Name) (t : Tail) → tail_ok T t ≡ true → Scans a a (tail_flat n t)
  tail_reads T a n (sizes ss) h = plain (refl, refl, refl) (sizes_read T a ss h)
  tail_reads T a n (function ps) h =
      plain (refl, refl, refl) (plain (refl, refl, refl) (plain (refl, refl, refl)
      (plain (refl, refl, refl) (plain (refl, refl, refl)
      (two (params_read T a ps h) (plain (refl, refl, refl) (none a)))))))

  sizes_read : (T : List Name) (a : ℕ) (ss : Sizes) → sizes_ok T ss ≡ true → Scans a a (sizes_flat ss)
  sizes_read T a no_sizes h = none a
  sizes_read T a (open_and ss) h = plain (refl, refl, refl) (plain (refl, refl, refl) (sizes_read T a ss h))
  sizes_read T a (size_and e ss) h = plain (refl, refl, refl) (two (expr_reads T 0 a e (first (expr_at T 0 e) _ h))
      (plain (refl, refl, refl) (sizes_read T a ss (second (expr_at T 0 e) _ h))))

  pub params_read : (T : List Name) (a : ℕ) (ps : Params) → params_ok T ps ≡ true → Scans a a (params_flat ps)
  params_read T a (params ds v dots) h = two (void_read a v) (two (param_decls_read T a ds
      (second (void_ok v ds dots) _ h)) (dots_read a dots))

  param_decl_reads : (T : List Name) (a : ℕ) (d : ParamDecl) → param_decl_ok T d ≡ true → Scans a a (param_decl_flat d)
  param_decl_reads T a (param_decl qs s d) h =
      two (qualifiers_read a qs (first (all_keys is_qualifier qs) _ h)) (two
      (spec_reads T a s (first (spec_ok T s) _ (second (all_keys is_qualifier qs) _ h)))
      (param_declr_reads T a d (second (spec_ok T s) _ (second (all_keys is_qualifier qs) _ h))))

  param_decls_read : (T : List Name) (a : ℕ) (ds : ParamDecls) → param_decls_ok T ds ≡ true
      → Scans a a (param_decls_flat ds)
  param_decls_read T a no_params h = none a
  param_decls_read T a (param_and d ds) h = two (param_decl_reads T a d (first (param_decl_ok T d) _ h))
      (more_param_decls_read T a ds (second (param_decl_ok T d) _ h))

  more_param_decls_read : (T : List Name) (a : ℕ) (ds : ParamDecls) → param_decls_ok T ds ≡ true
      → Scans a a (more_param_decls_flat ds)
  more_param_decls_read T a no_params h = none a
  more_param_decls_read T a (param_and d ds) h = plain (refl, refl, refl)
      (two (param_decl_reads T a d (first (param_decl_ok T d) _ h)) (more_param_decls_read T a ds
      (second (param_decl_ok T d) _ h)))

  param_declr_reads : (T : List Name) (a : ℕ) (d : ParamDeclr) → param_declr_ok T d ≡ true
      → Scans a a (param_declr_flat d)
  param_declr_reads T a (named d) h = declr_reads T a d h
  param_declr_reads T a (bare stars) h = stars_read a stars
  param_declr_reads T a (unused stars n p) h =
      two (stars_read a stars) (plain (refl, refl, refl) (plain (refl, refl, refl)
      (plain (refl, refl, refl) (plain (refl, refl, refl) (none a)))))
