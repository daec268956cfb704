-- Instructions that are put one after another are those of the expression.
use Rattle.std.proofs.Common.{◌≡◌, ℕ, ◌+◌, List, [], ◌∷◌, ◌++◌, length, refl}
use Rattle.std.proofs.Common.{sym, ap, ◌∙◌, arith, append_assoc, length-append, true, false}
use Rattle.std.proofs.Common.{not, pos}
use Rattle.std.specs.Prelude.{slice_set}
use Rattle.pungi_base.specs.declared.kind.Kind.{Kind}
use Rattle.pungi_base.specs.declared.pos.Pos.{Pos}
use Rattle.pungi_base.specs.declared.punct.Punct.{Punct}
use Rattle.pungi_api.specs.declared.param.Param.{Param}
use Rattle.pungi_types.specs.declared.kind.ValueKind.{ValueKind}
use Rattle.pungi_resolved.specs.Values as expr
use Rattle.pungi_meaning.specs.Values.{op_of, wide}
use Rattle.pungi_resolved.specs.ValueView.{values_of}
use Rattle.pungi_meaning.specs.Exprs.{is_and, step_op}
use Rattle.pungi_meaning.specs.Todo.{listed_values}
use Rattle.pungi_code.specs.declared.atom.Atom.TheVariants as atom
use Rattle.pungi_code.specs.declared.code.Line.{Line}
use Rattle.pungi_code.specs.declared.instr.Instr.TheVariants.{Set, Arith, Branch, Jump}
use Rattle.pungi_layout.specs.code.FirstTokens.{first_token}
use Rattle.pungi_layout.specs.code.Sizes.{expr_size, place_size, values_size}
use Rattle.pungi_layout.specs.code.Temporaries.{column, temp, temp_of, tail, arg_var}
use Rattle.pungi_layout.specs.code.ExprCode.{line, to_var, var, at_label, bit, branch_on, fit_code, old_code}
use Rattle.pungi_layout.specs.code.ExprCode.{store_code, above, stored_var, counted_var, base_var, step_code}
use Rattle.pungi_layout.specs.code.ExprCode.{expr_code, base_code, args_code}
use Rattle.pungi_layout.proofs.code.ExprLengths.{long_append, expr_long, base_long, old_long, args_long}

-- ---- lists

pub glued : (c0 c1 c2 a b : List Line) → c1 ≡ c0 ++ a → c2 ≡ c1 ++ b → c2 ≡ c0 ++ (a ++ b)
glued c0 c1 c2 a b e f = f ∙ ap (λ c. c ++ b) e ∙ append_assoc c0 a b

pub grown : (c0 c1 a : List Line) (n : ℕ) → c1 ≡ c0 ++ a → length a ≡ n → length c1 ≡ length c0 + n
grown c0 c1 a n e f = ap length e ∙ length-append c0 a ∙ ap (λ m. length c0 + m) f

pub moved : (code : ℕ → List Line) (c0 c1 : List Line) (n : ℕ) → length c0 ≡ n → c1 ≡ c0 ++ code (length c0)
    → c1 ≡ c0 ++ code n
moved code c0 c1 n e f = f ∙ ap (λ m. c0 ++ code m) e

-- an instruction after a front is put in place of another
pub set_behind : (front rest : List Line) (x y : Line)
    → slice_set (front ++ x ∷ rest) (length front) y ≡ front ++ y ∷ rest
set_behind [] rest x y = refl
set_behind (l ∷ front) rest x y = ap (λ c. l ∷ c) (set_behind front rest x y)

pub patched : (c2 c3 c4 c5 b : List Line) (x y : Line) (t : ℕ) → c3 ≡ c2 ++ x ∷ [] → c4 ≡ c3 ++ b → t ≡ length c2
    → c5 ≡ slice_set c4 t y → c5 ≡ c2 ++ y ∷ b
patched c2 c3 c4 c5 b x y t e f g h =
    let whole : c4 ≡ c2 ++ x ∷ b = glued c2 c3 c4 (x ∷ []) b e f in
    h ∙ ap (λ c. slice_set c t y) whole ∙ ap (λ n. slice_set (c2 ++ x ∷ b) n y) g ∙ set_behind c2 b x y

pub glued_in : (c0 c1 c2 a b d : List Line) → c1 ≡ c0 ++ (a ++ b) → c2 ≡ c1 ++ d → c2 ≡ c0 ++ (a ++ (b ++ d))
glued_in c0 c1 c2 a b d e f = glued c0 c1 c2 (a ++ b) d e f ∙ ap (λ c. c0 ++ c) (append_assoc a b d)

-- the arguments of a call, in a list
pub as_listed : (vs : List expr.Value) → listed_values (values_of vs) ≡ vs
as_listed [] = refl
as_listed (v ∷ vs) = ap (λ l. v ∷ l) (as_listed vs)

pub put_grown : (l : Line) (c0 c1 : List Line) → c1 ≡ c0 ++ l ∷ [] → length c1 ≡ length c0 + 1
put_grown l c0 c1 e = grown c0 c1 (l ∷ []) 1 e refl

-- ---- expressions

module _ (nl : ℕ) where
  pub value_grown : (d t : ℕ) (v : expr.Value) (c0 c1 : List Line) → c1 ≡ c0 ++ expr_code nl d t (length c0) v
      → length c1 ≡ length c0 + expr_size v
  value_grown d t v c0 c1 e = grown c0 c1 (expr_code nl d t (length c0) v) (expr_size v) e (expr_long v nl d t
      (length c0))

  pub base_grown : (d : ℕ) (place : expr.Place) (c0 c1 : List Line) → c1 ≡ c0 ++ base_code nl d (length c0) place
      → length c1 ≡ length c0 + place_size place
  base_grown d place c0 c1 e = grown c0 c1 (base_code nl d (length c0) place) (place_size place) e
      (base_long place nl d (length c0))

  pub held_grown : (d t b : ℕ) (kind : ValueKind) (place : expr.Place) (c0 c1 : List Line)
      → c1 ≡ c0 ++ (base_code nl d (length c0) place ++ old_code kind place t b)
      → length c1 ≡ length c0 + place_size place + 1
  held_grown d t b kind place c0 c1 e =
      let both : length (base_code nl d (length c0) place ++ old_code kind place t b) ≡ place_size place + 1 =
      long_append (base_code nl d (length c0) place) (old_code kind place t b) (place_size place) 1
      (base_long place nl d (length c0)) (old_long nl kind place t b) in
      let n = grown c0 c1 (base_code nl d (length c0) place ++ old_code kind place t b) (place_size place + 1) e both in
      omega (arith, n)

  pub held_emitted : (d t : ℕ) (kind : ValueKind) (place : expr.Place) (c0 c1 c2 : List Line)
      → c1 ≡ c0 ++ base_code nl d (length c0) place → c2 ≡ c1 ++ old_code kind place t (base_var nl place d)
      → c2 ≡ c0 ++ (base_code nl d (length c0) place ++ old_code kind place t (base_var nl place d))
  held_emitted d t kind place c0 c1 c2 e f = glued c0 c1 c2 (base_code nl d (length c0) place)
      (old_code kind place t (base_var nl place d)) e f

  pub operands_emitted : (d t u : ℕ) (a b : expr.Value) (c0 c1 c2 : List Line)
      → c1 ≡ c0 ++ expr_code nl d t (length c0) a → c2 ≡ c1 ++ expr_code nl (d + 1) u (length c1) b
      → c2 ≡ c0 ++ (expr_code nl d t (length c0) a ++ expr_code nl (d + 1) u (length c0 + expr_size a) b)
  operands_emitted d t u a b c0 c1 c2 e f =
      let n = grown c0 c1 (expr_code nl d t (length c0) a) (expr_size a) e (expr_long a nl d t (length c0)) in
      glued c0 c1 c2 (expr_code nl d t (length c0) a) (expr_code nl (d + 1) u (length c0 + expr_size a) b) e
      (moved (λ m. expr_code nl (d + 1) u m b) c1 c2 (length c0 + expr_size a) n f)

  -- .. `++` and `--`
  pub step_emitted : (d t : ℕ) (p : Pos) (m : Kind) (kind : ValueKind) (place : expr.Place) (c0 c1 c2 c3 : List Line) →
      c1 ≡ c0 ++ line p (Arith (to_var (counted_var nl place d kind (wide kind))) (wide kind) (step_op m)
      (var (temp nl (above place d) (column kind))) (atom.Int (pos 1))) ∷ [] →
      c2 ≡ c1 ++ fit_code p kind (wide kind) (stored_var nl place d kind) (counted_var nl place d kind (wide kind)) →
      c3 ≡ c2 ++ store_code kind place t (base_var nl place d) (stored_var nl place d kind) →
      c3 ≡ c0 ++ step_code nl d t p m kind place
  step_emitted d t p m kind place c0 c1 c2 c3 e f g = glued c0 c1 c3 (_ ∷ []) _ e (glued c1 c2 c3 _ _ f g)

  pub stepped_emitted : (d t : ℕ) (p : Pos) (m : Kind) (kind : ValueKind) (place : expr.Place) (c0 c1 c2 : List Line) →
      c1 ≡ c0 ++ (base_code nl d (length c0) place ++ old_code kind place (temp nl (above place d) (column kind))
      (base_var nl place d)) →
      c2 ≡ c1 ++ step_code nl d t p m kind place →
      c2 ≡ c0 ++ expr_code nl d t (length c0) (expr.stepped p false m kind place)
  stepped_emitted d t p m kind place c0 c1 c2 e f =
      glued_in c0 c1 c2 (base_code nl d (length c0) place) (old_code kind place
      (temp nl (above place d) (column kind)) (base_var nl place d)) (step_code nl d t p m kind place) e f

  pub kept_emitted : (d t : ℕ) (p : Pos) (m : Kind) (kind : ValueKind) (place : expr.Place)
      (c0 c1 c2 c3 c4 : List Line) →
      c1 ≡ c0 ++ line p (Set (to_var t) (bit false)) ∷ [] →
      c2 ≡ c1 ++ (base_code nl (d + 1) (length c1) place
      ++ old_code kind place (temp nl (above place (d + 1)) (column kind)) (base_var nl place (d + 1))) →
      c3 ≡ c2 ++ line p (Set (to_var t) (var (temp nl (above place (d + 1)) (column kind)))) ∷ [] →
      c4 ≡ c3 ++ step_code nl (d + 1) (temp nl (d + 1) (column kind)) p m kind place →
      c4 ≡ c0 ++ expr_code nl d t (length c0) (expr.stepped p true m kind place)
  kept_emitted d t p m kind place c0 c1 c2 c3 c4 e f g h =
      let old = old_code kind place (temp nl (above place (d + 1)) (column kind)) (base_var nl place (d + 1)) in
      let step = step_code nl (d + 1) (temp nl (d + 1) (column kind)) p m kind place in
      let set = line p (Set (to_var t) (var (temp nl (above place (d + 1)) (column kind)))) in
      let f' = moved (λ n. base_code nl (d + 1) n place ++ old) c1 c2 (length c0 + 1)
      (grown c0 c1 (_ ∷ []) 1 e refl) f in
      let last : c4 ≡ c2 ++ set ∷ step = glued c2 c3 c4 (set ∷ []) step g h in
      glued c0 c1 c4 (line p (Set (to_var t) (bit false)) ∷ []) (base_code nl (d + 1) (length c0 + 1) place
      ++ (old ++ set ∷ step)) e
      (glued_in c1 c2 c4 (base_code nl (d + 1) (length c0 + 1) place) old (set ∷ step) f' last)

  -- .. what a place held, which holds `NULL` from then on
  pub emptied_emitted : (d t : ℕ) (p : Pos) (kind : ValueKind) (place : expr.Place) (c0 c1 c2 c3 c4 c5 : List Line) →
      c1 ≡ c0 ++ line p (Set (to_var t) atom.Null) ∷ [] →
      c2 ≡ c1 ++ (base_code nl (d + 1) (length c1) place
      ++ old_code kind place (stored_var nl place (d + 1) kind) (base_var nl place (d + 1))) →
      c3 ≡ c2 ++ line p (Set (to_var t) (var (stored_var nl place (d + 1) kind))) ∷ [] →
      c4 ≡ c3 ++ line p (Set (to_var (stored_var nl place (d + 1) kind)) atom.Null) ∷ [] →
      c5 ≡ c4 ++ store_code kind place (temp nl (d + 1) (column kind)) (base_var nl place (d + 1))
      (stored_var nl place (d + 1) kind) →
      c5 ≡ c0 ++ expr_code nl d t (length c0) (expr.emptied p kind place)
  emptied_emitted d t p kind place c0 c1 c2 c3 c4 c5 e f g h i =
      let x = stored_var nl place (d + 1) kind in
      let old = old_code kind place x (base_var nl place (d + 1)) in
      let store = store_code kind place (temp nl (d + 1) (column kind)) (base_var nl place (d + 1)) x in
      let get = line p (Set (to_var t) (var x)) in
      let clear = line p (Set (to_var x) atom.Null) in
      let f' = moved (λ n. base_code nl (d + 1) n place ++ old) c1 c2 (length c0 + 1) (put_grown _ c0 c1 e) f in
      let last : c5 ≡ c2 ++ get ∷ clear ∷ store = glued c2 c3 c5 (get ∷ []) (clear ∷ store) g
      (glued c3 c4 c5 (clear ∷ []) store h i) in
      glued c0 c1 c5 (line p (Set (to_var t) atom.Null) ∷ []) (base_code nl (d + 1) (length c0 + 1) place
      ++ (old ++ get ∷ clear ∷ store)) e
      (glued_in c1 c2 c5 (base_code nl (d + 1) (length c0 + 1) place) old (get ∷ clear ∷ store) f' last)

  -- .. assignments
  pub stored_emitted : (d t : ℕ) (p : Pos) (kind : ValueKind) (place : expr.Place) (v : expr.Value)
      (c0 c1 c2 c3 : List Line) →
      c1 ≡ c0 ++ base_code nl d (length c0) place →
      c2 ≡ c1 ++ expr_code nl (above place d) (stored_var nl place d kind) (length c1) v →
      c3 ≡ c2 ++ store_code kind place t (base_var nl place d) (stored_var nl place d kind) →
      c3 ≡ c0 ++ expr_code nl d t (length c0) (expr.stored p kind place v)
  stored_emitted d t p kind place v c0 c1 c2 c3 e f g =
      let x = stored_var nl place d kind in
      let at = length c0 + place_size place in
      let f' = moved (λ n. expr_code nl (above place d) x n v) c1 c2 at (grown c0 c1
      (base_code nl d (length c0) place) (place_size place) e (base_long place nl d (length c0))) f in
      let store = store_code kind place t (base_var nl place d) x in
      glued c0 c1 c3 (base_code nl d (length c0) place) (expr_code nl (above place d) x at v ++ store) e
      (glued c1 c2 c3 (expr_code nl (above place d) x at v) store f' g)

  pub updated_emitted : (d t : ℕ) (p : Pos) (m : Punct) (counted kind : ValueKind) (place : expr.Place)
      (v : expr.Value) (c0 c1 c2 c3 c4 c5 : List Line) →
      c1 ≡ c0 ++ (base_code nl d (length c0) place ++ old_code kind place (temp nl (above place d) (column kind))
      (base_var nl place d)) →
      c2 ≡ c1 ++ expr_code nl (above place d + 1) (temp_of nl (above place d + 1) v) (length c1) v →
      c3 ≡ c2 ++ line p (Arith (to_var (counted_var nl place d kind counted)) counted (op_of m)
      (var (temp nl (above place d) (column kind))) (var (temp_of nl (above place d + 1) v))) ∷ [] →
      c4 ≡ c3 ++ fit_code p kind counted (stored_var nl place d kind) (counted_var nl place d kind counted) →
      c5 ≡ c4 ++ store_code kind place t (base_var nl place d) (stored_var nl place d kind) →
      c5 ≡ c0 ++ expr_code nl d t (length c0) (expr.updated p m counted kind place v)
  updated_emitted d t p m counted kind place v c0 c1 c2 c3 c4 c5 e f g h i =
      let b = base_var nl place d in
      let o = temp nl (above place d) (column kind) in
      let y = temp_of nl (above place d + 1) v in
      let x = stored_var nl place d kind in
      let z = counted_var nl place d kind counted in
      let base = base_code nl d (length c0) place in
      let old = old_code kind place o b in
      let both : length (base ++ old) ≡ place_size place
      + 1 = long_append base old (place_size place) 1 (base_long place nl d (length c0))
      (old_long nl kind place o b) in
      let n = grown c0 c1 (base ++ old) (place_size place + 1) e both in
      let at = length c0 + place_size place + 1 in
      let n' : length c1 ≡ at = omega (arith, n) in
      let f' = moved (λ k. expr_code nl (above place d + 1) y k v) c1 c2 at n' f in
      let sum = line p (Arith (to_var z) counted (op_of m) (var o) (var y)) in
      let fit = fit_code p kind counted x z in
      let store = store_code kind place t b x in
      let last : c5 ≡ c2 ++ sum ∷ (fit ++ store) = glued c2 c3 c5 (sum ∷ []) (fit ++ store) g
      (glued c3 c4 c5 fit store h i) in
      glued_in c0 c1 c5 base old (expr_code nl (above place d + 1) y at v ++ sum ∷ (fit ++ store)) e
      (glued c1 c2 c5 (expr_code nl (above place d + 1) y at v) (sum ∷ (fit ++ store)) f' last)

  -- .. operators
  pub computed_emitted : (d t u : ℕ) (l : Line) (a b : expr.Value) (c0 c1 c2 : List Line) →
      c1 ≡ c0 ++ (expr_code nl d t (length c0) a ++ expr_code nl (d + 1) u (length c0 + expr_size a) b) →
      c2 ≡ c1 ++ l ∷ [] →
      c2 ≡ c0 ++ (expr_code nl d t (length c0) a ++ (expr_code nl (d + 1) u (length c0 + expr_size a) b ++ l ∷ []))
  computed_emitted d t u l a b c0 c1 c2 e f =
      glued_in c0 c1 c2 (expr_code nl d t (length c0) a) (expr_code nl (d + 1) u (length c0 + expr_size a) b)
      (l ∷ []) e f

  pub negated_emitted : (d t n : ℕ) (p : Pos) (v : expr.Value) (c0 c1 c2 c3 c4 : List Line) →
      c1 ≡ c0 ++ line p (Set (to_var t) (bit true)) ∷ [] →
      c2 ≡ c1 ++ expr_code nl (d + 1) (temp_of nl (d + 1) v) (length c1) v →
      n ≡ length c2 →
      c3 ≡ c2 ++ line p (Branch (var (temp_of nl (d + 1) v)) (at_label (n + 1)) (at_label (n + 2))) ∷ [] →
      c4 ≡ c3 ++ line p (Set (to_var t) (bit false)) ∷ [] →
      c4 ≡ c0 ++ expr_code nl d t (length c0) (expr.negated p v)
  negated_emitted d t n p v c0 c1 c2 c3 c4 e f k g h =
      let x = temp_of nl (d + 1) v in
      let at = length c0 + 1 in
      let e1 = grown c0 c1 (line p (Set (to_var t) (bit true)) ∷ []) 1 e refl in
      let f' = moved (λ m. expr_code nl (d + 1) x m v) c1 c2 at e1 f in
      let e2 = grown c1 c2 (expr_code nl (d + 1) x at v) (expr_size v) f' (expr_long v nl (d + 1) x at) in
      let n' : n ≡ at + expr_size v = omega (arith, e1, e2, k) in
      let g' = g ∙ ap (λ m. c2 ++ line p (Branch (var x) (at_label (m + 1)) (at_label (m + 2))) ∷ []) n' in
      let last = glued c2 c3 c4 (_ ∷ []) (line p (Set (to_var t) (bit false)) ∷ []) g' h in
      glued c0 c1 c4 (line p (Set (to_var t) (bit true))
      ∷ []) _ e (glued c1 c2 c4 (expr_code nl (d + 1) x at v) _ f' last)

  pub joined_emitted : (d t test last : ℕ) (p : Pos) (m : Punct) (a b : expr.Value) (x : Line)
      (c0 c1 c2 c3 c4 c5 c6 c7 : List Line) →
      c1 ≡ c0 ++ line p (Set (to_var t) (bit (not (is_and m)))) ∷ [] →
      c2 ≡ c1 ++ expr_code nl (d + 1) (temp_of nl (d + 1) a) (length c1) a →
      test ≡ length c2 →
      c3 ≡ c2 ++ x ∷ [] →
      c4 ≡ c3 ++ expr_code nl (d + 1) (temp_of nl (d + 1) b) (length c3) b →
      last ≡ length c4 →
      c5 ≡ slice_set c4 test (line (first_token a) (branch_on (is_and m) (temp_of nl (d + 1) a) (test + 1)
      (last + 2))) →
      c6 ≡ c5 ++ line (first_token b) (branch_on (is_and m) (temp_of nl (d + 1) b) (last + 1) (last + 2)) ∷ [] →
      c7 ≡ c6 ++ line p (Set (to_var t) (bit (is_and m))) ∷ [] →
      c7 ≡ c0 ++ expr_code nl d t (length c0) (expr.joined_by p m a b)
  joined_emitted d t test last p m a b x c0 c1 c2 c3 c4 c5 c6 c7 e1 e2 e3 e4 e5 e6 e7 e8 e9 =
      let on = is_and m in
      let y = temp_of nl (d + 1) a in
      let z = temp_of nl (d + 1) b in
      let at = length c0 + 1 in
      let set = line p (Set (to_var t) (bit (not on))) in
      let n1 = grown c0 c1 (set ∷ []) 1 e1 refl in
      let ca = expr_code nl (d + 1) y at a in
      let f2 = moved (λ n. expr_code nl (d + 1) y n a) c1 c2 at n1 e2 in
      let n2 = grown c1 c2 ca (expr_size a) f2 (expr_long a nl (d + 1) y at) in
      let n3 = grown c2 c3 (x ∷ []) 1 e4 refl in
      let bt = at + expr_size a + 1 in
      let n3' : length c3 ≡ bt = omega (arith, n1, n2, n3) in
      let cb = expr_code nl (d + 1) z bt b in
      let f5 = moved (λ n. expr_code nl (d + 1) z n b) c3 c4 bt n3' e5 in
      let n4 = grown c3 c4 cb (expr_size b) f5 (expr_long b nl (d + 1) z bt) in
      let test' : test ≡ at + expr_size a = omega (arith, n1, n2, e3) in
      let last' : last ≡ bt + expr_size b = omega (arith, n3', n4, e6) in
      let first = λ (i j : ℕ). line (first_token a) (branch_on on y (i + 1) (j + 2)) in
      let second = λ (j : ℕ). line (first_token b) (branch_on on z (j + 1) (j + 2)) in
      let f7 : c5 ≡ c2 ++ first test last ∷ cb = patched c2 c3 c4 c5 cb x (first test last) test e4 f5 e3 e7 in
      let g7 : c5 ≡ c2 ++ first (at + expr_size a) (bt + expr_size b) ∷ cb = f7
      ∙ ap (λ i. c2 ++ first i last ∷ cb) test' ∙ ap (λ j. c2 ++ first (at + expr_size a) j ∷ cb) last' in
      let g8 : c6 ≡ c5 ++ second (bt + expr_size b) ∷ [] = e8 ∙ ap (λ j. c5 ++ second j ∷ []) last' in
      let end = line p (Set (to_var t) (bit on)) in
      let h8 : c7 ≡ c5 ++ second (bt + expr_size b) ∷ end
      ∷ [] = glued c5 c6 c7 (second (bt + expr_size b) ∷ []) (end ∷ []) g8 e9 in
      let h7 : c7 ≡ c2 ++ first (at + expr_size a) (bt + expr_size b)
      ∷ (cb ++ second (bt + expr_size b) ∷ end ∷ []) = glued c2 c5 c7 (first (at + expr_size a) (bt + expr_size b)
      ∷ cb) (second (bt + expr_size b) ∷ end ∷ []) g7 h8 in
      glued c0 c1 c7 (set ∷ []) (ca ++ first (at + expr_size a) (bt + expr_size b)
      ∷ (cb ++ second (bt + expr_size b) ∷ end ∷ [])) e1
      (glued c1 c2 c7 ca (first (at + expr_size a) (bt + expr_size b)
      ∷ (cb ++ second (bt + expr_size b) ∷ end ∷ [])) f2 h7)

  pub chosen_emitted : (d t test jump end : ℕ) (p : Pos) (c a b : expr.Value) (x y : Line)
      (c0 c1 c2 c3 c4 c5 c6 c7 : List Line) →
      c1 ≡ c0 ++ expr_code nl d (temp_of nl d c) (length c0) c →
      test ≡ length c1 →
      c2 ≡ c1 ++ x ∷ [] →
      c3 ≡ c2 ++ expr_code nl d t (length c2) a →
      jump ≡ length c3 →
      c4 ≡ c3 ++ y ∷ [] →
      c5 ≡ c4 ++ expr_code nl d t (length c4) b →
      end ≡ length c5 →
      c6 ≡ slice_set c5 jump (line p (Jump (at_label end))) →
      c7 ≡ slice_set c6 test (line (first_token c) (Branch (var (temp_of nl d c)) (at_label (test + 1))
      (at_label (jump + 1)))) →
      c7 ≡ c0 ++ expr_code nl d t (length c0) (expr.chosen p c a b)
  chosen_emitted d t test jump end p c a b x y c0 c1 c2 c3 c4 c5 c6 c7 e1 e2 e3 e4 e5 e6 e7 e8 e9 e10 =
      let z = temp_of nl d c in
      let cc' = expr_code nl d z (length c0) c in
      let n1 = grown c0 c1 cc' (expr_size c) e1 (expr_long c nl d z (length c0)) in
      let n2 = grown c1 c2 (x ∷ []) 1 e3 refl in
      let at = length c0 + expr_size c + 1 in
      let n2' : length c2 ≡ at = omega (arith, n1, n2) in
      let ca = expr_code nl d t at a in
      let f4 = moved (λ n. expr_code nl d t n a) c2 c3 at n2' e4 in
      let n3 = grown c2 c3 ca (expr_size a) f4 (expr_long a nl d t at) in
      let n4 = grown c3 c4 (y ∷ []) 1 e6 refl in
      let bt = at + expr_size a + 1 in
      let n4' : length c4 ≡ bt = omega (arith, n2', n3, n4) in
      let cb = expr_code nl d t bt b in
      let f7 = moved (λ n. expr_code nl d t n b) c4 c5 bt n4' e7 in
      let n5 = grown c4 c5 cb (expr_size b) f7 (expr_long b nl d t bt) in
      let end' : end ≡ bt + expr_size b = omega (arith, n4', n5, e8) in
      let test' : test + 1 ≡ at = omega (arith, n1, e2) in
      let jump' : jump + 1 ≡ bt = omega (arith, n2', n3, e5) in
      let leap = λ (n : ℕ). line p (Jump (at_label n)) in
      let branch = λ (i j : ℕ). line (first_token c) (Branch (var z) (at_label i) (at_label j)) in
      let f9 : c6 ≡ c3 ++ leap end ∷ cb = patched c3 c4 c5 c6 cb y (leap end) jump e6 f7 e5 e9 in
      let g9 : c6 ≡ c3 ++ leap (bt + expr_size b) ∷ cb = f9 ∙ ap (λ n. c3 ++ leap n ∷ cb) end' in
      let h9 : c6 ≡ c2 ++ (ca ++ leap (bt + expr_size b) ∷ cb) = glued c2 c3 c6 ca (leap (bt + expr_size b) ∷ cb) f4
      g9 in
      let rest = ca ++ leap (bt + expr_size b) ∷ cb in
      let f10 : c7 ≡ c1 ++ branch (test + 1) (jump + 1) ∷ rest = patched c1 c2 c6 c7 rest x
      (branch (test + 1) (jump + 1)) test e3 h9 e2 e10 in
      let g10 : c7 ≡ c1 ++ branch at bt ∷ rest = f10 ∙ ap (λ i. c1 ++ branch i (jump + 1) ∷ rest) test'
      ∙ ap (λ j. c1 ++ branch at j ∷ rest) jump' in
      glued c0 c1 c7 cc' (branch at bt ∷ rest) e1 g10

  -- .. arguments, one after another
  pub arg_emitted : (d : ℕ) (ps : List Param) (v : expr.Value) (vs : expr.Values) (c0 c1 : List Line) →
      c1 ≡ c0 ++ expr_code nl d (arg_var nl d ps v) (length c0) v →
      c0 ++ args_code nl d (length c0) ps (expr.value_and v vs) ≡ c1 ++ args_code nl (d + 1) (length c1) (tail ps) vs
  arg_emitted d ps v vs c0 c1 e =
      let x = arg_var nl d ps v in
      let n = grown c0 c1 (expr_code nl d x (length c0) v) (expr_size v) e (expr_long v nl d x (length c0)) in
      sym (glued c0 c1 (c1 ++ args_code nl (d + 1) (length c1) (tail ps) vs) (expr_code nl d x (length c0) v)
      (args_code nl (d + 1) (length c0 + expr_size v) (tail ps) vs) e (moved
      (λ m. args_code nl (d + 1) m (tail ps) vs) c1 (c1 ++ args_code nl (d + 1) (length c1) (tail ps) vs)
      (length c0 + expr_size v) n refl))

  pub call_emitted : (d : ℕ) (ps : List Param) (vs : List expr.Value) (call : List expr.Value → List Line)
      (c0 c1 c2 : List Line) →
      c1 ≡ c0 ++ args_code nl d (length c0) ps (values_of vs) →
      c2 ≡ c1 ++ call vs →
      c2 ≡ c0 ++ (args_code nl d (length c0) ps (values_of vs) ++ call (listed_values (values_of vs)))
  call_emitted d ps vs call c0 c1 c2 e f =
      glued c0 c1 c2 (args_code nl d (length c0) ps (values_of vs)) (call vs) e f
      ∙ ap (λ l. c0 ++ (args_code nl d (length c0) ps (values_of vs) ++ call l)) (sym (as_listed vs))

  pub args_grown : (d : ℕ) (ps : List Param) (vs : expr.Values) (c0 c1 : List Line) →
      c1 ≡ c0 ++ args_code nl d (length c0) ps vs → length c1 ≡ length c0 + values_size vs
  args_grown d ps vs c0 c1 e = grown c0 c1 (args_code nl d (length c0) ps vs) (values_size vs) e
      (args_long vs nl d (length c0) ps)

  -- .. where the call's instructions name places
  pub placed_emitted : (d : ℕ) (ps : List Param) (vs : List expr.Value) (call : ℕ → List expr.Value → List Line)
      (c0 c1 c2 : List Line) →
      c1 ≡ c0 ++ args_code nl d (length c0) ps (values_of vs) →
      c2 ≡ c1 ++ call (length c1) vs →
      c2 ≡ c0 ++ (args_code nl d (length c0) ps (values_of vs)
      ++ call (length c0 + values_size (values_of vs)) (listed_values (values_of vs)))
  placed_emitted d ps vs call c0 c1 c2 e f =
      let at = length c0 + values_size (values_of vs) in
      call_emitted d ps vs (call at) c0 c1 c2 e
      (moved (λ n. call n vs) c1 c2 at (args_grown d ps (values_of vs) c0 c1 e) f)
