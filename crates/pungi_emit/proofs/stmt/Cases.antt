-- The comparisons of a `switch`, one after another.
use Rattle.std.proofs.Common.{◌≡◌, ℕ, suc, ◌+◌, ◌*◌, ℤ, List, [], ◌∷◌, ◌++◌, length, Option, Some, Bool, true}
use Rattle.std.proofs.Common.{false}
use Rattle.std.proofs.Common.{if◌then◌else◌, refl, sym, ap, ◌∙◌, arith, length-append}
use Rattle.pungi_base.specs.declared.pos.Pos.{Pos}
use Rattle.pungi_resolved.specs.Actions as stmt
use Rattle.pungi_meaning.specs.Stmts.{cases_of, is_default}
use Rattle.pungi_meaning.specs.declared.cmp.Cmp.TheVariants as cmps
use Rattle.pungi_code.specs.declared.atom.Atom.{Atom}
use Rattle.pungi_code.specs.declared.atom.Atom.TheVariants as atom
use Rattle.pungi_code.specs.declared.code.Line.{Line}
use Rattle.pungi_code.specs.declared.instr.Instr.TheVariants.{Compare, Branch}
use Rattle.pungi_layout.specs.code.ExprCode.{line, to_var, var, at_label}
use Rattle.pungi_layout.specs.code.Sizes.{stmt_size}
use Rattle.pungi_layout.specs.code.Scopes.{placed_cases, list_cases, list_default}
use Rattle.pungi_layout.specs.code.StmtCode.{case_code}
use Rattle.pungi_emit.specs.planning.LabelPlaces.{list_starts}
use Rattle.pungi_emit.specs.stmt.Cases.{case_lines, cases_at, default_at}
use Rattle.pungi_layout.proofs.code.StmtLengths.{case_long}
use Rattle.pungi_emit.proofs.expr.ExprCode.{glued, grown, moved}

pub case_append : (p : Pos) (x y pc : ℕ) (cs ds : List (ℤ × ℕ))
    → case_code p x y pc (cs ++ ds) ≡ case_code p x y pc cs ++ case_code p x y (pc + 2 * length cs) ds
case_append p x y pc [] ds =
    let e : pc ≡ pc + 2 * 0 = omega arith in
    ap (λ n. case_code p x y n ds) e
case_append p x y pc (c ∷ cs) ds =
    let e : pc + 2 + 2 * length cs ≡ pc + 2 * length (c ∷ cs) = omega arith in
    let compare = line p (Compare (to_var y) cmps.Equal (var x) (atom.Int c.0)) in
    let branch = line p (Branch (var y) (at_label c.1) (at_label (pc + 2))) in
    ap (λ l. compare ∷ branch ∷ l) (case_append p x y (pc + 2) cs ds
    ∙ ap (λ n. case_code p x y (pc + 2) cs ++ case_code p x y n ds) e)

pub more_cases : (p : Pos) (x y : ℕ) (cs ds : List (ℤ × ℕ)) (c0 c1 : List Line) →
    c1 ≡ c0 ++ case_code p x y (length c0) cs →
    c0 ++ case_code p x y (length c0) (cs ++ ds) ≡ c1 ++ case_code p x y (length c1) ds
more_cases p x y cs ds c0 c1 e =
    let n = grown c0 c1 (case_code p x y (length c0) cs) (2 * length cs) e (case_long cs p x y (length c0)) in
    ap (λ c. c0 ++ c) (case_append p x y (length c0) cs ds)
    ∙ sym (glued c0 c1 (c1 ++ case_code p x y (length c1) ds) (case_code p x y (length c0) cs)
    (case_code p x y (length c0 + 2 * length cs) ds) e (moved (λ m. case_code p x y m ds) c1
    (c1 ++ case_code p x y (length c1) ds) (length c0 + 2 * length cs) n refl))

pub one_case : (p : Pos) (x y : ℕ) (c : ℤ × ℕ) (cs : List (ℤ × ℕ)) (c0 c1 c2 : List Line) →
    c1 ≡ c0 ++ case_code p x y (length c0) (c ∷ []) →
    c2 ≡ c1 ++ case_code p x y (length c1) cs →
    c2 ≡ c0 ++ case_code p x y (length c0) (c ∷ cs)
one_case p x y c cs c0 c1 c2 e f = f ∙ sym (more_cases p x y (c ∷ []) cs c0 c1 e)

pub cases_placed : (list : List stmt.Action) (pc : ℕ) → cases_at list (list_starts pc list) ≡ list_cases pc list
cases_placed [] pc = refl
cases_placed (a ∷ list) pc = ap (λ l. placed_cases pc (cases_of a) ++ l) (cases_placed list (pc + stmt_size a))

choose : (b : Bool) (n : ℕ) (o q : Option ℕ) → o ≡ q → (if b then Some n else o) ≡ (if b then Some n else q)
choose true n o q e = refl
choose false n o q e = e

pub default_placed : (list : List stmt.Action) (pc : ℕ) → default_at list (list_starts pc list) ≡ list_default pc list
default_placed [] pc = refl
default_placed (a ∷ list) pc = choose (is_default a) pc _ _ (default_placed list (pc + stmt_size a))

pub case_laid : (p : Pos) (x y next place here : ℕ) (a : Atom) (c0 c1 c2 : List Line) →
    here ≡ length c0 →
    next ≡ here + 2 →
    c1 ≡ c0 ++ line p (Compare (to_var y) cmps.Equal (var x) a) ∷ [] →
    c2 ≡ c1 ++ line p (Branch (var y) (at_label place) (at_label next)) ∷ [] →
    c2 ≡ c0 ++ case_lines p x y (length c0) a place
case_laid p x y next place here a c0 c1 c2 h k e f =
    let next' : next ≡ length c0 + 2 = omega (arith, h, k) in
    let compare = line p (Compare (to_var y) cmps.Equal (var x) a) in
    let branch = λ (i : ℕ). line p (Branch (var y) (at_label place) (at_label i)) in
    glued c0 c1 c2 (compare ∷ []) (branch (length c0 + 2) ∷ []) e (f ∙ ap (λ i. c1 ++ branch i ∷ []) next')

pub not_default : (b : Bool) (n : ℕ) (o : Option ℕ) → b ≡ false → (if b then Some n else o) ≡ o
not_default b n o e = ap (λ x. if x then Some n else o) e

-- ---- how many

pub own_cases_long : (n : ℕ) (cs : List ℤ) → length (placed_cases n cs) ≡ length cs
own_cases_long n [] = refl
own_cases_long n (c ∷ cs) = ap suc (own_cases_long n cs)

pub cases_split : (n : ℕ) (a : stmt.Action) (list : List stmt.Action) (starts : List ℕ)
    → length (cases_at (a ∷ list) (n ∷ starts))
    ≡ length (placed_cases n (cases_of a)) + length (cases_at list starts)
cases_split n a list starts = length-append (placed_cases n (cases_of a)) (cases_at list starts)

pub cases_grown : (p : Pos) (x y : ℕ) (cs : List (ℤ × ℕ)) (c0 c1 : List Line)
    → c1 ≡ c0 ++ case_code p x y (length c0) cs → length c1 ≡ length c0 + 2 * length cs
cases_grown p x y cs c0 c1 e = grown c0 c1 (case_code p x y (length c0) cs) (2 * length cs) e
    (case_long cs p x y (length c0))

pub case_grown : (p : Pos) (x y n : ℕ) (a : Atom) (c0 c1 : List Line) → c1 ≡ c0 ++ case_lines p x y (length c0) a n
    → length c1 ≡ length c0 + 2
case_grown p x y n a c0 c1 e = grown c0 c1 (case_lines p x y (length c0) a n) 2 e refl
