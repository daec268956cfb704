-- The cases of a place at a point, and its edges by them.
use Rattle.std.proofs.Common.{◌≡◌, ◌∙◌, ℕ, zero, suc, ◌<◌, ◌≤◌, ◌^◌, ◌++◌, Bool, true, false, List, [], ◌∷◌}
use Rattle.std.proofs.Common.{length, map, get_or, Option, Some, None, refl, sym, ap, subst, arith, cond, lit<}
use Rattle.std.proofs.Common.{inl, inr}
use Rattle.std.specs.List.{All}
use Rattle.std.proofs.lemmas.Bool.{false≢true}
use Rattle.std.proofs.lemmas.Bool.Decides.{eqb_tells}
use Rattle.std.proofs.lemmas.List.Elements.{All-cons, All-nil, All-weaker}
use Rattle.pungi_code.specs.declared.atom.Atom.{Atom}
use Rattle.pungi_code.specs.declared.code.Code.{Code}
use Rattle.pungi_code.specs.declared.instr.Instr.{Instr}
use Rattle.pungi_code.specs.declared.instr.Instr.TheVariants.{Return}
use Rattle.pungi_shape.specs.declared.holding.Holding.{Holding}
use Rattle.pungi_shape.specs.declared.holding.Holding.TheVariants.{Dead}
use Rattle.pungi_shape.specs.declared.point.Point.{Point}
use Rattle.pungi_shape.specs.declared.shape.Shape.{Shape}
use Rattle.pungi_shape.specs.Bounds.{IsCodeOfFile, IsScene}
use Rattle.pungi_shape.specs.Cases.{Case, Onward, within, leads_to, leaves, are_set}
use Rattle.pungi_shape.specs.Edges.{cases_at, edge_of, edges_from, frees_there, free_var}
use Rattle.pungi_shape.specs.Liveness.{instr_at}
use Rattle.pungi_shape.specs.Parts.{maps, reads}
use Rattle.pungi_shape.specs.Places.{at_point}
use Rattle.pungi_shape.specs.Reached.{IsShapeOf}
use Rattle.pungi_shape.specs.Scenes.{Scene, scene_of}
use Rattle.pungi_shape.specs.Shapes.{is_number, width_of}
use Rattle.pungi_shape.specs.Steps.{cases, part_cases}
use Rattle.pungi_shape.proofs.CaseGoals.{FreesAt, LeadsAt}
use Rattle.pungi_shape.proofs.NextLemmas.{IsNext, cases-next}
use Rattle.pungi_shape.proofs.SceneLemmas.{scene_of-fresh}

-- ---- where a number is put

number_there : (hs : List Holding) (x : ℕ) → is_number (get_or hs x Dead) ≡ true → x < length hs
number_there [] x e = absurd (false≢true e)
number_there (h ∷ hs) zero e = omega arith
number_there (h ∷ hs) (suc x) e = let lt = number_there hs x e in omega (arith, lt)

-- ---- the variable of a case that gets any number

either_none : (b : Bool) (cs : List Case) → All (λ c. c.freed ≡ None) cs → All (λ c. c.freed ≡ None) (cond b cs [])
either_none true cs all = all
either_none false cs all = All-nil (λ (c : Case). c.freed ≡ None)

one_none : (c : Case) → c.freed ≡ None → All (λ c. c.freed ≡ None) (c ∷ [])
one_none c e = All-cons (λ (d : Case). d.freed ≡ None) c [] e (All-nil (λ (d : Case). d.freed ≡ None))

returns_none : (a : Option Atom) (pc n k : ℕ) (s : Scene) → All (λ c. c.freed ≡ None) (part_cases (Return a) pc n k s)
returns_none a pc zero k s = one_none _ refl
returns_none a pc (suc n) k s = one_none _ refl

-- a return puts no number
return_none : (i : Instr) (a : Option Atom) (pc n k : ℕ) (s : Scene) → i ≡ Return a
    → All (λ c. c.freed ≡ None) (cases i pc n k s)
return_none i a pc n k s e =
    subst (λ j. All (λ c. c.freed ≡ None) (cases j pc n k s)) (sym e)
    (either_none (are_set s (reads (Return a) n)) (part_cases (Return a) pc n k s) (returns_none a pc n k s))

freed_at : (i : Instr) (s : Scene) (o : Option ℕ) (x m : ℕ) → FreesAt i s o → length s.shape.vars ≡ m → o ≡ Some x
    → x < m
freed_at i s None x m f e is = absurd (cc)
freed_at i s (Some y) x m f e is =
    let lt = number_there s.shape.vars (free_var i) f.1.number in
    let same : y ≡ x = cc in
    let var = f.0 in
    omega (arith, lt, same, var, e)

freed_by : (i : Instr) (n : ℕ) (c : Case) (o : Onward) (x m : ℕ) → LeadsAt i n c o → length c.scene.shape.vars ≡ m
    → ((a : Option Atom) → i ≡ Return a → c.freed ≡ None) → c.freed ≡ Some x → x < m
freed_by i n c (within k) x m l e none is = (let f = l.1 in absurd (cc))
freed_by i n c (leads_to pc) x m l e none is = freed_at i c.scene c.freed x m l.1 e is
freed_by i n c leaves x m l e none is = (let f = none l.0 l.1.0 in absurd (cc))

-- ---- the cases of a place

pub at-scenes : (code : Code) (p : Point) (s : Shape) → IsCodeOfFile code → IsShapeOf code s
    → All (λ c. IsScene c.scene) (cases_at code p s)
at-scenes code p s h is =
    All-weaker (IsNext code p s) (λ (c : Case). IsScene c.scene) (λ c n. n.good.scene) (cases_at code p s)
    (cases-next code p s h is)

pub at-vars : (code : Code) (p : Point) (s : Shape) → IsCodeOfFile code → IsShapeOf code s
    → All (λ c. length c.scene.shape.vars ≡ length code.vars) (cases_at code p s)
at-vars code p s h is =
    All-weaker (IsNext code p s) (λ (c : Case). length c.scene.shape.vars ≡ length code.vars)
    (λ c n. n.good.vars ∙ is.vars) (cases_at code p s) (cases-next code p s h is)

pub at-few : (code : Code) (p : Point) (s : Shape) → IsCodeOfFile code → IsShapeOf code s → width_of s ≤ 256
    → All (λ c. length c.scene.shape.made < 2 ^ 32) (cases_at code p s)
at-few code p s h is narrow =
    let few = (scene_of-fresh s is.shape narrow).few in
    All-weaker (IsNext code p s) (λ (c : Case). length c.scene.shape.made < 2 ^ 32)
    (λ c n. (let l = n.good.few few in let b : 257 < 2 ^ 32 = lit< tt in omega (arith, l, b))) (cases_at code p s)
    (cases-next code p s h is)

pub at-freed : (code : Code) (p : Point) (s : Shape) → IsCodeOfFile code → IsShapeOf code s
    → All (λ c. (x : ℕ) → c.freed ≡ Some x → x < length code.vars) (cases_at code p s)
at-freed code p s h is = λ j d lt x e. (
    let i = instr_at code p.instr in
    let list = cases_at code p s in
    let n = cases-next code p s h is j d lt in
    freed_by i p.done (get_or list j d) (get_or list j d).onward x (length code.vars) n.leads.leads
    (n.good.vars ∙ is.vars) (λ a r. return_none i a p.instr p.done p.class (scene_of s) r j d lt) e
    )

-- the list that a body makes is that of the place
pub same-cases : (code : Code) (p : Point) (s : Shape) (i : Instr) (t : Scene) (before list : List Case)
    → i ≡ instr_at code p.instr → t ≡ scene_of s → before ≡ []
    → list ≡ before ++ cases i p.instr p.done p.class t → list ≡ cases_at code p s
same-cases code p s i t before list e f none is =
    is ∙ ap (λ ds. ds ++ cases i p.instr p.done p.class t) none ∙ ap (λ j. cases j p.instr p.done p.class t) e
    ∙ ap (cases (instr_at code p.instr) p.instr p.done p.class) f

-- ---- the edges of a place

pub edges-cases : (code : Code) (p : Point) (s : Shape) → (p.done ≡ maps (instr_at code p.instr) → ⊥)
    → edges_from code (at_point p s) ≡ map (edge_of code p s) (cases_at code p s)
edges-cases code p s ne = elim (eqb_tells p.done (maps (instr_at code p.instr))) [
  | inl y ↦ absurd (ne y.1)
  | inr n ↦ ap (λ b. cond b (frees_there code p s ∷ []) (map (edge_of code p s) (cases_at code p s))) n.0
]
