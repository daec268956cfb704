-- Parts that are left out keep how many coordinates there are.
--   Keeps s r               a place at a point, whose shape has as many coordinates and variables
use Rattle.std.proofs.Common.{◌≡◌, ◌∙◌, ℕ, suc, ◌<◌, ◌≤◌, Bool, true, false, List, [], ◌∷◌, length, take}
use Rattle.std.proofs.Common.{◌+◌, refl, ap, sym, subst, arith, lit<}
use Rattle.std.specs.Prelude.{◌≢◌, ◌&&◌, ◌++◌, Result, Ok, Err, Option, Some, if◌then◌else◌}
use Rattle.std.specs.List.{All}
use Rattle.std.specs.Ordering.{int_cmp, is_eq}
use Rattle.std.specs.Cmp.Lexicographic.{slice_cmp}
use Rattle.std.proofs.lemmas.List.Elements.{All-weaker}
use Rattle.pungi_code.specs.declared.code.Code.{Code}
use Rattle.pungi_shape.specs.declared.graph_fault.GraphFault.{GraphFault}
use Rattle.pungi_shape.specs.declared.point.Point.{Point}
use Rattle.pungi_shape.specs.declared.shape.Shape.{Shape}
use Rattle.pungi_shape.specs.Arrivals.{Arrival, arrive}
use Rattle.pungi_shape.specs.Bounds.{IsCodeOfFile, IsPlain, IsScene, IsShape}
use Rattle.pungi_shape.specs.Cases.{Case, Onward, within, leads_to, leaves}
use Rattle.pungi_shape.specs.Edges.{cases_at, changes_nothing, is_none_of, part_done, settle, skip, skip_one, skip_to}
use Rattle.pungi_shape.specs.Edges.{skip_within, units, Edge, to_place, by_any, edge_of, goes_to, case_goes}
use Rattle.pungi_shape.specs.Edges.{point_after}
use Rattle.pungi_shape.specs.Edges.{point_of, free_var, frees_there}
use Rattle.pungi_shape.specs.Forms.{Form}
use Rattle.pungi_shape.specs.Keys.{is_key}
use Rattle.pungi_shape.specs.Liveness.{instr_at}
use Rattle.pungi_shape.specs.Places.{Place, at_point, width_at}
use Rattle.pungi_shape.specs.Limits.{most_coordinates}
use Rattle.pungi_shape.specs.Reached.{HasWideGoal, IsArrival, IsWideGoal, place_or, shape_at}
use Rattle.pungi_shape.specs.Scenes.{Scene, scene_of}
use Rattle.std.specs.Prelude.{◌^◌}
use Rattle.pungi_code.specs.declared.instr.Instr.{Instr}
use Rattle.pungi_shape.specs.Steps.{cases}
use Rattle.pungi_shape.specs.Shapes.{count_of_numbers, numbers_of_shape, width_of}
use Rattle.pungi_shape.proofs.ArrivalLemmas.{arrive-vars}
use Rattle.pungi_shape.proofs.CaseLemmas.{IsGoodCase, cases-plain}
use Rattle.pungi_shape.proofs.FileCodes.{IsInstrOfFile, sound-at}
use Rattle.pungi_shape.proofs.SceneLemmas.{scene_of-plain, scene_of-scene}
use Rattle.pungi_shape.proofs.ShapeLemmas.{arrives, counted_units}

pub record Keeps (s : Shape) (r : Place) : Type 0 where
  pub point : Point
  pub shape : Shape
  pub is : r ≡ at_point point shape
  pub fits : IsShape shape
  pub width : width_of shape ≡ width_of s
  pub vars : length shape.vars ≡ length s.vars

stays : (p : Point) (s : Shape) → IsShape s → Keeps s (at_point p s)
stays p s h = record { point = p; shape = s; is = refl; fits = h; width = refl; vars = refl }

second : (a b c : Bool) → (a && (b && c)) ≡ true → b ≡ true
second true true c e = refl
second true false c e = absurd (cc)
second false b c e = absurd (cc)

same_vectors : (s : Shape) (a : Arrival) → changes_nothing s a ≡ true → length a.rows ≡ width_of s
same_vectors s a e =
    counted_units (width_of s) a.rows (second (is_key (numbers_of_shape a.shape) (numbers_of_shape s))
    (is_eq (slice_cmp (slice_cmp int_cmp) a.rows (units (width_of s)))) (is_none_of a.drops) e)

skips_by : (b : Bool) (p q : Point) (s : Shape) (a : Arrival) (w : ℕ) → changes_nothing s a ≡ b → IsShape s
    → IsArrival w a → length a.shape.vars ≡ length s.vars → Keeps s (if b then at_point q a.shape else at_point p s)
skips_by true p q s a w e h fits vars = record {
  point = q;
  shape = a.shape;
  is = refl;
  fits = fits.shape;
  width = sym fits.rows ∙ same_vectors s a e;
  vars = vars;
}
skips_by false p q s a w e h fits vars = stays p s h

keeps_within : (code : Code) (p : Point) (s : Shape) (c : Case) (o : Onward) → IsShape s → IsScene c.scene
    → length c.scene.shape.vars ≡ length s.vars → Keeps s (skip_within code p s c o)
keeps_within code p s c (within k) h scene vars =
    let q = part_done p k in
    let a = arrive code q c.scene in
    skips_by (changes_nothing s a) p q s a c.scene.width refl h (arrives code q c.scene c.scene.width scene refl)
    (arrive-vars code q c.scene ∙ vars)
keeps_within code p s c (leads_to pc) h scene vars = stays p s h
keeps_within code p s c leaves h scene vars = stays p s h

keeps_one : (code : Code) (p : Point) (s : Shape) (cs : List Case) → IsShape s → All (λ c. IsScene c.scene) cs
    → All (λ c. length c.scene.shape.vars ≡ length s.vars) cs → Keeps s (skip_one code p s cs)
keeps_one code p s [] h scenes vars = stays p s h
keeps_one code p s (c ∷ []) h scenes vars =
    keeps_within code p s c c.onward h (scenes 0 c (omega arith)) (vars 0 c (omega arith))
keeps_one code p s (c ∷ d ∷ cs) h scenes vars = stays p s h

pub skip-keeps : (code : Code) (p : Point) (s : Shape) → IsCodeOfFile code → IsShape s
    → Keeps s (skip code (at_point p s))
skip-keeps code p s formed h =
    let list = cases_at code p s in
    let good = cases-plain code (instr_at code p.instr) p.instr p.done p.class (scene_of s) (sound-at code p.instr
    formed)
    (scene_of-scene s h) (scene_of-plain s)
    in
    keeps_one code p s list h
    (All-weaker (IsGoodCase (scene_of s)) (λ (c : Case). IsScene c.scene) (λ c g. g.scene) list good)
    (All-weaker (IsGoodCase (scene_of s)) (λ (c : Case). length c.scene.shape.vars ≡ length s.vars) (λ c g. g.vars) list
    good)

pub settle-width : (code : Code) (p : Point) (s : Shape) → IsCodeOfFile code → IsShape s
    → width_at (settle code (at_point p s)) ≡ width_of s
settle-width code p s formed h =
    let one = skip-keeps code p s formed h in
    let two = skip-keeps code one.point one.shape formed one.fits in
    ap (λ q. width_at (skip code q)) one.is ∙ ap width_at two.is ∙ two.width ∙ one.width

-- ---- one case

pub within-goes : (code : Code) (p q : Point) (s : Shape) (c : Case) (k : ℕ) (scene : Scene) → c.onward ≡ within k
    → q ≡ part_done p k → scene ≡ c.scene
    → skip_within code p s c c.onward ≡ skip_to (at_point p s) q s (arrive code q scene)
within-goes code p q s c k scene o h t =
    ap (skip_within code p s c) o ∙ ap (λ r. skip_to (at_point p s) r s (arrive code r c.scene)) (sym h)
    ∙ ap (λ z. skip_to (at_point p s) q s (arrive code q z)) (sym t)

-- more cases than one, or none
pub skip_one-other : (code : Code) (p : Point) (s : Shape) (cs : List Case) → length cs ≢ 1
    → skip_one code p s cs ≡ at_point p s
skip_one-other code p s [] n = refl
skip_one-other code p s (c ∷ []) n = absurd (n refl)
skip_one-other code p s (c ∷ d ∷ cs) n = refl

-- what holds of all cases holds of the only one
pub alone : (P : Case → Type 0) (cs : List Case) (c : Case) → cs ≡ c ∷ [] → All P cs → P c
alone P cs c e all = (let h : All P (c ∷ []) = subst (λ (ds : List Case). All P ds) e all in h 0 c (omega arith))

-- ---- what is skipped to

pub record FitsAs (s t : Shape) : Type 0 where
  pub fits : IsShape t
  pub width : width_of t ≡ width_of s
  pub vars : length t.vars ≡ length s.vars

pub skipped-fits : (code : Code) (p : Point) (s : Shape) (o : Option (Point × Shape)) (r : Point × Shape)
    → IsCodeOfFile code → IsShape s → o ≡ Some r → place_or (at_point p s) o ≡ skip code (at_point p s) → FitsAs s r.1
skipped-fits code p s o r formed h e is =
    let k = skip-keeps code p s formed h in
    let same : r.1 ≡ k.shape = ap shape_at (ap (place_or (at_point p s)) (sym e) ∙ is ∙ k.is) in
    record {
      fits = rw same k.fits;
      width = ap width_of same ∙ k.width;
      vars = ap (λ (t : Shape). length t.vars) same
          ∙ k.vars;
    }

-- a place that is arrived at with too many coordinates
pub wide_goal : (code : Code) (p : Point) (s : Scene) (a : Arrival) → IsCodeOfFile code → IsScene s
    → a ≡ arrive code p s
    → most_coordinates < length a.rows
    → most_coordinates < width_at (settle code (at_point p (arrive code p s).shape))
wide_goal code p s a formed h e lt =
    let fits = arrives code p s s.width h refl in
    let wide = settle-width code p (arrive code p s).shape formed fits.shape in
    let rows = ap (λ (z : Arrival). length z.rows) e in
    omega (arith, lt, wide, fits.rows, rows)

-- ---- lists that are put behind none

pub all_put : (P : Case → Type 0) (xs ys zs : List Case) → xs ≡ ys ++ zs → ys ≡ [] → All P zs → All P xs
all_put P xs [] zs e none all = rw e all
all_put P xs (y ∷ ys) zs e none all = absurd (cc)

-- ---- the edge of a case

pub edge-within : (code : Code) (p q : Point) (s : Shape) (c : Case) (k : ℕ) (guard : List Form) (scene : Scene)
    → c.onward ≡ within k → q ≡ part_done p k → guard ≡ c.guard → scene ≡ c.scene
    → edge_of code p s c ≡ goes_to code q guard scene
edge-within code p q s c k guard scene o h g t =
    ap (case_goes code p s c) o ∙ ap (λ r. goes_to code r c.guard c.scene) (sym h)
    ∙ ap (λ fs. goes_to code q fs c.scene) (sym g) ∙ ap (goes_to code q guard) (sym t)

pub edge-leads : (code : Code) (p q : Point) (s : Shape) (c : Case) (pc : ℕ) (freed : Option ℕ) (guard : List Form)
    (scene : Scene) → c.onward ≡ leads_to pc → q ≡ point_after code p freed pc → freed ≡ c.freed → guard ≡ c.guard
    → scene ≡ c.scene → edge_of code p s c ≡ goes_to code q guard scene
edge-leads code p q s c pc freed guard scene o h f g t =
    ap (case_goes code p s c) o ∙ ap (λ x. goes_to code (point_after code p x pc) c.guard c.scene) (sym f)
    ∙ ap (λ r. goes_to code r c.guard c.scene) (sym h)
    ∙ ap (λ fs. goes_to code q fs c.scene) (sym g) ∙ ap (goes_to code q guard) (sym t)

pub freed-edge : (code : Code) (p : Point) (s : Shape) (place : Place) (x n : ℕ) (guard duties : List Form)
    → place ≡ settle code (at_point (point_of (p.instr + 1) 0 0) s) → guard ≡ [] → duties ≡ []
    → n ≡ count_of_numbers (take x s.vars) → x ≡ free_var (instr_at code p.instr)
    → (let e : Edge = record { goal = to_place place; guard = guard; change = by_any (1 + n); duties = duties } in e)
    ≡ frees_there code p s
freed-edge code p s place x n guard duties is none no_duties count var =
    rw (is, none, no_duties, count, var) refl

-- ---- wide goals

pub same-edge : (code : Code) (p q : Point) (g h : List Form) (s t : Scene) → p ≡ q → g ≡ h → s ≡ t
    → goes_to code p g s ≡ goes_to code q h t
same-edge code p q g h s t e f i =
    ap (λ r. goes_to code r g s) e ∙ ap (λ fs. goes_to code q fs s) f ∙ ap (goes_to code q h) i

pub wide_first : (e : Edge) (es : List Edge) → IsWideGoal e.goal → HasWideGoal (e ∷ es)
wide_first e es wide = record { edge = e; is_there = (0, (omega arith, refl)); wide = wide }

pub wide_later : (d : Edge) (es : List Edge) → HasWideGoal es → HasWideGoal (d ∷ es)
wide_later d es h = record {
  edge = h.edge;
  is_there = (suc h.is_there.0, ((let lt = h.is_there.1.0 in omega (arith, lt)), h.is_there.1.1));
  wide = h.wide;
}

-- the fault is the same, whatever the result would have been
pub same_fault : {X Y : Type 0} (a b : GraphFault) → (let r : Result X GraphFault = Err a in r) ≡ Err b
    → (let r : Result Y GraphFault = Err a in r) ≡ Err b
same_fault a b e = ap Err (ap (fault_or a) e)
  where
    fault_or : {X : Type 0} → GraphFault → Result X GraphFault → GraphFault
    fault_or d (Ok x) = d
    fault_or d (Err g) = g

-- a part makes few tokens
pub cases-few : (code : Code) (i : Instr) (pc n k : ℕ) (s : Scene) → IsInstrOfFile code i → IsScene s → IsPlain s
    → length s.shape.made ≤ 256 → All (λ c. length c.scene.shape.made < 2 ^ 32) (cases i pc n k s)
cases-few code i pc n k s sound h plain few =
    All-weaker (IsGoodCase s) (λ (c : Case). length c.scene.shape.made < 2 ^ 32)
    (λ c g. (let l = g.few few in let b : 257 < 2 ^ 32 = lit< tt in omega (arith, l, b))) (cases i pc n k s)
    (cases-plain code i pc n k s sound h plain)
