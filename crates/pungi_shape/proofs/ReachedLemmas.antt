-- Places that are found fit the code, and so do their edges.
--   IsEdge code ks w e      an edge leads to such a place or exit class, with these static objects, and fits w
--                           coordinates
use Rattle.std.proofs.Common.{◌≡◌, ◌∙◌, ℕ, zero, suc, ◌+◌, ◌<◌, ◌≤◌, ◌^◌, Bool, true, false, pos, List, [], ◌∷◌}
use Rattle.std.proofs.Common.{length, map, take, get_or, refl, sym, ap, subst, arith, cond, inl, inr}
use Rattle.std.specs.Prelude.{not}
use Rattle.std.specs.List.{All, filter, range_with_len}
use Rattle.std.proofs.lemmas.Bool.Decides.{eqb_tells}
use Rattle.std.proofs.lemmas.List.Elements.{All-cons, All-map, All-nil}
use Rattle.std.proofs.lemmas.List.FromFn.{length-map-range_with_len}
use Rattle.pungi_domain.specs.Vectors.{IsEquation, IsWithin}
use Rattle.pungi_code.specs.declared.code.Code.{Code}
use Rattle.pungi_code.specs.declared.instr.Instr.{Instr}
use Rattle.pungi_code.specs.declared.instr.Instr.TheVariants.{Call}
use Rattle.pungi_shape.specs.declared.holding.Holding.{Holding}
use Rattle.pungi_shape.specs.declared.holding.Holding.TheVariants.{Dead}
use Rattle.pungi_shape.specs.declared.point.Point.{Point}
use Rattle.pungi_shape.specs.declared.shape.Shape.{Shape}
use Rattle.pungi_shape.specs.Arrivals.{arrive}
use Rattle.pungi_shape.specs.Bounds.{HasBalances, HasWidth, IsCodeOfFile, IsScene}
use Rattle.pungi_shape.specs.Cases.{Case, Onward, within, leads_to, leaves}
use Rattle.pungi_shape.specs.Edges.{Edge, both_shapes, case_goes, cases_at, comes_back_by, edge_of, edges_from}
use Rattle.pungi_shape.specs.Edges.{entry_scene, exit_duty}
use Rattle.pungi_shape.specs.Edges.{exits_from, frees_there, free_var, goes_to, is_freed, is_uncounted, part_done}
use Rattle.pungi_shape.specs.Edges.{point_of}
use Rattle.pungi_shape.specs.Edges.{to_place}
use Rattle.pungi_shape.specs.Exits.{after_leaving, agreement}
use Rattle.pungi_shape.specs.Forms.{Form, one_if, unit}
use Rattle.pungi_shape.specs.Leaving.{IsExitClass}
use Rattle.pungi_shape.specs.Limits.{most_coordinates}
use Rattle.pungi_shape.specs.Liveness.{instr_at}
use Rattle.pungi_shape.specs.Parts.{maps}
use Rattle.pungi_shape.specs.Places.{Place, at_entry, at_point, after_call, entry_shapes, first_point, width_at}
use Rattle.pungi_shape.specs.Reached.{FitsFrom, IsGoal, IsLeft, IsReached, IsShapeOf, names_at, names_in}
use Rattle.pungi_shape.specs.Scenes.{Scene}
use Rattle.pungi_shape.specs.Shapes.{count_of_numbers, is_number, width_of}
use Rattle.pungi_shape.proofs.ArrivalLemmas.{arrive-drop_widths, arrive-drops, arrive-rows, arrive-widths}
use Rattle.pungi_shape.proofs.CaseGoals.{LeadsAt}
use Rattle.pungi_shape.proofs.EntryLemmas.{entries-fit, entry_scene-balances, entry_scene-scene}
use Rattle.pungi_shape.proofs.ExitLemmas.{count_more, exit-found, exit-width}
use Rattle.pungi_shape.proofs.LeavingLemmas.{both-after, both-agree, both-names}
use Rattle.pungi_shape.proofs.NextLemmas.{IsNext, arrived-names, arrived-shape, cases-next, last-part}
use Rattle.pungi_shape.proofs.NextLemmas.{next-shape, settle-follows, start-part, within-part}
use Rattle.pungi_shape.proofs.UnitLemmas.{duty-equation, units-widths}

record IsEdge (code : Code) (ks : List ℕ) (w : ℕ) (e : Edge) : Type 0 where
  goal : IsGoal code ks e.goal
  fits : FitsFrom w e

-- ---- equations

equation : (w : ℕ) (f : Form) → HasWidth w f → All (IsWithin (2 ^ 20)) f → IsEquation w f
equation w f wide small = record { width = wide; within = λ i lt below. small i (pos 0) (omega (arith, wide, below)) }

no_equations : (w : ℕ) → All (IsEquation w) []
no_equations w = All-nil (IsEquation w)

drops_fit : (code : Code) (q : Point) (s : Scene) (w : ℕ) → IsScene s → s.width ≡ w → HasBalances (2 ^ 20) s
    → All (IsEquation w) (arrive code q s).drops
drops_fit code q s w k same small = λ i d lt. equation w (get_or (arrive code q s).drops i d)
    (arrive-drop_widths code q s k i d lt ∙ same) (arrive-drops code q s (2 ^ 20) small i d lt)

-- ---- an edge to a point

goes_edge : (code : Code) (q : Point) (guard : List Form) (s : Scene) (ks : List ℕ) (w : ℕ) → IsCodeOfFile code
    → IsScene s → s.width ≡ w → HasBalances (2 ^ 20) s → All (IsEquation w) guard → names_in s.shape ≡ ks
    → IsReached code (at_point q (arrive code q s).shape) → IsEdge code ks w (goes_to code q guard s)
goes_edge code q guard s ks w h k same small guards names reached =
    let f = settle-follows code (at_point q (arrive code q s).shape) h reached in
    record {
      goal = (f.reached, f.names ∙ arrived-names code q s ∙ names);
      fits = record {
        guard = guards;
        change = (
          arrive-rows code q s k ∙ sym f.width,
          λ i d lt. arrive-widths code q s k i d lt ∙ same,
        );
        duties = drops_fit code q s w k same small;
      };
    }

-- ---- an edge out of the function

exit_edge : (code : Code) (s : Shape) → IsShapeOf code s → IsLeft s → width_of s ≤ most_coordinates
    → IsEdge code (names_in s) (width_of s) (exits_from code s)
exit_edge code s is left narrow =
    let w = width_of s in
    record {
      goal = (exit-found code s is left narrow, refl);
      fits = record {
        guard = no_equations w;
        change = (length-map-range_with_len (unit w) 0 w ∙ sym (exit-width s left), units-widths w);
        duties = (
            let ts = filter (λ t. not (is_uncounted code s t)) (range_with_len 0 (length s.made)) in
            All-map (IsEquation w) (exit_duty code s) ts (λ i d lt. duty-equation code s (get_or ts i d))
            );
      };
    }

-- ---- the edge of a case

next_edge : (code : Code) (p : Point) (s : Shape) (c : Case) (q : Point) → IsCodeOfFile code → IsNext code p s c
    → IsReached code (at_point q (arrive code q c.scene).shape)
    → IsEdge code (names_in s) (width_of s) (goes_to code q c.guard c.scene)
next_edge code p s c q h n reached =
    goes_edge code q c.guard c.scene (names_in s) (width_of s) h n.good.scene n.good.width n.good.balances n.good.guard
    n.leads.names reached

after_edge : (code : Code) (p : Point) (s : Shape) (c : Case) (pc : ℕ) (b : Bool) → IsCodeOfFile code
    → IsReached code (at_point p s) → IsNext code p s c → p.done < maps (instr_at code p.instr)
    → LeadsAt (instr_at code p.instr) p.done c (leads_to pc) → is_freed code (part_done p p.class) c.freed ≡ b
    → IsEdge code (names_in s) (width_of s)
    (goes_to code (cond b (part_done p p.class) (point_of pc 0 0)) c.guard c.scene)
after_edge code p s c pc true h is n lt l e =
    next_edge code p s c (part_done p p.class) h n
    (next-shape code p s c (part_done p p.class) is.0 n, last-part code p c (part_done p p.class) lt l.0 l.1 e)
after_edge code p s c pc false h is n lt l e =
    next_edge code p s c (point_of pc 0 0) h n
    (next-shape code p s c (point_of pc 0 0) is.0 n, start-part code pc (arrive code (point_of pc 0 0) c.scene).shape)

case_edge : (code : Code) (p : Point) (s : Shape) (c : Case) (o : Onward) → IsCodeOfFile code
    → IsReached code (at_point p s) → width_of s ≤ most_coordinates → IsNext code p s c
    → p.done < maps (instr_at code p.instr) → LeadsAt (instr_at code p.instr) p.done c o
    → IsEdge code (names_in s) (width_of s) (case_goes code p s c o)
case_edge code p s c (within k) h is narrow n lt l =
    next_edge code p s c (part_done p k) h n
    (next-shape code p s c (part_done p k) is.0 n, within-part code p s c (part_done p k) n l.0)
case_edge code p s c (leads_to pc) h is narrow n lt l =
    after_edge code p s c pc (is_freed code (part_done p p.class) c.freed) h is n lt l refl
case_edge code p s c leaves h is narrow n lt l = exit_edge code s is.0 (is.1.left l.0 l.1.0 l.1.1) narrow

-- ---- the edge that puts any number

count_before : (hs : List Holding) (x : ℕ) → is_number (get_or hs x Dead) ≡ true
    → count_of_numbers (take x hs) < count_of_numbers hs
count_before [] x e = absurd (let bad : false ≡ true = e in cc)
count_before (h ∷ hs) zero e = (
    let c = count_more h hs in
    let o : one_if (is_number h) ≡ 1 = ap one_if e in
    omega (arith, c, o)
    )
count_before (h ∷ hs) (suc x) e =
    let c = count_more h hs in
    let d = count_more h (take x hs) in
    let r = count_before hs x e in
    omega (arith, c, d, r)

free_edge : (code : Code) (p : Point) (s : Shape) → IsCodeOfFile code → IsReached code (at_point p s)
    → p.done ≡ maps (instr_at code p.instr) → IsEdge code (names_in s) (width_of s) (frees_there code p s)
free_edge code p s h is e =
    let f = settle-follows code (at_point (point_of (p.instr + 1) 0 0) s) h (is.0, start-part code (p.instr + 1) s) in
    let x = free_var (instr_at code p.instr) in
    let less = count_before s.vars x (is.1.frees e).number in
    record {
      goal = (f.reached, f.names);
      fits = record {
        guard = no_equations (width_of s);
        change = (f.width, omega arith, omega (arith, less));
        duties = no_equations (width_of s);
      };
    }

-- ---- all edges

point_edges : (code : Code) (p : Point) (s : Shape) → IsCodeOfFile code → IsReached code (at_point p s)
    → width_of s ≤ most_coordinates → All (IsEdge code (names_in s) (width_of s)) (edges_from code (at_point p s))
point_edges code p s h is narrow = elim (eqb_tells p.done (maps (instr_at code p.instr))) [
  | inl e ↦ subst (λ b. All (IsEdge code (names_in s) (width_of s)) (cond b (frees_there code p s ∷ [])
      (map (edge_of code p s) (cases_at code p s)))) (sym e.0)
      (All-cons (IsEdge code (names_in s) (width_of s)) (frees_there code p s) [] (free_edge code p s h is e.1)
      (All-nil (IsEdge code (names_in s) (width_of s))))
  | inr e ↦ subst (λ b. All (IsEdge code (names_in s) (width_of s)) (cond b (frees_there code p s ∷ [])
      (map (edge_of code p s) (cases_at code p s)))) (sym e.0)
      (All-map (IsEdge code (names_in s) (width_of s)) (edge_of code p s) (cases_at code p s) (λ i d below.
      let c = get_or (cases_at code p s) i d in
      let n = cases-next code p s h is.0 i d below in
      let le = is.1.part in
      let ne = e.1 in
      case_edge code p s c c.onward h is narrow n (omega (arith, le, ne)) n.leads.leads))
]

entry_edges : (code : Code) (s : Shape) → IsCodeOfFile code → IsShapeOf code s
    → All (IsEdge code (names_in s) (width_at (at_entry s))) (edges_from code (at_entry s))
entry_edges code s h is =
    let w = width_at (at_entry s) in
    let k = entry_scene-scene code s h is in
    let a = (arrive code first_point (entry_scene s)).shape in
    All-cons (IsEdge code (names_in s) w) (goes_to code first_point [] (entry_scene s)) []
    (goes_edge code first_point [] (entry_scene s) (names_in s) w h k refl (entry_scene-balances (2 ^ 20) s)
    (no_equations w) refl (arrived-shape code first_point (entry_scene s) k is.entry is.vars, start-part code 0 a))
    (All-nil (IsEdge code (names_in s) w))

back_edges : (code : Code) (i : Instr) (pc : ℕ) (s e : Shape) → IsCodeOfFile code
    → IsShapeOf code s × (IsExitClass e × (e.made ≡ [])) → width_of s + width_of e ≤ most_coordinates
    → All (IsEdge code (names_in s) (width_of s + width_of e)) (comes_back_by code i pc s e)
back_edges code (Call x f as') pc s e h is narrow =
    let w = width_of s + width_of e in
    let q = point_of (pc + 1) 0 0 in
    let t = after_leaving (width_of s) e x as' (both_shapes s e) in
    let low : width_of s ≤ 256 = omega (arith, narrow) in
    let slim : width_of e ≤ 256 = omega (arith, narrow) in
    let after = both-after s e x as' is.0.shape low slim in
    let guard = agreement (width_of s) e as' (both_shapes s e) in
    All-cons (IsEdge code (names_in s) w) (goes_to code q guard t) []
    (goes_edge code q guard t (names_in s) w h after.scene after.width after.balances (both-agree s e as' is.0.shape)
    (both-names s e x as' is.0.shape low slim) (
      arrived-shape code q t after.scene (after.entry ∙ is.0.entry) (after.vars ∙ is.0.vars),
      start-part code (pc + 1) (arrive code q t).shape,
    ))
    (All-nil (IsEdge code (names_in s) w))
back_edges code i pc s e h is narrow = All-nil (IsEdge code (names_in s) (width_of s + width_of e))

edges_all : (code : Code) (q : Place) → IsCodeOfFile code → IsReached code q → width_at q ≤ most_coordinates
    → All (IsEdge code (names_at q) (width_at q)) (edges_from code q)
edges_all code (at_entry s) h is narrow = entry_edges code s h is
edges_all code (at_point p s) h is narrow = point_edges code p s h is narrow
edges_all code (after_call p s e) h is narrow = back_edges code (instr_at code p.instr) p.instr s e h is narrow

-- the edges of a place that is found lead to such places and exit classes, and fit
pub edges-goals : (code : Code) (q : Place) → IsCodeOfFile code → IsReached code q → width_at q ≤ most_coordinates
    → All (λ e. IsGoal code (names_at q) e.goal) (edges_from code q)
edges-goals code q h reached narrow = λ i d lt. (edges_all code q h reached narrow i d lt).goal

pub edges-fit : (code : Code) (q : Place) → IsCodeOfFile code → IsReached code q → width_at q ≤ most_coordinates
    → All (FitsFrom (width_at q)) (edges_from code q)
edges-fit code q h reached narrow = λ i d lt. (edges_all code q h reached narrow i d lt).fits

-- entries fit
pub entries-reached : (code : Code) (ks : List ℕ) → IsCodeOfFile code
    → All (λ s. IsGoal code ks (to_place (at_entry s))) (entry_shapes ks code)
entries-reached code ks h = entries-fit code ks h
