-- Where the edges of a place lead: to points, where few coordinates are few tokens, and to one exit class.
--   IsAtPoint q             a place at a point
--   IsOnward x g            a goal is such a place, or this exit class
--   IsInside x g            a goal is a place other than an entry, or this exit class
use Rattle.std.proofs.Common.{◌≡◌, ℕ, ◌+◌, ◌<◌, ◌≤◌, ◌^◌, ◌==◌, Bool, true, false, cond, Option, Some, None, List, []}
use Rattle.std.proofs.Common.{◌∷◌, ◌++◌, get_or, length, map, refl, sym, ap, subst, arith}
use Rattle.std.specs.Prelude.{is_some, if◌then◌else◌}
use Rattle.std.specs.List.{All}
use Rattle.std.proofs.lemmas.List.{length-append}
use Rattle.std.proofs.lemmas.List.Elements.{All-nil, All-cons, All-head, All-tail, All-map, All-weaker}
use Rattle.pungi_code.specs.declared.code.Code.{Code}
use Rattle.pungi_code.specs.declared.instr.Instr.{Instr}
use Rattle.pungi_code.specs.declared.instr.Instr.TheVariants.{Call}
use Rattle.pungi_shape.specs.declared.point.Point.{Point}
use Rattle.pungi_shape.specs.declared.search.Found.{Found}
use Rattle.pungi_shape.specs.declared.shape.Shape.{Shape}
use Rattle.pungi_shape.specs.Arrivals.{arrive}
use Rattle.pungi_shape.specs.Bounds.{AreTokens, IsShape, bases_in}
use Rattle.pungi_shape.specs.Cases.{Case, Onward, within, leads_to, leaves}
use Rattle.pungi_shape.specs.Edges.{Edge, Goal, to_place, to_exit, both_shapes, case_goes, cases_at, changes_nothing}
use Rattle.pungi_shape.specs.Edges.{comes_back_by, edge_of, edges_from, entry_scene, frees_there, goes_to, part_done}
use Rattle.pungi_shape.specs.Edges.{point_after, point_of, settle, skip, skip_one, skip_within}
use Rattle.pungi_shape.specs.Exits.{after_leaving, agreement}
use Rattle.pungi_shape.specs.Forms.{Form}
use Rattle.pungi_shape.specs.Found.{CanBeNoted, with_goal, with_goals, with_key}
use Rattle.pungi_shape.specs.Keys.{place_of}
use Rattle.pungi_shape.specs.Limits.{most_coordinates}
use Rattle.pungi_shape.specs.Liveness.{instr_at}
use Rattle.pungi_shape.specs.Parts.{maps}
use Rattle.pungi_shape.specs.Places.{Place, at_entry, at_point, after_call, first_point}
use Rattle.pungi_shape.specs.Reached.{IsGoal, shape_at}
use Rattle.pungi_shape.specs.Scenes.{Scene}
use Rattle.pungi_shape.specs.Shapes.{exit_of, holders, numbers_of_shape, tokens_in, width_of}
use Rattle.pungi_shape.proofs.CatalogLemmas.{added-found}

abbrev IsAtPoint : Place → Type 0
IsAtPoint (at_entry s) = ⊥
IsAtPoint (at_point p s) = Unit {0}
IsAtPoint (after_call p s e) = ⊥

abbrev pub IsOnward : Shape → Goal → Type 0
IsOnward x (to_place q) = IsAtPoint q
IsOnward x (to_exit y) = y ≡ x

abbrev pub IsInside : Shape → Goal → Type 0
IsInside x (to_place (at_entry s)) = ⊥
IsInside x (to_place (at_point p s)) = Unit {0}
IsInside x (to_place (after_call p s e)) = Unit {0}
IsInside x (to_exit y) = y ≡ x

onward-inside : (x : Shape) (g : Goal) → IsOnward x g → IsInside x g
onward-inside x (to_place (at_entry s)) on = on
onward-inside x (to_place (at_point p s)) on = on
onward-inside x (to_place (after_call p s e)) on = absurd on
onward-inside x (to_exit y) on = on

-- ---- points

skip_within-point : (code : Code) (p : Point) (s : Shape) (c : Case) (o : Onward)
    → IsAtPoint (skip_within code p s c o)
skip_within-point code p s c (leads_to pc) = tt
skip_within-point code p s c leaves = tt
skip_within-point code p s c (within k) = at (changes_nothing s (arrive code (part_done p k) c.scene))
  where
    at : (b : Bool) → IsAtPoint (cond b (at_point (part_done p k) (arrive code (part_done p k) c.scene).shape)
        (at_point p s))
    at true = tt
    at false = tt

skip_one-point : (code : Code) (p : Point) (s : Shape) (cs : List Case) → IsAtPoint (skip_one code p s cs)
skip_one-point code p s [] = tt
skip_one-point code p s (c ∷ []) = skip_within-point code p s c c.onward
skip_one-point code p s (c ∷ d ∷ cs) = tt

skip-point : (code : Code) (q : Place) → IsAtPoint q → IsAtPoint (skip code q)
skip-point code (at_entry s) at = absurd at
skip-point code (at_point p s) at = skip_one-point code p s (cases_at code p s)
skip-point code (after_call p s e) at = absurd at

settle-point : (code : Code) (p : Point) (s : Shape) → IsAtPoint (settle code (at_point p s))
settle-point code p s = skip-point code (skip code (at_point p s)) (skip-point code (at_point p s) tt)

-- ---- edges

goes-onward : (code : Code) (p : Point) (guard : List Form) (s : Scene) (x : Shape)
    → IsOnward x (goes_to code p guard s).goal
goes-onward code p guard s x = settle-point code p (arrive code p s).shape

case-onward : (code : Code) (p : Point) (s : Shape) (c : Case) (o : Onward)
    → IsOnward (exit_of s) (case_goes code p s c o).goal
case-onward code p s c (within k) = goes-onward code (part_done p k) c.guard c.scene (exit_of s)
case-onward code p s c (leads_to pc) = goes-onward code (point_after code p c.freed pc) c.guard c.scene (exit_of s)
case-onward code p s c leaves = refl

abbrev AreOnward : Shape → List Edge → Type 0
AreOnward x es = All (λ (e : Edge). IsOnward x e.goal) es

one-onward : (x : Shape) (e : Edge) → IsOnward x e.goal → AreOnward x (e ∷ [])
one-onward x e h =
    All-cons (λ (d : Edge). IsOnward x d.goal) e [] h (All-nil (λ (d : Edge). IsOnward x d.goal))

back-onward : (code : Code) (i : Instr) (pc : ℕ) (s e x : Shape) → AreOnward x (comes_back_by code i pc s e)
back-onward code (Call y f as') pc s e x =
    let both = both_shapes s e in
    let guard = agreement (width_of s) e as' both in
    let after = after_leaving (width_of s) e y as' both in
    one-onward x (goes_to code (point_of (pc + 1) 0 0) guard after)
    (goes-onward code (point_of (pc + 1) 0 0) guard after x)
back-onward code i pc s e x = All-nil (λ (d : Edge). IsOnward x d.goal)

point-onward : (code : Code) (p : Point) (s : Shape) (b : Bool)
    → AreOnward (exit_of s) (cond b (frees_there code p s ∷ []) (map (edge_of code p s) (cases_at code p s)))
point-onward code p s true =
    one-onward (exit_of s) (frees_there code p s) (settle-point code (point_of (p.instr + 1) 0 0) s)
point-onward code p s false =
    All-map (λ (d : Edge). IsOnward (exit_of s) d.goal) (edge_of code p s) (cases_at code p s)
    (λ i d lt. let c = get_or (cases_at code p s) i d in case-onward code p s c c.onward)

edges-onward : (code : Code) (q : Place) → AreOnward (exit_of (shape_at q)) (edges_from code q)
edges-onward code (at_entry s) =
    one-onward (exit_of s) (goes_to code first_point [] (entry_scene s))
    (goes-onward code first_point [] (entry_scene s) (exit_of s))
edges-onward code (at_point p s) = point-onward code p s (p.done == maps (instr_at code p.instr))
edges-onward code (after_call p s e) = back-onward code (instr_at code p.instr) p.instr s e (exit_of s)

pub edges-inside : (code : Code) (q : Place)
    → All (λ (e : Edge). IsInside (exit_of (shape_at q)) e.goal) (edges_from code q)
edges-inside code q =
    λ i d lt. onward-inside (exit_of (shape_at q)) (get_or (edges_from code q) i d).goal (edges-onward code q i d lt)

-- ---- tokens

module _ (s : Shape) (h : IsShape s) where
  few_tokens : (w : ℕ) → width_of s ≤ w → w ≤ most_coordinates → AreTokens (2 ^ 31) s
  few_tokens w le narrow =
      let made = h.made in
      All-weaker (λ t. t < length s.made) (λ t. t < 2 ^ 31) (λ t lt. omega (arith, lt, made, le, narrow))
      (tokens_in (holders s) ++ bases_in s.slots) h.tokens

-- a place inside with few coordinates has few tokens
pub goal-noted : (code : Code) (ks : List ℕ) (x : Shape) (g : Goal) → IsGoal code ks g → IsInside x g → CanBeNoted g
goal-noted code ks x (to_place (at_entry s)) is on = absurd on
goal-noted code ks x (to_place (after_call p s e)) is on =
    ((is.0.0.shape, is.0.1.0), λ narrow. few_tokens s is.0.0.shape (width_of s + width_of e) (omega arith) narrow)
goal-noted code ks x (to_place (at_point p s)) is on =
    (is.0.0.shape, λ narrow. few_tokens s is.0.0.shape (width_of s) (omega arith) narrow)
goal-noted code ks x (to_exit y) is on =
    All-weaker (λ t. t < most_coordinates) (λ t. t < 2 ^ 31) (λ t lt. omega (arith, lt))
    (tokens_in (holders y) ++ bases_in y.slots) is.0.tokens

-- ---- exits

abbrev one_new : Option ℕ → ℕ
one_new None = 1
one_new (Some i) = 0

exits-new : (x : Shape) (gs : List Goal) (s : Found) → All (IsInside x) gs
    → length (with_goals gs s).exits.items
    ≤ length s.exits.items + one_new (place_of (numbers_of_shape x) s.exits)
exits-new x [] s all = omega arith
exits-new x (to_place q ∷ gs) s all =
    exits-new x gs (with_goal (to_place q) s) (All-tail (IsInside x) (to_place q) gs all)
exits-new x (to_exit y ∷ gs) s all =
    subst (λ z. length (with_goals gs (with_goal (to_exit z) s)).exits.items
    ≤ length s.exits.items + one_new (place_of (numbers_of_shape x) s.exits))
    (sym (All-head (IsInside x) (to_exit y) gs all))
    (at (place_of (numbers_of_shape x) s.exits) refl
    (λ u. exits-new x gs u (All-tail (IsInside x) (to_exit y) gs all)))
  where
    at : (o : Option ℕ) → place_of (numbers_of_shape x) s.exits ≡ o
        → ((u : Found) → length (with_goals gs u).exits.items
        ≤ length u.exits.items + one_new (place_of (numbers_of_shape x) u.exits))
        → length (with_goals gs (record {
          places = s.places;
          exits = if is_some o then s.exits else with_key (numbers_of_shape x) x s.exits;
        })).exits.items ≤ length s.exits.items + one_new o
    at (Some i) e rest = (let more = rest s in let same = ap one_new e in omega (arith, more, same))
    at None e rest =
        let more =
        rest (record { places = s.places; exits = with_key (numbers_of_shape x) x s.exits }) in
        let same = ap one_new (added-found (numbers_of_shape x) x s.exits e) in
        let long = length-append s.exits.items (x ∷ []) in
        omega (arith, more, same, long)

pub exits-grow : (x : Shape) (gs : List Goal) (s : Found) → All (IsInside x) gs
    → length (with_goals gs s).exits.items ≤ length s.exits.items + 1
exits-grow x gs s all =
    let more = exits-new x gs s all in
    let one = at-most (place_of (numbers_of_shape x) s.exits) in
    omega (arith, more, one)
  where
    at-most : (o : Option ℕ) → one_new o ≤ 1
    at-most None = omega arith
    at-most (Some i) = omega arith
