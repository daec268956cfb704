-- All edges of a place: its own, and those by which a function is called that leaves by given exit classes. They fit,
-- and where they lead fits the code.
--   IsAtPoint q             a place at a point
--   IsNoExit c              what is done is not what a called function did
--   IsOwn code others e     so it is with an edge, which leads to no place where a function has left
use Rattle.std.proofs.Common.{◌≡◌, inl, inr, ℕ, ◌+◌, ◌==◌, ◌≤◌, Bool, true, false, cond, List, [], ◌∷◌, map}
use Rattle.std.proofs.Common.{get_or, refl, sym, ap, subst}
use Rattle.std.specs.Prelude.{◌&&◌}
use Rattle.std.specs.List.{All, IsAmong, flat_map}
use Rattle.std.proofs.lemmas.List.Elements.{All-append, All-cons, All-map, All-nil}
use Rattle.pungi_domain.specs.Vectors.{IsEquation}
use Rattle.pungi_code.specs.declared.code.Code.{Code}
use Rattle.pungi_code.specs.declared.code.Codes.{Codes}
use Rattle.pungi_code.specs.declared.instr.Instr.{Instr}
use Rattle.pungi_code.specs.declared.instr.Instr.TheVariants.{Call}
use Rattle.pungi_shape.specs.declared.point.Point.{Point}
use Rattle.pungi_shape.specs.declared.shape.Shape.{Shape}
use Rattle.pungi_shape.specs.Bounds.{IsCodeOfFile}
use Rattle.pungi_shape.specs.Cases.{Case, Onward, within, leads_to, leaves}
use Rattle.pungi_shape.specs.Classes.{AreClasses, IsClassOf, IsOfCall, IsOfCalls}
use Rattle.pungi_shape.specs.Edges.{Change, by_map, by_any, by_exit, Edge, both_shapes, call_edges, call_edges_by}
use Rattle.pungi_shape.specs.Edges.{case_goes, cases_at, changes_nothing, comes_back_by, edge_of, edges_from}
use Rattle.pungi_shape.specs.Edges.{enters_exit, entry_scene, frees_there, goes_to, part_done, point_after, point_of}
use Rattle.pungi_shape.specs.Edges.{settle, skip, skip_one, skip_to, skip_within, to_place}
use Rattle.pungi_shape.specs.Exits.{after_leaving, agreement, may_leave}
use Rattle.pungi_shape.specs.Arrivals.{Arrival, arrive}
use Rattle.pungi_shape.specs.Leaving.{IsExitClass}
use Rattle.pungi_shape.specs.Limits.{most_coordinates}
use Rattle.pungi_shape.specs.Liveness.{instr_at}
use Rattle.pungi_shape.specs.Named.{callee_of}
use Rattle.pungi_shape.specs.Parts.{maps}
use Rattle.pungi_shape.specs.Places.{Place, at_entry, at_point, after_call, first_point, instr_in, width_at}
use Rattle.pungi_shape.specs.Programs.{all_edges, calls_from}
use Rattle.pungi_shape.specs.Reached.{FitsFrom, IsGoal, IsReached, names_at}
use Rattle.pungi_shape.specs.Scenes.{scene_of}
use Rattle.pungi_shape.specs.Shapes.{width_of}
use Rattle.pungi_shape.proofs.ReachedLemmas.{edges-fit, edges-goals}
use Rattle.pungi_shape.proofs.sound.InOrder.{among_some}
use Rattle.pungi_shape.proofs.sound.Members.{all_among, nothing_in, of_all, one_of}

-- ---- a place's own edges

abbrev IsAtPoint : Place → Type 0
IsAtPoint (at_entry s) = ⊥
IsAtPoint (at_point p s) = Unit {0}
IsAtPoint (after_call p s e) = ⊥

abbrev pub IsNoExit : Change → Type 0
IsNoExit (by_map rows) = Unit {0}
IsNoExit (by_any c) = Unit {0}
IsNoExit (by_exit f x onto) = ⊥

pub record IsOwn (code : Code) (others : ℕ → List Shape) (e : Edge) : Type 0 where
  pub goal : IsOfCalls code others e.goal
  pub change : IsNoExit e.change

skipped-to : (p q : Point) (s : Shape) (a : Arrival) → IsAtPoint (skip_to (at_point p s) q s a)
skipped-to p q s a = at (changes_nothing s a)
  where
    at : (b : Bool) → IsAtPoint (cond b (at_point q a.shape) (at_point p s))
    at true = tt
    at false = tt

skipped-within : (code : Code) (p : Point) (s : Shape) (c : Case) (o : Onward) → IsAtPoint (skip_within code p s c o)
skipped-within code p s c (within k) = skipped-to p (part_done p k) s (arrive code (part_done p k) c.scene)
skipped-within code p s c (leads_to pc) = tt
skipped-within code p s c leaves = tt

skipped-one : (code : Code) (p : Point) (s : Shape) (cs : List Case) → IsAtPoint (skip_one code p s cs)
skipped-one code p s [] = tt
skipped-one code p s (c ∷ []) = skipped-within code p s c c.onward
skipped-one code p s (c ∷ d ∷ cs) = tt

skipped : (code : Code) (q : Place) → IsAtPoint q → IsAtPoint (skip code q)
skipped code (at_entry s) is = is
skipped code (after_call p s e) is = is
skipped code (at_point p s) is = skipped-one code p s (cases_at code p s)

module _ (code : Code) (others : ℕ → List Shape) where
  at-point : (q : Place) → IsAtPoint q → IsOfCall code others q
  at-point (at_entry s) is = absurd is
  at-point (after_call p s e) is = absurd is
  at-point (at_point p s) is = tt

  settled : (p : Point) (s : Shape) → IsOfCall code others (settle code (at_point p s))
  settled p s =
      at-point (settle code (at_point p s)) (skipped code (skip code (at_point p s)) (skipped code (at_point p s) tt))

  one-own : (e : Edge) → IsOwn code others e → All (IsOwn code others) (e ∷ [])
  one-own e own = All-cons (IsOwn code others) e [] own (All-nil (IsOwn code others))

  case-own : (p : Point) (s : Shape) (c : Case) (o : Onward) → IsOwn code others (case_goes code p s c o)
  case-own p s c (within k) =
      record { goal = settled (part_done p k) (arrive code (part_done p k) c.scene).shape; change = tt }
  case-own p s c (leads_to pc) =
      let q = point_after code p c.freed pc in
      record { goal = settled q (arrive code q c.scene).shape; change = tt }
  case-own p s c leaves = record { goal = tt; change = tt }

  back-own : (i : Instr) (pc : ℕ) (s e : Shape) → All (IsOwn code others) (comes_back_by code i pc s e)
  back-own (Call x f as') pc s e =
      let q = point_of (pc + 1) 0 0 in
      let t = after_leaving (width_of s) e x as' (both_shapes s e) in
      one-own (goes_to code q (agreement (width_of s) e as' (both_shapes s e)) t)
      (record { goal = settled q (arrive code q t).shape; change = tt })
  back-own i pc s e = All-nil (IsOwn code others)

  -- a place's own edges lead to none where a function has left, and are no calls
  pub all-own : (q : Place) → All (IsOwn code others) (edges_from code q)
  all-own (at_entry s) =
      one-own (goes_to code first_point [] (entry_scene s))
      (record { goal = settled first_point (arrive code first_point (entry_scene s)).shape; change = tt })
  all-own (after_call p s e) = back-own (instr_at code p.instr) p.instr s e
  all-own (at_point p s) = at (p.done == maps (instr_at code p.instr))
    where
      at : (b : Bool) → All (IsOwn code others)
          (cond b (frees_there code p s ∷ []) (map (edge_of code p s) (cases_at code p s)))
      at true = one-own (frees_there code p s) (record { goal = settled (point_of (p.instr + 1) 0 0) s; change = tt })
      at false = All-map (IsOwn code others) (edge_of code p s) (cases_at code p s) (λ i d lt. (
          let c = get_or (cases_at code p s) i d in case-own p s c c.onward
          ))

-- ---- edges of calls

-- an edge by which a function is called is that of an instruction that calls it
by-call : (i : Instr) (p : Point) (s : Shape) (g : ℕ) (x : Shape) (e : Edge) → IsAmong (callee_of i) g
    → IsAmong (call_edges_by i p s g x) e → (callee_of i ≡ g ∷ []) × (e ≡ enters_exit p s g x)
by-call (Call y h as') p s g x e called there =
    (ap (λ k. k ∷ []) (same called), at ((p.done == 1) && ((h == g) && may_leave x as' (scene_of s))) there)
  where
    same : IsAmong (h ∷ []) g → h ≡ g
    same among = elim (one_of h [] g among) [
      | inl is ↦ sym is
      | inr none ↦ absurd (nothing_in g none)
    ]

    at : (b : Bool) → IsAmong (cond b (enters_exit p s g x ∷ []) []) e → e ≡ enters_exit p s g x
    at true among = elim (one_of (enters_exit p s g x) [] e among) [
      | inl is ↦ is
      | inr none ↦ absurd (nothing_in e none)
    ]
    at false among = absurd (nothing_in e among)
by-call i p s g x e called there = absurd (nothing_in g called)

module _ (code : Code) (others : ℕ → List Shape) where
  calls-all : (P : Edge → Type 0) (q : Place) → ((g : ℕ) (x : Shape) (e : Edge)
      → IsAmong (callee_of (instr_at code (instr_in q))) g → IsAmong (others g) x → IsAmong (call_edges code q g x) e
      → P e) → All P (calls_from code others q)
  calls-all P q h = all_among P (calls_from code others q) (λ e there. (
      let some = among_some (λ (g : ℕ). flat_map (call_edges code q g) (others g))
      (callee_of (instr_at code (instr_in q))) e there in
      let class = among_some (call_edges code q some.0) (others some.0) e some.1.1 in
      h some.0 class.0 e some.1.0 class.1.0 class.1.1
      ))

  -- what holds of the edges by which functions are called
  pub all-calls : (P : Edge → Type 0) (q : Place) → ((p : Point) (s : Shape) (g : ℕ) (x : Shape) → q ≡ at_point p s
      → callee_of (instr_at code p.instr) ≡ g ∷ [] → IsAmong (others g) x → P (enters_exit p s g x))
      → All P (calls_from code others q)
  all-calls P (at_entry s) h = calls-all P (at_entry s) (λ g x e called class there. absurd (nothing_in e there))
  all-calls P (after_call p s y) h =
      calls-all P (after_call p s y) (λ g x e called class there. absurd (nothing_in e there))
  all-calls P (at_point p s) h =
      calls-all P (at_point p s) (λ g x e called class there. (
      let by = by-call (instr_at code p.instr) p s g x e called there in
      subst P (sym by.1) (h p s g x refl by.0 class)
      ))

-- ---- all edges

module _ (codes : Codes) (others : ℕ → List Shape) (classes : AreClasses codes others) (code : Code) where
  class-of : (g : ℕ) (x : Shape) → IsAmong (others g) x → IsClassOf codes g x
  class-of g x there = of_all (IsClassOf codes g) (others g) x (classes g).each there

  exit-class : (g : ℕ) (x : Shape) → IsAmong (others g) x → IsExitClass x
  exit-class g x there =
      let is = (class-of g x there).exit in
      record { vars = is.vars; slots = is.slots; tokens = is.tokens; narrow = is.narrow }

  goal-at : (q : Place) → IsReached code q → (p : Point) (s : Shape) (g : ℕ) (x : Shape) → q ≡ at_point p s
      → IsAmong (others g) x → IsGoal code (names_at q) (to_place (after_call (part_done p 0) s x))
  goal-at q reached p s g x is class =
      let here : IsReached code (at_point p s) = subst (IsReached code) is reached in
      ((here.0, (exit-class g x class, (class-of g x class).exit.made)), sym (ap names_at is))

  pub all-goals : (q : Place) → IsCodeOfFile code → IsReached code q → width_at q ≤ most_coordinates
      → All (λ e. IsGoal code (names_at q) e.goal) (all_edges code others q)
  all-goals q h reached narrow =
      All-append (λ (e : Edge). IsGoal code (names_at q) e.goal) (edges_from code q) (calls_from code others q)
      (edges-goals code q h reached narrow)
      (all-calls code others (λ (e : Edge). IsGoal code (names_at q) e.goal) q
      (λ p s g x is calls class. goal-at q reached p s g x is class))

  pub all-fit : (q : Place) → IsCodeOfFile code → IsReached code q → width_at q ≤ most_coordinates
      → All (FitsFrom (width_at q)) (all_edges code others q)
  all-fit q h reached narrow =
      All-append (FitsFrom (width_at q)) (edges_from code q) (calls_from code others q)
      (edges-fit code q h reached narrow)
      (all-calls code others (FitsFrom (width_at q)) q (λ p s g x is calls class.
      subst (λ (r : Place). FitsFrom (width_at r) (enters_exit p s g x)) (sym is) (record {
        guard = All-nil (IsEquation (width_of s));
        change = (refl, refl);
        duties = All-nil (IsEquation (width_of s));
      })))

  pub all-called : (q : Place) → All (λ e. IsOfCalls code others e.goal) (all_edges code others q)
  all-called q =
      All-append (λ (e : Edge). IsOfCalls code others e.goal) (edges_from code q) (calls_from code others q)
      (λ i d lt. (all-own code others q i d lt).goal)
      (all-calls code others (λ (e : Edge). IsOfCalls code others e.goal) q
      (λ p s g x is calls class. record { callee = g; calls = calls; is_there = class }))
