-- Where the edges lead by which a function is called: to places after the call.
--   IsAfterCall g           a goal is such a place
use Rattle.std.proofs.Common.{◌≡◌, ◌∙◌, ℕ, ◌+◌, ◌<◌, ◌==◌, ◌&&◌, Bool, true, false, List, [], ◌∷◌, ◌++◌, length, map}
use Rattle.std.proofs.Common.{take}
use Rattle.std.proofs.Common.{cond, get_or, refl, sym, ap, subst, arith, append-nil, ◌^◌, ◌≤◌}
use Rattle.std.specs.Prelude.{if◌then◌else◌}
use Rattle.std.specs.List.{All, IsAmong, flat_map}
use Rattle.std.proofs.lemmas.Grind.{flat_map-append}
use Rattle.std.proofs.lemmas.List.{take_more}
use Rattle.std.proofs.lemmas.List.Elements.{All-nil, All-cons, All-head, All-tail, All-append, All-map, All-take}
use Rattle.pungi_code.specs.declared.code.Code.{Code}
use Rattle.pungi_code.specs.declared.instr.Instr.{Instr}
use Rattle.pungi_code.specs.declared.instr.Instr.TheVariants.{Call}
use Rattle.pungi_shape.specs.declared.point.Point.{Point}
use Rattle.pungi_shape.specs.declared.search.Found.{Found}
use Rattle.pungi_shape.specs.declared.shape.Shape.{Shape}
use Rattle.pungi_shape.specs.Classes.{AreClassLists}
use Rattle.pungi_shape.specs.Cases.{Case, Onward, within, leads_to, leaves}
use Rattle.pungi_shape.specs.Edges.{both_shapes, case_goes, cases_at, comes_back_by, edge_of, entry_scene, frees_there}
use Rattle.pungi_shape.specs.Edges.{goes_to, point_of}
use Rattle.pungi_shape.specs.Edges.{Edge, Goal, to_place, to_exit, call_edges, call_edges_by, edges_from, enters_exit}
use Rattle.pungi_shape.specs.Exits.{after_leaving, agreement, may_leave}
use Rattle.pungi_shape.specs.Found.{CallsAt, HasFewExits, calls_of, with_goal}
use Rattle.pungi_shape.specs.Found.{with_goals}
use Rattle.pungi_shape.specs.FoundEdges.{IsClassNumber}
use Rattle.pungi_shape.specs.Liveness.{instr_at}
use Rattle.pungi_shape.specs.Named.{callee_of}
use Rattle.pungi_shape.specs.Parts.{maps}
use Rattle.pungi_shape.specs.Places.{Place, at_entry, at_point, after_call, first_point, instr_in}
use Rattle.pungi_shape.specs.Programs.{Rises, all_edges, calls_from, exit_cmp, exit_number}
use Rattle.pungi_shape.specs.Reached.{shape_at}
use Rattle.pungi_shape.specs.Scenes.{scene_of}
use Rattle.pungi_shape.specs.Shapes.{exit_of, width_of}
use Rattle.pungi_shape.proofs.FoundLemmas.{get_or_any}
use Rattle.pungi_shape.proofs.GoalLemmas.{IsInside, edges-inside}
use Rattle.pungi_shape.proofs.RiseLemmas.{exit-total, rises-number}

abbrev pub IsAfterCall : Goal → Type 0
IsAfterCall (to_place (at_entry s)) = ⊥
IsAfterCall (to_place (at_point p s)) = ⊥
IsAfterCall (to_place (after_call p s e)) = Unit {0}
IsAfterCall (to_exit x) = ⊥

-- ---- the edges of one exit class

module _ (P : Edge → Type 0) (g : ℕ) (e : Shape) (each : (p : Point) (s : Shape) → P (enters_exit p s g e)) where
  one-call : (b : Bool) (p : Point) (s : Shape) → All P (if b then enters_exit p s g e ∷ [] else [])
  one-call true p s = All-cons P (enters_exit p s g e) [] (each p s) (All-nil P)
  one-call false p s = All-nil P

  calls-by : (i : Instr) (p : Point) (s : Shape) → All P (call_edges_by i p s g e)
  calls-by (Call x h as') p s = one-call ((p.done == 1) && ((h == g) && may_leave e as' (scene_of s))) p s
  calls-by i p s = All-nil P

  pub call_edges-all : (code : Code) (q : Place) → All P (call_edges code q g e)
  call_edges-all code (at_entry s) = All-nil P
  call_edges-all code (at_point p s) = calls-by (instr_at code p.instr) p s
  call_edges-all code (after_call p s x) = All-nil P

-- ---- those of several

pub all-flat : {X Y : Type 0} (P : Y → Type 0) (f : X → List Y) (xs : List X) → ((x : X) → All P (f x))
    → All P (flat_map f xs)
all-flat P f [] each = All-nil P
all-flat P f (x ∷ xs) each = All-append P (f x) (flat_map f xs) (each x) (all-flat P f xs each)

module _ (P : Edge → Type 0) (code : Code) (q : Place)
    (each : (g : ℕ) (e : Shape) (p : Point) (s : Shape) → P (enters_exit p s g e)) where
  pub calls_of-all : (g : ℕ) (xs : List Shape) → All P (calls_of code q g xs)
  calls_of-all g xs = all-flat P (call_edges code q g) xs (λ x. call_edges-all P g x (each g x) code q)

  pub calls_from-all : (others : ℕ → List Shape) → All P (calls_from code others q)
  calls_from-all others =
      all-flat P (λ g. flat_map (call_edges code q g) (others g)) (callee_of (instr_at code (instr_in q)))
      (λ g. calls_of-all g (others g))

module _ (code : Code) (q : Place) (g : ℕ) (xs : List Shape) where
  -- those of one class more
  pub calls-more : (i : ℕ) (d : Shape) → i < length xs
      → calls_of code q g (take (i + 1) xs) ≡ calls_of code q g (take i xs) ++ call_edges code q g (get_or xs i d)
  calls-more i d lt =
      let e = get_or xs i d in
      ap (calls_of code q g) (take_more xs i d lt)
      ∙ flat_map-append (call_edges code q g) (take i xs) (e ∷ [])
      ∙ ap (λ (es : List Edge). calls_of code q g (take i xs) ++ es) (append-nil (call_edges code q g e))

  -- where a class is one of a list in order, its place there is its number
  pub calls-class : (others : ℕ → List Shape) → others g ≡ xs → Rises exit_cmp xs → (i : ℕ) (d : Shape) → i < length xs
      → All (λ (e : Edge). IsClassNumber others e.change i) (call_edges code q g (get_or xs i d))
  calls-class others are rise i d lt =
      call_edges-all (λ (e : Edge). IsClassNumber others e.change i) g (get_or xs i d) (λ p s. number) code q
    where
      number : i ≡ exit_number (others g) (get_or xs i d)
      number =
          sym (ap (λ (l : List Shape). exit_number l (get_or xs i d)) are
          ∙ rises-number exit_cmp exit-total xs rise (get_or xs i d)
          (i, (lt, get_or_any xs i d (get_or xs i d) lt)))

-- ---- edges that depend on no other function

module _ (others : ℕ → List Shape) (n : ℕ) where
  abbrev HasNumber : Edge → Type 0
  HasNumber e = IsClassNumber others e.change n

  own-case : (code : Code) (p : Point) (s : Shape) (c : Case) (o : Onward) → HasNumber (case_goes code p s c o)
  own-case code p s c (within k) = tt
  own-case code p s c (leads_to pc) = tt
  own-case code p s c leaves = tt

  own-one : (e : Edge) → HasNumber e → All HasNumber (e ∷ [])
  own-one e h = All-cons HasNumber e [] h (All-nil HasNumber)

  own-back : (code : Code) (i : Instr) (pc : ℕ) (s x : Shape) → All HasNumber (comes_back_by code i pc s x)
  own-back code (Call y f as') pc s x =
      let both = both_shapes s x in
      let guard = agreement (width_of s) x as' both in
      let after = after_leaving (width_of s) x y as' both in
      own-one (goes_to code (point_of (pc + 1) 0 0) guard after) tt
  own-back code i pc s x = All-nil HasNumber

  own-point : (code : Code) (p : Point) (s : Shape) (b : Bool)
      → All HasNumber (cond b (frees_there code p s ∷ []) (map (edge_of code p s) (cases_at code p s)))
  own-point code p s true = own-one (frees_there code p s) tt
  own-point code p s false =
      All-map HasNumber (edge_of code p s) (cases_at code p s)
      (λ i d lt. let c = get_or (cases_at code p s) i d in own-case code p s c c.onward)

  pub own-class : (code : Code) (q : Place) → All HasNumber (edges_from code q)
  own-class code (at_entry s) = own-one (goes_to code first_point [] (entry_scene s)) tt
  own-class code (at_point p s) = own-point code p s (p.done == maps (instr_at code p.instr))
  own-class code (after_call p s e) = own-back code (instr_at code p.instr) p.instr s e

-- ---- goals

-- places that are noted leave the exit classes as they are
pub places-keep : (gs : List Goal) (s : Found) → All IsAfterCall gs → (with_goals gs s).exits ≡ s.exits
places-keep [] s all = refl
places-keep (to_exit x ∷ gs) s all = absurd (All-head IsAfterCall (to_exit x) gs all)
places-keep (to_place q ∷ gs) s all =
    places-keep gs (with_goal (to_place q) s) (All-tail IsAfterCall (to_place q) gs all)

pub places-few : (es : List Edge) (s : Found) → All (λ (e : Edge). IsAfterCall e.goal) es
    → length s.exits.items < 65536 → HasFewExits (map (λ (e : Edge). e.goal) es) s
places-few es s all few = λ i. (
    let gs = map (λ (e : Edge). e.goal) es in
    let same = ap (λ n. length n.items) (places-keep (take i gs) s
    (All-take IsAfterCall i gs (All-map IsAfterCall (λ (e : Edge). e.goal) es all))) in
    omega (arith, same, few)
    )

-- all edges of a place lead inside, or out by one exit class
pub all-inside : (code : Code) (others : ℕ → List Shape) (q : Place)
    → All (λ (e : Edge). IsInside (exit_of (shape_at q)) e.goal) (all_edges code others q)
all-inside code others q =
    let x = exit_of (shape_at q) in
    All-append (λ (e : Edge). IsInside x e.goal) (edges_from code q) (calls_from code others q) (edges-inside code q)
    (calls_from-all (λ (e : Edge). IsInside x e.goal) code q (λ g e p s. tt) others)

-- the edges of a place at which one function is called
pub calls-one : (code : Code) (others : ℕ → List Shape) (q : Place) (g : ℕ) → CallsAt code q g
    → all_edges code others q ≡ edges_from code q ++ calls_of code q g (others g)
calls-one code others q g at =
    ap (λ (es : List Edge). edges_from code q ++ es)
    (ap (λ (gs : List ℕ). flat_map (λ f. flat_map (call_edges code q f) (others f)) gs) at.calls
    ∙ append-nil (calls_of code q g (others g)))

-- ---- places from which no function is called

flat-none : {X Y : Type 0} (f : X → List Y) (xs : List X) → ((x : X) → f x ≡ []) → flat_map f xs ≡ []
flat-none f [] none = refl
flat-none f (x ∷ xs) none = ap (λ l. l ++ flat_map f xs) (none x) ∙ flat-none f xs none

pub entry-calls : (code : Code) (others : ℕ → List Shape) (s : Shape) → calls_from code others (at_entry s) ≡ []
entry-calls code others s =
    flat-none (λ g. flat_map (call_edges code (at_entry s) g) (others g)) (callee_of (instr_at code 0))
    (λ g. flat-none (call_edges code (at_entry s) g) (others g) (λ e. refl))

pub after-calls : (code : Code) (others : ℕ → List Shape) (p : Point) (s x : Shape)
    → calls_from code others (after_call p s x) ≡ []
after-calls code others p s x =
    flat-none (λ g. flat_map (call_edges code (after_call p s x) g) (others g)) (callee_of (instr_at code p.instr))
    (λ g. flat-none (call_edges code (after_call p s x) g) (others g) (λ e. refl))

-- a function whose number is large has no exit class
pub large-calls : (code : Code) (others : ℕ → List Shape) (q : Place) (g : ℕ) → AreClassLists others
    → callee_of (instr_at code (instr_in q)) ≡ g ∷ [] → 2 ^ 32 ≤ g → calls_from code others q ≡ []
large-calls code others q g lists calls le =
    ap (flat_map (λ f. flat_map (call_edges code q f) (others f))) calls
    ∙ append-nil (flat_map (call_edges code q g) (others g))
    ∙ ap (flat_map (call_edges code q g)) (none (others g) refl)
  where
    none : (xs : List Shape) → others g ≡ xs → xs ≡ []
    none [] e = refl
    none (x ∷ xs) e =
        let small = (lists g).small x (subst (λ (l : List Shape). IsAmong l x) (sym e) (0, (omega arith, refl))) in
        absurd (omega (arith, small, le))
