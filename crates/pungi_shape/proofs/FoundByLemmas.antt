-- What is found where called functions leave by given exit classes alone, and what is found.
--   AreLeft codes others f  these classes of functions that it calls are found
--   AreAllLeft codes others f    what is found of functions that it calls is among these
use Rattle.std.proofs.Common.{◌≡◌, ◌⊎◌, inl, inr, ℕ, Bool, true, false, List, [], ◌∷◌, Some, refl}
use Rattle.std.proofs.Common.{ap, subst}
use Rattle.std.specs.Prelude.{◌==◌, ◌&&◌, if◌then◌else◌}
use Rattle.std.specs.List.{All, IsAmong, flat_map}
use Rattle.std.proofs.lemmas.Bool.Decides.{eqb_tells}
use Rattle.std.proofs.lemmas.List.Elements.{All-weaker}
use Rattle.pungi_code.specs.declared.code.Code.{Code}
use Rattle.pungi_code.specs.declared.code.Codes.{Codes}
use Rattle.pungi_code.specs.declared.instr.Instr.{Instr}
use Rattle.pungi_code.specs.declared.instr.Instr.TheVariants.{Call}
use Rattle.pungi_code.specs.Run.{code_at}
use Rattle.pungi_shape.specs.declared.point.Point.{Point}
use Rattle.pungi_shape.specs.declared.shape.Shape.{Shape}
use Rattle.pungi_shape.specs.Edges.{Edge, Goal, to_place, to_exit, call_edges, call_edges_by, edges_from}
use Rattle.pungi_shape.specs.Edges.{enters_exit}
use Rattle.pungi_shape.specs.Exits.{may_leave}
use Rattle.pungi_shape.specs.FoundBy.{IsFoundBy, IsLargeBy, LeadsBy}
use Rattle.pungi_shape.specs.FoundBy.{enters as enters_by, goes as goes_by}
use Rattle.pungi_shape.specs.Liveness.{instr_at}
use Rattle.pungi_shape.specs.Named.{callee_of, callees_of, statics_of}
use Rattle.pungi_shape.specs.Places.{Place, at_entry, at_point, after_call, entry_shapes, instr_in}
use Rattle.pungi_shape.specs.Programs.{AreExits, CallsBy, HasManyPlaces, HasWidePlace, IsFound, IsTooLarge}
use Rattle.pungi_shape.specs.Programs.{calls, calls_from, enters, goes}
use Rattle.pungi_shape.specs.Scenes.{scene_of}
use Rattle.pungi_shape.proofs.CalleeLemmas.{instr-called}
use Rattle.pungi_shape.proofs.sound.InOrder.{among_some}
use Rattle.pungi_shape.proofs.sound.Members.{among_append, among_each, among_left, among_right, first_among}
use Rattle.pungi_shape.proofs.sound.Members.{nothing_in, of_all}
use Rattle.pungi_shape.proofs.sound.Reaches.{from_itself}

pub record AreLeft (codes : Codes) (others : ℕ → List Shape) (f : ℕ) : Type 0 where
  pub found : (h : ℕ) (x : Shape) → IsAmong (callees_of codes f) h → IsAmong (others h) x → IsFound codes h (to_exit x)

pub record AreAllLeft (codes : Codes) (others : ℕ → List Shape) (f : ℕ) : Type 0 where
  pub all : (h : ℕ) (x : Shape) → IsAmong (callees_of codes f) h → IsFound codes h (to_exit x) → IsAmong (others h) x

-- ---- edges of calls

-- an edge by which a function is called is that of an instruction that calls it
by-calls : (i : Instr) (p : Point) (s : Shape) (h : ℕ) (x : Shape) (e : Edge) → IsAmong (call_edges_by i p s h x) e
    → IsAmong (callee_of i) h
by-calls (Call y g as') p s h x e there = elim (eqb_tells g h) [
  | inl same ↦ subst (IsAmong (g ∷ [])) same.1 (first_among g [])
  | inr differ ↦
      let not : ((p.done == 1) && ((g == h) && may_leave x as' (scene_of s))) ≡ false =
      none (p.done == 1) (g == h) (may_leave x as' (scene_of s)) differ.0 in
      absurd (nothing_in e (subst (λ es. IsAmong es e)
      (ap (λ (b : Bool). if b then enters_exit p s h x ∷ [] else []) not) there))
]
  where
    none : (a b c : Bool) → b ≡ false → (a && (b && c)) ≡ false
    none true b c e = ap (λ d. d && c) e
    none false b c e = refl
by-calls i p s h x e there = absurd (nothing_in e there)

pub edge-calls : (code : Code) (q : Place) (h : ℕ) (x : Shape) (e : Edge) → IsAmong (call_edges code q h x) e
    → IsAmong (callee_of (instr_at code (instr_in q))) h
edge-calls code (at_entry s) h x e there = absurd (nothing_in e there)
edge-calls code (after_call p s y) h x e there = absurd (nothing_in e there)
edge-calls code (at_point p s) h x e there = by-calls (instr_at code p.instr) p s h x e there

-- ---- one way

module _ (codes : Codes) (others : ℕ → List Shape) (f : ℕ) (left : AreLeft codes others f) where
  left-goes : (code : Code) (q : Place) (g : Goal) → code_at codes f ≡ Some code → IsFound codes f (to_place q)
      → LeadsBy code others q g → IsFound codes f g
  left-goes code q g is_code found by =
      elim (among_append (edges_from code q) (calls_from code others q) by.edge by.is_there) [
        | inl own ↦ goes f code q g is_code found (record { edge = by.edge; is_there = own; goal = by.goal })
        | inr call ↦
            let some = among_some (λ (h : ℕ). flat_map (call_edges code q h) (others h))
            (callee_of (instr_at code (instr_in q))) by.edge call in
            let class = among_some (call_edges code q some.0) (others some.0) by.edge some.1.1 in
            let called = instr-called codes f some.0 (instr_in q) code is_code some.1.0 in
            calls f some.0 code q class.0 g is_code found (left.found some.0 class.0 called class.1.0)
            (record { edge = by.edge; is_there = class.1.1; goal = by.goal })
      ]

  pub left-found : (g : Goal) → IsFoundBy codes others f g → IsFound codes f g
  left-found _ (enters_by code s is_code among) = enters f code s is_code among
  left-found _ (goes_by code q g is_code found by) =
      left-goes code q g is_code (left-found (to_place q) found) by

  pub left-large : IsLargeBy codes others f → HasManyPlaces codes f ⊎ HasWidePlace codes f
  left-large (inl many) =
      inl (record {
        places = many.places;
        rise = many.rise;
        found = All-weaker (λ q. IsFoundBy codes others f (to_place q)) (λ q. IsFound codes f (to_place q))
            (λ q by. left-found (to_place q) by) many.places many.found;
        many = many.many;
      })
  left-large (inr wide) =
      inr (record { place = wide.place; found = left-found (to_place wide.place) wide.found; wide = wide.wide })

  pub left-too_large : IsLargeBy codes others f → IsTooLarge codes f
  left-too_large large = record { function = f; is_called = from_itself codes f; large = left-large large }

-- ---- the other way

module _ (codes : Codes) (others : ℕ → List Shape) (f : ℕ) (left : AreAllLeft codes others f) where
  left-leads : (code : Code) (q : Place) (h : ℕ) (x : Shape) (g : Goal) → code_at codes f ≡ Some code
      → IsFound codes h (to_exit x) → CallsBy code q h x g → LeadsBy code others q g
  left-leads code q h x g is_code found by =
      let callee = edge-calls code q h x by.edge by.is_there in
      let called = instr-called codes f h (instr_in q) code is_code callee in
      record {
        edge = by.edge;
        is_there = among_right (edges_from code q) (calls_from code others q) by.edge
            (among_each (λ (k : ℕ). flat_map (call_edges code q k) (others k)) (callee_of (instr_at code (instr_in q)))
            h by.edge callee
            (among_each (call_edges code q h) (others h) x by.edge (left.all h x called found) by.is_there));
        goal = by.goal;
      }

  all-at : (h : ℕ) (g : Goal) → IsFound codes h g → h ≡ f → IsFoundBy codes others f g
  all-at _ _ (enters h code s is_code among) e =
      enters_by code s (subst (λ k. code_at codes k ≡ Some code) e is_code)
      (subst (λ k. IsAmong (entry_shapes (statics_of codes k) code) s) e among)
  all-at _ _ (goes h code q g is_code found leads) e =
      goes_by code q g (subst (λ k. code_at codes k ≡ Some code) e is_code) (all-at h (to_place q) found e)
      (record {
        edge = leads.edge;
        is_there = among_left (edges_from code q) (calls_from code others q) leads.edge leads.is_there;
        goal = leads.goal;
      })
  all-at _ _ (calls h k code q x g is_code found exit by) e =
      let here = subst (λ n. code_at codes n ≡ Some code) e is_code in
      goes_by code q g here (all-at h (to_place q) found e) (left-leads code q k x g here exit by)

  pub all-found_by : (g : Goal) → IsFound codes f g → IsFoundBy codes others f g
  all-found_by g found = all-at f g found refl

  pub all-large_by : HasManyPlaces codes f ⊎ HasWidePlace codes f → IsLargeBy codes others f
  all-large_by (inl many) =
      inl (record {
        places = many.places;
        rise = many.rise;
        found = All-weaker (λ q. IsFound codes f (to_place q)) (λ q. IsFoundBy codes others f (to_place q))
            (λ q found. all-found_by (to_place q) found) many.places many.found;
        many = many.many;
      })
  all-large_by (inr wide) =
      inr (record { place = wide.place; found = all-found_by (to_place wide.place) wide.found; wide = wide.wide })

-- ---- where these are the exit classes of all that it calls

module _ (codes : Codes) (others : ℕ → List Shape) (f : ℕ)
    (are : All (λ g. AreExits codes g (others g)) (callees_of codes f)) where
  exits-of : (h : ℕ) → IsAmong (callees_of codes f) h → AreExits codes h (others h)
  exits-of h called = of_all (λ g. AreExits codes g (others g)) (callees_of codes f) h are called

  exits-left : AreLeft codes others f
  exits-left = record {
    found = λ h x called there.
        of_all (λ y. IsFound codes h (to_exit y)) (others h) x (exits-of h called).found there;
  }

  exits-all : AreAllLeft codes others f
  exits-all = record { all = λ h x called found. (exits-of h called).all x found }

  pub found-by : (g : Goal) → IsFoundBy codes others f g → IsFound codes f g
  found-by g by = left-found codes others f exits-left g by

  pub by-found : (g : Goal) → IsFound codes f g → IsFoundBy codes others f g
  by-found g found = all-found_by codes others f exits-all g found

  pub large-by : IsLargeBy codes others f → HasManyPlaces codes f ⊎ HasWidePlace codes f
  large-by large = left-large codes others f exits-left large

  pub by-large : HasManyPlaces codes f ⊎ HasWidePlace codes f → IsLargeBy codes others f
  by-large large = all-large_by codes others f exits-all large
