-- Exit classes of functions: in order; where some are known; and what is found by more of them.
use Rattle.std.proofs.Common.{◌≡◌, ◌∙◌, inl, inr, ℕ, suc, ◌<◌, ◌≤◌, Bool, true, false, List, [], ◌∷◌, ◌++◌, length}
use Rattle.std.proofs.Common.{Option, Some, None, slice_get, refl, sym, ap, subst, arith, not, MatchBool}
use Rattle.std.specs.List.{All, IsAmong, flat_map}
use Rattle.std.specs.declared.cmp.Ordering.TheVariants.{Less}
use Rattle.std.proofs.lemmas.List.Elements.{All-nil}
use Rattle.std.proofs.lemmas.Option.{slice_get-get_or}
use Rattle.pungi_code.specs.declared.code.Code.{Code}
use Rattle.pungi_code.specs.declared.code.Codes.{Codes}
use Rattle.pungi_code.specs.Run.{code_at}
use Rattle.pungi_shape.specs.declared.shape.Shape.{Shape}
use Rattle.pungi_shape.specs.AllClasses.{AreFoundClasses, HasClasses, HaveCallees}
use Rattle.pungi_shape.specs.Classes.{AreClasses, AreClassesOf, ClassLists, IsClassOf, classes_of, has_list, list_of}
use Rattle.pungi_shape.specs.Edges.{Goal, to_place, call_edges, edges_from}
use Rattle.pungi_shape.specs.FoundBy.{IsFoundBy, LeadsBy, enters as enters_by, goes as goes_by}
use Rattle.pungi_shape.specs.Liveness.{instr_at}
use Rattle.pungi_shape.specs.Named.{callee_of, callees_of}
use Rattle.pungi_shape.specs.Places.{Place, instr_in}
use Rattle.pungi_shape.specs.Programs.{IsTooLarge, Rises, calls_from, exit_cmp}
use Rattle.pungi_shape.proofs.CalleeLemmas.{instr-called}
use Rattle.pungi_shape.proofs.RiseLemmas.{exit-total, no-loop, rises-shorter}
use Rattle.pungi_shape.proofs.sound.InOrder.{among_some}
use Rattle.pungi_shape.proofs.sound.Members.{all_among, among_append, among_each, among_left, among_right, first_among}
use Rattle.pungi_shape.proofs.sound.Members.{later_among, nothing_in, of_all, one_of}
use Rattle.pungi_shape.proofs.sound.Reaches.{from_callee}

-- ---- classes in order

rises-tail : (x : Shape) (xs : List Shape) → Rises exit_cmp (x ∷ xs) → Rises exit_cmp xs
rises-tail x xs rise i j d lt below = rise (suc i) (suc j) d (omega (arith, lt)) (omega (arith, below))

rises-head : (x : Shape) (xs : List Shape) (y : Shape) → Rises exit_cmp (x ∷ xs) → IsAmong xs y → exit_cmp x y ≡ Less
rises-head x xs y rise there =
    ap (exit_cmp x) there.1.1 ∙ rise 0 (suc there.0) y (omega arith) (let lt = there.1.0 in omega (arith, lt))

not-less : (x : Shape) → exit_cmp x x ≡ Less → ⊥
not-less x e = no-loop exit_cmp exit-total x x e e

-- all of one list are in another, which isn't longer: so it has no others
pub rises-full : (xs ys : List Shape) → Rises exit_cmp xs → Rises exit_cmp ys → All (IsAmong ys) xs
    → length ys ≤ length xs → (y : Shape) → IsAmong ys y → IsAmong xs y
rises-full xs [] one two all le y there = absurd (nothing_in y there)
rises-full [] (z ∷ ys) one two all le y there = absurd (omega (arith, le))
rises-full (x ∷ xs) (z ∷ ys) one two all le y there =
    elim (one_of z ys x (of_all (IsAmong (z ∷ ys)) (x ∷ xs) x all (first_among x xs))) [
      | inl same ↦
          let rest : All (IsAmong ys) xs = all_among (IsAmong ys) xs (λ w here.
          elim (one_of z ys w (of_all (IsAmong (z ∷ ys)) (x ∷ xs) w all (later_among x xs w here))) [
            | inl e ↦
                absurd (not-less x (subst (λ v. exit_cmp x v ≡ Less) (e ∙ sym same) (rises-head x xs w one here)))
            | inr later ↦ later
          ]) in
          elim (one_of z ys y there) [
            | inl e ↦ (0, (omega arith, e ∙ sym same))
            | inr later ↦
                later_among x xs y (rises-full xs ys (rises-tail x xs one) (rises-tail z ys two) rest
                (omega (arith, le)) y later)
          ]
      | inr below ↦
          let less : exit_cmp z x ≡ Less = rises-head z ys x two below in
          let every : All (IsAmong ys) (x ∷ xs) = all_among (IsAmong ys) (x ∷ xs) (λ w here.
          elim (one_of z ys w (of_all (IsAmong (z ∷ ys)) (x ∷ xs) w all here)) [
            | inr later ↦ later
            | inl e ↦ elim (one_of x xs w here) [
              | inl first ↦
                  absurd (not-less z (subst (λ v. exit_cmp z v ≡ Less) (sym first ∙ e) less))
              | inr later ↦
                  absurd (no-loop exit_cmp exit-total z x less
                  (subst (λ v. exit_cmp x v ≡ Less) e (rises-head x xs w one later)))
            ]
          ]) in
          let short = rises-shorter exit_cmp exit-total (x ∷ xs) ys one (rises-tail z ys two) every in
          absurd (omega (arith, short, le))
    ]

-- ---- lists of classes

pub no-classes : (codes : Codes) (g : ℕ) → AreClassesOf codes g []
no-classes codes g = record {
  rise = λ i j d lt below. absurd (omega (arith, below));
  each = All-nil (IsClassOf codes g);
  few = omega arith;
}

pub all-classes : (codes : Codes) (cs : ClassLists)
    → ((g : ℕ) (xs : List Shape) → slice_get cs g ≡ Some (Some xs) → AreFoundClasses codes g xs)
    → AreClasses codes (classes_of cs)
all-classes codes cs known g = at (slice_get cs g) refl
  where
    at : (o : Option (Option (List Shape))) → slice_get cs g ≡ o → AreClassesOf codes g (list_of o)
    at None e = no-classes codes g
    at (Some None) e = no-classes codes g
    at (Some (Some xs)) e = (known g xs e).classes

has-classes : (codes : Codes) (cs : ClassLists) (g : ℕ) (o : Option (Option (List Shape))) → slice_get cs g ≡ o
    → ((xs : List Shape) → slice_get cs g ≡ Some (Some xs) → AreFoundClasses codes g xs) → has_list o ≡ true
    → HasClasses codes cs g
has-classes codes cs g None e known has = absurd (cc)
has-classes codes cs g (Some None) e known has = absurd (cc)
has-classes codes cs g (Some (Some xs)) e known has = (xs, (e, known xs e))

pub have-callees : (codes : Codes) (cs : ClassLists) (f : ℕ)
    → ((g : ℕ) (xs : List Shape) → slice_get cs g ≡ Some (Some xs) → AreFoundClasses codes g xs)
    → ((g : ℕ) → IsAmong (callees_of codes f) g → has_list (slice_get cs g) ≡ true) → HaveCallees codes cs f
have-callees codes cs f known all g called =
    has-classes codes cs g (slice_get cs g) refl (known g) (all g called)

-- a function that calls one without a list
pub callee-large : (codes : Codes) (f g : ℕ) → IsAmong (callees_of codes f) g → IsTooLarge codes g → IsTooLarge codes f
callee-large codes f g called large = record {
  function = large.function;
  is_called = from_callee codes f g large.function called large.is_called;
  large = large.large;
}

pub lacks-large : (codes : Codes) (cs : ClassLists) (g : ℕ) → g < length cs
    → (slice_get cs g ≡ Some None → IsTooLarge codes g) → has_list (slice_get cs g) ≡ false → IsTooLarge codes g
lacks-large codes cs g lt large lacks = at (slice_get cs g) refl lacks
  where
    at : (o : Option (Option (List Shape))) → slice_get cs g ≡ o → has_list o ≡ false → IsTooLarge codes g
    at None e no_list =
        (let there = slice_get-get_or cs g None lt in absurd (cc (there, e)))
    at (Some None) e no_list = large e
    at (Some (Some xs)) e no_list = absurd (cc)

-- ---- more classes of those that are called

module _ (codes : Codes) (others more : ℕ → List Shape) (f : ℕ)
    (grown : (h : ℕ) (x : Shape) → IsAmong (callees_of codes f) h → IsAmong (others h) x → IsAmong (more h) x) where
  by-leads : (code : Code) (q : Place) (g : Goal) → code_at codes f ≡ Some code → LeadsBy code others q g
      → LeadsBy code more q g
  by-leads code q g is_code by = record {
    edge = by.edge;
    is_there = elim (among_append (edges_from code q) (calls_from code others q) by.edge by.is_there) [
      | inl own ↦ among_left (edges_from code q) (calls_from code more q) by.edge own
      | inr call ↦
          let callees = callee_of (instr_at code (instr_in q)) in
          let some = among_some (λ (h : ℕ). flat_map (call_edges code q h) (others h)) callees by.edge call in
          let class = among_some (call_edges code q some.0) (others some.0) by.edge some.1.1 in
          let called = instr-called codes f some.0 (instr_in q) code is_code some.1.0 in
          among_right (edges_from code q) (calls_from code more q) by.edge
          (among_each (λ (h : ℕ). flat_map (call_edges code q h) (more h)) callees some.0 by.edge some.1.0
          (among_each (call_edges code q some.0) (more some.0) class.0 by.edge
          (grown some.0 class.0 called class.1.0) class.1.1))
    ];
    goal = by.goal;
  }

  pub by-more : (g : Goal) → IsFoundBy codes others f g → IsFoundBy codes more f g
  by-more _ (enters_by code s is_code among) = enters_by code s is_code among
  by-more _ (goes_by code q g is_code found by) =
      goes_by code q g is_code (by-more (to_place q) found) (by-leads code q g is_code by)

-- ---- calls of functions without a list

abbrev pub CallsLacking : ClassLists → List ℕ → Type 0
CallsLacking cs gs = (g : ℕ) × IsAmong gs g × (has_list (slice_get cs g) ≡ false)

abbrev pub CallsListed : ClassLists → List ℕ → Type 0
CallsListed cs gs = (g : ℕ) → IsAmong gs g → has_list (slice_get cs g) ≡ true

pub line-lacks : (cs : ClassLists) (gs : List ℕ) (g : ℕ) (h : Bool) → gs ≡ g ∷ [] → h ≡ has_list (slice_get cs g)
    → MatchBool (not h) (CallsLacking cs gs) (CallsListed cs gs)
line-lacks cs gs g true e is = λ k there. elim (one_of g [] k (subst (λ hs. IsAmong hs k) e there)) [
  | inl same ↦ subst (λ n. has_list (slice_get cs n) ≡ true) (sym same) (sym is)
  | inr rest ↦ absurd (nothing_in k rest)
]
line-lacks cs gs g false e is = (g, subst (λ hs. IsAmong hs g) (sym e) (first_among g []), sym is)

pub lacks-among : (cs : ClassLists) (gs hs : List ℕ) → ((g : ℕ) → IsAmong gs g → IsAmong hs g)
    → CallsLacking cs gs → CallsLacking cs hs
lacks-among cs gs hs to lacks = (lacks.0, to lacks.0 lacks.1, lacks.2)

pub listed-both : (cs : ClassLists) (gs hs : List ℕ) → CallsListed cs gs → CallsListed cs hs
    → CallsListed cs (gs ++ hs)
listed-both cs gs hs one two g there = elim (among_append gs hs g there) [
  | inl first ↦ one g first
  | inr second ↦ two g second
]

pub listed-is : (o : Option (Option (List Shape))) → has_list o ≡ true → (xs : List Shape) × (o ≡ Some (Some xs))
listed-is None e = absurd (cc)
listed-is (Some None) e = absurd (cc)
listed-is (Some (Some xs)) e = (xs, refl)
