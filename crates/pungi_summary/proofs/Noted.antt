-- The table of first calls, noted edge by edge.
--   edge_first, edge_known, edge_other    one edge: the first that calls its function, another one, and one of no call
--   first_missing, first_there    what the test of the table's call tells
--   AreNotedBelow, noted_none, noted_more, noted_all    the edges of a program as far as they were noted
--   noted_below            the calls in the table are of functions up to this one
--   no_first               a table of no calls
--   place_in               the place of a call as the table has it
--   callable_within        a function that an edge calls is one of the file
use Rattle.std.proofs.Common.{◌≡◌, ◌∙◌, inl, inr, ℕ, zero, suc, ◌+◌, ◌<◌, ◌≤◌, List, length}
use Rattle.std.proofs.Common.{Option, Some, None, refl, sym, ap, subst, arith, replicate, All}
use Rattle.std.specs.Prelude.{Bool, true, false, not, is_some, slice_get, slice_set, MatchOption}
use Rattle.std.specs.List.{slice_index_or}
use Rattle.std.proofs.lemmas.Bool.{cases_eq, cases_lt}
use Rattle.std.proofs.lemmas.List.{length-set}
use Rattle.std.proofs.lemmas.Option.{slice_get_within, slice_get-get_or}
use Rattle.pungi_domain.specs.declared.action.Action.TheVariants.{Call}
use Rattle.pungi_domain.specs.declared.affine_edge.AffineEdge.{AffineEdge}
use Rattle.pungi_domain.specs.declared.affine_program.AffineProgram.{AffineProgram}
use Rattle.pungi_summary.specs.CallPlaces.{AreBelow, ArePlaces, ArePlacesOf, EdgeCalls, HasFirst, IsNoted, IsPlaceIn}
use Rattle.pungi_summary.specs.CallPlaces.{entry_of, site}
use Rattle.pungi_summary.specs.Calls.{AreCallable, CallsFrom, IsCallPlace, IsCallable, callees_of, program_of}
use Rattle.pungi_summary.specs.declared.call_site.CallSite.{CallSite}
use Rattle.pungi_summary.proofs.Lists.{get_other, get_same}

pub edge_first : (f : ℕ) (e : AffineEdge) (firsts : List (Option CallSite)) (g class : ℕ) (onto : List ℕ)
    → e.action ≡ Call g class onto → g < length firsts → ((k : ℕ) → HasFirst firsts g (site f k) → ⊥)
    → IsNoted f e firsts (slice_set firsts g (Some (site f e.from)))
edge_first f e firsts g class onto action lt none =
    let this = get_same firsts g (Some (site f e.from)) lt in
    record {
      count = length-set firsts g (Some (site f e.from));
      kept = λ h k m. elim (cases_eq h g) [
        | inl same ↦ absurd (none k (subst (λ i. HasFirst firsts i (site f k)) same m))
        | inr other ↦ get_other firsts g h (Some (site f e.from)) other ∙ m
      ];
      there = λ h calls.
          let its = calls.action in
          let same : g ≡ h = cc (action, its) in
          (e.from, subst (λ i. HasFirst (slice_set firsts g (Some (site f e.from))) i (site f e.from)) same this);
      only = λ h s m. elim (cases_eq h g) [
        | inl same ↦
            let at = subst (λ i. HasFirst (slice_set firsts g (Some (site f e.from))) i s) same m in
            let is : s ≡ site f e.from = cc (at, this) in
            inr (
              is,
              record {
                class = class;
                onto = onto;
                action = subst (λ i. e.action ≡ Call i class onto) (sym same) action;
              },
            )
        | inr other ↦ inl (sym (get_other firsts g h (Some (site f e.from)) other) ∙ m)
      ];
    }

pub edge_known : (f : ℕ) (e : AffineEdge) (firsts : List (Option CallSite)) (g class : ℕ) (onto : List ℕ) (k : ℕ)
    → e.action ≡ Call g class onto → HasFirst firsts g (site f k) → IsNoted f e firsts firsts
edge_known f e firsts g class onto k action is = record {
  count = refl;
  kept = λ h j m. m;
  there = λ h calls.
      let its = calls.action in
      let same : g ≡ h = cc (action, its) in
      (k, subst (λ i. HasFirst firsts i (site f k)) same is);
  only = λ h s m. inl m;
}

pub edge_other : (f : ℕ) (e : AffineEdge) (firsts : List (Option CallSite)) → ((g : ℕ) → EdgeCalls e g → ⊥)
    → IsNoted f e firsts firsts
edge_other f e firsts none = record {
  count = refl;
  kept = λ h j m. m;
  there = λ h calls. absurd (none h calls);
  only = λ h s m. inl m;
}

-- what the test of the table's call tells
pub first_missing : (firsts : List (Option CallSite)) (g f : ℕ) (o : Option CallSite) (q : Option ℕ) (b : Bool)
    → g < length firsts → o ≡ slice_index_or firsts g o
    → MatchOption q ((k : ℕ) → o ≡ Some (site f k) → ⊥) (λ k. o ≡ Some (site f k)) → is_some q ≡ not b → b ≡ true
    → (k : ℕ) → HasFirst firsts g (site f k) → ⊥
first_missing firsts g f o None b lt is h test holds k m =
    let at = slice_get-get_or firsts g o lt in
    h k (cc (at, is, m))
first_missing firsts g f o (Some k) b lt is h test holds j m =
    let no : true ≡ false = subst (λ x. true ≡ not x) holds test in
    absurd (cc)

pub first_there : (firsts : List (Option CallSite)) (g f : ℕ) (o : Option CallSite) (q : Option ℕ) (b : Bool)
    → g < length firsts → o ≡ slice_index_or firsts g o
    → MatchOption q ((k : ℕ) → o ≡ Some (site f k) → ⊥) (λ k. o ≡ Some (site f k)) → is_some q ≡ not b → b ≡ false
    → (k : ℕ) × HasFirst firsts g (site f k)
first_there firsts g f o None b lt is h test fails =
    let no : false ≡ true = subst (λ x. false ≡ not x) fails test in
    absurd (cc)
first_there firsts g f o (Some k) b lt is h test fails =
    (k, slice_get-get_or firsts g o lt ∙ ap Some (sym is ∙ h))

pub record AreNotedBelow (f : ℕ) (p : AffineProgram) (n : ℕ) (old new : List (Option CallSite)) : Type 0 where
  pub count : length new ≡ length old
  pub below : AreBelow new (f + 1)
  pub sound : (g k : ℕ) → HasFirst new g (site f k) → CallsFrom p k g
  pub complete : (g k : ℕ) (call : CallsFrom p k g) → call.number < n → (j : ℕ) × HasFirst new g (site f j)

pub noted_below : (f : ℕ) (firsts : List (Option CallSite)) → AreBelow firsts f → AreBelow firsts (f + 1)
noted_below f firsts h g s m = (let lt = h g s m in omega (arith, lt))

pub noted_none : (f : ℕ) (p : AffineProgram) (firsts : List (Option CallSite)) → AreBelow firsts f
    → AreNotedBelow f p 0 firsts firsts
noted_none f p firsts h = record {
  count = refl;
  below = noted_below f firsts h;
  sound = λ g k m. (let lt = h g (site f k) m in absurd (omega (arith, lt)));
  complete = λ g k call lt. absurd (omega (arith, lt));
}

pub noted_more : (f : ℕ) (p : AffineProgram) (n : ℕ) (e : AffineEdge) (old mid new : List (Option CallSite))
    → slice_get p.edges n ≡ Some e → AreNotedBelow f p n old mid → IsNoted f e mid new
    → AreNotedBelow f p (n + 1) old new
noted_more f p n e old mid new e_is before here = record {
  count = here.count ∙ before.count;
  below = λ g s m. elim (here.only g s m) [
    | inl earlier ↦ before.below g s earlier
    | inr this ↦ let same : s.caller ≡ f = ap (λ (x : CallSite). x.caller) this.0 in omega (arith, same)
  ];
  sound = λ g k m. elim (here.only g (site f k) m) [
    | inl earlier ↦ before.sound g k earlier
    | inr this ↦ record {
      number = n;
      edge = e;
      edge_is = e_is;
      from = sym (ap (λ (x : CallSite). x.place) this.0);
      class = this.1.class;
      onto = this.1.onto;
      action = this.1.action;
    }
  ];
  complete = λ g k call lt. elim (cases_lt call.number n) [
    | inl less ↦ let h = before.complete g k call less in (h.0, here.kept g h.0 h.1)
    | inr from ↦
        let same : call.number ≡ n = omega arith in
        let at = subst (λ i. slice_get p.edges i ≡ Some call.edge) same call.edge_is in
        let this : call.edge ≡ e = cc (at, e_is) in
        here.there g (record {
          class = call.class;
          onto = call.onto;
          action = ap (λ (x : AffineEdge). x.action) (sym this) ∙ call.action;
        })
  ];
}

pub noted_all : (f : ℕ) (p : AffineProgram) (n : ℕ) (old new : List (Option CallSite)) → length p.edges ≤ n
    → AreNotedBelow f p n old new → ArePlaces f p new
noted_all f p n old new le h = record {
  sound = h.sound;
  complete = λ g k call.
      let lt = slice_get_within p.edges call.number call.edge call.edge_is in
      h.complete g k call (omega (arith, lt, le));
}

pub no_first : (n g : ℕ) (s : CallSite) → HasFirst (replicate {A = Option CallSite} n None) g s → ⊥
no_first zero g s m = absurd (cc)
no_first (suc n) zero s m = absurd (cc)
no_first (suc n) (suc g) s m = no_first n g s m

pub place_in : (f : ℕ) (o : Option AffineProgram) (firsts : List (Option CallSite)) → ArePlacesOf f o firsts
    → (g k : ℕ) → IsPlaceIn firsts f (entry_of o) g k → IsCallPlace o k g
place_in f None firsts h g k (inl m) = absurd (h g k m)
place_in f None firsts h g k (inr m) = m.1
place_in f (Some p) firsts h g k (inl m) = inl (h.sound g k m)
place_in f (Some p) firsts h g k (inr m) = inr (λ j call. (let t = h.complete g j call in m.0 t.0 t.1), m.1)

pub callable_within : (ps : List (Option AffineProgram)) (callees : List (List ℕ)) (f n : ℕ) (p : AffineProgram)
    → AreCallable ps callees → program_of ps f ≡ Some p → n ≡ length ps
    → All (λ e. (g : ℕ) → EdgeCalls e g → g < n) p.edges
callable_within ps callees f n p callable is count = λ k d lt g calls.
    let h : IsCallable ps (callees_of callees f) (Call g calls.class calls.onto) =
    subst (IsCallable ps (callees_of callees f)) calls.action (callable.calls f p is k d lt) in
    let within = callable.below f g h.0 in
    omega (arith, within, count)
