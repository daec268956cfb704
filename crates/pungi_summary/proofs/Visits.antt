-- Ways that are given to callers.
--   ways_none, ways_more   the ways at first, function by function
--   way_missing, way_there, start_is    what a test tells
--   visited_old, visited_new    one caller
--   AreVisitedBelow, visited_none, visited_more, visited_all    the callers of sites as far as they were visited
use Rattle.std.proofs.Common.{◌≡◌, ◌∙◌, ◌⊎◌, inl, inr, ℕ, ◌+◌, ◌<◌, ◌≤◌, Bool, List, [], ◌∷◌, ◌++◌, length}
use Rattle.std.proofs.Common.{get_or}
use Rattle.std.proofs.Common.{Option, Some, None, refl, sym, ap, subst, arith}
use Rattle.std.specs.Prelude.{is_some, not, slice_get, slice_set, true, false}
use Rattle.std.specs.List.{Contains, slice_index_or}
use Rattle.std.proofs.lemmas.Bool.{cases_eq, cases_lt}
use Rattle.std.proofs.lemmas.List.{length-set}
use Rattle.std.proofs.lemmas.List.Sums.{sum_by-set}
use Rattle.std.proofs.lemmas.Option.{slice_get_within, get_or_from_slice_get, slice_get-get_or}
use Rattle.pungi_links.specs.Pending.{PendingState, Puts}
use Rattle.pungi_links.specs.Ring.{Stands}
use Rattle.pungi_summary.specs.CallPlaces.{site}
use Rattle.pungi_summary.specs.Ways.{AreVisited, HasWay, IsStart, IsVisited, missing, to_find}
use Rattle.pungi_summary.specs.declared.call_site.CallSite.{CallSite}
use Rattle.pungi_summary.specs.declared.way.Way.{Way}
use Rattle.pungi_summary.proofs.Lists.{get_kept, get_last, get_other, get_push, get_same, length_more, put}
use Rattle.pungi_summary.proofs.Lists.{read_default}

pub record AreFirstWays (starts : List Bool) (n : ℕ) (ways : List (Option Way)) : Type 0 where
  pub count : length ways ≡ n
  pub sound : (f : ℕ) (w : Way) → slice_get ways f ≡ Some (Some w) → (f ≡ w.origin) × IsStart starts f
  pub there : (f : ℕ) → f < n → IsStart starts f → HasWay ways f

pub ways_none : (starts : List Bool) → AreFirstWays starts 0 []
ways_none starts = record {
  count = refl;
  sound = λ f w is. absurd (cc);
  there = λ f lt. absurd (omega (arith, lt));
}

pub ways_start : (starts : List Bool) (n place : ℕ) (ways : List (Option Way)) → IsStart starts n
    → AreFirstWays starts n ways
    → AreFirstWays starts (n + 1) (ways ++ Some (record { origin = n; place = place }) ∷ [])
ways_start starts n place ways start before =
    let w : Way = record { origin = n; place = place } in
    let count = before.count in
    record {
      count = length_more ways (Some w) ∙ ap (λ k. k + 1) count;
      sound = λ f x is. elim (get_push ways (Some w) f (Some x) is) [
        | inl old ↦ before.sound f x old
        | inr last ↦
            let same = last.1 in
            let this : x ≡ w = cc in
            let number : f ≡ n = last.0 ∙ count in
            (number ∙ sym (ap (λ (y : Way). y.origin) this), subst (IsStart starts) (sym number) start)
      ];
      there = λ f lt is. elim (cases_lt f n) [
        | inl less ↦ let h = before.there f less is in (h.0, get_kept ways (Some w) (Some h.0) f h.1)
        | inr from ↦
            let number : f ≡ length ways = omega (arith, count) in
            (w, subst (λ i. slice_get (ways ++ Some w ∷ []) i ≡ Some (Some w)) (sym number) (get_last ways (Some w)))
      ];
    }

pub ways_other : (starts : List Bool) (n : ℕ) (ways : List (Option Way)) → (IsStart starts n → ⊥)
    → AreFirstWays starts n ways → AreFirstWays starts (n + 1) (ways ++ None ∷ [])
ways_other starts n ways other before =
    let count = before.count in
    record {
      count = length_more ways None ∙ ap (λ k. k + 1) count;
      sound = λ f x is. elim (get_push ways None f (Some x) is) [
        | inl old ↦ before.sound f x old
        | inr last ↦ let same = last.1 in absurd (cc)
      ];
      there = λ f lt is. elim (cases_lt f n) [
        | inl less ↦ let h = before.there f less is in (h.0, get_kept ways None (Some h.0) f h.1)
        | inr from ↦
            let number : f ≡ n = omega arith in
            absurd (other (subst (IsStart starts) number is))
      ];
    }

pub visited_old : (caller place origin : ℕ) (ways : List (Option Way)) (list : List ℕ) (w : Way)
    → slice_get ways caller ≡ Some (Some w) → IsVisited caller place origin ways ways list list
visited_old caller place origin ways list w is = record {
  count = refl;
  kept = λ f x h. h;
  there = (w, is);
  only = λ f x h. inl h;
  waits = λ f h. h;
  work = omega arith;
}

pub visited_new : (caller place origin : ℕ) (ways : List (Option Way)) (old new : PendingState) (r : Bool)
    → slice_get ways caller ≡ Some None → Puts old caller new r
    → IsVisited caller place origin ways (slice_set ways caller (Some (record { origin = origin; place = place })))
    old.list new.list
visited_new caller place origin ways old new r none puts =
    let w : Way = record { origin = origin; place = place } in
    let s = put old caller new r puts in
    let lt = slice_get_within ways caller None none in
    record {
      count = length-set ways caller (Some w);
      kept = λ f x h. elim (cases_eq f caller) [
        | inl same ↦
            let at : slice_get ways caller ≡ Some (Some x) = subst (λ i. slice_get ways i ≡ Some (Some x)) same h in
            absurd (cc (at, none))
        | inr other ↦ get_other ways caller f (Some w) other ∙ h
      ];
      there = (w, get_same ways caller (Some w) lt);
      only = λ f x h. elim (cases_eq f caller) [
        | inl same ↦
            let at : slice_get (slice_set ways caller (Some w)) caller ≡ Some (Some x) = subst
            (λ i. slice_get (slice_set ways caller (Some w)) i ≡ Some (Some x)) same h in
            let put_there = get_same ways caller (Some w) lt in
            inr (same, cc (at, put_there), subst (λ i. Stands i new.list) (sym same) s.there)
        | inr other ↦ inl (sym (get_other ways caller f (Some w) other) ∙ h)
      ];
      waits = s.kept;
      work =
          let e = sum_by-set missing ways caller (Some w) None lt in
          let at : get_or ways caller None ≡ None = get_or_from_slice_get ways caller None None none in
          let one = ap missing at in
          let more = s.one in
          omega (arith, e, one, more);
    }

pub record AreVisitedBelow (sites : List CallSite) (n origin : ℕ) (old new : List (Option Way)) (list list' : List ℕ)
    : Type 0 where
  pub count : length new ≡ length old
  pub kept : (f : ℕ) (w : Way) → slice_get old f ≡ Some (Some w) → slice_get new f ≡ Some (Some w)
  pub there : (j : ℕ) (s : CallSite) → j < n → slice_index_or sites j s ≡ s → HasWay new s.caller
  pub only : (f : ℕ) (w : Way) → slice_get new f ≡ Some (Some w) → (slice_get old f ≡ Some (Some w))
      ⊎ (Contains sites (site f w.place) × (w.origin ≡ origin) × Stands f list')
  pub waits : (f : ℕ) → Stands f list → Stands f list'
  pub work : to_find new + length list' ≤ to_find old + length list

pub visited_none : (sites : List CallSite) (origin : ℕ) (ways : List (Option Way)) (list : List ℕ)
    → AreVisitedBelow sites 0 origin ways ways list list
visited_none sites origin ways list = record {
  count = refl;
  kept = λ f w h. h;
  there = λ j s lt. absurd (omega (arith, lt));
  only = λ f w h. inl h;
  waits = λ f h. h;
  work = omega arith;
}

pub visited_more : (sites : List CallSite) (n origin : ℕ) (s : CallSite) (old mid new : List (Option Way))
    (list list' list'' : List ℕ) → n < length sites → s ≡ slice_index_or sites n s
    → AreVisitedBelow sites n origin old mid list list' → IsVisited s.caller s.place origin mid new list' list''
    → AreVisitedBelow sites (n + 1) origin old new list list''
visited_more sites n origin s old mid new list list' list'' lt is before here = record {
  count = here.count ∙ before.count;
  kept = λ f w h. here.kept f w (before.kept f w h);
  there = λ j t below at. elim (cases_lt j n) [
    | inl less ↦ let h = before.there j t less at in (h.0, here.kept t.caller h.0 h.1)
    | inr from ↦
        let number : j ≡ n = omega arith in
        let same : t ≡ s = site_same sites j n t s lt number at is in
        subst (λ (x : CallSite). HasWay new x.caller) (sym same) here.there
  ];
  only = λ f w h. elim (here.only f w h) [
    | inl earlier ↦ elim (before.only f w earlier) [
      | inl first ↦ inl first
      | inr by ↦ inr (by.0, by.1, here.waits f by.2)
    ]
    | inr this ↦
        let its_place = ap (λ (x : Way). x.place) this.1 in
        inr (
          subst (λ (x : CallSite). Contains sites x) (same_site f s w its_place this.0) (n, lt, sym is),
          ap (λ (x : Way). x.origin) this.1,
          this.2,
        )
  ];
  waits = λ f h. here.waits f (before.waits f h);
  work = (let a = here.work in let b = before.work in omega (arith, a, b));
}
  where
    site_same : (sites : List CallSite) (j n : ℕ) (t s : CallSite) → n < length sites → j ≡ n
        → slice_index_or sites j t ≡ t → s ≡ slice_index_or sites n s → t ≡ s
    site_same sites j n t s lt number at is =
        sym at ∙ (ap (λ i. slice_index_or sites i t) number ∙ (read_default sites n t s lt ∙ sym is))

    same_site : (f : ℕ) (s : CallSite) (w : Way) → w.place ≡ s.place → f ≡ s.caller → s ≡ site f w.place
    same_site f s w place caller =
        sym (ap (λ c. site c w.place) caller ∙ ap (λ k. site s.caller k) place)

pub visited_all : (sites : List CallSite) (n origin : ℕ) (old new : List (Option Way)) (list list' : List ℕ)
    → length sites ≤ n → AreVisitedBelow sites n origin old new list list'
    → AreVisited sites origin old new list list'
visited_all sites n origin old new list list' le h = record {
  count = h.count;
  kept = h.kept;
  there = λ f k m. (let lt = m.1 in h.there m.0 (site f k) (omega (arith, lt, le)) m.2);
  only = h.only;
  waits = h.waits;
  work = h.work;
}

-- what testing the way of a caller tells
pub way_missing : (ways : List (Option Way)) (k : ℕ) (o : Option Way) (b : Bool) → k < length ways
    → o ≡ slice_index_or ways k o → is_some o ≡ not b → b ≡ true → slice_get ways k ≡ Some None
way_missing ways k None b lt is test holds = slice_get-get_or ways k None lt ∙ ap Some (sym is)
way_missing ways k (Some w) b lt is test holds =
    let no : true ≡ false = subst (λ x. true ≡ not x) holds test in
    absurd (cc)

pub way_there : (ways : List (Option Way)) (k : ℕ) (o : Option Way) (b : Bool) → k < length ways
    → o ≡ slice_index_or ways k o → is_some o ≡ not b → b ≡ false → HasWay ways k
way_there ways k (Some w) b lt is test fails = (w, slice_get-get_or ways k (Some w) lt ∙ ap Some (sym is))
way_there ways k None b lt is test fails =
    let no : false ≡ true = subst (λ x. false ≡ not x) fails test in
    absurd (cc)

pub start_is : (starts : List Bool) (f : ℕ) (b d : Bool) → f < length starts → slice_index_or starts f d ≡ b
    → slice_get starts f ≡ Some b
start_is starts f b d lt is = slice_get-get_or starts f d lt ∙ ap Some is
