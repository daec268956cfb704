-- Call sites, put one by one, and function by function.
--   site_put               one site
--   AreCalleesBelow, callees_none, callees_more, callees_all    the callees of a function as far as they were noted
--   AreSitesBelow, sites_none, sites_more, sites_all    the functions so
--   callers_within         a caller at a site is a function of the file
use Rattle.std.proofs.Common.{◌≡◌, ◌∙◌, ◌⊎◌, inl, inr, ℕ, zero, suc, ◌+◌, ◌<◌, ◌≤◌, List, [], ◌∷◌, ◌++◌, length, get_or}
use Rattle.std.proofs.Common.{Option, refl, sym, ap, subst, arith, replicate}
use Rattle.std.specs.Prelude.{slice_set}
use Rattle.std.specs.List.{Contains, slice_index_or}
use Rattle.std.proofs.lemmas.Bool.{cases_eq, cases_lt}
use Rattle.std.proofs.lemmas.List.{get_or-set_same, get_or-set_other, length-set, length-replicate}
use Rattle.std.proofs.lemmas.List.Elements.{Contains-append_left, Contains-push, Contains-push_cases}
use Rattle.std.proofs.lemmas.Option.{get_or_from_slice_get, slice_get_read}
use Rattle.pungi_domain.specs.declared.affine_program.AffineProgram.{AffineProgram}
use Rattle.pungi_summary.specs.CallPlaces.{ArePlacesOf, IsPlaceIn, entry_of, site}
use Rattle.pungi_summary.specs.Calls.{AreCallable, IsCallAt, IsCallPlace, IsCalled, callees_of, program_of}
use Rattle.pungi_summary.specs.Sites.{AreCalleesNoted, AreSites, IsSitePut, sites_of}
use Rattle.pungi_summary.specs.declared.call_site.CallSite.{CallSite}
use Rattle.pungi_summary.proofs.Callees.{caller_within}
use Rattle.pungi_summary.proofs.Lists.{read_default}
use Rattle.pungi_summary.proofs.Noted.{place_in}

pub site_put : (s : CallSite) (lists : List (List CallSite)) (g : ℕ) (old new : List CallSite) → g < length lists
    → old ≡ get_or lists g old → new ≡ old ++ s ∷ [] → IsSitePut g s lists (slice_set lists g new)
site_put s lists g old new lt was now =
    let here : sites_of lists g ≡ old = get_or_from_slice_get lists g old []
    (slice_get_read lists (length lists) g old refl lt was) in
    let this : sites_of (slice_set lists g new) g ≡ sites_of lists g ++ s ∷ [] =
    get_or-set_same lists g new [] lt ∙ (now ∙ ap (λ (l : List CallSite). l ++ s ∷ []) (sym here)) in
    record {
      count = length-set lists g new;
      kept = λ h t m. elim (cases_eq h g) [
        | inl same ↦ subst (λ i. Contains (sites_of (slice_set lists g new) i) t) (sym same)
            (subst (λ (l : List CallSite). Contains l t) (sym this) (Contains-append_left (sites_of lists g)
            (s ∷ []) t (subst (λ i. Contains (sites_of lists i) t) same m)))
        | inr other ↦ subst (λ (l : List CallSite). Contains l t) (sym (get_or-set_other lists g h new [] other)) m
      ];
      there = subst (λ (l : List CallSite). Contains l s) (sym this) (Contains-push (sites_of lists g) s);
      only = λ h t m. elim (cases_eq h g) [
        | inl same ↦ elim (Contains-push_cases (sites_of lists g) s t
            (subst (λ (l : List CallSite). Contains l t) this
            (subst (λ i. Contains (sites_of (slice_set lists g new) i) t) same m))) [
              | inl old_one ↦ inl (subst (λ i. Contains (sites_of lists i) t) (sym same) old_one)
              | inr is ↦ inr (sym is, same)
            ]
        | inr other ↦ inl (subst (λ (l : List CallSite). Contains l t) (get_or-set_other lists g h new [] other) m)
      ];
    }

pub record AreCalleesBelow (firsts : List (Option CallSite)) (f entry : ℕ) (fs : List ℕ) (n : ℕ)
    (old new : List (List CallSite)) : Type 0 where
  pub count : length new ≡ length old
  pub kept : (g : ℕ) (s : CallSite) → Contains (sites_of old g) s → Contains (sites_of new g) s
  pub there : (j : ℕ) → j < n → (k : ℕ) × Contains (sites_of new (slice_index_or fs j 0)) (site f k)
  pub only : (g : ℕ) (s : CallSite) → Contains (sites_of new g) s → Contains (sites_of old g) s
      ⊎ ((s.caller ≡ f) × Contains fs g × IsPlaceIn firsts f entry g s.place)

pub callees_none : (firsts : List (Option CallSite)) (f entry : ℕ) (fs : List ℕ) (lists : List (List CallSite))
    → AreCalleesBelow firsts f entry fs 0 lists lists
callees_none firsts f entry fs lists = record {
  count = refl;
  kept = λ g s m. m;
  there = λ j lt. absurd (omega (arith, lt));
  only = λ g s m. inl m;
}

pub callees_more : (firsts : List (Option CallSite)) (f entry : ℕ) (fs : List ℕ) (n k : ℕ)
    (old mid new : List (List CallSite)) → n < length fs → IsPlaceIn firsts f entry (slice_index_or fs n 0) k
    → AreCalleesBelow firsts f entry fs n old mid → IsSitePut (slice_index_or fs n 0) (site f k) mid new
    → AreCalleesBelow firsts f entry fs (n + 1) old new
callees_more firsts f entry fs n k old mid new lt place before here = record {
  count = here.count ∙ before.count;
  kept = λ g s m. here.kept g s (before.kept g s m);
  there = λ j below. elim (cases_lt j n) [
    | inl less ↦
        let h = before.there j less in
        (h.0, here.kept (slice_index_or fs j 0) (site f h.0) h.1)
    | inr from ↦
        let same : n ≡ j = omega arith in
        (k, subst (λ i. Contains (sites_of new (slice_index_or fs i 0)) (site f k)) same here.there)
  ];
  only = λ g s m. elim (here.only g s m) [
    | inl earlier ↦ before.only g s earlier
    | inr this ↦
        let in_fs : Contains fs (slice_index_or fs n 0) = (n, lt, read_default fs n (slice_index_or fs n 0) 0 lt) in
        let at = ap (λ (x : CallSite). x.place) this.0 in
        inr (
          ap (λ (x : CallSite). x.caller) this.0,
          subst (λ i. Contains fs i) (sym this.1) in_fs,
          subst (λ i. IsPlaceIn firsts f entry i s.place) (sym this.1)
              (subst (λ i. IsPlaceIn firsts f entry (slice_index_or fs n 0) i) (sym at) place),
        )
  ];
}

pub callees_all : (firsts : List (Option CallSite)) (f entry : ℕ) (fs : List ℕ) (n : ℕ)
    (old new : List (List CallSite)) → length fs ≤ n → AreCalleesBelow firsts f entry fs n old new
    → AreCalleesNoted firsts f entry fs old new
callees_all firsts f entry fs n old new le h = record {
  count = h.count;
  kept = h.kept;
  there = λ g m.
      let lt = m.1 in
      let t = h.there m.0 (omega (arith, lt, le)) in
      (t.0, subst (λ i. Contains (sites_of new i) (site f t.0)) (read_default fs m.0 0 g lt ∙ m.2) t.1);
  only = h.only;
}

pub record AreSitesBelow (ps : List (Option AffineProgram)) (callees : List (List ℕ)) (n : ℕ)
    (lists : List (List CallSite)) : Type 0 where
  pub count : length lists ≡ length ps
  pub there : (f g : ℕ) → f < n → IsCalled callees f g → (k : ℕ) × Contains (sites_of lists g) (site f k)
  pub only : (g : ℕ) (s : CallSite) → Contains (sites_of lists g) s → IsCallAt ps callees s.caller s.place g

no_list : (n k : ℕ) → sites_of (replicate {A = List CallSite} n []) k ≡ []
no_list zero k = refl
no_list (suc n) zero = refl
no_list (suc n) (suc k) = no_list n k

pub sites_none : (ps : List (Option AffineProgram)) (callees : List (List ℕ))
    → AreSitesBelow ps callees 0 (replicate (length ps) [])
sites_none ps callees = record {
  count = length-replicate (length ps) [];
  there = λ f g lt call. absurd (omega (arith, lt));
  only = λ g s m.
      let none = subst (λ (l : List CallSite). Contains l s) (no_list (length ps) g) m in
      let lt = none.1 in
      absurd (omega (arith, lt));
}

pub sites_more : (ps : List (Option AffineProgram)) (callees : List (List ℕ)) (n : ℕ) (o : Option AffineProgram)
    (fs : List ℕ) (firsts : List (Option CallSite)) (old new : List (List CallSite)) → program_of ps n ≡ o
    → callees_of callees n ≡ fs → ArePlacesOf n o firsts → AreCalleesNoted firsts n (entry_of o) fs old new
    → AreSitesBelow ps callees n old → AreSitesBelow ps callees (n + 1) new
sites_more ps callees n o fs firsts old new o_is fs_is places noted before = record {
  count = noted.count ∙ before.count;
  there = λ f g lt call. elim (cases_lt f n) [
    | inl less ↦
        let h = before.there f g less call in
        (h.0, noted.kept g (site f h.0) h.1)
    | inr from ↦
        let same : f ≡ n = omega arith in
        let m = subst (λ (xs : List ℕ). Contains xs g) fs_is (subst (λ i. IsCalled callees i g) same call) in
        let h = noted.there g m in
        (h.0, subst (λ i. Contains (sites_of new g) (site i h.0)) (sym same) h.1)
  ];
  only = λ g s m. elim (noted.only g s m) [
    | inl earlier ↦ before.only g s earlier
    | inr this ↦ subst (λ i. IsCallAt ps callees i s.place g) (sym this.0) (record {
      called = subst (λ (xs : List ℕ). Contains xs g) (sym fs_is) this.1;
      place = subst (λ (x : Option AffineProgram). IsCallPlace x s.place g) (sym o_is)
          (place_in n o firsts places g s.place this.2);
    })
  ];
}

pub sites_all : (ps : List (Option AffineProgram)) (callees : List (List ℕ)) (n : ℕ) (lists : List (List CallSite))
    → AreCallable ps callees → length ps ≤ n → AreSitesBelow ps callees n lists → AreSites ps callees lists
sites_all ps callees n lists callable le h = record {
  count = h.count;
  there = λ f g call.
      let lt = caller_within ps callees f g callable call in
      h.there f g (omega (arith, lt, le)) call;
  only = h.only;
}

pub callers_within : (ps : List (Option AffineProgram)) (callees : List (List ℕ)) (lists : List (List CallSite))
    (g : ℕ) (s : CallSite) → AreCallable ps callees → AreSites ps callees lists → Contains (sites_of lists g) s
    → s.caller < length ps
callers_within ps callees lists g s callable sites m =
    caller_within ps callees s.caller g callable (sites.only g s m).called
