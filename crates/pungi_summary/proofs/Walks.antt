-- The walk back along the calls.
--   reaches_on             what a way reaches, the function reaches
--   walking_first, walking_skip, walking_on    the search at first, and after a function without and with a way
--   work_took              a function that was taken leaves less to do
--   walked                 the ways at its end
use Rattle.std.proofs.Common.{◌≡◌, ◌∙◌, inl, inr, ℕ, ◌+◌, ◌<◌, Bool, List, [], ◌∷◌, length}
use Rattle.std.proofs.Common.{Option, Some, None, refl, sym, ap, subst, arith}
use Rattle.std.specs.Prelude.{slice_get}
use Rattle.std.specs.List.{Contains}
use Rattle.std.proofs.lemmas.Option.{slice_get_within}
use Rattle.pungi_domain.specs.declared.affine_program.AffineProgram.{AffineProgram}
use Rattle.pungi_links.specs.Pending.{IsPending, PendingState, Takes}
use Rattle.pungi_links.specs.Ring.{Stands}
use Rattle.pungi_summary.specs.Calls.{IsCalled, Reaches, reaches_by, reaches_self}
use Rattle.pungi_summary.specs.CallPlaces.{site}
use Rattle.pungi_summary.specs.Sites.{AreSites, sites_of}
use Rattle.pungi_summary.specs.Ways.{AreVisited, AreWays, HasWay, IsStart, IsWalking, IsWay}
use Rattle.pungi_summary.specs.declared.call_site.CallSite.{CallSite}
use Rattle.pungi_summary.specs.declared.way.Way.{Way}
use Rattle.pungi_summary.proofs.Lists.{took_limit, took_list}
use Rattle.pungi_summary.proofs.Visits.{AreFirstWays}

pub way_reaches : (ps : List (Option AffineProgram)) (callees : List (List ℕ)) (f : ℕ) (w : Way) → IsWay ps callees f w
    → Reaches callees f w.origin
way_reaches ps callees f w (inl same) = subst (Reaches callees f) same (reaches_self f)
way_reaches ps callees f w (inr h) = reaches_by f h.0 w.origin h.1.called h.2

module _ (ps : List (Option AffineProgram)) (callees : List (List ℕ)) (starts : List Bool) where
  pub walking_first : (ways : List (Option Way)) (q : PendingState) → length starts ≡ length ps
      → AreFirstWays starts (length starts) ways → IsPending q → q.limit ≡ length ps
      → ((f : ℕ) → f < length ps → Stands f q.list) → IsWalking ps callees starts ways q
  walking_first ways q count h pending limit all = record {
    count = h.count ∙ count;
    sound = λ f w is. (let s = h.sound f w is in (inl s.0, subst (IsStart starts) s.0 s.1));
    first = λ f is. h.there f (slice_get_within starts f _ is) is;
    closed = λ f g call has. (let lt = slice_get_within ways g (Some has.0) has.1 in
        let n = h.count in inl (all g (omega (arith, lt, n, count))));
    queue = pending;
    limit = limit;
  }

  pub walking_skip : (ways : List (Option Way)) (q q' : PendingState) (f : ℕ) → slice_get ways f ≡ Some None
      → IsWalking ps callees starts ways q → IsPending q' → Takes q q' (Some f) → IsWalking ps callees starts ways q'
  walking_skip ways q q' f none s pending took = record {
    count = s.count;
    sound = s.sound;
    first = s.first;
    closed = λ g h call has. elim (s.closed g h call has) [
      | inl waits ↦ elim (subst (λ (xs : List ℕ). Stands h xs) (took_list q q' f took) waits) [
        | inl same ↦
            let at = subst (λ i. slice_get ways i ≡ Some (Some has.0)) same has.1 in
            absurd (cc (at, none))
        | inr on ↦ inl on
      ]
      | inr there ↦ inr there
    ];
    queue = pending;
    limit = took_limit q q' f took ∙ s.limit;
  }

  pub walking_on : (lists : List (List CallSite)) (ways ways' : List (Option Way)) (q q' q'' : PendingState) (f : ℕ)
      (w : Way) (sites : List CallSite) → AreSites ps callees lists → sites ≡ sites_of lists f
      → slice_get ways f ≡ Some (Some w) → IsWalking ps callees starts ways q → Takes q q' (Some f)
      → AreVisited sites w.origin ways ways' q'.list q''.list → IsPending q'' → q''.limit ≡ q'.limit
      → IsWalking ps callees starts ways' q''
  walking_on lists ways ways' q q' q'' f w sites index same here s took visited pending limit = record {
    count = visited.count ∙ s.count;
    sound = λ g x is. elim (visited.only g x is) [
      | inl old ↦ s.sound g x old
      | inr new ↦
          let its = s.sound f w here in
          let call = index.only f (site g x.place)
          (subst (λ (l : List CallSite). Contains l (site g x.place)) same new.0) in (
            inr (f, call, subst (Reaches callees f) (sym new.1) (way_reaches ps callees f w its.0)),
            subst (IsStart starts) (sym new.1) its.1,
          )
    ];
    first = λ g is. (let h = s.first g is in (h.0, visited.kept g h.0 h.1));
    closed = λ g h call has. elim (visited.only h has.0 has.1) [
      | inl old ↦ elim (s.closed g h call (has.0, old)) [
        | inl waits ↦ elim (subst (λ (xs : List ℕ). Stands h xs) (took_list q q' f took) waits) [
          | inl is_f ↦
              let put_there = index.there g f (subst (λ i. IsCalled callees g i) is_f call) in
              inr (visited.there g put_there.0
              (subst (λ (l : List CallSite). Contains l (site g put_there.0)) (sym same) put_there.1))
          | inr on ↦ inl (visited.waits h on)
        ]
        | inr there ↦ inr (there.0, visited.kept g there.0 there.1)
      ]
      | inr new ↦ inl new.2
    ];
    queue = pending;
    limit = limit ∙ (took_limit q q' f took ∙ s.limit);
  }

  has_way : (ways : List (Option Way)) (q : PendingState) → q.list ≡ [] → IsWalking ps callees starts ways q → (f s : ℕ)
      → Reaches callees f s → IsStart starts s → HasWay ways f
  has_way ways q none w f s (reaches_self _) start = w.first f start
  has_way ways q none w f s (reaches_by _ g _ call on) start =
      elim (w.closed f g call (has_way ways q none w g s on start)) [
        | inl waits ↦ absurd (subst (λ (xs : List ℕ). Stands g xs) none waits)
        | inr there ↦ there
      ]

  pub walked : (ways : List (Option Way)) (q : PendingState) → q.list ≡ [] → IsWalking ps callees starts ways q
      → AreWays ps callees starts ways
  walked ways q none w = record {
    count = w.count;
    sound = w.sound;
    complete = λ f s is reaches start.
        let h = has_way ways q none w f s reaches start in
        let at = h.1 in
        absurd (cc (at, is));
  }

pub less_took : (q q' : PendingState) (f n : ℕ) → Takes q q' (Some f) → n + length q'.list < n + length q.list
less_took q q' f n took =
    let l : length q.list ≡ length (f ∷ q'.list) = ap length (took_list q q' f took) in
    omega (arith, l)

pub took_within : (q q' : PendingState) (f n : ℕ) → IsPending q → q.limit ≡ n → Takes q q' (Some f) → f < n
took_within q q' f n pending limit took =
    let below = pending.below f (subst (λ (xs : List ℕ). Stands f xs) (sym (took_list q q' f took)) (inl refl)) in
    omega (arith, below, limit)
