-- The exit classes of all functions, while they are searched and at the end.
use Rattle.std.proofs.Common.{◌≡◌, ◌∙◌, ◌⊎◌, inl, inr, ℕ, zero, suc, ◌+◌, ◌*◌, ◌<◌, ◌≤◌, true, false, List}
use Rattle.std.proofs.Common.{[], ◌∷◌, length, Option, Some, None, slice_get, refl, sym, ap, subst, arith, replicate}
use Rattle.std.specs.Prelude.{get_or, slice_set, nat_lt}
use Rattle.std.specs.List.{All, IsAmong, flat_map, sum_by}
use Rattle.std.proofs.Math.Nat.{mul-le-mul_left}
use Rattle.std.proofs.lemmas.Bool.{cases_eq, ltb-false, ltb-true}
use Rattle.std.proofs.lemmas.List.{get_or-replicate, length-replicate, length-set}
use Rattle.std.proofs.lemmas.List.Elements.{All-nil, All-weaker}
use Rattle.std.proofs.lemmas.List.Sums.{get_or-le-sum_by, sum_by-set}
use Rattle.std.proofs.lemmas.Option.{get_or_from_slice_get, slice_get_within}
use Rattle.pungi_code.specs.declared.code.Code.{Code}
use Rattle.pungi_code.specs.declared.code.Codes.{Codes}
use Rattle.pungi_code.specs.Run.{code_at}
use Rattle.pungi_links.specs.Ring.{Stands}
use Rattle.pungi_shape.specs.declared.shape.Shape.{Shape}
use Rattle.pungi_shape.specs.AllClasses.{AreAllClasses, AreFoundNow, AreFoundSoFar, HasClasses, HaveCallees}
use Rattle.pungi_shape.specs.AllClasses.{IsAllFound, IsFoundNow, IsKept, IsSettling, has_more, room, room_in, work}
use Rattle.pungi_shape.specs.Callers.{AreCallers, callers_of}
use Rattle.pungi_shape.specs.Classes.{ClassLists, classes_of, has_list, list_of}
use Rattle.pungi_shape.specs.Edges.{Goal, to_place, to_exit, call_edges, edges_from}
use Rattle.pungi_shape.specs.FoundBy.{IsFoundBy, enters as enters_by, goes as goes_by}
use Rattle.pungi_shape.specs.Liveness.{instr_at}
use Rattle.pungi_shape.specs.Named.{callee_of, callees_of}
use Rattle.pungi_shape.specs.Places.{instr_in}
use Rattle.pungi_shape.specs.Programs.{AreExits, IsFound, IsTooLarge, calls, calls_from, enters, goes}
use Rattle.pungi_shape.proofs.CalleeLemmas.{instr-called, none-called}
use Rattle.pungi_shape.proofs.ClassLemmas.{all-classes, by-more, no-classes, rises-full}
use Rattle.pungi_shape.proofs.FoundByLemmas.{edge-calls}
use Rattle.pungi_shape.proofs.sound.Members.{among_each, among_left, among_right, of_all}

-- ---- a step

one-list : (xs ys : List Shape) → Some (Some xs) ≡ Some (Some ys) → xs ≡ ys
one-list xs ys e = cc

pub settling-skip : (codes : Codes) (cs : ClassLists) (f : ℕ) (list : List ℕ)
    → ((code : Code) (xs : List Shape) → code_at codes f ≡ Some code → slice_get cs f ≡ Some (Some xs) → ⊥)
    → IsSettling codes cs (f ∷ list) → IsSettling codes cs list
settling-skip codes cs f list none s = record {
  count = s.count;
  known = s.known;
  large = s.large;
  settled = λ g xs code is at. elim (s.settled g xs code is at) [
    | inr found ↦ inr found
    | inl waits ↦ elim waits [
      | inr on ↦ inl on
      | inl here ↦
          absurd (none code xs (subst (λ n. code_at codes n ≡ Some code) here is)
          (subst (λ n. slice_get cs n ≡ Some (Some xs)) here at))
    ]
  ];
}

set-same : (cs : ClassLists) (f : ℕ) (o : Option (List Shape)) → f < length cs
    → slice_get (slice_set cs f o) f ≡ Some o
set-same [] f o lt = absurd (omega (arith, lt))
set-same (c ∷ cs) zero o lt = refl
set-same (c ∷ cs) (suc f) o lt = set-same cs f o (omega (arith, lt))

set-other : (cs : ClassLists) (f g : ℕ) (o : Option (List Shape)) → (g ≡ f → ⊥)
    → slice_get (slice_set cs f o) g ≡ slice_get cs g
set-other [] f g o differ = refl
set-other (c ∷ cs) zero zero o differ = absurd (differ refl)
set-other (c ∷ cs) zero (suc g) o differ = refl
set-other (c ∷ cs) (suc f) zero o differ = refl
set-other (c ∷ cs) (suc f) (suc g) o differ = set-other cs f g o (λ e. differ (ap suc e))

stands-decided : (x : ℕ) (xs : List ℕ) → Stands x xs ⊎ (Stands x xs → ⊥)
stands-decided x [] = inr (λ h. h)
stands-decided x (y ∷ xs) = elim (cases_eq x y) [
  | inl e ↦ inl (inl e)
  | inr differ ↦ elim (stands-decided x xs) [
    | inl h ↦ inl (inr h)
    | inr none ↦ inr (λ s. elim s [ inl e ↦ differ e | inr h ↦ none h ])
  ]
]

module _ (codes : Codes) (cs : ClassLists) (f : ℕ) (list : List ℕ) (old : List Shape)
    (was : slice_get cs f ≡ Some (Some old)) (s : IsSettling codes cs (f ∷ list)) where
  old-is : classes_of cs f ≡ old
  old-is = ap list_of was

  -- what was known of the function is found now
  old-among : (xs : List Shape) → AreFoundNow codes cs f xs → All (IsAmong xs) old
  old-among xs now =
      All-weaker (λ x. IsFoundBy codes (classes_of cs) f (to_exit x)) (IsAmong xs) (λ x by. now.exits.all x by) old
      ((s.known f old was).by now.callees)

  -- ---- where it isn't more

  alone-found : (xs : List Shape) → AreFoundNow codes cs f xs → length xs ≤ length old → IsAllFound codes cs f old
  alone-found xs now le = record {
    callees = now.callees;
    all = λ x by. rises-full old xs (s.known f old was).known.classes.rise now.exits.rise (old-among xs now) le x
        (now.exits.all x by);
  }

  few-now : (xs : List Shape) → nat_lt (length (classes_of cs f)) (length xs) ≡ false → length xs ≤ length old
  few-now xs less =
      let le = ltb-false (length (classes_of cs f)) (length xs) less in
      let same : length (classes_of cs f) ≡ length old = ap length old-is in
      omega (arith, le, same)

  alone-found-by : (o : Option (List Shape)) → IsFoundNow codes cs f o
      → has_more o (length (classes_of cs f)) ≡ false → IsAllFound codes cs f old
  alone-found-by None now less = absurd (cc)
  alone-found-by (Some xs) now less = alone-found xs now (few-now xs less)

  settling-alone : IsAllFound codes cs f old → IsSettling codes cs list
  settling-alone all = record {
    count = s.count;
    known = s.known;
    large = s.large;
    settled = λ g xs code is at. elim (s.settled g xs code is at) [
      | inr found ↦ inr found
      | inl waits ↦ elim waits [
        | inr on ↦ inl on
        | inl here ↦
            let there : slice_get cs f ≡ Some (Some xs) = subst (λ n. slice_get cs n ≡ Some (Some xs)) here at in
            let same : old ≡ xs = one-list old xs (sym was ∙ there) in
            inr (subst (λ n. IsAllFound codes cs n xs) (sym here) (subst (IsAllFound codes cs f) same all))
      ]
    ];
  }

  -- ---- where it is more

  module _ (o : Option (List Shape)) (now : IsFoundNow codes cs f o) where
    f-within : f < length cs
    f-within = slice_get_within cs f (Some old) was

    new : ClassLists
    new = slice_set cs f o

    here-now : (xs : List Shape) → slice_get (slice_set cs f o) f ≡ Some (Some xs) → o ≡ Some xs
    here-now xs at = (let there = set-same cs f o f-within in cc (there, at))

    now-at : (xs : List Shape) → o ≡ Some xs → AreFoundNow codes cs f xs
    now-at xs e = subst (IsFoundNow codes cs f) e now

    -- functions that have lists now had lists before
    had-classes : (h : ℕ) → HasClasses codes (slice_set cs f o) h → HasClasses codes cs h
    had-classes h has = elim (cases_eq h f) [
      | inl e ↦ subst (HasClasses codes cs) (sym e) (old, (was, (s.known f old was).known))
      | inr differ ↦ (has.0, (sym (set-other cs f h o differ) ∙ has.1.0, has.1.1))
    ]

    had-callees : (g : ℕ) → HaveCallees codes (slice_set cs f o) g → HaveCallees codes cs g
    had-callees g have h called = had-classes h (have h called)

    -- what was known of these is known still
    grown-of : (h : ℕ) (x : Shape) → HasClasses codes (slice_set cs f o) h → IsAmong (classes_of cs h) x
        → IsAmong (classes_of (slice_set cs f o) h) x
    grown-of h x has there = elim (cases_eq h f) [
      | inr differ ↦ subst (λ p. IsAmong (list_of p) x) (sym (set-other cs f h o differ)) there
      | inl e ↦
          let at : slice_get (slice_set cs f o) f ≡ Some (Some has.0) =
          subst (λ n. slice_get (slice_set cs f o) n ≡ Some (Some has.0)) e has.1.0 in
          let found = now-at has.0 (here-now has.0 at) in
          let before : IsAmong old x =
          subst (λ ys. IsAmong ys x) old-is (subst (λ n. IsAmong (classes_of cs n) x) e there) in
          subst (λ n. IsAmong (classes_of (slice_set cs f o) n) x) (sym e)
          (subst (λ p. IsAmong (list_of p) x) (sym at)
          (of_all (IsAmong has.0) old x (old-among has.0 found) before))
    ]

    grown-known : (g : ℕ) (xs : List Shape) → AreFoundSoFar codes cs g xs
        → AreFoundSoFar codes (slice_set cs f o) g xs
    grown-known g xs k = record {
      known = k.known;
      by = λ have.
          All-weaker (λ x. IsFoundBy codes (classes_of cs) g (to_exit x))
          (λ x. IsFoundBy codes (classes_of (slice_set cs f o)) g (to_exit x))
          (λ x by. by-more codes (classes_of cs) (classes_of (slice_set cs f o)) g
          (λ h y called there. grown-of h y (have h called) there) (to_exit x) by)
          xs (k.by (had-callees g have));
    }

    now-known : (xs : List Shape) → AreFoundNow codes cs f xs → AreFoundSoFar codes cs f xs
    now-known xs found = record { known = found.known; by = λ have. found.exits.found }

    -- a function that doesn't call it has found what it had found
    others-same : (g h : ℕ) → (IsAmong (callees_of codes g) f → ⊥) → IsAmong (callees_of codes g) h
        → slice_get (slice_set cs f o) h ≡ slice_get cs h
    others-same g h calls_not called =
        set-other cs f h o (λ e. calls_not (subst (IsAmong (callees_of codes g)) e called))

    same-found : (g : ℕ) (xs : List Shape) → (IsAmong (callees_of codes g) f → ⊥) → IsAllFound codes cs g xs
        → IsAllFound codes (slice_set cs f o) g xs
    same-found g xs calls_not all = record {
      callees = λ h called. (
          let has = all.callees h called in
          (has.0, (others-same g h calls_not called ∙ has.1.0, has.1.1))
          );
      all = λ x by. all.all x
          (by-more codes (classes_of (slice_set cs f o)) (classes_of cs) g
          (λ h y called there. subst (λ p. IsAmong (list_of p) y) (others-same g h calls_not called) there)
          (to_exit x) by);
    }

    module _ (lists : List (List ℕ)) (index : AreCallers codes lists) (list' : List ℕ)
        (kept : (g : ℕ) → Stands g list → Stands g list')
        (wait : (g : ℕ) → Stands g (callers_of lists f) → Stands g list') where
      settled-found : (g : ℕ) (xs : List Shape) → IsAllFound codes cs g xs
          → Stands g list' ⊎ IsAllFound codes (slice_set cs f o) g xs
      settled-found g xs all = elim (stands-decided g (callers_of lists f)) [
        | inl s ↦ inl (wait g s)
        | inr calls_not ↦ inr (same-found g xs (λ called. calls_not (index.there g f called)) all)
      ]

      settling-grown : IsSettling codes (slice_set cs f o) list'
      settling-grown = record {
        count = length-set cs f o ∙ s.count;
        known = λ g xs at. elim (cases_eq g f) [
          | inr differ ↦ grown-known g xs (s.known g xs (sym (set-other cs f g o differ) ∙ at))
          | inl e ↦
              let here = now-at xs (here-now xs
              (subst (λ n. slice_get (slice_set cs f o) n ≡ Some (Some xs)) e at)) in
              subst (λ n. AreFoundSoFar codes (slice_set cs f o) n xs) (sym e)
              (grown-known f xs (now-known xs here))
        ];
        large = λ g at. elim (cases_eq g f) [
          | inr differ ↦ s.large g (sym (set-other cs f g o differ) ∙ at)
          | inl e ↦
              let there = set-same cs f o f-within in
              let here = subst (λ n. slice_get (slice_set cs f o) n ≡ Some None) e at in
              let none : o ≡ None = cc (there, here) in
              subst (IsTooLarge codes) (sym e) (subst (IsFoundNow codes cs f) none now)
        ];
        settled = λ g xs code is at. elim (cases_eq g f) [
          | inl e ↦
              let found = now-at xs (here-now xs
              (subst (λ n. slice_get (slice_set cs f o) n ≡ Some (Some xs)) e at)) in
              subst (λ n. Stands n list' ⊎ IsAllFound codes (slice_set cs f o) n xs) (sym e)
              (settled-found f xs (record { callees = found.callees; all = found.exits.all }))
          | inr differ ↦
              elim (s.settled g xs code is (sym (set-other cs f g o differ) ∙ at)) [
                | inl waits ↦ elim waits [
                  | inl here ↦ absurd (differ here)
                  | inr on ↦ inl (kept g on)
                ]
                | inr all ↦ settled-found g xs all
              ]
        ];
      }

  pub settling-kept : (o : Option (List Shape)) (lists : List (List ℕ)) (cs' : ClassLists) (list' : List ℕ)
      → IsFoundNow codes cs f o → AreCallers codes lists → IsKept o f (callers_of lists f) cs cs' list list'
      → IsSettling codes cs' list'
  settling-kept o lists cs' list' now index (inl grown) =
      subst (λ ds. IsSettling codes ds list') (sym grown.put)
      (settling-grown o now lists index list' grown.kept grown.wait)
  settling-kept o lists cs' list' now index (inr alone) =
      subst (λ ds. IsSettling codes ds list') (sym alone.classes)
      (subst (IsSettling codes cs) (sym alone.same) (settling-alone (alone-found-by o now alone.less)))

  -- ---- how much there is to do

  room-less : (o : Option (List Shape)) → IsFoundNow codes cs f o → has_more o (length (classes_of cs f)) ≡ true
      → room_in o < room_in (Some old)
  room-less None now more = omega arith
  room-less (Some xs) now more =
      let lt = ltb-true (length (classes_of cs f)) (length xs) more in
      let same : length (classes_of cs f) ≡ length old = ap length old-is in
      let few = now.known.classes.few in
      omega (arith, lt, same, few)

  pub work-kept : (o : Option (List Shape)) (lists : List (List ℕ)) (cs' : ClassLists) (list' : List ℕ)
      → f < length lists → IsFoundNow codes cs f o → IsKept o f (callers_of lists f) cs cs' list list'
      → work lists cs' list' ≤ work lists cs list
  work-kept o lists cs' list' lt now (inl grown) =
      let n = 1 + sum_by length lists in
      let less = room-less o now grown.more in
      let none : List ℕ = [] in
      let few_callers : length (callers_of lists f) ≤ sum_by length lists = get_or-le-sum_by length lists f none lt in
      let change = sum_by-set room_in cs f o None (slice_get_within cs f (Some old) was) in
      let there : get_or cs f None ≡ Some old = get_or_from_slice_get cs f (Some old) None was in
      let before : room_in (get_or cs f None) ≡ room_in (Some old) = ap room_in there in
      let fewer : room (slice_set cs f o) + 1 ≤ room cs = omega (arith, change, before, less) in
      let after : room cs' ≡ room (slice_set cs f o) = ap room grown.put in
      let smaller : room cs' + 1 ≤ room cs = omega (arith, fewer, after) in
      let times = mul-le-mul_left n smaller in
      let few = grown.few in
      omega (arith, times, few, few_callers)
  work-kept o lists cs' list' lt now (inr alone) =
      let same : room cs' * (1 + sum_by length lists) ≡ room cs * (1 + sum_by length lists) =
      ap (λ ds. room ds * (1 + sum_by length lists)) alone.classes in
      let list_same : length list' ≡ length list = ap length alone.same in
      omega (arith, same, list_same)

-- ---- at first

first-list : (n f : ℕ) (o : Option (List Shape)) → slice_get (replicate n (Some [])) f ≡ Some o → o ≡ Some []
first-list n f o at =
    let none : Option (List Shape) = Some [] in
    let lt = slice_get_within (replicate n none) f o at in
    let long : length (replicate n none) ≡ n = length-replicate n none in
    let there : get_or (replicate n none) f o ≡ o = get_or_from_slice_get (replicate n none) f o o at in
    sym there ∙ get_or-replicate n f none o (omega (arith, lt, long))

pub settling-first : (codes : Codes) (list : List ℕ) → ((f : ℕ) → f < length codes.codes → Stands f list)
    → IsSettling codes (replicate (length codes.codes) (Some [])) list
settling-first codes list all =
    let n = length codes.codes in
    let none : Option (List Shape) = Some [] in
    let long : length (replicate n none) ≡ n = length-replicate n none in
    record {
      count = long;
      known = λ f xs at.
          let same = first-list n f (Some xs) at in
          let empty : [] ≡ xs = cc (same) in
          subst (AreFoundSoFar codes (replicate n none) f) empty (record {
            known = record { classes = no-classes codes f; found = All-nil (λ x. IsFound codes f (to_exit x)) };
            by = λ have. All-nil (λ x. IsFoundBy codes (classes_of (replicate n none)) f (to_exit x));
          });
      large = λ f at. (let same = first-list n f None at in absurd (cc));
      settled = λ f xs code is at.
          let lt = slice_get_within (replicate n none) f (Some xs) at in
          inl (all f (omega (arith, lt, long)));
    }

-- ---- at the end

module _ (codes : Codes) (cs : ClassLists) (s : IsSettling codes cs []) where
  all-found : (f : ℕ) (xs : List Shape) (code : Code) → code_at codes f ≡ Some code → slice_get cs f ≡ Some (Some xs)
      → IsAllFound codes cs f xs
  all-found f xs code is at = elim (s.settled f xs code is at) [ inl waits ↦ absurd waits | inr all ↦ all ]

  found-code : (f : ℕ) (g : Goal) → IsFound codes f g → (code : Code) × (code_at codes f ≡ Some code)
  found-code _ _ (enters f code s is_code among) = (code, is_code)
  found-code _ _ (goes f code q g is_code found leads) = (code, is_code)
  found-code _ _ (calls f h code q x g is_code found left by) = (code, is_code)

  found-end : (f : ℕ) (g : Goal) → IsFound codes f g → (xs : List Shape) → slice_get cs f ≡ Some (Some xs)
      → IsFoundBy codes (classes_of cs) f g
  found-end _ _ (enters f code e is_code among) xs at = enters_by code e is_code among
  found-end _ _ (goes f code q g is_code found leads) xs at =
      goes_by code q g is_code (found-end f (to_place q) found xs at)
      (record {
        edge = leads.edge;
        is_there = among_left (edges_from code q) (calls_from code (classes_of cs) q) leads.edge leads.is_there;
        goal = leads.goal;
      })
  found-end _ _ (calls f h code q x g is_code found left by) xs at =
      let others = classes_of cs in
      let callee = edge-calls code q h x by.edge by.is_there in
      let called = instr-called codes f h (instr_in q) code is_code callee in
      let has = (all-found f xs code is_code at).callees h called in
      let theirs = found-code h (to_exit x) left in
      let exit : IsAmong has.0 x = (all-found h has.0 theirs.0 theirs.1 has.1.0).all x
      (found-end h (to_exit x) left has.0 has.1.0) in
      let known : IsAmong (others h) x = subst (λ o. IsAmong (list_of o) x) (sym has.1.0) exit in
      goes_by code q g is_code (found-end f (to_place q) found xs at)
      (record {
        edge = by.edge;
        is_there = among_right (edges_from code q) (calls_from code others q) by.edge
            (among_each (λ (k : ℕ). flat_map (call_edges code q k) (others k)) (callee_of (instr_at code (instr_in q)))
            h by.edge callee (among_each (call_edges code q h) (others h) x by.edge known by.is_there));
        goal = by.goal;
      })

  exits-end : (f : ℕ) (xs : List Shape) → slice_get cs f ≡ Some (Some xs) → AreExits codes f xs
  exits-end f xs at = record {
    rise = (s.known f xs at).known.classes.rise;
    found = (s.known f xs at).known.found;
    all = λ x found.
        let its = found-code f (to_exit x) found in
        (all-found f xs its.0 its.1 at).all x (found-end f (to_exit x) found xs at);
  }

  callees-end : (f g : ℕ) (xs : List Shape) → slice_get cs f ≡ Some (Some xs) → IsAmong (callees_of codes f) g
      → has_list (slice_get cs g) ≡ true
  callees-end f g xs at called = by (code_at codes f) refl
    where
      by : (o : Option Code) → code_at codes f ≡ o → has_list (slice_get cs g) ≡ true
      by None none = absurd (none-called codes f g none called)
      by (Some code) is = ap has_list ((all-found f xs code is at).callees g called).1.0

  pub settling-end : AreAllClasses codes cs
  settling-end = record {
    count = s.count;
    classes = all-classes codes cs (λ f xs at. (s.known f xs at).known);
    exits = exits-end;
    large = s.large;
    callees = callees-end;
  }
