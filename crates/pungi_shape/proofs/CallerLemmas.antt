-- Lists of callers, as functions are put into them.
use Rattle.std.proofs.Common.{◌≡◌, ◌⊎◌, inl, inr, ℕ, ◌<◌, List, [], ◌∷◌, ◌++◌, length, replicate, refl, sym}
use Rattle.std.proofs.Common.{subst, arith, ◌∙◌, zero, suc, Some}
use Rattle.std.specs.Prelude.{slice_get, slice_set}
use Rattle.std.specs.List.{IsAmong}
use Rattle.std.proofs.lemmas.Bool.{cases_eq, cases_lt}
use Rattle.std.proofs.lemmas.List.{get_or-set_same, get_or-set_other, get_or-replicate, get_or_past, length-replicate}
use Rattle.std.proofs.lemmas.List.{length-set}
use Rattle.pungi_links.specs.Ring.{Stands}
use Rattle.pungi_shape.specs.Callers.{AreNoted, callers_of}
use Rattle.pungi_shape.proofs.sound.Members.{among_append, nothing_in, one_of}

-- ---- numbers that stand in a list

pub stands-left : (x : ℕ) (xs ys : List ℕ) → Stands x xs → Stands x (xs ++ ys)
stands-left x [] ys h = absurd h
stands-left x (y ∷ xs) ys (inl e) = inl e
stands-left x (y ∷ xs) ys (inr h) = inr (stands-left x xs ys h)

pub stands-right : (x : ℕ) (xs ys : List ℕ) → Stands x ys → Stands x (xs ++ ys)
stands-right x [] ys h = h
stands-right x (y ∷ xs) ys h = inr (stands-right x xs ys h)

pub stands-split : (x : ℕ) (xs ys : List ℕ) → Stands x (xs ++ ys) → Stands x xs ⊎ Stands x ys
stands-split x [] ys h = inr h
stands-split x (y ∷ xs) ys (inl e) = inl (inl e)
stands-split x (y ∷ xs) ys (inr h) = elim (stands-split x xs ys h) [ inl here ↦ inl (inr here) | inr on ↦ inr on ]

pub stands-last : (x : ℕ) (xs : List ℕ) → Stands x (xs ++ x ∷ [])
stands-last x [] = inl refl
stands-last x (y ∷ xs) = inr (stands-last x xs)

pub stands-push : (x y : ℕ) (xs : List ℕ) → Stands x (xs ++ y ∷ []) → Stands x xs ⊎ (x ≡ y)
stands-push x y [] (inl e) = inr e
stands-push x y [] (inr h) = absurd h
stands-push x y (z ∷ xs) (inl e) = inl (inl e)
stands-push x y (z ∷ xs) (inr h) = elim (stands-push x y xs h) [ inl here ↦ inl (inr here) | inr e ↦ inr e ]

pub stands-at : (xs : List ℕ) (k x : ℕ) → slice_get xs k ≡ Some x → Stands x xs
stands-at [] k x e = absurd (cc)
stands-at (y ∷ xs) zero x e = inl (cc)
stands-at (y ∷ xs) (suc k) x e = inr (stands-at xs k x e)

-- ---- a function that is put into lists

pub noted-none : (f : ℕ) (lists : List (List ℕ)) → AreNoted f [] lists lists
noted-none f lists = record {
  count = refl;
  kept = λ h g s. s;
  there = λ g here. absurd (nothing_in g here);
  only = λ h g s. inl s;
}

pub noted-before : (f g : ℕ) (lists : List (List ℕ)) → Stands f (callers_of lists g) → AreNoted f (g ∷ []) lists lists
noted-before f g lists stands = record {
  count = refl;
  kept = λ h k s. s;
  there = λ k here. elim (one_of g [] k here) [
    | inl e ↦ subst (λ n. Stands f (callers_of lists n)) (sym e) stands
    | inr rest ↦ absurd (nothing_in k rest)
  ];
  only = λ h k s. inl s;
}

pub noted-now : (f g : ℕ) (lists : List (List ℕ)) → g < length lists
    → AreNoted f (g ∷ []) lists (slice_set lists g (callers_of lists g ++ f ∷ []))
noted-now f g lists lt =
    let new = callers_of lists g ++ f ∷ [] in
    let same : callers_of (slice_set lists g new) g ≡ new = get_or-set_same lists g new [] lt in
    record {
      count = length-set lists g new;
      kept = λ h k s. elim (cases_eq k g) [
        | inl e ↦ subst (λ n. Stands h (callers_of (slice_set lists g new) n)) (sym e)
            (subst (Stands h) (sym same)
            (stands-left h (callers_of lists g) (f ∷ []) (subst (λ n. Stands h (callers_of lists n)) e s)))
        | inr differ ↦ subst (Stands h) (sym (get_or-set_other lists g k new [] differ)) s
      ];
      there = λ k here. elim (one_of g [] k here) [
        | inl e ↦ subst (λ n. Stands f (callers_of (slice_set lists g new) n)) (sym e)
            (subst (Stands f) (sym same) (stands-last f (callers_of lists g)))
        | inr rest ↦ absurd (nothing_in k rest)
      ];
      only = λ h k s. elim (cases_eq k g) [
        | inl e ↦ elim (stands-push h f (callers_of lists g)
            (subst (Stands h) same (subst (λ n. Stands h (callers_of (slice_set lists g new) n)) e s))) [
              | inl old ↦ inl (subst (λ n. Stands h (callers_of lists n)) (sym e) old)
              | inr new ↦ inr new
            ]
        | inr differ ↦ inl (subst (Stands h) (get_or-set_other lists g k new [] differ) s)
      ];
    }

pub noted-append : (f : ℕ) (gs hs : List ℕ) (a b c : List (List ℕ)) → AreNoted f gs a b → AreNoted f hs b c
    → AreNoted f (gs ++ hs) a c
noted-append f gs hs a b c one two = record {
  count = two.count ∙ one.count;
  kept = λ h g s. two.kept h g (one.kept h g s);
  there = λ g here. elim (among_append gs hs g here) [
    | inl first ↦ two.kept f g (one.there g first)
    | inr second ↦ two.there g second
  ];
  only = λ h g s. elim (two.only h g s) [
    | inl before ↦ one.only h g before
    | inr new ↦ inr new
  ];
}

-- the same functions in another list
pub noted-as : (f : ℕ) (gs hs : List ℕ) (a b : List (List ℕ)) → ((g : ℕ) → IsAmong hs g → IsAmong gs g)
    → AreNoted f gs a b → AreNoted f hs a b
noted-as f gs hs a b same noted = record {
  count = noted.count;
  kept = noted.kept;
  there = λ g here. noted.there g (same g here);
  only = noted.only;
}

-- ---- lists of no callers

pub no-callers : (n h g : ℕ) → Stands h (callers_of (replicate n []) g) → ⊥
no-callers n h g s =
    let none : List ℕ = [] in
    let lists : List (List ℕ) = replicate n none in
    let long : length lists ≡ n = length-replicate n none in
    elim (cases_lt g n) [
      | inl lt ↦ subst (Stands h) (get_or-replicate n g none none lt) s
      | inr le ↦ subst (Stands h) (get_or_past lists g none (omega (arith, long, le))) s
    ]
