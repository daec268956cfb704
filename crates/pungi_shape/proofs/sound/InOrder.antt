-- Numbers in order, each once; members of lists of lists; instructions of a code.
use Rattle.std.proofs.Common.{◌≡◌, ◌≢◌, inl, inr, ℕ, zero, suc, ◌<◌, Bool, true, false, T, List, [], ◌∷◌, length}
use Rattle.std.proofs.Common.{get_or, refl, sym, ap, ◌∙◌, subst, arith, Some}
use Rattle.std.specs.Prelude.{slice_get}
use Rattle.std.specs.List.{AllPairs, IsAmong, flat_map, list_all}
use Rattle.std.specs.Ordering.{nat_cmp, is_lt}
use Rattle.std.specs.FinMap.Entries.{is_sorted, below_all, is_sorted-put}
use Rattle.std.proofs.lemmas.Bool.{false≢true}
use Rattle.std.proofs.lemmas.Cmp.{nat_cmp_total, tied_itself}
use Rattle.std.proofs.lemmas.Map.Lookups.{exact_unsigned}
use Rattle.std.proofs.lemmas.Option.{slice_get_within, get_or_from_slice_get}
use Rattle.pungi_code.specs.declared.code.Line.{Line}
use Rattle.pungi_shape.specs.Named.{put_all, in_order}
use Rattle.pungi_shape.proofs.sound.Ordered.{keys, Stands, put_has, put_keeps, put_only}
use Rattle.pungi_shape.proofs.sound.Members.{nothing_in, first_among, later_among, one_of, among_append}
use Rattle.pungi_shape.proofs.sound.Tests.{both_true}

-- ---- numbers in order

pub numbers_only : (ns : List ℕ) (k : ℕ) → IsAmong (in_order ns) k → IsAmong ns k
numbers_only [] k there = there
numbers_only (n ∷ ns) k there = elim (put_only nat_cmp n (put_all ns) k there) [
  | inl e ↦ (0, (omega arith, e))
  | inr old ↦ later_among n ns k (numbers_only ns k old)
]

numbers_stand : (ns : List ℕ) (k : ℕ) → IsAmong ns k → Stands nat_cmp (in_order ns) k
numbers_stand [] k there = absurd (nothing_in k there)
numbers_stand (n ∷ ns) k there = elim (one_of n ns k there) [
  | inl e ↦ subst (Stands nat_cmp (in_order (n ∷ ns))) (sym e)
      (put_has nat_cmp (tied_itself nat_cmp_total) n (put_all ns))
  | inr rest ↦ let s = numbers_stand ns k rest in (s.0, (put_keeps nat_cmp n (put_all ns) s.0 s.1.0, s.1.1))
]

pub numbers_have : (ns : List ℕ) (k : ℕ) → IsAmong ns k → IsAmong (in_order ns) k
numbers_have ns k there =
    let s = numbers_stand ns k there in subst (IsAmong (in_order ns)) (sym (exact_unsigned k s.0 s.1.1)) s.1.0

t_true : (b : Bool) → T b → b ≡ true
t_true true t = refl
t_true false t = absurd t

sorted_all : (ns : List ℕ) → T (is_sorted nat_cmp (put_all ns))
sorted_all [] = tt
sorted_all (n ∷ ns) = is_sorted-put nat_cmp nat_cmp_total n tt (put_all ns) (sorted_all ns)

less_differs : (a b : ℕ) → is_lt (nat_cmp a b) ≡ true → a ≢ b
less_differs a b lt e =
    false≢true (sym (ap is_lt (ap (nat_cmp a) (sym e) ∙ tied_itself nat_cmp_total a)) ∙ lt)

below_differs : (n : ℕ) (es : List (ℕ × Unit {0})) (j d : ℕ) → below_all nat_cmp n es ≡ true → j < length (keys es)
    → n ≢ get_or (keys es) j d
below_differs n [] j d all lt = absurd (omega (arith, lt))
below_differs n (e ∷ es) zero d all lt =
    less_differs n e.0 (both_true (is_lt (nat_cmp n e.0)) (below_all nat_cmp n es) all).0
below_differs n (e ∷ es) (suc j) d all lt =
    below_differs n es j d (both_true (is_lt (nat_cmp n e.0)) (below_all nat_cmp n es) all).1 (omega (arith, lt))

sorted_differ : (es : List (ℕ × Unit {0})) → is_sorted nat_cmp es ≡ true → (i j d : ℕ) → i < j → j < length (keys es)
    → get_or (keys es) i d ≢ get_or (keys es) j d
sorted_differ [] all i j d lt in_j = absurd (omega (arith, in_j))
sorted_differ (e ∷ es) all zero zero d lt in_j = absurd (omega (arith, lt))
sorted_differ (e ∷ es) all zero (suc j) d lt in_j =
    below_differs e.0 es j d (both_true (below_all nat_cmp e.0 es) (is_sorted nat_cmp es) all).0 (omega (arith, in_j))
sorted_differ (e ∷ es) all (suc i) zero d lt in_j = absurd (omega (arith, lt))
sorted_differ (e ∷ es) all (suc i) (suc j) d lt in_j =
    sorted_differ es (both_true (below_all nat_cmp e.0 es) (is_sorted nat_cmp es) all).1 i j d (omega (arith, lt))
    (omega (arith, in_j))

pub numbers_differ : (ns : List ℕ) → AllPairs (λ k l. k ≢ l) (in_order ns)
numbers_differ ns i j d lt in_j =
    sorted_differ (put_all ns) (t_true (is_sorted nat_cmp (put_all ns)) (sorted_all ns)) i j d lt in_j

-- ---- lists of lists

pub among_some : {X Y : Type 0} (f : X → List Y) (xs : List X) (y : Y) → IsAmong (flat_map f xs) y
    → (x : X) × (IsAmong xs x × IsAmong (f x) y)
among_some f [] y there = absurd (nothing_in y there)
among_some f (x ∷ xs) y there = elim (among_append (f x) (flat_map f xs) y there) [
  | inl here ↦ (x, (first_among x xs, here))
  | inr rest ↦ let s = among_some f xs y rest in (s.0, (later_among x xs s.0 s.1.0, s.1.1))
]

pub list_all_of : {X : Type 0} (f : X → Bool) (xs : List X) (x : X) → list_all f xs ≡ true → IsAmong xs x → f x ≡ true
list_all_of f [] x all there = absurd (nothing_in x there)
list_all_of f (y ∷ xs) x all there =
    let both = both_true (f y) (list_all f xs) all in
    elim (one_of y xs x there) [
      | inl e ↦ ap f e ∙ both.0
      | inr rest ↦ list_all_of f xs x both.1 rest
    ]

pub line_among : (lines : List Line) (pc : ℕ) (line : Line) → slice_get lines pc ≡ Some line → IsAmong lines line
line_among lines pc line e =
    (pc, (slice_get_within lines pc line e, sym (get_or_from_slice_get lines pc line line e)))
