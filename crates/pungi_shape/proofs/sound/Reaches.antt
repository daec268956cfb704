-- What a function reaches by calls, its callers reach too: no chain of calls needs to go through a function twice.
--   without f fs            a list of numbers without one
--   Path codes fs f h       a chain of calls from a function to another, where each that calls is one of these
--   After codes fs f h      one from a function that f calls
use Rattle.std.proofs.Common.{◌≡◌, ◌⊎◌, inl, inr, ℕ, zero, suc, ◌<◌, ◌≤◌, Bool, true, false, cond, not, List, [], ◌∷◌}
use Rattle.std.proofs.Common.{length, refl, sym, ap, ◌∙◌, subst, arith, Option, Some, None, slice_get}
use Rattle.std.specs.Prelude.{◌==◌}
use Rattle.std.specs.List.{IsAmong, filter, flat_map, range_with_len}
use Rattle.std.proofs.lemmas.Bool.Decides.{eqb_tells}
use Rattle.std.proofs.lemmas.List.FromFn.{length-range_with_len, get_or-range_with_len}
use Rattle.std.proofs.lemmas.Option.{slice_get_within}
use Rattle.pungi_code.specs.declared.code.Code.{Code}
use Rattle.pungi_code.specs.declared.code.Codes.{Codes}
use Rattle.pungi_code.specs.Frames.{flatten}
use Rattle.pungi_code.specs.Run.{code_at}
use Rattle.pungi_shape.specs.Named.{callees_in, lines_of, callees_of, functions_within, functions_from}
use Rattle.pungi_shape.specs.Reaching.{ReachesByCalls, itself, by_call}
use Rattle.pungi_shape.proofs.sound.Members.{nothing_in, first_among, later_among, one_of, among_each}
use Rattle.pungi_shape.proofs.sound.InOrder.{numbers_only, numbers_have, among_some}
use Rattle.pungi_shape.proofs.sound.Tests.{eqb_self}

-- ---- lists without a number

abbrev without : ℕ → List ℕ → List ℕ
without f fs = filter (λ g. not (g == f)) fs

without_short : (f : ℕ) (fs : List ℕ) → length (without f fs) ≤ length fs
without_short f [] = omega arith
without_short f (g ∷ fs) = by (not (g == f)) (without_short f fs)
  where
    by : (b : Bool) → length (without f fs) ≤ length fs
        → length (cond b (g ∷ without f fs) (without f fs)) ≤ length (g ∷ fs)
    by true le = omega (arith, le)
    by false le = omega (arith, le)

without_less : (f : ℕ) (fs : List ℕ) → IsAmong fs f → length (without f fs) < length fs
without_less f [] there = absurd (nothing_in f there)
without_less f (g ∷ fs) there = elim (one_of g fs f there) [
  | inl e ↦
      let same : not (g == f) ≡ false = ap (λ h. not (h == f)) (sym e) ∙ ap not (eqb_self f) in
      let le = without_short f fs in
      subst (λ b. length (cond b (g ∷ without f fs) (without f fs)) < length (g ∷ fs)) (sym same) (omega (arith, le))
  | inr rest ↦ by (not (g == f)) (without_less f fs rest)
]
  where
    by : (b : Bool) → length (without f fs) < length fs
        → length (cond b (g ∷ without f fs) (without f fs)) < length (g ∷ fs)
    by true lt = omega (arith, lt)
    by false lt = omega (arith, lt)

without_has : (f g : ℕ) (fs : List ℕ) → (g == f) ≡ false → IsAmong fs g → IsAmong (without f fs) g
without_has f g [] ne there = absurd (nothing_in g there)
without_has f g (h ∷ fs) ne there = elim (one_of h fs g there) [
  | inl e ↦
      let keeps : not (h == f) ≡ true = ap (λ k. not (k == f)) (sym e) ∙ ap not ne in
      subst (λ b. IsAmong (cond b (h ∷ without f fs) (without f fs)) g) (sym keeps)
      (subst (IsAmong (h ∷ without f fs)) (sym e) (first_among h (without f fs)))
  | inr rest ↦ by (not (h == f)) (without_has f g fs ne rest)
]
  where
    by : (b : Bool) → IsAmong (without f fs) g → IsAmong (cond b (h ∷ without f fs) (without f fs)) g
    by true in_rest = later_among h (without f fs) g in_rest
    by false in_rest = in_rest

-- ---- chains of calls

data Path (codes : Codes) (fs : List ℕ) : ℕ → ℕ → Type 0 where
  ends : (f : ℕ) → Path codes fs f f
  calls : (f g h : ℕ) → IsAmong fs f → IsAmong (callees_of codes f) g → Path codes fs g h → Path codes fs f h

record After (codes : Codes) (fs : List ℕ) (f h : ℕ) : Type 0 where
  next : ℕ
  called : IsAmong (callees_of codes f) next
  path : Path codes fs next h

-- the last time that a chain goes through a function
cut : (codes : Codes) (fs : List ℕ) (f g h : ℕ) → Path codes fs g h
    → Path codes (without f fs) g h ⊎ After codes (without f fs) f h
cut codes fs f _ _ (ends g) = inl (ends g)
cut codes fs f _ _ (calls g k h there called path) = elim (cut codes fs f k h path) [
  | inr after ↦ inr after
  | inl rest ↦ elim (eqb_tells g f) [
    | inl e ↦ inr (record { next = k; called = subst (λ z. IsAmong (callees_of codes z) k) e.1 called; path = rest })
    | inr e ↦ inl (calls g k h (without_has f g fs e.0 there) called rest)
  ]
]

within_itself : (codes : Codes) (n f : ℕ) → IsAmong (functions_within codes n f) f
within_itself codes zero f = first_among f []
within_itself codes (suc n) f = first_among f (flat_map (functions_within codes n) (callees_of codes f))

path_within : (codes : Codes) (n : ℕ) (fs : List ℕ) (f h : ℕ) → length fs ≤ n → Path codes fs f h
    → IsAmong (functions_within codes n f) h
path_within codes n fs _ _ short (ends f) = within_itself codes n f
path_within codes zero fs _ _ short (calls f g h there called path) =
    let lt = there.1.0 in absurd (omega (arith, short, lt))
path_within codes (suc n) fs _ _ short (calls f g h there called path) =
    let less = without_less f fs there in
    let fewer : length (without f fs) ≤ n = omega (arith, short, less) in
    let each = λ (k : ℕ) (by : IsAmong (callees_of codes f) k) (rest : Path codes (without f fs) k h).
    later_among f (flat_map (functions_within codes n) (callees_of codes f)) h
    (among_each (functions_within codes n) (callees_of codes f) k h by
    (path_within codes n (without f fs) k h fewer rest)) in
    elim (cut codes fs f g h path) [
      | inl rest ↦ each g called rest
      | inr after ↦ each after.next after.called after.path
    ]

-- ---- functions that have code

abbrev file_of : Codes → List ℕ
file_of codes = range_with_len 0 (length codes.codes)

below_file : (codes : Codes) (f : ℕ) → f < length codes.codes → IsAmong (file_of codes) f
below_file codes f lt =
    let n = length codes.codes in
    let long = length-range_with_len 0 n in
    let here = get_or-range_with_len 0 n f f lt in
    (f, (omega (arith, lt, long), omega arith ∙ sym here))

flat_there : (cs : List (Option Code)) (f : ℕ) (code : Code) → flatten (slice_get cs f) ≡ Some code → f < length cs
flat_there cs f code e = by (slice_get cs f) refl e
  where
    by : (o : Option (Option Code)) → slice_get cs f ≡ o → flatten o ≡ Some code → f < length cs
    by None at has = absurd (cc)
    by (Some c) at has = slice_get_within cs f c at

has_code : (codes : Codes) (f g : ℕ) → IsAmong (callees_of codes f) g → f < length codes.codes
has_code codes f g called = by (code_at codes f) refl (numbers_only _ g called)
  where
    by : (o : Option Code) → code_at codes f ≡ o → IsAmong (flat_map callees_in (lines_of o)) g
        → f < length codes.codes
    by None is there = absurd (nothing_in g there)
    by (Some code) is there = flat_there codes.codes f code is

join : (codes : Codes) (fs : List ℕ) (f g h : ℕ) → Path codes fs f g → Path codes fs g h → Path codes fs f h
join codes fs _ _ h (ends f) after = after
join codes fs _ _ h (calls f k g there called path) after = calls f k h there called (join codes fs k g h path after)

path_of : (codes : Codes) (n f h : ℕ) → IsAmong (functions_within codes n f) h → Path codes (file_of codes) f h
path_of codes zero f h there = elim (one_of f [] h there) [
  | inl e ↦ subst (λ z. Path codes (file_of codes) f z) (sym e) (ends f)
  | inr rest ↦ absurd (nothing_in h rest)
]
path_of codes (suc n) f h there =
    elim (one_of f (flat_map (functions_within codes n) (callees_of codes f)) h there) [
      | inl e ↦ subst (λ z. Path codes (file_of codes) f z) (sym e) (ends f)
      | inr rest ↦
          let some = among_some (functions_within codes n) (callees_of codes f) h rest in
          calls f some.0 h (below_file codes f (has_code codes f some.0 some.1.0)) some.1.0
          (path_of codes n some.0 h some.1.1)
    ]

-- ---- what is reached

reached_by : (codes : Codes) (f h : ℕ) → Path codes (file_of codes) f h → IsAmong (functions_from codes f) h
reached_by codes f h path =
    let n = length codes.codes in
    let long = length-range_with_len 0 n in
    numbers_have (functions_within codes n f) h
    (path_within codes n (file_of codes) f h (omega (arith, long)) path)

path_from : (codes : Codes) (f h : ℕ) → IsAmong (functions_from codes f) h → Path codes (file_of codes) f h
path_from codes f h there =
    path_of codes (length codes.codes) f h (numbers_only (functions_within codes (length codes.codes) f) h there)

-- a function reaches itself
pub from_itself : (codes : Codes) (f : ℕ) → IsAmong (functions_from codes f) f
from_itself codes f = reached_by codes f f (ends f)

one_call : (codes : Codes) (g h : ℕ) → IsAmong (callees_of codes g) h → Path codes (file_of codes) g h
one_call codes g h called = calls g h h (below_file codes g (has_code codes g h called)) called (ends h)

-- what is called by a function that is reached is reached
pub from_call : (codes : Codes) (f g h : ℕ) → IsAmong (functions_from codes f) g → IsAmong (callees_of codes g) h
    → IsAmong (functions_from codes f) h
from_call codes f g h there called =
    reached_by codes f h (join codes (file_of codes) f g h (path_from codes f g there) (one_call codes g h called))

-- what a called function reaches its caller reaches
pub from_callee : (codes : Codes) (g h k : ℕ) → IsAmong (callees_of codes g) h → IsAmong (functions_from codes h) k
    → IsAmong (functions_from codes g) k
from_callee codes g h k called there =
    reached_by codes g k (join codes (file_of codes) g h k (one_call codes g h called) (path_from codes h k there))

-- ---- reaching by calls

along : (codes : Codes) (f h : ℕ) → Path codes (file_of codes) f h → ReachesByCalls codes f h
along codes _ _ (ends f) = itself f
along codes _ _ (calls f g h there called path) = by_call f g h called (along codes g h path)

pub by_calls : (codes : Codes) (f h : ℕ) → IsAmong (functions_from codes f) h → ReachesByCalls codes f h
by_calls codes f h there = along codes f h (path_from codes f h there)

pub from_calls : (codes : Codes) (f h : ℕ) → ReachesByCalls codes f h → IsAmong (functions_from codes f) h
from_calls codes _ _ (itself f) = from_itself codes f
from_calls codes _ _ (by_call f g h called reaches) = from_callee codes f g h called (from_calls codes g h reaches)
