-- The affine programs of the functions of a file, as they are made, and which of them a function reaches.
use Rattle.std.proofs.Common.{◌≡◌, ◌∙◌, ◌⊎◌, inl, inr, ℕ, zero, suc, ◌+◌, ◌<◌, ◌≤◌, true, List, [], ◌∷◌, ◌++◌, length}
use Rattle.std.proofs.Common.{Option, Some, None, refl, sym, ap, subst}
use Rattle.std.proofs.Common.{slice_get, get_or, arith}
use Rattle.std.specs.List.{All, slice_index_or}
use Rattle.std.proofs.Math.Seq.{get_or-append_seam}
use Rattle.std.proofs.lemmas.Bool.{cases_lt}
use Rattle.std.proofs.lemmas.List.{get_or_default, length-append}
use Rattle.std.proofs.lemmas.List.Elements.{All-weaker}
use Rattle.std.proofs.lemmas.Option.{get_or_from_slice_get, slice_get_within, slice_get-get_or}
use Rattle.pungi_domain.specs.declared.action.Action.{Action}
use Rattle.pungi_domain.specs.declared.action.Action.TheVariants as action
use Rattle.pungi_domain.specs.declared.affine_edge.AffineEdge.{AffineEdge}
use Rattle.pungi_domain.specs.declared.affine_program.AffineProgram.{AffineProgram}
use Rattle.pungi_fixpoint.specs.Summaries.{flatten}
use Rattle.pungi_summary.specs.Calls.{AreCallable, HasClass, IsCallable, IsCalled, Reaches}
use Rattle.pungi_summary.specs.Calls.{callees_of as called_by_list, program_of, reaches_by, reaches_self}
use Rattle.pungi_code.specs.declared.code.Code.{Code}
use Rattle.pungi_code.specs.declared.code.Codes.{Codes}
use Rattle.pungi_code.specs.Run.{code_at}
use Rattle.pungi_shape.specs.declared.shape.Shape.{Shape}
use Rattle.pungi_shape.specs.Callables.{CallsFitPrograms, IsCallOf}
use Rattle.pungi_shape.specs.Named.{callees_of}
use Rattle.pungi_shape.specs.AllClasses.{AreAllClasses}
use Rattle.pungi_shape.specs.Classes.{ClassLists, classes_of, has_list, list_of}
use Rattle.pungi_shape.specs.Programs.{AreExits, HasManyPlaces, HasWidePlace, IsTooLarge}
use Rattle.pungi_shape.specs.Reaching.{FunctionsAreReached, ReachesByCalls, by_call, itself}
use Rattle.pungi_verdict.specs.Across.{AreCallees, ArePrograms, AreProgramsAmong, IsProgramAmong}

-- ---- what is reached

module _ (codes : Codes) (ns : List (List ℕ)) (are : AreCallees codes ns) where
  pub reaches-called : (f h : ℕ) → ReachesByCalls codes f h → Reaches ns f h
  reaches-called _ _ (itself f) = reaches_self f
  reaches-called _ _ (by_call f g h called rest) = reaches_by f g h ((are.calls f g).1 called) (reaches-called g h rest)

  pub called-reaches : (f h : ℕ) → Reaches ns f h → ReachesByCalls codes f h
  called-reaches _ _ (reaches_self f) = itself f
  called-reaches _ _ (reaches_by f g h called rest) = by_call f g h ((are.calls f g).0 called) (called-reaches g h rest)

  -- a function that reaches one that is too large is so
  pub reaches-large : FunctionsAreReached → (f g : ℕ) → Reaches ns f g → IsTooLarge codes g → IsTooLarge codes f
  reaches-large law f g reaches large = record {
    function = large.function;
    is_called = (law codes f large.function).1 (join f g (called-reaches f g reaches)
        ((law codes g large.function).0 large.is_called));
    large = large.large;
  }
    where
      join : (h k : ℕ) → ReachesByCalls codes h k → ReachesByCalls codes k large.function
          → ReachesByCalls codes h large.function
      join _ _ (itself h) after = after
      join _ _ (by_call h i k called rest) after = by_call h i large.function called (join i k rest after)

-- ---- programs

program-there : (ps : List (Option AffineProgram)) (f : ℕ) (p : AffineProgram) → program_of ps f ≡ Some p
    → slice_get ps f ≡ Some (Some p)
program-there ps f p e = by (slice_get ps f) refl e
  where
    by : (o : Option (Option AffineProgram)) → slice_get ps f ≡ o → flatten o ≡ Some p → slice_get ps f ≡ Some (Some p)
    by None is e = absurd (cc)
    by (Some o) is e = is ∙ ap (λ (x : Option AffineProgram). Some x) e

module _ (codes : Codes) (others : ℕ → List Shape) (ps : List (Option AffineProgram))
    (are : AreProgramsAmong codes others ps) where
  pub made : (f : ℕ) (p : AffineProgram) → program_of ps f ≡ Some p → IsProgramAmong codes others f (Some p)
  made f p e = are.each f (Some p) (program-there ps f p e)

  made-none : (f : ℕ) (code : Code) → code_at codes f ≡ Some code → f < length codes.codes → program_of ps f ≡ None
      → IsTooLarge codes f
  made-none f code is lt e = by (slice_get ps f) refl e
    where
      by : (o : Option (Option AffineProgram)) → slice_get ps f ≡ o → flatten o ≡ None → IsTooLarge codes f
      by None at e =
          let there = slice_get-get_or ps f None (subst (λ n. f < n) (sym are.count) lt) in absurd (cc)
      by (Some o) at e = are.each f None (at ∙ ap (λ (x : Option AffineProgram). Some x) e) code is

  pub are-programs : ((f : ℕ) (code : Code) → code_at codes f ≡ Some code → f < length codes.codes)
      → ArePrograms codes ps
  are-programs below = record {
    count = are.count;
    each = λ f p e. (made f p e).0;
    none = λ f code is e. made-none f code is (below f code is) e;
  }

  pub are-callable : CallsFitPrograms → (ns : List (List ℕ)) → AreCallees codes ns
      → ((f g : ℕ) → IsCalled ns f g → g < length codes.codes) → AreCallable ps ns
  are-callable law ns callees below = record {
    count = callees.count ∙ sym are.count;
    below = λ f g called. subst (λ n. g < n) (sym are.count) (below f g called);
    well_formed = λ f p e. (made f p e).2;
    calls = λ f p e. All-weaker (λ (d : AffineEdge). IsCallOf codes others f d.action)
        (λ (d : AffineEdge). IsCallable ps (called_by_list ns f) d.action) (λ d of. fits f d.action of) p.edges
        (made f p e).3;
  }
    where
      has-class : (f g n : ℕ) (onto : List ℕ) (o : Option AffineProgram) → program_of ps g ≡ o
          → IsCallOf codes others f (action.Call g n onto) → HasClass o n (length onto)
      has-class f g n onto None is call = tt
      has-class f g n onto (Some p) is call =
          let there = made g p is in law codes others f g n onto p call there.1 there.0

      fits : (f : ℕ) (a : Action) → IsCallOf codes others f a → IsCallable ps (called_by_list ns f) a
      fits f (action.Map m) of = tt
      fits f (action.Free k) of = tt
      fits f (action.Call g n onto) of =
          ((callees.calls f g).1 of.called, has-class f g n onto (program_of ps g) refl of)

-- ---- exit classes

-- a function that has a list of exit classes
listed-as : (codes : Codes) (cs : ClassLists) → AreAllClasses codes cs → (f : ℕ) (o : Option (Option (List Shape)))
    → slice_get cs f ≡ o → has_list o ≡ true → AreExits codes f (list_of o)
listed-as codes cs all f None is has = absurd (cc)
listed-as codes cs all f (Some None) is has = absurd (cc)
listed-as codes cs all f (Some (Some xs)) is has = all.exits f xs is

pub listed : (codes : Codes) (cs : ClassLists) → AreAllClasses codes cs → (f : ℕ) → has_list (slice_get cs f) ≡ true
    → AreExits codes f (classes_of cs f)
listed codes cs all f has = listed-as codes cs all f (slice_get cs f) refl has

list-there : (o : Option (Option (List Shape))) → has_list o ≡ true → (xs : List Shape) × (o ≡ Some (Some xs))
list-there None has = absurd (cc)
list-there (Some None) has = absurd (cc)
list-there (Some (Some xs)) has = (xs, refl)

pub callees-listed : (codes : Codes) (cs : ClassLists) → AreAllClasses codes cs → (f : ℕ)
    → has_list (slice_get cs f) ≡ true → All (λ g. AreExits codes g (classes_of cs g)) (callees_of codes f)
callees-listed codes cs all f has i d lt =
    let own = list-there (slice_get cs f) has in
    let g = slice_index_or (callees_of codes f) i d in
    listed codes cs all g (all.callees f g own.0 own.1 (i, (lt, get_or_default (callees_of codes f) i d g lt)))

-- a function that is too large itself
pub itself-large : FunctionsAreReached → (codes : Codes) (f : ℕ) → HasManyPlaces codes f ⊎ HasWidePlace codes f
    → IsTooLarge codes f
itself-large law codes f large =
    record { function = f; is_called = (law codes f f).1 (itself f); large = large }

-- ---- programs, one after the other

abbrev AreMadeBelow : Codes → (ℕ → List Shape) → List (Option AffineProgram) → ℕ → Type 0
AreMadeBelow codes others list k =
    (length list ≡ k) × ((f : ℕ) (o : Option AffineProgram) → slice_get list f ≡ Some o
    → IsProgramAmong codes others f o)

slice-before : {A : Type 0} (xs ys : List A) (i : ℕ) → i < length xs → slice_get (xs ++ ys) i ≡ slice_get xs i
slice-before [] ys i lt = absurd (omega (arith, lt))
slice-before (x ∷ xs) ys zero lt = refl
slice-before (x ∷ xs) ys (suc i) lt = slice-before xs ys i (omega (arith, lt))

pub programs-next : (codes : Codes) (others : ℕ → List Shape) (list new : List (Option AffineProgram)) (k : ℕ)
    (p : Option AffineProgram) → new ≡ list ++ p ∷ [] → AreMadeBelow codes others list k
    → IsProgramAmong codes others k p → AreMadeBelow codes others new (k + 1)
programs-next codes others list new k p pushed below is =
    subst (λ (l : List (Option AffineProgram)). AreMadeBelow codes others l (k + 1)) (sym pushed) (
      let long = length-append list (p ∷ []) in let same = below.0 in omega (arith, long, same),
      λ f o at. elim (cases_lt f k) [
        | inl less ↦ below.1 f o (sym (before f less) ∙ at)
        | inr ge ↦ last f o ge at
      ],
    )
  where
    before : (f : ℕ) → f < k → slice_get (list ++ p ∷ []) f ≡ slice_get list f
    before f less = slice-before list (p ∷ []) f (let same = below.0 in omega (arith, same, less))

    last : (f : ℕ) (o : Option AffineProgram) → k ≤ f → slice_get (list ++ p ∷ []) f ≡ Some o
        → IsProgramAmong codes others f o
    last f o ge at =
        let within = slice_get_within (list ++ p ∷ []) f o at in
        let long = length-append list (p ∷ []) in
        let same = below.0 in
        let here : f ≡ k = omega (arith, within, long, same, ge) in
        let read : get_or (list ++ p ∷ []) f o ≡ o = get_or_from_slice_get (list ++ p ∷ []) f o o at in
        let newest : get_or (list ++ p ∷ []) f o ≡ p =
        subst (λ n. get_or (list ++ p ∷ []) n o ≡ p) (same ∙ sym here) (get_or-append_seam list p [] o) in
        subst (λ n. IsProgramAmong codes others n o) (sym here)
        (subst (IsProgramAmong codes others k) (sym newest ∙ read) is)

pub programs-all : (codes : Codes) (others : ℕ → List Shape) (list : List (Option AffineProgram)) (k : ℕ)
    → length codes.codes ≤ k → k ≤ length codes.codes → AreMadeBelow codes others list k
    → AreProgramsAmong codes others list
programs-all codes others list k past within below =
    record { count = let same = below.0 in omega (arith, same, past, within); each = below.1 }

-- the program of a function as a program reads it
pub read-program : (ps items : List (Option AffineProgram)) (f : ℕ) (o : Option AffineProgram) → items ≡ ps
    → f < length items → o ≡ get_or items f o → program_of ps f ≡ o
read-program ps items f o same lt is =
    ap (λ (l : List (Option AffineProgram)). flatten (slice_get l f)) (sym same)
    ∙ ap flatten (slice_get-get_or items f o lt) ∙ sym is
