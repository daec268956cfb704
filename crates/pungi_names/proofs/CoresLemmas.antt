-- What is found of a typedef is what it leads to, and what kinds see of it.
use Rattle.std.proofs.Common.{◌≡◌, ℕ, ◌+◌, ◌==◌, ◌≤◌, Bool, true, false, ◌&&◌, cond, Option, None, Some, option_map}
use Rattle.std.proofs.Common.{is_some, refl, sym, ap, ◌∙◌, List, arith}
use Rattle.std.specs.Prelude.{nat_le}
use Rattle.std.proofs.lemmas.Bool.Decides.{nat_tests}
use Rattle.pungi_tree.specs.Syntax.{Item}
use Rattle.pungi_types.specs.Files.{typedefs}
use Rattle.pungi_types.specs.Kinds.{Core, base_words, builtin, struct_of, no_core, Followed, core_kind, is_listed_type}
use Rattle.pungi_types.specs.Kinds.{typedef_in}
use Rattle.pungi_names.specs.Depth.{nowhere, with_stars, known, known_at, found_within}
use Rattle.pungi_names.specs.Finds.{reached_view}
use Rattle.pungi_names.specs.Walk.{AllReach, ReachesSome}
use Rattle.pungi_names.specs.declared.step.TypedefTarget.{TypedefTarget}
use Rattle.pungi_names.proofs.StepLemmas.{missing}

either : (b : Bool) → cond b nowhere nowhere ≡ nowhere
either true = refl
either false = refl

nothing : {A : Type 0} (o : Option A) → false ≡ is_some o → o ≡ None
nothing None e = refl
nothing (Some x) e = absurd cc

pub followed-found : (file : List Item) (find : ℕ → Option TypedefTarget)
    → AllReach (known_at file) (λ w. option_map reached_view (find w))
    → ((w : ℕ) → is_some (find w) ≡ is_some (typedef_in (typedefs file) w))
    → (w : ℕ) → is_listed_type w ≡ false → (n : ℕ)
    → found_within (option_map reached_view (find w)) n ≡ known_at file n w
followed-found file find reach all w h n = at (find w) (reach w) (all w)
  where
    at : (o : Option TypedefTarget) → ReachesSome (known_at file) w (option_map reached_view o)
        → is_some o ≡ is_some (typedef_in (typedefs file) w)
        → found_within (option_map reached_view o) n ≡ known_at file n w
    at None r e = sym (missing file w h (nothing (typedef_in (typedefs file) w) e) n ∙ either (nat_le 0 n))
    at (Some x) r e = sym (r n)

-- what asks nothing of the stars of no type is the same of types that are known to be the same
pub seen : {A : Type 0} (T : Core → ℕ → A) → ((m k : ℕ) → T no_core m ≡ T no_core k) → (f g : Followed)
    → known f ≡ known g → T f.core f.stars ≡ T g.core g.stars
seen {A} T none f g e = sym (own f.core f.stars) ∙ ap (λ h. T h.core h.stars) e ∙ own g.core g.stars
  where
    own : (c : Core) (s : ℕ) → T (with_stars c s).core (with_stars c s).stars ≡ T c s
    own (base_words ks) s = refl
    own (builtin w) s = refl
    own (struct_of w) s = refl
    own no_core s = none 0 s

pub kind-seen : (file : List Item) (n : ℕ) (f g : Followed) → known f ≡ known g
    → core_kind file f.core (f.stars + n) ≡ core_kind file g.core (g.stars + n)
kind-seen file n f g e = seen (λ c s. core_kind file c (s + n)) (λ m k. refl) f g e

and-false : (a : Bool) → (a && false) ≡ false
and-false true = refl
and-false false = refl

-- a test of the type that none passes, where no star stands
pub test-seen : (test : Core → Bool) → test no_core ≡ false → (n : ℕ) (f g : Followed) → known f ≡ known g
    → ((f.stars + n) == 0 && test f.core) ≡ ((g.stars + n) == 0 && test g.core)
test-seen test none n f g e =
    seen (λ c s. (s + n) == 0 && test c)
    (λ m k. ap (λ t. (m + n) == 0 && t) none ∙ and-false ((m + n) == 0)
    ∙ sym (ap (λ t. (k + n) == 0 && t) none ∙ and-false ((k + n) == 0))) f g e

pub core-seen : {A : Type 0} (test : Core → A) (f g : Followed) → known f ≡ known g → test f.core ≡ test g.core
core-seen test f g e = seen (λ c s. test c) (λ m k. refl) f g e

-- no type with two stars or more has a kind
pub many-stars : (file : List Item) (c : Core) (m : ℕ) → 2 ≤ m → core_kind file c m ≡ None
many-stars file (base_words ks) m h =
    let a : (m == 0) ≡ false = grind (arith, nat_tests) in
    let b : (m == 1) ≡ false = grind (arith, nat_tests) in
    rw (a, b) refl
many-stars file (builtin w) m h =
    let a : (m == 0) ≡ false = grind (arith, nat_tests) in
    let b : (m == 1) ≡ false = grind (arith, nat_tests) in
    rw (a, b) refl
many-stars file (struct_of w) m h =
    let b : (m == 1) ≡ false = grind (arith, nat_tests) in
    rw b refl
many-stars file no_core m h = refl
