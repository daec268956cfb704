-- What linear equations between its numbers show of a function.
use Rattle.std.proofs.Common.{◌≡◌, ◌<◌, inl, inr, ℕ, ℤ, arith, true, List, [], length, Some, refl}
use Rattle.std.proofs.Common.{subst, sym, pos, slice_index_or, Option, Result, Ok, Err, IfOk}
use Rattle.std.proofs.lemmas.List.Elements.{All-get_or}
use Rattle.std.proofs.lemmas.Option.{get_or_from_slice_get, slice_get_within}
use Rattle.pungi_base.specs.declared.why.Why.{Why}
use Rattle.pungi_base.specs.declared.why.Why.TheVariants as why
use Rattle.pungi_resolved.specs.Functions.{ResolvedFunction}
use Rattle.pungi_code.specs.declared.code.Code.{Code}
use Rattle.pungi_code.specs.declared.code.Codes.{Codes}
use Rattle.pungi_code.specs.Run.{code_at}
use Rattle.pungi_code.specs.WellFormed.{IsAlone}
use Rattle.pungi_domain.specs.declared.affine_program.AffineProgram.{AffineProgram}
use Rattle.pungi_domain.specs.Builds.{IsLargeBuild}
use Rattle.pungi_domain.specs.Programs.{FitsEdge, IsWellFormed as IsFit}
use Rattle.pungi_domain.specs.Annotations.{MeetsAll, set_to}
use Rattle.pungi_domain.specs.Vectors.{Vector}
use Rattle.pungi_domain.specs.declared.equation.Equation.{Equation}
use Rattle.pungi_domain.specs.declared.target.Target.{Target}
use Rattle.pungi_domain.specs.declared.target.Target.TheVariants as target
use Rattle.pungi_affine.specs.States.{SpanMember, SpanState}
use Rattle.pungi_shape.specs.Programs.{IsProgram}
use Rattle.pungi_shape.specs.Promises.{vectors_of, IsAlwaysBalanced, ValuesAreBalanced}
use Rattle.pungi_explore.specs.Explored.{AreBalanced}
use Rattle.pungi_verdict.specs.declared.relations.Tried.{Tried}
use Rattle.pungi_verdict.specs.declared.relations.Tried.TheVariants as tried
use Rattle.pungi_verdict.specs.Causes.{IsDecided, IsOpen}
use Rattle.pungi_verdict.specs.Relations.{AreRelations, HasRelations, IsSolved, IsTried, OwesNothing, is_found, no_span}
use Rattle.pungi_verdict.specs.Relations.{verdict_after}
use Rattle.pungi_verdict.specs.Sound.{HasMeaning, IsClean, IsTrueOf}

-- ---- large spans

-- an edge leaves the place of a large turn
pub large-place : (p : AffineProgram) → IsFit p → (k : ℕ) (row : List ℤ) → IsLargeBuild true SpanMember p no_span k row
    → k < length p.at
large-place p fit k row large =
    let within = slice_get_within p.edges large.number large.edge large.edge_is in
    let is = get_or_from_slice_get p.edges large.number large.edge large.edge large.edge_is in
    let fits : FitsEdge p large.edge =
    subst (FitsEdge p) is (All-get_or (FitsEdge p) p.edges large.number large.edge within fit.edges) in
    let from = large.from in
    let lt = fits.from in
    let same = fit.places in
    omega (arith, from, lt, same)

-- ---- nothing owed

-- a span of no coordinates has each vector, as no equation between them is kept
all_vectors : SpanState
all_vectors = record { width = 0; scale = pos 1; lines = [] }

has_all : (v : Vector) → SpanMember all_vectors v
unfolding all_vectors
has_all v = record { times = pos 1; not_zero = λ e. absurd (cc); factors = []; exact = λ i lt. absurd (omega (arith, lt)) }

pub none-needed : (p : AffineProgram) → OwesNothing p → AreRelations p
none-needed p owes = record {
  at = λ k. Some all_vectors;
  exits = λ k. Some all_vectors;
  inductive = record {
    entries = λ k d lt v. has_all v;
    edges = λ i d lt v u is meets sends. anywhere (slice_index_or p.edges i d).to u;
  };
  safe = λ i d lt v is meets. subst (λ (es : List Equation). MeetsAll es v) (sym (owes i d lt)) (λ j e none. absurd (omega (arith, none)));
}
  where
    anywhere : (t : Target) (u : Vector) → set_to (λ k. vectors_of SpanMember (Some all_vectors))
        (λ k. vectors_of SpanMember (Some all_vectors)) t u
    anywhere (target.Place k) u = has_all u
    anywhere (target.Exit k) u = has_all u

-- ---- the search

tried-of : (codes : Codes) (f : ℕ) (p : AffineProgram) → IsProgram codes f p → (t : Tried) → IsSolved p t
    → IsTried codes f t
tried-of codes f p is tried.Found s = record { program = p; is = is; are = s }
tried-of codes f p is tried.NotFound s = record { program = p; is = is; none = s }
tried-of codes f p is tried.TooLarge s = absurd s
tried-of codes f p is (tried.LargeSpan at numbers) s = record { program = p; is = is; large = s }

pub tried-found : (codes : Codes) (f : ℕ) (p : AffineProgram) → IsProgram codes f p → {E : Type 0}
    → (r : Result Tried E) → IfOk r (λ t. IsSolved p t) → IfOk r (λ t. IsTried codes f t)
tried-found codes f p is (Ok t) s = tried-of codes f p is t s
tried-found codes f p is (Err e) s = tt

pub found-related : (codes : Codes) (f : ℕ) (t : Tried) → is_found t ≡ true → IsTried codes f t → HasRelations codes f
found-related codes f tried.Found e r = r
found-related codes f tried.NotFound e r = absurd (cc)
found-related codes f tried.TooLarge e r = absurd (cc)
found-related codes f (tried.LargeSpan at numbers) e r = absurd (cc)

-- ---- runs

-- where there are such equations, each run that returns is balanced
pub related-balanced : ValuesAreBalanced SpanMember → (codes : Codes) (f : ℕ) (code : Code) → IsAlone codes f
    → code_at codes f ≡ Some code → HasRelations codes f → AreBalanced codes.statics code
related-balanced law codes f code formed is r = λ entry choices world value returns.
    let always : IsAlwaysBalanced codes.statics code =
    law codes f code r.program r.are.at r.are.exits formed is r.is r.are.inductive r.are.safe in
    always entry choices returns.steps world value returns.pos returns.used returns.fits returns.is

-- ---- verdicts

pub after-true : (fs : List (Option ResolvedFunction)) (n : ℕ) (f : ResolvedFunction) (reason : Why) (t : Tried)
    → (t ≡ tried.Found → HasMeaning n f × IsClean fs n f) → IsTrueOf fs n f (verdict_after reason t)
after-true fs n f reason tried.Found h = h refl
after-true fs n f reason tried.NotFound h = tt
after-true fs n f reason tried.TooLarge h = tt
after-true fs n f reason (tried.LargeSpan at numbers) h = tt

pub after-decided : (codes : Codes) (f : ℕ) (reason : Why) (t : Tried) → IsOpen codes f reason → IsTried codes f t
    → IsDecided codes f (verdict_after reason t)
after-decided codes f reason tried.Found o r = inr r
after-decided codes f why.Traces tried.NotFound o r = (o, inl r)
after-decided codes f why.Traces tried.TooLarge o r = (o, inr (inl r))
after-decided codes f why.Traces (tried.LargeSpan at numbers) o r = (o, inr (inr (at, numbers, r)))
after-decided codes f (why.Number p) tried.NotFound o r = (o, r)
after-decided codes f (why.Number p) tried.TooLarge o r = ((p, inl o), r)
after-decided codes f (why.Number p) (tried.LargeSpan at numbers) o r = ((p, inl o), r)
after-decided codes f (why.Loop p) tried.NotFound o r = (o, r)
after-decided codes f (why.Loop p) tried.TooLarge o r = ((p, inr o), r)
after-decided codes f (why.Loop p) (tried.LargeSpan at numbers) o r = ((p, inr o), r)
after-decided codes f why.Shapes t o r = absurd o
after-decided codes f (why.Range at numbers) t o r = absurd o
after-decided codes f (why.Call at n) t o r = absurd o
