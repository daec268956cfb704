-- How the search begins.
--   none_start, start_none which functions have no program
--   first_of_ways          the outcomes at first
--   AreFirstBelow, firsts_none, firsts_more, firsts_skip, firsts_all    the exits at first, function by function
use Rattle.std.proofs.Common.{◌≡◌, ◌∙◌, ◌⊎◌, inl, inr, ℕ, zero, suc, ◌+◌, ◌<◌, ◌≤◌, Bool, false, List, [], length}
use Rattle.std.proofs.Common.{Option, Some, None, refl, sym, ap, subst, arith, replicate, map}
use Rattle.std.specs.Prelude.{slice_get, slice_set, is_none, option_map}
use Rattle.std.specs.List.{slice_index_or}
use Rattle.std.proofs.lemmas.Bool.{cases_eq}
use Rattle.std.proofs.lemmas.List.{get_or-set_same, get_or-set_other, length-set, length-replicate, length-map}
use Rattle.std.proofs.lemmas.Option.{slice_get-map}
use Rattle.pungi_domain.specs.Vectors.{Vectors}
use Rattle.pungi_domain.specs.declared.affine_program.AffineProgram.{AffineProgram}
use Rattle.pungi_fixpoint.specs.Summaries.{flatten}
use Rattle.pungi_summary.specs.Calls.{AreCallable, LacksProgram, program_of}
use Rattle.pungi_summary.specs.Results.{AreFirstExits, AreNone}
use Rattle.pungi_summary.specs.Ways.{AreWays, IsStart}
use Rattle.pungi_summary.specs.Worklist.{AreFirst, first_outcome}
use Rattle.pungi_summary.specs.declared.outcome.Outcome.{Outcome}
use Rattle.pungi_summary.specs.declared.outcome.Outcome.TheVariants.{Shapes, Waiting}
use Rattle.pungi_summary.specs.declared.way.Way.{Way}
use Rattle.pungi_summary.proofs.Callees.{reach_within}
use Rattle.pungi_summary.proofs.Lists.{program_within, within}
use Rattle.pungi_summary.proofs.Walks.{way_reaches}

pub start_none : (ps : List (Option AffineProgram)) (f : ℕ) → IsStart (map is_none ps) f → program_of ps f ≡ None
start_none ps f is = go (slice_get ps f) refl
  where
    go : (o : Option (Option AffineProgram)) → slice_get ps f ≡ o → program_of ps f ≡ None
    go None e = ap flatten e
    go (Some None) e = ap flatten e
    go (Some (Some p)) e =
        let at = slice_get-map is_none ps f in
        let none : slice_get (map is_none ps) f ≡ Some false = at ∙ ap (option_map is_none) e in
        absurd (cc (none, is))

pub none_start : (ps : List (Option AffineProgram)) (f : ℕ) → f < length ps → program_of ps f ≡ None
    → IsStart (map is_none ps) f
none_start ps f lt is = go (within ps f lt).0 (within ps f lt).1
  where
    go : (o : Option AffineProgram) → slice_get ps f ≡ Some o → IsStart (map is_none ps) f
    go None e = slice_get-map is_none ps f ∙ ap (option_map is_none) e
    go (Some p) e = (let at : program_of ps f ≡ Some p = ap flatten e in absurd (cc (at, is)))

pub first_of_ways : (ps : List (Option AffineProgram)) (callees : List (List ℕ)) (ways : List (Option Way))
    (outcomes : List Outcome)
    → AreCallable ps callees → AreWays ps callees (map is_none ps) ways → outcomes ≡ map first_outcome ways
    → AreFirst ps callees outcomes
first_of_ways ps callees ways outcomes callable w is = record {
  count = ap length is ∙ (length-map ways first_outcome ∙ w.count);
  each = λ f lt.
      let count = w.count in
      let o = within ways f (omega (arith, lt, count)) in
      let at : slice_get outcomes f ≡ Some (first_outcome o.0) = ap (λ (xs : List Outcome). slice_get xs f) is
      ∙ (slice_get-map first_outcome ways f ∙ ap (option_map first_outcome) o.1) in
      go f lt o.0 o.1 at;
}
  where
    go : (f : ℕ) → f < length ps → (o : Option Way) → slice_get ways f ≡ Some o
        → slice_get outcomes f ≡ Some (first_outcome o)
        → ((slice_get outcomes f ≡ Some Shapes) × LacksProgram ps callees f)
        ⊎ ((slice_get outcomes f ≡ Some Waiting) × (LacksProgram ps callees f → ⊥))
    go f lt (Some x) e at =
        let s = w.sound f x e in
        inl (at, (x.origin, way_reaches ps callees f x s.0, start_none ps x.origin s.1))
    go f lt None e at = inr (
      at,
      λ lacks. w.complete f lacks.0 e lacks.1 (none_start ps lacks.0
          (reach_within ps callees f lacks.0 callable lt lacks.1)
          lacks.2),
    )

pub record AreFirstBelow {D : Type 0} (least : Bool) (member : D → Vectors) (width : D → ℕ)
    (ps : List (Option AffineProgram)) (n : ℕ) (exits : List (List (Option D))) : Type 0 where
  pub count : length exits ≡ length ps
  pub made : (f : ℕ) (p : AffineProgram) → f < n → program_of ps f ≡ Some p
      → AreNone least member width p.exits (slice_index_or exits f [])
  pub none : (f : ℕ) → program_of ps f ≡ None → slice_index_or exits f [] ≡ []

no_list : {A : Type 0} (n k : ℕ) → slice_index_or (replicate {A = List A} n []) k [] ≡ []
no_list zero k = refl
no_list (suc n) zero = refl
no_list (suc n) (suc k) = no_list n k

module _ {D : Type 0} (least : Bool) (member : D → Vectors) (width : D → ℕ) (ps : List (Option AffineProgram)) where
  pub firsts_none : AreFirstBelow least member width ps 0 (replicate (length ps) [])
  firsts_none = record {
    count = length-replicate (length ps) [];
    made = λ f p lt. absurd (omega (arith, lt));
    none = λ f is. no_list (length ps) f;
  }

  pub firsts_more : (n : ℕ) (p : AffineProgram) (values : List (Option D)) (exits : List (List (Option D)))
      → program_of ps n ≡ Some p → AreNone least member width p.exits values
      → AreFirstBelow least member width ps n exits
      → AreFirstBelow least member width ps (n + 1) (slice_set exits n values)
  firsts_more n p values exits p_is values_none h =
      let count = h.count in
      let in_ps = program_within ps n p p_is in
      let lt : n < length exits = omega (arith, count, in_ps) in
      record {
        count = length-set exits n values ∙ count;
        made = λ f q below q_is. elim (cases_eq f n) [
          | inl here ↦
              let at = subst (λ i. program_of ps i ≡ Some q) here q_is in
              let same : p ≡ q = cc (at, p_is) in
              subst (λ (x : AffineProgram). AreNone least member width x.exits
              (slice_index_or (slice_set exits n values) f [])) same
              (subst (λ i. AreNone least member width p.exits (slice_index_or (slice_set exits n values) i []))
              (sym here)
              (subst (λ (ds : List (Option D)). AreNone least member width p.exits ds)
              (sym (get_or-set_same exits n values [] lt)) values_none))
          | inr other ↦ subst (λ (ds : List (Option D)). AreNone least member width q.exits ds)
              (sym (get_or-set_other exits n f values [] other)) (h.made f q (omega (arith, below, other)) q_is)
        ];
        none = λ f is. elim (cases_eq f n) [
          | inl here ↦ (let at = subst (λ i. program_of ps i ≡ None) here is in absurd (cc (at, p_is)))
          | inr other ↦ get_or-set_other exits n f values [] other ∙ h.none f is
        ];
      }

  pub firsts_skip : (n : ℕ) (exits : List (List (Option D))) → program_of ps n ≡ None
      → AreFirstBelow least member width ps n exits → AreFirstBelow least member width ps (n + 1) exits
  firsts_skip n exits none h = record {
    count = h.count;
    made = λ f q below q_is. elim (cases_eq f n) [
      | inl here ↦ (let at = subst (λ i. program_of ps i ≡ Some q) here q_is in absurd (cc (at, none)))
      | inr other ↦ h.made f q (omega (arith, below, other)) q_is
    ];
    none = h.none;
  }

  pub firsts_all : (n : ℕ) (exits : List (List (Option D))) → length ps ≤ n
      → AreFirstBelow least member width ps n exits → AreFirstExits least member width ps exits
  firsts_all n exits le h = record {
    fit = record {
      count = h.count;
      values = λ f p is.
          let lt = program_within ps f p is in
          (h.made f p (omega (arith, lt, le)) is).values;
      none = h.none;
    };
    none = λ f p is. (let lt = program_within ps f p is in h.made f p (omega (arith, lt, le)) is);
  }
