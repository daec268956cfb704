-- Leaves of the trees below states, as different traces to ends.
use Rattle.std.proofs.Common.{◌≡◌, ℕ, zero, suc, ◌+◌, ◌≤◌, List, [], ◌∷◌, ◌++◌, length, map, Bool, true, false, refl}
use Rattle.std.proofs.Common.{sym, ap}
use Rattle.std.proofs.Common.{◌∙◌, subst, arith, ◌⊎◌, inl, inr, cond}
use Rattle.std.specs.Prelude.{slice_get}
use Rattle.std.specs.List.{flat_map, range_with_len}
use Rattle.std.specs.declared.cmp.Ordering.TheVariants.{Less, Equal, Greater}
use Rattle.std.proofs.Common.{length-append}
use Rattle.std.proofs.Math.ListN.{length-map}
use Rattle.std.proofs.lemmas.List.{append_cancel_right}
use Rattle.std.proofs.lemmas.List.Concat.{flat_map-cons}
use Rattle.pungi_code.specs.declared.code.Line.{Line}
use Rattle.pungi_symbol.specs.declared.answers.decision.Decision.{Decision}
use Rattle.pungi_symbol.specs.declared.answers.decision.Decision.TheVariants.{Quiet, Outcome, Order, Same as IsSame}
use Rattle.pungi_symbol.specs.declared.questions.question.Question.{Question}
use Rattle.pungi_symbol.specs.declared.questions.question.Question.TheVariants.{Does, Touches, Overwrites}
use Rattle.pungi_symbol.specs.declared.questions.question.Question.TheVariants.{Null as AsksNull, Base, Answers, Same}
use Rattle.pungi_symbol.specs.declared.questions.question.Question.TheVariants.{Orders, Range, Computes, Unplain, Turn}
use Rattle.pungi_symbol.specs.declared.questions.question.Question.TheVariants.{Returns, Stops, Over}
use Rattle.pungi_symbol.specs.declared.states.state.State.{State}
use Rattle.pungi_symbol.specs.questions.NextQuestion.{ask}
use Rattle.pungi_symbol.specs.states.Terms.{outcomes_of_answer}
use Rattle.pungi_symbol.specs.answers.SymbolicState.{can, apply, successors, after_if, answers_of}
use Rattle.pungi_symbol.specs.runs.Paths.{Path, path_here}
use Rattle.pungi_explore.specs.Traces.{IsIn, AreDifferent, HasEnded, states_after}
use Rattle.pungi_explore.proofs.Begins.{Told, began}
use Rattle.pungi_explore.proofs.Different.{in_parts, different_joined, different_mapped, of_map}
use Rattle.pungi_explore.proofs.Each.{each_in}
use Rattle.pungi_explore.proofs.Few.{same_head, same_tail}
use Rattle.pungi_explore.proofs.Nexts.{each_answer}
use Rattle.pungi_explore.proofs.Trees.{HaveAtLeast, none_left, left_out, one_ended, one_goes_on}

-- ---- the answers to a question are different

-- their order among the answers to one question
abbrev pub rank : Decision → ℕ
rank Quiet = 0
rank (Outcome k) = k + 1
rank (Order Less) = 0
rank (Order Equal) = 1
rank (Order Greater) = 2
rank (IsSame false) = 0
rank (IsSame true) = 1

abbrev pub Rises : ℕ → List (Decision × State) → Type 0
Rises b [] = Unit {0}
Rises b (p ∷ ps) = (b ≤ rank p.0) × Rises (suc (rank p.0)) ps

abbrev AnswersRise : ℕ → List Decision → Type 0
AnswersRise b [] = Unit {0}
AnswersRise b (d ∷ ds) = (b ≤ rank d) × AnswersRise (suc (rank d)) ds

lower : (b c : ℕ) (ps : List (Decision × State)) → c ≤ b → Rises b ps → Rises c ps
lower b c [] le h = tt
lower b c (p ∷ ps) le h = let first = h.0 in (omega (arith, le, first), h.1)

rises_one : (b : ℕ) (yes : Bool) (p : Decision × State) (ps : List (Decision × State)) → b ≤ rank p.0
    → Rises (suc (rank p.0)) ps → Rises b (cond yes (p ∷ []) [] ++ ps)
rises_one b true p ps le h = (le, h)
rises_one b false p ps le h = lower (suc (rank p.0)) b ps (omega (arith, le)) h

rises_all : (code : List Line) (s : State) (b : ℕ) (ds : List Decision) → AnswersRise b ds
    → Rises b (flat_map (after_if (slice_get code s.known.pc) (ask code s.known) s) ds)
rises_all code s b [] h = tt
rises_all code s b (d ∷ ds) h =
    let one = after_if (slice_get code s.known.pc) (ask code s.known) s in
    subst (Rises b) (sym (flat_map-cons one d ds)) (rises_one b (can s (ask code s.known) d)
    (d, apply (slice_get code s.known.pc) (ask code s.known) d s) (flat_map one ds) h.0
    (rises_all code s (suc (rank d)) ds h.1))

numbered_rise : (k n b : ℕ) → b ≤ k + 1 → AnswersRise b (map Outcome (range_with_len k n))
numbered_rise k zero b le = tt
numbered_rise k (suc n) b le = (le, numbered_rise (k + 1) n (suc (k + 1)) (omega arith))

one_rises : (d : Decision) → AnswersRise 0 (d ∷ [])
one_rises d = (omega arith, tt)

same_rise : AnswersRise 0 (IsSame false ∷ IsSame true ∷ [])
same_rise = (omega arith, (omega arith, tt))

orders_rise : AnswersRise 0 (Order Less ∷ Order Equal ∷ Order Greater ∷ [])
orders_rise = (omega arith, (omega arith, (omega arith, tt)))

all_rise : (q : Question) → AnswersRise 0 (answers_of q)
all_rise (Does d) = one_rises d
all_rise (Touches m) = one_rises Quiet
all_rise (Overwrites m) = numbered_rise 0 2 0 (omega arith)
all_rise (AsksNull t) = numbered_rise 0 2 0 (omega arith)
all_rise (Base t u i) = same_rise
all_rise (Answers a) = numbered_rise 0 (length (outcomes_of_answer a)) 0 (omega arith)
all_rise (Same t u) = same_rise
all_rise (Orders a b) = orders_rise
all_rise (Range kind a) = numbered_rise 0 3 0 (omega arith)
all_rise (Computes kind o a b) = numbered_rise 0 3 0 (omega arith)
all_rise Unplain = one_rises Quiet
all_rise Turn = one_rises Quiet
all_rise (Returns x) = one_rises Quiet
all_rise (Stops d) = one_rises d
all_rise Over = tt

answers_rise : (code : List Line) (s : State) → Rises 0 (successors code s)
answers_rise code s = rises_all code s 0 (answers_of (ask code s.known)) (all_rise (ask code s.known))

above : (b : ℕ) (q : Decision × State) (ps : List (Decision × State)) → Rises b ps → IsIn q ps → b ≤ rank q.0
above b q [] h i = absurd i
above b q (p ∷ ps) h (inl e) =
    let first = h.0 in let same : rank q.0 ≡ rank p.0 = ap (λ r. rank r.0) e in omega (arith, first, same)
above b q (p ∷ ps) h (inr i) =
    let first = h.0 in let later = above (suc (rank p.0)) q ps h.1 i in omega (arith, first, later)

-- ---- the last answer of a list, which came first

pub same_last : (xs ys : Told) (d e : Decision) → xs ++ d ∷ [] ≡ ys ++ e ∷ [] → d ≡ e
same_last [] [] d e h = same_head d e [] [] h
same_last [] (y ∷ ys) d e h =
    absurd (let long = ap length h in let sum = length-append ys (e ∷ []) in omega (arith, long, sum))
same_last (x ∷ xs) [] d e h =
    absurd (let long = ap length h in let sum = length-append xs (d ∷ []) in omega (arith, long, sum))
same_last (x ∷ xs) (y ∷ ys) d e h = same_last xs ys d e (same_tail x y (xs ++ d ∷ []) (ys ++ e ∷ []) h)

module _ (code : List Line) (P : State → Type 0) where
  -- a trace from a state to an end of which P holds
  pub record Leads (s : State) (ds : Told) : Type 0 where
    pub last : State
    pub path : Path code s ds last
    pub ended : HasEnded last
    pub holds : P last

  -- a trace that begins with one of these answers
  pub record LeadsByOne (ps : List (Decision × State)) (t : Told) : Type 0 where
    pub by : Decision × State
    pub there : IsIn by ps
    pub ds : Told
    pub is : t ≡ ds ++ by.0 ∷ []
    pub leads : Leads by.1 ds

  pub record Found (ps : List (Decision × State)) (n : ℕ) : Type 0 where
    pub traces : List Told
    pub long : length traces ≡ n
    pub different : AreDifferent traces
    pub each : (t : Told) → IsIn t traces → LeadsByOne ps t

  later : (p : Decision × State) (ps : List (Decision × State)) (t : Told) → LeadsByOne ps t → LeadsByOne (p ∷ ps) t
  later p ps t h = record { by = h.by; there = inr h.there; ds = h.ds; is = h.is; leads = h.leads }

  -- the answers after it begin no trace that it begins
  apart : (b : ℕ) (p : Decision × State) (ps : List (Decision × State)) (es : Told) (t : Told) → Rises b (p ∷ ps)
      → t ≡ es ++ p.0 ∷ [] → LeadsByOne ps t → ⊥
  apart b p ps es t rises is h =
      let same : p.0 ≡ h.by.0 = same_last es h.ds p.0 h.by.0 (sym is ∙ h.is) in
      let ranks : rank p.0 ≡ rank h.by.0 = ap rank same in
      let more = above (suc (rank p.0)) h.by ps rises.1 h.there in
      absurd (omega (arith, ranks, more))

  led_back : (s : State) (t : Told) → LeadsByOne (successors code s) t → Leads s t
  led_back s t h =
      let each = each_answer (λ p. (ds : Told) (last : State) → Path code p.1 ds last
      → Path code s (ds ++ p.0 ∷ []) last) code s (λ d c ds last p. began code s d ds last c p) in
      let path : Path code s (h.ds ++ h.by.0 ∷ []) h.leads.last = each_in (λ p. (ds : Told) (last : State)
      → Path code p.1 ds last → Path code s (ds ++ p.0 ∷ []) last) h.by (successors code s) each h.there h.ds
      h.leads.last h.leads.path in
      record {
        last = h.leads.last;
        path = subst (λ es. Path code s es h.leads.last) (sym h.is) path;
        ended
            = h.leads.ended;
        holds = h.leads.holds;
      }

  -- ---- a state that has ended, and one that goes on

  first_ended : (p : Decision × State) (ps : List (Decision × State)) (s : State) (t : Told) → p.1 ≡ s → HasEnded s
      → P s → t ≡ p.0 ∷ [] → LeadsByOne (p ∷ ps) t
  first_ended p ps s t same over holds is = record {
    by = p;
    there = inl refl;
    ds = [];
    is = is;
    leads = record {
      last = p.1;
      path = path_here;
      ended = subst HasEnded (sym same) over;
      holds = subst P
          (sym same) holds;
    };
  }

  abbrev pub after : Decision → Told → Told
  after d ds = ds ++ d ∷ []

  first_going : (p : Decision × State) (ps : List (Decision × State)) (s : State) (us : List Told) (t : Told)
      → p.1 ≡ s → ((u : Told) → IsIn u us → LeadsByOne (successors code s) u) → IsIn t (map (after p.0) us)
      → LeadsByOne (p ∷ ps) t
  first_going p ps s us t same each i =
      let m = of_map (after p.0) t us i in
      record {
        by = p;
        there = inl refl;
        ds = m.from;
        is = m.is;
        leads = subst (λ z. Leads z m.from) (sym same)
            (led_back s m.from (each m.from m.there));
      }

  of_these : (p : Decision × State) (ps : List (Decision × State)) (ts us : List Told) (t : Told)
      → ((u : Told) → IsIn u ts → LeadsByOne (p ∷ ps) u) → ((u : Told) → IsIn u us → LeadsByOne ps u)
      → IsIn t ts ⊎ IsIn t us → LeadsByOne (p ∷ ps) t
  of_these p ps ts us t first rest (inl i) = first t i
  of_these p ps ts us t first rest (inr i) = later p ps t (rest t i)

  only_one : (t u : Told) → IsIn u (t ∷ []) → u ≡ t
  only_one t u (inl e) = e
  only_one t u (inr i) = absurd i

  pub found : (ps : List (Decision × State)) (ss : List State) (n b : ℕ) → map (λ p. p.1) ps ≡ ss → Rises b ps
      → HaveAtLeast code P ss n → Found ps n
  found [] _ _ b e rises none_left = record { traces = []; long = omega arith; different = tt; each = λ t i. absurd i }
  found [] _ _ b e rises (left_out s ss n t) = absurd (let long = ap length e in omega (arith, long))
  found [] _ _ b e rises (one_ended s ss n over holds t) = absurd (let long = ap length e in omega (arith, long))
  found [] _ _ b e rises (one_goes_on s ss m n going a t) = absurd (let long = ap length e in omega (arith, long))
  found (p ∷ ps) _ _ b e rises none_left = absurd (let long = ap length e in omega (arith, long))
  found (p ∷ ps) _ _ b e rises (left_out s ss n t) =
      let r = found ps ss n (suc (rank p.0)) (same_tail p.1 s (map (λ q. q.1) ps) ss e) rises.1 t in
      record { traces = r.traces; long = r.long; different = r.different; each = λ u i. later p ps u (r.each u i) }
  found (p ∷ ps) _ _ b e rises (one_ended s ss n over holds t) =
      let r = found ps ss n (suc (rank p.0)) (same_tail p.1 s (map (λ q. q.1) ps) ss e) rises.1 t in
      let same = same_head p.1 s (map (λ q. q.1) ps) ss e in
      let long = r.long in
      record {
        traces = (p.0 ∷ []) ∷ r.traces;
        long = omega (arith, long);
        different = (λ i. apart b p ps [] (p.0 ∷ []) rises refl (r.each (p.0 ∷ []) i), r.different);
        each = λ u i. of_these p ps ((p.0 ∷ []) ∷ []) r.traces u (λ v j. first_ended p ps s v same over holds
            (only_one (p.0 ∷ []) v j)) r.each (in_parts u ((p.0 ∷ []) ∷ []) r.traces i);
      }
  found (p ∷ ps) _ _ b e rises (one_goes_on s ss m n going a t) =
      let r = found ps ss n (suc (rank p.0)) (same_tail p.1 s (map (λ q. q.1) ps) ss e) rises.1 t in
      let u = found (successors code s) (states_after code s) m 0 refl (answers_rise code s) a in
      let same = same_head p.1 s (map (λ q. q.1) ps) ss e in
      let left = map (after p.0) u.traces in
      let one = u.long in
      let other = r.long in
      let mapped = length-map u.traces (after p.0) in
      let sum = length-append left r.traces in
      record {
        traces = left ++ r.traces;
        long = omega (arith, one, other, mapped, sum);
        different = different_joined left r.traces (different_mapped (after p.0) u.traces
            (λ x z i j h. append_cancel_right x z (p.0 ∷ []) h) u.different) r.different
            (λ x i j. let o = of_map (after p.0) x u.traces i in apart b p ps o.from x rises o.is (r.each x j));
        each = λ x i. of_these p ps left r.traces x (λ v j. first_going p ps s u.traces v same u.each j) r.each
            (in_parts x left r.traces i);
      }

  -- ---- from one state

  pub record ManyFrom (s : State) (n : ℕ) : Type 0 where
    pub traces : List Told
    pub long : length traces ≡ n
    pub different : AreDifferent traces
    pub each : (t : Told) → IsIn t traces → Leads s t

  none_more : (n : ℕ) → HaveAtLeast code P [] n → n ≡ 0
  none_more _ none_left = refl

  pub many_from : (s : State) (n : ℕ) → HaveAtLeast code P (s ∷ []) n → ManyFrom s n
  many_from s _ (left_out _ _ n t) = let none = none_more n t in record {
    traces = [];
    long = omega (arith, none);
    different = tt;
    each = λ u i. absurd i;
  }
  many_from s _ (one_ended _ _ n over holds t) =
      let none = none_more n t in
      record {
        traces = [] ∷ [];
        long = omega (arith, none);
        different = (λ i. i, tt);
        each = λ u i. record {
          last = s;
          path = subst (λ es. Path code s es s) (sym (only_one [] u i)) path_here;
          ended = over;
          holds = holds;
        };
      }
  many_from s _ (one_goes_on _ _ m n going a t) =
      let none = none_more n t in
      let u = found (successors code s) (states_after code s) m 0 refl (answers_rise code s) a in
      let long = u.long in
      record {
        traces = u.traces;
        long = omega (arith, none, long);
        different = u.different;
        each = λ x i. led_back
            s x (u.each x i);
      }
