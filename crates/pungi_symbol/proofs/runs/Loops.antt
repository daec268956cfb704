-- A path through loops: it knows the heads of its code, counts at most 16,384 instructions, and where it isn't followed
-- for a loop the place is that of a head.
use Rattle.std.proofs.Common.{◌≡◌, ◌==◌, ℕ, zero, suc, ◌+◌, ◌<◌, ◌≤◌, List, [], ◌∷◌, length, map, Bool, true, false}
use Rattle.std.proofs.Common.{refl, sym, ap, ◌∙◌, subst, arith, inl, inr, Option, None, Some, cond}
use Rattle.std.specs.Prelude.{◌||◌, nat_lt, nat_le, slice_get, slice_set}
use Rattle.std.proofs.Math.ListN.{length-map}
use Rattle.std.proofs.lemmas.Bool.Decides.{nat_tests}
use Rattle.std.proofs.lemmas.List.Quantifiers.{position-Some}
use Rattle.pungi_base.specs.declared.pos.Pos.{Pos}
use Rattle.pungi_code.specs.declared.code.Code.{Code}
use Rattle.pungi_code.specs.declared.code.Codes.{Codes}
use Rattle.pungi_code.specs.declared.code.Head.{Head}
use Rattle.pungi_code.specs.declared.code.Line.{Line}
use Rattle.pungi_code.specs.declared.instr.Instr.{Instr}
use Rattle.pungi_symbol.specs.declared.answers.decision.Decision.{Decision}
use Rattle.pungi_symbol.specs.declared.states.known.Known.{Known}
use Rattle.pungi_symbol.specs.declared.states.known.Status.TheVariants as status
use Rattle.pungi_symbol.specs.declared.states.obstacle.Obstacle.TheVariants as obstacle
use Rattle.pungi_symbol.specs.declared.questions.question.Question.{Question}
use Rattle.pungi_symbol.specs.declared.questions.question.Question.TheVariants.{Does, Touches, Overwrites}
use Rattle.pungi_symbol.specs.declared.questions.question.Question.TheVariants.{Null as AsksNull, Base, Answers, Same}
use Rattle.pungi_symbol.specs.declared.questions.question.Question.TheVariants.{Orders, Range, Computes, Unplain, Turn}
use Rattle.pungi_symbol.specs.declared.questions.question.Question.TheVariants.{Returns}
use Rattle.pungi_symbol.specs.declared.questions.question.Question.TheVariants.{Stops, Over}
use Rattle.pungi_symbol.specs.declared.states.state.State.{State}
use Rattle.pungi_symbol.specs.declared.states.sum.Sum.{Sum as SumOf}
use Rattle.pungi_symbol.specs.declared.states.turns.ReachedHead.{ReachedHead}
use Rattle.pungi_symbol.specs.declared.states.turns.Turns.{Turns}
use Rattle.pungi_symbol.specs.states.Terms.{outcomes_of_answer, mark_at}
use Rattle.pungi_symbol.specs.states.Turns.{most_times, most_steps, is_head_at, no_head, head_note, once_more}
use Rattle.pungi_symbol.specs.states.Turns.{head_there}
use Rattle.pungi_symbol.specs.states.Turns.{is_bounded, is_bounded_by, blocked_at, blocked_by, entered_by, stepped}
use Rattle.pungi_symbol.specs.states.Turns.{first_head, first_turns}
use Rattle.pungi_symbol.specs.questions.NextQuestion.{ask}
use Rattle.pungi_symbol.specs.answers.KnownAfter.{go, instr_of, arrive_answer, call_var, place_of_line, computed}
use Rattle.pungi_symbol.specs.answers.KnownAfter.{turned}
use Rattle.pungi_symbol.specs.answers.KnownAfter.{number_of_outcome, says_order, with_comparison, with_computation}
use Rattle.pungi_symbol.specs.answers.KnownAfter.{next_computed}
use Rattle.pungi_symbol.proofs.steps.StepBack.{compared_same}
use Rattle.pungi_symbol.specs.runs.Fits.{IsSound}
use Rattle.pungi_symbol.specs.runs.Paths.{start_state, Path, path_here, path_on, IsPlaceOf}
use Rattle.pungi_symbol.specs.Promises.{AtLoop}
use Rattle.pungi_symbol.proofs.answers.CountedSteps.{Counts, counts_none, counts_one, answered_counts}
use Rattle.pungi_symbol.proofs.answers.CountedSteps.{line_counts, load_counts, store_counts, ordered_counts}
use Rattle.pungi_symbol.proofs.answers.CountedSteps.{computed_counts}
use Rattle.pungi_symbol.proofs.steps.StepForward.{AreObjectLines}
use Rattle.pungi_symbol.proofs.steps.Questions.{IsAsked}
use Rattle.pungi_symbol.proofs.runs.Paths.{can_going, asked_at, path_sound}
use Rattle.pungi_symbol.proofs.runs.Starts.{form_lines, start_sound}

-- ---- places of heads

abbrev head_place : Head → Pos
head_place h = h.pos

abbrev reached_place : ReachedHead → Pos
reached_place h = h.pos

-- the heads that a path knows are those of its code, it was at the last one, and it counts no more than it may
pub record KnowsHeads (heads : List Head) (t : Turns) : Type 0 where
  pub places : map reached_place t.heads ≡ map head_place heads
  pub last : 0 < length heads → IsPlaceOf t.last heads
  pub few : t.steps ≤ most_steps

first_places : (hs : List Head) → map reached_place (map first_head hs) ≡ map head_place hs
first_places [] = refl
first_places (h ∷ hs) = ap (λ ps. h.pos ∷ ps) (first_places hs)

first_last : (hs : List Head) → 0 < length hs → IsPlaceOf (first_turns hs).last hs
first_last [] lt = absurd (omega (arith, lt))
first_last (h ∷ hs) lt = inl refl

pub first_known : (hs : List Head) → KnowsHeads hs (first_turns hs)
first_known hs = record { places = first_places hs; last = first_last hs; few = omega arith }

set_places : (hs : List ReachedHead) (i : ℕ) (h : ReachedHead) → h.pos ≡ (head_note hs i).pos
    → map reached_place (slice_set hs i h) ≡ map reached_place hs
set_places [] i h e = refl
set_places (x ∷ hs) zero h e = ap (λ p. p ∷ map reached_place hs) e
set_places (x ∷ hs) (suc i) h e = ap (λ ps. x.pos ∷ ps) (set_places hs i h e)

place_at : (hs : List ReachedHead) (heads : List Head) (i : ℕ) → map reached_place hs ≡ map head_place heads
    → i < length hs → IsPlaceOf (head_note hs i).pos heads
place_at [] heads i e lt = absurd (omega (arith, lt))
place_at (x ∷ hs) [] i e lt = absurd (cc)
place_at (x ∷ hs) (h ∷ heads) zero e lt = inl (let same : h.pos ≡ x.pos = cc in same)
place_at (x ∷ hs) (h ∷ heads) (suc i) e lt =
    let rest : map reached_place hs ≡ map head_place heads = cc in
    inr (place_at hs heads i rest (omega (arith, lt)))

-- ---- bounds

first_false : (a b : Bool) → (a || b) ≡ false → a ≡ false
first_false true b e = absurd (let bad : true ≡ false = e in cc)
first_false false b e = refl

not_most : (n : ℕ) → nat_le most_steps n ≡ false → n < most_steps
not_most n e = grind (arith, nat_tests)

lt_true : (n : ℕ) → n < most_steps → nat_lt n most_steps ≡ true
lt_true n h = grind (arith, nat_tests)

open_by : (hs : List ReachedHead) (t : Turns) (pc : ℕ) → 0 < length hs → is_bounded_by hs t pc ≡ false
    → t.steps < most_steps
open_by [] t pc lt e = absurd (omega (arith, lt))
open_by (h ∷ hs) t pc lt e = not_most t.steps (first_false (nat_le most_steps t.steps) _ e)

met_by : (hs : List ReachedHead) (t : Turns) (pc : ℕ) → is_bounded_by hs t pc ≡ true → 0 < length hs
met_by [] t pc e = absurd (let bad : false ≡ true = e in cc)
met_by (h ∷ hs) t pc e = omega arith

module _ (heads : List Head) (t : Turns) (k : KnowsHeads heads t) where
  pub as_many_heads : length t.heads ≡ length heads
  as_many_heads = sym (length-map t.heads reached_place) ∙ ap length k.places ∙ length-map heads head_place

  -- where no bound is met, one more instruction is counted
  pub one_counted : (pc : ℕ) → 0 < length heads → is_bounded t pc ≡ false → (stepped t).steps ≡ t.steps + 1
  one_counted pc there e =
      let many = as_many_heads in
      let less = open_by t.heads t pc (omega (arith, many, there)) e in
      ap (λ b. cond b (t.steps + 1) t.steps) (lt_true t.steps less)

  stepped_few : (b : Bool) → nat_lt t.steps most_steps ≡ b → cond b (t.steps + 1) t.steps ≤ most_steps
  stepped_few true e = let less = lt_says t.steps most_steps e in omega (arith, less)
    where
      lt_says : (a b : ℕ) → nat_lt a b ≡ true → a < b
      lt_says a b e = grind (arith, nat_tests)
  stepped_few false e = k.few

  stepped_known : KnowsHeads heads (stepped t)
  stepped_known = record {
    places = k.places;
    last = k.last;
    few = stepped_few (nat_lt t.steps most_steps) refl;
  }

  head_below : (pc i : ℕ) → head_there t pc ≡ Some i → i < length t.heads
  head_below pc i e = (position-Some (is_head_at pc) t.heads i no_head e).0

  entered_known : (pc : ℕ) (o : Option ℕ) → head_there t pc ≡ o → KnowsHeads heads (entered_by o t)
  entered_known pc None e = record { places = k.places; last = k.last; few = k.few }
  entered_known pc (Some i) e = record {
    places = set_places t.heads i (once_more (head_note t.heads i)) refl ∙ k.places;
    last = λ there. place_at t.heads heads i k.places (head_below pc i e);
    few = k.few;
  }

  -- ---- where the path isn't followed

  loop_place : (pc : ℕ) (o : Option ℕ) (p : Pos) → head_there t pc ≡ o → blocked_by t o ≡ Some p → IsPlaceOf p heads
  loop_place pc None p e f = absurd (let bad : None ≡ Some p = f in cc)
  loop_place pc (Some i) p e f = by (nat_lt (head_note t.heads i).times most_times) f
    where
      by : (b : Bool) → cond b None (Some (head_note t.heads i).pos) ≡ Some p → IsPlaceOf p heads
      by true g = absurd (let bad : None ≡ Some p = g in cc)
      by false g =
          let same : (head_note t.heads i).pos ≡ p = cc in
          subst (λ q. IsPlaceOf q heads) same (place_at t.heads heads i k.places (head_below pc i e))

  pub block_place : (pc : ℕ) (p : Pos) → is_bounded t pc ≡ true → blocked_at t pc ≡ Some p → IsPlaceOf p heads
  block_place pc p met f = by (nat_le most_steps t.steps) f
    where
      by : (b : Bool) → cond b (Some t.last) (blocked_by t (head_there t pc)) ≡ Some p → IsPlaceOf p heads
      by true g =
          let many = as_many_heads in
          let there = met_by t.heads t pc met in
          let same : t.last ≡ p = cc in
          subst (λ q. IsPlaceOf q heads) same (k.last (omega (arith, many, there)))
      by false g = loop_place pc (head_there t pc) p refl g

-- ---- paths

-- what holds of what is known at the end of a path
pub record GoesRound (heads : List Head) (k : Known) : Type 0 where
  pub knows : KnowsHeads heads k.turns
  pub at_head : (p : Pos) → k.status ≡ status.Blocked obstacle.Loop p → IsPlaceOf p heads

module _ (heads : List Head) where
  abbrev AtHead : Known → Type 0
  AtHead k = (p : Pos) → k.status ≡ status.Blocked obstacle.Loop p → IsPlaceOf p heads

  going_on : (k : Known) → k.status ≡ status.Going → AtHead k
  going_on k e p h = absurd (let bad : status.Going ≡ status.Blocked obstacle.Loop p = sym e ∙ h in cc)

  counted_round : (k k' : Known) → k.status ≡ status.Going → KnowsHeads heads k.turns → Counts k k'
      → GoesRound heads k'
  counted_round k k' e t (counts_none s same) = record {
    knows = subst (KnowsHeads heads) (sym same) t;
    at_head = going_on k' (s ∙ e);
  }
  counted_round k k' e t (counts_one s same) = record {
    knows = subst (KnowsHeads heads) (sym same) (stepped_known heads k.turns t);
    at_head = going_on k' (s ∙ e);
  }

  ranged_round : (i : Instr) (a : SumOf) (at : Pos) (b : Bool) (k : Known) → k.status ≡ status.Going
      → KnowsHeads heads k.turns
      → GoesRound heads (cond b (computed i a k) (record k { status = status.Stopped at }))
  ranged_round i a at true k e t = counted_round k (computed i a k) e t (computed_counts i a k)
  ranged_round i a at false k e t = record { knows = t; at_head = λ p h. absurd (cc) }

  turned_round : (o : Option Pos) (k : Known) → k.status ≡ status.Going → KnowsHeads heads k.turns
      → is_bounded k.turns k.pc ≡ true → blocked_at k.turns k.pc ≡ o → GoesRound heads (turned o k)
  turned_round None k e t met at = record {
    knows = entered_known heads k.turns t k.pc (head_there k.turns k.pc) refl;
    at_head = going_on (turned None k) e;
  }
  turned_round (Some q) k e t met at = record {
    knows = t;
    at_head = λ p h. let same : q ≡ p = cc in
        subst (λ y. IsPlaceOf y heads) same (block_place heads k.turns t k.pc q met at);
  }

  round_by : (k : Known) (o : Option Line) (q : Question) (d : Decision) → k.status ≡ status.Going
      → KnowsHeads heads k.turns → IsAsked (instr_of o) k q → GoesRound heads (go o k q d)
  round_by k o (Does d') d e t a = counted_round k (go o k (Does d') d) e t (line_counts k o)
  round_by k o (Touches r) d e t a = counted_round k (go o k (Touches r) d) e t (load_counts (instr_of o) r k)
  round_by k o (Overwrites r) d e t a = counted_round k (go o k (Overwrites r) d) e t (store_counts (instr_of o) _ k)
  round_by k o (AsksNull u) d e t a = record { knows = t; at_head = going_on (go o k (AsksNull u) d) e }
  round_by k o (Base u v j) d e t a = record { knows = t; at_head = going_on (go o k (Base u v j) d) e }
  round_by k o (Answers x) d e t a =
      let r = mark_at (outcomes_of_answer x) (number_of_outcome d) in
      counted_round (arrive_answer x r k) (go o k (Answers x) d) e t
      (answered_counts (arrive_answer x r k) (call_var (instr_of o)) _)
  round_by k o (Same u v) d e t a = record {
    knows = stepped_known heads k.turns t;
    at_head = going_on (go o k (Same u v) d) e;
  }
  round_by k o (Orders x y) d e t a =
      let k' = with_comparison (place_of_line o) x y k in
      let same = compared_same (place_of_line o) x y k in
      counted_round k' (go o k (Orders x y) d) (same.0 ∙ e) (subst (KnowsHeads heads) (sym same.1) t)
      (ordered_counts (instr_of o) (says_order d) k')
  round_by k o (Range kind x) d e t a = ranged_round (instr_of o) x (place_of_line o) (number_of_outcome d == 1) k e t
  round_by k o (Computes kind p x y) d e t a =
      let k' = with_computation (place_of_line o) (record { kind = kind; op = p; a = x; b = y }) k in
      ranged_round (instr_of o) (next_computed k) (place_of_line o) (number_of_outcome d == 1) k' e t
  round_by k o Unplain d e t a = record { knows = t; at_head = λ p h. absurd (cc) }
  round_by k o Turn d e t a = turned_round (blocked_at k.turns k.pc) k e t a refl
  round_by k o (Returns y) d e t a = record { knows = t; at_head = λ p h. absurd (cc) }
  round_by k o (Stops d') d e t a = record { knows = t; at_head = λ p h. absurd (cc) }
  round_by k o Over d e t a = record { knows = t; at_head = going_on k e }

  pub path_round : (code : List Line) (n : ℕ) → AreObjectLines n code → (first : State) → IsSound first
      → first.statics ≡ n → GoesRound heads first.known → (ds : List Decision) (s : State) → Path code first ds s
      → GoesRound heads s.known
  path_round code n form first w same start ds s path_here = start
  path_round code n form first w same start _ _ (path_on ds s d p c) =
      let r = path_sound code n form first w same ds s p in
      let before = path_round code n form first w same start ds s p in
      round_by s.known (slice_get code s.known.pc) (ask code s.known) d (can_going code s d c) before.knows
      (asked_at code n form s r.0 r.1 d c)

pub start_round : (statics f : ℕ) (code : Code) → GoesRound code.heads (start_state statics f code).known
start_round statics f code = record {
  knows = first_known code.heads;
  at_head = λ p h. absurd (cc);
}

-- where a path isn't followed for a loop, that is at the place of a head
pub at_loop : (codes : Codes) (s : State) → AtLoop codes s
at_loop codes s code ds p reached e =
    let f = s.known.function in
    let form = form_lines codes.statics code reached.0.form in
    let first = start_state codes.statics f code in
    let r = path_round code.heads code.instrs codes.statics form first (start_sound codes.statics f code) refl
    (start_round codes.statics f code) ds s reached.1 in
    r.at_head p e
