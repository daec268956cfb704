-- Objects that were made: their numbers in the state's own run, and which ones an answer adds.
use Rattle.std.proofs.Common.{◌≡◌, ◌==◌, ℕ, suc, ◌+◌, ◌-◌, ◌<◌, ◌≤◌, List, [], ◌∷◌, ◌++◌, length, get_or, Bool}
use Rattle.std.proofs.Common.{true, false, refl, sym, ap, ◌∙◌, arith, ◌⊎◌, inl, inr, Option, None, Some, cond}
use Rattle.std.proofs.Common.{length-append}
use Rattle.std.specs.Prelude.{◌||◌}
use Rattle.std.specs.declared.cmp.Ordering.{Ordering}
use Rattle.std.proofs.lemmas.Bool.{eqb-true, eq-eqb}
use Rattle.std.proofs.lemmas.List.{append-nil, append_assoc, get_or-append-add}
use Rattle.pungi_base.specs.declared.pos.Pos.{Pos}
use Rattle.pungi_api.specs.declared.answer.Answer.{Answer}
use Rattle.pungi_api.specs.declared.answer.Answer.TheVariants as answer
use Rattle.pungi_code.specs.declared.atom.Var.{Var}
use Rattle.pungi_code.specs.declared.code.Line.{Line}
use Rattle.pungi_code.specs.declared.instr.Instr.{Instr}
use Rattle.pungi_code.specs.declared.instr.Instr.TheVariants.{Set, Arith, Fit, Compare, Load, Store, Api, Call}
use Rattle.pungi_code.specs.declared.instr.Instr.TheVariants.{Unset as Forget, Jump, Branch, Return, Fall}
use Rattle.pungi_symbol.specs.declared.answers.decision.Decision.{Decision}
use Rattle.pungi_symbol.specs.declared.questions.found_slot.Finding.{Finding}
use Rattle.pungi_symbol.specs.declared.questions.found_slot.Finding.TheVariants.{Waits, At, OfMade, Nowhere}
use Rattle.pungi_symbol.specs.declared.questions.question.Question.{Question}
use Rattle.pungi_symbol.specs.declared.questions.question.Question.TheVariants.{Does, Touches, Overwrites}
use Rattle.pungi_symbol.specs.declared.questions.question.Question.TheVariants.{Null as AsksNull, Base, Answers, Same}
use Rattle.pungi_symbol.specs.declared.questions.question.Question.TheVariants.{Orders, Range, Computes, Unplain, Turn}
use Rattle.pungi_symbol.specs.declared.questions.question.Question.TheVariants.{Returns, Stops, Over}
use Rattle.pungi_symbol.specs.declared.states.known.Known.{Known}
use Rattle.pungi_symbol.specs.declared.states.known.Status.TheVariants as status
use Rattle.pungi_symbol.specs.declared.states.mark.Mark.{Mark}
use Rattle.pungi_symbol.specs.declared.states.mark.Mark.TheVariants.{Pointer, TextPointer, IsNull, IsObject, IsText}
use Rattle.pungi_symbol.specs.declared.states.mark.Mark.TheVariants.{IsNumber, IsConverted, Integer}
use Rattle.pungi_symbol.specs.declared.states.spot.Spot.{Spot}
use Rattle.pungi_symbol.specs.declared.states.state.State.{State}
use Rattle.pungi_symbol.specs.declared.states.sum.Sum.{Sum}
use Rattle.pungi_symbol.specs.declared.states.term.Term.{Term}
use Rattle.pungi_symbol.specs.states.NumberPlaces.{with_compared}
use Rattle.pungi_symbol.specs.states.Terms.{outcomes_of_mark, outcomes_of_answer, mark_at, is_computed}
use Rattle.pungi_symbol.specs.states.Turns.{blocked_at}
use Rattle.pungi_symbol.specs.states.Known.{count, find, spot_of, term_of}
use Rattle.pungi_symbol.specs.questions.NextQuestion.{first_term, terms_of}
use Rattle.pungi_symbol.specs.answers.KnownAfter.{made_by, arrive_answer, answer_of_call, term_with, does, load_first}
use Rattle.pungi_symbol.specs.answers.KnownAfter.{store_first, store_found, perform_line, instr_of, call_var}
use Rattle.pungi_symbol.specs.answers.KnownAfter.{put_answer, number_of_outcome, says_order, place_of_line, ordered}
use Rattle.pungi_symbol.specs.answers.KnownAfter.{computed, turned, with_comparison, with_computation, next_computed}
use Rattle.pungi_symbol.specs.answers.SymbolicState.{is_among, apply}
use Rattle.pungi_symbol.specs.runs.Paths.{object_number}
use Rattle.pungi_symbol.proofs.questions.Firsts.{below_or}
use Rattle.pungi_symbol.proofs.answers.Made.{neither, among_at, among_either}

-- ---- lists of tokens

or_later : (a b : Bool) → b ≡ true → (a || b) ≡ true
or_later true b e = refl
or_later false b e = e

not_both : {X : Type 0} (b : Bool) → b ≡ true → b ≡ false → X
not_both b e f = absurd (let bad : true ≡ false = sym e ∙ f in cc)

pub among_here : (ms ns : List ℕ) (t : ℕ) → is_among (ms ++ t ∷ ns) t ≡ true
among_here [] ns t = ap (λ b. b || is_among ns t) (eq-eqb t t refl)
among_here (m ∷ ms) ns t = or_later (m == t) (is_among (ms ++ t ∷ ns) t) (among_here ms ns t)

pub among_later : (m : ℕ) (ms : List ℕ) (t : ℕ) → is_among ms t ≡ true → is_among (m ∷ ms) t ≡ true
among_later m ms t e = or_later (m == t) (is_among ms t) e

-- a token after all of these isn't among them
pub later_not : (ms : List ℕ) (n t : ℕ) → ((m : ℕ) → is_among ms m ≡ true → m < n) → n ≤ t → is_among ms t ≡ false
later_not ms n t below le = by (is_among ms t) refl
  where
    by : (b : Bool) → is_among ms t ≡ b → is_among ms t ≡ false
    by true e = let lt = below t e in absurd (omega (arith, lt, le))
    by false e = e

-- nor is one before all of these
pub earlier_not : (ms : List ℕ) (n t : ℕ) → ((m : ℕ) → is_among ms m ≡ true → n ≤ m) → t < n → is_among ms t ≡ false
earlier_not ms n t late lt = by (is_among ms t) refl
  where
    by : (b : Bool) → is_among ms t ≡ b → is_among ms t ≡ false
    by true e = let le = late t e in absurd (omega (arith, lt, le))
    by false e = e

-- ---- numbers

-- an object that was made has the number of its place, after all others
pub data Numbered (n : ℕ) (made : List ℕ) (c : ℕ) : Type 0 where
  an_other : is_among made c ≡ false → object_number n made c ≡ c → Numbered n made c
  made_at : (i : ℕ) → i < length made → get_or made i 0 ≡ c → object_number n made c ≡ n + i → Numbered n made c

pub numbered : (n : ℕ) (made : List ℕ) (c : ℕ) → Numbered n made c
numbered n [] c = an_other refl refl
numbered n (m ∷ made) c = by (numbered (n + 1) made c) (m == c) refl
  where
    by : Numbered (n + 1) made c → (b : Bool) → (m == c) ≡ b → Numbered n (m ∷ made) c
    by r true e = made_at 0 (omega arith) (eqb-true m c e)
        (ap (λ b. cond b n (object_number (n + 1) made c)) e ∙ (omega arith))
    by r false e = elim r [
      | an_other a f ↦ an_other (ap (λ b. b || is_among made c) e ∙ a)
          (ap (λ b. cond b n (object_number (n + 1) made c)) e ∙ f)
      | made_at i lt g f ↦ made_at (suc i) (omega (arith, lt)) g
          (ap (λ b. cond b n (object_number (n + 1) made c)) e ∙ f ∙ (omega arith))
    ]

pub number_of_other : (n : ℕ) (made : List ℕ) (c : ℕ) → is_among made c ≡ false → object_number n made c ≡ c
number_of_other n made c h = elim (numbered n made c) [
  | an_other a f ↦ f
  | made_at i lt g f ↦ not_both (is_among made c) (ap (is_among made) (sym g) ∙ among_at made i lt) h
]

-- different classes have different numbers
pub numbers_part : (n : ℕ) (made : List ℕ) (c d : ℕ) → c < n → d < n → object_number n made c ≡ object_number n made d
    → c ≡ d
numbers_part n made c d h g e = elim (numbered n made c) [
  | an_other a f ↦ elim (numbered n made d) [
    | an_other a' f' ↦ sym f ∙ e ∙ f'
    | made_at j lt' q' f' ↦ absurd (omega (arith, h, e, f, f'))
  ]
  | made_at i lt q f ↦ elim (numbered n made d) [
    | an_other a' f' ↦ absurd (omega (arith, g, e, f, f'))
    | made_at j lt' q' f' ↦ sym q ∙ ap (λ k. get_or made k 0) (omega (arith, e, f, f')) ∙ q'
  ]
]

-- the number of one that was made after these
pub number_here : (n : ℕ) (before : List ℕ) (t : ℕ) (after : List ℕ) → is_among before t ≡ false
    → object_number n (before ++ t ∷ after) t ≡ n + length before
number_here n [] t after h =
    ap (λ b. cond b n (object_number (n + 1) after t)) (eq-eqb t t refl) ∙ (omega arith)
number_here n (m ∷ before) t after h =
    let two = neither (m == t) (is_among before t) h in
    ap (λ b. cond b n (object_number (n + 1) (before ++ t ∷ after) t)) two.0
    ∙ number_here (n + 1) before t after two.1 ∙ (omega arith)

-- a class that isn't later than a token before the rest has a number before those of the rest
pub number_small : (n : ℕ) (before after : List ℕ) (t c : ℕ) → ((m : ℕ) → is_among after m ≡ true → t < m) → c ≤ t
    → c < n → object_number n (before ++ after) c < n + length before
number_small n before after t c later le h = elim (numbered n (before ++ after) c) [
  | an_other a f ↦ omega (arith, h, f)
  | made_at i lt q f ↦ elim (below_or i (length before)) [
    | inl g ↦ omega (arith, g, f)
    | inr g ↦
        let long = length-append before after in
        let j = i - length before in
        let back : i ≡ length before + j = omega (arith, g) in
        let at : get_or after j 0 ≡ c = sym (ap (λ k. get_or (before ++ after) k 0) back
        ∙ get_or-append-add before after j 0) ∙ q in
        let there : j < length after = omega (arith, lt, g, long) in
        let late = later c (ap (is_among after) (sym at) ∙ among_at after j there) in
        absurd (omega (arith, late, le))
  ]
]

-- ---- what an answer adds

pub made_is : (a : Answer) (r : Mark) (n : ℕ)
    → (made_by a r n ≡ []) ⊎ ((a ≡ answer.Made) × ((r ≡ IsObject) × (made_by a r n ≡ n ∷ [])))
made_is answer.New r n = inl refl
made_is answer.Borrowed r n = inl refl
made_is answer.BorrowedSure r n = inl refl
made_is answer.Status r n = inl refl
made_is answer.Truth r n = inl refl
made_is answer.Size r n = inl refl
made_is answer.Int r n = inl refl
made_is answer.Long r n = inl refl
made_is answer.Text r n = inl refl
made_is answer.Void r n = inl refl
made_is answer.Null r n = inl refl
made_is answer.Found r n = inl refl
made_is (answer.Converted failures least most) r n = inl refl
made_is answer.AnySize r n = inl refl
made_is answer.Flag r n = inl refl
made_is answer.TextSure r n = inl refl
made_is answer.Made Pointer n = inl refl
made_is answer.Made TextPointer n = inl refl
made_is answer.Made IsNull n = inl refl
made_is answer.Made IsObject n = inr (refl, (refl, refl))
made_is answer.Made IsText n = inl refl
made_is answer.Made (IsNumber i) n = inl refl
made_is answer.Made (IsConverted i) n = inl refl
made_is answer.Made (Integer r) n = inl refl

-- the token that is one of a made object after an answer
abbrev pub came_made : Question → Decision → ℕ → List ℕ
came_made (Answers a) d n = made_by a (mark_at (outcomes_of_answer a) (number_of_outcome d)) n
came_made q d n = []

put_made : (k : Known) (x : Option Var) (c : Option Term) → (put_answer x c k).made ≡ k.made
put_made k None c = refl
put_made k (Some x) None = refl
put_made k (Some x) (Some c) = refl

found_made : (f : Finding) (s : Spot) (c : Term) (k : Known) → (store_found f s c k).made ≡ k.made
found_made (Waits q) s c k = refl
found_made (At i) s c k = refl
found_made OfMade s c k = refl
found_made Nowhere s c k = refl

does_made : (k : Known) (i : Instr) → (does k i).made ≡ k.made
does_made k (Set x a) = refl
does_made k (Arith x kind o a b) = refl
does_made k (Fit x kind a) = refl
does_made k (Compare x c a b) = refl
does_made k (Load x place) = refl
does_made k (Store place a) = found_made (find k place) (spot_of k place) (term_of k a) k
does_made k (Api x g as') = put_made k x (answer_of_call g.answer (first_term (terms_of k as')))
does_made k (Call x f as') = refl
does_made k (Forget x) = refl
does_made k (Jump to) = refl
does_made k (Branch a this other) = refl
does_made k (Return o) = refl
does_made k Fall = refl

line_made : (k : Known) (o : Option Line) → (perform_line o (λ i. does k i) k).made ≡ k.made
line_made k None = refl
line_made k (Some line) = does_made k line.instr

load_made : (i : Instr) (r : Mark) (k : Known) → (load_first i r k).made ≡ k.made
load_made (Set x a) r k = refl
load_made (Arith x kind o a b) r k = refl
load_made (Fit x kind a) r k = refl
load_made (Compare x c a b) r k = refl
load_made (Load x place) r k = refl
load_made (Store place a) r k = refl
load_made (Api x g as') r k = refl
load_made (Call x f as') r k = refl
load_made (Forget x) r k = refl
load_made (Jump to) r k = refl
load_made (Branch a this other) r k = refl
load_made (Return o) r k = refl
load_made Fall r k = refl

store_made : (i : Instr) (r : Mark) (k : Known) → (store_first i r k).made ≡ k.made
store_made (Set x a) r k = refl
store_made (Arith x kind o a b) r k = refl
store_made (Fit x kind a) r k = refl
store_made (Compare x c a b) r k = refl
store_made (Load x place) r k = refl
store_made (Store place a) r k = refl
store_made (Api x g as') r k = refl
store_made (Call x f as') r k = refl
store_made (Forget x) r k = refl
store_made (Jump to) r k = refl
store_made (Branch a this other) r k = refl
store_made (Return o) r k = refl
store_made Fall r k = refl

ordered_made : (i : Instr) (o : Ordering) (k : Known) → (ordered i o k).made ≡ k.made
ordered_made (Compare x c a b) o k = refl
ordered_made (Branch a this other) o k = refl
ordered_made (Set x a) o k = refl
ordered_made (Arith x kind p a b) o k = refl
ordered_made (Fit x kind a) o k = refl
ordered_made (Load x place) o k = refl
ordered_made (Store place a) o k = refl
ordered_made (Api x g as') o k = refl
ordered_made (Call x f as') o k = refl
ordered_made (Forget x) o k = refl
ordered_made (Jump to) o k = refl
ordered_made (Return a) o k = refl
ordered_made Fall o k = refl

compared_made : (p : Pos) (a b : Sum) (k : Known) → (with_comparison p a b k).made ≡ k.made
compared_made p a b k = by (is_computed a.node || is_computed b.node)
  where
    by : (t : Bool) → (cond t (record k { places = with_compared k.places p }) k).made ≡ k.made
    by true = refl
    by false = refl

computed_made : (i : Instr) (a : Sum) (k : Known) → (computed i a k).made ≡ k.made
computed_made (Arith x kind p b c) a k = refl
computed_made (Fit x kind b) a k = refl
computed_made (Compare x c b d) a k = refl
computed_made (Branch b this other) a k = refl
computed_made (Set x b) a k = refl
computed_made (Load x place) a k = refl
computed_made (Store place b) a k = refl
computed_made (Api x g as') a k = refl
computed_made (Call x f as') a k = refl
computed_made (Forget x) a k = refl
computed_made (Jump to) a k = refl
computed_made (Return b) a k = refl
computed_made Fall a k = refl

ranged_made : (i : Instr) (a : Sum) (p : Pos) (b : Bool) (k : Known)
    → (cond b (computed i a k) (record k { status = status.Stopped p })).made ≡ k.made
ranged_made i a p true k = computed_made i a k
ranged_made i a p false k = refl

turned_made : (o : Option Pos) (k : Known) → (turned o k).made ≡ k.made
turned_made None k = refl
turned_made (Some p) k = refl

none_came : (before after : List ℕ) → after ≡ before → after ≡ before ++ []
none_came before after e = e ∙ sym (append-nil before)

pub apply_made : (o : Option Line) (q : Question) (d : Decision) (s : State)
    → (apply o q d s).known.made ≡ s.known.made ++ came_made q d (count s.known)
apply_made o (Does d') d s = none_came s.known.made _ (line_made s.known o)
apply_made o (Touches r) d s = none_came s.known.made _ (load_made (instr_of o) r s.known)
apply_made o (Overwrites r) d s =
    none_came s.known.made _ (store_made (instr_of o) (mark_at (outcomes_of_mark r) (number_of_outcome d)) s.known)
apply_made o (AsksNull t) d s = sym (append-nil s.known.made)
apply_made o (Base t u j) d s = sym (append-nil s.known.made)
apply_made o (Answers a) d s =
    let r = mark_at (outcomes_of_answer a) (number_of_outcome d) in
    put_made (arrive_answer a r s.known) (call_var (instr_of o)) (Some (term_with r (count s.known)))
apply_made o (Same t u) d s = sym (append-nil s.known.made)
apply_made o (Orders a b) d s =
    none_came s.known.made _ (ordered_made (instr_of o) (says_order d) (with_comparison (place_of_line o) a b s.known)
    ∙ compared_made (place_of_line o) a b s.known)
apply_made o (Range kind a) d s =
    none_came s.known.made _ (ranged_made (instr_of o) a (place_of_line o) (number_of_outcome d == 1) s.known)
apply_made o (Computes kind p a b) d s =
    let k = with_computation (place_of_line o) (record { kind = kind; op = p; a = a; b = b }) s.known in
    none_came s.known.made _
    (ranged_made (instr_of o) (next_computed s.known) (place_of_line o) (number_of_outcome d == 1) k)
apply_made o Unplain d s = sym (append-nil s.known.made)
apply_made o Turn d s = none_came s.known.made _ (turned_made (blocked_at s.known.turns s.known.pc) s.known)
apply_made o (Returns x) d s = sym (append-nil s.known.made)
apply_made o (Stops d') d s = sym (append-nil s.known.made)
apply_made o Over d s = sym (append-nil s.known.made)

-- at most the token that came in is one of a made object
pub came_is : (q : Question) (d : Decision) (n : ℕ)
    → (came_made q d n ≡ []) ⊎ ((q ≡ Answers answer.Made) × (came_made q d n ≡ n ∷ []))
came_is (Answers a) d n = elim (made_is a (mark_at (outcomes_of_answer a) (number_of_outcome d)) n) [
  | inl e ↦ inl e
  | inr h ↦ inr (ap Answers h.0, h.1.1)
]
came_is (Does d') d n = inl refl
came_is (Touches r) d n = inl refl
came_is (Overwrites r) d n = inl refl
came_is (AsksNull t) d n = inl refl
came_is (Base t u j) d n = inl refl
came_is (Same t u) d n = inl refl
came_is (Orders a b) d n = inl refl
came_is (Range kind a) d n = inl refl
came_is (Computes kind p a b) d n = inl refl
came_is Unplain d n = inl refl
came_is Turn d n = inl refl
came_is (Returns x) d n = inl refl
came_is (Stops d') d n = inl refl
came_is Over d n = inl refl

-- ---- those that come later

-- all that are made on a path are those so far, and later ones
pub record Follows (all so_far : List ℕ) (n : ℕ) : Type 0 where
  pub more : List ℕ
  pub is : all ≡ so_far ++ more
  pub later : (m : ℕ) → is_among more m ≡ true → n ≤ m

pub follows_back : (all so_far came : List ℕ) (n n' : ℕ) → n ≤ n' → ((m : ℕ) → is_among came m ≡ true → n ≤ m)
    → Follows all (so_far ++ came) n' → Follows all so_far n
follows_back all so_far came n n' le new f = record {
  more = came ++ f.more;
  is = f.is ∙ append_assoc so_far came f.more;
  later = λ m h. elim (among_either came f.more m h) [
    | inl g ↦ new m g
    | inr g ↦ let later = f.later m g in omega (arith, later, le)
  ];
}
