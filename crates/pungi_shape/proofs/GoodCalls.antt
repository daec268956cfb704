-- What holds of the cases of calls of the API.
use Rattle.std.proofs.Common.{ℕ, ◌+◌, ◌≤◌, ◌^◌, Bool, true, false, ℤ, pos, negsuc, List, [], ◌∷◌, length, map}
use Rattle.std.proofs.Common.{get_or, Option, None, Some, if◌then◌else◌, arith, lit≤}
use Rattle.std.specs.Prelude.{◌||◌}
use Rattle.std.specs.List.{enumerate_from}
use Rattle.std.proofs.lemmas.Int.{ints}
use Rattle.pungi_api.specs.declared.answer.Answer.TheVariants as answer
use Rattle.pungi_api.specs.declared.call_answer.CallAnswer.{CallAnswer}
use Rattle.pungi_api.specs.declared.call_answer.CallAnswer.TheVariants.{Of, Argument}
use Rattle.pungi_api.specs.declared.own_effect.OwnEffect.{OwnEffect}
use Rattle.pungi_api.specs.declared.own_effect.OwnEffect.TheVariants.{IncRef, DecRef}
use Rattle.pungi_api.specs.declared.signature.Signature.{Signature}
use Rattle.pungi_api.specs.declared.take.Take.{Take}
use Rattle.pungi_domain.specs.Vectors.{IsWithin}
use Rattle.pungi_world.specs.Calls.{is_call_success, is_taken}
use Rattle.pungi_code.specs.declared.atom.Atom.{Atom}
use Rattle.pungi_code.specs.declared.atom.Var.{Var}
use Rattle.pungi_shape.specs.declared.holding.Holding.{Holding}
use Rattle.pungi_shape.specs.declared.holding.Holding.TheVariants as held
use Rattle.pungi_shape.specs.Bounds.{HasWidth, IsPlain, IsHeld, IsScene}
use Rattle.pungi_shape.specs.Calls.{Outcome, nothing, null, object, text, known, number, outcomes_of, outcomes_of_row}
use Rattle.pungi_shape.specs.Calls.{outcome_value, stops, first_holding, take_over, does, outcome_cases, put_if}
use Rattle.pungi_shape.specs.Calls.{put_reference, new_balance, makes, any_number, outcome_case, argument_case}
use Rattle.pungi_shape.specs.Calls.{answer_cases}
use Rattle.pungi_shape.specs.Cases.{within, leads_to, passes_on, leads}
use Rattle.pungi_shape.specs.Forms.{Form, zero_form, constant}
use Rattle.pungi_shape.specs.Scenes.{Scene, add_to_holding, form_of, holding_of, new_token, with_token}
use Rattle.pungi_shape.proofs.AfterLemmas.{IsAfter, after-add, after-loose, after-none, after-token, after-var}
use Rattle.pungi_shape.proofs.AfterLemmas.{new-below}
use Rattle.pungi_shape.proofs.BalanceLemmas.{constant-within}
use Rattle.pungi_shape.proofs.FormBounds.{constant-width, form_of-width}
use Rattle.pungi_shape.proofs.GoodCases.{AreGood, IsGoodCase, each_good, either_good, none_good, one_good, plain}
use Rattle.pungi_shape.proofs.GoodCases.{var_good}
use Rattle.pungi_shape.proofs.GoodCases.{zero_width}
use Rattle.pungi_shape.proofs.TokenLemmas.{holding_of-held}

-- ---- the first part

taken_one : (b : Bool) (h : Holding) (j : ℕ) (s t : Scene) → IsAfter j s t
    → IsAfter (j + 1) s (if b then add_to_holding h (negsuc 0) t else t)
taken_one true h j s t k = after-add j h (negsuc 0) s t k (omega (arith, ints), omega (arith, ints))
taken_one false h j s t k = after-loose j (j + 1) s t (omega arith) k

taken_after : (success : Bool) (ts : List Take) (hs : List Holding) (j : ℕ) (s t : Scene) → IsAfter j s t
    → IsAfter (j + length hs) s (take_over success ts hs t)
taken_after success [] hs j s t k = after-loose j (j + length hs) s t (omega arith) k
taken_after success (x ∷ ts) [] j s t k = after-loose j (j + 0) s t (omega arith) k
taken_after success (x ∷ ts) (h ∷ hs) j s t k =
    let u = if is_taken success x then add_to_holding h (negsuc 0) t else t in
    after-loose (j + 1 + length hs) (j + length (h ∷ hs)) s (take_over success ts hs u) (omega arith)
    (taken_after success ts hs (j + 1) s u (taken_one (is_taken success x) h j s t k))

does_after : (own : Option OwnEffect) (g : Signature) (hs : List Holding) (o : Outcome) (s : Scene) → IsScene s
    → IsPlain s → IsAfter (length hs + 2) s (does own g hs o s)
does_after None g hs o s k fresh =
    let t = take_over (is_call_success g.answer (outcome_value o)) g.takes hs s in
    after-loose (1 + length hs) (length hs + 2) s t (omega arith)
    (taken_after (is_call_success g.answer (outcome_value o)) g.takes hs 1 s s (after-none s k fresh))
does_after (Some IncRef) g hs o s k fresh =
    after-loose 2 (length hs + 2) s (add_to_holding (first_holding hs) (pos 1) s) (omega arith)
    (after-add 1 (first_holding hs) (pos 1) s s (after-none s k fresh) (omega (arith, ints), omega (arith, ints)))
does_after (Some DecRef) g hs o s k fresh =
    after-loose 2 (length hs + 2) s (add_to_holding (first_holding hs) (negsuc 0) s) (omega arith)
    (after-add 1 (first_holding hs) (negsuc 0) s s (after-none s k fresh) (omega (arith, ints), omega (arith, ints)))

pub outcome_cases-good : (g : Signature) (hs : List Holding) (s : Scene) → IsScene s → IsPlain s
    → length hs ≤ 2 ^ 14 → AreGood s (outcome_cases g hs s)
outcome_cases-good g hs s k fresh few =
    let one = λ (e : ℕ × Outcome). passes_on e.0 (does g.own g hs e.1 s) in
    either_good s (stops g.params hs) []
    (map one (enumerate_from 0 (outcomes_of g.answer))) (none_good s)
    (each_good s one (enumerate_from 0 (outcomes_of g.answer))
    (λ e. plain (length hs + 2) s (does g.own g hs e.1 s) None (within e.0)
    (does_after g.own g hs e.1 s k fresh) (omega (arith, few))))

-- ---- the answer

put_after : (j : ℕ) (x : Option Var) (h : Holding) (f : Form) (s t : Scene) → IsAfter j s t → IsHeld t h
    → HasWidth t.width f → IsAfter j s (put_if x h f t)
put_after j None h f s t k held w = k
put_after j (Some x) h f s t k held w = after-var j x.0 h f s t k held w

put_good : (x : Option Var) (h : Holding) (f : Form) (pc : ℕ) (s : Scene) → IsScene s → IsPlain s → IsHeld s h
    → HasWidth s.width f → IsGoodCase s (leads pc (put_if x h f s))
put_good x h f pc s k fresh held w =
    plain 1 s (put_if x h f s) None (leads_to pc) (put_after 1 x h f s s (after-none s k fresh) held w) (lit≤ tt)

reference_good : (x : Option Var) (n : ℤ) (made : Bool) (pc : ℕ) (s : Scene) → IsScene s → IsPlain s → IsWithin 1 n
    → IsGoodCase s (leads pc (put_reference x n made s))
reference_good x n made pc s k fresh hn =
    let f = constant s.width n in
    let new = with_token f made s in
    plain 1 s (put_reference x n made s) None (leads_to pc)
    (put_after 1 x (held.Token (new_token s)) (zero_form s.width) s new
    (after-token 1 f made s s (after-none s k fresh) (constant-width s.width n) (constant-within s.width n hn)
    (λ c. c))
    (new-below f made s) (zero_width s.width)) (lit≤ tt)

one_within : IsWithin 1 (pos 1)
one_within = (omega (arith, ints), omega (arith, ints))

zero_within : IsWithin 1 (pos 0)
zero_within = (omega (arith, ints), omega (arith, ints))

balance_within : (a : CallAnswer) → IsWithin 1 (new_balance a)
balance_within (Of answer.New) = one_within
balance_within (Of answer.Borrowed) = zero_within
balance_within (Of answer.BorrowedSure) = zero_within
balance_within (Of answer.Status) = zero_within
balance_within (Of answer.Truth) = zero_within
balance_within (Of answer.Size) = zero_within
balance_within (Of answer.Int) = zero_within
balance_within (Of answer.Long) = zero_within
balance_within (Of answer.Text) = zero_within
balance_within (Of answer.Void) = zero_within
balance_within (Of answer.Null) = zero_within
balance_within (Of answer.Found) = zero_within
balance_within (Of (answer.Converted failures least most)) = zero_within
balance_within (Of answer.AnySize) = zero_within
balance_within (Of answer.Flag) = zero_within
balance_within (Of answer.TextSure) = zero_within
balance_within (Of answer.Made) = one_within
balance_within Argument = zero_within

same_good : (pc : ℕ) (s : Scene) → IsScene s → IsPlain s → IsGoodCase s (leads pc s)
same_good pc s k fresh = plain 1 s s None (leads_to pc) (after-none s k fresh) (lit≤ tt)

any_number-good : (x : Option Var) (pc : ℕ) (s : Scene) → IsScene s → IsPlain s → IsGoodCase s (any_number x pc s)
any_number-good None pc s k fresh = same_good pc s k fresh
any_number-good (Some x) pc s k fresh =
    var_good s x.0 pc held.Number (zero_form s.width) (Some x.0) k fresh tt (zero_width s.width)

outcome_case-good : (o : Outcome) (a : CallAnswer) (x : Option Var) (pc : ℕ) (s : Scene) → IsScene s → IsPlain s
    → IsGoodCase s (outcome_case o a x pc s)
outcome_case-good nothing a x pc s k fresh = same_good pc s k fresh
outcome_case-good null a x pc s k fresh =
    put_good x held.Null (zero_form s.width) pc s k fresh tt (zero_width s.width)
outcome_case-good object a x pc s k fresh = reference_good x (new_balance a) (makes a) pc s k fresh (balance_within a)
outcome_case-good text a x pc s k fresh =
    put_good x held.Text (zero_form s.width) pc s k fresh tt (zero_width s.width)
outcome_case-good (known n) a x pc s k fresh =
    put_good x (held.Known n) (constant s.width n) pc s k fresh tt (constant-width s.width n)
outcome_case-good number a x pc s k fresh = any_number-good x pc s k fresh

argument_case-good : (x : Option Var) (as' : List Atom) (pc : ℕ) (s : Scene) → IsScene s → IsPlain s
    → IsGoodCase s (argument_case x as' pc s)
argument_case-good x [] pc s k fresh =
    put_good x held.Null (zero_form s.width) pc s k fresh tt (zero_width s.width)
argument_case-good x (a ∷ as') pc s k fresh =
    put_good x (holding_of s a) (form_of s a) pc s k fresh (holding_of-held s a k) (form_of-width s a k)

pub answer_cases-good : (n : ℕ) (a : CallAnswer) (x : Option Var) (as' : List Atom) (pc : ℕ) (s : Scene) → IsScene s
    → IsPlain s → AreGood s (answer_cases n a x as' pc s)
answer_cases-good n (Of a) x as' pc s k fresh =
    let o = get_or (outcomes_of_row a) n nothing in
    one_good s (outcome_case o (Of a) x pc s) (outcome_case-good o (Of a) x pc s k fresh)
answer_cases-good n Argument x as' pc s k fresh =
    one_good s (argument_case x as' pc s) (argument_case-good x as' pc s k fresh)
