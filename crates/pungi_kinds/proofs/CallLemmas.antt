-- What a call of the API returns is of its kind.
use Rattle.std.proofs.Common.{◌≡◌, ℕ, ◌≤◌, Bool, true, false, List, [], ◌∷◌}
use Rattle.std.proofs.Common.{Option, Some, None, Result, Ok, Err, length, map, refl, sym, subst, arith}
use Rattle.std.specs.Prelude.{pos, negsuc, if◌then◌else◌}
use Rattle.pungi_base.specs.declared.choice.Choice.{Choice}
use Rattle.pungi_base.specs.declared.value.Value.{Value}
use Rattle.pungi_base.specs.declared.value.Value.TheVariants as value
use Rattle.pungi_api.specs.declared.answer.Answer.{Answer}
use Rattle.pungi_api.specs.declared.answer.Answer.TheVariants as answer
use Rattle.pungi_api.specs.declared.call_answer.CallAnswer.{CallAnswer}
use Rattle.pungi_api.specs.declared.call_answer.CallAnswer.TheVariants.{Of, Argument}
use Rattle.pungi_api.specs.declared.own_effect.OwnEffect.{OwnEffect}
use Rattle.pungi_api.specs.declared.own_effect.OwnEffect.TheVariants as own
use Rattle.pungi_api.specs.declared.param.Param.{Param}
use Rattle.pungi_api.specs.declared.param.Param.TheVariants as param
use Rattle.pungi_api.specs.declared.signature.Signature.{Signature}
use Rattle.pungi_api.specs.declared.take.Take.{Take}
use Rattle.pungi_api.specs.Rows.{fits_int}
use Rattle.pungi_api.specs.Signatures.{has_outcomes, returns_object}
use Rattle.pungi_world.specs.declared.content.Content.TheVariants.{Holds}
use Rattle.pungi_world.specs.declared.effect.Effect.{Effect}
use Rattle.pungi_world.specs.declared.halt.Halt.{Halt}
use Rattle.pungi_world.specs.declared.halt.Halt.TheVariants.{Stopped, NeedsChoice}
use Rattle.pungi_world.specs.declared.world.World.{World}
use Rattle.pungi_world.specs.Counts.{count_value, hand_over, with_value}
use Rattle.pungi_world.specs.Choices.{answer_of, choose, is_accepted, value_of}
use Rattle.pungi_world.specs.Calls.{call_answer, call_effect, first_of, is_call_success, is_taken, own_world, stops}
use Rattle.pungi_world.specs.Calls.{take_over, with_answer, with_new_reference}
use Rattle.pungi_world.specs.Effects.{◌>>=◌, effect}
use Rattle.pungi_code.specs.Entries.{holds_value}
use Rattle.pungi_code.specs.WellFormed.{answer_param}
use Rattle.pungi_layout.proofs.well_formed.Both.{and_left}
use Rattle.pungi_kinds.specs.Contents.{arguments_hold}
use Rattle.pungi_kinds.specs.Operations.{answer_holds}
use Rattle.pungi_kinds.proofs.WorldLemmas.{Same, Grows, same, then_same, grows_same, then_grows, counted, marked}
use Rattle.pungi_kinds.proofs.WorldLemmas.{handed, grows_with, accepted_holds}

pub same_ok : {A : Type 0} (x y : A) → (let R : Type 0 = Result A Halt in let p : R = Ok x in let q : R = Ok y in p ≡ q)
    → x ≡ y
same_ok x y e = cc

-- ---- answers

record IsAnswered (w : World) (a : CallAnswer) (choices : List Choice) (r : Option Value × ℕ) : Type 0 where
  grows : Grows w (with_answer a w r.0) r.1
  used : r.1 ≤ length choices
  holds : answer_holds (length (with_answer a w r.0).accounts) a r.0 ≡ true

referred : (a : Answer) (w : World) (v : Value) → Same (with_value w v) (with_new_reference a w (Some v))
referred answer.New w v = counted (with_value w v) v (pos 1)
referred answer.Made w v =
    then_same (with_value w v) (count_value (with_value w v) v (pos 1)) (with_new_reference answer.Made w (Some v))
    (counted (with_value w v) v (pos 1)) (marked (count_value (with_value w v) v (pos 1)) v)
referred _ w v = same (with_value w v)

-- a call that returns nothing accepts no choice
value_answered : (n m : ℕ) (a : Answer) (c : Choice) (v : Value) → is_accepted m a c ≡ true
    → holds_value n (answer_param a) v ≡ true → answer_holds n (Of a) (Some v) ≡ true
value_answered n m answer.Void c v h k = absurd (cc)
value_answered n m _ c v h k = k

answered_by : (w : World) (a : Answer) (c : Choice) (choices : List Choice) → fits_int a ≡ true
    → is_accepted (length w.accounts) a c ≡ true → IsAnswered w (Of a) (c ∷ choices) (Some (value_of c), 1)
answered_by w a c choices f h =
    let s = referred a w (value_of c) in
    record {
      grows = then_grows w (with_value w (value_of c)) (with_new_reference a w (Some (value_of c))) 1
          (grows_with w (value_of c)) s;
      used = omega arith;
      holds = value_answered (length (with_new_reference a w (Some (value_of c))).accounts) (length w.accounts) a c
          (value_of c) h (subst (λ n. holds_value n (answer_param a) (value_of c) ≡ true) (sym s.accounts)
          (accepted_holds w a c f h));
    }

chosen : (w : World) (a : Answer) (choices : List Choice) (r : Option Value × ℕ) → fits_int a ≡ true
    → (choose (length w.accounts) a choices >>= λ x. Ok (Some x, 1)) ≡ Ok r → IsAnswered w (Of a) choices r
chosen w a [] r f e = absurd (cc)
chosen w a (c ∷ choices) r f e = by (is_accepted (length w.accounts) a c) refl e
  where
    by : (b : Bool) → is_accepted (length w.accounts) a c ≡ b
        → ((if b then Ok (value_of c) else Err NeedsChoice) >>= λ x. Ok (Some x, 1)) ≡ Ok r
        → IsAnswered w (Of a) (c ∷ choices) r
    by true h k =
        subst (λ q. IsAnswered w (Of a) (c ∷ choices) q) (same_ok (Some (value_of c), 1) r k)
        (answered_by w a c choices f h)
    by false h k = absurd (cc)

row_answered : (w : World) (a : Answer) (choices : List Choice) (r : Option Value × ℕ) → fits_int a ≡ true
    → answer_of (length w.accounts) a choices ≡ Ok r → IsAnswered w (Of a) choices r
row_answered w answer.Void choices r f e =
    subst (λ q. IsAnswered w (Of answer.Void) choices q) (same_ok (None, 0) r e)
    (record { grows = grows_same w w 0 (same w); used = omega arith; holds = refl })
row_answered w answer.Null choices r f e =
    subst (λ q. IsAnswered w (Of answer.Null) choices q) (same_ok (Some value.Null, 0) r e)
    (record { grows = grows_same w w 0 (same w); used = omega arith; holds = refl })
row_answered w answer.New choices r f e = chosen w answer.New choices r f e
row_answered w answer.Borrowed choices r f e = chosen w answer.Borrowed choices r f e
row_answered w answer.BorrowedSure choices r f e = chosen w answer.BorrowedSure choices r f e
row_answered w answer.Status choices r f e = chosen w answer.Status choices r f e
row_answered w answer.Truth choices r f e = chosen w answer.Truth choices r f e
row_answered w answer.Size choices r f e = chosen w answer.Size choices r f e
row_answered w answer.Int choices r f e = chosen w answer.Int choices r f e
row_answered w answer.Long choices r f e = chosen w answer.Long choices r f e
row_answered w answer.Text choices r f e = chosen w answer.Text choices r f e
row_answered w answer.Found choices r f e = chosen w answer.Found choices r f e
row_answered w (answer.Converted failures least most) choices r f e =
    chosen w (answer.Converted failures least most) choices r f e
row_answered w answer.AnySize choices r f e = chosen w answer.AnySize choices r f e
row_answered w answer.Flag choices r f e = chosen w answer.Flag choices r f e
row_answered w answer.TextSure choices r f e = chosen w answer.TextSure choices r f e
row_answered w answer.Made choices r f e = chosen w answer.Made choices r f e

-- the first argument, where it is an object
first_holds : (n : ℕ) (ps : List Param) (vs : List Value) → returns_object Argument ps ≡ true
    → arguments_hold n ps (map Holds vs) ≡ true → holds_value n param.ObjectOrNull (first_of vs) ≡ true
first_holds n [] vs h k = absurd (cc)
first_holds n (p ∷ ps) [] h k = absurd (cc)
first_holds n (param.Object ∷ ps) (v ∷ vs) h k =
    and_left (holds_value n param.ObjectOrNull v) (arguments_hold n ps (map Holds vs)) k
first_holds n (param.ObjectOrNull ∷ ps) (v ∷ vs) h k =
    and_left (holds_value n param.ObjectOrNull v) (arguments_hold n ps (map Holds vs)) k
first_holds n (_ ∷ ps) (v ∷ vs) h k = absurd (cc)

-- an argument parser that is called ends with an `int`
row_fits : (o : Option OwnEffect) (a : Answer) → has_outcomes o (Of a) ≡ true → fits_int a ≡ true
row_fits None a h = h
row_fits (Some o) answer.Void h = refl
row_fits (Some o) answer.Null h = refl
row_fits (Some o) _ h = absurd (cc)

answered : (w : World) (g : Signature) (a : CallAnswer) (vs : List Value) (choices : List Choice)
    (r : Option Value × ℕ) → has_outcomes g.own a ≡ true → returns_object a g.params ≡ true
    → arguments_hold (length w.accounts) g.params (map Holds vs) ≡ true
    → call_answer (length w.accounts) a vs choices ≡ Ok r → IsAnswered w a choices r
answered w g (Of a) vs choices r f o h e = row_answered w a choices r (row_fits g.own a f) e
answered w g Argument vs choices r f o h e =
    subst (λ q. IsAnswered w Argument choices q) (same_ok (Some (first_of vs), 0) r e)
    (record {
      grows = grows_same w w 0 (same w);
      used = omega arith;
      holds = first_holds (length w.accounts) g.params vs o h;
    })

-- ---- what a call leaves

taken : (w : World) (x : Value) (b : Bool) → Same w (if b then hand_over w x else w)
taken w x true = handed w x
taken w x false = same w

all_taken : (w : World) (b : Bool) (ts : List Take) (vs : List Value) → Same w (take_over w b ts vs)
all_taken w b [] vs = same w
all_taken w b (t ∷ ts) [] = same w
all_taken w b (t ∷ ts) (v ∷ vs) =
    let next = if is_taken b t then hand_over w v else w in
    then_same w next (take_over next b ts vs) (taken w v (is_taken b t)) (all_taken next b ts vs)

-- a call that has an effect of its own brings no object
none_new : (w : World) (o : OwnEffect) (a : CallAnswer) (vs : List Value) (choices : List Choice)
    (r : Option Value × ℕ) → has_outcomes (Some o) a ≡ true → call_answer (length w.accounts) a vs choices ≡ Ok r
    → with_answer a w r.0 ≡ w
none_new w o Argument vs choices r h e = refl
none_new w o (Of answer.Void) vs choices r h e =
    subst (λ (q : Option Value × ℕ). with_answer (Of answer.Void) w q.0 ≡ w) (same_ok (None, 0) r e) refl
none_new w o (Of answer.Null) vs choices r h e =
    subst (λ (q : Option Value × ℕ). with_answer (Of answer.Null) w q.0 ≡ w) (same_ok (Some value.Null, 0) r e) refl
none_new w o (Of _) vs choices r h e = absurd (cc)

own_same : (w : World) (o : OwnEffect) (g : Signature) (vs : List Value) (v : Option Value)
    → Same w (own_world (Some o) g vs w v)
own_same w own.IncRef g vs v = counted w (first_of vs) (pos 1)
own_same w own.DecRef g vs v = counted w (first_of vs) (negsuc 0)

left_same : (w : World) (o : Option OwnEffect) (g : Signature) (vs : List Value) (choices : List Choice)
    (r : Option Value × ℕ) → has_outcomes o g.answer ≡ true
    → call_answer (length w.accounts) g.answer vs choices ≡ Ok r
    → Same (with_answer g.answer w r.0) (own_world o g vs w r.0)
left_same w None g vs choices r h e =
    all_taken (with_answer g.answer w r.0) (is_call_success g.answer r.0) g.takes vs
left_same w (Some o) g vs choices r h e =
    subst (λ v. Same v (own_world (Some o) g vs w r.0)) (sym (none_new w o g.answer vs choices r h e))
    (own_same w o g vs r.0)

pub record IsCalled (w : World) (g : Signature) (choices : List Choice) (r : Effect × World) : Type 0 where
  pub grows : Grows w r.1 r.0.used
  pub used : r.0.used ≤ length choices
  pub holds : answer_holds (length r.1.accounts) g.answer r.0.value ≡ true

module _ (w : World) (g : Signature) (vs : List Value) (choices : List Choice)
    (object : returns_object g.answer g.params ≡ true) (outcomes : has_outcomes g.own g.answer ≡ true)
    (held : arguments_hold (length w.accounts) g.params (map Holds vs) ≡ true) where
  left_so : (q : Option Value × ℕ) → call_answer (length w.accounts) g.answer vs choices ≡ Ok q
      → IsCalled w g choices (effect q.0 q.1, own_world g.own g vs w q.0)
  left_so q e =
      let a = answered w g g.answer vs choices q outcomes object held e in
      let s = left_same w g.own g vs choices q outcomes e in
      record {
        grows = then_grows w (with_answer g.answer w q.0) (own_world g.own g vs w q.0) q.1 a.grows s;
        used = a.used;
        holds = subst (λ n. answer_holds n g.answer q.0 ≡ true) (sym s.accounts) a.holds;
      }

  pub called : (r : Effect × World) → call_effect w g vs choices ≡ Ok r → IsCalled w g choices r
  called r e = by (stops g.params vs) e
    where
      after : (o : Result (Option Value × ℕ) Halt) → call_answer (length w.accounts) g.answer vs choices ≡ o
          → (o >>= λ q. Ok (effect q.0 q.1, own_world g.own g vs w q.0)) ≡ Ok r → IsCalled w g choices r
      after (Ok q) h k =
          subst (λ p. IsCalled w g choices p) (same_ok (effect q.0 q.1, own_world g.own g vs w q.0) r k) (left_so q h)
      after (Err x) h k = absurd (cc)

      by : (b : Bool)
          → (if b then Err Stopped else call_answer (length w.accounts) g.answer vs choices >>= λ q. Ok
          (effect q.0 q.1, own_world g.own g vs w q.0)) ≡ Ok r
          → IsCalled w g choices r
      by true k = absurd (cc)
      by false k = after (call_answer (length w.accounts) g.answer vs choices) refl k
