-- What a call of the API does to debts, objects and slots.
--   AreOf n xs          the objects of these values are among the first n
--   taken_by, done_by   what it does to the debt of an object besides its answer: a reference to each argument that is
--                       taken over escapes; or it counts the first argument
--   given_by            what its answer does: a new reference is counted
--   Called              what a call that returns did
use Rattle.std.proofs.Common.{◌≡◌, ℕ, ◌<◌, ◌≤◌, ◌∙◌, ℤ, pos, negsuc, ◌+ℤ◌, List, [], ◌∷◌, length, Bool, true}
use Rattle.std.proofs.Common.{false, refl, sym, ap, subst, arith, Option, Some, None, Result, Ok, Err, cond}
use Rattle.std.specs.Prelude.{if◌then◌else◌}
use Rattle.std.proofs.lemmas.Int.{ints}
use Rattle.pungi_base.specs.declared.choice.Choice.{Choice}
use Rattle.pungi_base.specs.declared.value.Value.{Value}
use Rattle.pungi_base.specs.declared.value.Value.TheVariants as value
use Rattle.pungi_api.specs.declared.answer.Answer.{Answer}
use Rattle.pungi_api.specs.declared.answer.Answer.TheVariants as answer
use Rattle.pungi_api.specs.declared.call_answer.CallAnswer.{CallAnswer}
use Rattle.pungi_api.specs.declared.call_answer.CallAnswer.TheVariants.{Of, Argument}
use Rattle.pungi_api.specs.declared.own_effect.OwnEffect.{OwnEffect}
use Rattle.pungi_api.specs.declared.own_effect.OwnEffect.TheVariants.{IncRef, DecRef}
use Rattle.pungi_api.specs.declared.signature.Signature.{Signature}
use Rattle.pungi_api.specs.declared.take.Take.{Take}
use Rattle.pungi_world.specs.declared.effect.Effect.{Effect}
use Rattle.pungi_world.specs.declared.halt.Halt.{Halt}
use Rattle.pungi_world.specs.declared.halt.Halt.TheVariants.{Stopped}
use Rattle.pungi_world.specs.declared.world.World.{World}
use Rattle.pungi_world.specs.Calls.{stops, first_of, call_answer, with_new_reference, with_answer, is_call_success}
use Rattle.pungi_world.specs.Calls.{is_taken, take_over, own_world, call_effect}
use Rattle.pungi_world.specs.Counts.{with_value, count_value, mark_made, hand_over}
use Rattle.pungi_world.specs.World.{account_of}
use Rattle.pungi_world.specs.Effects.{◌>>=◌, effect}
use Rattle.pungi_world.specs.Escapes.{is_this_object}
use Rattle.pungi_shape.specs.Described.{debt}
use Rattle.pungi_api.specs.Signatures.{has_outcomes}
use Rattle.pungi_shape.proofs.sound.worlds.Debts.{part}
use Rattle.pungi_shape.proofs.sound.worlds.Values.{IsOf, IsNear, Keeps, keeps_self, keeps_then, of_more}
use Rattle.pungi_shape.proofs.sound.worlds.Values.{value_debt, value_keeps, value_there, counted_debt, counted_keeps}
use Rattle.pungi_shape.proofs.sound.worlds.Values.{counted_long, handed_debt, handed_keeps, handed_long}
use Rattle.pungi_shape.proofs.sound.worlds.Values.{marked_keeps, marked_long, marked_debt, marked_is}
use Rattle.pungi_shape.proofs.sound.worlds.Outcomes.{answers, first_answer}

abbrev pub AreOf : ℕ → List Value → Type 0
AreOf n [] = Unit {0}
AreOf n (x ∷ xs) = IsOf n x × AreOf n xs

pub are_more : (n m : ℕ) (xs : List Value) → n ≤ m → AreOf n xs → AreOf m xs
are_more n m [] le h = tt
are_more n m (x ∷ xs) le h = (of_more n m x le h.0, are_more n m xs le h.1)

pub first_is_of : (n : ℕ) (xs : List Value) → AreOf n xs → IsOf n (first_of xs)
first_is_of n [] h = tt
first_is_of n (x ∷ xs) h = h.0

-- ---- arguments that are taken over

abbrev pub taken_by : Bool → List Take → List Value → ℕ → ℤ
taken_by success [] xs o = pos 0
taken_by success (t ∷ ts) [] o = pos 0
taken_by success (t ∷ ts) (x ∷ xs) o =
    (if is_taken success t then part (is_this_object x o) (negsuc 0) else pos 0) +ℤ taken_by success ts xs o

abbrev TakenOver : World → Bool → List Take → List Value → Type 0
TakenOver w success ts xs =
    Keeps w (take_over w success ts xs)
    × ((o : ℕ) → debt (take_over w success ts xs) o ≡ debt w o +ℤ taken_by success ts xs o)

nothing_taken : (w : World) (o : ℕ) → debt w o ≡ debt w o +ℤ pos 0
nothing_taken w o = omega (arith, ints)

taken_one : (w : World) (success : Bool) (ts : List Take) (x : Value) (xs : List Value) (b : Bool)
    → IsOf (length w.accounts) x
    → ((u : World) → length u.accounts ≡ length w.accounts → TakenOver u success ts xs)
    → Keeps w (take_over (cond b (hand_over w x) w) success ts xs)
    × ((o : ℕ) → debt (take_over (cond b (hand_over w x) w) success ts xs) o
    ≡ debt w o +ℤ (cond b (part (is_this_object x o) (negsuc 0)) (pos 0) +ℤ taken_by success ts xs o))
taken_one w success ts x xs true of rest =
    let u = hand_over w x in
    let r = rest u (handed_long w x) in (
      keeps_then w u (take_over u success ts xs) (handed_keeps w x) r.0,
      λ o.
          let a = r.1 o in
          let b = handed_debt w x o of in
          omega (arith, ints, a, b),
    )
taken_one w success ts x xs false of rest =
    let r = rest w refl in
    (r.0, λ o. let a = r.1 o in omega (arith, ints, a))

pub taken_over : (w : World) (success : Bool) (ts : List Take) (xs : List Value) → AreOf (length w.accounts) xs
    → TakenOver w success ts xs
taken_over w success [] xs of = (keeps_self w, λ o. nothing_taken w o)
taken_over w success (t ∷ ts) [] of = (keeps_self w, λ o. nothing_taken w o)
taken_over w success (t ∷ ts) (x ∷ xs) of =
    taken_one w success ts x xs (is_taken success t) of.0 (λ u e. taken_over u success ts xs
    (subst (λ n. AreOf n xs) (sym e) of.1))

-- ---- the answer

abbrev pub given_by : CallAnswer → Option Value → ℕ → ℤ
given_by (Of answer.New) (Some x) o = part (is_this_object x o) (pos 1)
given_by (Of answer.Made) (Some x) o = part (is_this_object x o) (pos 1)
given_by a v o = pos 0

abbrev pub IsNearAnswer : ℕ → Option Value → Type 0
IsNearAnswer n None = Unit {0}
IsNearAnswer n (Some x) = IsNear n x

abbrev pub IsOfAnswer : ℕ → Option Value → Type 0
IsOfAnswer n None = Unit {0}
IsOfAnswer n (Some x) = IsOf n x

pub record Answered (w w' : World) (a : CallAnswer) (v : Option Value) : Type 0 where
  pub keeps : Keeps w w'
  pub there : IsOfAnswer (length w'.accounts) v
  pub debts : (o : ℕ) → debt w' o ≡ debt w o +ℤ given_by a v o

same_answered : (w : World) (a : CallAnswer) → ((o : ℕ) → given_by a None o ≡ pos 0) → Answered w w a None
same_answered w a e = record {
  keeps = keeps_self w;
  there = tt;
  debts = λ o. let z = e o in omega (arith, ints, z);
}

value_answered : (w : World) (a : CallAnswer) (x : Value) → IsNear (length w.accounts) x
    → ((o : ℕ) → given_by a (Some x) o ≡ pos 0) → Answered w (with_value w x) a (Some x)
value_answered w a x near e = record {
  keeps = value_keeps w x;
  there = value_there w x near;
  debts = λ o. let y = value_debt w x o in let z = e o in omega (arith, ints, y, z);
}

new_answered : (w : World) (x : Value) → IsNear (length w.accounts) x
    → Answered w (count_value (with_value w x) x (pos 1)) (Of answer.New) (Some x)
new_answered w x near =
    let u = with_value w x in
    let there = value_there w x near in
    record {
      keeps = keeps_then w u (count_value u x (pos 1)) (value_keeps w x) (counted_keeps u x (pos 1));
      there = subst (λ n. IsOf n x) (sym (counted_long u x (pos 1))) there;
      debts = λ o.
          let y = value_debt w x o in
          let z = counted_debt u x (pos 1) o there in
          omega (arith, ints, y, z);
    }

made_answered : (w : World) (x : Value) → IsNear (length w.accounts) x
    → Answered w (mark_made (count_value (with_value w x) x (pos 1)) x) (Of answer.Made) (Some x)
made_answered w x near =
    let u = count_value (with_value w x) x (pos 1) in
    let new = new_answered w x near in
    record {
      keeps = keeps_then w u (mark_made u x) new.keeps (marked_keeps u x);
      there = subst (λ n. IsOf n x) (sym (marked_long u x)) new.there;
      debts = λ o. marked_debt u x o new.there ∙ new.debts o;
    }

row_answered : (a : Answer) (w : World) (v : Option Value) → IsNearAnswer (length w.accounts) v
    → Answered w (with_new_reference a w v) (Of a) v
row_answered answer.New w None near = same_answered w (Of answer.New) (λ o. refl)
row_answered answer.New w (Some x) near = new_answered w x near
row_answered answer.Borrowed w None near = same_answered w (Of answer.Borrowed) (λ o. refl)
row_answered answer.Borrowed w (Some x) near = value_answered w (Of answer.Borrowed) x near (λ o. refl)
row_answered answer.BorrowedSure w None near = same_answered w (Of answer.BorrowedSure) (λ o. refl)
row_answered answer.BorrowedSure w (Some x) near = value_answered w (Of answer.BorrowedSure) x near (λ o. refl)
row_answered answer.Status w None near = same_answered w (Of answer.Status) (λ o. refl)
row_answered answer.Status w (Some x) near = value_answered w (Of answer.Status) x near (λ o. refl)
row_answered answer.Truth w None near = same_answered w (Of answer.Truth) (λ o. refl)
row_answered answer.Truth w (Some x) near = value_answered w (Of answer.Truth) x near (λ o. refl)
row_answered answer.Size w None near = same_answered w (Of answer.Size) (λ o. refl)
row_answered answer.Size w (Some x) near = value_answered w (Of answer.Size) x near (λ o. refl)
row_answered answer.Int w None near = same_answered w (Of answer.Int) (λ o. refl)
row_answered answer.Int w (Some x) near = value_answered w (Of answer.Int) x near (λ o. refl)
row_answered answer.Long w None near = same_answered w (Of answer.Long) (λ o. refl)
row_answered answer.Long w (Some x) near = value_answered w (Of answer.Long) x near (λ o. refl)
row_answered answer.Text w None near = same_answered w (Of answer.Text) (λ o. refl)
row_answered answer.Text w (Some x) near = value_answered w (Of answer.Text) x near (λ o. refl)
row_answered answer.Void w None near = same_answered w (Of answer.Void) (λ o. refl)
row_answered answer.Void w (Some x) near = value_answered w (Of answer.Void) x near (λ o. refl)
row_answered answer.Null w None near = same_answered w (Of answer.Null) (λ o. refl)
row_answered answer.Null w (Some x) near = value_answered w (Of answer.Null) x near (λ o. refl)
row_answered answer.Found w None near = same_answered w (Of answer.Found) (λ o. refl)
row_answered answer.Found w (Some x) near = value_answered w (Of answer.Found) x near (λ o. refl)
row_answered (answer.Converted failures least most) w None near =
    same_answered w (Of (answer.Converted failures least most)) (λ o. refl)
row_answered (answer.Converted failures least most) w (Some x) near =
    value_answered w (Of (answer.Converted failures least most)) x near (λ o. refl)
row_answered answer.AnySize w None near = same_answered w (Of answer.AnySize) (λ o. refl)
row_answered answer.AnySize w (Some x) near = value_answered w (Of answer.AnySize) x near (λ o. refl)
row_answered answer.Flag w None near = same_answered w (Of answer.Flag) (λ o. refl)
row_answered answer.Flag w (Some x) near = value_answered w (Of answer.Flag) x near (λ o. refl)
row_answered answer.TextSure w None near = same_answered w (Of answer.TextSure) (λ o. refl)
row_answered answer.TextSure w (Some x) near = value_answered w (Of answer.TextSure) x near (λ o. refl)
row_answered answer.Made w None near = same_answered w (Of answer.Made) (λ o. refl)
row_answered answer.Made w (Some x) near = made_answered w x near

-- ---- the whole call

abbrev pub done_by : Option OwnEffect → Signature → List Value → Option Value → ℕ → ℤ
done_by None g xs v o = taken_by (is_call_success g.answer v) g.takes xs o
done_by (Some IncRef) g xs v o = part (is_this_object (first_of xs) o) (pos 1)
done_by (Some DecRef) g xs v o = part (is_this_object (first_of xs) o) (negsuc 0)

pub record Called (own : Option OwnEffect) (g : Signature) (xs : List Value) (w w' : World) (v : Option Value)
    : Type 0 where
  pub keeps : Keeps w w'
  pub there : IsOfAnswer (length w'.accounts) v
  pub debts : (o : ℕ) → debt w' o ≡ (debt w o +ℤ done_by own g xs v o) +ℤ given_by g.answer v o

called_after : (g : Signature) (xs : List Value) (w u : World) (v : Option Value) → AreOf (length w.accounts) xs
    → Answered w u g.answer v
    → Called None g xs w (take_over u (is_call_success g.answer v) g.takes xs) v
called_after g xs w u v of a =
    let success = is_call_success g.answer v in
    let t = taken_over u success g.takes xs (are_more (length w.accounts) (length u.accounts) xs a.keeps.accounts of) in
    let all = take_over u success g.takes xs in
    record {
      keeps = keeps_then w u all a.keeps t.0;
      there = more (length u.accounts) (length all.accounts) v t.0.accounts a.there;
      debts = λ o. let y = t.1 o in let z = a.debts o in omega (arith, ints, y, z);
    }
  where
    more : (n m : ℕ) (v : Option Value) → n ≤ m → IsOfAnswer n v → IsOfAnswer m v
    more n m None le h = tt
    more n m (Some x) le h = of_more n m x le h

called_counted : (g : Signature) (xs : List Value) (w : World) (v : Option Value) (own : Option OwnEffect) (by : ℤ)
    → AreOf (length w.accounts) xs → IsOfAnswer (length w.accounts) v
    → ((o : ℕ) → done_by own g xs v o ≡ part (is_this_object (first_of xs) o) by)
    → ((o : ℕ) → given_by g.answer v o ≡ pos 0) → Called own g xs w (count_value w (first_of xs) by) v
called_counted g xs w v own by of there d e = record {
  keeps = counted_keeps w (first_of xs) by;
  there = subst (λ n. IsOfAnswer n v) (sym (counted_long w (first_of xs) by)) there;
  debts = λ o.
      let x = counted_debt w (first_of xs) by o (first_is_of (length w.accounts) xs of) in
      let y = d o in
      let z = e o in
      omega (arith, ints, x, y, z);
}

-- what a call with an effect of its own returns is no new reference, and is there
record IsPlain (n : ℕ) (a : CallAnswer) (v : Option Value) : Type 0 where
  pub there : IsOfAnswer n v
  pub none : (o : ℕ) → given_by a v o ≡ pos 0

argument_plain : (n m : ℕ) (xs : List Value) (choices : List Choice) (v : Option Value) (u : ℕ) → AreOf n xs
    → call_answer m Argument xs choices ≡ answers v u → IsPlain n Argument v
argument_plain n m xs choices v u of is =
    subst (λ x. IsPlain n Argument x) (first_answer (Some (first_of xs)) v 0 u is)
    (record { there = first_is_of n xs of; none = λ o. refl })

sure_plain : (n m : ℕ) (o : OwnEffect) (a : CallAnswer) (xs : List Value) (choices : List Choice) (v : Option Value)
    (u : ℕ) → has_outcomes (Some o) a ≡ true → AreOf n xs → call_answer m a xs choices ≡ answers v u → IsPlain n a v
sure_plain n m o Argument xs choices v u h of is = argument_plain n m xs choices v u of is
sure_plain n m o (Of answer.Void) xs choices v u h of is =
    subst (λ x. IsPlain n (Of answer.Void) x) (first_answer None v 0 u is) (record { there = tt; none = λ k. refl })
sure_plain n m o (Of answer.Null) xs choices v u h of is =
    subst (λ x. IsPlain n (Of answer.Null) x) (first_answer (Some value.Null) v 0 u is)
    (record { there = tt; none = λ k. refl })
sure_plain n m o (Of answer.New) xs choices v u h of is = absurd (let bad : false ≡ true = h in cc)
sure_plain n m o (Of answer.Borrowed) xs choices v u h of is = absurd (let bad : false ≡ true = h in cc)
sure_plain n m o (Of answer.BorrowedSure) xs choices v u h of is = absurd (let bad : false ≡ true = h in cc)
sure_plain n m o (Of answer.Status) xs choices v u h of is = absurd (let bad : false ≡ true = h in cc)
sure_plain n m o (Of answer.Truth) xs choices v u h of is = absurd (let bad : false ≡ true = h in cc)
sure_plain n m o (Of answer.Size) xs choices v u h of is = absurd (let bad : false ≡ true = h in cc)
sure_plain n m o (Of answer.Int) xs choices v u h of is = absurd (let bad : false ≡ true = h in cc)
sure_plain n m o (Of answer.Long) xs choices v u h of is = absurd (let bad : false ≡ true = h in cc)
sure_plain n m o (Of answer.Text) xs choices v u h of is = absurd (let bad : false ≡ true = h in cc)
sure_plain n m o (Of answer.Found) xs choices v u h of is = absurd (let bad : false ≡ true = h in cc)
sure_plain n m o (Of (answer.Converted failures least most)) xs choices v u h of is =
    absurd (let bad : false ≡ true = h in cc)
sure_plain n m o (Of answer.AnySize) xs choices v u h of is = absurd (let bad : false ≡ true = h in cc)
sure_plain n m o (Of answer.Flag) xs choices v u h of is = absurd (let bad : false ≡ true = h in cc)
sure_plain n m o (Of answer.TextSure) xs choices v u h of is = absurd (let bad : false ≡ true = h in cc)
sure_plain n m o (Of answer.Made) xs choices v u h of is = absurd (let bad : false ≡ true = h in cc)

pub call_does : (own : Option OwnEffect) (g : Signature) (xs : List Value) (choices : List Choice) (w : World)
    (v : Option Value) (u : ℕ) → has_outcomes own g.answer ≡ true → AreOf (length w.accounts) xs
    → IsNearAnswer (length w.accounts) v → call_answer (length w.accounts) g.answer xs choices ≡ answers v u
    → Called own g xs w (own_world own g xs w v) v
call_does None g xs choices w v u h of near is =
    called_after g xs w (with_answer g.answer w v) v of (by g.answer is)
  where
    by : (a : CallAnswer) → call_answer (length w.accounts) a xs choices ≡ answers v u
        → Answered w (with_answer a w v) a v
    by (Of a) e = row_answered a w v near
    by Argument e =
        let p = argument_plain (length w.accounts) (length w.accounts) xs choices v u of e in
        record {
          keeps = keeps_self w;
          there = p.there;
          debts = λ o. let z = p.none o in omega (arith, ints, z);
        }
call_does (Some IncRef) g xs choices w v u h of near is =
    let p = sure_plain (length w.accounts) (length w.accounts) IncRef g.answer xs choices v u h of is in
    called_counted g xs w v (Some IncRef) (pos 1) of p.there (λ o. refl) p.none
call_does (Some DecRef) g xs choices w v u h of near is =
    let p = sure_plain (length w.accounts) (length w.accounts) DecRef g.answer xs choices v u h of is in
    called_counted g xs w v (Some DecRef) (negsuc 0) of p.there (λ o. refl) p.none

-- the object that a call makes is one that was made
made_called : (o : Option OwnEffect) (g : Signature) (xs : List Value) (w : World) (k : ℕ)
    → has_outcomes o (Of answer.Made) ≡ true → g.answer ≡ Of answer.Made → AreOf (length w.accounts) xs
    → k ≤ length w.accounts → (account_of (own_world o g xs w (Some (value.Object k))) k).made ≡ true
made_called (Some o) g xs w k h is of near = absurd (let bad : false ≡ true = h in cc)
made_called None g xs w k h is of near =
    let x = value.Object k in
    let v = Some x in
    let c = count_value (with_value w x) x (pos 1) in
    let a = made_answered w x near in
    let there : k < length c.accounts = (new_answered w x near).there in
    let success = is_call_success (Of answer.Made) v in
    let t = taken_over (mark_made c x) success g.takes xs
    (are_more (length w.accounts) (length (mark_made c x).accounts) xs a.keeps.accounts of) in
    subst (λ b. (account_of (take_over (with_answer b w v) (is_call_success b v) g.takes xs) k).made ≡ true) (sym is)
    (t.0.made k (marked_is c k there))

pub call_makes : (own : Option OwnEffect) (g : Signature) (xs : List Value) (w : World) (v : Option Value) (k : ℕ)
    → has_outcomes own g.answer ≡ true → g.answer ≡ Of answer.Made → AreOf (length w.accounts) xs
    → v ≡ Some (value.Object k) → k ≤ length w.accounts → (account_of (own_world own g xs w v) k).made ≡ true
call_makes own g xs w v k h is of e near =
    subst (λ z. (account_of (own_world own g xs w z) k).made ≡ true) (sym e)
    (made_called own g xs w k (subst (λ a. has_outcomes own a ≡ true) is h) is of near)

-- ---- what the world returned

abbrev ends : Effect → World → Result (Effect × World) Halt
ends e w = Ok (e, w)

same_end : (e e' : Effect) (w w' : World) → ends e w ≡ ends e' w' → (e ≡ e') × (w ≡ w')
same_end e e' w w' same =
    let p : Effect × World = (e, w) in
    let q : Effect × World = (e', w') in
    let is : p ≡ q = cc in
    (ap (λ (r : Effect × World). r.0) is, ap (λ (r : Effect × World). r.1) is)

pub record Returns (g : Signature) (xs : List Value) (choices : List Choice) (w w' : World) (e : Effect)
    : Type 0 where
  pub used : ℕ
  pub passes : stops g.params xs ≡ false
  pub answered : call_answer (length w.accounts) g.answer xs choices ≡ answers e.value used
  pub world : w' ≡ own_world g.own g xs w e.value

abbrev by_answer : Result (Option Value × ℕ) Halt → Signature → List Value → World → Result (Effect × World) Halt
by_answer r g xs w = r >>= λ p. Ok (effect p.0 p.1, own_world g.own g xs w p.0)

abbrev Returned : Signature → List Value → List Choice → World → Effect × World → Type 0
Returned g xs choices w r = Returns g xs choices w r.1 r.0

returns_by : (b : Bool) (r : Result (Option Value × ℕ) Halt) (g : Signature) (xs : List Value)
    (choices : List Choice) (w w' : World) (e : Effect) → stops g.params xs ≡ b
    → call_answer (length w.accounts) g.answer xs choices ≡ r
    → cond b (Err Stopped) (by_answer r g xs w) ≡ ends e w' → Returns g xs choices w w' e
returns_by true r g xs choices w w' e s a is = absurd cc
returns_by false (Err h) g xs choices w w' e s a is = absurd cc
returns_by false (Ok p) g xs choices w w' e s a is =
    let q : Effect × World = (effect p.0 p.1, own_world g.own g xs w p.0) in
    let z : Effect × World = (e, w') in
    let same : q ≡ z = cc in
    subst (Returned g xs choices w) same (record {
      used = p.1;
      passes = s;
      answered = a;
      world = refl;
    })

pub call_returns : (g : Signature) (xs : List Value) (choices : List Choice) (w w' : World) (e : Effect)
    → call_effect w g xs choices ≡ ends e w' → Returns g xs choices w w' e
call_returns g xs choices w w' e is =
    returns_by (stops g.params xs) (call_answer (length w.accounts) g.answer xs choices) g xs choices w w' e refl refl
    is
