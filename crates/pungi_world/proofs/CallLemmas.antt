-- How far the world after a call is from the one before it.
use Rattle.std.proofs.Common.{◌≡◌, ℕ, ◌+◌, ◌≤◌, Bool, true, false, List, [], ◌∷◌, length, arith, Option, None}
use Rattle.std.proofs.Common.{Some, Result, Ok, Err, refl, subst, ap, ◌∙◌}
use Rattle.std.specs.Prelude.{ℤ, pos, negsuc, if◌then◌else◌}
use Rattle.std.proofs.lemmas.Int.{ints}
use Rattle.pungi_base.specs.declared.value.Value.{Value}
use Rattle.pungi_base.specs.declared.value.Value.TheVariants as value
use Rattle.pungi_base.specs.declared.choice.Choice.{Choice}
use Rattle.pungi_api.specs.declared.answer.Answer.{Answer}
use Rattle.pungi_api.specs.declared.answer.Answer.TheVariants as answer
use Rattle.pungi_api.specs.declared.call_answer.CallAnswer.{CallAnswer}
use Rattle.pungi_api.specs.declared.call_answer.CallAnswer.TheVariants.{Of, Argument}
use Rattle.pungi_api.specs.declared.own_effect.OwnEffect.{OwnEffect}
use Rattle.pungi_api.specs.declared.own_effect.OwnEffect.TheVariants.{IncRef, DecRef}
use Rattle.pungi_api.specs.declared.take.Take.{Take}
use Rattle.pungi_api.specs.declared.signature.Signature.{Signature}
use Rattle.pungi_world.specs.declared.effect.Effect.{Effect}
use Rattle.pungi_world.specs.declared.halt.Halt.{Halt}
use Rattle.pungi_world.specs.declared.halt.Halt.TheVariants.{Stopped}
use Rattle.pungi_world.specs.declared.world.World.{World}
use Rattle.pungi_world.specs.Counts.{with_value, count_value, mark_made, hand_over, IsWithin, AreWithin}
use Rattle.pungi_world.specs.Effects.{◌>>=◌, effect}
use Rattle.pungi_world.specs.Choices.{choose, answer_of}
use Rattle.pungi_world.specs.Calls.{stops, first_of, with_new_reference, is_taken, take_over, call_answer, with_answer}
use Rattle.pungi_world.specs.Calls.{is_call_success, described_world, own_world, call_effect}
use Rattle.pungi_world.specs.Follows.{Follows}
use Rattle.pungi_world.proofs.FollowLemmas.{follows_then, follows_later, follows_self, follows_counted, follows_handed}
use Rattle.pungi_world.proofs.FollowLemmas.{follows_there, follows_marked}

up : IsWithin 1 (pos 1)
up = (omega (arith, ints), omega (arith, ints))

down : IsWithin 1 (negsuc 0)
down = (omega (arith, ints), omega (arith, ints))

-- ---- arguments that are taken over

follows_if_taken : (b : Bool) (w : World) (x : Value) → Follows w (if b then hand_over w x else w) 0 0 1
follows_if_taken true w x = follows_handed w x
follows_if_taken false w x = follows_later w w 0 0 0 0 0 1 (omega arith) (omega arith) (omega arith) (follows_self w)

follows_taken : (w : World) (success : Bool) (takes : List Take) (args : List Value)
    → Follows w (take_over w success takes args) 0 0 (length args)
follows_taken w success [] args =
    follows_later w w 0 0 0 0 0 (length args) (omega arith) (omega arith) (omega arith) (follows_self w)
follows_taken w success (t ∷ takes) [] = follows_self w
follows_taken w success (t ∷ takes) (x ∷ args) =
    let one : World = if is_taken success t then hand_over w x else w in
    let all : World = take_over one success takes args in
    follows_later w all (0 + 0) 0 (0 + 0) 0 (1 + length args) (length (x ∷ args)) (omega arith) (omega arith)
    (omega arith)
    (follows_then w one all 0 0 0 0 1 (length args) (follows_if_taken (is_taken success t) w x)
    (follows_taken one success takes args))

-- ---- the answer

follows_new : (w : World) (x : Value) → Follows w (count_value (with_value w x) x (pos 1)) 1 0 1
follows_new w x =
    follows_later w (count_value (with_value w x) x (pos 1)) (1 + 0) 1 (0 + 0) 0 (0 + 1) 1 (omega arith)
    (omega arith) (omega arith)
    (follows_then w (with_value w x) (count_value (with_value w x) x (pos 1)) 1 0 0 0 0 1 (follows_there w x)
    (follows_counted (with_value w x) x (pos 1) up))

abbrev made_world : World → Value → World
made_world w x = mark_made (count_value (with_value w x) x (pos 1)) x

follows_made : (w : World) (x : Value) → Follows w (made_world w x) 1 0 1
follows_made w x =
    follows_then w (count_value (with_value w x) x (pos 1)) (made_world w x) 1 0 0 0 1 0 (follows_new w x)
    (follows_marked (count_value (with_value w x) x (pos 1)) x)

abbrev by_one_choice : Result Value Halt → Result (Option Value × ℕ) Halt
by_one_choice r = r >>= λ x. Ok (Some x, 1)

abbrev answers : Option Value → ℕ → Result (Option Value × ℕ) Halt
answers v u = Ok (v, u)

first_answer : (p q : Option Value × ℕ) → (let A : Type 0 = Result (Option Value × ℕ) Halt in let x : A = Ok p in
    let y : A = Ok q in x ≡ y) → p.0 ≡ q.0
first_answer p q e = let same : p ≡ q = cc in ap (λ (r : Option Value × ℕ). r.0) same

second_answer : (p q : Option Value × ℕ)
    → (let A : Type 0 = Result (Option Value × ℕ) Halt in let x : A = Ok p in let y : A = Ok q in x ≡ y) → p.1 ≡ q.1
second_answer p q e = let same : p ≡ q = cc in ap (λ (r : Option Value × ℕ). r.1) same

used_one : (r : Result Value Halt) (v : Option Value) (u : ℕ) → by_one_choice r ≡ answers v u → 1 ≤ u
used_one (Ok x) v u e = let is : 1 ≡ u = second_answer (Some x, 1) (v, u) e in omega arith
used_one (Err h) v u e = absurd cc

still : (w : World) (u : ℕ) → Follows w w u 0 1
still w u = follows_later w w 0 u 0 0 0 1 (omega arith) (omega arith) (omega arith) (follows_self w)

there : (w : World) (x : Value) (u : ℕ) → 1 ≤ u → Follows w (with_value w x) u 0 1
there w x u le = follows_later w (with_value w x) 1 u 0 0 0 1 le (omega arith) (omega arith) (follows_there w x)

follows_answer : (a : Answer) (w : World) (n : ℕ) (choices : List Choice) (v : Option Value) (u : ℕ)
    → answer_of n a choices ≡ answers v u → Follows w (with_new_reference a w v) u 0 1
follows_answer a w n choices None u e = still w u
follows_answer answer.New w n choices (Some x) u e =
    follows_later w (count_value (with_value w x) x (pos 1)) 1 u 0 0 1 1 (used_one (choose n answer.New choices)
    (Some x) u e) (omega arith) (omega arith) (follows_new w x)
follows_answer answer.Made w n choices (Some x) u e =
    follows_later w (made_world w x) 1 u 0 0 1 1 (used_one (choose n answer.Made choices) (Some x) u e)
    (omega arith) (omega arith) (follows_made w x)
follows_answer answer.Borrowed w n choices (Some x) u e =
    there w x u (used_one (choose n answer.Borrowed choices) (Some x) u e)
follows_answer answer.BorrowedSure w n choices (Some x) u e =
    there w x u (used_one (choose n answer.BorrowedSure choices) (Some x) u e)
follows_answer answer.Status w n choices (Some x) u e =
    there w x u (used_one (choose n answer.Status choices) (Some x) u e)
follows_answer answer.Truth w n choices (Some x) u e =
    there w x u (used_one (choose n answer.Truth choices) (Some x) u e)
follows_answer answer.Size w n choices (Some x) u e = there w x u (used_one (choose n answer.Size choices) (Some x) u e)
follows_answer answer.Int w n choices (Some x) u e = there w x u (used_one (choose n answer.Int choices) (Some x) u e)
follows_answer answer.Long w n choices (Some x) u e = there w x u (used_one (choose n answer.Long choices) (Some x) u e)
follows_answer answer.Text w n choices (Some x) u e = there w x u (used_one (choose n answer.Text choices) (Some x) u e)
follows_answer answer.Found w n choices (Some x) u e =
    there w x u (used_one (choose n answer.Found choices) (Some x) u e)
follows_answer answer.AnySize w n choices (Some x) u e =
    there w x u (used_one (choose n answer.AnySize choices) (Some x) u e)
follows_answer answer.Flag w n choices (Some x) u e =
    there w x u (used_one (choose n answer.Flag choices) (Some x) u e)
follows_answer answer.TextSure w n choices (Some x) u e =
    there w x u (used_one (choose n answer.TextSure choices) (Some x) u e)
follows_answer (answer.Converted f l m) w n choices (Some x) u e =
    there w x u (used_one (choose n (answer.Converted f l m) choices) (Some x) u e)
follows_answer answer.Void w n choices (Some x) u e =
    let is : None ≡ Some x = first_answer (None, 0) (Some x, u) e in absurd cc
follows_answer answer.Null w n choices (Some value.Null) u e = still w u
follows_answer answer.Null w n choices (Some (value.Object k)) u e =
    let is : Some value.Null ≡ Some (value.Object k) = first_answer (Some value.Null, 0) (Some (value.Object k), u)
    e in absurd cc
follows_answer answer.Null w n choices (Some (value.Int i)) u e =
    let is : Some value.Null ≡ Some (value.Int i) = first_answer (Some value.Null, 0) (Some (value.Int i), u) e in
    absurd cc
follows_answer answer.Null w n choices (Some value.Text) u e =
    let is : Some value.Null ≡ Some value.Text = first_answer (Some value.Null, 0) (Some value.Text, u) e in absurd
    cc

follows_call_answer : (a : CallAnswer) (args : List Value) (w : World) (n : ℕ) (choices : List Choice)
    (v : Option Value) (u : ℕ) → call_answer n a args choices ≡ answers v u → Follows w (with_answer a w v) u 0 1
follows_call_answer (Of a) args w n choices v u e = follows_answer a w n choices v u e
follows_call_answer Argument args w n choices v u e = still w u

-- the counts alone, whatever the answer
within_row_answered : (a : Answer) (w : World) (v : Option Value) (most : ℕ) → AreWithin most w
    → AreWithin (most + 1) (with_new_reference a w v)
within_row_answered a w None most within = (still w 0).within most within
within_row_answered answer.New w (Some x) most within = (follows_new w x).within most within
within_row_answered answer.Made w (Some x) most within = (follows_made w x).within most within
within_row_answered answer.Borrowed w (Some x) most within = (there w x 1 (omega arith)).within most within
within_row_answered answer.BorrowedSure w (Some x) most within = (there w x 1 (omega arith)).within most within
within_row_answered answer.Status w (Some x) most within = (there w x 1 (omega arith)).within most within
within_row_answered answer.Truth w (Some x) most within = (there w x 1 (omega arith)).within most within
within_row_answered answer.Size w (Some x) most within = (there w x 1 (omega arith)).within most within
within_row_answered answer.Int w (Some x) most within = (there w x 1 (omega arith)).within most within
within_row_answered answer.Long w (Some x) most within = (there w x 1 (omega arith)).within most within
within_row_answered answer.Text w (Some x) most within = (there w x 1 (omega arith)).within most within
within_row_answered answer.Void w (Some x) most within = (there w x 1 (omega arith)).within most within
within_row_answered answer.Null w (Some x) most within = (there w x 1 (omega arith)).within most within
within_row_answered answer.Found w (Some x) most within = (there w x 1 (omega arith)).within most within
within_row_answered answer.AnySize w (Some x) most within = (there w x 1 (omega arith)).within most within
within_row_answered answer.Flag w (Some x) most within = (there w x 1 (omega arith)).within most within
within_row_answered answer.TextSure w (Some x) most within = (there w x 1 (omega arith)).within most within
within_row_answered (answer.Converted f l m) w (Some x) most within = (there w x 1 (omega arith)).within most within

pub within_answered : (a : CallAnswer) (w : World) (v : Option Value) (most : ℕ) → AreWithin most w
    → AreWithin (most + 1) (with_answer a w v)
within_answered (Of a) w v most within = within_row_answered a w v most within
within_answered Argument w v most within = (still w 0).within most within

-- ---- calls

follows_described : (g : Signature) (args : List Value) (w : World) (v : Option Value) (u : ℕ)
    → Follows w (with_answer g.answer w v) u 0 1 → Follows w (described_world g args w v) u 0 (length args + 1)
follows_described g args w v u first =
    let one : World = with_answer g.answer w v in
    let all : World = described_world g args w v in
    follows_later w all (u + 0) u (0 + 0) 0 (1 + length args) (length args + 1) (omega arith) (omega arith)
    (omega arith)
    (follows_then w one all u 0 0 0 1 (length args) first (follows_taken one (is_call_success g.answer v) g.takes
    args))

follows_count : (w : World) (x : Value) (by : ℤ) (args : List Value) (u : ℕ) → IsWithin 1 by
    → Follows w (count_value w x by) u 0 (length args + 1)
follows_count w x by args u one =
    follows_later w (count_value w x by) 0 u 0 0 1 (length args + 1) (omega arith) (omega arith) (omega arith)
    (follows_counted w x by one)

follows_own : (own : Option OwnEffect) (g : Signature) (args : List Value) (w : World) (v : Option Value) (u : ℕ)
    → Follows w (with_answer g.answer w v) u 0 1 → Follows w (own_world own g args w v) u 0 (length args + 1)
follows_own None g args w v u first = follows_described g args w v u first
follows_own (Some IncRef) g args w v u first = follows_count w (first_of args) (pos 1) args u up
follows_own (Some DecRef) g args w v u first = follows_count w (first_of args) (negsuc 0) args u down

-- what is meant gives the world
abbrev GoesOn : World → ℕ → World → Effect → Type 0
GoesOn w by w' e = Follows w w' e.used 0 by

abbrev ends : Effect → World → Result (Effect × World) Halt
ends e w = Ok (e, w)

same_end : (e e' : Effect) (w w' : World) → ends e w ≡ ends e' w' → (e ≡ e') × (w ≡ w')
same_end e e' w w' same =
    let p : Effect × World = (e, w) in
    let q : Effect × World = (e', w') in
    let is : p ≡ q = cc in
    (ap (λ (r : Effect × World). r.0) is, ap (λ (r : Effect × World). r.1) is)

meant_world : (w : World) (by : ℕ) (new new' : World) (e e' : Effect) → ends e new ≡ ends e' new'
    → GoesOn w by new e → GoesOn w by new' e'
meant_world w by new new' e e' same follows =
    let is : new ≡ new' = (same_end e e' new new' same).1 in
    let used : e ≡ e' = (same_end e e' new new' same).0 in
    let After : World → Type 0 = λ v. GoesOn w by v e in
    let With : Effect → Type 0 = λ f. GoesOn w by new' f in
    subst With used (subst After is follows)

-- a call that doesn't stop returns its answer, in the world after it
pub call_is : (w w' : World) (g : Signature) (args : List Value) (choices : List Choice) (v : Option Value) (u : ℕ)
    → stops g.params args ≡ false → call_answer (length w.accounts) g.answer args choices ≡ Ok (v, u)
    → own_world g.own g args w v ≡ w' → call_effect w g args choices ≡ ends (effect v u) w'
call_is w w' g args choices v u goes answers world =
    let r = call_answer (length w.accounts) g.answer args choices in
    ap (λ b. if b then Err Stopped else r >>= λ p. Ok (effect p.0 p.1, own_world g.own g args w p.0)) goes
    ∙ ap (λ q. q >>= λ p. Ok (effect p.0 p.1, own_world g.own g args w p.0)) answers
    ∙ ap (ends (effect v u)) world

abbrev by_answer : Result (Option Value × ℕ) Halt → Signature → List Value → World → Result (Effect × World) Halt
by_answer r g args w = r >>= λ p. Ok (effect p.0 p.1, own_world g.own g args w p.0)

follows_any : (b : Bool) (r : Result (Option Value × ℕ) Halt) (g : Signature) (args : List Value)
    (choices : List Choice) (w w' : World) (e : Effect) → call_answer (length w.accounts) g.answer args choices ≡ r
    → (if b then Err Stopped else by_answer r g args w) ≡ ends e w' → GoesOn w (length args + 1) w' e
follows_any true r g args choices w w' e answers is = absurd cc
follows_any false (Err h) g args choices w w' e answers is = absurd cc
follows_any false (Ok p) g args choices w w' e answers is =
    meant_world w (length args + 1) (own_world g.own g args w p.0) w' (effect p.0 p.1) e is
    (follows_own g.own g args w p.0 p.1 (follows_call_answer g.answer args w (length w.accounts) choices p.0 p.1
    answers))

-- what a call keeps of a world
pub follows_call : (g : Signature) (args : List Value) (choices : List Choice) (w w' : World) (e : Effect)
    → call_effect w g args choices ≡ ends e w' → Follows w w' e.used 0 (length args + 1)
follows_call g args choices w w' e is =
    follows_any (stops g.params args) (call_answer (length w.accounts) g.answer args choices) g args choices w w' e
    refl is
