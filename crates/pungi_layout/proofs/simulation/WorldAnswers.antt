-- What the world returns: a load has a value, and a call of the API has one where its signature says so.
use Rattle.std.proofs.Common.{◌≡◌, ℕ, List, length, Option, Some, None, Result, Ok, Err, refl, sym, ap, subst, Bool}
use Rattle.std.proofs.Common.{true, false, if◌then◌else◌}
use Rattle.pungi_base.specs.declared.choice.Choice.{Choice}
use Rattle.pungi_base.specs.declared.value.Value.{Value}
use Rattle.pungi_api.specs.declared.answer.Answer.{Answer}
use Rattle.pungi_api.specs.declared.answer.Answer.TheVariants as answer
use Rattle.pungi_api.specs.declared.param.Param.{Param}
use Rattle.pungi_api.specs.declared.call_answer.CallAnswer.{CallAnswer}
use Rattle.pungi_api.specs.declared.call_answer.CallAnswer.TheVariants.{Of, Argument}
use Rattle.pungi_api.specs.declared.signature.Signature.{Signature}
use Rattle.pungi_world.specs.declared.content.Content.{Content}
use Rattle.pungi_world.specs.declared.content.Content.TheVariants as content
use Rattle.pungi_world.specs.declared.effect.Effect.{Effect}
use Rattle.pungi_world.specs.declared.halt.Halt.{Halt}
use Rattle.pungi_world.specs.declared.halt.Halt.TheVariants.{Stopped}
use Rattle.pungi_world.specs.declared.slot.Slot.{Slot}
use Rattle.pungi_world.specs.declared.touch.Touch.{Touch}
use Rattle.pungi_world.specs.declared.world.World.{World}
use Rattle.pungi_world.specs.Effects.{◌>>=◌, effect}
use Rattle.pungi_world.specs.Choices.{choose, answer_of}
use Rattle.pungi_world.specs.Calls.{stops, first_of, call_answer, own_world, call_effect}
use Rattle.pungi_layout.specs.code.Parts.{has_value, has_call_value}
use Rattle.pungi_world.specs.Slots.{slot_at, touch, after_load, load_effect}

-- a load has a value
abbrev pub HasValue : Option Value → Type 0
HasValue o = (v : Value) × (o ≡ Some v)

abbrev value_in : Result (Effect × World) Halt → Option Value
value_in (Ok e) = e.0.value
value_in (Err h) = None

loaded_value : (c : Content) (used : ℕ) (x : World) (e : Effect × World) → after_load c used x ≡ Ok e
    → HasValue e.0.value
loaded_value content.Unset used x e h = absurd (cc)
loaded_value (content.Holds v) used x e h = (v, ap value_in (sym h))

touch_value : (t : Result (Touch × World) Halt) (e : Effect × World)
    → (t >>= λ r. after_load (slot_at r.1 r.0.place).held r.0.used r.1) ≡ Ok e → HasValue e.0.value
touch_value (Err x) e h = absurd (cc)
touch_value (Ok r) e h = loaded_value (slot_at r.1 r.0.place).held r.0.used r.1 e h

pub load_value : (x : World) (slot : Slot) (kind : Param) (choices : List Choice) (e : Effect × World)
    → load_effect x slot kind choices ≡ Ok e → HasValue e.0.value
load_value x slot kind choices e h = touch_value (touch x slot kind choices) e h

-- ---- calls

-- a call has a value, or none
abbrev pub IsAnswer : Bool → Option Value → Type 0
IsAnswer true o = HasValue o
IsAnswer false o = o ≡ None

abbrev answer_in : Result (Option Value × ℕ) Halt → Option Value
answer_in (Ok r) = r.0
answer_in (Err h) = None

chosen_value : (c : Result Value Halt) (r : Option Value × ℕ) → (c >>= λ x. Ok (Some x, 1)) ≡ Ok r → HasValue r.0
chosen_value (Err x) r h = absurd (cc)
chosen_value (Ok v) r h = (v, ap answer_in (sym h))

answer_value : (a : Answer) (n : ℕ) (choices : List Choice) (r : Option Value × ℕ) → answer_of n a choices ≡ Ok r
    → IsAnswer (has_value a) r.0
answer_value answer.Void n choices r h = ap answer_in (sym h)
answer_value answer.Null n choices r h = (_, ap answer_in (sym h))
answer_value answer.New n choices r h = chosen_value (choose n answer.New choices) r h
answer_value answer.Borrowed n choices r h = chosen_value (choose n answer.Borrowed choices) r h
answer_value answer.BorrowedSure n choices r h = chosen_value (choose n answer.BorrowedSure choices) r h
answer_value answer.Status n choices r h = chosen_value (choose n answer.Status choices) r h
answer_value answer.Truth n choices r h = chosen_value (choose n answer.Truth choices) r h
answer_value answer.Size n choices r h = chosen_value (choose n answer.Size choices) r h
answer_value answer.Int n choices r h = chosen_value (choose n answer.Int choices) r h
answer_value answer.Long n choices r h = chosen_value (choose n answer.Long choices) r h
answer_value answer.Text n choices r h = chosen_value (choose n answer.Text choices) r h
answer_value answer.Found n choices r h = chosen_value (choose n answer.Found choices) r h
answer_value (answer.Converted failures least most) n choices r h =
    chosen_value (choose n (answer.Converted failures least most) choices) r h
answer_value answer.AnySize n choices r h = chosen_value (choose n answer.AnySize choices) r h
answer_value answer.Flag n choices r h = chosen_value (choose n answer.Flag choices) r h
answer_value answer.TextSure n choices r h = chosen_value (choose n answer.TextSure choices) r h
answer_value answer.Made n choices r h = chosen_value (choose n answer.Made choices) r h

returned_by : (o : Result (Option Value × ℕ) Halt) (b : Bool) (go : Option Value × ℕ → World) (e : Effect × World)
    → ((r : Option Value × ℕ) → o ≡ Ok r → IsAnswer b r.0)
    → (o >>= λ r. Ok (effect r.0 r.1, go r)) ≡ Ok e → IsAnswer b e.0.value
returned_by (Err h) b go e next q = absurd (cc)
returned_by (Ok r) b go e next q = subst (IsAnswer b) (ap value_in q) (next r refl)

unless_stopped : (b : Bool) (o : Result (Effect × World) Halt) (e : Effect × World) (g : Bool)
    → (o ≡ Ok e → IsAnswer g e.0.value) → (if b then Err Stopped else o) ≡ Ok e → IsAnswer g e.0.value
unless_stopped true o e g next q = absurd (cc)
unless_stopped false o e g next q = next q

call_value : (a : CallAnswer) (n : ℕ) (args : List Value) (choices : List Choice) (r : Option Value × ℕ)
    → call_answer n a args choices ≡ Ok r → IsAnswer (has_call_value a) r.0
call_value (Of a) n args choices r h = answer_value a n choices r h
call_value Argument n args choices r h = (first_of args, ap answer_in (sym h))

-- a call has a value where its signature says so
pub effect_value : (x : World) (sig : Signature) (args : List Value) (choices : List Choice) (e : Effect × World)
    → call_effect x sig args choices ≡ Ok e → IsAnswer (has_call_value sig.answer) e.0.value
effect_value x sig args choices e q =
    unless_stopped (stops sig.params args) _ e (has_call_value sig.answer)
    (λ p. returned_by (call_answer (length x.accounts) sig.answer args choices) (has_call_value sig.answer)
    (λ r. own_world sig.own sig args x r.0) e (λ r i. call_value sig.answer (length x.accounts) args choices r i) p) q
