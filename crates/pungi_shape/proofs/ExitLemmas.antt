-- The exit class of a place at which a return has forgotten the variables and slots.
use Rattle.std.proofs.Common.{◌≡◌, ◌∙◌, ℕ, ◌+◌, ◌<◌, ◌≤◌, List, [], ◌∷◌, ◌++◌, length, map, refl, sym, ap, arith, cond}
use Rattle.std.specs.List.{All}
use Rattle.std.proofs.lemmas.List.Elements.{All-head, All-nil, All-tail, All-weaker}
use Rattle.std.proofs.lemmas.List.Sums.{sum_by-cons}
use Rattle.pungi_code.specs.declared.code.Code.{Code}
use Rattle.pungi_shape.specs.declared.holding.Holding.{Holding}
use Rattle.pungi_shape.specs.declared.shape.Shape.{Shape}
use Rattle.pungi_shape.specs.Bounds.{AreTokens, IsBelow, bases_in}
use Rattle.pungi_shape.specs.Forms.{one_if}
use Rattle.pungi_shape.specs.Limits.{most_coordinates}
use Rattle.pungi_shape.specs.Reached.{IsExit, IsLeft, IsShapeOf, Unheld}
use Rattle.pungi_shape.specs.Shapes.{before_slots, count_of_numbers, distinct, exit_of, holders, holding_of_slot}
use Rattle.pungi_shape.specs.Shapes.{holding_of_static, is_number, tokens_in, tokens_of, width_of}
use Rattle.pungi_shape.proofs.NumberedLemmas.{tokens_in-append}
use Rattle.pungi_shape.proofs.TokenLemmas.{IsTrackedBelow, tokens-apart, tokens-together}

pub count_more : (h : Holding) (hs : List Holding)
    → count_of_numbers (h ∷ hs) ≡ one_if (is_number h) + count_of_numbers hs
count_more h hs = sum_by-cons (λ x. cond (is_number x) 1 0) h hs

pub no_numbers : (hs : List Holding) → All Unheld hs → count_of_numbers hs ≡ 0
no_numbers [] all = refl
no_numbers (h ∷ hs) all =
    let c = count_more h hs in
    let o : one_if (is_number h) ≡ 0 = ap one_if (All-head Unheld h hs all).number in
    let r = no_numbers hs (All-tail Unheld h hs all) in
    omega (arith, c, o, r)

no_tokens : (hs : List Holding) → All Unheld hs → tokens_in hs ≡ []
no_tokens [] all = refl
no_tokens (h ∷ hs) all =
    ap (λ ts. ts ++ tokens_in hs) (All-head Unheld h hs all).token ∙ no_tokens hs (All-tail Unheld h hs all)

tokens_past : (es vs rest : List Holding) → tokens_in vs ≡ [] → tokens_in (es ++ (vs ++ rest)) ≡ tokens_in (es ++ rest)
tokens_past es vs rest e =
    tokens_in-append es (vs ++ rest)
    ∙ ap (λ ts. tokens_in es ++ ts) (tokens_in-append vs rest ∙ ap (λ ts. ts ++ tokens_in rest) e)
    ∙ sym (tokens_in-append es rest)

pub left_tokens : (s : Shape) → IsLeft s → tokens_of (exit_of s) ≡ tokens_of s
left_tokens s h =
    let rest = map holding_of_static s.statics ++ s.returned ∷ [] in
    sym (ap (λ rs. distinct (tokens_in (before_slots s ++ map holding_of_slot rs))) h.slots
    ∙ ap distinct (tokens_in-append (before_slots s) []
    ∙ ap (λ ts. ts ++ []) (tokens_past s.entry s.vars rest (no_tokens s.vars h.vars))
    ∙ sym (tokens_in-append (s.entry ++ rest) [])))

pub exit-width : (s : Shape) → IsLeft s → width_of (exit_of s) ≡ width_of s
exit-width s h =
    let c = no_numbers s.vars h.vars in
    let t = ap length (left_tokens s h) in
    omega (arith, c, t)

exit_tokens : (n : ℕ) (s : Shape) → AreTokens n s → AreTokens n (exit_of s)
exit_tokens n s h =
    let k = tokens-apart n s h in
    tokens-together n (exit_of s) (record {
      entry = k.entry;
      vars = All-nil (IsBelow n);
      statics = k.statics;
      returned = k.returned;
      slots = All-nil (IsTrackedBelow n);
    })

pub exit-found : (code : Code) (s : Shape) → IsShapeOf code s → IsLeft s → width_of s ≤ most_coordinates
    → IsExit code (exit_of s)
exit-found code s is h narrow =
    let made = is.shape.made in
    record {
      entry = is.entry;
      vars = refl;
      slots = refl;
      made = refl;
      tokens = exit_tokens most_coordinates s (All-weaker (λ t. t < length s.made) (λ t. t < most_coordinates)
          (λ t lt. omega (arith, lt, made, narrow))
          (tokens_in (holders s) ++ bases_in s.slots) is.shape.tokens);
      narrow = (let w = exit-width s h in omega (arith, w, narrow));
    }
