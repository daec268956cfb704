-- Each token of an exit class stands for something at the caller, but one that the returned value alone is.
use Rattle.std.proofs.Common.{◌≡◌, ℕ, Bool, true, false, cond, List, [], ◌∷◌, length, map, refl, sym, ap, ◌∙◌}
use Rattle.std.proofs.Common.{arith, Some, None}
use Rattle.std.specs.Prelude.{◌||◌}
use Rattle.std.specs.List.{All, zip}
use Rattle.std.proofs.lemmas.Bool.{false≢true}
use Rattle.std.proofs.lemmas.List.Elements.{All-nil, All-cons, All-head, All-tail, All-map}
use Rattle.pungi_code.specs.declared.atom.Atom.{Atom}
use Rattle.pungi_shape.specs.declared.holding.Holding.{Holding}
use Rattle.pungi_shape.specs.declared.holding.Holding.TheVariants.{Dead, Unset, Null, Text, Known, Number, Token}
use Rattle.pungi_shape.specs.declared.shape.Shape.{Shape}
use Rattle.pungi_shape.specs.Shapes.{is_token, tokens_in, tokens_of, holders, holding_of_static, exit_of}
use Rattle.pungi_shape.specs.Liveness.{is_among}
use Rattle.pungi_shape.specs.Exits.{with_static, arguments_of, atom_of}
use Rattle.pungi_shape.proofs.sound.Renames.{All_of_map}
use Rattle.pungi_shape.proofs.sound.Distinct.{among_distinct}
use Rattle.pungi_shape.proofs.sound.ArrivedScene.{All_left, All_right, all_holders}
use Rattle.pungi_shape.proofs.sound.Tests.{none_some}

not_in : (u : ℕ) (hs : List Holding) → All (λ h. is_token u h ≡ false) hs → is_among (tokens_in hs) u ≡ false
not_in u [] all = refl
not_in u (h ∷ hs) all =
    by h (All-head (λ h. is_token u h ≡ false) h hs all)
    (not_in u hs (All-tail (λ h. is_token u h ≡ false) h hs all))
  where
    by : (k : Holding) → is_token u k ≡ false → is_among (tokens_in hs) u ≡ false
        → is_among (tokens_in (k ∷ hs)) u ≡ false
    by Dead e rest = rest
    by Unset e rest = rest
    by Null e rest = rest
    by Text e rest = rest
    by (Known n) e rest = rest
    by Number e rest = rest
    by (Token t) e rest = ap (λ b. b || is_among (tokens_in hs) u) e ∙ rest

none_held : (u : ℕ) (ps : List (Holding × Atom)) → atom_of u ps ≡ None → All (λ p. is_token u p.0 ≡ false) ps
none_held u [] e = All-nil (λ p. is_token u p.0 ≡ false)
none_held u (p ∷ ps) e = by (is_token u p.0) refl e (none_held u ps)
  where
    by : (b : Bool) → is_token u p.0 ≡ b → cond b (Some p.1) (atom_of u ps) ≡ None
        → (atom_of u ps ≡ None → All (λ p. is_token u p.0 ≡ false) ps) → All (λ p. is_token u p.0 ≡ false) (p ∷ ps)
    by true is f rest = absurd (none_some p.1 (sym f))
    by false is f rest = All-cons (λ p. is_token u p.0 ≡ false) p ps is (rest f)

zip_firsts : (P : Holding → Type 0) (hs : List Holding) (as' : List Atom) → length hs ≡ length as'
    → All (λ p. P p.0) (zip hs as') → All P hs
zip_firsts P [] as' e all = All-nil P
zip_firsts P (h ∷ hs) [] e all = absurd (omega (arith, e))
zip_firsts P (h ∷ hs) (a ∷ as') e all =
    All-cons P h hs (All-head (λ p. P p.0) (h, a) (zip hs as') all)
    (zip_firsts P hs as' (omega (arith, e)) (All-tail (λ p. P p.0) (h, a) (zip hs as') all))

pub unmatched : (u : ℕ) (t : Shape) (as' : List Atom) → length t.entry ≡ length as'
    → is_among (tokens_of (exit_of t)) u ≡ true → atom_of u (arguments_of (exit_of t) as') ≡ None
    → is_token u t.returned ≡ true
unmatched u t as' count among none = by (is_token u t.returned) refl
  where
    by : (b : Bool) → is_token u t.returned ≡ b → is_token u t.returned ≡ true
    by true e = e
    by false e =
        let e' = exit_of t in
        let Q = λ (h : Holding). is_token u h ≡ false in
        let all = none_held u (arguments_of e' as') none in
        let statics = All_of_map (λ (p : Holding × Atom). Q p.0) with_static t.statics
        (All_right (λ (p : Holding × Atom). Q p.0) (zip t.entry as') (map with_static t.statics) all) in
        let held = all_holders Q e' (record {
          entry = zip_firsts Q t.entry as' count
              (All_left (λ (p : Holding × Atom). Q p.0) (zip t.entry as') (map with_static t.statics) all);
          vars = All-nil Q;
          statics = All-map Q holding_of_static t.statics statics;
          returned = e;
          slots = All-nil Q;
        }) in
        absurd (false≢true (sym (among_distinct (tokens_in (holders e')) u ∙ not_in u (holders e') held) ∙ among))
