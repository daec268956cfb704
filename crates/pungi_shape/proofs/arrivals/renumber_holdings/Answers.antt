use Rattle.std.proofs.Common.{◌≡◌, ◌∙◌, ◌+◌, ◌<◌, ℕ, List, get_or, length, refl, sym, arith}
use Rattle.std.specs.Prelude.{◌≢◌}
use Rattle.std.proofs.Math.ListN.{set}
use Rattle.std.proofs.lemmas.List.{set-get_or}
use Rattle.pungi_shape.specs.declared.holding.Holding.{Holding}
use Rattle.pungi_shape.specs.declared.holding.Holding.TheVariants.{Dead, Unset, Null, Text, Known, Number, Token}
use Rattle.pungi_shape.specs.Numbered.{number_by}
use Rattle.pungi_shape.specs.Shapes.{rename_holding}
use Rattle.pungi_shape.proofs.ListLemmas.{mapped, mapped_step}
use Rattle.pungi_shape.proofs.arrivals.renumber_holdings.Goals as goal
use Rattle.pungi_shape.proofs.arrivals.renumber_holdings.Goals.{in-Token, in_default}

no_token : (g : ℕ → ℕ) (h : Holding) → ((t : ℕ) → h ≢ Token t) → rename_holding g h ≡ h
no_token g Dead n = refl
no_token g Unset n = refl
no_token g Null n = refl
no_token g Text n = refl
no_token g (Known k) n = refl
no_token g Number n = refl
no_token g (Token t) n = absurd (n t refl)

-- an element that is its own new value
stays : (f : Holding → Holding) (hs after : List Holding) (i : ℕ) → set hs i (f (get_or hs i Dead)) ≡ after
    → f (get_or hs i Dead) ≡ get_or hs i Dead → hs ≡ after
stays f hs after i e same = sym (set-get_or hs i Dead) ∙ (rw same at e)

pub loop-i-preserved : goal.loop-i-preserved
loop-i-preserved c =
    let i = c.loop-i.i in
    let hs = c.loop-i.holdings in
    let g = number_by c.args.numbering.now in
    let lt : i < length c.args.holdings.now = omega (arith, c.loop-i-test.true, c.len-i-end.ensures) in
    let step : set hs i (rename_holding g (get_or hs i Dead)) ≡ mapped (rename_holding g) (i + 1) c.args.holdings.now =
    mapped_step (rename_holding g) i c.args.holdings.now hs Dead c.loop-i.invariant lt in
    elim c.match-as_slice-i.branch [
      | in-Token w ↦
          let is : get_or hs i Dead ≡ Token w.in-Token.t = rw c.as_slice.ensures at w.in-Token.is in
          rw (w.holdings-is, w.set.ensures, w.number.ensures) (rw is at step)
      | in_default w ↦
          let same : rename_holding g (get_or hs i Dead) ≡ get_or hs i Dead =
          no_token g (get_or hs i Dead) (rw c.as_slice.ensures at w.in_default.not-Token) in
          rw w.holdings-is (stays (rename_holding g) hs (mapped (rename_holding g) (i + 1) c.args.holdings.now) i step
          same)
    ]
