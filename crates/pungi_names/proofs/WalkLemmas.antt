-- What is kept of a walk along typedefs.
use Rattle.std.proofs.Common.{◌≡◌, ℕ, ◌==◌, Bool, true, false, cond, Option, Some, option_map, refl, sym, subst}
use Rattle.pungi_types.specs.Kinds.{Followed}
use Rattle.pungi_names.specs.Depth.{Reaches}
use Rattle.pungi_names.specs.Finds.{reached_view}
use Rattle.pungi_names.specs.Walk.{AllReach, ReachesSome}
use Rattle.pungi_names.specs.declared.step.TypedefTarget.{TypedefTarget}
use Rattle.pungi_names.proofs.DepthLemmas.{same_word}

-- one word more is found, with what it reaches
pub kept : (step : ℕ → ℕ → Followed) (find found : ℕ → Option TypedefTarget) (w : ℕ) (r : TypedefTarget)
    → Reaches step w (reached_view r)
    → AllReach step (λ q. option_map reached_view (find q)) → ((q : ℕ) → found q ≡ cond (w == q) (Some r) (find q))
    → AllReach step (λ q. option_map reached_view (found q))
kept step find found w r reach all put q =
    let P : Option TypedefTarget → Type 0 = λ o. ReachesSome step q (option_map reached_view o) in
    subst P (sym (put q)) (at (w == q) refl)
  where
    at : (b : Bool) → (w == q) ≡ b → ReachesSome step q (option_map reached_view (cond b (Some r) (find q)))
    at true e = let Q : ℕ → Type 0 = λ x. Reaches step x (reached_view r) in subst Q (same_word w q e) reach
    at false e = all q
