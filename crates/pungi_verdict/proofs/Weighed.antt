-- The fault of a run that isn't balanced.
use Rattle.std.proofs.Common.{◌≡◌, ℕ, List, length, Option, sym, ap, ◌∙◌, subst}
use Rattle.pungi_base.specs.declared.entry.Entry.{Entry}
use Rattle.pungi_base.specs.declared.fault.Fault.{Fault}
use Rattle.pungi_base.specs.declared.pos.Pos.{Pos}
use Rattle.pungi_base.specs.declared.value.Value.{Value}
use Rattle.pungi_base.specs.declared.witness.Witness.{Witness}
use Rattle.pungi_api.specs.declared.terms.Terms.{Terms}
use Rattle.pungi_resolved.specs.Functions.{ResolvedFunction}
use Rattle.pungi_world.specs.declared.world.World.{World}
use Rattle.pungi_world.specs.Escapes.{IsBalanced}
use Rattle.pungi_meaning.specs.Run.{Returned, Stopped, NeedsChoice, OutOfFuel, run_of}
use Rattle.pungi_code.specs.declared.code.Code.{Code}
use Rattle.pungi_verdict.specs.Replays.{IsUneven}
use Rattle.pungi_verdict.specs.Sound.{ReportsLowest, IsReturnOf}

-- ---- a return is one return

pub same-world : (w x : World) (v y : Option Value) (p q : Pos) (us ns : List Pos)
    → Returned w v p us ≡ Returned x y q ns → w ≡ x
same-world w x v y p q us ns e = cc

pub same-value : (w x : World) (v y : Option Value) (p q : Pos) (us ns : List Pos)
    → Returned w v p us ≡ Returned x y q ns → v ≡ y
same-value w x v y p q us ns e = cc

pub same-used : (w x : World) (v y : Option Value) (p q : Pos) (us ns : List Pos)
    → Returned w v p us ≡ Returned x y q ns → us ≡ ns
same-used w x v y p q us ns e = cc

pub off-too : (terms own : Terms) (entry : Entry) (w x : World) (v y : Option Value) (p q : Pos) (us ns : List Pos)
    → terms ≡ own → Returned w v p us ≡ Returned x y q ns → (IsBalanced terms entry x y → ⊥)
    → IsBalanced own entry w v → ⊥
off-too terms own entry w x v y p q us ns same e off balanced =
    off (subst (λ (t : Terms). IsBalanced t entry x y) (sym same)
    (subst (λ (z : World). IsBalanced own entry z y) (same-world w x v y p q us ns e)
    (subst (λ (z : Option Value). IsBalanced own entry w z) (same-value w x v y p q us ns e) balanced)))

pub not-stopped : (q : Pos) (w : World) (v : Option Value) (p : Pos) (us : List Pos) → Stopped q ≡ Returned w v p us → ⊥
not-stopped q w v p us e = absurd (cc)

pub not-wanting : (w : World) (v : Option Value) (p : Pos) (us : List Pos) → NeedsChoice ≡ Returned w v p us → ⊥
not-wanting w v p us e = absurd (cc)

pub not-out : (w : World) (v : Option Value) (p : Pos) (us : List Pos) → OutOfFuel ≡ Returned w v p us → ⊥
not-out w v p us e = absurd (cc)

-- ---- the fault

pub told : (fs : List (Option ResolvedFunction)) (f : ResolvedFunction) (code : Code) (w : Witness)
    (u : IsUneven code w) (steps : ℕ) (world : World) (value : Option Value) (p : Pos) (used : List Pos) (fault : Fault)
    → (run_of fs f w.input w.choices steps).end ≡ Returned world value p used
    → Returned world value p used ≡ Returned u.world u.value u.at u.used
    → fault.witness ≡ w → fault.pos ≡ p → fault.used ≡ used → ReportsLowest f.terms world value fault
    → IsReturnOf fs f fault
told fs f code w u steps world value p used fault run same witness place places h = record {
  steps = steps;
  world = world;
  value = value;
  run =
      ap (λ (x : Witness). (run_of fs f x.input x.choices steps).end) witness
      ∙ run
      ∙ ap (λ (q : Pos). Returned world value q used) (sym place)
      ∙ ap (λ (us : List Pos). Returned world value fault.pos us) (sym places);
  all_used =
      ap (λ (us : List Pos). length us) (places ∙ same-used world u.world value u.value p u.at used u.used same)
      ∙ u.all_used
      ∙ ap (λ (x : Witness). length x.choices) (sym witness);
  told = h;
}
