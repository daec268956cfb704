use Rattle.std.proofs.Common.{ℕ, ◌*◌}
use Prim.Native.Nat.{◌∣◌}
use Rattle.pungi_affine.proofs.divisor.gcd.Given as goal

abbrev pub invariant-loop-y : goal.invariant-loop-y
invariant-loop-y l = record {
  back : (g : ℕ) → g ∣ l.x → g ∣ l.y → (g ∣ l.a) × (g ∣ l.b);
  on : (m e : ℕ) → m ∣ (e * l.a) → m ∣ (e * l.b) → (m ∣ (e * l.x)) × (m ∣ (e * l.y));
}

abbrev pub decreases-loop-y : goal.decreases-loop-y
decreases-loop-y l = l.y
