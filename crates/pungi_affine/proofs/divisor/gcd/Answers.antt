use Rattle.std.proofs.Common.{ℕ, ◌≡◌, arith, subst, sym}
use Rattle.std.proofs.lemmas.Nat.Gcd.{dvd_refl, dvd-zero}
use Prim.Native.Nat.{◌∣◌}
use Rattle.pungi_affine.proofs.Euclid.{step_back, step_on}
use Rattle.pungi_affine.proofs.divisor.gcd.Goals as goal

pub loop-y-preserved : goal.loop-y-preserved
loop-y-preserved c = record {
  back = λ g h k. c.loop-y.invariant.back g (step_back g c.loop-y.x c.loop-y.y (omega arith) h k) h;
  on = λ m e p q. let r = c.loop-y.invariant.on m e p q in (
    r.1,
    step_on m e c.loop-y.x c.loop-y.y (omega arith) r.0
        r.1,
  );
}

pub returns : goal.returns
returns c =
    let none : c.loop-y.y ≡ 0 = omega arith in
    let zero : c.loop-y.x ∣ c.loop-y.y = subst (λ (z : ℕ). c.loop-y.x ∣ z) (sym none) (dvd-zero c.loop-y.x) in
    let b = c.loop-y.invariant.back c.loop-y.x (dvd_refl c.loop-y.x) zero in
    record { left = b.0; right = b.1; combines = λ m e p q. (c.loop-y.invariant.on m e p q).0 }
