use Rattle.std.proofs.Common.{◌≡◌, ◌⊎◌, ◌<◌, pos, ◌+ℤ◌, [], drop, get_or, length, inl, inr, arith}
use Rattle.std.proofs.lemmas.Int.{to_z-of_z}
use Rattle.std.proofs.lemmas.List.{drop_more}
use Rattle.pungi_shape.proofs.FactorLemmas.{drop_all, factor_each, factor_fits, merged_both, merged_end, merged_left}
use Rattle.pungi_shape.proofs.FactorLemmas.{merged_right, merged_sum}
use Rattle.pungi_shape.specs.Forms.{IsFactor}
use Rattle.pungi_shape.proofs.factors.sum.Goals as goal
use mir.Syntax.{w64}
use Rattle.pungi_shape.proofs.factors.sum.Goals.{then-loop-i-test+else-j-gs, else-loop-i-test}

pub loop-i-preserved-then-p-q : goal.loop-i-preserved-then-p-q
loop-i-preserved-then-p-q c =
    let l : c.loop-i.i < length c.args.fs.now = omega arith in
    let r : c.loop-i.j < length c.args.gs.now = omega arith in
    let m = rw (drop_more c.args.fs.now c.loop-i.i (0, pos 0) l, drop_more c.args.gs.now c.loop-i.j (0, pos 0) r)
    at c.loop-i.invariant.merged in
    record {
      i_in = omega arith;
      j_in = omega arith;
      merged = rw (c.in_ok-push.ensures.ok, drop_more c.args.gs.now c.loop-i.j (0, pos 0) r)
          (merged_left _ _ _ _ _ _ _ m c.if-p-q.true);
    }

pub loop-i-preserved-then-q-p : goal.loop-i-preserved-then-q-p
loop-i-preserved-then-q-p c =
    let l : c.loop-i.i < length c.args.fs.now = omega arith in
    let r : c.loop-i.j < length c.args.gs.now = omega arith in
    let m = rw (drop_more c.args.fs.now c.loop-i.i (0, pos 0) l, drop_more c.args.gs.now c.loop-i.j (0, pos 0) r)
    at c.loop-i.invariant.merged in
    record {
      i_in = omega arith;
      j_in = omega arith;
      merged = rw (c.in_ok-push-2.ensures.ok, drop_more c.args.fs.now c.loop-i.i (0, pos 0) l)
          (merged_right _ _ _ _ _ _ _ m c.if-q-p.true);
    }

pub overflow_add-p : goal.overflow_add-p
overflow_add-p c =
    let p = get_or c.args.fs.now c.loop-i.i (0, pos 0) in
    let q = get_or c.args.gs.now c.loop-i.j (0, pos 0) in
    let l : c.loop-i.i < length c.args.fs.now = omega arith in
    let r : c.loop-i.j < length c.args.gs.now = omega arith in
    let m = rw (drop_more c.args.fs.now c.loop-i.i (0, pos 0) l, drop_more c.args.gs.now c.loop-i.j (0, pos 0) r)
    at c.loop-i.invariant.merged in
    let e : p.0 ≡ q.0 = omega (arith, c.if-p-q.false, c.if-q-p.false) in
    let is : IsFactor (p.1 +ℤ q.1) = rw (merged_sum _ _ _ _ _ p q m e) (c.requires.storable p.0) in
    let f = factor_fits _ (factor_each c.args.fs.now 0 c.loop-i.i (0, pos 0) c.requires.left l) in
    let g = factor_fits _ (factor_each c.args.gs.now 0 c.loop-i.j (0, pos 0) c.requires.right r) in
    rw (to_z-of_z w64 p.1 f, to_z-of_z w64 q.1 g) (factor_fits _ is)

pub loop-i-preserved : goal.loop-i-preserved
loop-i-preserved c =
    let p = get_or c.args.fs.now c.loop-i.i (0, pos 0) in
    let q = get_or c.args.gs.now c.loop-i.j (0, pos 0) in
    let l : c.loop-i.i < length c.args.fs.now = omega arith in
    let r : c.loop-i.j < length c.args.gs.now = omega arith in
    let m = rw (drop_more c.args.fs.now c.loop-i.i (0, pos 0) l, drop_more c.args.gs.now c.loop-i.j (0, pos 0) r)
    at c.loop-i.invariant.merged in
    let e : p.0 ≡ q.0 = omega (arith, c.if-p-q.false, c.if-q-p.false) in
    let is : IsFactor (p.1 +ℤ q.1) = rw (merged_sum _ _ _ _ _ p q m e) (c.requires.storable p.0) in
    let f = factor_fits _ (factor_each c.args.fs.now 0 c.loop-i.i (0, pos 0) c.requires.left l) in
    let g = factor_fits _ (factor_each c.args.gs.now 0 c.loop-i.j (0, pos 0) c.requires.right r) in
    record {
      i_in = omega arith;
      j_in = omega arith;
      merged = rw (
        c.in_ok-push_factor.ensures,
        to_z-of_z w64 p.1 f,
        to_z-of_z w64 q.1 g,
        to_z-of_z w64 _ (factor_fits _ is),
      ) (merged_both _ _ _ _ _ p q m e is);
    }

pub returns : goal.returns
returns c =
    let ends : (drop c.loop-i.i c.args.fs.now ≡ []) ⊎ (drop c.loop-i.j c.args.gs.now ≡ []) =
    elim c.loop-i-test.branch [
      | then-loop-i-test+else-j-gs w ↦ inr (drop_all c.args.gs.now c.loop-i.j (omega arith))
      | else-loop-i-test w ↦ inl (drop_all c.args.fs.now c.loop-i.i (omega arith))
    ] in
    rw (c.in_ok-push_rest-2.ensures, c.in_ok-push_rest.ensures) (merged_end _ _ _ _ _ c.loop-i.invariant.merged ends)
