use Rattle.std.proofs.Common.{◌≡◌, ◌+◌, ◌^◌, Bool, if◌then◌else◌, get_or, drop, ap, sym, subst, ◌∙◌, arith}
use Rattle.pungi_base.specs.declared.value.Value.TheVariants.{Null}
use Rattle.pungi_world.specs.declared.world.World.{World}
use Rattle.pungi_world.specs.Counts.{hand_over, AreWithin}
use Rattle.pungi_world.specs.Calls.{is_taken_at, take_over}
use Rattle.pungi_world.proofs.TakeLemmas.{take_over-turn, take_over-end, within_taken}
use Rattle.pungi_world.proofs.calls.take_over.Goals as goal

pub loop-i-preserved : goal.loop-i-preserved
loop-i-preserved c =
    let i = c.loop-i.i in
    let takes = c.args.takes.now in
    let args = c.args.args.now in
    let moved : c.take_one.new.world ≡ (if is_taken_at c.args.success takes i then hand_over c.loop-i.world
    (get_or args i Null) else c.loop-i.world) =
    c.take_one.ensures ∙ ap (λ (b : Bool). if b then hand_over c.loop-i.world (get_or args i Null) else
    c.loop-i.world) c.is_taken_at.ensures in
    let Near : World → Type 0 = λ w. AreWithin (2 ^ 61 + 1 + (i + 1)) w in
    record {
      same = ap (λ (w : World). take_over w c.args.success (drop (i + 1) takes) (drop (i + 1) args)) moved
          ∙ sym (take_over-turn c.loop-i.world c.args.success takes args i c.loop-i-test.true)
          ∙ c.loop-i.invariant.same;
      within = subst Near (sym moved) (within_taken (is_taken_at c.args.success takes i) c.loop-i.world
          (get_or args i Null) (2 ^ 61 + 1 + i) (2 ^ 61 + 1 + (i + 1)) (omega arith) c.loop-i.invariant.within);
    }

pub returns : goal.returns
returns c =
    sym (take_over-end c.loop-i.world c.args.success c.args.takes.now c.args.args.now c.loop-i.i
    c.loop-i-test.false) ∙ c.loop-i.invariant.same
