use Rattle.std.proofs.Common.{◌≡◌, ◌∙◌, ◌+◌, ℕ, true, length, sym, ap, arith, inl, inr}
use Rattle.std.proofs.lemmas.Bool.{cases_lt, false≢true}
use Rattle.std.proofs.lemmas.List.Elements.{All-weaker}
use Rattle.std.specs.Prelude.{◌^◌, ◌<◌}
use Rattle.pungi_code.specs.declared.code.Code.{Code}
use Rattle.pungi_code.specs.declared.instr.Instr.{Instr}
use Rattle.pungi_shape.specs.Bounds.{IsFresh, IsPlain, IsScene}
use Rattle.pungi_shape.specs.Cases.{Case}
use Rattle.pungi_shape.specs.Liveness.{instr_at}
use Rattle.pungi_shape.specs.Parts.{maps}
use Rattle.pungi_shape.specs.Scenes.{Scene}
use Rattle.pungi_shape.specs.Shapes.{width_of}
use Rattle.pungi_shape.specs.Steps.{cases}
use Rattle.pungi_shape.proofs.CaseLemmas.{IsGoodCase, cases-plain}
use Rattle.pungi_shape.proofs.FormBounds.{fresh-plain}
use Rattle.pungi_shape.proofs.LastParts.{last_stays}
use Rattle.pungi_shape.proofs.FileCodes.{sound-here}
use Rattle.pungi_shape.proofs.Opposites.{sound_opposites}
use Rattle.pungi_shape.proofs.SceneLemmas.{scene_of-scene, scene_of-fresh, scene_of-plain}
use Rattle.pungi_shape.proofs.SkipLemmas.{all_put, cases-few}
use Rattle.pungi_shape.proofs.skips.skipped.Goals as goal

pub returns-then-not-may_skip : goal.returns-then-not-may_skip
returns-then-not-may_skip c =
    let h = c.in-Some.ensures in
    let e = ap maps h.0 in
    elim (cases_lt (c.args.p.done + 1) (maps c.in-Some.instr.now)) [
      | inl lt ↦ absurd (false≢true (sym c.if-not-may_skip.true ∙ c.may_skip.ensures.no lt))
      | inr le ↦ sym (last_stays c.args.code.now c.args.p c.args.shape.now (omega (arith, le, e)))
    ]

pub cases-requires-clause-scene : goal.cases-requires-clause-scene
cases-requires-clause-scene c = rw c.in_ok-scene.ensures (scene_of-scene c.args.shape.now c.requires.shape)

pub cases-requires-clause-fresh : goal.cases-requires-clause-fresh
cases-requires-clause-fresh c =
    rw c.in_ok-scene.ensures (scene_of-fresh c.args.shape.now c.requires.shape c.requires.narrow)

pub cases-requires-clause-opposites : goal.cases-requires-clause-opposites
cases-requires-clause-opposites c =
    sound_opposites c.args.code.now c.in-Some.instr.now (sound-here c.args.code.now c.args.p.instr
    c.in-Some.instr.now c.requires.well_formed c.in-Some.ensures.0)

pub skipped_by-requires-clause-scenes : goal.skipped_by-requires-clause-scenes
skipped_by-requires-clause-scenes c =
    let h = c.in-Some.ensures in
    let a = c.new-list.ensures in
    let b = c.new.ensures.items in
    let p = c.args.p in
    let i = c.in-Some.instr.now in
    let s = c.in_ok-scene.scene in
    let fits : IsScene s = rw c.in_ok-scene.ensures (scene_of-scene c.args.shape.now c.requires.shape) in
    let fresh : IsPlain s = rw c.in_ok-scene.ensures (scene_of-plain c.args.shape.now) in
    let list = cases i p.instr p.done p.class s in
    all_put (λ (d : Case). IsScene d.scene) c.cases.new.out c.new-list.result list
    c.in_ok-cases.ensures (cc)
    (All-weaker (IsGoodCase s) (λ (d : Case). IsScene d.scene) (λ d g. g.scene) list
    (cases-plain c.args.code.now i p.instr p.done p.class s
    (sound-here c.args.code.now p.instr i c.requires.well_formed h.0) fits fresh))

pub skipped_by-requires-clause-widths : goal.skipped_by-requires-clause-widths
skipped_by-requires-clause-widths c =
    let h = c.in-Some.ensures in
    let a = c.new-list.ensures in
    let b = c.new.ensures.items in
    let p = c.args.p in
    let i = c.in-Some.instr.now in
    let s = c.in_ok-scene.scene in
    let w = ap (λ (z : Scene). z.width) c.in_ok-scene.ensures in
    let fits : IsScene s = rw c.in_ok-scene.ensures (scene_of-scene c.args.shape.now c.requires.shape) in
    let fresh : IsPlain s = rw c.in_ok-scene.ensures (scene_of-plain c.args.shape.now) in
    let list = cases i p.instr p.done p.class s in
    all_put (λ (d : Case). d.scene.width ≡ width_of c.args.shape.now) c.cases.new.out c.new-list.result list
    c.in_ok-cases.ensures (cc)
    (All-weaker (IsGoodCase s) (λ (d : Case). d.scene.width ≡ width_of c.args.shape.now) (λ d g. g.width ∙ w) list
    (cases-plain c.args.code.now i p.instr p.done p.class s
    (sound-here c.args.code.now p.instr i c.requires.well_formed h.0) fits fresh))

pub skipped_by-requires-clause-vars : goal.skipped_by-requires-clause-vars
skipped_by-requires-clause-vars c =
    let h = c.in-Some.ensures in
    let a = c.new-list.ensures in
    let b = c.new.ensures.items in
    let p = c.args.p in
    let i = c.in-Some.instr.now in
    let s = c.in_ok-scene.scene in
    let n = ap (λ (z : Scene). length z.shape.vars) c.in_ok-scene.ensures ∙ c.requires.vars in
    let fits : IsScene s = rw c.in_ok-scene.ensures (scene_of-scene c.args.shape.now c.requires.shape) in
    let fresh : IsPlain s = rw c.in_ok-scene.ensures (scene_of-plain c.args.shape.now) in
    let list = cases i p.instr p.done p.class s in
    all_put (λ (d : Case). length d.scene.shape.vars ≡ length c.args.code.now.vars) c.cases.new.out
    c.new-list.result list c.in_ok-cases.ensures (cc)
    (All-weaker (IsGoodCase s) (λ (d : Case). length d.scene.shape.vars ≡ length c.args.code.now.vars)
    (λ d g. g.vars ∙ n) list (cases-plain c.args.code.now i p.instr p.done p.class s
    (sound-here c.args.code.now p.instr i c.requires.well_formed h.0) fits fresh))

pub skipped_by-requires-clause-few : goal.skipped_by-requires-clause-few
skipped_by-requires-clause-few c =
    let h = c.in-Some.ensures in
    let a = c.new-list.ensures in
    let b = c.new.ensures.items in
    let p = c.args.p in
    let i = c.in-Some.instr.now in
    let s = c.in_ok-scene.scene in
    let fits : IsScene s = rw c.in_ok-scene.ensures (scene_of-scene c.args.shape.now c.requires.shape) in
    let fresh : IsFresh s =
    rw c.in_ok-scene.ensures (scene_of-fresh c.args.shape.now c.requires.shape c.requires.narrow)
    in
    all_put (λ (d : Case). length d.scene.shape.made < 2 ^ 32) c.cases.new.out c.new-list.result
    (cases i p.instr p.done p.class s) c.in_ok-cases.ensures (cc)
    (cases-few c.args.code.now i p.instr p.done p.class s
    (sound-here c.args.code.now p.instr i c.requires.well_formed h.0) fits (fresh-plain s fresh) fresh.few)
