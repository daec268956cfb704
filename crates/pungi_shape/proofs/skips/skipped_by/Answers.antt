use Rattle.std.proofs.Common.{◌≡◌, ◌<◌, length, refl}
use Rattle.std.specs.Prelude.{◌^◌}
use Rattle.pungi_shape.specs.Bounds.{IsScene}
use Rattle.pungi_shape.specs.Cases.{Case}
use Rattle.pungi_shape.specs.Shapes.{width_of}
use Rattle.pungi_shape.proofs.SkipLemmas.{alone, skip_one-other}
use Rattle.pungi_shape.proofs.skips.skipped_by.Goals as goal

pub skipped_within-requires-clause-scene : goal.skipped_within-requires-clause-scene
skipped_within-requires-clause-scene c =
    alone (λ (d : Case). IsScene d.scene) c.args.list c.in-Some.case
    c.in-Some.ensures.one c.requires.scenes

pub skipped_within-requires-clause-width : goal.skipped_within-requires-clause-width
skipped_within-requires-clause-width c =
    alone (λ (d : Case). d.scene.width ≡ width_of c.args.shape.now) c.args.list c.in-Some.case
    c.in-Some.ensures.one c.requires.widths

pub skipped_within-requires-clause-vars : goal.skipped_within-requires-clause-vars
skipped_within-requires-clause-vars c =
    alone (λ (d : Case). length d.scene.shape.vars ≡ length c.args.code.now.vars) c.args.list c.in-Some.case
    c.in-Some.ensures.one c.requires.vars

pub skipped_within-requires-clause-few : goal.skipped_within-requires-clause-few
skipped_within-requires-clause-few c =
    alone (λ (d : Case). length d.scene.shape.made < 2 ^ 32) c.args.list c.in-Some.case
    c.in-Some.ensures.one c.requires.few

pub returns-in-None : goal.returns-in-None
returns-in-None c =
    rw (skip_one-other c.args.code.now c.args.p c.args.shape.now c.args.list c.in-None.ensures.other) refl
