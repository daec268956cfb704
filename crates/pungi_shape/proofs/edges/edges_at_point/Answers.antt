use Rattle.std.proofs.Common.{◌≡◌, ◌<◌, ℕ, List, Some, length, map, sym, ap, subst, arith}
use Rattle.std.specs.Prelude.{◌^◌}
use Rattle.std.specs.List.{All}
use Rattle.pungi_shape.specs.Bounds.{IsScene}
use Rattle.pungi_shape.specs.Cases.{Case}
use Rattle.pungi_shape.specs.Edges.{cases_at, edge_of}
use Rattle.pungi_shape.specs.Parts.{maps}
use Rattle.pungi_shape.specs.Reached.{HasWideGoal}
use Rattle.pungi_shape.proofs.FileCodes.{sound-here}
use Rattle.pungi_shape.proofs.Opposites.{sound_opposites}
use Rattle.pungi_shape.proofs.PointLemmas.{at-few, at-freed, at-scenes, at-vars, edges-cases, same-cases}
use Rattle.pungi_shape.proofs.SceneLemmas.{scene_of-scene, scene_of-fresh}
use Rattle.pungi_shape.proofs.edges.edges_at_point.Goals as goal

pub cases-requires-clause-scene : goal.cases-requires-clause-scene
cases-requires-clause-scene c =
    rw c.in_ok-scene.ensures (scene_of-scene c.args.shape.now c.requires.reached.0.shape)

pub cases-requires-clause-fresh : goal.cases-requires-clause-fresh
cases-requires-clause-fresh c =
    rw c.in_ok-scene.ensures (scene_of-fresh c.args.shape.now c.requires.reached.0.shape c.requires.narrow)

pub cases-requires-clause-opposites : goal.cases-requires-clause-opposites
cases-requires-clause-opposites c =
    sound_opposites c.args.code.now c.in-Some.instr.now (sound-here c.args.code.now c.args.p.instr
    c.in-Some.instr.now c.requires.well_formed c.in-Some.ensures.0)

-- what holds of all cases of the place holds of the list
moved : (P : Case → Type 0) (list others : List Case) → list ≡ others → All P others → All P list
moved P list others e all = subst (λ (ds : List Case). All P ds) (sym e) all

pub edges_of_cases-requires-clause-scenes : goal.edges_of_cases-requires-clause-scenes
edges_of_cases-requires-clause-scenes c =
    let a = c.new-list.ensures in
    let b = c.new.ensures.items in
    let code = c.args.code.now in
    let s = c.args.shape.now in
    moved (λ d. IsScene d.scene) c.cases.new.out (cases_at code c.args.p s)
    (same-cases code c.args.p s c.in-Some.instr.now c.in_ok-scene.scene c.new-list.result c.cases.new.out
    c.in-Some.ensures.0 c.in_ok-scene.ensures (cc) c.in_ok-cases.ensures)
    (at-scenes code c.args.p s c.requires.well_formed c.requires.reached.0)

pub edges_of_cases-requires-clause-vars : goal.edges_of_cases-requires-clause-vars
edges_of_cases-requires-clause-vars c =
    let a = c.new-list.ensures in
    let b = c.new.ensures.items in
    let code = c.args.code.now in
    let s = c.args.shape.now in
    moved (λ d. length d.scene.shape.vars ≡ length code.vars) c.cases.new.out (cases_at code c.args.p s)
    (same-cases code c.args.p s c.in-Some.instr.now c.in_ok-scene.scene c.new-list.result c.cases.new.out
    c.in-Some.ensures.0 c.in_ok-scene.ensures (cc) c.in_ok-cases.ensures)
    (at-vars code c.args.p s c.requires.well_formed c.requires.reached.0)

pub edges_of_cases-requires-clause-few : goal.edges_of_cases-requires-clause-few
edges_of_cases-requires-clause-few c =
    let a = c.new-list.ensures in
    let b = c.new.ensures.items in
    let code = c.args.code.now in
    let s = c.args.shape.now in
    moved (λ d. length d.scene.shape.made < 2 ^ 32) c.cases.new.out (cases_at code c.args.p s)
    (same-cases code c.args.p s c.in-Some.instr.now c.in_ok-scene.scene c.new-list.result c.cases.new.out
    c.in-Some.ensures.0 c.in_ok-scene.ensures (cc) c.in_ok-cases.ensures)
    (at-few code c.args.p s c.requires.well_formed c.requires.reached.0 c.requires.narrow)

pub edges_of_cases-requires-clause-freed : goal.edges_of_cases-requires-clause-freed
edges_of_cases-requires-clause-freed c =
    let a = c.new-list.ensures in
    let b = c.new.ensures.items in
    let code = c.args.code.now in
    let s = c.args.shape.now in
    moved (λ d. (x : ℕ) → d.freed ≡ Some x → x < length code.vars) c.cases.new.out (cases_at code c.args.p s)
    (same-cases code c.args.p s c.in-Some.instr.now c.in_ok-scene.scene c.new-list.result c.cases.new.out
    c.in-Some.ensures.0 c.in_ok-scene.ensures (cc) c.in_ok-cases.ensures)
    (at-freed code c.args.p s c.requires.well_formed c.requires.reached.0)

pub returns-clause-wide : goal.returns-clause-wide
returns-clause-wide c = λ e. (
    let a = c.new-list.ensures in
    let b = c.new.ensures.items in
    let code = c.args.code.now in
    let p = c.args.p in
    let s = c.args.shape.now in
    let more = c.if-p-maps.false in
    let count = c.maps.ensures in
    let here = ap maps c.in-Some.ensures.0 in
    let same = same-cases code p s c.in-Some.instr.now c.in_ok-scene.scene c.new-list.result c.cases.new.out
    c.in-Some.ensures.0 c.in_ok-scene.ensures (cc) c.in_ok-cases.ensures
    in
    subst HasWideGoal (sym (edges-cases code p s (λ last. omega (arith, more, count, here, last))))
    (subst (λ (ds : List Case). HasWideGoal (map (edge_of code p s) ds)) same (c.edges_of_cases.ensures.wide e))
    )
