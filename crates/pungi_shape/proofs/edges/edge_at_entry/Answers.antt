use Rattle.std.proofs.Common.{◌∙◌, ◌++◌, ◌∷◌, [], ap, subst}
use Rattle.pungi_shape.specs.Edges.{Edge, entry_scene, goes_to}
use Rattle.pungi_shape.specs.Places.{first_point}
use Rattle.pungi_shape.specs.Reached.{IsWideGoal}
use Rattle.pungi_shape.specs.declared.graph_fault.GraphFault.TheVariants.{Shapes}
use Rattle.pungi_shape.proofs.EntryLemmas.{entry_scene-scene}
use Rattle.pungi_shape.proofs.SkipLemmas.{same-edge, same_fault, wide_first}
use Rattle.pungi_shape.proofs.edges.edge_at_entry.Goals as goal

pub goes_to-requires-clause-scene : goal.goes_to-requires-clause-scene
goes_to-requires-clause-scene c =
    rw c.in_ok-scene.ensures (entry_scene-scene c.args.code.now c.args.shape.now c.requires.well_formed
    c.requires.reached)

pub returns-in_ok-push-in-Ok-clause-edges : goal.returns-in_ok-push-in-Ok-clause-edges
returns-in_ok-push-in-Ok-clause-edges c =
    let a = c.new-2.ensures in
    let b = c.new.ensures.items in
    let same = same-edge c.args.code.now c.start_of.result first_point c.new-2.result [] c.in_ok-scene.scene
    (entry_scene c.args.shape.now) c.start_of.ensures (cc) c.in_ok-scene.ensures
    in
    c.in_ok-push-in-Ok.ensures.ok ∙ ap (λ (e : Edge). c.args.out.now ++ e ∷ []) (c.in-Ok.ensures.edge ∙ same)

pub returns-in-Err-clause-wide : goal.returns-in-Err-clause-wide
returns-in-Err-clause-wide c = λ e. (
    let a = c.new-2.ensures in
    let b = c.new.ensures.items in
    let same = same-edge c.args.code.now c.start_of.result first_point c.new-2.result [] c.in_ok-scene.scene
    (entry_scene c.args.shape.now) c.start_of.ensures (cc) c.in_ok-scene.ensures
    in
    wide_first (goes_to c.args.code.now first_point [] (entry_scene c.args.shape.now)) []
    (subst (λ (d : Edge). IsWideGoal d.goal) same (c.in-Err.ensures.wide (same_fault c.in-Err.fault Shapes e)))
    )
