use Rattle.std.proofs.Common.{◌≡◌, ◌∙◌, Err, IfOk, subst}
use Rattle.pungi_shape.specs.declared.graph_fault.GraphFault.TheVariants.{Shapes}
use Rattle.pungi_shape.specs.Edges.{Edge}
use Rattle.pungi_shape.specs.Reached.{IsWideGoal}
use Rattle.pungi_shape.proofs.CallEdgeLemmas.{back-edge, both-fresh, both-plain, both-scene}
use Rattle.pungi_shape.proofs.CallEdgeLemmas.{left-few, left-fits, left-vars}
use Rattle.pungi_shape.proofs.call_edges.comes_back.Goals as goal

pub agreement-requires-clause-scene : goal.agreement-requires-clause-scene
agreement-requires-clause-scene c =
    both-scene c.args.shape.now c.args.exit.now c.in_ok-scene.scene c.in_ok-scene.ensures c.requires.shape
    c.requires.narrow

pub agreement-requires-clause-plain : goal.agreement-requires-clause-plain
agreement-requires-clause-plain c =
    both-plain c.args.shape.now c.args.exit.now c.in_ok-scene.scene c.in_ok-scene.ensures c.requires.shape
    c.requires.narrow

pub after_leaving-requires-clause-scene : goal.after_leaving-requires-clause-scene
after_leaving-requires-clause-scene c =
    both-scene c.args.shape.now c.args.exit.now c.in_ok-scene.scene c.in_ok-scene.ensures c.requires.shape
    c.requires.narrow

pub after_leaving-requires-clause-fresh : goal.after_leaving-requires-clause-fresh
after_leaving-requires-clause-fresh c =
    both-fresh c.args.shape.now c.args.exit.now c.in_ok-scene.scene c.in_ok-scene.ensures c.requires.shape
    c.requires.narrow

pub goes_to-requires-clause-scene : goal.goes_to-requires-clause-scene
goes_to-requires-clause-scene c =
    left-fits c.args.shape.now c.args.exit.now c.args.x c.args.atoms.now c.width-w.result c.in_ok-scene.scene
    c.after_leaving.new.scene c.width-w.ensures c.in_ok-scene.ensures c.in_ok-after_leaving.ensures c.requires.shape
    c.requires.narrow c.requires.exit

pub goes_to-requires-clause-vars : goal.goes_to-requires-clause-vars
goes_to-requires-clause-vars c =
    left-vars c.args.shape.now c.args.exit.now c.args.x c.args.atoms.now c.width-w.result c.in_ok-scene.scene
    c.after_leaving.new.scene c.width-w.ensures c.in_ok-scene.ensures c.in_ok-after_leaving.ensures c.requires.shape
    c.requires.narrow c.requires.exit ∙ c.requires.vars

pub goes_to-requires-clause-few : goal.goes_to-requires-clause-few
goes_to-requires-clause-few c =
    left-few c.args.shape.now c.args.exit.now c.args.x c.args.atoms.now c.width-w.result c.in_ok-scene.scene
    c.after_leaving.new.scene c.width-w.ensures c.in_ok-scene.ensures c.in_ok-after_leaving.ensures c.requires.shape
    c.requires.narrow c.requires.exit

pub returns-clause-edge : goal.returns-clause-edge
returns-clause-edge c =
    let same = back-edge c.args.shape.now c.args.exit.now c.args.x c.args.atoms.now c.width-w.result c.in_ok-scene.scene
    c.after_leaving.new.scene c.width-w.ensures c.in_ok-scene.ensures c.in_ok-after_leaving.ensures c.args.code.now
    c.args.pc c.start_of.result c.in_ok-guard.guard c.start_of.ensures c.in_ok-guard.ensures in
    subst (λ (d : Edge). IfOk c.goes_to.result (λ e. e ≡ d)) same c.goes_to.ensures.edge

pub returns-clause-wide : goal.returns-clause-wide
returns-clause-wide c =
    let same = back-edge c.args.shape.now c.args.exit.now c.args.x c.args.atoms.now c.width-w.result c.in_ok-scene.scene
    c.after_leaving.new.scene c.width-w.ensures c.in_ok-scene.ensures c.in_ok-after_leaving.ensures c.args.code.now
    c.args.pc c.start_of.result c.in_ok-guard.guard c.start_of.ensures c.in_ok-guard.ensures in
    subst (λ (d : Edge). c.goes_to.result ≡ Err Shapes → IsWideGoal d.goal) same c.goes_to.ensures.wide
