use Rattle.std.proofs.Common.{◌≡◌, ℕ, List, [], ◌∷◌, ◌∙◌, ap, reverse, sym, subst, nat_eq}
use Rattle.std.proofs.lemmas.List.{reverse-append}
use Rattle.indexmap.specs.IndexMap.{get}
use Rattle.pungi_tree.specs.UnitView.{unit_view}
use Rattle.pungi_names.specs.Depth as depth
use Rattle.pungi_names.specs.Depth.{known_at, Reaches}
use Rattle.pungi_names.specs.Finds.{reached_view}
use Rattle.pungi_names.specs.Walk.{IsPath}
use Rattle.pungi_names.proofs.DepthLemmas.{one_more}
use Rattle.pungi_names.proofs.WalkLemmas.{kept}
use Rattle.pungi_names.proofs.walk.go_back.Goals as goal

pub loop-word-preserved : goal.loop-word-preserved
loop-word-preserved c =
    let step = known_at (unit_view c.args.unit.now) in
    let w = c.in-Some.word in
    let k = c.in-Some.stars in
    let popped : reverse c.loop-word.path.items ≡ (w, k)
    ∷ reverse c.pop.new.self.items = ap reverse c.in-Some.ensures.items
    ∙ reverse-append c.pop.new.self.items ((w, k) ∷ []) in
    let P : List (ℕ × ℕ) → Type 0 = λ ps. IsPath step c.args.start ps c.loop-word.at in
    let path = subst P popped c.loop-word.invariant.path in
    let R : depth.TypedefTarget → Type 0 = λ r. Reaches step w r in
    let reached = subst R (sym c.in_ok-reached.ensures) (one_more step w k c.loop-word.at
    (reached_view c.loop-word.reached) path.0 c.loop-word.invariant.reached) in
    record {
      path = path.1;
      reached = reached;
      done = kept step (get nat_eq c.loop-word.done) (get nat_eq c.insert.new.self) w c.in_ok-reached.reached
          reached c.loop-word.invariant.done c.in_ok-insert.ensures.updates.0;
    }
