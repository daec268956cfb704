use Rattle.std.proofs.Common.{◌≡◌, ◌∙◌, ◌++◌, ◌∷◌, [], List, map, sym, ap, subst, append_assoc}
use Rattle.std.specs.Prelude.{OnOk}
use Rattle.pungi_shape.specs.Cases.{Case, passes_on}
use Rattle.pungi_shape.specs.declared.holding.Holding.{Holding}
use Rattle.pungi_shape.specs.Scenes.{merge}
use Rattle.pungi_shape.specs.Slots.{find_field, same_objects}
use Rattle.pungi_shape.proofs.SlotLemmas.{find_field-cases}
use Rattle.pungi_shape.proofs.slots.find_field_cases.Goals as goal

pub returns-in_ok-add_same_objects-in-Token : goal.returns-in_ok-add_same_objects-in-Token
returns-in_ok-add_same_objects-in-Token c =
    let s = c.args.scene in
    let b = c.in-Token.b in
    let tag = c.args.tag in
    let field = c.args.field in
    let ones = map (λ u. passes_on 0 (merge b u s)) (same_objects s.shape b tag field) in
    let e : c.add_same_objects.new.out ++ passes_on 0 s ∷ []
    ≡ c.args.out.now ++ map (passes_on 0) (find_field c.args.h tag field s) =
    ap (λ (l : List Case). l ++ passes_on 0 s ∷ []) c.in_ok-add_same_objects-in-Token.ensures
    ∙ append_assoc c.args.out.now ones (passes_on 0 s ∷ [])
    ∙ ap (λ (l : List Case). c.args.out.now ++ l) (sym (find_field-cases b tag field s))
    ∙ ap (λ (h : Holding). c.args.out.now ++ map (passes_on 0) (find_field h tag field s)) (sym c.in-Token.is) in
    subst (λ (l : List Case). OnOk c.add_unchanged.result (c.add_unchanged.new.out ≡ l)) e c.add_unchanged.ensures
