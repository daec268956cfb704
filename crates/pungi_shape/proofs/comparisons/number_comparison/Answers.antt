use Rattle.std.proofs.Common.{◌≡◌, ◌∙◌, Some, None, sym, rules}
use mir.Syntax.{w64}
use mir.Val.{SFits}
use Rattle.pungi_shape.specs.Numbers.{value_by}
use Rattle.pungi_shape.proofs.NumberLemmas.{compared-equal, equal-storable}
use Rattle.pungi_shape.proofs.comparisons.number_comparison.Goals as goal
use Rattle.pungi_shape.proofs.comparisons.number_comparison.Goals.{in_default-via-in-Some+in_default}
use Rattle.pungi_shape.proofs.comparisons.number_comparison.Goals.{in_default-via-in_default}

pub add_order-requires-clause-storable : goal.add_order-requires-clause-storable
add_order-requires-clause-storable c =
    let m = c.in-Some-Some.m in
    let n = c.in-Some-Some.n in
    let hm : SFits w64 m = search rules in
    let hn : SFits w64 n = search rules in
    let ea : value_by c.args.scene c.args.a ≡ Some m = sym c.value_by.ensures.value ∙ c.in-Some-Some.is-0 in
    let eb : value_by c.args.scene c.args.b ≡ Some n = sym c.value_by-2.ensures.value ∙ c.in-Some-Some.is-1 in
    λ equal. (
    let same : m ≡ n = compared-equal m n c.cmp.result hm hn c.cmp.ensures equal in
    equal-storable c.args.scene c.args.a c.args.b c.requires.scene c.requires.fresh c.requires.left
    c.requires.right c.value_by.ensures.constant c.value_by-2.ensures.constant (λ k l e f. cc)
    )

pub add_copied_order-requires-in_default-clause-storable : goal.add_copied_order-requires-in_default-clause-storable
add_copied_order-requires-in_default-clause-storable c =
    λ equal. equal-storable c.args.scene c.args.a c.args.b c.requires.scene c.requires.fresh c.requires.left
    c.requires.right c.value_by.ensures.constant c.value_by-2.ensures.constant
    (λ k l e f. elim c.in_default.branch [
      | in_default-via-in-Some+in_default w ↦ (
          let g : value_by c.args.scene c.args.b ≡ None =
          sym c.value_by-2.ensures.value ∙ w.in_default.is-1 in
          cc
          )
      | in_default-via-in_default w ↦ (
          let g : value_by c.args.scene c.args.a ≡ None = sym c.value_by.ensures.value ∙ w.in_default.is-0 in
          cc
          )
    ])
