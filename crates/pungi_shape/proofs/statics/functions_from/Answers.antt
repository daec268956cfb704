use Rattle.std.proofs.Common.{◌≡◌, ◌∙◌, ◌<◌, [], false, length, replicate, slice_get, Some, None, refl, sym}
use Rattle.std.proofs.Common.{ap, subst, arith}
use Rattle.std.specs.List.{IsAmong, flat_map}
use Rattle.std.proofs.lemmas.Option.{slice_get-get_or}
use Rattle.pungi_code.specs.Run.{code_at}
use Rattle.pungi_shape.specs.Named.{callees_in, callees_of}
use Rattle.pungi_shape.proofs.CalleeLemmas.{callee-below, called-lines, lines-called, none-called}
use Rattle.pungi_shape.proofs.NamedLemmas.{code_there}
use Rattle.pungi_shape.proofs.ReachingLemmas.{added-as, added-none, reaching-all, reaching-below, reaching-end}
use Rattle.pungi_shape.proofs.ReachingLemmas.{reaching-first, reaching-here, reaching-more}
use Rattle.pungi_shape.proofs.sound.Members.{nothing_in}
use Rattle.pungi_shape.proofs.statics.functions_from.Goals as goal
use Rattle.pungi_shape.proofs.statics.functions_from.Goals.{in-Some+in_ok-add_callees, in_default}

pub reaching-init : goal.reaching-init
reaching-init c =
    let codes = c.args.codes.now in
    let are : c.in_ok-marks.marks.items ≡ replicate (length codes.codes) false =
    c.in_ok-marks.ensures.items_if_clones_equal (λ y same. same) ∙ ap (λ n. replicate n false) c.len-count.ensures in
    reaching-first codes c.args.f c.add.new.marks.items c.add.new.list.items
    (rw (are, c.new-list.ensures.items) at c.in_ok-add.ensures)

pub returns-then-i-len-clause-from : goal.returns-then-i-len-clause-from
returns-then-i-len-clause-from c =
    reaching-end c.args.codes.now c.args.f c.reaching.marks.items c.reaching.list.items c.reaching.i
    c.reaching.invariant (omega (arith, c.if-i-len.true, c.len.ensures))

pub returns-then-i-len-clause-within : goal.returns-then-i-len-clause-within
returns-then-i-len-clause-within c =
    reaching-below c.args.codes.now c.args.f c.reaching.marks.items c.reaching.list.items c.reaching.i
    c.reaching.invariant

pub bounds-as_slice-index : goal.bounds-as_slice-index
bounds-as_slice-index c =
    let codes = c.args.codes.now in
    let list = c.reaching.list.items in
    let more : c.reaching.i < length list =
    omega (arith, c.if-i-len.false, c.len.ensures, c.reaching.invariant.within) in
    let below = reaching-here codes c.args.f c.reaching.marks.items list c.reaching.i c.index.result.now
    c.reaching.invariant more c.index.ensures in
    let same : length c.as_slice.result.now ≡ length codes.codes = ap length c.as_slice.ensures in
    omega (arith, below, same)

pub add_callees-requires-clause-there : goal.add_callees-requires-clause-there
add_callees-requires-clause-there c = λ g there.
    let codes = c.args.codes.now in
    let list = c.reaching.list.items in
    let h = c.index.result.now in
    let code = c.in-Some.code in
    let more : c.reaching.i < length list =
    omega (arith, c.if-i-len.false, c.len.ensures, c.reaching.invariant.within) in
    let below = reaching-here codes c.args.f c.reaching.marks.items list c.reaching.i h c.reaching.invariant more
    c.index.ensures in
    let is : code_at codes h ≡ Some code =
    code_there codes h (length codes.codes) c.as_slice.result.now c.index-as_slice-index.result c.as_slice.ensures
    refl below c.index-as_slice-index.is ∙ c.in-Some.is in
    let lt = callee-below codes h g code c.requires.well_formed is
    (subst (λ ls. IsAmong (flat_map callees_in ls) g) c.as_slice-in-Some.ensures there) in
    let count = c.reaching.invariant.count in
    omega (arith, lt, count)

pub reaching-preserved : goal.reaching-preserved
reaching-preserved c =
    let codes = c.args.codes.now in
    let f = c.args.f in
    let i = c.reaching.i in
    let marks = c.reaching.marks.items in
    let list = c.reaching.list.items in
    let now = c.reaching.invariant in
    let h = c.index.result.now in
    let more : i < length list = omega (arith, c.if-i-len.false, c.len.ensures, c.reaching.invariant.within) in
    let below = reaching-here codes f marks list i h now more c.index.ensures in
    let at : slice_get list i ≡ Some h = slice_get-get_or list i h more ∙ ap Some (sym c.index.ensures) in
    let there = code_there codes h (length codes.codes) c.as_slice.result.now c.index-as_slice-index.result
    c.as_slice.ensures refl below c.index-as_slice-index.is in
    elim c.match-as_slice-index.branch [
      | in-Some+in_ok-add_callees w ↦
          let code = w.in-Some.code in
          let is : code_at codes h ≡ Some code = there ∙ w.in-Some.is in
          let lines = w.as_slice-in-Some.result.now in
          let marks' = w.add_callees.new.marks.items in
          let list' = w.add_callees.new.list.items in
          rw (w.marks-is, w.list-is) (reaching-more codes f marks marks' list list' i h now at
          (added-as (flat_map callees_in lines) (callees_of codes h) marks marks' list list'
          (λ g called. subst (λ ls. IsAmong (flat_map callees_in ls) g) (sym w.as_slice-in-Some.ensures)
          (called-lines codes h g code is called))
          (λ g called. lines-called codes h g code is
          (subst (λ ls. IsAmong (flat_map callees_in ls) g) w.as_slice-in-Some.ensures called))
          w.in_ok-add_callees.ensures))
      | in_default w ↦
          let is : code_at codes h ≡ None = there ∙ w.in_default.is in
          rw (w.marks-is, w.list-is) (reaching-more codes f marks marks list list i h now at
          (added-as [] (callees_of codes h) marks marks list list
          (λ g called. absurd (none-called codes h g is called))
          (λ g called. absurd (nothing_in g called))
          (added-none marks list)))
    ]

pub returns-clause-from : goal.returns-clause-from
returns-clause-from c =
    let codes = c.args.codes.now in
    let marks = c.reaching.marks.items in
    let list = c.reaching.list.items in
    let past = c.reaching-test.false in
    let count = c.len-count.ensures in
    reaching-end codes c.args.f marks list c.reaching.i c.reaching.invariant
    (reaching-all codes c.args.f marks list c.reaching.i c.reaching.invariant (omega (arith, past, count)))

pub returns-clause-within : goal.returns-clause-within
returns-clause-within c =
    reaching-below c.args.codes.now c.args.f c.reaching.marks.items c.reaching.list.items c.reaching.i
    c.reaching.invariant
