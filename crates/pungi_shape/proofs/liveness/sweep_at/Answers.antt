use Rattle.std.proofs.Common.{◌≡◌, ◌<◌, ◌∙◌, ◌⊎◌, inl, inr, [], true, false, ap, get_or, length, sym, arith}
use Rattle.pungi_shape.specs.Live.{follows, in_rows}
use Rattle.pungi_shape.proofs.SweepLemmas.{follows_is, row_is, sweeping_found, sweeping_none}
use Rattle.pungi_shape.proofs.liveness.sweep_at.Goals as goal
use Rattle.pungi_shape.proofs.liveness.sweep_at.Goals.{then-not-is_in_row+then-passes, else-not-is_in_row}
use Rattle.pungi_shape.proofs.liveness.sweep_at.Goals.{else-not-is_in_row-via-then-not-is_in_row+else-passes}
use Rattle.pungi_shape.proofs.liveness.sweep_at.Goals.{else-not-is_in_row-via-else-not-is_in_row}

pub loop-j-preserved : goal.loop-j-preserved
loop-j-preserved c =
    let rows = c.loop-j.rows.items in
    let there : c.args.pc < length rows = omega (arith, c.loop-j.invariant.has.count, c.requires.there) in
    let old_there : c.args.pc < length c.args.rows.now.items = omega (arith, c.requires.rows.count, c.requires.there) in
    let first = row_is c.args.rows.now.items c.args.pc c.index.result.now old_there c.index.ensures in
    let columns = c.requires.rows.columns c.args.pc c.requires.there in
    let now = c.loop-j.invariant.has.columns c.args.pc c.requires.there in
    let count = ap length first in
    let l : c.loop-j.j < length (get_or rows c.args.pc []) =
    omega (arith, c.loop-j-test.true, c.len-count.ensures, count, columns, now) in
    elim c.if-not-is_in_row.branch [
      | then-not-is_in_row+then-passes w ↦
          let p = rw w.as_slice-then-not-is_in_row.ensures.value at w.passes.ensures in
          let f : follows c.args.code.now rows c.args.pc c.loop-j.j ≡ true =
          follows_is c.args.code.now rows c.args.pc c.loop-j.j w.passes.result p ∙ w.if-passes.true in
          let row = row_is rows c.args.pc w.index_mut.result.now there w.index_mut.ensures.value in
          rw (w.rows-is, w.grows-is, w.set.ensures, row) (sweeping_found c.args.code.now c.args.pc c.args.rows.now.items
          rows c.loop-j.j c.loop-j.grows c.loop-j.invariant there l f)
      | else-not-is_in_row w ↦
          let none : (in_rows rows c.args.pc c.loop-j.j ≡ true)
          ⊎ (follows c.args.code.now rows c.args.pc c.loop-j.j ≡ false) =
          elim w.else-not-is_in_row.branch [
            | else-not-is_in_row-via-then-not-is_in_row+else-passes v ↦
                let p = rw v.as_slice-then-not-is_in_row.ensures.value at v.passes.ensures in
                inr (follows_is c.args.code.now rows c.args.pc c.loop-j.j v.passes.result p ∙ v.if-passes.false)
            | else-not-is_in_row-via-else-not-is_in_row v ↦
                inl (sym (rw c.as_slice.ensures.value at c.is_in_row.ensures) ∙ v.if-not-is_in_row.false)
          ] in
          rw (w.rows-is, w.grows-is) (sweeping_none c.args.code.now c.args.pc c.args.rows.now.items rows c.loop-j.j
          c.loop-j.grows c.loop-j.invariant none)
    ]
