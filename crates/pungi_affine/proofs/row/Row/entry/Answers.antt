use Rattle.std.proofs.Common.{◌∙◌, ◌-◌, ◌<◌, ◌≤◌, pos, length, sym, arith, rules}
use Rattle.std.proofs.lemmas.List.{get_or_past}
use Rattle.std.proofs.lemmas.Int.{to_z-of_z}
use mir.Syntax.{w64}
use mir.Val.{SFits}
use Rattle.pungi_affine.proofs.Rows.{any_default, entry_before, entry_from, entry_is}
use Rattle.pungi_affine.proofs.row.Row.entry.Goals.{then-i-self-via-then-i-self, then-i-self-via-else-i-self+then-i-self-2}
use Rattle.pungi_affine.proofs.row.Row.entry.Goals as goal

pub returns-then-i-self : goal.returns-then-i-self
returns-then-i-self c =
    let row = c.args.self.now in
    let e = entry_is row c.args.i c.requires in
    elim c.then-i-self.branch [
      | then-i-self-via-then-i-self w ↦ sym (e ∙ entry_before row.start row.entries.items c.args.i w.if-i-self.true)
      | then-i-self-via-else-i-self+then-i-self-2 w ↦ (
          let n = row.entries.ok.0 in
          let l = w.len.ensures in
          let t = w.if-i-self-2.true in
          let past : length row.entries.items ≤ c.args.i - row.start = omega (arith, n, l, t) in
          sym (e ∙ entry_from row.start row.entries.items c.args.i w.if-i-self.false
          ∙ get_or_past row.entries.items (c.args.i - row.start) (pos 0) past))
    ]

pub returns : goal.returns
returns c =
    let row = c.args.self.now in
    let n = row.entries.ok.0 in
    let l = c.len.ensures in
    let t = c.if-i-self-2.false in
    let lt : c.args.i - row.start < length row.entries.items = omega (arith, n, l, t) in
    let fits : SFits w64 c.index.result.now = search rules in
    to_z-of_z w64 c.index.result.now fits ∙ c.index.ensures
    ∙ any_default row.entries.items (c.args.i - row.start) c.index.result.now (pos 0) lt ∙ sym (entry_from row.start row.entries.items c.args.i c.if-i-self.false) ∙ sym (entry_is row c.args.i c.requires)
