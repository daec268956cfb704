use Rattle.std.proofs.Common.{◌+◌, ◌<◌, ◌∷◌, length, map, drop, get_or, sym, ap, ◌∙◌, arith}
use Rattle.std.proofs.lemmas.List.{at_drop_more}
use Rattle.pungi_resolved.specs.ActionView.{action_view}
use Rattle.pungi_meaning.specs.Stmts.{is_default}
use Rattle.pungi_emit.specs.stmt.Cases.{default_at}
use Rattle.pungi_emit.proofs.code.Lists.{next_one}
use Rattle.pungi_emit.proofs.stmt.Cases.{not_default}
use Rattle.pungi_emit.proofs.stmt.switch.default_or.Goals as goal

pub loop-i-preserved : goal.loop-i-preserved
loop-i-preserved c =
    let xs = c.args.list.now in
    let ns = c.args.starts.now in
    let i = c.loop-i.i in
    let s : i < length xs = omega arith in
    let r : i < length ns = omega arith in
    let item = c.index-list-i.result in
    let d = next_one xs i item s c.index-list-i.is in
    let e = at_drop_more (λ l. l) ns i 0 r in
    let left = map action_view (drop (i + 1) xs) in
    let h = not_default (is_default (action_view item)) (get_or ns i 0) (default_at left (drop (i + 1) ns))
    (sym c.is_default.ensures ∙ c.if-is_default.false) in
    sym h ∙ sym (ap (λ ys. default_at (map action_view ys) (get_or ns i 0 ∷ drop (i + 1) ns)) d)
    ∙ sym (ap (λ ms. default_at (map action_view (drop i xs)) ms) e) ∙ c.loop-i.invariant
