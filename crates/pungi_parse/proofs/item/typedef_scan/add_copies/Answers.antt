use Rattle.std.proofs.Common.{◌≡◌, ◌++◌, ◌∷◌, [], ◌-◌, ◌+◌, sym, ap, ◌∙◌, append_assoc, arith}
use Rattle.std.proofs.lemmas.List.{append-nil}
use Rattle.pungi_parse.specs.item.TypedefScan.{copies}
use Rattle.pungi_parse.proofs.item.TypedefScan.{copies_none, copies_turn}
use Rattle.pungi_parse.proofs.item.typedef_scan.add_copies.Goals as goal

pub loop-preserved : goal.loop-preserved
loop-preserved c =
    let rest = copies (c.args.count - (c.loop.counter + 1)) (c.in-Some.name ∷ []) in
    let turn : copies (c.args.count - c.loop.counter) (c.in-Some.name ∷ [])
    ≡ (c.in-Some.name ∷ []) ++ rest = copies_turn c.args.count c.loop.counter (c.in-Some.name ∷ []) (omega arith)
    in
    ap (λ ws. ws ++ rest) c.in_ok-push.ensures.items ∙ append_assoc c.loop.words.items (c.in-Some.name ∷ []) rest
    ∙ ap (λ zs. c.loop.words.items ++ zs) (sym turn) ∙ c.loop.invariant

pub returns-in_default : goal.returns-in_default
returns-in_default c = rw (c.in_default.is, copies_none c.args.count) (sym (append-nil c.args.words.now.items))
