use Rattle.std.proofs.Common.{◌≡◌, sym, ◌∙◌, drop, []}
use Rattle.std.proofs.lemmas.List.{drop_all}
use Rattle.pungi_parse.proofs.item.TypedefScan.{scan_ends}
use Rattle.pungi_parse.proofs.item.typedef_scan.scan.Goals as goal

pub returns-clause-words : goal.returns-clause-words
returns-clause-words c =
    let s = c.loop-token.scan in
    let none : drop c.loop-token.token-index c.args.tokens.now
    ≡ [] = drop_all c.loop-token.token-index c.args.tokens.now c.loop-token-test.false in
    sym (scan_ends s.words.items s.braces s.last s.older s.newer) ∙ (rw none at c.loop-token.invariant.words)
