use Rattle.std.proofs.Common.{◌≡◌, ◌++◌, ◌∷◌, [], ◌-◌}
use Rattle.pungi_parse.specs.item.TypedefScan.{copies}
use Rattle.pungi_parse.proofs.item.typedef_scan.add_copies.Given as goal

abbrev pub invariant-loop : goal.invariant-loop
invariant-loop l =
    l.words.items ++ copies (l.count - l.counter) (l.name ∷ []) ≡ l.initial.words.items ++ copies l.count (l.name ∷ [])
