use Rattle.std.proofs.Common.{◌≡◌, drop}
use Rattle.pungi_in_memory.specs.MemShelf.{text_named, pairs_of}
use Rattle.pungi_in_memory.proofs.mem_shelf.place_of.Given as goal

-- the first texts have other names
abbrev pub invariant-loop-i : goal.invariant-loop-i
invariant-loop-i l = text_named (pairs_of (drop l.i l.texts)) l.name ≡ text_named (pairs_of l.texts) l.name
