use Rattle.std.proofs.Common.{◌≡◌, ◌<◌, ◌+◌, ◌-◌, vec_len, List, [], ◌∷◌, ◌++◌, false}
use Rattle.pungi_io.specs.OpenedText.{Opened, just_opened}
use Rattle.pungi.proofs.LeftToRead.{Left, so_far}
use Rattle.pungi.proofs.read.read_opened.Given as goal

abbrev pub invariant-reads : goal.invariant-reads
invariant-reads g l = record {
  left : Left (g.F.Shelf.texts l.fn.shelf) l.name (g.F.Shelf.rest l.shelf) l.bytes.items;
  opened : (before : List Opened) → g.F.Shelf.opened l.fn.shelf ≡ before ++ just_opened l.name ∷ []
      → g.F.Shelf.opened l.shelf ≡ before ++ so_far l.name l.bytes.items false ∷ [];
  texts : g.F.Shelf.texts l.shelf ≡ g.F.Shelf.texts l.fn.shelf;
  names_opened : g.F.Shelf.names_opened l.shelf ≡ g.F.Shelf.names_opened l.fn.shelf;
  room : 0 < vec_len l.piece;
  steady : g.F.Shelf.faults l.shelf ≡ g.F.Shelf.faults l.fn.shelf;
}

abbrev pub decreases-reads : goal.decreases-reads
decreases-reads g l = l.limit + 1 - vec_len l.bytes
