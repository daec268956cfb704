use Rattle.std.proofs.Common.{◌≡◌, arith, ◌∙◌, ap, List, ℕ, ◌++◌, ◌∷◌, [], false, take, subst, sym}
use Rattle.pungi.proofs.LeftToRead.{long_left, read_left, read_more, so_far, still_left, whole_left, written_over}
use Rattle.pungi.proofs.LeftToRead.{Left}
use Rattle.pungi.proofs.read.read_opened.Goals as goal

pub returns-clause-ok : goal.returns-clause-ok
returns-clause-ok g c = λ before was.
    long_left (g.F.Shelf.texts c.args.shelf.now) before (g.F.Shelf.opened c.reads.shelf) c.args.name.now
    (g.F.Shelf.rest c.reads.shelf) c.reads.bytes.items c.args.limit c.reads.invariant.left
    (c.reads.invariant.opened before was) (omega arith)

pub returns-then-count-eq0-clause-ok : goal.returns-then-count-eq0-clause-ok
returns-then-count-eq0-clause-ok g c = λ before was.
    whole_left (g.F.Shelf.texts c.args.shelf.now) before (g.F.Shelf.opened c.reads.shelf)
    (g.F.Shelf.opened c.read.new.self) c.args.name.now (g.F.Shelf.rest c.read.new.self) c.reads.bytes.items
    c.read.new.buf c.in-Ok.count c.args.limit
    (still_left (g.F.Shelf.texts c.args.shelf.now) c.args.name.now (g.F.Shelf.rest c.reads.shelf)
    (g.F.Shelf.rest c.read.new.self) c.reads.bytes.items c.read.new.buf c.in-Ok.count c.reads.invariant.left
    c.in-Ok.ensures.bytes.0 (omega arith)) (c.in-Ok.ensures.end (omega arith) (omega arith))
    (c.reads.invariant.opened before was) c.in-Ok.ensures.opened (omega arith) (omega arith) (omega arith)

pub reads-preserved : goal.reads-preserved
reads-preserved g c =
    let read : c.deref.result.now ≡ c.read.new.buf =
    c.deref.ensures.value ∙ written_over c.read.new.buf _ c.reads.piece.len (omega arith) in
    let items : c.extend_from_slice.new.self.items ≡ c.reads.bytes.items ++ take c.in-Ok.count c.read.new.buf =
    c.in_ok-extend_from_slice.ensures.items
    ∙ ap (λ (b : List ℕ). c.reads.bytes.items ++ take c.in-Ok.count b) read in
    record {
      left = subst
          (λ (b : List ℕ). Left (g.F.Shelf.texts c.args.shelf.now) c.args.name.now (g.F.Shelf.rest c.read.new.self) b)
          (sym items)
          (read_left (g.F.Shelf.texts c.args.shelf.now) c.args.name.now (g.F.Shelf.rest c.reads.shelf)
          (g.F.Shelf.rest c.read.new.self) c.reads.bytes.items (take c.in-Ok.count c.read.new.buf)
          c.reads.invariant.left c.in-Ok.ensures.bytes.0);
      opened = λ before was.
          subst (λ (b : List ℕ). g.F.Shelf.opened c.read.new.self ≡ before ++ so_far c.args.name.now b false ∷ [])
          (sym items)
          (read_more before (g.F.Shelf.opened c.reads.shelf) (g.F.Shelf.opened c.read.new.self) c.args.name.now
          c.reads.bytes.items c.read.new.buf c.in-Ok.count (c.reads.invariant.opened before was)
          c.in-Ok.ensures.opened (λ e. omega (arith, e)));
      texts = c.in-Ok.ensures.texts ∙ c.reads.invariant.texts;
      names_opened = c.in-Ok.ensures.names_opened ∙ c.reads.invariant.names_opened;
      room = c.reads.invariant.room;
      steady = c.in-Ok.ensures.steady ∙ c.reads.invariant.steady;
    }
