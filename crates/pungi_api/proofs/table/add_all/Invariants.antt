use Rattle.std.proofs.Common.{◌≡◌, ◌++◌, map, length, IsTrue}
use Rattle.std.specs.Vec.Iter.{into_iter_items, into_iter_len}
use Rattle.pungi_api.specs.Rows.{named_row, are_new}
use Rattle.pungi_api.proofs.table.add_all.Given as goal

abbrev pub invariant-loop-name : goal.invariant-loop-name
invariant-loop-name l = record {
  can_next : (goal.iterator-loop-name).can_next l.name-iterator;
  is_finite : (goal.iterator-loop-name).is_finite l.name-iterator;
  counted : into_iter_len l.name-iterator ≡ length (into_iter_items l.name-iterator);
  new : IsTrue (are_new l.rows.entries (map named_row (into_iter_items l.name-iterator)));
  so_far : l.rows.entries ++ map named_row (into_iter_items l.name-iterator)
      ≡ l.fn.rows.entries ++ map named_row l.fn.more.items;
}
