use Rattle.std.proofs.Common.{arith, refl}
use Rattle.std.proofs.lemmas.Int.{ints}
use Rattle.pungi_diff.proofs.BoundsLemmas.{kept_small, started, held_on, held_lower}
use Rattle.pungi_diff.proofs.FringeLemmas.{fringe_begun}
use Rattle.pungi_diff.proofs.bounds.extend.Goals as goal

pub is_met-requires-clause-y_small : goal.is_met-requires-clause-y_small
is_met-requires-clause-y_small c = kept_small _ _ c.requires.kept _ c.requires.new_in.1

pub returns-then-is_met-clause-extends : goal.returns-then-is_met-clause-extends
returns-then-is_met-clause-extends c =
    (held_on _ _ _ c.requires.kept c.requires.c c.requires.new_in.0 c.requires.new_in.1 c.if-is_met.ensures, refl)

pub begin-requires-clause-y_small : goal.begin-requires-clause-y_small
begin-requires-clause-y_small c = kept_small _ _ c.requires.kept _ c.requires.new_in.1

pub begin-requires-clause-x_small : goal.begin-requires-clause-x_small
begin-requires-clause-x_small c = kept_small _ _ c.requires.kept _ c.requires.new_in.0

pub search-requires-clause-searching : goal.search-requires-clause-searching
search-requires-clause-searching c =
    started _ _ _ _ _ _ c.requires.kept c.requires.c c.requires.new_in.0 c.requires.new_in.1
    (omega arith) (omega arith) c.requires.vias c.begin.ensures.zero c.begin.ensures.first c.if-is_met.ensures
    c.begin.ensures.open_all

pub search-requires-clause-fringe : goal.search-requires-clause-fringe
search-requires-clause-fringe c =
    let wrong = c.if-is_met.ensures in
    let first = c.begin.ensures.first in
    rw c.begin.ensures.fringe (fringe_begun c.args.value.now _ _ _ (omega arith) c.requires.new_in.0
    c.begin.ensures.zero (omega (arith, ints, first, wrong)))

pub returns-then-search-clause-extends : goal.returns-then-search-clause-extends
returns-then-search-clause-extends c = (
  held_lower _ _ _ _ _ c.requires.kept c.requires.c c.requires.new_in.0 c.requires.new_in.1
      c.if-search.ensures.ends (omega arith) (λ u lt. c.apply.ensures u (omega (arith, lt))),
  refl,
)
