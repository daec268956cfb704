-- Which tokens are a unit, and where other tokens stop.
--   StandsAt types items ts rest    these items stand at the front of the tokens, are allowed under the type words, and
--                                   are no deeper than trees may be
--   IsUnit items ts     the tokens are those of a file of these items, which the grammar allows
--   StopsAt ts pos      items stand in front of the token at this place, under the type words of all tokens, and none
--                       leave less
--   brackets_after n k  how many brackets are open after a token, where `n` are open before it; a closing one without
--                       an opening one changes nothing
--   too_deep n ts       the place of the first token after which more than `most_brackets` are open, where `n` are open
--                       before
--   most_brackets       how many brackets may be open at a time
use Rattle.std.specs.Prelude.{◌≡◌, ℕ, suc, pred, ◌≤◌, Bool, true, false, nat_lt, if◌then◌else◌, List, [], ◌∷◌, length}
use Rattle.std.specs.Prelude.{Option, Some, None, is_some}
use Rattle.pungi_base.specs.declared.kind.Kind.{Kind}
use Rattle.pungi_base.specs.declared.names.Name.{Name}
use Rattle.pungi_base.specs.declared.pos.Pos.{Pos}
use Rattle.pungi_parse.specs.item.UnitReader.{deepest}
use Rattle.pungi_tree.specs.Balanced.{awaited_by, closing}
use Rattle.pungi_tree.specs.Placed.{Placed, kinds, first_place}
use Rattle.pungi_tree.specs.Syntax.{Item}
use Rattle.pungi_tree.specs.TypeWords.{type_words}
use Rattle.pungi_tree.specs.UnitDepth.{items_depth}
use Rattle.pungi_tree.specs.UnitLevels.{items_ok, is_levelled}
use Rattle.pungi_tree.specs.UnitSpells.{SpellsItems}

pub record StandsAt (types : List Name) (items : List Item) (ts rest : List Placed) : Type 0 where
  pub spells : SpellsItems items ts rest
  pub allowed : items_ok types items ≡ true
  pub shallow : items_depth items ≤ deepest

pub record IsUnit (items : List Item) (ts : List Placed) : Type 0 where
  pub spells : SpellsItems items ts []
  pub levelled : is_levelled items ≡ true
  pub shallow : items_depth items ≤ deepest

pub record StopsAt (ts : List Placed) (pos : Pos) : Type 0 where
  pub front : List Item
  pub rest : List Placed
  pub stands : StandsAt (type_words (kinds ts)) front ts rest
  pub place : first_place rest ≡ Some pos
  pub longest : (items : List Item) (other : List Placed) → StandsAt (type_words (kinds ts)) items ts other
      → length rest ≤ length other

abbrev pub most_brackets : ℕ
most_brackets = 64

abbrev pub brackets_after : ℕ → Kind → ℕ
brackets_after n k = if is_some (awaited_by k) then suc n else (if is_some (closing k) then pred n else n)

abbrev pub too_deep : ℕ → List Placed → Option Pos
too_deep n [] = None
too_deep n (t ∷ ts) =
    if nat_lt most_brackets (brackets_after n t.0) then Some t.1 else too_deep (brackets_after n t.0) ts
