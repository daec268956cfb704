-- What is parsed, from what the loop over the items keeps.
use Rattle.std.proofs.Common.{◌≡◌, ℕ, ◌≤◌, true, List, [], ◌∷◌, length, Option, Some, None, Result, Ok, Err}
use Rattle.std.proofs.Common.{MatchResult, refl, sym, subst, arith}
use Rattle.std.specs.Prelude.{IfOk}
use Rattle.pungi_base.specs.declared.pos.Pos.{Pos}
use Rattle.pungi_base.specs.declared.names.Name.{Name}
use Rattle.pungi_base.specs.declared.token.Token.{Token}
use Rattle.pungi_parse.specs.Faults.{HasFault}
use Rattle.pungi_parse.specs.item.UnitReader.{deepest, item_at}
use Rattle.pungi_parse.specs.Units.{IsUnit, StopsAt}
use Rattle.pungi_parse.specs.declared.fault.ParseFault.{ParseFault}
use Rattle.pungi_parse.specs.declared.fault.ParseFault.TheVariants as faults
use Rattle.pungi_parse.proofs.trees.StmtKinds.{unit_kinds}
use Rattle.pungi_parse.proofs.item.UnitLoop.{UnitTo, unit_ends, unit_stops, one_unit, no_unit}
use Rattle.pungi_parse.proofs.twins.UnitTwins.{no_tree}
use Rattle.pungi_tree.specs.Placed.{Placed, placed, kinds, first_place}
use Rattle.pungi_tree.specs.Syntax.{Item}
use Rattle.pungi_tree.specs.TypeWords.{type_words}
use Rattle.pungi_tree.specs.UnitDepth.{items_depth}
use Rattle.pungi_tree.specs.UnitFlat.{items_flat}
use Rattle.pungi_tree.specs.UnitLevels.{is_levelled}
use Rattle.pungi_tree.specs.UnitView.{unit_view}
use Rattle.pungi_tree.specs.declared.unit.Unit.{Unit as File}

module _ (ts : List Placed) where
  abbrev pub Parsed : Result File ParseFault → Type 0
  Parsed r = MatchResult r (λ u. IsUnit (unit_view u) ts) (HasFault ts)

  pub parsed_unit : (r : Result File ParseFault) → Parsed r → IfOk r (λ u. IsUnit (unit_view u) ts)
  parsed_unit (Ok u) h = h
  parsed_unit (Err e) h = tt

  pub parsed_only : (r : Result File ParseFault) → Parsed r → (items : List Item) → IsUnit items ts
      → MatchResult r (λ u. unit_view u ≡ items) (λ e. e ≡ faults.Memory)
  parsed_only (Ok u) h items v = one_unit ts (unit_view u) items h v
  parsed_only (Err faults.Memory) h items v = refl
  parsed_only (Err (faults.Deep p)) h items v = absurd h
  parsed_only (Err (faults.NotAUnit p)) h items v = absurd (no_unit ts p h items v)

  pub parsed_stops : (r : Result File ParseFault) → Parsed r → (p : Pos) → r ≡ Err (faults.NotAUnit p) → StopsAt ts p
  parsed_stops r h p e = subst Parsed e h

  pub parsed_no_tree : (r : Result File ParseFault) → Parsed r → (p : Pos) → r ≡ Err (faults.NotAUnit p)
      → (items : List Item) → items_flat items ≡ kinds ts → is_levelled items ≡ true → items_depth items ≤ deepest → ⊥
  parsed_no_tree r h p e items flat ok deep = no_tree ts p (parsed_stops r h p e) items flat ok deep

  pub parsed_not_deep : (r : Result File ParseFault) → Parsed r → (p : Pos) → r ≡ Err (faults.Deep p) → ⊥
  parsed_not_deep r h p e = subst Parsed e h

  pub parsed_flat : (r : Result File ParseFault) → Parsed r → IfOk r (λ u. items_flat (unit_view u) ≡ kinds ts)
  parsed_flat (Ok u) h = unit_kinds (unit_view u) ts h.spells
  parsed_flat (Err e) h = tt

  pub loop_ends : (types : List Name) (front : List Item) (rest : List Placed) → types ≡ type_words (kinds ts)
      → UnitTo types ts front rest → rest ≡ [] → IsUnit front ts
  loop_ends types front rest own to e = unit_ends ts front (subst (λ z. UnitTo z ts front []) own
      (subst (λ z. UnitTo types ts front z) e to))

  pub loop_stops : (types : List Name) (n : ℕ) (front : List Item) (rest : List Placed) (p : Pos)
      → types ≡ type_words (kinds ts) → length ts ≤ n
      → UnitTo types ts front rest → item_at types n rest ≡ None → first_place rest ≡ Some p → StopsAt ts p
  loop_stops types n front rest p own h to none place =
      unit_stops ts n front rest p h (subst (λ z. UnitTo z ts front rest) own to)
      (subst (λ z. item_at z n rest ≡ None) own none) place

pub nothing_placed : (ts : List Token) → length ts ≡ 0 → placed ts ≡ []
nothing_placed [] h = refl
nothing_placed (t ∷ ts) h = absurd (omega arith)
