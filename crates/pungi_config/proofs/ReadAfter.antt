-- What is read of each name of a table, from the front: what one more name does.
use Rattle.std.proofs.Common.{◌≡◌, ℕ, List, [], ◌∷◌, ◌++◌, map, Result, Ok, Err, refl, sym, ap, ◌∙◌, append_assoc}
use Rattle.std.proofs.Common.{String, subst}
use Rattle.std.proofs.Common.{Global, string_bytes, string_cmp, Less, IsTrue, is_none, Some, None}
use Rattle.std.specs.Prelude.{slice_get}
use Rattle.std.specs.List.{AllByRecursion}
use Rattle.std.specs.List.Sorted.{IsStrictlySortedBy}
use Rattle.std.specs.Map.{keys_of}
use Rattle.std.proofs.lemmas.List.{map_push}
use Rattle.toml.specs.Data.{Data}
use Rattle.toml.specs.View.{members_view, view}
use Rattle.toml.specs.declared.value.Value.{Value}
use Rattle.pungi_base.specs.Names.{with_text, Extends}
use Rattle.pungi_base.specs.declared.names.Name.{Name}
use Rattle.pungi_api.specs.declared.row.Row.{Row}
use Rattle.pungi_api.specs.Rows.{named_row, are_new, row_in}
use Rattle.pungi_config.specs.Configuration.{with_named, read_each, number_of, with_names}
use Rattle.pungi_config.proofs.NewRows.{AreBefore, entry_in, before_on, before_push, none_before, new_push}

abbrev Entry : Type 0
Entry = String Global × Value

-- these, and then the others
abbrev pub after : {A : Type 0} → List (ℕ × A) → Result (List (ℕ × A)) (List ℕ) → Result (List (ℕ × A)) (List ℕ)
after before (Ok more) = Ok (before ++ more)
after before (Err key) = Err key

pub after-none : {A : Type 0} (read : Result (List (ℕ × A)) (List ℕ)) → after [] read ≡ read
after-none (Ok more) = refl
after-none (Err key) = refl

after-one : {A : Type 0} (before : List (ℕ × A)) (n : ℕ) (x : A) (more : Result (List (ℕ × A)) (List ℕ))
    → after before (with_named n (Ok x) more) ≡ after (before ++ (n, x) ∷ []) more
after-one before n x (Err key) = refl
after-one before n x (Ok more) = ap (λ l. Ok l) (sym (append_assoc before ((n, x) ∷ []) more))

pub row_pushed : (rows more : List (Name × Row)) (r : Name × Row) → more ≡ rows ++ r ∷ []
    → map named_row more ≡ map named_row rows ++ (r.0.0, r.1) ∷ []
row_pushed rows more r e = rw e (map_push named_row rows r)

-- a name was read, and what was read of it is added
module _ {A : Type 0} (names new : List (List ℕ)) (entry : Entry) (it rest : List Entry) (n : ℕ) (x : A)
    (before more : List (ℕ × A)) (steps : it ≡ entry ∷ rest) (pushed : more ≡ before ++ (n, x) ∷ []) where
  pub read_on : (read : List (List ℕ) → List ℕ → Data → Result A (List ℕ)) (all : Result (List (ℕ × A)) (List ℕ))
      → Ok x ≡ read names (string_bytes entry.0) (view entry.1) → n ≡ number_of names (string_bytes entry.0)
      → new ≡ with_text names (string_bytes entry.0) → after before (read_each read names (members_view it)) ≡ all
      → after more (read_each read new (members_view rest)) ≡ all
  read_on read all this number is left =
      let here : after before (with_named (number_of names (string_bytes entry.0))
      (read names (string_bytes entry.0) (view entry.1))
      (read_each read (with_text names (string_bytes entry.0)) (members_view rest))) ≡ all
      = ap (λ l. after before (read_each read names (members_view l))) (sym steps) ∙ left in
      rw (
        pushed,
        is,
        ← after-one before n x (read_each read (with_text names (string_bytes entry.0)) (members_view rest)),
        number,
        this,
      ) here

  pub named_on : (all : List (List ℕ)) → new ≡ with_text names (string_bytes entry.0)
      → with_names names (members_view it) ≡ all → with_names new (members_view rest) ≡ all
  named_on all is left = rw is (ap (λ l. with_names names (members_view l)) (sym steps) ∙ left)

  pub sorted_on : IsStrictlySortedBy string_cmp (keys_of it)
      → AllByRecursion (λ k. string_cmp entry.0 k ≡ Less) (keys_of rest) × IsStrictlySortedBy string_cmp (keys_of rest)
  unfolding IsStrictlySortedBy
  sorted_on h = subst (λ l. IsStrictlySortedBy string_cmp (keys_of l)) steps h

  keys_on : AreBefore names (keys_of it) before → AreBefore names (entry.0 ∷ keys_of rest) before
  keys_on h = subst (λ l. AreBefore names (keys_of l) before) steps h

  pub before_next : Extends names new → slice_get new n ≡ Some (string_bytes entry.0)
      → IsStrictlySortedBy string_cmp (keys_of it) → AreBefore names (keys_of it) before
      → AreBefore new (keys_of rest) more
  before_next grown at sorted h =
      rw pushed (before_push new entry.0 (keys_of rest) before n x at (sorted_on sorted).0
      (before_on names new entry.0 (keys_of rest) before grown (keys_on h)))

  pub none_yet : Extends names new → slice_get new n ≡ Some (string_bytes entry.0) → AreBefore names (keys_of it) before
      → entry_in before n ≡ None
  none_yet grown at h = none_before names new entry.0 (keys_of rest) before n grown at (keys_on h)

pub new_next : (table before more : List (ℕ × Row)) (n : ℕ) (row : Row) → more ≡ before ++ (n, row) ∷ []
    → entry_in before n ≡ None → IsTrue (is_none (row_in table n)) → IsTrue (are_new table before)
    → IsTrue (are_new table more)
new_next table before more n row pushed none_before none so_far =
    rw pushed (new_push table before n row so_far none none_before)
