-- Where a shelf stands at a moment of a call.
--   Stand                  its texts by name, where they are known; the texts that were opened, in order, each with
--                          what reads gave of it; the names that `open` was given; its count of faults
--   stand_of texts opened names faults s    where this shelf stands, by these members of its kind
use Rattle.std.specs.Prelude.{ℕ, List, Option}
use Rattle.pungi_io.specs.OpenedText.{Opened}

pub record Stand : Type 0 where
  pub texts : Option (List ℕ → Option (List ℕ))
  pub opened : List Opened
  pub names_opened : List (List ℕ)
  pub faults : ℕ

abbrev pub stand_of : {S : Type 0} → (S → Option (List ℕ → Option (List ℕ))) → (S → List Opened)
    → (S → List (List ℕ)) → (S → ℕ) → S → Stand
stand_of texts opened names_opened faults s = record {
  texts = texts s;
  opened = opened s;
  names_opened = names_opened s;
  faults = faults s;
}
