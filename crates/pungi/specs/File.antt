-- What is answered on a file that is opened.
--   IsGiven before name after     a shelf was given this name, or nothing
--   IsFileAnswer api name first last status answer
--                                 the report on the file of this name; or that a call failed; or that the file is
--                                 refused
--   IsConfigAnswer text name first last status answer
--                                 the same over the API of a configuration with this text; or that it is refused, where
--                                 the shelf stands as it stood
use Rattle.std.specs.Prelude.{◌≡◌, ◌⊎◌, ℕ, ◌≤◌, List, [], ◌∷◌, ◌++◌}
use Rattle.pungi_io.specs.OpenedText.{Opened}
use Rattle.pungi_io.specs.Shelf.{Rose}
use Rattle.pungi.specs.Answer.{IsFileRefusal}
use Rattle.pungi.specs.Api.{Api, IsConfigured, IsWrong, wrong_text}
use Rattle.pungi.specs.Examine.{IsReport}
use Rattle.pungi.specs.Limits.{file_limit}
use Rattle.pungi.specs.Load.{unread_text}
use Rattle.pungi.specs.Read.{IsRead}
use Rattle.pungi.specs.Shelves.{Stand}
use Rattle.pungi.specs.Status.{some_open, file_unread, file_refused, config_refused}

abbrev pub IsGiven : List (List ℕ) → List ℕ → List (List ℕ) → Type 0
IsGiven before name after = (after ≡ before) ⊎ (after ≡ before ++ name ∷ [])

abbrev pub IsFileAnswer : Api → List ℕ → Stand → Stand → ℕ → List ℕ → Type 0
IsFileAnswer api name first last status answer =
    ((status ≤ some_open) × (last.faults ≡ first.faults) × ((t : Opened) × (last.opened ≡ first.opened ++ t ∷ [])
    × IsRead first.texts name file_limit t × IsReport api t.bytes status answer))
    ⊎ ((status ≡ file_unread) × Rose first.faults last.faults × (answer ≡ unread_text name))
    ⊎ ((status ≡ file_refused) × (last.faults ≡ first.faults) × ((t : Opened)
    × (last.opened ≡ first.opened ++ t ∷ []) × IsFileRefusal first.texts api name t answer))

abbrev pub IsConfigAnswer : List ℕ → List ℕ → Stand → Stand → ℕ → List ℕ → Type 0
IsConfigAnswer text name first last status answer =
    ((status ≡ config_refused) × (last ≡ first) × ((reason : List ℕ) × IsWrong text reason
    × (answer ≡ wrong_text reason)))
    ⊎ ((api : Api) × IsConfigured text api × (last.names_opened ≡ first.names_opened ++ name ∷ [])
    × IsFileAnswer api name first last status answer)
