-- A file that is opened and read.
--   unread_text name    the line that a file can't be read
--   IsLoaded first last name limit loaded
--                       the file of this name was opened and read whole, with these bytes; or it is over the limit; or
--                       a call failed, with the answer that goes with that
use Rattle.std.specs.Prelude.{◌≡◌, ℕ, List, [], ◌∷◌, ◌++◌, codes}
use Rattle.pungi_io.specs.OpenedText.{Opened}
use Rattle.pungi_io.specs.Shelf.{Rose}
use Rattle.pungi_base.specs.Witness.{line_end}
use Rattle.pungi.specs.Read.{IsLong, IsRead}
use Rattle.pungi.specs.Shelves.{Stand}
use Rattle.pungi.specs.Status.{file_unread}
use Rattle.pungi.specs.declared.load.Loaded.{Loaded}
use Rattle.pungi.specs.declared.load.Loaded.TheVariants.{Text, Long, Unread}

abbrev pub unread_text : List ℕ → List ℕ
unread_text name = codes "cannot read " ++ name ++ line_end

abbrev pub IsLoaded : Stand → Stand → List ℕ → ℕ → Loaded → Type 0
IsLoaded first last name limit (Text bytes) =
    (t : Opened) × (last.opened ≡ first.opened ++ t ∷ []) × IsRead first.texts name limit t × (bytes.items ≡ t.bytes)
    × (last.faults ≡ first.faults)
IsLoaded first last name limit Long =
    (t : Opened) × (last.opened ≡ first.opened ++ t ∷ []) × IsLong first.texts name limit t
    × (last.faults ≡ first.faults)
IsLoaded first last name limit (Unread a) =
    (a.status ≡ file_unread) × (a.text.items ≡ unread_text name) × Rose first.faults last.faults
