-- What was read of a text that was opened.
--   IsFront texts t        where the shelf shows its texts, the one of that name begins with the bytes that reads gave
--   IsWhole texts t        the bytes that reads gave are the whole text: the last read found that nothing is left, and
--                          where the shelf shows its texts, they are the one of that name
--   IsRead texts name limit t    the text of this name was read whole, and is within the limit
--   IsLong texts name limit t    of the text of this name more bytes were read than the limit allows
--   IsReading texts before after name limit reading
--                          the text of this name was opened after the texts before, and read whole, with these bytes;
--                          or it is over the limit
use Rattle.std.specs.Prelude.{◌≡◌, ℕ, ◌≤◌, ◌<◌, true, List, [], ◌∷◌, ◌++◌, length, Option, None, Some}
use Rattle.pungi_io.specs.OpenedText.{Opened}
use Rattle.pungi.specs.declared.read.Reading.{Reading}
use Rattle.pungi.specs.declared.read.Reading.TheVariants.{Text, Long}

abbrev pub IsFront : Option (List ℕ → Option (List ℕ)) → Opened → Type 0
IsFront None t = Unit {0}
IsFront (Some texts) t = (behind : List ℕ) × (texts t.name ≡ Some (t.bytes ++ behind))

abbrev pub IsWhole : Option (List ℕ → Option (List ℕ)) → Opened → Type 0
IsWhole None t = t.ended ≡ true
IsWhole (Some texts) t = (t.ended ≡ true) × (texts t.name ≡ Some t.bytes)

pub record IsRead (texts : Option (List ℕ → Option (List ℕ))) (name : List ℕ) (limit : ℕ) (t : Opened) : Type 0 where
  pub named : t.name ≡ name
  pub whole : IsWhole texts t
  pub short : length t.bytes ≤ limit

pub record IsLong (texts : Option (List ℕ → Option (List ℕ))) (name : List ℕ) (limit : ℕ) (t : Opened) : Type 0 where
  pub named : t.name ≡ name
  pub front : IsFront texts t
  pub long : limit < length t.bytes

abbrev pub IsReading : Option (List ℕ → Option (List ℕ)) → List Opened → List Opened → List ℕ → ℕ → Reading → Type 0
IsReading texts before after name limit (Text bytes) =
    (t : Opened) × (after ≡ before ++ t ∷ []) × IsRead texts name limit t × (bytes.items ≡ t.bytes)
IsReading texts before after name limit Long =
    (t : Opened) × (after ≡ before ++ t ∷ []) × IsLong texts name limit t
