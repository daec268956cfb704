-- A text that was opened, and what reads gave of it.
--   Opened                  its name, the bytes that reads gave of it, in their order, and whether the last read found
--                           that nothing is left
--   just_opened name        no read came yet
--   with_read count buf t   after a read that gave so many bytes, the first of a buffer: none where the buffer has room
--                           means that nothing is left
--   on_last f ts            the last of these changed so; where there is none, nothing changes
use Rattle.std.specs.Prelude.{ℕ, Bool, false, ◌&&◌, ◌==◌, nat_lt, List, [], ◌∷◌, ◌++◌, length, take}

pub record Opened : Type 0 where
  pub name : List ℕ
  pub bytes : List ℕ
  pub ended : Bool

abbrev pub just_opened : List ℕ → Opened
just_opened name = record { name = name; bytes = []; ended = false }

abbrev pub with_read : ℕ → List ℕ → Opened → Opened
with_read count buf t = record {
  name = t.name;
  bytes = t.bytes ++ take count buf;
  ended = count == 0 && nat_lt 0 (length buf);
}

abbrev pub on_last : (Opened → Opened) → List Opened → List Opened
on_last f [] = []
on_last f (t ∷ []) = f t ∷ []
on_last f (t ∷ u ∷ ts) = t ∷ on_last f (u ∷ ts)
