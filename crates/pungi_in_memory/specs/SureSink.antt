-- A sink that takes every byte, and keeps those that its room has.
--   KeptState        its room, the bytes that it keeps, and all those that it took
--   kept_wrote s p   after a write of a piece
use Rattle.std.specs.Prelude.{ℕ, ◌-◌, List, ◌++◌, length, take}

pub record KeptState : Type 0 where
  pub room : ℕ
  pub bytes : List ℕ
  pub bytes_written : List ℕ

abbrev pub kept_wrote : KeptState → List ℕ → KeptState
kept_wrote s piece =
    record s { bytes = s.bytes ++ take (s.room - length s.bytes) piece; bytes_written = s.bytes_written ++ piece }
