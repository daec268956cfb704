-- A sink in memory, as its callers see it.
--   SinkState          its room, how many bytes a call takes at most, the calls that fail, how many calls and faults
--                      came, and the bytes
--   write_fails s p    a write fails at its call, or where the piece has bytes and no room is left
--   write_count s p    how many bytes a write takes that doesn't fail
--   sink_failed s      after a write that failed
--   sink_wrote s b     after a write that took these bytes
use Rattle.std.specs.Prelude.{ℕ, ◌-◌, ◌==◌, min, Bool, ◌&&◌, ◌||◌, List, ◌++◌, length, nat_lt}
use Rattle.pungi_in_memory.specs.Calls.{next_call, is_failing}

pub record SinkState : Type 0 where
  pub room : ℕ
  pub step : ℕ
  pub failing : List ℕ
  pub calls : ℕ
  pub faults : ℕ
  pub bytes : List ℕ

abbrev pub write_fails : SinkState → List ℕ → Bool
write_fails s piece = is_failing s.failing s.calls || (nat_lt 0 (length piece) && (s.room - length s.bytes == 0))

abbrev pub write_count : SinkState → List ℕ → ℕ
write_count s piece = min (length piece) (min s.step (s.room - length s.bytes))

abbrev pub sink_failed : SinkState → SinkState
sink_failed s = record s { calls = next_call s.calls; faults = next_call s.faults }

abbrev pub sink_wrote : SinkState → List ℕ → SinkState
sink_wrote s bytes = record s { calls = next_call s.calls; bytes = s.bytes ++ bytes }
