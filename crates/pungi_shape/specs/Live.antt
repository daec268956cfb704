-- What is stored of the liveness of temporaries.
--   in_rows rows pc j       whether the temporary after j others is live before an instruction, as far as it is known
--   IsLiveness code live    the rows say which temporaries some path from an instruction reads before it writes them
--   HasRows code rows       one row an instruction, with one mark a temporary
--   IsLive code pc j        some path reads it before it writes it
--   follows code rows pc j  it is read before it is written there, or is not written and known to be live after it
--   IsSweptAt code pc old after grows    all temporaries before an instruction were looked at once: what was live stays
--                           so, what comes is live, and what follows from what was there is there. Nothing grows where
--                           nothing changes
--   IsSwept code old after grows    so it is with all instructions
use Rattle.std.specs.Prelude.{◌≡◌, ℕ, ◌+◌, ◌-◌, ◌<◌, Bool, true, false, List, [], length, get_or}
use Rattle.pungi_code.specs.declared.code.Code.{Code}
use Rattle.pungi_shape.specs.declared.liveness.Liveness.{Liveness}
use Rattle.pungi_shape.specs.Liveness.{instr_at, passes, reads_first}

abbrev pub in_rows : List (List Bool) → ℕ → ℕ → Bool
in_rows rows pc j = get_or (get_or rows pc []) j false

pub record HasRows (code : Code) (rows : List (List Bool)) : Type 0 where
  pub count : length rows ≡ length code.instrs
  pub columns : (pc : ℕ) → pc < length code.instrs
      → length (get_or rows pc []) ≡ length code.vars - code.locals

pub record IsLiveness (code : Code) (live : Liveness) : Type 0 where
  pub has : HasRows code live.rows
  pub lives : (pc j : ℕ) → pc < length code.instrs → code.locals + j < length code.vars
      → in_rows live.rows pc j ≡ reads_first code (length code.instrs) (code.locals + j) pc

abbrev pub IsLive : Code → ℕ → ℕ → Type 0
IsLive code pc j = (n : ℕ) × (reads_first code n (code.locals + j) pc ≡ true)

abbrev pub follows : Code → List (List Bool) → ℕ → ℕ → Bool
follows code rows pc j = passes (λ q. in_rows rows q j) (code.locals + j) pc (instr_at code pc) 0

pub record IsSweptAt (code : Code) (pc : ℕ) (old after : List (List Bool)) (grows : Bool) : Type 0 where
  pub kept : (q j : ℕ) → in_rows old q j ≡ true → in_rows after q j ≡ true
  pub live : ((q j : ℕ) → in_rows old q j ≡ true → IsLive code q j) → (q j : ℕ) → in_rows after q j ≡ true
      → IsLive code q j
  pub found : (j : ℕ) → code.locals + j < length code.vars → follows code old pc j ≡ true → in_rows after pc j ≡ true
  pub same : grows ≡ false → after ≡ old

pub record IsSwept (code : Code) (old after : List (List Bool)) (grows : Bool) : Type 0 where
  pub kept : (q j : ℕ) → in_rows old q j ≡ true → in_rows after q j ≡ true
  pub live : ((q j : ℕ) → in_rows old q j ≡ true → IsLive code q j) → (q j : ℕ) → in_rows after q j ≡ true
      → IsLive code q j
  pub found : (pc j : ℕ) → pc < length code.instrs → code.locals + j < length code.vars
      → follows code old pc j ≡ true → in_rows after pc j ≡ true
  pub same : grows ≡ false → after ≡ old
