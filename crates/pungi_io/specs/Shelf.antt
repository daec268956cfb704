-- What calls on a shelf or a sink do.
--   Rose before now                  a count of faults is one more than before, or stands at the end of its type
--   Grew before after result piece   what was passed on so far grew by the first bytes of a piece at `Ok`, as many as
--                                    the call returned, and by nothing at `Err`
--   Opens texts name rest            what is left to read is the text of that name; where no texts are known, nothing
--                                    is known of it
--   Reads before after result buf    of the texts that were opened, the last has what a read gave at `Ok`, and at `Err`
--                                    all stand as before
use Rattle.std.specs.Prelude.{◌≡◌, ℕ, ◌+◌, ◌-◌, ◌^◌, min, List, ◌++◌, take, Option, None, Some, IsSome, Result}
use Rattle.std.specs.Prelude.{MatchResult}
use Rattle.pungi_io.specs.OpenedText.{Opened, on_last, with_read}

abbrev pub Rose : ℕ → ℕ → Type 0
Rose before now = now ≡ min (before + 1) (2 ^ 64 - 1)

abbrev pub Grew : {E : Type 0} → List ℕ → List ℕ → Result ℕ E → List ℕ → Type 0
Grew before after result piece = MatchResult result (λ count. after ≡ before ++ take count piece) (λ _. after ≡ before)

abbrev pub Opens : Option (List ℕ → Option (List ℕ)) → List ℕ → Option (List ℕ) → Type 0
Opens None name rest = Unit {0}
Opens (Some texts) name rest = IsSome rest × (texts name ≡ rest)

abbrev pub Reads : {E : Type 0} → List Opened → List Opened → Result ℕ E → List ℕ → Type 0
Reads before after result buf =
    MatchResult result (λ count. after ≡ on_last (with_read count buf) before) (λ _. after ≡ before)
