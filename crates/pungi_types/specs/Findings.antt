-- Findings: a rule and the place where it holds. The one that is reported is the first in the text, and at one place
-- that of the lowest rule.
--   Findings            all that is found in a part of the text: nothing, one finding, or what is found in two parts
--                       (`and`)
--   when holds p n      rule n holds at p, where the condition does
--   when_some holds p n    the same, where there is a place
--   is_before a b       a finding comes before another
--   earlier first f     the earlier of one that may be there and a new one
--   least_from first fs the earliest of one that may be there and of these
--   least fs            the finding that is reported
use Rattle.std.specs.Prelude.{ℕ, ◌==◌, nat_lt, Bool, true, false, ◌&&◌, ◌||◌, Option, Some, None, if◌then◌else◌}
use Rattle.pungi_base.specs.declared.pos.Pos.{Pos}
use Rattle.pungi_types.specs.declared.finding.Finding.{Finding}

infixr 60 ◌and◌
-- all that is found in a part of the text: nothing, one finding, or what is found in two parts
pub data Findings : Type 0 where
  nothing_found : Findings
  one_found : Finding → Findings
  ◌and◌ : Findings → Findings → Findings

-- a rule holds at this place, where the condition does
abbrev pub when : Bool → Pos → ℕ → Findings
when false p n = nothing_found
when true p n = one_found (record { pos = p; rule = record { 0 = n } })

abbrev pub when_some : Bool → Option Pos → ℕ → Findings
when_some holds None n = nothing_found
when_some holds (Some p) n = when holds p n

abbrev pub is_before : Finding → Finding → Bool
is_before a b =
    nat_lt a.pos.line b.pos.line || (a.pos.line == b.pos.line
    && (nat_lt a.pos.col b.pos.col || (a.pos.col == b.pos.col && nat_lt a.rule.0 b.rule.0)))

-- the earlier of one that may be there and a new one
abbrev pub earlier : Option Finding → Finding → Option Finding
earlier None b = Some b
earlier (Some a) b = (if is_before b a then Some b else Some a)

abbrev pub least_from : Option Finding → Findings → Option Finding
least_from first nothing_found = first
least_from first (one_found f) = earlier first f
least_from first (a and b) = least_from (least_from first a) b

-- the finding that is reported
abbrev pub least : Findings → Option Finding
least fs = least_from None fs
