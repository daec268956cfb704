-- The world of a run: an account for each object, and the slots touched so far.
--   fresh_account         the account of an object whose count hasn't changed
--   account_of w object   the account of an object
--   world_at entry        the world at the start of a run
use Rattle.std.specs.Prelude.{ℕ, pos, false, [], get_or, replicate}
use Rattle.pungi_base.specs.declared.entry.Entry.{Entry}
use Rattle.pungi_world.specs.declared.account.Account.{Account}
use Rattle.pungi_world.specs.declared.world.World.{World}

abbrev pub fresh_account : Account
fresh_account = record { change = pos 0; handed = pos 0; made = false }

abbrev pub account_of : World → ℕ → Account
account_of w object = get_or w.accounts object fresh_account

abbrev pub world_at : Entry → World
world_at entry = record { accounts = replicate entry.objects fresh_account; slots = [] }
