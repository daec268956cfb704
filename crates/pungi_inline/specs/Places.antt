-- The places of the parts of a code, as they are kept: where each begins, and where the last one ends.
--   place_in starts l     where the l-th part begins; for all that come after the last, where that ends
--   site_view s           the call that is copied, as the definitions have it
use Rattle.std.specs.Prelude.{ℕ, ◌-◌, min, List, length, get_or}
use Rattle.pungi_inline.specs.declared.sites.CallSite.{CallSite}
use Rattle.pungi_inline.specs.Sites.{Site}

abbrev pub place_in : List ℕ → ℕ → ℕ
place_in starts l = get_or starts (min l (length starts - 1)) 0

abbrev pub site_view : CallSite → Site
site_view s = record { into = s.into; args = s.args.now; code = s.code.now }
