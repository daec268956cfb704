-- What a call's arguments are to be.
--   wants_view w     the list of them
--   call_wants_view w    the same, where it is lent or was made
use Rattle.std.specs.Prelude.{List, ◌++◌, replicate}
use Rattle.std.specs.Option.{option_to_list}
use Rattle.pungi_types.specs.declared.wants.Want.{Want}
use Rattle.pungi_types.specs.declared.wants.Wants.{Wants}
use Rattle.pungi_types.specs.declared.call_wants.CallWants.{CallWants}
use Rattle.pungi_types.specs.declared.call_wants.CallWants.TheVariants as calls

abbrev pub wants_view : Wants → List Want
wants_view w = option_to_list w.first ++ (w.listed.now ++ (replicate w.more w.further ++ option_to_list w.last))

abbrev pub call_wants_view : CallWants → List Want
call_wants_view (calls.Lent w) = wants_view w
call_wants_view (calls.Made ws) = ws
