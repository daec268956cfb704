-- What is called, as the program keeps it.
--   called_view c     what stands before the parenthesis, with what it takes and gives
use Rattle.pungi_names.specs.CallsView.{signature_view}
use Rattle.pungi_names.specs.SeenCalls.{Seen, value_called, defined_called, row_called, nothing_called}
use Rattle.pungi_names.specs.declared.called.Called.{Called}
use Rattle.pungi_names.specs.declared.called.Called.TheVariants as called

abbrev pub called_view : Called → Seen
called_view called.Value = value_called
called_view (called.Defined s) = defined_called (signature_view s.now)
called_view (called.Row r ws) = row_called r.now ws.now
called_view called.Nothing = nothing_called
