-- The cases of a switch that were seen, as the definitions know them.
--   cases_of seen    their values, and whether a default is among them
use Rattle.pungi_types.specs.Labels.{Cases}
use Rattle.pungi_scope.specs.declared.cases.SeenCases.{SeenCases}

abbrev pub cases_of : SeenCases → Cases
cases_of seen = record { values = seen.values.keys; has_default = seen.has_default }
