-- Why tokens are not expanded.
--   is_want_of_memory fault   they were refused for want of memory
use Rattle.std.specs.Prelude.{Bool, true, false}
use Rattle.pungi_lex.specs.declared.macro_fault.MacroFault.{MacroFault}
use Rattle.pungi_lex.specs.declared.macro_fault.MacroFault.TheVariants as fault

abbrev pub is_want_of_memory : MacroFault → Bool
is_want_of_memory fault.Memory = true
is_want_of_memory (fault.Directive at) = false
is_want_of_memory (fault.FunctionMacro at) = false
is_want_of_memory (fault.Redefined at) = false
is_want_of_memory (fault.TooManyTokens at) = false
