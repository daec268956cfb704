-- What words stand for.
--   meaning_view m     what a word is where it stands as a value
use Rattle.pungi_types.specs.Names as plain
use Rattle.pungi_names.specs.declared.meaning.Meaning.{Meaning}
use Rattle.pungi_names.specs.declared.meaning.Meaning.TheVariants as meanings

abbrev pub meaning_view : Meaning → plain.Meaning
meaning_view meanings.Function = plain.a_function
meaning_view (meanings.Global k) = plain.a_global k
meaning_view (meanings.Static n) = plain.a_static n
meaning_view meanings.Unknown = plain.unknown
