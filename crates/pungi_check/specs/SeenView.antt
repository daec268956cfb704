-- The words that the program keeps, as `SeenNames` knows them.
--   words_of s      those of names, by their use
--   kept_tags s     those of structs and unions
use Rattle.pungi_check.specs.SeenNames.{SeenWords, SeenTags}
use Rattle.pungi_check.specs.declared.seen_uses.KeptUses.{KeptUses}
use Rattle.pungi_check.specs.declared.seen_tags.KeptTags.{KeptTags}

abbrev pub words_of : KeptUses → SeenWords
words_of s = record { functions = s.functions.keys; variables = s.variables.keys; tables = s.tables.keys }

abbrev pub kept_tags : KeptTags → SeenTags
kept_tags s = record { structs = s.structs.keys; unions = s.unions.keys }
