-- Duplicate names by the words that were seen so far, kept by what they are the names of.
--   SeenWords, no_words          words of functions, variables and tables; none yet
--   used_in s w k                a word was seen as the name of something else than this
--   with_use s w k               a word more
--   use_faults_by s us           a name for two of function, variable and table
--   SeenTags, no_tags            tags of structs and of unions; none yet
--   tags_of s k, with_tag s k w, with_some_tag s k n    those of one kind; a tag more, also where it may be missing
--   some_tag_fault, tag_faults_by s ts    a struct's or union's tag defined twice
use Rattle.std.specs.Prelude.{ℕ, ◌||◌, Bool, true, false, List, [], ◌∷◌, Option, Some, None}
use Rattle.pungi_base.specs.declared.names.Name.{Name}
use Rattle.pungi_base.specs.declared.pos.Pos.{Pos}
use Rattle.pungi_check.specs.Duplicates.{Use, as_function, as_variable, as_table, NameUse}
use Rattle.pungi_types.specs.Findings.{Findings, nothing_found, ◌and◌, when}
use Rattle.pungi_types.specs.Kinds.{is_struct}
use Rattle.pungi_types.specs.Names.{is_among, with_word}
use Rattle.pungi_types.specs.Tags.{Tag}

pub record SeenWords : Type 0 where
  pub functions : List ℕ
  pub variables : List ℕ
  pub tables : List ℕ

abbrev pub no_words : SeenWords
no_words = record { functions = []; variables = []; tables = [] }

abbrev pub used_in : SeenWords → ℕ → Use → Bool
used_in s w as_function = is_among s.variables w || is_among s.tables w
used_in s w as_variable = is_among s.functions w || is_among s.tables w
used_in s w as_table = is_among s.functions w || is_among s.variables w

abbrev pub with_use : SeenWords → ℕ → Use → SeenWords
with_use s w as_function = record s { functions = with_word s.functions w }
with_use s w as_variable = record s { variables = with_word s.variables w }
with_use s w as_table = record s { tables = with_word s.tables w }

-- a name for two of function, variable and table
abbrev pub use_faults_by : SeenWords → List NameUse → Findings
use_faults_by s [] = nothing_found
use_faults_by s (u ∷ us) =
    when (used_in s u.name.0 u.as_what) u.pos 1 and use_faults_by (with_use s u.name.0 u.as_what) us

pub record SeenTags : Type 0 where
  pub structs : List ℕ
  pub unions : List ℕ

abbrev pub no_tags : SeenTags
no_tags = record { structs = []; unions = [] }

abbrev pub tags_of : SeenTags → Bool → List ℕ
tags_of s true = s.structs
tags_of s false = s.unions

abbrev pub with_tag : SeenTags → Bool → ℕ → SeenTags
with_tag s true w = record s { structs = with_word s.structs w }
with_tag s false w = record s { unions = with_word s.unions w }

abbrev pub with_some_tag : SeenTags → Bool → Option (Name × Pos) → SeenTags
with_some_tag s b None = s
with_some_tag s b (Some n) = with_tag s b n.0.0

abbrev pub some_tag_fault : SeenTags → Bool → Option (Name × Pos) → Findings
some_tag_fault s b None = nothing_found
some_tag_fault s b (Some n) = when (is_among (tags_of s b) n.0.0) n.1 1

-- a struct's or union's tag defined twice
abbrev pub tag_faults_by : SeenTags → List Tag → Findings
tag_faults_by s [] = nothing_found
tag_faults_by s (t ∷ ts) =
    some_tag_fault s (is_struct t.of) t.tag and tag_faults_by (with_some_tag s (is_struct t.of) t.tag) ts
