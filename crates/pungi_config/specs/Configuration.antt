-- What a configuration states: the rows that it adds to a table, and the terms under which functions are judged. It is
-- a text of TOML (TOML 1.0) with at most three keys: the table `function` has a table of keys for each name of a
-- function that is called, the table `convention` one for each name of a function that is judged, and `profile` is the
-- version of Python. The keys of the text are read first, then the conventions, then the functions, each in the order
-- of their bytes, and the first wrong one is reported with the tables that it stands in, as `function.NAME.KEY`.
--   read_text text         the members that these bytes write, if they are a text of TOML
--   function_path name, convention_path name     a name in one of the two tables, as it is reported
--   under path read        what was read of the keys of a name, where a wrong one is reported under this path
--   read_row name d        the row of a function, if its value is a table with `params` and `result`; or the wrong key
--   read_declared name d   the convention of a function, if its value is a table that is not empty; or the wrong key
--   number_of names name   the number of a name among these, or the one that it would have as the next
--   is_free_number table number  no keyword, predefined macro, type, static or API call that is known has this number,
--                          and the table has no row of it
--   is_free table names name     a word of C whose number is free
--   read_function          the row of a function whose name is free, or the wrong key
--   read_convention        the convention of a function whose name is free and stands not under `function` too, or the
--                          wrong key
--   with_named, read_each read names members     what is read of each name, under the number of the name; or the first
--                          wrong key
--   read_rows table names functions          the rows of functions
--   read_conventions table functions names conventions       the conventions of functions
--   count, is_table_within limit d     how many members there are; a table with at most so many
--   is_right_top key d     `convention` or `function` with such a table, or `profile` with the word for one
--   wrong_top members      the first key for which that doesn't hold
--   table_in key members   what stands in a table of the text, if it has one of this name
--   functions_in members, conventions_in members     in `function`, and in `convention`
--   profile_in members     the profile, which is 3.11 where none is stated
--   read_terms             the terms of a text's members, or the first wrong key
--   read_members           the rows and the terms of a text's members, or the first wrong key
--   reading                those of a text, if it is a text of TOML
--   with_names names members     the names once those of the members are among them
--   names_after            the names once those of the conventions, and then those of the functions, are among them
--   Answers                the rows and the terms, or the cause of a refusal
use Rattle.std.specs.Prelude.{◌≡◌, ℕ, suc, Bool, false, not, ◌&&◌, List, [], ◌∷◌, ◌++◌, map, Option, Some, None}
use Rattle.std.specs.Prelude.{option_map, option_and_then, is_none, is_some, if◌then◌else◌, nat_le, codes, string_bytes}
use Rattle.std.specs.Prelude.{Result, Ok, Err}
use Rattle.std.specs.List.{position_or_len}
use Rattle.std.specs.Str.{bytes_eq, is_utf8}
use Rattle.toml.specs.Data.{Data, table, Members, no_members, member, get_member, as_table}
use Rattle.toml.specs.Parse.{parse_document}
use Rattle.pungi_base.specs.Names.{with_text}
use Rattle.pungi_base.specs.CWords.{is_c_word}
use Rattle.pungi_base.specs.Numbers.{first_free}
use Rattle.pungi_api.specs.declared.profile.Profile.{Profile}
use Rattle.pungi_api.specs.declared.profile.Profile.TheVariants.{Python311}
use Rattle.pungi_api.specs.declared.row.Row.{Row}
use Rattle.pungi_api.specs.declared.terms.Convention.{Convention}
use Rattle.pungi_api.specs.Rows.{row_in, named_row}
use Rattle.pungi_api.specs.Terms.{FileTerms, nothing_declared}
use Rattle.pungi_config.specs.Limits.{row_limit, convention_limit}
use Rattle.pungi_config.specs.Words.{profile_of}
use Rattle.pungi_config.specs.Keys.{empty_row, read_keys, has_key}
use Rattle.pungi_config.specs.Conventions.{read_convention_keys}
use Rattle.pungi_config.specs.declared.config.Config.{Config}
use Rattle.pungi_config.specs.declared.config_fault.ConfigFault.{ConfigFault}
use Rattle.pungi_config.specs.declared.config_fault.ConfigFault.TheVariants.{Text, Shape, Memory}

abbrev pub read_text : List ℕ → Option Members
read_text text = if is_utf8 text then parse_document text else None

abbrev pub function_path : List ℕ → List ℕ
function_path name = codes "function." ++ name

abbrev pub convention_path : List ℕ → List ℕ
convention_path name = codes "convention." ++ name

abbrev pub under : {A : Type 0} → List ℕ → Result A (List ℕ) → Result A (List ℕ)
under path (Ok x) = Ok x
under path (Err key) = Err (path ++ codes "." ++ key)

abbrev pub read_row : List ℕ → Data → Result Row (List ℕ)
read_row name (table keys) =
    if has_key (codes "params") keys && has_key (codes "result") keys
    then under (function_path name) (read_keys empty_row keys)
    else Err (function_path name)
read_row name _ = Err (function_path name)

abbrev pub read_declared : List ℕ → Data → Result Convention (List ℕ)
read_declared name (table (member key d keys)) =
    under (convention_path name) (read_convention_keys nothing_declared (member key d keys))
read_declared name _ = Err (convention_path name)

abbrev pub number_of : List (List ℕ) → List ℕ → ℕ
number_of names name = position_or_len (bytes_eq name) names

abbrev pub is_free_number : List (ℕ × Row) → ℕ → Bool
is_free_number rows number = nat_le first_free number && is_none (row_in rows number)

abbrev pub is_free : List (ℕ × Row) → List (List ℕ) → List ℕ → Bool
is_free rows names name = is_c_word name && is_free_number rows (number_of names name)

abbrev pub read_function : List (ℕ × Row) → List (List ℕ) → List ℕ → Data → Result Row (List ℕ)
read_function rows names name d = if is_free rows names name then read_row name d else Err (function_path name)

abbrev pub read_convention : List (ℕ × Row) → Members → List (List ℕ) → List ℕ → Data → Result Convention (List ℕ)
read_convention rows functions names name d =
    if not (has_key name functions) && is_free rows names name then read_declared name d else Err (convention_path name)

abbrev pub with_named
    : {A : Type 0} → ℕ → Result A (List ℕ) → Result (List (ℕ × A)) (List ℕ) → Result (List (ℕ × A)) (List ℕ)
with_named number (Err key) more = Err key
with_named number (Ok x) (Err key) = Err key
with_named number (Ok x) (Ok more) = Ok ((number, x) ∷ more)

abbrev pub read_each
    : {A : Type 0} → (List (List ℕ) → List ℕ → Data → Result A (List ℕ)) → List (List ℕ) → Members
    → Result (List (ℕ × A)) (List ℕ)
read_each read names no_members = Ok []
read_each read names (member name d members) =
    with_named (number_of names name) (read names name d) (read_each read (with_text names name) members)

abbrev pub read_rows : List (ℕ × Row) → List (List ℕ) → Members → Result (List (ℕ × Row)) (List ℕ)
read_rows rows names functions = read_each (read_function rows) names functions

abbrev pub read_conventions
    : List (ℕ × Row) → Members → List (List ℕ) → Members → Result (List (ℕ × Convention)) (List ℕ)
read_conventions rows functions names conventions = read_each (read_convention rows functions) names conventions

abbrev pub count : Members → ℕ
count no_members = 0
count (member key d members) = suc (count members)

abbrev pub is_table_within : ℕ → Data → Bool
is_table_within limit (table members) = nat_le (count members) limit
is_table_within limit _ = false

abbrev pub is_right_top : List ℕ → Data → Bool
is_right_top key d =
    if bytes_eq key (codes "convention") then is_table_within convention_limit d
    else if bytes_eq key (codes "function") then is_table_within row_limit d
    else if bytes_eq key (codes "profile") then is_some (profile_of d)
    else false

abbrev pub wrong_top : Members → Option (List ℕ)
wrong_top no_members = None
wrong_top (member key d members) = if is_right_top key d then wrong_top members else Some key

abbrev pub or_none : Option Members → Members
or_none None = no_members
or_none (Some members) = members

abbrev pub table_in : List ℕ → Members → Members
table_in key members = or_none (option_and_then as_table (get_member key members))

abbrev pub functions_in : Members → Members
functions_in members = table_in (codes "function") members

abbrev pub conventions_in : Members → Members
conventions_in members = table_in (codes "convention") members

abbrev pub profile_or : Option Profile → Profile
profile_or None = Python311
profile_or (Some profile) = profile

abbrev pub profile_in : Members → Profile
profile_in members = profile_or (option_and_then profile_of (get_member (codes "profile") members))

abbrev pub with_names : List (List ℕ) → Members → List (List ℕ)
with_names names no_members = names
with_names names (member name d members) = with_names (with_text names name) members

abbrev pub under_profile : Profile → Result (List (ℕ × Convention)) (List ℕ) → Result FileTerms (List ℕ)
under_profile p (Err key) = Err key
under_profile p (Ok cs) = Ok (record { profile = p; conventions = cs })

abbrev pub read_terms : List (ℕ × Row) → List (List ℕ) → Members → Result FileTerms (List ℕ)
read_terms rows names members =
    under_profile (profile_in members) (read_conventions rows (functions_in members) names (conventions_in members))

abbrev pub with_terms
    : Result FileTerms (List ℕ) → Result (List (ℕ × Row)) (List ℕ) → Result (List (ℕ × Row) × FileTerms) (List ℕ)
with_terms (Err key) rows = Err key
with_terms (Ok terms) (Err key) = Err key
with_terms (Ok terms) (Ok rows) = Ok (rows, terms)

abbrev pub read_parts : List (ℕ × Row) → List (List ℕ) → Members → Result (List (ℕ × Row) × FileTerms) (List ℕ)
read_parts rows names members =
    with_terms (read_terms rows names members)
    (read_rows rows (with_names names (conventions_in members)) (functions_in members))

abbrev pub unless_wrong : {A : Type 0} → Option (List ℕ) → Result A (List ℕ) → Result A (List ℕ)
unless_wrong (Some key) read = Err key
unless_wrong None read = read

abbrev pub read_members : List (ℕ × Row) → List (List ℕ) → Members → Result (List (ℕ × Row) × FileTerms) (List ℕ)
read_members rows names members = unless_wrong (wrong_top members) (read_parts rows names members)

abbrev pub reading
    : List (ℕ × Row) → List (List ℕ) → List ℕ → Option (Result (List (ℕ × Row) × FileTerms) (List ℕ))
reading rows names text = option_map (read_members rows names) (read_text text)

abbrev pub names_with : List (List ℕ) → Members → List (List ℕ)
names_with names members = with_names (with_names names (conventions_in members)) (functions_in members)

abbrev pub names_in : List (List ℕ) → Option Members → List (List ℕ)
names_in names None = names
names_in names (Some members) = names_with names members

abbrev pub names_after : List (List ℕ) → List ℕ → List (List ℕ)
names_after names text = names_in names (read_text text)

-- where memory runs out nothing is stated
abbrev pub Answers : List (ℕ × Row) → List (List ℕ) → List ℕ → Result Config ConfigFault → Type 0
Answers rows names text (Ok config) =
    reading rows names text ≡ Some (Ok (map named_row config.rows.items, config.terms))
Answers rows names text (Err Text) = read_text text ≡ None
Answers rows names text (Err (Shape key)) = reading rows names text ≡ Some (Err (string_bytes key))
Answers rows names text (Err Memory) = Unit {0}

-- what toml's refusal is, before any key is read
abbrev pub IsTextFault : List ℕ → ConfigFault → Type 0
IsTextFault text Text = read_text text ≡ None
IsTextFault text (Shape key) = ⊥
IsTextFault text Memory = Unit {0}
