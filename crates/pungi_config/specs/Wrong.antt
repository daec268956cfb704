-- A wrong key as it is reported, and what reading gave, with the wrong key so.
--   spelled wrong          the key as it is reported
--   keys_read read         of keys: what they describe, or the first wrong key
--   read_with f read       what was read, as f sees it, or the wrong key as it is reported
--   value_read, named_read of one name: a row or a convention, and one with its number
--   rows_read              of all functions
--   terms_read read terms  of all conventions, where the terms are these
--   parts_read read terms  of all conventions and functions
--   config_read            of a whole text
use Rattle.std.specs.Prelude.{ℕ, List, ◌++◌, map, codes, Result, Ok, Err, Vec}
use Rattle.std.specs.Borrow.{Bor}
use Rattle.std.specs.declared.alloc.Global.{Global}
use Rattle.pungi_base.specs.declared.names.Name.{Name}
use Rattle.pungi_api.specs.declared.row.Row.{Row}
use Rattle.pungi_api.specs.Rows.{named_row}
use Rattle.pungi_api.specs.Terms.{FileTerms}
use Rattle.pungi_config.specs.Configuration.{function_path, convention_path}
use Rattle.pungi_config.specs.declared.config.Config.{Config}
use Rattle.pungi_config.specs.declared.wrong.Wrong.{Wrong}
use Rattle.pungi_config.specs.declared.wrong.Wrong.TheVariants as wrong

abbrev pub spelled : Wrong → List ℕ
spelled (wrong.Top key) = key.now
spelled (wrong.Function name) = function_path name.now
spelled (wrong.FunctionKey name key) = function_path name.now ++ codes "." ++ key.now
spelled (wrong.Convention name) = convention_path name.now
spelled (wrong.ConventionKey name key) = convention_path name.now ++ codes "." ++ key.now

abbrev pub keys_read : {A : Type 0} → Result A (Bor (List ℕ)) → Result A (List ℕ)
keys_read (Ok x) = Ok x
keys_read (Err key) = Err key.now

abbrev pub read_with : {A B : Type 0} → (A → B) → Result A Wrong → Result B (List ℕ)
read_with f (Ok x) = Ok (f x)
read_with f (Err w) = Err (spelled w)

abbrev pub value_read : {A : Type 0} → Result A Wrong → Result A (List ℕ)
value_read read = read_with (λ x. x) read

abbrev pub named_read : {A : Type 0} → Result (Name × A) Wrong → Result A (List ℕ)
named_read read = read_with (λ x. x.1) read

abbrev pub rows_read : Result (Vec (Name × Row) Global) Wrong → Result (List (ℕ × Row)) (List ℕ)
rows_read read = read_with (λ rows. map named_row rows.items) read

abbrev pub terms_read : {A : Type 0} → Result A Wrong → FileTerms → Result FileTerms (List ℕ)
terms_read read terms = read_with (λ x. terms) read

abbrev pub parts_read
    : Result (Vec (Name × Row) Global) Wrong → FileTerms → Result (List (ℕ × Row) × FileTerms) (List ℕ)
parts_read read terms = read_with (λ rows. (map named_row rows.items, terms)) read

abbrev pub config_read : Result Config Wrong → Result (List (ℕ × Row) × FileTerms) (List ℕ)
config_read read = read_with (λ config. (map named_row config.rows.items, config.terms)) read
