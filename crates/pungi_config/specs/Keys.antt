-- The keys that describe one function, in the order of their bytes: `params`, `result`, `takes`, `takes_on_success`.
--   plain_row answer params    a row with these parameters and this answer, which takes nothing over
--   empty_row              one without parameters
--   with_takes row takes   the row once this is what it takes over
--   with_key key d row     the row once this key of this value is read: `params` lists its parameters, `result` is its
--                          answer, `takes` numbers the parameters that it takes over, also where it fails, and
--                          `takes_on_success` those that it takes over where it succeeds, if its answer shows that;
--                          none where it is another key, or its value is not of that kind
--   read_keys row keys     the row once all keys are read, or the first wrong key
--   has_key key keys       the key is there
use Rattle.std.specs.Prelude.{ℕ, Bool, ◌&&◌, List, [], length, replicate, Option, Some, None, option_map, is_some}
use Rattle.std.specs.Prelude.{if◌then◌else◌, codes}
use Rattle.std.specs.Prelude.{Result, Ok, Err}
use Rattle.std.specs.Str.{bytes_eq}
use Rattle.toml.specs.Data.{Data, Members, no_members, member, get_member}
use Rattle.pungi_api.specs.declared.param.Param.{Param}
use Rattle.pungi_api.specs.declared.take.Take.{Take}
use Rattle.pungi_api.specs.declared.take.Take.TheVariants as takes
use Rattle.pungi_api.specs.declared.answer.Answer.{Answer}
use Rattle.pungi_api.specs.declared.answer.Answer.TheVariants as answer
use Rattle.pungi_api.specs.declared.row.Form.TheVariants as form
use Rattle.pungi_api.specs.declared.row.Row.{Row}
use Rattle.pungi_api.specs.Rows.{has_success}
use Rattle.pungi_config.specs.Words.{answer_of}
use Rattle.pungi_config.specs.Takes.{params_of, takes_of}

abbrev pub plain_row : Answer → List Param → Row
plain_row a ps = record { form = form.Plain; params = ps; takes = replicate (length ps) takes.Never; answer = a }

abbrev pub empty_row : Row
empty_row = plain_row answer.Null []

abbrev pub with_takes : Row → List Take → Row
with_takes row ts = record row { takes = ts }

abbrev pub with_key : List ℕ → Data → Row → Option Row
with_key key d row =
    if bytes_eq key (codes "params") then option_map (plain_row row.answer) (params_of d)
    else if bytes_eq key (codes "result") then option_map (λ a. plain_row a row.params) (answer_of d)
    else if bytes_eq key (codes "takes")
    then option_map (with_takes row) (takes_of row.params takes.Always row.takes d)
    else if bytes_eq key (codes "takes_on_success") && has_success row.answer
    then option_map (with_takes row) (takes_of row.params takes.OnSuccess row.takes d)
    else None

abbrev pub or_wrong : {A : Type 0} → List ℕ → Option A → (A → Result A (List ℕ)) → Result A (List ℕ)
or_wrong key None next = Err key
or_wrong key (Some x) next = next x

abbrev pub read_keys : Row → Members → Result Row (List ℕ)
read_keys row no_members = Ok row
read_keys row (member key d keys) = or_wrong key (with_key key d row) (λ next. read_keys next keys)

abbrev pub has_key : List ℕ → Members → Bool
has_key key keys = is_some (get_member key keys)
