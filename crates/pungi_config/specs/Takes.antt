-- The parameters of a row, and which of them it takes over.
--   with_first, params_in  the parameters that a list of values means, if each is a word for one
--   params_of d            those of a value: of a list of at most eight such words
--   place_of d             the place, from 0, that a value numbers from 1
--   passes test x          x is there, and passes the test
--   is_never t             nothing is taken over
--   is_free_object params takes n    at this place stands an object parameter, of which nothing is stated yet
--   take_one, take_each    the list of what is taken over once it has this for the parameter that a value numbers, and
--                          for each that the values of a list number; none where one of them numbers no object
--                          parameter, or one of which something is stated already
--   takes_of               the same for a value: for a list of them
use Rattle.std.specs.Prelude.{ℕ, suc, pos, Bool, true, false, ◌&&◌, List, [], ◌∷◌, length, Option, Some, None}
use Rattle.std.specs.Prelude.{option_and_then, if◌then◌else◌, nat_le, slice_get, slice_set}
use Rattle.toml.specs.Data.{Data, integer, Items, no_items, item, as_array}
use Rattle.pungi_api.specs.declared.param.Param.{Param}
use Rattle.pungi_api.specs.declared.take.Take.{Take}
use Rattle.pungi_api.specs.declared.take.Take.TheVariants as takes
use Rattle.pungi_api.specs.Rows.{is_object}
use Rattle.pungi_config.specs.Limits.{param_limit}
use Rattle.pungi_config.specs.Words.{param_of}

abbrev pub with_first : {A : Type 0} → Option A → Option (List A) → Option (List A)
with_first (Some x) (Some xs) = Some (x ∷ xs)
with_first _ _ = None

abbrev pub params_in : Items → Option (List Param)
params_in no_items = Some []
params_in (item d ds) = with_first (param_of d) (params_in ds)

abbrev pub if_few : List Param → Option (List Param)
if_few params = if nat_le (length params) param_limit then Some params else None

abbrev pub params_of : Data → Option (List Param)
params_of d = option_and_then if_few (option_and_then params_in (as_array d))

abbrev pub place_of : Data → Option ℕ
place_of (integer (pos (suc n))) = Some n
place_of _ = None

abbrev pub passes : {A : Type 0} → (A → Bool) → Option A → Bool
passes test (Some x) = test x
passes test None = false

abbrev pub is_never : Take → Bool
is_never takes.Never = true
is_never _ = false

abbrev pub is_free_object : List Param → List Take → ℕ → Bool
is_free_object params takes n = passes is_object (slice_get params n) && passes is_never (slice_get takes n)

abbrev pub take_at : List Param → Take → List Take → ℕ → Option (List Take)
take_at params take takes n = if is_free_object params takes n then Some (slice_set takes n take) else None

abbrev pub take_one : List Param → Take → List Take → Data → Option (List Take)
take_one params take takes d = option_and_then (take_at params take takes) (place_of d)

abbrev pub take_each : List Param → Take → List Take → Items → Option (List Take)
take_each params take takes no_items = Some takes
take_each params take takes (item d ds) =
    option_and_then (λ more. take_each params take more ds) (take_one params take takes d)

abbrev pub takes_of : List Param → Take → List Take → Data → Option (List Take)
takes_of params take takes d = option_and_then (take_each params take takes) (as_array d)
