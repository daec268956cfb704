-- The keys that declare the convention of one function, in the order of their bytes: `returns`, `takes`.
--   is_new_place taken n   a place below the limit that is none of these
--   take_place taken n     these places, and then such a one
--   take_places taken ds   the same with each place that the values of a list number from 1; none where one of them
--                          numbers no place below the limit, or one that stands before
--   taken_of d             the places of a value: of a list of such numbers
--   with_convention_key key d c    the convention once this key of this value is read: `returns` says whether the result
--                          is borrowed, and `takes` numbers the parameters that are taken over; none where it is another
--                          key, or its value is not of that kind
--   read_convention_keys c keys    the convention once all keys are read, or the first wrong key
use Rattle.std.specs.Prelude.{ℕ, ◌==◌, Bool, not, ◌&&◌, List, [], ◌∷◌, ◌++◌, Option, Some, None, option_map}
use Rattle.std.specs.Prelude.{option_and_then, if◌then◌else◌, nat_lt, codes, Result, Ok}
use Rattle.std.specs.List.{list_any}
use Rattle.std.specs.Str.{bytes_eq}
use Rattle.toml.specs.Data.{Data, Items, no_items, item, as_array, Members, no_members, member}
use Rattle.pungi_api.specs.declared.terms.Convention.{Convention}
use Rattle.pungi_config.specs.Limits.{taken_limit}
use Rattle.pungi_config.specs.Words.{borrowed_of}
use Rattle.pungi_config.specs.Keys.{or_wrong}
use Rattle.pungi_config.specs.Takes.{place_of}

abbrev pub is_new_place : List ℕ → ℕ → Bool
is_new_place taken n = nat_lt n taken_limit && not (list_any (λ other. other == n) taken)

abbrev pub take_place : List ℕ → ℕ → Option (List ℕ)
take_place taken n = if is_new_place taken n then Some (taken ++ n ∷ []) else None

abbrev pub take_places : List ℕ → Items → Option (List ℕ)
take_places taken no_items = Some taken
take_places taken (item d ds) =
    option_and_then (λ more. take_places more ds) (option_and_then (take_place taken) (place_of d))

abbrev pub taken_of : Data → Option (List ℕ)
taken_of d = option_and_then (take_places []) (as_array d)

abbrev pub with_convention_key : List ℕ → Data → Convention → Option Convention
with_convention_key key d c =
    if bytes_eq key (codes "returns") then option_map (λ b. record c { borrowed = b }) (borrowed_of d)
    else if bytes_eq key (codes "takes") then option_map (λ places. record c { taken = places }) (taken_of d)
    else None

abbrev pub read_convention_keys : Convention → Members → Result Convention (List ℕ)
read_convention_keys c no_members = Ok c
read_convention_keys c (member key d keys) =
    or_wrong key (with_convention_key key d c) (λ next. read_convention_keys next keys)
