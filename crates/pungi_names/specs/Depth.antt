-- How far typedefs lead (C11 6.7.8).
--   TypedefTarget      what the word of a typedef stands for, and how many typedefs lead there
--   nowhere            no type
--   with_stars c n     a type with so many stars; those of no type count nothing
--   known f            a type, where the stars of no type count nothing
--   after_typedef k f  the same after a typedef with so many stars
--   word_base w        the type that a word names
--   known_at file n w  what a word names, where typedefs are followed at most so many times
--   reached_within r n what is reached within so many typedefs
--   found_within o n    the same, where something is found
--   Reaches step w r   followed any number of times, the word is what is reached within so many
--   Leads step w k v   the word is another with so many stars more
--   alias_of b         the word that a type is
--   struct_word n t    the word by which a struct is found: its tag, or where it has none the word of its typedef
--   own_core tag n b   the type that a typedef of a word writes itself; tag is whether a struct with fields has that
--                      word as its tag
use Rattle.std.specs.Prelude.{◌≡◌, ℕ, zero, suc, ◌+◌, nat_le, Bool, ◌&&◌, not, Option, Some, None, List, if◌then◌else◌}
use Rattle.pungi_base.specs.declared.names.Name.{Name}
use Rattle.pungi_tree.specs.Syntax.{Base, alias, tagged_fields, Item}
use Rattle.pungi_types.specs.Kinds.{Core, base_words, builtin, struct_of, no_core, Followed, core_alone, core_at}
use Rattle.pungi_types.specs.Kinds.{written_core, is_struct}

pub record TypedefTarget : Type 0 where
  pub depth : ℕ
  pub at : Followed

abbrev pub nowhere : Followed
nowhere = core_alone no_core

abbrev pub with_stars : Core → ℕ → Followed
with_stars (base_words ks) n = record { core = base_words ks; stars = n }
with_stars (builtin w) n = record { core = builtin w; stars = n }
with_stars (struct_of w) n = record { core = struct_of w; stars = n }
with_stars no_core n = nowhere

abbrev pub known : Followed → Followed
known f = with_stars f.core f.stars

abbrev pub after_typedef : ℕ → Followed → Followed
after_typedef k f = with_stars f.core (f.stars + k)

abbrev pub word_base : ℕ → Base
word_base w = alias (record { 0 = w })

abbrev pub known_at : List Item → ℕ → ℕ → Followed
known_at file n w = known (core_at n file (word_base w))

abbrev pub reached_within : TypedefTarget → ℕ → Followed
reached_within r n = (if nat_le r.depth n then known r.at else nowhere)

abbrev pub found_within : Option TypedefTarget → ℕ → Followed
found_within None n = nowhere
found_within (Some r) n = reached_within r n

-- `step n w` is what the word is when typedefs are followed at most n times
abbrev pub Reaches : (ℕ → ℕ → Followed) → ℕ → TypedefTarget → Type 0
Reaches step w r = (n : ℕ) → step n w ≡ reached_within r n

-- one typedef more: nothing at first, then what the word after it is
pub record Leads (step : ℕ → ℕ → Followed) (w k v : ℕ) : Type 0 where
  pub first : step zero w ≡ nowhere
  pub later : (n : ℕ) → step (suc n) w ≡ after_typedef k (step n v)

abbrev pub alias_of : Base → Option Name
alias_of (alias n) = Some n
alias_of _ = None

abbrev pub struct_word : Name → Option Name → Name
struct_word n None = n
struct_word n (Some t) = t

abbrev pub own_core : Bool → Name → Base → Core
own_core tag n (tagged_fields of None fs) = (if is_struct of && not tag then struct_of n else no_core)
own_core tag n b = written_core tag b
