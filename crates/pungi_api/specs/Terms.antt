-- The terms under which functions are judged: the profile of a version of Python, and what is declared of a function.
--   immortal_count p           of how many static objects, from `Py_None` on, nothing is counted (PEP 683)
--   nothing_declared           the convention of a function of which nothing is declared: it returns a new reference, and
--                              takes over none
--   counting_all               the terms where each object is counted and nothing is declared
--   FileTerms                  what a configuration states: a profile, and conventions by the numbers of functions' names
--   manual_terms               where it states nothing
--   declared_in cs name        the convention that is declared for a name, if one is
--   convention_or o, convention_of t name    the convention of a function
--   terms_of t name            the terms under which the function of a name is judged
use Rattle.std.specs.Prelude.{ℕ, ◌==◌, false, List, [], Option, Some, None}
use Rattle.std.specs.Map.{lookup}
use Rattle.pungi_api.specs.declared.profile.Profile.{Profile}
use Rattle.pungi_api.specs.declared.profile.Profile.TheVariants.{Python311, Python312}
use Rattle.pungi_api.specs.declared.terms.Convention.{Convention}
use Rattle.pungi_api.specs.declared.terms.Terms.{Terms}

-- `Py_None`, `Py_True` and `Py_False` are the objects 0, 1 and 2
abbrev pub immortal_count : Profile → ℕ
immortal_count Python311 = 0
immortal_count Python312 = 3

abbrev pub nothing_declared : Convention
nothing_declared = record { borrowed = false; taken = [] }

abbrev pub counting_all : Terms
counting_all = record { profile = Python311; convention = nothing_declared }

pub record FileTerms : Type 0 where
  pub profile : Profile
  pub conventions : List (ℕ × Convention)

abbrev pub manual_terms : FileTerms
manual_terms = record { profile = Python311; conventions = [] }

abbrev pub declared_in : List (ℕ × Convention) → ℕ → Option Convention
declared_in conventions name = lookup (λ other. name == other) conventions

abbrev pub convention_or : Option Convention → Convention
convention_or None = nothing_declared
convention_or (Some c) = c

abbrev pub convention_of : FileTerms → ℕ → Convention
convention_of terms name = convention_or (declared_in terms.conventions name)

abbrev pub terms_of : FileTerms → ℕ → Terms
terms_of terms name = record { profile = terms.profile; convention = convention_of terms name }
