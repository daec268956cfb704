-- What a type of the program stands for, once typedefs are followed.
--   followed_view f     a type with its stars
use Rattle.pungi_types.specs.Kinds as plain
use Rattle.pungi_types.specs.TypesView.{core_view}
use Rattle.pungi_names.specs.declared.cores.Followed.{Followed}

abbrev pub followed_view : Followed → plain.Followed
followed_view f = record { core = core_view f.core; stars = f.stars }
