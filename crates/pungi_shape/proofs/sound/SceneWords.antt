-- Words on views and names.
--   with_contents, with_world, with_debts, with_fields    a view with other contents of the variables, another world,
--                           other debts, other fields of objects
--   counted names h n k     n, where what is held is this object
--   named names t k         one more token stands for an object
use Rattle.std.specs.Prelude.{ℕ, ◌==◌, ℤ, pos, Bool, List, if◌then◌else◌}
use Rattle.pungi_base.specs.declared.names.Name.{Name}
use Rattle.pungi_world.specs.declared.content.Content.{Content}
use Rattle.pungi_world.specs.declared.world.World.{World}
use Rattle.pungi_shape.specs.declared.holding.Holding.{Holding}
use Rattle.pungi_shape.specs.declared.holding.Holding.TheVariants.{Token}
use Rattle.pungi_shape.specs.Described.{Naming}
use Rattle.pungi_shape.proofs.sound.Views.{View}

abbrev pub with_contents : List Content → View → View
with_contents cs o = record o { vars = cs }

abbrev pub with_world : World → View → View
with_world w o = record o { world = w }

abbrev pub with_debts : (ℕ → ℤ) → View → View
with_debts d o = record o { debts = d }

abbrev pub with_fields : (Name → Name → Bool) → View → View
with_fields g o = record o { fields = g }

abbrev pub counted : Naming → Holding → ℤ → ℕ → ℤ
counted names (Token t) n k = if names t == k then n else pos 0
counted names h n k = pos 0

abbrev pub named : Naming → ℕ → ℕ → Naming
named names t k u = if u == t then k else names u
