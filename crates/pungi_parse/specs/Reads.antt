-- What a reader of trees returns.
--   ReadsFront view limit result read    the tree is the one that is read, or the error is the one that comes where
--                                        nothing is read; fewer than
--       `limit` tokens are left
--   Reads view depth most limit result read    the same, and how deep the tree is comes with it, and is at most `most`
use Rattle.std.specs.Prelude.{◌≡◌, ◌≤◌, ◌<◌, ℕ, List, length, Option, Result, IfOk}
use Rattle.std.specs.Borrow.{Bor}
use Rattle.pungi_base.specs.declared.token.Token.{Token}
use Rattle.pungi_parse.specs.Gives.{Gives}
use Rattle.pungi_parse.specs.declared.stop.Stop.{Stop}
use Rattle.pungi_tree.specs.Placed.{Placed, placed}

pub record ReadsFront {X Y : Type 0} (view : X → Y) (limit : ℕ) (result : Result (X × Bor (List Token)) Stop)
    (read : Option (Y × List Placed)) : Type 0 where
  pub tree : Gives (λ x. (view x.0, placed x.1.now)) result read
  pub shorter : IfOk result (λ x. length x.1.now < limit)

pub record Reads {X Y : Type 0} (view : X → Y) (depth : Y → ℕ) (most limit : ℕ)
    (result : Result (X × ℕ × Bor (List Token)) Stop) (read : Option (Y × List Placed)) : Type 0 where
  pub tree : Gives (λ x. (view x.0, placed x.2.now)) result read
  pub deep : IfOk result (λ x. x.1 ≡ depth (view x.0))
  pub bound : IfOk result (λ x. x.1 ≤ most)
  pub shorter : IfOk result (λ x. length x.2.now < limit)
