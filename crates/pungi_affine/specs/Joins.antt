-- Rows that are added without a change of the others.
--   IsPlain d ls l m   the row m is a multiple of l, which is d at the pivot, where the rows ls are 0, and has no entry
--                      over 2^31 in absolute value
--   IsJoined ls l ms   ms are the rows ls and, in its place, the row l
use Rattle.std.specs.Prelude.{◌≡◌, ℕ, ◌<◌, ℤ, pos, ◌*ℤ◌, List, length}
use Rattle.std.specs.List.{insert}
use Rattle.pungi_domain.specs.Vectors.{at}
use Rattle.pungi_affine.specs.Forms.{Line, line, WithinBox}
use Rattle.pungi_affine.specs.Mixes.{IsMultiple, IsPlace}

pub record IsPlain (d : ℤ) (ls : List Line) (l m : Line) : Type 0 where
  pub factor : ℤ
  pub multiple : IsMultiple factor l m
  pub own : factor *ℤ at l.entries l.pivot ≡ d
  pub zeros : (k : ℕ) → k < length ls → at (line ls k).entries l.pivot ≡ pos 0
  pub small : WithinBox m.entries

pub record IsJoined (ls : List Line) (l : Line) (ms : List Line) : Type 0 where
  pub place : ℕ
  pub is_place : IsPlace ls l.pivot place
  pub rows : ms ≡ insert ls place l
