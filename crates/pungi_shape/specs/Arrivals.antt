-- How a scene becomes a shape again: what isn't kept at the next point is dropped, and tokens are numbered anew.
--   trim code p s           temporaries that aren't live at this point are no holders
--   anchors s               the holders that keep a field tracked and an object made: all but the returned value and
--                           the slots
--   holds_token hs t        one of these holds the token
--   is_kept_spot hs p, is_kept s r    a slot is kept: a global, or a field of an object that an anchor holds
--   place_in ts t           the place of a token in a list
--   slot_key s r            the numbers of a slot, with the new number of its base
--   put_slots s rs, slots_in_order s    slots in the order of these numbers, beside them; those that are kept
--   settle_slots s          the shape with these slots
--   renumber s              tokens have numbers in the order of the holders that hold them first; an object is made on
--                           where an anchor holds it
--   kept_shape code p s     what is kept of a scene at this point, before tokens are numbered
--   numbers_kept hs fs      the forms of those that hold a number
--   rows_under s kept       the forms of the coordinates of what is kept, in order: the leading one; the numbers of the
--                           variables, of the returned value and of the values at entry; the balances of the tokens
--   drop_of, drops_under s kept    the balances of the tokens that nothing holds any more
--   Arrival                 the shape, these forms and these balances
--   arrival_of s kept, arrive code p s    what a scene arrives at, where this is kept; at this point
use Rattle.std.specs.Prelude.{ℕ, ◌==◌, Bool, true, ◌&&◌, List, [], ◌∷◌, ◌++◌, map, Option, Some, None}
use Rattle.std.specs.Prelude.{if◌then◌else◌}
use Rattle.std.specs.List.{enumerate_from, filter, flat_map, list_any, position_or_len, zip}
use Rattle.std.specs.Ordering.{nat_cmp}
use Rattle.std.specs.Cmp.Lexicographic.{slice_cmp}
use Rattle.std.specs.FinMap.{put}
use Rattle.pungi_code.specs.declared.code.Code.{Code}
pub use Rattle.pungi_shape.specs.declared.arrival.Arrival.{Arrival}
use Rattle.pungi_shape.specs.declared.holding.Holding.{Holding}
use Rattle.pungi_shape.specs.declared.holding.Holding.TheVariants.{Dead}
use Rattle.pungi_shape.specs.declared.point.Point.{Point}
use Rattle.pungi_shape.specs.declared.shape.Shape.{Shape}
use Rattle.pungi_shape.specs.declared.tracked.Spot.{Spot}
use Rattle.pungi_shape.specs.declared.tracked.Spot.TheVariants.{Global, Field}
use Rattle.pungi_shape.specs.declared.tracked.Tracked.{Tracked}
use Rattle.pungi_shape.specs.Forms.{Form, unit}
use Rattle.pungi_shape.specs.Shapes.{is_number, is_token, tokens_in, rename, rename_spot, numbers_of_spot}
use Rattle.pungi_shape.specs.Shapes.{holding_of_static, before_slots, distinct, tokens_of}
use Rattle.pungi_shape.specs.Liveness.{is_among, is_holder}
use Rattle.pungi_shape.specs.Scenes.{Scene, is_made, balance_at}

-- ---- what is kept

abbrev pub trim : Code → Point → Shape → Shape
trim code p s =
    record s { vars = map (λ x. if is_holder code p x.0 then x.1 else Dead) (enumerate_from 0 s.vars) }

abbrev pub anchors : Shape → List Holding
anchors s = s.entry ++ (s.vars ++ map holding_of_static s.statics)

abbrev pub holds_token : List Holding → ℕ → Bool
holds_token hs t = list_any (is_token t) hs

abbrev pub is_kept_spot : List Holding → Spot → Bool
is_kept_spot hs (Global n) = true
is_kept_spot hs (Field b tag field) = holds_token hs b

abbrev pub is_kept : Shape → Tracked → Bool
is_kept s r = is_kept_spot (anchors s) r.spot

-- ---- order

abbrev pub place_in : List ℕ → ℕ → ℕ
place_in ts t = position_or_len (λ u. u == t) ts

abbrev pub slot_key : Shape → Tracked → List ℕ
slot_key s r = numbers_of_spot (rename_spot (place_in (distinct (tokens_in (before_slots s)))) r.spot)

abbrev pub put_slots : Shape → List Tracked → List (List ℕ × Tracked)
put_slots s [] = []
put_slots s (r ∷ rs) = put (slice_cmp nat_cmp) (slot_key s r) r (put_slots s rs)

abbrev pub slots_in_order : Shape → List Tracked
slots_in_order s = map (λ e. e.1) (put_slots s (filter (is_kept s) s.slots))

abbrev pub settle_slots : Shape → Shape
settle_slots s = record s { slots = slots_in_order s }

abbrev pub renumber : Shape → Shape
renumber s =
    record (rename (place_in (tokens_of s)) s)
    { made = map (λ t. is_made s t && holds_token (anchors s) t) (tokens_of s) }

-- ---- the place that is reached

abbrev pub kept_shape : Code → Point → Scene → Shape
kept_shape code p s = settle_slots (trim code p s.shape)

abbrev pub numbers_kept : List Holding → List Form → List Form
numbers_kept hs fs = map (λ e. e.1) (filter (λ e. is_number e.0) (zip hs fs))

abbrev pub rows_under : Scene → Shape → List Form
rows_under s kept =
    unit s.width 0 ∷ (numbers_kept kept.vars s.vars
    ++ (numbers_kept (kept.returned ∷ []) (s.returned ∷ [])
    ++ (numbers_kept kept.entry s.entry ++ map (balance_at s) (tokens_of kept))))

abbrev pub drop_of : List ℕ → ℕ → Option Form → List Form
drop_of ts t None = []
drop_of ts t (Some f) = if is_among ts t then [] else f ∷ []

abbrev pub drops_under : Scene → Shape → List Form
drops_under s kept = flat_map (λ e. drop_of (tokens_of kept) e.0 e.1) (enumerate_from 0 s.balances)

abbrev pub arrival_of : Scene → Shape → Arrival
arrival_of s kept =
    record { shape = renumber kept; rows = rows_under s kept; drops = drops_under s kept }

abbrev pub arrive : Code → Point → Scene → Arrival
arrive code p s = arrival_of s (kept_shape code p s)
