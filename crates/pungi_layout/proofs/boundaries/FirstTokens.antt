-- The first token of an expression is that of one of its nodes.
use Rattle.std.proofs.Common.{inl, inr, ℕ, true, false, List, [], ◌∷◌, ◌++◌, refl}
use Rattle.pungi_base.specs.declared.pos.Pos.{Pos}
use Rattle.pungi_resolved.specs.Values as expr
use Rattle.pungi_layout.specs.code.FirstTokens.{first_token, place_token}
use Rattle.pungi_layout.specs.code.Sound.{IsSound, IsPlaceSound}
use Rattle.pungi_layout.specs.liveness.Boundaries.{expr_positions, place_positions, IsAmong}

among_front : (p : Pos) (ps qs : List Pos) → IsAmong p ps → IsAmong p (ps ++ qs)
among_front p [] qs h = absurd h
among_front p (q ∷ ps) qs (inl e) = inl e
among_front p (q ∷ ps) qs (inr h) = inr (among_front p ps qs h)

module _ (nl : ℕ) where
  mutual
    pub first_among : (v : expr.Value) → IsSound nl v → IsAmong (first_token v) (expr_positions v)
    first_among (expr.read p kind place) s = inr (place_among place s)
    first_among (expr.stepped p true m kind place) s = inr (place_among place s)
    first_among (expr.emptied p kind place) s = inr (place_among place s)
    first_among (expr.computed p m kind a b) s = inr (among_front _ (expr_positions a) _ (first_among a s.1))
    first_among (expr.compared p m a b) s = inr (among_front _ (expr_positions a) _ (first_among a s.1))
    first_among (expr.joined_by p m a b) s = inr (among_front _ (expr_positions a) _ (first_among a s.1))
    first_among (expr.stored p kind place v) s = inr (among_front _ (place_positions place) _ (place_among place s.0))
    first_among (expr.updated p m counted kind place v) s =
        inr (among_front _ (place_positions place) _ (place_among place s.0))
    first_among (expr.chosen p c a b) s = inr (among_front _ (expr_positions c) _ (first_among c s.1))
    first_among (expr.constant p n) s = inl refl
    first_among (expr.text_of p ns) s = inl refl
    first_among (expr.null_of p) s = inl refl
    first_among (expr.static_of p n) s = inl refl
    first_among (expr.module_of p n) s = inl refl
    first_among (expr.inner p v) s = inl refl
    first_among (expr.signed p m kind v) s = inl refl
    first_among (expr.negated p v) s = inl refl
    first_among (expr.stepped p false m kind place) s = inl refl
    first_among (expr.converted p kind v) s = inl refl
    first_among (expr.cast_of p v) s = inl refl
    first_among (expr.dropped p v) s = inl refl
    first_among (expr.called p f vs) s = inl refl
    first_among (expr.called_row p n g vs) s = inl refl
    first_among (expr.called_unless_null p n g vs) s = inl refl
    first_among (expr.called_with_outputs p n g vs steps) s = inl refl
    first_among (expr.nonsense p) s = inl refl

    place_among : (place : expr.Place) → IsPlaceSound nl place → IsAmong (place_token place) (place_positions place)
    place_among (expr.local_place p x) s = inl refl
    place_among (expr.global_place p n) s = inl refl
    place_among (expr.field_place p base tag field) s = inr (first_among base s.1)
    place_among expr.no_place s = absurd s
