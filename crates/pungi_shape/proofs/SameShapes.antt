-- What is joined in a shape doesn't depend on the numbers.
use Rattle.std.proofs.Common.{◌≡◌, ◌∙◌, ◌==◌, Bool, true, false, List, [], ◌∷◌, ◌++◌, Option, None, Some}
use Rattle.std.proofs.Common.{if◌then◌else◌, ◌&&◌, get_or, map, refl, sym, ap}
use Rattle.std.specs.Map.{lookup}
use Rattle.pungi_code.specs.declared.atom.Atom.{Atom}
use Rattle.pungi_code.specs.declared.atom.Atom.TheVariants as atom
use Rattle.pungi_shape.specs.declared.holding.Holding.{Holding}
use Rattle.pungi_shape.specs.declared.holding.Holding.TheVariants.{Dead, Unset, Null, Text, Known, Number, Token}
use Rattle.pungi_shape.specs.declared.shape.Shape.{Shape}
use Rattle.pungi_shape.specs.Exits.{are_alike, arguments_of, atom_of, join_all, join_holdings, join_one, join_with}
use Rattle.pungi_shape.specs.Exits.{may_leave, statics_differ}
use Rattle.pungi_shape.specs.Scenes.{Scene, holding_of, merge, or_unset, shape_of_merge}

pub holding_of-shape : (s t : Scene) (a : Atom) → s.shape ≡ t.shape → holding_of s a ≡ holding_of t a
holding_of-shape s t (atom.Var x) e = ap (λ (p : Shape). get_or p.vars x.0 Unset) e
holding_of-shape s t (atom.Int n) e = refl
holding_of-shape s t atom.Null e = refl
holding_of-shape s t atom.Text e = refl
holding_of-shape s t (atom.Static k) e = ap (λ (p : Shape). or_unset (lookup (λ j. j == k) p.statics)) e

join_holdings-shape : (h k : Holding) (s t : Scene) → s.shape ≡ t.shape
    → (join_holdings h k s).shape ≡ (join_holdings h k t).shape
join_holdings-shape (Token t) (Token u) r s e = go (t == u)
  where
    go : (b : Bool) → (if b then r else merge t u r).shape ≡ (if b then s else merge t u s).shape
    go true = e
    go false = ap (shape_of_merge t u) e
join_holdings-shape (Token t) Dead r s e = e
join_holdings-shape (Token t) Unset r s e = e
join_holdings-shape (Token t) Null r s e = e
join_holdings-shape (Token t) Text r s e = e
join_holdings-shape (Token t) (Known m) r s e = e
join_holdings-shape (Token t) Number r s e = e
join_holdings-shape Dead k r s e = e
join_holdings-shape Unset k r s e = e
join_holdings-shape Null k r s e = e
join_holdings-shape Text k r s e = e
join_holdings-shape (Known m) k r s e = e
join_holdings-shape Number k r s e = e

join_one-shape : (o : Option Atom) (a : Atom) (s t : Scene) → s.shape ≡ t.shape
    → (join_one o a s).shape ≡ (join_one o a t).shape
join_one-shape None a s t e = e
join_one-shape (Some b) a s t e =
    ap (λ (h : Holding). (join_holdings h (holding_of s a) s).shape) (holding_of-shape s t b e)
    ∙ ap (λ (k : Holding). (join_holdings (holding_of t b) k s).shape) (holding_of-shape s t a e)
    ∙ join_holdings-shape (holding_of t b) (holding_of t a) s t e

join_with-shape : (before : List (Holding × Atom)) (h : Holding) (a : Atom) (s t : Scene) → s.shape ≡ t.shape
    → (join_with before h a s).shape ≡ (join_with before h a t).shape
join_with-shape before (Token u) a s t e = join_one-shape (atom_of u before) a s t e
join_with-shape before Dead a s t e = e
join_with-shape before Unset a s t e = e
join_with-shape before Null a s t e = e
join_with-shape before Text a s t e = e
join_with-shape before (Known m) a s t e = e
join_with-shape before Number a s t e = e

pub join_all-shape : (before ps : List (Holding × Atom)) (s t : Scene) → s.shape ≡ t.shape
    → (join_all before ps s).shape ≡ (join_all before ps t).shape
join_all-shape before [] s t e = e
join_all-shape before (p ∷ ps) s t e =
    join_all-shape (before ++ p ∷ []) ps (join_with before p.0 p.1 s) (join_with before p.0 p.1 t)
    (join_with-shape before p.0 p.1 s t e)

-- where the arguments are alike, whether an exit is one is decided by the static objects
pub left_last : (e : Shape) (as' : List Atom) (s t : Scene) → are_alike e.entry (map (holding_of t) as') ≡ true
    → s.shape ≡ t.shape → statics_differ (join_all [] (arguments_of e as') s).shape ≡ may_leave e as' t
left_last e as' s t alike same =
    let ps = arguments_of e as' in
    ap (λ (p : Shape). statics_differ p) (join_all-shape [] ps s t same)
    ∙ sym (ap (λ (z : Bool). z && statics_differ (join_all [] ps t).shape) alike)

pub left_unlike : (e : Shape) (as' : List Atom) (t : Scene) → are_alike e.entry (map (holding_of t) as') ≡ false
    → false ≡ may_leave e as' t
left_unlike e as' t unlike =
    sym (ap (λ (z : Bool). z && statics_differ (join_all [] (arguments_of e as') t).shape) unlike)
