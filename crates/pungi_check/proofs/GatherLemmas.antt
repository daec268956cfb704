-- One more function of those whose names are gathered.
use Rattle.std.proofs.Common.{◌≡◌, ◌<◌, ℕ, zero, suc, ◌+◌, Bool, true, false, List, [], ◌∷◌, length, map, get_or, drop}
use Rattle.std.proofs.Common.{drop-cons, refl, sym, ap, ◌∙◌, arith}
use Rattle.std.specs.Prelude.{if◌then◌else◌}
use Rattle.std.specs.Borrow.{Bor}
use Rattle.pungi_tree.specs.declared.item.FunctionDef.{FunctionDef}
use Rattle.pungi_declared.specs.DeclaredView.{function_view}
use Rattle.pungi_types.specs.Files.{Definition}
use Rattle.pungi_types.specs.Names.{with_word}
use Rattle.pungi_check.specs.Graph.{with_marked}

none-gathered : (ws : List ℕ) (ds : List Definition) → with_marked ws ds [] ≡ ws
none-gathered ws [] = refl
none-gathered ws (d ∷ ds) = refl

next-of : (i : ℕ) → suc (i + 1) ≡ suc i + 1
next-of i = omega arith

none-left : (n : ℕ) → ◌≡◌ {A = List Bool} (drop n []) []
none-left zero = refl
none-left (suc n) = refl

pub gathered-next : (ws : List ℕ) (d : Definition) (ds : List Definition) (marks : List Bool) (i : ℕ)
    → with_marked ws (d ∷ ds) (drop i marks) ≡ with_marked (if get_or marks i false then with_word ws d.name.0 else
    ws) ds (drop (i + 1) marks)
gathered-next ws d ds [] zero = sym (none-gathered ws ds)
gathered-next ws d ds [] (suc i) =
    sym (ap (λ (ms : List Bool). with_marked ws ds ms) (none-left (suc i + 1)) ∙ none-gathered ws ds)
gathered-next ws d ds (true ∷ marks) zero = refl
gathered-next ws d ds (false ∷ marks) zero = refl
gathered-next ws d ds (m ∷ marks) (suc i) =
    gathered-next ws d ds marks i ∙ ap (λ (n : ℕ). with_marked (if get_or marks i false then with_word ws d.name.0
    else ws) ds (drop n (m ∷ marks))) (next-of i)

from-here : (list : List (Bor FunctionDef)) (i : ℕ) (f : Bor FunctionDef) → i < length list → f ≡ get_or list i f
    → drop i list ≡ f ∷ drop (i + 1) list
from-here list i f lt is = grind (arith, drop-cons list i f)

pub gathered-step : (list : List (Bor FunctionDef)) (marks : List Bool) (ws new whole : List ℕ) (i : ℕ)
    (f : Bor FunctionDef) (m : Bool) → i < length list → f ≡ get_or list i f
    → m ≡ get_or marks i false → new ≡ (if m then with_word ws (function_view f).name.0 else ws)
    → with_marked ws (map function_view (drop i list)) (drop i marks) ≡ whole
    → with_marked new (map function_view (drop (i + 1) list)) (drop (i + 1) marks) ≡ whole
gathered-step list marks ws new whole i f m lt is marked kept so_far =
    let d = function_view f in
    let ds = map function_view (drop (i + 1) list) in
    ap (λ (vs : List ℕ). with_marked vs ds (drop (i + 1) marks)) kept
    ∙ ap (λ (b : Bool). with_marked (if b then with_word ws d.name.0 else ws) ds (drop (i + 1) marks)) marked
    ∙ sym (gathered-next ws d ds marks i)
    ∙ sym (ap (λ (l : List (Bor FunctionDef)). with_marked ws (map function_view l) (drop i marks))
    (from-here list i f lt is))
    ∙ so_far
