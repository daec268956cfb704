-- The finding and the node of a function of a list.
use Rattle.std.proofs.Common.{◌≡◌, ◌<◌, ℕ, zero, suc, List, [], ◌∷◌, length, map, get_or, slice_index_or, Option, Some}
use Rattle.std.proofs.Common.{None, refl, sym, ap, subst, ◌∙◌, arith}
use Rattle.std.specs.Prelude.{slice_get, option_map}
use Rattle.std.specs.Borrow.{Bor}
use Rattle.std.proofs.lemmas.Option.{slice_get-map, slice_get-get_or}
use Rattle.pungi_tree.specs.declared.item.FunctionDef.{FunctionDef}
use Rattle.pungi_declared.specs.DeclaredView.{function_view}
use Rattle.pungi_types.specs.Files.{Definition}
use Rattle.pungi_types.specs.declared.finding.Finding.{Finding}
use Rattle.pungi_check.specs.declared.call_node.CallNode.{CallNode}
use Rattle.pungi_check.specs.Graph.{Node, node_view}

finding-in : (list : List (Bor FunctionDef)) (g : Definition → Option Finding) (i : ℕ) (f : Bor FunctionDef)
    → i < length list → f ≡ get_or list i f
    → slice_index_or (map g (map function_view list)) i None ≡ g (function_view f)
finding-in [] g i f lt is = absurd (omega (arith, lt))
finding-in (x ∷ list) g zero f lt is = ap (λ (y : Bor FunctionDef). g (function_view y)) (sym is)
finding-in (x ∷ list) g (suc i) f lt is = finding-in list g i f (omega (arith, lt)) is

pub finding-of : (list : List (Bor FunctionDef)) (g : Definition → Option Finding) (all : List (Option Finding))
    (i : ℕ) (f : Bor FunctionDef)
    → all ≡ map g (map function_view list) → i < length list → f ≡ get_or list i f
    → slice_index_or all i None ≡ g (function_view f)
finding-of list g all i f same lt is =
    subst (λ (ts : List (Option Finding)). slice_index_or ts i None ≡ g (function_view f)) (sym same)
    (finding-in list g i f lt is)

mapped-long : {A B : Type 0} (g : A → B) (xs : List A) → length (map g xs) ≡ length xs
mapped-long g [] = refl
mapped-long g (x ∷ xs) = ap suc (mapped-long g xs)

same-some : {A : Type 0} (x y : A) → Some x ≡ Some y → x ≡ y
same-some x y e = cc

mapped-at : {A B : Type 0} (g : A → B) (xs : List A) (i : ℕ) (x : A) → slice_get xs i ≡ Some x
    → slice_get (map g xs) i ≡ Some (g x)
mapped-at g xs i x e = slice_get-map g xs i ∙ ap (option_map g) e

at-index : {A : Type 0} (xs : List A) (i : ℕ) (x : A) → i < length xs → x ≡ get_or xs i x → slice_get xs i ≡ Some x
at-index {A = A} xs i x lt is = slice_get-get_or xs i x lt ∙ ap (λ (y : A). Some y) (sym is)

pub node-of : (list : List (Bor FunctionDef)) (g : Definition → Node) (all : List CallNode) (i : ℕ)
    (f : Bor FunctionDef) (n : CallNode)
    → map node_view all ≡ map g (map function_view list) → i < length list → f ≡ get_or list i f
    → n ≡ get_or all i n → node_view n ≡ g (function_view f)
node-of list g all i f n same lt is at =
    let long : length all ≡ length list =
    sym (mapped-long node_view all) ∙ ap (λ (ns : List Node). length ns) same
    ∙ mapped-long g (map function_view list) ∙ mapped-long function_view list in
    let here : slice_get (map node_view all) i ≡ Some (node_view n) = mapped-at node_view all i n
    (at-index all i n (omega (arith, long, lt)) at) in
    let there : slice_get (map g (map function_view list)) i ≡ Some (g (function_view f)) =
    mapped-at g (map function_view list) i (function_view f) (mapped-at function_view list i f
    (at-index list i f lt is)) in
    same-some (node_view n) (g (function_view f)) (sym here ∙ ap (λ (ns : List Node). slice_get ns i) same ∙ there)
