-- The exit class of a call edge is one of each program of the called function.
use Rattle.std.proofs.Common.{◌≡◌, ◌∙◌, ℕ, suc, ◌<◌, List, [], ◌∷◌, refl, Some, get_or, length, map, ap, sym, subst}
use Rattle.std.proofs.Common.{arith, slice_get}
use Rattle.std.specs.List.{IsAmong, slice_index_or}
use Rattle.std.proofs.lemmas.List.{get_or-map}
use Rattle.std.proofs.lemmas.List.Elements.{All-get_or}
use Rattle.std.proofs.lemmas.Option.{get_or_from_slice_get, slice_get_within}
use Rattle.pungi_domain.specs.declared.affine_program.AffineProgram.{AffineProgram}
use Rattle.pungi_code.specs.declared.code.Codes.{Codes}
use Rattle.pungi_shape.specs.declared.shape.Shape.{Shape}
use Rattle.pungi_shape.specs.Callables.{IsClassCall}
use Rattle.pungi_shape.specs.Edges.{to_exit}
use Rattle.pungi_shape.specs.Programs.{AreExits, IsFound, IsProgram, exit_cmp}
use Rattle.pungi_shape.specs.Shapes.{width_of}
use Rattle.pungi_shape.proofs.RiseLemmas.{exit-total, rises-number}
use Rattle.pungi_shape.proofs.sound.ExitNumbers.{one_number}

mapped_long : (xs : List Shape) → length (map width_of xs) ≡ length xs
mapped_long [] = refl
mapped_long (x ∷ xs) = ap suc (mapped_long xs)

pub call_fits : (codes : Codes) (others : ℕ → List Shape) (f g n : ℕ) (onto : List ℕ) (p : AffineProgram)
    → IsClassCall codes others f g n onto → AreExits codes g (others g) → IsProgram codes g p
    → (n < length p.exits) × (slice_index_or p.exits n 0 ≡ length onto)
call_fits codes others f g n onto p call are is =
    let zs = others g in
    let xs = is.exits in
    let x = call.exit in
    let within = slice_get_within zs n x call.is_exit in
    let at = get_or_from_slice_get zs n x x call.is_exit in
    let found : IsFound codes g (to_exit x) = subst (λ z. IsFound codes g (to_exit z)) at
    (All-get_or (λ z. IsFound codes g (to_exit z)) zs n x within are.found) in
    let there : IsAmong xs x = is.are_exits.all x found in
    let one = one_number codes g xs zs is.are_exits are x found in
    let this = rises-number exit_cmp exit-total xs is.are_exits.rise x there in
    let that = rises-number exit_cmp exit-total zs are.rise x (n, (within, sym at)) in
    let same : there.0 ≡ n = sym this ∙ one ∙ that in
    let lt : n < length xs = subst (λ k. k < length xs) same there.1.0 in
    let exits : p.exits ≡ map width_of xs = ap (λ (q : AffineProgram). q.exits) is.program in (
      subst (λ (ws : List ℕ). n < length ws) (sym exits) (subst (λ k. n < k) (sym (mapped_long xs)) lt),
      ap (λ (ws : List ℕ). slice_index_or ws n 0) exits ∙ get_or-map width_of xs n x 0 lt
          ∙ ap width_of (ap (λ k. get_or xs k x) (sym same) ∙ sym there.1.1) ∙ sym call.width,
    )
