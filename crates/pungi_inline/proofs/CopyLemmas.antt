-- What the loops over a copy have left.
use Rattle.std.proofs.Common.{◌≡◌, ℕ, ◌+◌, ◌-◌, ◌<◌, suc, ◌∷◌, ap, ◌∙◌, arith}
use Rattle.pungi_base.specs.declared.pos.Pos.{Pos}
use Rattle.pungi_code.specs.declared.instr.Instr.TheVariants.{Unset}
use Rattle.pungi_inline.specs.Copies.{unset}
use Rattle.pungi_inline.specs.Moved.{var_in, line}

-- one variable less is unset
pub unset_more : (p : Pos) (w first n count : ℕ) → n < count
    → unset p w (first + n) (count - n)
    ≡ line p (Unset (var_in w (first + n))) ∷ unset p w (first + (n + 1)) (count - (n + 1))
unset_more p w first n count lt =
    let e : count - n ≡ suc (count - (n + 1)) = omega arith in
    let next : first + n + 1 ≡ first + (n + 1) = omega arith in
    ap (unset p w (first + n)) e
    ∙ ap (λ m. line p (Unset (var_in w (first + n))) ∷ unset p w m (count - (n + 1))) next
