use Rattle.std.proofs.Common.{◌≡◌, ◌∙◌, ◌+◌, ◌<◌, ◌++◌, ◌∷◌, [], ℕ, zero, suc, true, false, List, drop, get_or, length, refl}
use Rattle.std.proofs.Common.{sym, ap, arith, append_assoc}
use Rattle.pungi_shape.specs.declared.holding.Holding.{Holding}
use Rattle.pungi_shape.specs.declared.holding.Holding.TheVariants.{Dead}
use Rattle.pungi_shape.specs.Arrivals.{numbers_kept}
use Rattle.pungi_shape.specs.Forms.{Form}
use Rattle.pungi_shape.specs.Shapes.{is_number}
use Rattle.pungi_shape.proofs.arrivals.push_all_kept.Goals as goal
use Rattle.pungi_shape.proofs.arrivals.push_all_kept.Goals.{then-is_number+in_ok-copy+in_ok-push, else-is_number}

number_at : (hs : List Holding) (fs : List Form) (i : ℕ) (h : Holding) (f : Form) → i < length hs
    → length fs ≡ length hs → is_number (get_or hs i h) ≡ true
    → numbers_kept (drop i hs) (drop i fs) ≡ get_or fs i f ∷ numbers_kept (drop (i + 1) hs) (drop (i + 1) fs)
number_at [] fs i h f lt same is = absurd (omega arith)
number_at (k ∷ hs) [] i h f lt same is = absurd (omega (arith, same))
number_at (k ∷ hs) (g ∷ fs) zero h f lt same is = rw is refl
number_at (k ∷ hs) (g ∷ fs) (suc i) h f lt same is =
    let e : suc i + 1 ≡ suc (i + 1) = omega arith in
    rw e (number_at hs fs i h f (omega (arith, lt)) (omega (arith, same)) is)

no_number_at : (hs : List Holding) (fs : List Form) (i : ℕ) (h : Holding) → i < length hs
    → length fs ≡ length hs → is_number (get_or hs i h) ≡ false
    → numbers_kept (drop i hs) (drop i fs) ≡ numbers_kept (drop (i + 1) hs) (drop (i + 1) fs)
no_number_at [] fs i h lt same is = absurd (omega arith)
no_number_at (k ∷ hs) [] i h lt same is = absurd (omega (arith, same))
no_number_at (k ∷ hs) (g ∷ fs) zero h lt same is = rw is refl
no_number_at (k ∷ hs) (g ∷ fs) (suc i) h lt same is =
    let e : suc i + 1 ≡ suc (i + 1) = omega arith in
    rw e (no_number_at hs fs i h (omega (arith, lt)) (omega (arith, same)) is)

pub loop-i-preserved : goal.loop-i-preserved
loop-i-preserved c =
    let i = c.loop-i.i in
    let hs = c.args.holdings.now in
    let fs = c.args.forms.now in
    let rows = c.loop-i.rows in
    let rest = numbers_kept (drop (i + 1) hs) (drop (i + 1) fs) in
    elim c.if-is_number.branch [
      | then-is_number+in_ok-copy+in_ok-push w ↦
          let f = w.index-forms-i.result in
          let here : numbers_kept (drop i hs) (drop i fs) ≡ f ∷ rest =
          number_at hs fs i Dead f c.loop-i-test.true c.requires (sym c.is_number.ensures ∙ w.if-is_number.true)
          ∙ ap (λ (g : Form). g ∷ rest) (sym w.index-forms-i.is) in
          rw (w.rows-is, w.in_ok-push.ensures.ok, w.in_ok-copy.ensures) (append_assoc rows (f ∷ []) rest
          ∙ (ap (λ (l : List Form). rows ++ l) (sym here) ∙ c.loop-i.invariant))
      | else-is_number w ↦
          let here = no_number_at hs fs i Dead c.loop-i-test.true c.requires
          (sym c.is_number.ensures ∙ w.if-is_number.false) in
          rw w.rows-is (ap (λ (l : List Form). rows ++ l) (sym here) ∙ c.loop-i.invariant)
    ]
