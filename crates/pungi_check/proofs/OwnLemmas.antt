-- Where no name stands twice, each definition is the first of its name.
use Rattle.std.proofs.Common.{◌≡◌, ℕ, Bool, true, false, List, [], ◌∷◌, Some, sym, ap, subst, ◌∙◌}
use Rattle.std.specs.Prelude.{◌==◌, if◌then◌else◌}
use Rattle.pungi_types.specs.Files.{Definition, definition_in, AreOwn}
use Rattle.pungi_types.specs.Names.{is_among, with_word}
use Rattle.pungi_check.specs.Distinct.{are_new}
use Rattle.pungi_check.proofs.DistinctLemmas.{and-left, and-right, kept, keeps, not-both, is-false, is_word, same_word}

abbrev AreOthers : ℕ → List Definition → Type 0
AreOthers w [] = Unit {0}
AreOthers w (d ∷ ds) = ((w == d.name.0) ≡ false) × AreOthers w ds

others-of : (seen : List ℕ) (w : ℕ) (ds : List Definition) → is_among seen w ≡ true → are_new seen ds ≡ true
    → AreOthers w ds
others-of seen w [] among new = tt
others-of seen w (d ∷ ds) among new =
    let fresh : is_among seen d.name.0 ≡ false = and-left (is_among seen d.name.0)
    (are_new (with_word seen d.name.0) ds) new in
    let other : (w == d.name.0) ≡ false =
    is-false (w == d.name.0) (λ e. not-both (is_among seen d.name.0) (subst (λ (v : ℕ). is_among seen v ≡ true)
    (is_word w d.name.0 e) among) fresh) in (
      other,
      others-of (with_word seen d.name.0) w ds (keeps seen d.name.0 w among)
          (and-right (is_among seen d.name.0) (are_new (with_word seen d.name.0) ds) new),
    )

behind : (d : Definition) (whole ds : List Definition) → AreOthers d.name.0 ds → AreOwn whole ds → AreOwn (d ∷ whole) ds
behind d whole [] others own = tt
behind d whole (e ∷ ds) others own = (
  ap (λ (b : Bool). if b then Some d else definition_in whole e.name.0) others.0
      ∙ own.0,
  behind d whole ds others.1 own.1,
)

pub all-own : (seen : List ℕ) (ds : List Definition) → are_new seen ds ≡ true → AreOwn ds ds
all-own seen [] new = tt
all-own seen (d ∷ ds) new =
    let rest = and-right (is_among seen d.name.0) (are_new (with_word seen d.name.0) ds) new in (
      ap (λ (b : Bool). if b then Some d else definition_in ds d.name.0) (same_word d.name.0),
      behind d ds ds (others-of (with_word seen d.name.0) d.name.0 ds (kept seen d.name.0) rest)
          (all-own (with_word seen d.name.0) ds rest),
    )

-- the definitions of a list that is the whole
pub own-listed : (whole other listed : List Definition) → whole ≡ other → listed ≡ other → are_new [] other ≡ true
    → AreOwn whole listed
own-listed whole other listed same is new =
    subst (λ (ds : List Definition). AreOwn ds listed) (sym same) (subst (λ (ds : List Definition). AreOwn other ds)
    (sym is) (all-own [] other new))
