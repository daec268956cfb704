-- What a call requires of its arguments, from the last to the first.
use Rattle.std.proofs.Common.{◌≡◌, ℕ, ◌+◌, ◌<◌, List, [], ◌∷◌, length, get_or, refl, sym, ap, ◌∙◌, arith, min}
use Rattle.std.specs.Prelude.{drop}
use Rattle.std.proofs.Math.Seq.{drop-cons, drop-length}
use Rattle.std.proofs.Math.Numerals.{suc-eq-add-one}
use Rattle.std.proofs.lemmas.List.{length-drop}
use Rattle.pungi_api.specs.declared.param.Param.{Param}
use Rattle.pungi_api.specs.declared.take.Take.{Take}
use Rattle.pungi_code.specs.declared.atom.Atom.{Atom}
use Rattle.pungi_symbol.specs.declared.states.known.Known.{Known}
use Rattle.pungi_symbol.specs.declared.questions.question.Question.{Question}
use Rattle.pungi_symbol.specs.states.Known.{term_of}
use Rattle.pungi_symbol.specs.questions.NextQuestion.{asks_set, asks_all_set, asks_param, asks_params, asks_take}
use Rattle.pungi_symbol.specs.questions.NextQuestion.{asks_takes, terms_of}

pub drop_here : {X : Type 0} (xs : List X) (i : ℕ) (d : X) → i < length xs → drop i xs ≡ get_or xs i d ∷ drop (i + 1) xs
drop_here xs i d h = drop-cons xs i d h ∙ ap (λ n. get_or xs i d ∷ drop n xs) (suc-eq-add-one i)

pub none_left : {X Y : Type 0} (xs : List X) (ys : List Y) (n : ℕ) → n ≡ min (length xs) (length ys)
    → min (length (drop n xs)) (length (drop n ys)) ≡ 0
none_left xs ys n e =
    let x = length-drop n xs in
    let y = length-drop n ys in
    omega (arith, e, x, y)

module _ (k : Known) (as' : List Atom) (q : Question) where
  pub set_step : (i : ℕ) (d : Atom) → i < length as'
      → asks_set (term_of k (get_or as' i d)) (asks_all_set (terms_of k (drop (i + 1) as')) q)
      ≡ asks_all_set (terms_of k (drop i as')) q
  set_step i d h = sym (ap (λ l. asks_all_set (terms_of k l) q) (drop_here as' i d h))

  pub set_end : asks_all_set (terms_of k (drop (length as') as')) q ≡ q
  set_end = ap (λ l. asks_all_set (terms_of k l) q) (drop-length as')

  module _ (ps : List Param) where
    pub needing_step : (i : ℕ) (p : Param) (d : Atom) → i < length ps → i < length as'
        → asks_param k (get_or ps i p) (term_of k (get_or as' i d)) (asks_params k (drop (i + 1) ps)
        (terms_of k (drop (i + 1) as')) q) ≡ asks_params k (drop i ps) (terms_of k (drop i as')) q
    needing_step i p d h g = sym (ap (λ l. asks_params k l (terms_of k (drop i as')) q) (drop_here ps i p h)
        ∙ ap (λ l. asks_params k (get_or ps i p ∷ drop (i + 1) ps) (terms_of k l) q) (drop_here as' i d g))

    needing_none : (ps : List Param) (bs : List Atom) → min (length ps) (length bs) ≡ 0
        → asks_params k ps (terms_of k bs) q ≡ q
    needing_none [] bs e = refl
    needing_none (p ∷ ps) [] e = refl
    needing_none (p ∷ ps) (b ∷ bs) e = absurd (omega (arith, e))

    pub needing_end : (n : ℕ) → n ≡ min (length ps) (length as')
        → asks_params k (drop n ps) (terms_of k (drop n as')) q ≡ q
    needing_end n e = needing_none (drop n ps) (drop n as') (none_left ps as' n e)

  module _ (ts : List Take) where
    pub taken_step : (i : ℕ) (t : Take) (d : Atom) → i < length ts → i < length as'
        → asks_take k (get_or ts i t) (term_of k (get_or as' i d)) (asks_takes k (drop (i + 1) ts)
        (terms_of k (drop (i + 1) as')) q) ≡ asks_takes k (drop i ts) (terms_of k (drop i as')) q
    taken_step i t d h g = sym (ap (λ l. asks_takes k l (terms_of k (drop i as')) q) (drop_here ts i t h)
        ∙ ap (λ l. asks_takes k (get_or ts i t ∷ drop (i + 1) ts) (terms_of k l) q) (drop_here as' i d g))

    taken_none : (ts : List Take) (bs : List Atom) → min (length ts) (length bs) ≡ 0
        → asks_takes k ts (terms_of k bs) q ≡ q
    taken_none [] bs e = refl
    taken_none (t ∷ ts) [] e = refl
    taken_none (t ∷ ts) (b ∷ bs) e = absurd (omega (arith, e))

    pub taken_end : (n : ℕ) → n ≡ min (length ts) (length as')
        → asks_takes k (drop n ts) (terms_of k (drop n as')) q ≡ q
    taken_end n e = taken_none (drop n ts) (drop n as') (none_left ts as' n e)
