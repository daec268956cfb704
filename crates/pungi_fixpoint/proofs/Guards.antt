-- Values that meet equations in order.
--   met_on       one more equation, at the end
--   large_on     meeting the next equation is large
--   met_step, large_step    the same for the first equations of a list
--   covers_at    the same cover under an equal width
use Rattle.std.proofs.Common.{◌≡◌, inl, inr, ℕ, true, ◌+◌, ◌<◌, ℤ, Bool, List, [], ◌∷◌, ◌++◌, length, get_or, take}
use Rattle.std.proofs.Common.{drop}
use Rattle.std.proofs.Common.{refl, sym, ap, subst, ◌∙◌, take-append-drop}
use Rattle.std.proofs.lemmas.List.{take_more, drop_more}
use Rattle.pungi_domain.specs.Builds.{Covers, IsMet, LargeMet}
use Rattle.pungi_domain.specs.Spans.{LargeMeet}
use Rattle.pungi_domain.specs.Vectors.{Vector, Vectors, Follows, Meeting}
use Rattle.pungi_domain.specs.declared.equation.Equation.{Equation}

met_on : {S : Type 0} (least : Bool) (member : S → Vectors) (w : ℕ) (es : List Equation) (e : Equation) (s m t : S)
    → IsMet least member w es s m → Covers least w (Meeting e.coefficients (member m)) (member t)
    → IsMet least member w (es ++ e ∷ []) s t
met_on least member w [] e s m t h k =
    (t, subst (λ x. Covers least w (Meeting e.coefficients (member x)) (member t)) h k, refl)
met_on least member w (d ∷ es) e s m t h k = (h.0, h.1, met_on least member w es e h.0 m t h.2 k)

large_on : {S : Type 0} (least : Bool) (member : S → Vectors) (w : ℕ) (es : List Equation) (e : Equation)
    (ds : List Equation) (s m : S) (r : List ℤ) → IsMet least member w es s m
    → LargeMeet w e.coefficients (member m) r → LargeMet least member w (es ++ (e ∷ ds)) s r
large_on least member w [] e ds s m r h k = inl (subst (λ x. LargeMeet w e.coefficients (member x) r) h k)
large_on least member w (d ∷ es) e ds s m r h k = inr (h.0, h.1, large_on least member w es e ds h.0 m r h.2 k)

pub met_step : {S : Type 0} (least : Bool) (member : S → Vectors) (w : ℕ) (es : List Equation) (i : ℕ) (e : Equation)
    (s m t : S) → i < length es → e ≡ get_or es i e → IsMet least member w (take i es) s m
    → Covers least w (Meeting e.coefficients (member m)) (member t) → IsMet least member w (take (i + 1) es) s t
met_step least member w es i e s m t lt is h k =
    subst (λ l. IsMet least member w l s t)
    (ap (λ x. take i es ++ x ∷ []) is ∙ sym (take_more es i e lt)) (met_on least member w (take i es) e s m t h k)

pub large_step : {S : Type 0} (least : Bool) (member : S → Vectors) (w : ℕ) (es : List Equation) (i : ℕ)
    (e : Equation) (s m : S) (r : List ℤ) → i < length es → e ≡ get_or es i e → IsMet least member w (take i es) s m
    → LargeMeet w e.coefficients (member m) r → LargeMet least member w es s r
large_step least member w es i e s m r lt is h k =
    subst (λ l. LargeMet least member w l s r)
    (ap (λ x. take i es ++ (x ∷ drop (i + 1) es)) is ∙ ap (λ l. take i es ++ l) (sym (drop_more es i e lt))
    ∙ take-append-drop i es) (large_on least member w (take i es) e (drop (i + 1) es) s m r h k)

pub covers_at : (least : Bool) (w z : ℕ) (G T : Vectors) → w ≡ z → ((v : Vector) → G v → T v)
    → (least ≡ true → Follows w G T) → Covers least z G T
covers_at least w z G T e h k = (h, subst (λ n. least ≡ true → Follows n G T) e k)
