-- How reading a table goes on at each token.
use Rattle.std.proofs.Common.{◌≡◌, List, [], ◌∷◌, ◌++◌, Option, Some, None, refl, sym, ap, ◌∙◌, append_assoc, length}
use Rattle.std.proofs.Common.{arith}
use Rattle.std.proofs.lemmas.List.{append-nil}
use Rattle.pungi_base.specs.declared.pos.Pos.{Pos}
use Rattle.pungi_base.specs.declared.punct.Punct.{Punct}
use Rattle.pungi_base.specs.declared.punct.Punct.TheVariants as puncts
use Rattle.pungi_base.specs.declared.token.Token.{Token}
use Rattle.pungi_parse.specs.tokens.OneToken.{eat}
use Rattle.pungi_parse.specs.Gives.{Fails}
use Rattle.pungi_parse.specs.Reading.{Read, ◌>>=◌, chain, on_some}
use Rattle.pungi_parse.specs.stmt.StmtReader.{table_in}
use Rattle.pungi_parse.specs.stmt.Table.{with_tokens, closing_here}
use Rattle.pungi_parse.specs.declared.stop.Stop.{Stop}
use Rattle.pungi_parse.specs.declared.stop.Stop.TheVariants as stops
use Rattle.pungi_tree.specs.Balanced.{awaited_after}
use Rattle.pungi_tree.specs.Placed.{Placed, placed}

pub with_none : (read : Read (List Placed)) → with_tokens [] read ≡ read
unfolding chain
with_none None = refl
with_none (Some x) = refl

pub with_more : (found : List Placed) (t : Placed) (read : Read (List Placed))
    → with_tokens found (chain read (λ more. Some (t ∷ more.0, more.1))) ≡ with_tokens (found ++ t ∷ []) read
unfolding chain
with_more found t None = refl
with_more found t (Some x) = ap (λ (zs : List Placed). Some (zs, x.1)) (sym (append_assoc found (t ∷ []) x.0))

pub table_step : (awaited : List Punct) (t : Placed) (ts : List Placed) → closing_here awaited (t ∷ ts) ≡ None
    → table_in awaited (t ∷ ts) ≡ chain (awaited_after t.0 awaited) (λ after. chain (table_in after ts)
    (λ more. Some (t ∷ more.0, more.1)))
unfolding table_in on_some
table_step [] t ts h = rw h refl
table_step (m ∷ ms) t ts h = refl

some_more : (found : List Placed) (after : List Punct) (t : Placed) (ts : List Placed)
    → with_tokens found (chain (Some after) (λ after. chain (table_in after ts)
    (λ more. Some (t ∷ more.0, more.1)))) ≡ with_tokens found (chain (table_in after ts)
    (λ more. Some (t ∷ more.0, more.1)))
unfolding chain
some_more found after t ts = refl

pub table_turn : (found : List Placed) (awaited after : List Punct) (t : Placed) (ts : List Placed)
    (whole : Read (List Placed))
    → with_tokens found (table_in awaited (t ∷ ts)) ≡ whole → closing_here awaited (t ∷ ts) ≡ None
    → awaited_after t.0 awaited ≡ Some after
    → with_tokens (found ++ t ∷ []) (table_in after ts) ≡ whole
table_turn found awaited after t ts whole h none e =
    let step : table_in awaited (t ∷ ts) ≡ chain (Some after) (λ after. chain (table_in after ts)
    (λ more. Some (t ∷ more.0, more.1))) = table_step awaited t ts none
    ∙ ap (λ (o : Option (List Punct)). chain o (λ after. chain (table_in after ts)
    (λ more. Some (t ∷ more.0, more.1)))) e in
    sym (with_more found t (table_in after ts)) ∙ sym (some_more found after t ts)
    ∙ ap (with_tokens found) (sym step) ∙ h

pub table_fails : (found : List Placed) (awaited : List Punct) (t : Placed) (ts : List Placed)
    (whole : Read (List Placed)) (e : Stop)
    → with_tokens found (table_in awaited (t ∷ ts)) ≡ whole → closing_here awaited (t ∷ ts) ≡ None
    → Fails e (awaited_after t.0 awaited) → Fails e whole
unfolding chain
table_fails found awaited t ts whole stops.Memory h none f = tt
table_fails found awaited t ts whole stops.NothingRead h none f =
    let step : table_in awaited (t ∷ ts) ≡ None = table_step awaited t ts none
    ∙ ap (λ (o : Option (List Punct)). chain o (λ after. chain (table_in after ts)
    (λ more. Some (t ∷ more.0, more.1)))) f in
    sym h ∙ ap (with_tokens found) step

pub table_ends : (found : List Placed) (awaited : List Punct) (ts : List Placed) (whole : Read (List Placed))
    (p : Pos) (rest : List Placed)
    → with_tokens found (table_in awaited ts) ≡ whole → closing_here awaited ts ≡ Some (p, rest)
    → whole ≡ Some (found, rest)
unfolding table_in on_some chain
table_ends found [] [] whole p rest h e = absurd (cc)
table_ends found [] (t ∷ ts) whole p rest h e =
    sym h ∙ rw e (ap (λ (zs : List Placed). Some (zs, rest)) (append-nil found))
table_ends found (m ∷ ms) ts whole p rest h e = absurd (cc)

pub table_open : (found : List Placed) (awaited : List Punct) (ts : List Token) (whole : Read (List Placed))
    → with_tokens found (table_in awaited (placed ts)) ≡ whole → length ts ≡ 0 → whole ≡ None
unfolding table_in chain
table_open found awaited [] whole h e = sym h
table_open found awaited (t ∷ ts) whole h e = absurd (omega arith)
