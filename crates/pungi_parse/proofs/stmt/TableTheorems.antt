-- The tokens of a table are read up to the brace that closes it: a brace that nothing in the table opened.
use Rattle.std.proofs.Common.{◌≡◌, Bool, true, inl, inr, List, [], ◌∷◌, ◌++◌, Option, Some, None, refl, ◌∙◌, ap, subst}
use Rattle.pungi_base.specs.declared.pos.Pos.{Pos}
use Rattle.pungi_base.specs.declared.punct.Punct.{Punct}
use Rattle.pungi_base.specs.declared.punct.Punct.TheVariants as puncts
use Rattle.pungi_parse.specs.tokens.OneToken.{eat}
use Rattle.pungi_parse.specs.Reading.{chain, on_some}
use Rattle.pungi_parse.specs.stmt.StmtReader.{table_in}
use Rattle.pungi_parse.proofs.tokens.Eaten.{eat_some}
use Rattle.pungi_parse.proofs.Tools.{bind_some, on_some_cases, some_same}
use Rattle.pungi_tree.specs.Balanced.{awaited_after, holds_of, closes}
use Rattle.pungi_tree.specs.Placed.{Placed, mark_at}

-- the tokens of a table close the brackets that are awaited, and then comes the brace
pub record ReadsTable (awaited : List Punct) (ts : List Placed) (x : List Placed × List Placed) : Type 0 where
  pub close : Pos
  pub stands : ts ≡ x.0 ++ mark_at puncts.RightBrace close ∷ x.1
  pub closed : closes x.0 awaited ≡ true

one_more : (awaited after : List Punct) (t : Placed) (ts : List Placed) (more x : List Placed × List Placed)
    → awaited_after t.0 awaited ≡ Some after → ReadsTable after ts more → Some (t ∷ more.0, more.1) ≡ Some x
    → ReadsTable awaited (t ∷ ts) x
one_more awaited after t ts more x a r h =
    subst (ReadsTable awaited (t ∷ ts)) (some_same (t ∷ more.0, more.1) x h)
    (record {
      close = r.close;
      stands = ap (λ z. t ∷ z) r.stands;
      closed = ap (λ o. holds_of o (closes more.0)) a
          ∙ r.closed;
    })

pub table_sound : (awaited : List Punct) (ts : List Placed) (x : List Placed × List Placed)
    → table_in awaited ts ≡ Some x → ReadsTable awaited ts x
unfolding table_in
table_sound awaited [] x h = absurd (cc)
table_sound (m ∷ ms) (t ∷ ts) x h =
    let a = bind_some _ _ _ h in
    let more = bind_some _ _ _ a.2 in
    one_more (m ∷ ms) a.0 t ts more.0 x a.1 (table_sound a.0 ts more.0 more.1) more.2
table_sound [] (t ∷ ts) x h = elim (on_some_cases _ _ _ _ h) [
  | inl c ↦
      subst (ReadsTable [] (t ∷ ts)) (some_same ([], c.0.1) x c.2)
      (record { close = c.0.0; stands = eat_some puncts.RightBrace (t ∷ ts) c.0 c.1; closed = refl })
  | inr n ↦
      let a = bind_some _ _ _ n.1 in
      let more = bind_some _ _ _ a.2 in
      one_more [] a.0 t ts more.0 x a.1 (table_sound a.0 ts more.0 more.1) more.2
]

-- where one bracket of a table was read, the others close what is awaited then
after_one : (o : Option (List Punct)) (test : List Punct → Bool) → holds_of o test ≡ true
    → (after : List Punct) × (o ≡ Some after) × (test after ≡ true)
after_one None test h = absurd (cc)
after_one (Some after) test h = (after, refl, h)

-- a brace that is awaited by nothing is no part of a table
no_brace : (t : Placed) (ts : List Placed) (after : List Punct) → awaited_after t.0 [] ≡ Some after
    → eat puncts.RightBrace (t ∷ ts) ≡ None
no_brace t ts after h = by_what (eat puncts.RightBrace (t ∷ ts)) refl
  where
    by_what : (o : Option (Pos × List Placed)) → eat puncts.RightBrace (t ∷ ts) ≡ o
        → eat puncts.RightBrace (t ∷ ts) ≡ None
    by_what None e = e
    by_what (Some x) e =
        let s : t ∷ ts ≡ mark_at puncts.RightBrace x.0 ∷ x.1 = eat_some puncts.RightBrace (t ∷ ts) x e in
        let k : t ≡ mark_at puncts.RightBrace x.0 = cc in
        let n : awaited_after (mark_at puncts.RightBrace x.0).0 []
        ≡ Some after = subst (λ z. awaited_after z.0 [] ≡ Some after) k h in
        absurd (cc)

pub table_complete : (awaited : List Punct) (ks rest : List Placed) (q : Pos) → closes ks awaited ≡ true
    → table_in awaited (ks ++ mark_at puncts.RightBrace q ∷ rest) ≡ Some (ks, rest)
unfolding table_in chain on_some
table_complete [] [] rest q h = refl
table_complete (m ∷ ms) [] rest q h = absurd (cc)
table_complete [] (k ∷ ks) rest q h =
    let a = after_one (awaited_after k.0 []) (closes ks) h in
    rw (no_brace k (ks ++ mark_at puncts.RightBrace q ∷ rest) a.0 a.1, a.1, table_complete a.0 ks rest q a.2) refl
table_complete (m ∷ ms) (k ∷ ks) rest q h =
    let a = after_one (awaited_after k.0 (m ∷ ms)) (closes ks) h in
    rw (a.1, table_complete a.0 ks rest q a.2) refl
