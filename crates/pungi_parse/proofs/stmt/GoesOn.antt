-- A statement that is read up to the first one in it, and goes on from there, is read as a statement is.
use Rattle.std.proofs.Common.{◌≡◌, ℕ, List, Option, Some, None, refl, sym, ap, ◌∙◌}
use Rattle.pungi_base.specs.declared.key.Key.TheVariants as keys
use Rattle.pungi_base.specs.declared.names.Name.{Name}
use Rattle.pungi_base.specs.declared.pos.Pos.{Pos}
use Rattle.pungi_base.specs.declared.punct.Punct.TheVariants as puncts
use Rattle.pungi_parse.specs.stmt.Begun.{Head, Begun, whole, braced, branched, headed, while_head, do_head, for_head}
use Rattle.pungi_parse.specs.stmt.Begun.{switch_head, case_head, default_head, label_head, branch_front, while_front}
use Rattle.pungi_parse.specs.stmt.Begun.{for_head_at, for_front, switch_front, case_front, default_front, whole_at}
use Rattle.pungi_parse.specs.stmt.Begun.{label_or_whole, begin_at, do_end, finish_at, branch_rest, go_on}
use Rattle.pungi_parse.specs.tokens.OneToken.{eat, eat_key}
use Rattle.pungi_parse.specs.Gives.{Fails}
use Rattle.pungi_parse.specs.Reading.{Read, ◌>>=◌, chain, on_some}
use Rattle.pungi_parse.specs.stmt.StmtReader.{optional, condition, start_at, label_front, jump_or_expression}
use Rattle.pungi_parse.specs.stmt.StmtReader.{label_or_jump, block_at, if_at, while_at, do_at, for_at, switch_at}
use Rattle.pungi_parse.specs.stmt.StmtReader.{case_at, default_at, label_at, stmt_at}
use Rattle.pungi_parse.specs.types.TypeReader.{Lower}
use Rattle.pungi_parse.specs.declared.stop.Stop.{Stop}
use Rattle.pungi_parse.specs.declared.stop.Stop.TheVariants as stops
use Rattle.pungi_tree.specs.Placed.{Placed}
use Rattle.pungi_tree.specs.Syntax.{Stmt}

chain_then : {A B C : Type 0} (o : Option A) (f : A → Option B) (g : B → Option C) (h : A → Option C)
    → ((x : A) → chain (f x) g ≡ h x) → chain (chain o f) g ≡ chain o h
unfolding chain
chain_then None f g h e = refl
chain_then (Some x) f g h e = e x

some_then : {A B : Type 0} (x : A) (g : A → Option B) → chain (Some x) g ≡ g x
unfolding chain
some_then x g = refl

choice_then : {A B C : Type 0} (o : Option A) (f : A → Option B) (b : Option B) (g : B → Option C)
    (h : A → Option C) (c : Option C)
    → ((x : A) → chain (f x) g ≡ h x) → chain b g ≡ c → chain (on_some o f b) g ≡ on_some o h c
unfolding on_some
choice_then None f b g h c e d = d
choice_then (Some x) f b g h c e d = e x

module _ (types : List Name) (low : Lower) (stmt element : List Placed → Read Stmt) where
  abbrev Rest : Begun × List Placed → Read Stmt
  Rest x = go_on types low stmt element x.0 x.1

  branch_goes : (p : Pos) (ts : List Placed)
      → chain (branch_front types low p ts) Rest ≡ if_at types low stmt element p ts
  unfolding branch_front if_at branch_rest
  branch_goes p ts = chain_then (condition types low ts) _ Rest _ (λ e. some_then (branched p e.0, e.1) Rest)

  while_goes : (p : Pos) (ts : List Placed)
      → chain (while_front types low p ts) Rest ≡ while_at types low stmt element p ts
  unfolding while_front while_at
  while_goes p ts = chain_then (condition types low ts) _ Rest _ (λ e. some_then (headed p (while_head e.0), e.1) Rest)

  do_goes : (p : Pos) (ts : List Placed) → Rest (headed p do_head, ts) ≡ do_at types low stmt element p ts
  unfolding do_at do_end
  do_goes p ts = refl

  for_goes : (p : Pos) (ts : List Placed) → chain (for_front types low p ts) Rest ≡ for_at types low stmt element p ts
  unfolding for_front for_head_at for_at
  for_goes p ts =
      let Then : Head × List Placed → Read Stmt = λ h. Rest (headed p h.0, h.1) in
      chain_then (eat puncts.LeftParen ts) _ Rest _ (λ o.
      chain_then (for_head_at types low o.1) _ Rest Then (λ h. some_then (headed p h.0, h.1) Rest) ∙
      chain_then (start_at types low o.1) _ Then _ (λ a.
      chain_then (optional types low puncts.Semicolon a.1) _ Then _ (λ b.
      chain_then (optional types low puncts.RightParen b.1) _ Then _ (λ c.
      some_then (for_head a.0 b.0 c.0, c.1) Then))))

  switch_goes : (p : Pos) (ts : List Placed)
      → chain (switch_front types low p ts) Rest ≡ switch_at types low stmt element p ts
  unfolding switch_front switch_at
  switch_goes p ts = chain_then (condition types low ts) _ Rest _ (λ e. some_then (headed p (switch_head e.0), e.1)
      Rest)

  case_goes : (p : Pos) (ts : List Placed)
      → chain (case_front types low p ts) Rest ≡ case_at types low stmt element p ts
  unfolding case_front case_at
  case_goes p ts =
      chain_then (low.expr 2 ts) _ Rest _ (λ e. chain_then (eat puncts.Colon e.1) _ Rest _
      (λ c. some_then (headed p (case_head e.0), c.1) Rest))

  default_goes : (p : Pos) (ts : List Placed)
      → chain (default_front types low p ts) Rest ≡ default_at types low stmt element p ts
  unfolding default_front default_at
  default_goes p ts = chain_then (eat puncts.Colon ts) _ Rest _ (λ c. some_then (headed p default_head, c.1) Rest)

  label_goes : (w : Name × Pos × List Placed)
      → chain (Some (headed w.1 (label_head w.0), w.2)) Rest ≡ label_at types low stmt element w.1 w.0 w.2
  unfolding label_at
  label_goes w = some_then (headed w.1 (label_head w.0), w.2) Rest

  whole_goes : (ts : List Placed) → chain (whole_at types low stmt element ts) Rest
      ≡ jump_or_expression types low stmt element ts
  unfolding whole_at chain
  whole_goes ts = read_again (jump_or_expression types low stmt element ts)
    where
      read_again : (o : Read Stmt) → chain (chain o (λ s. Some (whole s.0, s.1))) Rest ≡ o
      read_again None = refl
      read_again (Some x) = refl

  label_or_whole_goes : (ts : List Placed)
      → chain (label_or_whole types low stmt element ts) Rest ≡ label_or_jump types low stmt element ts
  unfolding label_or_whole label_or_jump
  label_or_whole_goes ts =
      choice_then (eat_key keys.Case ts) _ _ Rest _ _ (λ k. case_goes k.0 k.1)
      (choice_then (eat_key keys.Default ts) _ _ Rest _ _ (λ k. default_goes k.0 k.1)
      (choice_then (label_front types low ts) _ _ Rest _ _ label_goes (whole_goes ts)))

  pub begun_goes : (ts : List Placed) → chain (begin_at types low stmt element ts) Rest
      ≡ stmt_at types low stmt element ts
  unfolding begin_at stmt_at
  begun_goes ts =
      choice_then (eat puncts.LeftBrace ts) _ _ Rest _ _ (λ o. some_then (braced o.0, o.1) Rest)
      (choice_then (eat_key keys.If ts) _ _ Rest _ _ (λ k. branch_goes k.0 k.1)
      (choice_then (eat_key keys.While ts) _ _ Rest _ _ (λ k. while_goes k.0 k.1)
      (choice_then (eat_key keys.Do ts) _ _ Rest _ _ (λ k. some_then (headed k.0 do_head, k.1) Rest ∙ do_goes k.0 k.1)
      (choice_then (eat_key keys.For ts) _ _ Rest _ _ (λ k. for_goes k.0 k.1)
      (choice_then (eat_key keys.Switch ts) _ _ Rest _ _ (λ k. switch_goes k.0 k.1) (label_or_whole_goes ts))))))

  -- what is begun goes on as the whole statement does
  pub begun_is : (ts : List Placed) (b : Begun) (rest : List Placed)
      → begin_at types low stmt element ts ≡ Some (b, rest)
      → go_on types low stmt element b rest ≡ stmt_at types low stmt element ts
  begun_is ts b rest h = sym (some_then (b, rest) Rest) ∙ ap (λ (o : Read Begun). chain o Rest) (sym h) ∙ begun_goes ts

  none_then : chain None Rest ≡ None
  unfolding chain
  none_then = refl

  pub none_begun : (ts : List Placed) (e : Stop) → Fails e (begin_at types low stmt element ts)
      → Fails e (stmt_at types low stmt element ts)
  none_begun ts stops.Memory h = tt
  none_begun ts stops.NothingRead h = sym (begun_goes ts) ∙ ap (λ (o : Read Begun). chain o Rest) h ∙ none_then
