use Rattle.std.proofs.Common.{rules, ◌≡◌, ◌++◌, [], ◌∷◌, pos, ◌-ℤ◌, ◌∙◌, ap}
use Rattle.pungi_symbol.specs.declared.states.limit.Limit.{Limit}
use Rattle.pungi_symbol.specs.declared.states.node.Node.TheVariants as nodes
use Rattle.pungi_symbol.proofs.runs.AtZero.{adds_number}
use Rattle.pungi_symbol.proofs.runs.at_zero.add_number.Goals as goal

pub returns : goal.returns
returns c =
    let x = c.args.node in
    let below : Limit = record { x = x; y = nodes.Zero; c = c.args.n } in
    let above : Limit = record { x = nodes.Zero; y = x; c = pos 0 -ℤ c.args.n } in
    let one : c.push.new.self.items ≡ c.args.limits.now.items ++ below ∷ [] = search rules in
    let two : c.push-2.new.self.items ≡ c.push.new.self.items ++ above ∷ [] = search rules in
    adds_number c.args.limits.now.items c.push-2.new.self.items x c.args.n (two ∙ ap (λ l. l ++ above ∷ []) one)
