use Rattle.pungi_parse.proofs.Parsed.{parsed_unit, parsed_only, parsed_stops, parsed_no_tree, parsed_not_deep}
use Rattle.pungi_parse.proofs.Parsed.{parsed_flat}
use Rattle.pungi_tree.specs.Placed.{placed}
use Rattle.pungi_parse.proofs.unit.parse.Goals as goal

pub returns-in-None-clause-unit : goal.returns-in-None-clause-unit
returns-in-None-clause-unit c = parsed_unit (placed c.args.tokens.now) c.unit.result c.unit.ensures

pub returns-in-None-clause-only : goal.returns-in-None-clause-only
returns-in-None-clause-only c =
    λ items deep u. parsed_only (placed c.args.tokens.now) c.unit.result c.unit.ensures items u

pub returns-in-None-clause-not_a_unit : goal.returns-in-None-clause-not_a_unit
returns-in-None-clause-not_a_unit c = parsed_stops (placed c.args.tokens.now) c.unit.result c.unit.ensures

pub returns-in-None-clause-no_tree : goal.returns-in-None-clause-no_tree
returns-in-None-clause-no_tree c = parsed_no_tree (placed c.args.tokens.now) c.unit.result c.unit.ensures

pub returns-in-None-clause-deep : goal.returns-in-None-clause-deep
returns-in-None-clause-deep c =
    λ p e. absurd (parsed_not_deep (placed c.args.tokens.now) c.unit.result c.unit.ensures p e)

pub returns-in-None-clause-flat : goal.returns-in-None-clause-flat
returns-in-None-clause-flat c = parsed_flat (placed c.args.tokens.now) c.unit.result c.unit.ensures
