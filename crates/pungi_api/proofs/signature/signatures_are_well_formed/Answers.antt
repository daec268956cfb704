use Rattle.pungi_api.proofs.SignatureLemmas.{are_signatures, is_simple, is_build, is_null_build}
use Rattle.pungi_api.proofs.signature.signatures_are_well_formed.Goals as goal

pub returns-clause-row : goal.returns-clause-row
returns-clause-row c = are_signatures

pub returns-clause-simple : goal.returns-clause-simple
returns-clause-simple c = is_simple

pub returns-clause-build : goal.returns-clause-build
returns-clause-build c = is_build

pub returns-clause-null : goal.returns-clause-null
returns-clause-null c = is_null_build
