use Rattle.pm_made_laws.proofs.MadeScopes.{scopes_made}
use Rattle.pm_made_laws.proofs.laws.scopes_are_made.Goals as goal

pub returns : goal.returns
returns c = scopes_made
