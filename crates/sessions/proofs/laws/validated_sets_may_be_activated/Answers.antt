use Rattle.sessions.proofs.Allowed.{validated-in}
use Rattle.sessions.proofs.laws.validated_sets_may_be_activated.Goals as goal

pub returns : goal.returns
returns c w actor old new domain set events result f h = validated-in w actor old new domain set events f result h
