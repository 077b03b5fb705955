-- Which changes of the policy bind no client.
use Rattle.std.specs.Prelude.{⊤}
use Rattle.kinds.specs.declared.change.PolicyChange.{PolicyChange}
use Rattle.kinds.specs.declared.change.PolicyChange.TheVariants.{Domain, Activate}

-- a change of a policy set, of a class, of a copy group or of a default class, and no activation
abbrev pub IsOfSets : PolicyChange → Type 0
IsOfSets (Domain verb domain days) = ⊥
IsOfSets (Activate domain set) = ⊥
IsOfSets _ = ⊤
