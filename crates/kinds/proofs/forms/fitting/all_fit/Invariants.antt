use Rattle.std.proofs.Common.{All, take}
use Rattle.kinds.proofs.forms.fitting.all_fit.Given as goal

abbrev pub invariant-values : goal.invariant-values
invariant-values g l = All g.T.Formed.form.Fits (take l.value-index l.values)
