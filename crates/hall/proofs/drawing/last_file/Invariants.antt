use Rattle.std.proofs.Common.{◌≡◌, drop, max}
use Rattle.hall.specs.Drawn.{last_file}
use Rattle.hall.proofs.drawing.last_file.Given as goal

abbrev pub invariant-places : goal.invariant-places
invariant-places l = max l.last (last_file (drop l.place-index l.places)) ≡ last_file l.places
