use Rattle.std.proofs.Common.{sym, ap, ◌∙◌}
use Rattle.std.specs.Prelude.{◌==◌}
use Rattle.std.specs.List.{list_any}
use Rattle.space.specs.declared.places.Placed.{Placed}
use Rattle.hall.specs.Commits.{lies}
use Rattle.hall.specs.Sights.{ticket_of}
use Rattle.hall.proofs.Walking.{on_file}
use Rattle.hall.proofs.asked.lies.Goals as goal

pub returns-in-Volume : goal.returns-in-Volume
returns-in-Volume c =
    c.is_on.ensures
    ∙ ap (list_any (λ (p : Placed). p.segment.file == c.in-Volume.file)) c.as_slice.ensures
    ∙ on_file c.in-Volume.file c.args.seat.now.places
    ∙ ap (λ here. lies here (ticket_of 0 c.args.seat.now)) (sym c.in-Volume.is)
