use Rattle.std.proofs.Common.{◌≡◌, sym, ◌∙◌}
use Rattle.copy_groups.specs.Retention.{is_unretained}
use Rattle.copy_groups.proofs.Places.{place_taken, place_passed}
use Rattle.copy_groups.proofs.unretained.Goals as goal
use Rattle.copy_groups.proofs.unretained.Goals.{then-is_unretained+in_ok-push, else-is_unretained}

pub places-preserved : goal.places-preserved
places-preserved c =
    let p = is_unretained c.args.rule.now c.args.active c.args.since.now c.args.today in
    elim c.if-is_unretained.branch [
      | then-is_unretained+in_ok-push w ↦
          place_taken p c.places.place c.places.places.items _ c.places.invariant (sym c.is_unretained.ensures ∙ w.if-is_unretained.true) (rw w.places-is w.in_ok-push.ensures.items)
      | else-is_unretained w ↦
          place_passed p c.places.place c.places.places.items _ c.places.invariant (sym c.is_unretained.ensures ∙ w.if-is_unretained.false) (rw w.places-is)
    ]
