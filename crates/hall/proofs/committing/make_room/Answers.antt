use Rattle.std.proofs.Common.{◌≡◌, arith, sym, true, subst}
use Rattle.inventory_rules.specs.Valid.{is_valid}
use Rattle.inventory_rows.specs.State.{inv_of}
use Rattle.hall.proofs.JoinAnswers.{fits_next}
use Rattle.hall.proofs.committing.make_room.Goals as goal

pub overflow_add-number : goal.overflow_add-number
overflow_add-number c =
    let next = fits_next (inv_of c.tables-tables.result.now) (subst (λ v. is_valid v ≡ true) (sym c.tables-tables.ensures.value) c.tables-tables.ensures.valid) in
    omega (arith, next)
