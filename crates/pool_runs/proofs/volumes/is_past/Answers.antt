use Rattle.std.proofs.Common.{◌≡◌, ◌∙◌, Some, None, sym, ap, arith}
use Rattle.std.proofs.lemmas.Bool.{leb-true}
use Rattle.std.proofs.lemmas.Option.{same_Some}
use Rattle.std.specs.Option.{option_copied}
use Rattle.pool_tables.specs.Rows.{row_at}
use Rattle.volume_rows.specs.declared.volume.Volume.{Volume}
use Rattle.pool_runs.proofs.volumes.is_past.Goals as goal

pub returns-in-Some-emptied : goal.returns-in-Some-emptied
returns-in-Some-emptied c t x at y is =
    let found : Some c.in-Some.volume.now ≡ Some x = sym (ap option_copied c.in-Some.is) ∙ c.get.ensures.value ∙ ap (row_at c.args.file) c.volumes.ensures.value ∙ at in
    let day : Some c.in-Some-emptied.day ≡ Some y = sym c.in-Some-emptied.is ∙ ap (λ (v : Volume). v.emptied) (same_Some c.in-Some.volume.now x found) ∙ is in
    omega (arith, same_Some c.in-Some-emptied.day y day, c.number.ensures.value, c.number-in-Some-emptied.ensures.value, leb-true c.number.result c.number-in-Some-emptied.result t)

pub returns-in-None-emptied : goal.returns-in-None-emptied
returns-in-None-emptied c t x at y is =
    let found : Some c.in-Some.volume.now ≡ Some x = sym (ap option_copied c.in-Some.is) ∙ c.get.ensures.value ∙ ap (row_at c.args.file) c.volumes.ensures.value ∙ at in
    absurd (let none : None ≡ Some y = sym c.in-None-emptied.is ∙ ap (λ (v : Volume). v.emptied) (same_Some c.in-Some.volume.now x found) ∙ is in cc)

pub returns-in-None : goal.returns-in-None
returns-in-None c t x at y is = absurd (let none : None ≡ Some x = sym (ap option_copied c.in-None.is) ∙ c.get.ensures.value ∙ ap (row_at c.args.file) c.volumes.ensures.value ∙ at in cc)
