use Rattle.std.proofs.Common.{◌≡◌, ◌++◌, List, ℕ, refl, sym, ap, ◌∙◌}
use Rattle.fields.specs.ListLaws.{one_value}
use Rattle.fields.proofs.formed.encode.Goals as goal

pub returns-clause-alone : goal.returns-clause-alone
returns-clause-alone g c = λ x rest fits e.
    let spell = g.T.Formed.form.spell in
    let spelled : c.write_to.new.out.items ≡ spell c.args.value.now = rw (c.in_ok-write_to.ensures, c.new-out.ensures.items) refl in
    one_value g.met.T.Formed.is_form c.args.value.now x rest c.requires fits (ap (λ (b : List ℕ). b ++ rest) (sym spelled) ∙ e)
