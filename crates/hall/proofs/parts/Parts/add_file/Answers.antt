use Rattle.std.proofs.Common.{sym, ap, ◌∙◌}
use Rattle.std.specs.Prelude.{◌==◌}
use Rattle.std.specs.List.{list_any}
use Rattle.entries.specs.change_items.declared.items.ScratchVolume.{ScratchVolume}
use Rattle.hall.proofs.Walking.{among_stays, new_comes}
use Rattle.hall.proofs.parts.Parts.add_file.Goals as goal

pub returns-then-has_file-clause-ok : goal.returns-then-has_file-clause-ok
returns-then-has_file-clause-ok c =
    among_stays c.args.self.now.vault.database c.args.pool c.args.file c.args.out.now
    (ap (list_any (λ (x : ScratchVolume). x.file == c.args.file)) (sym c.as_slice.ensures.same) ∙ sym c.has_file.ensures ∙ c.if-has_file.true)

pub returns-clause-ok : goal.returns-clause-ok
returns-clause-ok c =
    c.in_ok-push.ensures.ok
    ∙ new_comes c.args.self.now.vault.database c.args.pool c.args.file c.args.out.now (sym c.is_volume.ensures ∙ c.if-is_volume.false)
    (ap (list_any (λ (x : ScratchVolume). x.file == c.args.file)) (sym c.as_slice.ensures.same) ∙ sym c.has_file.ensures ∙ c.if-has_file.false)
