use Rattle.std.proofs.Common.{sym, ap, ◌∙◌}
use Rattle.hall.specs.Held.{image_in, picture_of}
use Rattle.hall.proofs.BackupRefused.{busy_told, first_ended}
use Rattle.hall.proofs.parts.Parts.backup_refused.Goals as goal

pub returns-in-Some : goal.returns-in-Some
returns-in-Some c = first_ended c.args.actor c.args.moment c.args.after c.args.self.now c.in-Some.refusal (sym c.ended.ensures ∙ c.in-Some.is)

pub returns-in-Some-image : goal.returns-in-Some-image
returns-in-Some-image c =
    let i = c.in-Some-image.image in
    busy_told c.args.actor c.args.moment c.args.after c.args.self.now c.ended.result c.unfollowed-follows.result c.illegal.result c.sooner_of-cause.result c.sooner_of.result c.next_file.result
    (record { actor = i.actor; picture = picture_of i.backup; file = i.file; seq = i.seq }) c.ended.ensures c.in_default.is c.unfollowed-follows.ensures c.next_file.ensures c.illegal.ensures c.sooner_of-cause.ensures
    (ap (λ h. h.image) (sym c.self.view_is) ∙ ap image_in c.in-Some-image.is) c.sooner_of.ensures
