use Rattle.std.proofs.Common.{ap}
use Rattle.steps.specs.declared.image.ImageReply.TheVariants.{Begun}
use Rattle.hall.specs.Held.{Held}
use Rattle.hall.proofs.Imaging.{begins_told, refused_told}
use Rattle.hall.proofs.parts.Parts.begin_image.Goals as goal

pub returns-in-Ok-clause-told : goal.returns-in-Ok-clause-told
returns-in-Ok-clause-told g c =
    begins_told _ _ c.self.inside.vault c.args.self.now.vault c.begin_checkpoint.new.self c.stamp.new.self.vault (c.in-Ok.file, c.in-Ok.seq) (Begun c.in-Ok.file c.in-Ok.seq)
    (ap (λ (h : Held). h.vault) c.self.view_is) (ap (λ (h : Held). h.vault) c.stamp.ensures) c.in-Ok.ensures.told

pub returns-in-Err-clause-told : goal.returns-in-Err-clause-told
returns-in-Err-clause-told g c =
    refused_told _ _ c.self.inside.vault c.args.self.now.vault c.begin_checkpoint.new.self c.in-Err.refusal (ap (λ (h : Held). h.vault) c.self.view_is) c.in-Err.ensures.told
