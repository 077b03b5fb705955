use Rattle.std.proofs.Common.{true, None, refl}
use Rattle.admin_words.specs.Line.{command}
use Rattle.blocks.specs.Parts.{part_of}
use Rattle.blocks.specs.declared.part.Part.TheVariants.{Other}
use Rattle.blocks.proofs.Refused.{refused_as}
use Rattle.blocks.proofs.part.part_of_line.Goals as goal

pub returns-in-Err : goal.returns-in-Err
returns-in-Err c = refused_as (λ r. part_of r) (Other None) (λ e. refl) c.in-Err.refusal (command c.args.line.now true) c.refused.result c.in-Err.ensures.value c.refused.ensures
