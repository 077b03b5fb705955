use Rattle.std.proofs.Common.{false, refl}
use Rattle.admin_words.specs.Line.{command}
use Rattle.blocks.specs.Parts.{is_parallel}
use Rattle.blocks.proofs.Refused.{refused_as}
use Rattle.blocks.proofs.part.begins_block.Goals as goal

pub returns-in-Err : goal.returns-in-Err
returns-in-Err c = refused_as (λ r. is_parallel r) false (λ e. refl) c.in-Err.refusal (command c.args.line.now false) c.refused.result c.in-Err.ensures.value c.refused.ensures
