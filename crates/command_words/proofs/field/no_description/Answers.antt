use Rattle.command_words.proofs.Undescribed.{nothing_is_said}
use Rattle.command_words.proofs.field.no_description.Goals as goal

pub unwrap-requires : goal.unwrap-requires
unwrap-requires c = nothing_is_said c.new.result.items c.from_bytes.result c.new.ensures.items c.from_bytes.ensures
