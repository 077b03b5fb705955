use Rattle.std.proofs.Common.{ap}
use Rattle.std.specs.Option.{option_copied}
use Rattle.command_words.proofs.Slash.{slash_64, slash_when_none, slash_when_other}
use Rattle.command_words.proofs.field.filespace.Goals as goal

pub returns-else-is_path-clause-value : goal.returns-else-is_path-clause-value
returns-else-is_path-clause-value c =
    slash_when_other 64 (option_copied c.args.text) c.in-Some.text.now c.read-else-is_path.result (ap option_copied c.in-Some.is) c.if-is_path.ensures slash_64 c.read-else-is_path.ensures

pub returns-in-None-clause-value : goal.returns-in-None-clause-value
returns-in-None-clause-value c =
    slash_when_none 64 (option_copied c.args.text) c.read-in-None.result (ap option_copied c.in-None.is) slash_64 c.read-in-None.ensures
