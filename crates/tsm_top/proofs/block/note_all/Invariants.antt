use Rattle.std.proofs.Common.{◌≡◌, ◌++◌, drop}
use Rattle.tsm_top.specs.Notes.{notes_of}
use Rattle.tsm_top.proofs.block.note_all.Given as goal

-- with those of the lines that are left the notes are all
abbrev pub invariant-said : goal.invariant-said
invariant-said l = l.notes.items ++ notes_of l.first l.before l.after (drop l.one-index l.said) ≡ notes_of l.first l.before l.after l.said
