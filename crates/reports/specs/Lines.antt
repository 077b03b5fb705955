-- The printed lines by which commands are answered.
use Rattle.std.specs.Prelude.{ℕ, List, ◌++◌, codes, decimal}
use Rattle.hex.specs.Hex.{encode_lower}
use Rattle.kinds.specs.declared.refusal.Refusal.{Refusal}
use Rattle.reports.specs.declared.shown.Notice.{Notice}
use Rattle.reports.specs.declared.shown.Notice.TheVariants.{Lost, Restored, Refused, NotABackup}
use Rattle.reports.specs.declared.shown.Shown.{Shown}
use Rattle.reports.specs.declared.shown.Shown.TheVariants.{Done, Reused, Stored, Data, Read, Sent, File, Failed, RestoredFiles, Archived, Retrieved, Moved, Copied, RestoredCopies, Expired, DiscardedFilespace, DeletedVolume, Damaged, Audited, BackedUp, DeletedHistory, Rows}
use Rattle.reports.specs.Pieces.{numbered, escaped, digits}
use Rattle.reports.specs.Refusals.{refusal_text}

-- the text of a line, without the number of the script's line and without LF
abbrev pub shown_text : Shown → List ℕ
shown_text Done = codes "OK"
shown_text (Reused reused) = codes "OK reused=" ++ decimal reused
shown_text (Stored object) = codes "OK object=" ++ decimal object
shown_text (Data bytes) = codes "DATA " ++ encode_lower bytes.items
shown_text (Read object size) = codes "OK object=" ++ decimal object ++ codes " size=" ++ decimal size
shown_text (Sent sent rebound gone skipped failed) =
    codes "OK sent=" ++ decimal sent ++ codes " rebound=" ++ decimal rebound ++ codes " gone=" ++ decimal gone ++ codes " skipped=" ++ decimal skipped ++ codes " failed=" ++ decimal failed
shown_text (File path object size sha256) =
    codes "FILE " ++ escaped path ++ codes " object=" ++ decimal object ++ codes " size=" ++ decimal size ++ codes " sha256=" ++ digits sha256
shown_text (Failed path refusal) = codes "FAILED " ++ escaped path ++ refusal_text refusal
shown_text (RestoredFiles restored failed) = codes "OK restored=" ++ decimal restored ++ codes " failed=" ++ decimal failed
shown_text (Archived archived deleted failed) = codes "OK archived=" ++ decimal archived ++ codes " deleted=" ++ decimal deleted ++ codes " failed=" ++ decimal failed
shown_text (Retrieved retrieved failed) = codes "OK retrieved=" ++ decimal retrieved ++ codes " failed=" ++ decimal failed
shown_text (Moved moved failed reused) = codes "OK moved=" ++ decimal moved ++ codes " failed=" ++ decimal failed ++ codes " reused=" ++ decimal reused
shown_text (Copied copied failed) = codes "OK copied=" ++ decimal copied ++ codes " failed=" ++ decimal failed
shown_text (RestoredCopies restored failed reused) = codes "OK restored=" ++ decimal restored ++ codes " failed=" ++ decimal failed ++ codes " reused=" ++ decimal reused
shown_text (Expired expired reused) = codes "OK expired=" ++ decimal expired ++ codes " reused=" ++ decimal reused
shown_text (DiscardedFilespace discarded reused) = codes "OK discarded=" ++ decimal discarded ++ codes " reused=" ++ decimal reused
shown_text (DeletedVolume discarded dropped) = codes "OK discarded=" ++ decimal discarded ++ codes " dropped=" ++ decimal dropped
shown_text (Damaged object kept found) = codes "DAMAGED object=" ++ decimal object ++ codes " kept=" ++ digits kept ++ codes " found=" ++ digits found
shown_text (Audited sound damaged fixed) = codes "OK sound=" ++ decimal sound ++ codes " damaged=" ++ decimal damaged ++ codes " fixed=" ++ decimal fixed
shown_text (BackedUp file seq) = codes "OK file=" ++ decimal file ++ codes " seq=" ++ decimal seq
shown_text (DeletedHistory deleted) = codes "OK deleted=" ++ decimal deleted
shown_text (Rows rows) = codes "OK rows=" ++ decimal rows

-- a line of an answered command
abbrev pub shown_line : ℕ → Shown → List ℕ
shown_line line shown = numbered line (shown_text shown)

-- the line of a refused command
abbrev pub refused_line : ℕ → Refusal → List ℕ
refused_line line refusal = numbered line (codes "REFUSED" ++ refusal_text refusal)

-- the text of a line that no line of the script causes, without LF
abbrev pub notice_text : Notice → List ℕ
notice_text (Lost node filespace path object) = codes "LOST " ++ node ++ codes " " ++ escaped filespace ++ codes " " ++ escaped path ++ codes " object=" ++ decimal object
notice_text (Restored versions copies lost) = codes "RESTORED versions=" ++ decimal versions ++ codes " copies=" ++ decimal copies ++ codes " lost=" ++ decimal lost
notice_text (Refused refusal) = codes "REFUSED" ++ refusal_text refusal
notice_text (NotABackup file) = codes "NOT A BACKUP " ++ decimal file

-- such a line
abbrev pub notice_line : Notice → List ℕ
notice_line notice = notice_text notice ++ codes "\n"
