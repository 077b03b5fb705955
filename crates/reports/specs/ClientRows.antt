-- The printed rows of client nodes, filespaces, versions and archived objects.
use Rattle.std.specs.Prelude.{ℕ, Option, Some, None, List, ◌++◌, codes, decimal}
use Rattle.inventory_answers.specs.declared.lines.NodeLine.{NodeLine}
use Rattle.inventory_answers.specs.declared.lines.FilespaceLine.{FilespaceLine}
use Rattle.inventory_answers.specs.declared.lines.VersionLine.{VersionLine}
use Rattle.inventory_answers.specs.declared.lines.HeldLine.{HeldLine}
use Rattle.reports.specs.Pieces.{escaped, digits, yes_or_no, or_dash, number_or_dash}

-- whether a version is the active one of its path, by the day from which on it isn't
abbrev pub state_text : Option ℕ → List ℕ
state_text None = codes "ACTIVE"
state_text (Some day) = codes "INACTIVE"

-- NODE number name domain=name
abbrev pub row_of_node : NodeLine → List ℕ
row_of_node n =
    codes "NODE " ++ decimal n.number
    ++ codes " " ++ n.name
    ++ codes " domain=" ++ n.domain

-- FILESPACE node number name files=n versions=n
abbrev pub row_of_filespace : FilespaceLine → List ℕ
row_of_filespace f =
    codes "FILESPACE " ++ or_dash f.node
    ++ codes " " ++ decimal f.number
    ++ codes " " ++ escaped f.name
    ++ codes " files=" ++ decimal f.files
    ++ codes " versions=" ++ decimal f.versions

-- VERSION path object=n size=n mtime=n stored=n since=n|- class=name state=ACTIVE|INACTIVE owed=YES|NO sha256=h
abbrev pub row_of_version : VersionLine → List ℕ
row_of_version v =
    codes "VERSION " ++ escaped v.path
    ++ codes " object=" ++ decimal v.object
    ++ codes " size=" ++ decimal v.size
    ++ codes " mtime=" ++ decimal v.mtime
    ++ codes " stored=" ++ decimal v.stored
    ++ codes " since=" ++ number_or_dash v.since
    ++ codes " class=" ++ v.class
    ++ codes " state=" ++ state_text v.since
    ++ codes " owed=" ++ yes_or_no v.owed
    ++ codes " sha256=" ++ digits v.digest

-- the day from which on an archived object is no longer kept, or NOLIMIT
abbrev pub until_text : Option ℕ → List ℕ
until_text None = codes "NOLIMIT"
until_text (Some day) = decimal day

-- ARCHIVE path object=n size=n mtime=n stored=n until=n|NOLIMIT owed=YES|NO sha256=h
abbrev pub row_of_archive : HeldLine → List ℕ
row_of_archive h =
    codes "ARCHIVE " ++ escaped h.path
    ++ codes " object=" ++ decimal h.object
    ++ codes " size=" ++ decimal h.size
    ++ codes " mtime=" ++ decimal h.mtime
    ++ codes " stored=" ++ decimal h.stored
    ++ codes " until=" ++ until_text h.until
    ++ codes " owed=" ++ yes_or_no h.owed
    ++ codes " sha256=" ++ digits h.digest
