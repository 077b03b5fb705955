-- The printed rows of device classes, storage pools, volumes, what lies on volumes, and database backups.
use Rattle.std.specs.Prelude.{ℕ, Option, Some, None, List, ◌++◌, codes, decimal}
use Rattle.kinds.specs.declared.pool.Access.{Access}
use Rattle.kinds.specs.declared.pool.Access.TheVariants.{ReadWrite, ReadOnly, Unavailable, Offsite, Destroyed}
use Rattle.kinds.specs.declared.pool.PoolKind.{PoolKind}
use Rattle.kinds.specs.declared.pool.PoolKind.TheVariants.{Primary, Copy}
use Rattle.kinds.specs.declared.pool.SizeLimit.{SizeLimit}
use Rattle.kinds.specs.declared.pool.SizeLimit.TheVariants.{At, NoLimit}
use Rattle.inventory_rows.specs.volume_rows.declared.status.Status.{Status}
use Rattle.inventory_rows.specs.volume_rows.declared.status.Status.TheVariants.{Online, Empty, Filling, Full, Pending}
use Rattle.inventory_answers.specs.declared.lines.DeviceLine.{DeviceLine}
use Rattle.inventory_answers.specs.declared.lines.PoolLine.{PoolLine}
use Rattle.inventory_answers.specs.declared.lines.VolumeLine.{VolumeLine}
use Rattle.inventory_answers.specs.declared.lines.ContentLine.{ContentLine}
use Rattle.inventory_answers.specs.declared.lines.BackupLine.{BackupLine}
use Rattle.reports.specs.Pieces.{yes_or_no, or_dash, number_or_dash}

-- a device class's type, by the capacity of its volumes, which DISK has not
abbrev pub device_text : Option ℕ → List ℕ
device_text None = codes "DISK"
device_text (Some capacity) = codes "FILE"

-- POOLTYPE
abbrev pub kind_text : PoolKind → List ℕ
kind_text Primary = codes "PRIMARY"
kind_text Copy = codes "COPY"

-- MAXSIZE: a number of bytes, or NOLIMIT
abbrev pub size_limit_text : SizeLimit → List ℕ
size_limit_text (At n) = decimal n
size_limit_text NoLimit = codes "NOLIMIT"

-- how a volume is used
abbrev pub status_text : Status → List ℕ
status_text Online = codes "ONLINE"
status_text Empty = codes "EMPTY"
status_text Filling = codes "FILLING"
status_text Full = codes "FULL"
status_text Pending = codes "PENDING"

-- ACCESS
abbrev pub access_text : Access → List ℕ
access_text ReadWrite = codes "READWRITE"
access_text ReadOnly = codes "READONLY"
access_text Unavailable = codes "UNAVAILABLE"
access_text Offsite = codes "OFFSITE"
access_text Destroyed = codes "DESTROYED"

-- DEVCLASS name type=DISK capacity=-, or type=FILE capacity=n
abbrev pub row_of_device : DeviceLine → List ℕ
row_of_device d =
    codes "DEVCLASS " ++ d.name
    ++ codes " type=" ++ device_text d.capacity
    ++ codes " capacity=" ++ number_or_dash d.capacity

-- POOL number name type=PRIMARY|COPY device=name next=name|- percent=n high=n low=n reclaim=n reusedelay=n maxscratch=n maxsize=n|NOLIMIT
abbrev pub row_of_pool : PoolLine → List ℕ
row_of_pool p =
    codes "POOL " ++ decimal p.number
    ++ codes " " ++ p.name
    ++ codes " type=" ++ kind_text p.kind
    ++ codes " device=" ++ p.class
    ++ codes " next=" ++ or_dash p.next
    ++ codes " percent=" ++ decimal p.percent
    ++ codes " high=" ++ decimal p.settings.high
    ++ codes " low=" ++ decimal p.settings.low
    ++ codes " reclaim=" ++ decimal p.settings.reclaim
    ++ codes " reusedelay=" ++ decimal p.settings.reuse_delay
    ++ codes " maxscratch=" ++ decimal p.settings.max_scratch
    ++ codes " maxsize=" ++ size_limit_text p.settings.max_size

-- VOLUME name file=n pool=name status=ONLINE access=READWRITE used=n capacity=n
abbrev pub row_of_volume : VolumeLine → List ℕ
row_of_volume v =
    codes "VOLUME " ++ v.name
    ++ codes " file=" ++ decimal v.file
    ++ codes " pool=" ++ or_dash v.pool
    ++ codes " status=" ++ status_text v.status
    ++ codes " access=" ++ access_text v.access
    ++ codes " used=" ++ decimal v.used
    ++ codes " capacity=" ++ decimal v.capacity

-- CONTENT volume object=n size=n segments=n
abbrev pub row_of_content : ContentLine → List ℕ
row_of_content c =
    codes "CONTENT " ++ c.volume
    ++ codes " object=" ++ decimal c.object
    ++ codes " size=" ++ number_or_dash c.size
    ++ codes " segments=" ++ decimal c.segments

-- DBBACKUP file day=n seq=n done=YES|NO
abbrev pub row_of_backup : BackupLine → List ℕ
row_of_backup b =
    codes "DBBACKUP " ++ decimal b.file
    ++ codes " day=" ++ decimal b.taken
    ++ codes " seq=" ++ decimal b.number
    ++ codes " done=" ++ yes_or_no b.done
