-- Lines as they are printed, each from its values.
use Rattle.std.specs.Prelude.{◌≡◌, true, false, Some, None, ◌∷◌, [], codes, refl}
use Rattle.std.specs.Fmt.{digits}
use Rattle.hex.specs.Hex.{encode_with}
use Rattle.kinds.specs.declared.pool.Access.TheVariants.{ReadWrite}
use Rattle.kinds.specs.declared.pool.PoolKind.TheVariants.{Primary}
use Rattle.kinds.specs.declared.pool.SizeLimit.TheVariants as sizes
use Rattle.kinds.specs.declared.refusal.By.TheVariants.{Object}
use Rattle.kinds.specs.declared.refusal.Refusal.TheVariants.{DayBack, Exists, InUse, NoSpace, NotFound}
use Rattle.inventory_rows.specs.volume_rows.declared.status.Status.TheVariants.{Filling}
use Rattle.inventory_answers.specs.declared.reply.Rows.TheVariants as rows
use Rattle.reports.specs.declared.shown.Notice.TheVariants.{Lost, Restored, Refused, NotABackup}
use Rattle.reports.specs.declared.shown.Shown.TheVariants.{Reused, Read, Sent, Failed, Moved}
use Rattle.reports.specs.Lines.{shown_line, refused_line, notice_line}
use Rattle.reports.specs.Printed.{printed_rows}

domain : printed_rows 1 (rows.Domains (record { name = codes "STANDARD"; back_retention = 30; active = true } ∷ [])) ≡ codes "1 DOMAIN STANDARD backretention=30 active=YES\n"
unfolding digits
domain = refl

pool : printed_rows 2 (rows.Pools (record {
  number = 1;
  name = codes "BACKUPPOOL";
  kind = Primary;
  class = codes "DISK";
  next = None;
  percent = 0;
  least = Some 0;
  settings = record { max_size = sizes.NoLimit; next = None; high = 90; low = 70; reclaim = 60; reuse_delay = 0; max_scratch = 0; collocate = false };
} ∷ []))
    ≡ codes "2 POOL 1 BACKUPPOOL type=PRIMARY device=DISK next=- percent=0 high=90 low=70 reclaim=60 reusedelay=0 maxscratch=0 maxsize=NOLIMIT\n"
unfolding digits
pool = refl

volume : printed_rows 10 (rows.Volumes (record {
  name = codes "SCR00000005";
  file = 5;
  pool = Some (codes "TAPE");
  status = Filling;
  access = ReadWrite;
  used = 43;
  capacity = 65536;
  end = 43;
} ∷ []))
    ≡ codes "10 VOLUME SCR00000005 file=5 pool=TAPE status=FILLING access=READWRITE used=43 capacity=65536\n"
unfolding digits
volume = refl

reused : shown_line 5 (Reused 0) ≡ codes "5 OK reused=0\n"
unfolding digits
reused = refl

read : shown_line 4 (Read 1 5) ≡ codes "4 OK object=1 size=5\n"
unfolding digits
read = refl

sent : shown_line 4 (Sent 1 0 0 0 0) ≡ codes "4 OK sent=1 rebound=0 gone=0 skipped=0 failed=0\n"
unfolding digits
sent = refl

moved : shown_line 17 (Moved 4 0 0) ≡ codes "17 OK moved=4 failed=0 reused=0\n"
unfolding digits
moved = refl

failed : shown_line 9 (Failed (codes "/c d%") (NoSpace 1)) ≡ codes "9 FAILED /c%20d%25 20 NoSpace 1\n"
unfolding digits encode_with
failed = refl

day_back : refused_line 6 (DayBack 5 4) ≡ codes "6 REFUSED 15 DayBack 5 4\n"
unfolding digits
day_back = refl

in_use : refused_line 7 (InUse (Object 1)) ≡ codes "7 REFUSED 12 InUse OBJECT 1\n"
unfolding digits
in_use = refl

not_found : refused_line 9 NotFound ≡ codes "9 REFUSED 10 NotFound\n"
unfolding digits
not_found = refl

lost : notice_line (Lost (codes "ANNA") (codes "/home") (codes "/b c") 2) ≡ codes "LOST ANNA /home /b%20c object=2\n"
unfolding digits encode_with
lost = refl

restored : notice_line (Restored 1 2 0) ≡ codes "RESTORED versions=1 copies=2 lost=0\n"
unfolding digits
restored = refl

no_backup : notice_line (NotABackup 5) ≡ codes "NOT A BACKUP 5\n"
unfolding digits
no_backup = refl

format_refused : notice_line (Refused Exists) ≡ codes "REFUSED 11 Exists\n"
unfolding digits
format_refused = refl
