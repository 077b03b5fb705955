-- Commands of the database and of the calendar.
use Rattle.std.specs.Prelude.{List, codes, unwrap_or}
use Rattle.admin_words.specs.declared.database.DatabaseBackup.{DatabaseBackup}
use Rattle.admin_words.specs.declared.database.HistoryDeletion.{HistoryDeletion}
use Rattle.admin_words.specs.declared.database.DayChange.{DayChange}
use Rattle.admin_words.specs.declared.table.Form.TheVariants.{Database}
use Rattle.admin_words.specs.declared.table.DatabaseForm.TheVariants.{BackupDatabase, DeleteHistory}
use Rattle.admin_words.specs.declared.words.BackupType.TheVariants.{Incremental}
use Rattle.admin_words.specs.Chosen.{backup_type_of}
use Rattle.admin_words.specs.Grammar.{given_for}
use Rattle.command_words.specs.Rows.{Given, text_at}
use Rattle.command_words.specs.Fields.{name_if, number_of}

-- BACKUP DB. TYPE is INCREMENTAL where it is not given.
abbrev pub database_backup : List Given → List Given → DatabaseBackup
database_backup places keys =
    record {
      dev_class = name_if 30 (given_for (Database BackupDatabase) (codes "DEVCLASS") keys);
      backup_type = unwrap_or (backup_type_of (given_for (Database BackupDatabase) (codes "TYPE") keys)) Incremental;
    }

-- DELETE VOLHISTORY with TYPE=DBBACKUP: what was taken on or before this day.
abbrev pub history_deletion : List Given → List Given → HistoryDeletion
history_deletion places keys =
    record {
      to_date = unwrap_or (number_of 2147483647 (given_for (Database DeleteHistory) (codes "TODATE") keys)) 0;
    }

-- DAY.
abbrev pub day_change : List Given → List Given → DayChange
day_change places keys =
    record {
      day = unwrap_or (number_of 2147483647 (text_at 0 places)) 0;
    }
