-- Commands of volumes.
use Rattle.std.specs.Prelude.{List, codes, unwrap_or}
use Rattle.admin_words.specs.declared.volumes.NamedVolume.{NamedVolume}
use Rattle.admin_words.specs.declared.volumes.VolumeDefinition.{VolumeDefinition}
use Rattle.admin_words.specs.declared.volumes.VolumeUpdate.{VolumeUpdate}
use Rattle.admin_words.specs.declared.volumes.VolumeDeletion.{VolumeDeletion}
use Rattle.admin_words.specs.declared.volumes.DataMove.{DataMove}
use Rattle.admin_words.specs.declared.volumes.VolumeAudit.{VolumeAudit}
use Rattle.admin_words.specs.declared.volumes.VolumeQuery.{VolumeQuery}
use Rattle.kinds.specs.declared.pool.Access.TheVariants.{ReadWrite}
use Rattle.admin_words.specs.declared.table.Form.TheVariants.{Volume}
use Rattle.admin_words.specs.declared.table.VolumeForm.TheVariants.{AuditVolume, DefineVolume, DeleteVolume, MoveData, QueryVolume, UpdateVolume}
use Rattle.admin_words.specs.Grammar.{given_for}
use Rattle.command_words.specs.Rows.{Given, text_at}
use Rattle.command_words.specs.Fields.{name_if, name_of, number_of}
use Rattle.admin_words.specs.Chosen.{is_yes, access_of}

-- A volume by its name.
abbrev pub named_volume : List Given → List Given → NamedVolume
named_volume places keys =
    record {
      volume = name_of 30 (text_at 0 places);
    }

-- DEFINE VOLUME. FORMATSIZE is in mebibytes.
abbrev pub volume_definition : List Given → List Given → VolumeDefinition
volume_definition places keys =
    record {
      pool = name_of 30 (text_at 0 places);
      volume = name_of 30 (text_at 1 places);
      format_size = number_of 65536 (given_for (Volume DefineVolume) (codes "FORMATSIZE") keys);
    }

-- UPDATE VOLUME.
abbrev pub volume_update : List Given → List Given → VolumeUpdate
volume_update places keys =
    record {
      volume = name_of 30 (text_at 0 places);
      access = unwrap_or (access_of (given_for (Volume UpdateVolume) (codes "ACCESS") keys)) ReadWrite;
    }

-- DELETE VOLUME, with what it holds or only where it is empty.
abbrev pub volume_deletion : List Given → List Given → VolumeDeletion
volume_deletion places keys =
    record {
      volume = name_of 30 (text_at 0 places);
      discard_data = is_yes (given_for (Volume DeleteVolume) (codes "DISCARDDATA") keys);
    }

-- MOVE DATA: to this pool, or within the volume's own.
abbrev pub data_move : List Given → List Given → DataMove
data_move places keys =
    record {
      volume = name_of 30 (text_at 0 places);
      pool = name_if 30 (given_for (Volume MoveData) (codes "STGPOOL") keys);
    }

-- AUDIT VOLUME, which also repairs where that is asked.
abbrev pub volume_audit : List Given → List Given → VolumeAudit
volume_audit places keys =
    record {
      volume = name_of 30 (text_at 0 places);
      fix = is_yes (given_for (Volume AuditVolume) (codes "FIX") keys);
    }

-- QUERY VOLUME: what meets all that is given.
abbrev pub volume_query : List Given → List Given → VolumeQuery
volume_query places keys =
    record {
      volume = name_if 30 (text_at 0 places);
      pool = name_if 30 (given_for (Volume QueryVolume) (codes "STGPOOL") keys);
    }
