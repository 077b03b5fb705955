-- What the words that stand as values mean.
use Rattle.std.specs.Prelude.{ℕ, Bool, false, ◌==◌, List, if◌then◌else◌, Option, Some, None}
use Rattle.kinds.specs.declared.rule.Still.{Still}
use Rattle.kinds.specs.declared.rule.Still.TheVariants.{ShrStatic, Static}
use Rattle.kinds.specs.declared.pool.Access.{Access}
use Rattle.kinds.specs.declared.pool.Access.TheVariants.{ReadWrite, ReadOnly, Unavailable, Offsite, Destroyed}
use Rattle.kinds.specs.declared.pool.PoolKind.{PoolKind}
use Rattle.kinds.specs.declared.pool.PoolKind.TheVariants.{Primary, Copy}
use Rattle.command_words.specs.Fields.{word_of, name_if}
use Rattle.admin_words.specs.declared.words.BackupType.{BackupType}
use Rattle.admin_words.specs.declared.words.BackupType.TheVariants.{Full, Incremental}
use Rattle.admin_words.specs.declared.words.Mode.{Mode}
use Rattle.admin_words.specs.declared.words.Mode.TheVariants.{Modified, Absolute}
use Rattle.admin_words.specs.Grammar.{access_words, backup_type_words, collocate_words, mode_words, pool_type_words, serialization_words, yes_words}

-- MODE: MODIFIED or ABSOLUTE
abbrev pub mode_at : ℕ → Mode
mode_at at = if at == 1 then Absolute else Modified

abbrev pub mode_when : Option ℕ → Option Mode
mode_when None = None
mode_when (Some at) = Some (mode_at at)

abbrev pub mode_of : Option (List ℕ) → Option Mode
mode_of text = mode_when (word_of mode_words text)

-- TYPE of a database backup: FULL or INCREMENTAL
abbrev pub backup_type_at : ℕ → BackupType
backup_type_at at = if at == 1 then Incremental else Full

abbrev pub backup_type_when : Option ℕ → Option BackupType
backup_type_when None = None
backup_type_when (Some at) = Some (backup_type_at at)

abbrev pub backup_type_of : Option (List ℕ) → Option BackupType
backup_type_of text = backup_type_when (word_of backup_type_words text)

-- SERIALIZATION: SHRSTATIC or STATIC
abbrev pub still_at : ℕ → Still
still_at at = if at == 1 then Static else ShrStatic

abbrev pub still_when : Option ℕ → Option Still
still_when None = None
still_when (Some at) = Some (still_at at)

abbrev pub still_of : Option (List ℕ) → Option Still
still_of text = still_when (word_of serialization_words text)

-- ACCESS: READWRITE, READONLY, UNAVAILABLE, OFFSITE or DESTROYED
abbrev pub access_at : ℕ → Access
access_at at =
    if at == 1 then ReadOnly else (if at == 2 then Unavailable else (if at == 3 then Offsite else (if at == 4 then Destroyed else ReadWrite)))

abbrev pub access_when : Option ℕ → Option Access
access_when None = None
access_when (Some at) = Some (access_at at)

abbrev pub access_of : Option (List ℕ) → Option Access
access_of text = access_when (word_of access_words text)

-- POOLTYPE: PRIMARY or COPY
abbrev pub pool_kind_at : ℕ → PoolKind
pool_kind_at at = if at == 1 then Copy else Primary

abbrev pub pool_kind_when : Option ℕ → Option PoolKind
pool_kind_when None = None
pool_kind_when (Some at) = Some (pool_kind_at at)

abbrev pub pool_kind_of : Option (List ℕ) → Option PoolKind
pool_kind_of text = pool_kind_when (word_of pool_type_words text)

-- COLLOCATE: NO or NODE
abbrev pub collocate_when : Option ℕ → Option Bool
collocate_when None = None
collocate_when (Some at) = Some (at == 1)

abbrev pub collocate_of : Option (List ℕ) → Option Bool
collocate_of text = collocate_when (word_of collocate_words text)

-- NO or YES
abbrev pub yes_at : Option ℕ → Bool
yes_at None = false
yes_at (Some at) = at == 1

abbrev pub is_yes : Option (List ℕ) → Bool
is_yes text = yes_at (word_of yes_words text)

-- RECLAIM where it is not given
abbrev pub usual_reclaim : PoolKind → ℕ
usual_reclaim Primary = 60
usual_reclaim Copy = 100

-- NEXTSTGPOOL, where it is given: a pool, or none for an empty text
abbrev pub next_of : Option (List ℕ) → Option (Option (List ℕ))
next_of None = None
next_of (Some text) = Some (name_if 30 (Some text))
