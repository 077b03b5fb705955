-- Commands of client files.
use Rattle.std.specs.Prelude.{ℕ, List, codes, Option, Some, None, unwrap_or}
use Rattle.admin_words.specs.declared.files.FileWrite.{FileWrite}
use Rattle.admin_words.specs.declared.files.Contents.{Contents}
use Rattle.admin_words.specs.declared.files.Contents.TheVariants.{Text, Counted}
use Rattle.admin_words.specs.declared.files.Wanted.{Wanted}
use Rattle.admin_words.specs.declared.files.Wanted.TheVariants.{Active, Like, On, Object}
use Rattle.admin_words.specs.declared.files.FileErase.{FileErase}
use Rattle.admin_words.specs.declared.files.FilePut.{FilePut}
use Rattle.admin_words.specs.declared.files.FileGet.{FileGet}
use Rattle.admin_words.specs.declared.files.IncrementalBackup.{IncrementalBackup}
use Rattle.admin_words.specs.declared.files.FilesRestore.{FilesRestore}
use Rattle.admin_words.specs.declared.files.FilesArchive.{FilesArchive}
use Rattle.admin_words.specs.declared.files.FilesRetrieve.{FilesRetrieve}
use Rattle.admin_words.specs.declared.table.Form.TheVariants.{File}
use Rattle.admin_words.specs.declared.table.FileForm.TheVariants.{ArchiveFiles, Put, RestoreFiles, RetrieveFiles, Write}
use Rattle.admin_words.specs.Chosen.{is_yes}
use Rattle.admin_words.specs.Grammar.{given_for}
use Rattle.command_words.specs.Rows.{Given, text_at}
use Rattle.command_words.specs.Fields.{description_if, description_of, name_if, name_of, number_of, path_of, size_of, text_of}

-- What a file is written with, by TEXT, or else by SIZE and FILL.
abbrev pub contents : Option (List ℕ) → Option (List ℕ) → Option (List ℕ) → Contents
contents (Some text) size fill = Text text
contents None size fill = Counted (unwrap_or (size_of size) 0) (unwrap_or (number_of 250 fill) 0)

-- WRITE: a file of a tree.
abbrev pub file_write : List Given → List Given → FileWrite
file_write places keys =
    record {
      tree = unwrap_or (number_of 9999999999 (text_at 0 places)) 0;
      path = path_of 1024 (text_at 1 places);
      mtime = unwrap_or (number_of 9999999999 (text_at 2 places)) 0;
      contents = contents (given_for (File Write) (codes "TEXT") keys) (given_for (File Write) (codes "SIZE") keys) (given_for (File Write) (codes "FILL") keys);
    }

-- ERASE: a file of a tree.
abbrev pub file_erase : List Given → List Given → FileErase
file_erase places keys =
    record {
      tree = unwrap_or (number_of 9999999999 (text_at 0 places)) 0;
      path = path_of 1024 (text_at 1 places);
    }

-- PUT: one file, sent without a tree.
abbrev pub file_put : List Given → List Given → FilePut
file_put places keys =
    record {
      node = name_of 64 (text_at 0 places);
      filespace = path_of 64 (text_at 1 places);
      path = path_of 1024 (text_at 2 places);
      mtime = unwrap_or (number_of 9999999999 (text_at 3 places)) 0;
      text = text_of (given_for (File Put) (codes "TEXT") keys);
    }

-- GET: the active version of one file.
abbrev pub file_get : List Given → List Given → FileGet
file_get places keys =
    record {
      node = name_of 64 (text_at 0 places);
      filespace = path_of 64 (text_at 1 places);
      path = path_of 1024 (text_at 2 places);
    }

-- DSMC INCREMENTAL: what changed in a tree.
abbrev pub incremental_backup : List Given → List Given → IncrementalBackup
incremental_backup places keys =
    record {
      node = name_of 64 (text_at 0 places);
      filespace = path_of 64 (text_at 1 places);
      tree = unwrap_or (number_of 9999999999 (text_at 2 places)) 0;
    }

-- Which versions are wanted, by PITDATE, or else by OBJECT, or else the active ones.
abbrev pub wanted_on : Option ℕ → Option ℕ → Wanted
wanted_on (Some day) object = On day
wanted_on None (Some object) = Object object
wanted_on None None = Active

-- The same by PATTERN, or else by these.
abbrev pub wanted : Option (List ℕ) → Option (List ℕ) → Option (List ℕ) → Wanted
wanted (Some pattern) day object = Like pattern
wanted None day object = wanted_on (number_of 2147483647 day) (number_of 9999999999 object)

-- DSMC RESTORE: what is wanted of a filespace, into a tree.
abbrev pub files_restore : List Given → List Given → FilesRestore
files_restore places keys =
    record {
      node = name_of 64 (text_at 0 places);
      filespace = path_of 64 (text_at 1 places);
      tree = unwrap_or (number_of 9999999999 (text_at 2 places)) 0;
      wanted = wanted (given_for (File RestoreFiles) (codes "PATTERN") keys) (given_for (File RestoreFiles) (codes "PITDATE") keys) (given_for (File RestoreFiles) (codes "OBJECT") keys);
    }

-- DSMC ARCHIVE: files of a tree are archived. A description that is not given is empty.
abbrev pub files_archive : List Given → List Given → FilesArchive
files_archive places keys =
    record {
      node = name_of 64 (text_at 0 places);
      filespace = path_of 64 (text_at 1 places);
      tree = unwrap_or (number_of 9999999999 (text_at 2 places)) 0;
      pattern = given_for (File ArchiveFiles) (codes "PATTERN") keys;
      class = name_if 30 (given_for (File ArchiveFiles) (codes "ARCHMC") keys);
      description = description_of (given_for (File ArchiveFiles) (codes "DESCRIPTION") keys);
      delete_files = is_yes (given_for (File ArchiveFiles) (codes "DELETEFILES") keys);
    }

-- DSMC RETRIEVE: what was archived of a filespace, into a tree.
abbrev pub files_retrieve : List Given → List Given → FilesRetrieve
files_retrieve places keys =
    record {
      node = name_of 64 (text_at 0 places);
      filespace = path_of 64 (text_at 1 places);
      tree = unwrap_or (number_of 9999999999 (text_at 2 places)) 0;
      pattern = given_for (File RetrieveFiles) (codes "PATTERN") keys;
      description = description_if (given_for (File RetrieveFiles) (codes "DESCRIPTION") keys);
    }
