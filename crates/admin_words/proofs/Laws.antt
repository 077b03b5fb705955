-- The laws of the table, by computing them.
use Rattle.std.proofs.Common.{◌≡◌, Bool, true, false, [], ◌∷◌, map, refl}
use Rattle.std.specs.Prelude.{IfSome, IsTrue}
use Rattle.admin_words.specs.declared.table.ClassForm.TheVariants.{AssignClass, DefineArchiveGroup, DefineClass, DefineGroup, DeleteArchiveGroup, DeleteClass, DeleteGroup, QueryClass, QueryGroup, UpdateArchiveGroup, UpdateGroup}
use Rattle.admin_words.specs.declared.table.Form.{Form}
use Rattle.admin_words.specs.declared.table.Form.TheVariants as forms
use Rattle.admin_words.specs.declared.table.FirstWord.{FirstWord}
use Rattle.admin_words.specs.declared.table.FirstWord.TheVariants.{Activate, And, Assign, Audit, Backup, Checkpoint, Day, Define, Delete, Dsmc, End, Erase, Expire, Get, Migrate, Move, Parallel, Put, Query, Reclaim, Register, Remove, Restore, Reuse, Update, Validate, Write}
use Rattle.admin_words.specs.Rows.{Verb, archive_row, rows_of, verbs}
use Rattle.admin_words.specs.Table.{are_options, are_sound_rows, are_legible, without, block_alone, main_alone}

pub sound_rows : (first : FirstWord) → are_sound_rows (rows_of first) ≡ true
unfolding rows_of
sound_rows Activate = refl
sound_rows And = refl
sound_rows Assign = refl
sound_rows Audit = refl
sound_rows Backup = refl
sound_rows Checkpoint = refl
sound_rows Day = refl
sound_rows Define = refl
sound_rows Delete = refl
sound_rows Dsmc = refl
sound_rows End = refl
sound_rows Erase = refl
sound_rows Expire = refl
sound_rows Get = refl
sound_rows Migrate = refl
sound_rows Move = refl
sound_rows Parallel = refl
sound_rows Put = refl
sound_rows Query = refl
sound_rows Reclaim = refl
sound_rows Register = refl
sound_rows Remove = refl
sound_rows Restore = refl
sound_rows Reuse = refl
sound_rows Update = refl
sound_rows Validate = refl
sound_rows Write = refl

pub legible_rows : (first : FirstWord) → are_legible (rows_of first) ≡ true
unfolding rows_of
legible_rows Activate = refl
legible_rows And = refl
legible_rows Assign = refl
legible_rows Audit = refl
legible_rows Backup = refl
legible_rows Checkpoint = refl
legible_rows Day = refl
legible_rows Define = refl
legible_rows Delete = refl
legible_rows Dsmc = refl
legible_rows End = refl
legible_rows Erase = refl
legible_rows Expire = refl
legible_rows Get = refl
legible_rows Migrate = refl
legible_rows Move = refl
legible_rows Parallel = refl
legible_rows Put = refl
legible_rows Query = refl
legible_rows Reclaim = refl
legible_rows Register = refl
legible_rows Remove = refl
legible_rows Restore = refl
legible_rows Reuse = refl
legible_rows Update = refl
legible_rows Validate = refl
legible_rows Write = refl

pub sound_archive : (form : Form) → IfSome (archive_row form) (λ r. IsTrue (are_sound_rows (r ∷ [])))
unfolding archive_row
sound_archive (forms.Class DefineGroup) = refl
sound_archive (forms.Class DeleteGroup) = refl
sound_archive (forms.Class UpdateGroup) = refl
sound_archive (forms.Class AssignClass) = tt
sound_archive (forms.Class DefineArchiveGroup) = tt
sound_archive (forms.Class DefineClass) = tt
sound_archive (forms.Class DeleteArchiveGroup) = tt
sound_archive (forms.Class DeleteClass) = tt
sound_archive (forms.Class QueryClass) = tt
sound_archive (forms.Class QueryGroup) = tt
sound_archive (forms.Class UpdateArchiveGroup) = tt
sound_archive (forms.Policy form) = tt
sound_archive (forms.Node form) = tt
sound_archive (forms.Pool form) = tt
sound_archive (forms.Volume form) = tt
sound_archive (forms.File form) = tt
sound_archive (forms.Database form) = tt
sound_archive (forms.Block form) = tt

pub legible_archive : (form : Form) → IfSome (archive_row form) (λ r. IsTrue (are_legible (r ∷ [])))
unfolding archive_row
legible_archive (forms.Class DefineGroup) = refl
legible_archive (forms.Class DeleteGroup) = refl
legible_archive (forms.Class UpdateGroup) = refl
legible_archive (forms.Class AssignClass) = tt
legible_archive (forms.Class DefineArchiveGroup) = tt
legible_archive (forms.Class DefineClass) = tt
legible_archive (forms.Class DeleteArchiveGroup) = tt
legible_archive (forms.Class DeleteClass) = tt
legible_archive (forms.Class QueryClass) = tt
legible_archive (forms.Class QueryGroup) = tt
legible_archive (forms.Class UpdateArchiveGroup) = tt
legible_archive (forms.Policy form) = tt
legible_archive (forms.Node form) = tt
legible_archive (forms.Pool form) = tt
legible_archive (forms.Volume form) = tt
legible_archive (forms.File form) = tt
legible_archive (forms.Database form) = tt
legible_archive (forms.Block form) = tt

pub sound_words : (in_block : Bool) → are_options (map (λ (v : Verb). v.word) (verbs in_block)) ≡ true
unfolding verbs
sound_words true = refl
sound_words false = refl

pub block_words : without block_alone (verbs true) ≡ without main_alone (verbs false)
unfolding verbs
block_words = refl
