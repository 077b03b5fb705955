-- A store of one file, when it is new and after a stop.
use Rattle.std.proofs.Common.{◌≡◌, inl, inr, ℕ, ◌&&◌, ◌||◌, not, if◌then◌else◌, Bool, true, false, IsTrue, List, [], refl, sym, ◌∙◌, ap, subst, arith}
use Rattle.std.specs.List.{list_any}
use Rattle.store_api.specs.Disk.{Standing, settled, standing, standing_after, reads, History, Call, Leaves}
use Rattle.store_api.specs.Told.{StopsAs}
use Rattle.files_api.specs.Folder.{no_file, LeavesFile}
use Rattle.mem_files.specs.declared.entries.Body.{Body}
use Rattle.mem_files.specs.Entries.{present, file_of, changes}
use Rattle.mem_files.specs.Settled.{never}

-- with no calls the file is all on the disk
unchanged : (h : History) → h.calls ≡ [] → standing h 0 ≡ settled (h.first 0)
unchanged h none = ap (λ (calls : List Call). standing_after h.first calls 0) none

first_reads : (h : History) → h.calls ≡ [] → reads h 0 ≡ h.first 0
unfolding settled
first_reads h none = ap (λ (s : Standing). s.bytes) (unchanged h none)

pub new_store : (h : History) → h.calls ≡ [] → reads h 0 ≡ [] → standing h 0 ≡ settled []
new_store h none empty = unchanged h none ∙ ap settled (sym (first_reads h none) ∙ empty)

pub left_store : (old new : History) → StopsAs old new → Leaves (standing old 0) (reads new 0)
left_store old new stops = subst (λ (bytes : List ℕ). Leaves (standing old 0) bytes) (sym (first_reads new stops.nothing_pending)) (stops.left 0)

none_reads : no_file.standing.bytes ≡ []
unfolding settled
none_reads = refl

pub none_left : LeavesFile no_file no_file
unfolding settled
none_left = record { left = inl (refl, record { long = omega arith; same = λ place lt clear. refl }); none = λ gone. refl }

-- what a stop leaves of a file that it keeps, or that it may take away
pub leaves : (old new : Body) (keeps : Bool) → new.is_there ≡ (old.is_there && keeps) → (IsTrue old.is_sure → IsTrue keeps)
    → (IsTrue keeps → Leaves (present old).standing (present new).standing.bytes) → LeavesFile (file_of old) (file_of new)
leaves old new keeps is sure left = subst (λ (there : Bool). LeavesFile (file_of old) (if there then present new else no_file)) (sym is) (go old.is_there keeps sure left)
  where
    go : (there kept : Bool) → (IsTrue old.is_sure → IsTrue kept) → (IsTrue kept → Leaves (present old).standing (present new).standing.bytes)
        → LeavesFile (if there then present old else no_file) (if there && kept then present new else no_file)
    go false kept sure left = none_left
    go true true sure left = record { left = inl (refl, left refl); none = λ gone. absurd (never (sym gone)) }
    go true false sure left = record { left = inr ((λ is. never (sure is)), refl); none = λ gone. none_reads }

-- it is at rest
pub rests : (there : Bool) (calls : List Call) → calls ≡ [] → (not there || (not (list_any changes calls) && true && true)) ≡ true
rests there calls none = ap (λ (l : List Call). not there || (not (list_any changes l) && true && true)) none ∙ go there
  where
    go : (b : Bool) → (not b || true) ≡ true
    go true = refl
    go false = refl
