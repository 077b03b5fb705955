-- Where the files in memory say that all is on the disk, it is.
use Rattle.std.specs.Prelude.{◌≡◌, ℕ, ◌&&◌, ◌||◌, not, if◌then◌else◌, Bool, true, false, IsTrue, List, [], ◌∷◌}
use Rattle.std.specs.List.{list_any}
use Rattle.std.proofs.Common.{refl, ap, sym, ◌∙◌, subst}
use Rattle.store_api.specs.Disk.{Standing, settled, standing_after, standing, Call, on, idle}
use Rattle.files_api.specs.Folder.{File, no_file, unmoved, IsOnDisk, IsAllOnDisk}
use Rattle.mem_store.specs.Mem.{history_of}
use Rattle.mem_files.specs.declared.mem.MemFiles.{MemFiles}
use Rattle.mem_files.specs.declared.entries.Body.{Body}
use Rattle.mem_files.specs.declared.entries.Entry.{Entry}
use Rattle.mem_files.specs.declared.moves.Move.{Move}
use Rattle.mem_files.specs.Entries.{present, file_of, file_in, has_name, changes, is_at_rest, all_at_rest}
use Rattle.mem_files.specs.Moves.{no_moves, moves_of}
use Rattle.mem_files.specs.Mem.{folder_of}

Is : Bool → Type 0
Is true = Unit {0}
Is false = ⊥

pub never : false ≡ true → ⊥
unfolding Is
never is = subst Is (sym is) tt

both : (x y : Bool) → (x && y) ≡ true → (x ≡ true) × (y ≡ true)
both true y is = (refl, is)
both false y is = absurd (never is)

-- calls that change nothing
still : (first : ℕ → List ℕ) (calls : List Call) → not (list_any changes calls) ≡ true → standing_after first calls 0 ≡ settled (first 0)
still first [] rest = refl
still first (idle ∷ calls) rest = still first calls rest
still first (on file change ∷ calls) rest = absurd (never rest)

settled_is : (bytes : List ℕ) (at : Standing) → at ≡ settled bytes → at ≡ settled at.bytes
unfolding settled
settled_is bytes at is = is ∙ ap settled (sym (ap (λ (s : Standing). s.bytes) is))

none_settled : IsOnDisk no_file
none_settled = record { bytes = settled_is [] (settled []) refl; name = λ unsure. absurd (unsure refl); sound = refl }

file_settled : (b : Body) → (not (list_any changes (history_of b.store).calls) && b.is_sure && b.is_sound) ≡ true → IsOnDisk (present b)
file_settled b rest =
    let first = both (not (list_any changes (history_of b.store).calls) && b.is_sure) b.is_sound rest in
    let second = both (not (list_any changes (history_of b.store).calls)) b.is_sure first.0 in
    record {
      bytes = settled_is ((history_of b.store).first 0) (standing (history_of b.store) 0) (still (history_of b.store).first (history_of b.store).calls second.0);
      name = λ unsure. absurd (unsure second.1);
      sound = first.1;
    }

if_settled : (b : Bool) (x y : File) → IsOnDisk x → IsOnDisk y → IsOnDisk (if b then x else y)
if_settled true x y a b = a
if_settled false x y a b = b

body_settled : (b : Body) → is_at_rest b ≡ true → IsOnDisk (file_of b)
body_settled b rest = go b.is_there rest
  where
    go : (there : Bool) → (not there || (not (list_any changes (history_of b.store).calls) && b.is_sure && b.is_sound)) ≡ true → IsOnDisk (if there then present b else no_file)
    go true is = file_settled b is
    go false is = none_settled

all_settled : (entries : List Entry) → all_at_rest entries ≡ true → (name : List ℕ) → IsOnDisk (file_in entries name)
all_settled [] rest name = none_settled
all_settled (e ∷ entries) rest name =
    let a = both (is_at_rest e.body) (all_at_rest entries) rest in
    if_settled (has_name name e) (file_of e.body) (file_in entries name) (body_settled e.body a.0) (all_settled entries a.1 name)

none_moved : (moves : List Move) → no_moves moves ≡ true → moves_of moves ≡ unmoved
none_moved [] is = refl
none_moved (it ∷ moves) is = absurd (never is)

pub settled_of : (m : MemFiles) → IsTrue (folder_of m).is_settled → IsAllOnDisk (folder_of m)
settled_of m rest =
    let a = both (all_at_rest m.entries.items) (no_moves m.moves.items) rest in
    record { files = all_settled m.entries.items a.0; moves = none_moved m.moves.items a.1 }
