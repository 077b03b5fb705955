-- What the calls on the files in memory do to the folder that they tell of.
use Rattle.std.proofs.Common.{◌≡◌, inl, inr, ℕ, suc, ◌<◌, true, false, List, [], ◌∷◌, length, get_or, set, Bool, ◌&&◌, take, Result, Ok, Err, refl, sym, ◌∙◌, ap, subst, arith}
use Rattle.std.specs.Io.{WritesAtMost}
use Rattle.std.proofs.lemmas.List.{length-take, take-take, drop_all}
use Rattle.std.proofs.lemmas.Bool.{and_from, cond-true, cond-false}
use Rattle.std.proofs.Math.Path.{fun_ext}
use Rattle.store_api.specs.Disk.{changed, settled, write, cut, settle}
use Rattle.files_api.specs.declared.files.Failed.{Failed}
use Rattle.files_api.specs.Folder.{Stage, away, File, no_file, Folder, Label, with_change, IsMissing, IsNew, LeavesFile, StopsAs}
use Rattle.files_api.specs.Calls.{Becomes, Reads, ReadsSome, WritesSome, Cuts, Syncs, Makes, NamesKept}
use Rattle.mem_files.specs.declared.entries.Body.{Body}
use Rattle.mem_files.specs.declared.entries.Entry.{Entry}
use Rattle.mem_files.specs.declared.moves.Move.{Move}
use Rattle.mem_files.specs.Entries.{present, file_of, file_in, IsFirst, IsFile, is_at_rest, all_at_rest, SameFiles, Puts, Turned, Same, Wrote, WasCut, WasSynced, Pairs}
use Rattle.mem_files.specs.Moves.{no_moves, moves_of, Unchanged, UndidSome}
use Rattle.mem_files.proofs.Lists.{present_is, first_file, get_or_any, own_name, other_name, becomes_set, same_set, pairs_name}
use Rattle.mem_files.proofs.Stores.{none_left}

-- what files with these entries tell, of which these were moved
abbrev pub told : Stage → List Move → List Entry → Folder
told stage moves entries = record { stage = stage; is_settled = all_at_rest entries && no_moves moves; files = file_in entries; moves = moves_of moves }

-- what a name is known by
abbrev pub label : List ℕ → Label
label name = record { name = name; turn = 0 }

folders : (stage : Stage) (moves : List Move) (b b' : Bool) (files files' : List ℕ → File) → b' ≡ b → files' ≡ files
    → ◌≡◌ {A = Folder} (record { stage = stage; is_settled = b'; files = files'; moves = moves_of moves }) (record { stage = stage; is_settled = b; files = files; moves = moves_of moves })
folders stage moves b b' files files' same same' =
    subst (λ (f : List ℕ → File). ◌≡◌ {A = Folder} (record { stage = stage; is_settled = b'; files = f; moves = moves_of moves })
    (record { stage = stage; is_settled = b; files = files; moves = moves_of moves })) (sym same')
    (ap (λ (c : Bool). record { stage = stage; is_settled = c; files = files; moves = moves_of moves }) same)

-- the folder is as it was
pub same_folder : (stage : Stage) (moves : List Move) (old new : List Entry) → SameFiles old new → told stage moves new ≡ told stage moves old
same_folder stage moves old new same = folders stage moves _ _ _ _ (ap (λ (b : Bool). b && no_moves moves) same.rest) (fun_ext same.files)

-- and nothing was moved
pub same_moved : (stage : Stage) (moves moves' : List Move) (old mid new : List Entry) → SameFiles old mid → Unchanged mid moves new moves' → told stage moves' new ≡ told stage moves old
same_moved stage moves moves' old mid new same unchanged = ap (told stage moves') unchanged.entries ∙ ap (λ (them : List Move). told stage them mid) unchanged.kept ∙ same_folder stage moves old mid
    same

-- what was found stands in the same list, under the same name
pub there : (es entries : List Entry) (n name : List ℕ) (at : ℕ) → es ≡ entries → n ≡ name → IsFile es n at → IsFile entries name at
there es entries n name at same is file = subst (λ (m : List ℕ). IsFile entries m at) is (subst (λ (xs : List Entry). IsFile xs n at) same file)

pub first_there : (es entries : List Entry) (name : List ℕ) (at : ℕ) → es ≡ entries → IsFirst es name at → IsFirst entries name at
first_there es entries name at same first = subst (λ (xs : List Entry). IsFirst xs name at) same first

pub nowhere : (es entries : List Entry) (n name : List ℕ) → es ≡ entries → n ≡ name → file_in es n ≡ no_file → file_in entries name ≡ no_file
nowhere es entries n name same is none = subst (λ (m : List ℕ). file_in entries m ≡ no_file) is (subst (λ (xs : List Entry). file_in xs n ≡ no_file) same none)

-- the file of a name
pub file_at : (entries : List Entry) (name : List ℕ) (at : ℕ) (other : Entry) → IsFile entries name at → file_in entries name ≡ present (get_or entries at other).body
file_at entries name at other file = first_file entries name at other file.first ∙ present_is (get_or entries at other).body (file.there other)

pub is_here : (entries : List Entry) (name : List ℕ) (at : ℕ) → IsFile entries name at → (file_in entries name).is_there ≡ true
is_here [] name at file = absurd (omega (arith, file.first.within))
is_here (e ∷ entries) name at file = ap (λ (f : File). f.is_there) (file_at (e ∷ entries) name at e file)

-- nothing of a file that is missing reads
pub missing : (entries : List Entry) (name : List ℕ) → file_in entries name ≡ no_file → IsMissing (file_in entries name)
missing entries name none = subst IsMissing (sym none) (record { not_there = refl; empty = refl })

no_bytes : no_file.standing.bytes ≡ []
unfolding settled
no_bytes = refl

-- what a file that is missing reads as
pub nothing : (entries : List Entry) (name : List ℕ) → file_in entries name ≡ no_file → (file_in entries name).standing.bytes ≡ []
nothing entries name none = ap (λ (file : File). file.standing.bytes) none ∙ no_bytes

pub read_none : (stage : Stage) (moves : List Move) (entries : List Entry) (name : List ℕ) → file_in entries name ≡ no_file → (offset : ℕ) (into : List ℕ)
    → ReadsSome (label name) offset into 0 (told stage moves entries)
read_none stage moves entries name none offset into = λ usable.
    subst (λ (bytes : List ℕ). Reads bytes offset into 0) (sym (nothing entries name none)) (record { within = omega arith; same = refl; end = λ none room. drop_all offset [] (omega arith) })

-- a sync of a file that is missing changes nothing
none_settled : no_file ≡ with_change settle no_file
unfolding changed settled
none_settled = refl

pub synced_none : (stage : Stage) (moves : List Move) (entries : List Entry) (name : List ℕ) → file_in entries name ≡ no_file
    → Becomes name (with_change settle (file_in entries name)) (told stage moves entries) (told stage moves entries)
synced_none stage moves entries name none = record {
  only = record { same_stage = refl; same_moves = refl; others = λ q apart. refl };
  gives = subst (λ (f : File). f ≡ with_change settle f) (sym none) none_settled;
}

-- the entry that has a name, and what became of it
module _ (stage : Stage) (moves : List Move) (entries : List Entry) (name : List ℕ) (at : ℕ) (e e' : Entry) (file : IsFile entries name at) (is : e ≡ get_or entries at e) where
  here : get_or entries at e' ≡ e
  here = get_or_any entries at e' e file.first.within ∙ sym is

  pub file_is : file_in entries name ≡ present e.body
  file_is = file_at entries name at e file ∙ ap (λ (x : Entry). present x.body) (sym is)

  pub read_here : (offset : ℕ) (into : List ℕ) (count : ℕ) → Reads (present e.body).standing.bytes offset into count → ReadsSome (label name) offset into count (told stage moves entries)
  read_here offset into count read = λ usable. subst (λ (f : File). Reads f.standing.bytes offset into count) (sym file_is) read

  becomes : (step : File → File) → Turned (step (present e.body)) e e' → Becomes name (step (file_in entries name)) (told stage moves entries) (told stage moves (set entries at e'))
  becomes step turned =
      subst (λ (f : File). Becomes name (step f) (told stage moves entries) (told stage moves (set entries at e'))) (sym file_is)
      (becomes_set stage (moves_of moves) (all_at_rest entries && no_moves moves) (all_at_rest (set entries at e') && no_moves moves) entries name at e' (step (present e.body)) file.first
      (file.there e')
      (subst (λ (x : Entry). Turned (step (present e.body)) x e') (sym here) turned))

  same : Same e e' → told stage moves (set entries at e') ≡ told stage moves entries
  same s = same_folder stage moves entries (set entries at e') (same_set entries at e' file.first.within (file.there e') (subst (λ (x : Entry). Same x e') (sym here) s))

  -- a write of the front of some bytes
  pub wrote : (offset most : ℕ) (bytes piece : List ℕ) (result : Result ℕ Failed) → piece ≡ take most bytes → WritesAtMost result piece → Wrote offset piece result e e'
      → WritesSome (label name) offset bytes result (told stage moves entries) (told stage moves (set entries at e'))
  wrote offset most bytes piece (Ok count) front few turned = λ usable.
      subst (λ (said : List ℕ). Becomes name (with_change (write offset count said) (file_in entries name)) (told stage moves entries) (told stage moves (set entries at e')))
      (ap (take count) front ∙ take-take count most bytes (omega (arith, few, ap length front, length-take most bytes)))
      (becomes (with_change (write offset count (take count piece))) turned)
  wrote offset most bytes piece (Err failed) front few (inl s) = λ usable. inl (same s)
  wrote offset most bytes piece (Err failed) front few (inr (start, span, other, from, to, small, turned)) = λ usable.
      inr (start, span, other, from, omega (arith, to, ap length front, length-take most bytes), small, becomes (with_change (write start span other)) turned)

  pub was_cut : {T : Type 0} (len : ℕ) (result : Result T Failed) → WasCut len result e e' → Cuts (label name) len result (told stage moves entries) (told stage moves (set entries at e'))
  was_cut len (Ok done) turned = λ usable long. becomes (with_change (cut len len)) turned
  was_cut len (Err failed) (inl s) = λ usable long. inl (same s)
  was_cut len (Err failed) (inr (left, from, turned)) = λ usable long. inr (left, from, becomes (with_change (cut len left)) turned)

  pub was_synced : {T : Type 0} (result : Result T Failed) → WasSynced result e e' → Syncs (label name) result (told stage moves entries) (told stage moves (set entries at e'))
  was_synced (Ok done) turned = λ usable. becomes (with_change settle) turned
  was_synced (Err failed) turned = λ usable. becomes (λ file. record file { is_sound = false }) turned

-- a file was made
pub made : (stage : Stage) (moves : List Move) (old mid new : List Entry) (name : List ℕ) (at : ℕ) (b : Body) → file_in old name ≡ no_file → SameFiles old mid → IsFirst mid name at
    → IsNew (file_of b) → Puts at (file_of b) mid new
    → Makes name (told stage moves old) (told stage moves new)
made stage moves old mid new name at b none same first fresh puts = record {
  only = record { same_stage = refl; same_moves = refl; others = λ q apart. puts.files name first q ∙ cond-false _ _ _ (other_name name q (λ is. apart (sym is))) ∙ same.files q };
  missing = missing old name none;
  fresh = subst IsNew (sym (puts.files name first name ∙ cond-true _ _ _ (own_name name name refl))) fresh;
}

sure_kept : (old new : List Entry) → Pairs (λ (before after : File). after ≡ record before { is_sure = true }) old new → (name : List ℕ)
    → file_in new name ≡ record (file_in old name) { is_sure = true }
sure_kept old new p name = pairs_name (λ (before after : File). after ≡ record before { is_sure = true }) refl old new p name

-- the names of all become sure, and no move is undone any more
pub names_kept : (stage : Stage) (moves moves' : List Move) (old new : List Entry) → Pairs (λ (before after : File). after ≡ record before { is_sure = true }) old new → moves' ≡ []
    → NamesKept (told stage moves old) (told stage moves' new)
names_kept stage moves moves' old new p none = record { same_stage = refl; sure = sure_kept old new p; moves = ap moves_of none }

all_rest : (entries : List Entry) → ((k : ℕ) (other : Entry) → k < length entries → is_at_rest (get_or entries k other).body ≡ true) → all_at_rest entries ≡ true
all_rest [] each = refl
all_rest (e ∷ entries) each = and_from (is_at_rest e.body) (all_at_rest entries) (each 0 e (omega arith)) (all_rest entries (λ k other lt. each (suc k) other (omega (arith, lt))))

-- a stop of all, behind some moves that were undone
pub stopped : (stage : Stage) (moves moves' : List Move) (old mid new : List Entry) → UndidSome moves old mid → Pairs LeavesFile mid new
    → ((k : ℕ) (other : Entry) → k < length new → is_at_rest (get_or new k other).body ≡ true) → moves' ≡ []
    → StopsAs (told stage moves old) (told away moves' new)
stopped stage moves moves' old mid new undid p rest none = record {
  settled = and_from (all_at_rest new) (no_moves moves') (all_rest new rest) (ap no_moves none);
  stage = refl;
  files = file_in mid;
  names = undid;
  left = pairs_name LeavesFile none_left mid new p;
}
