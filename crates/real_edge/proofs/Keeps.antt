-- What each kind of call on the files leaves true of a store in a folder.
use Rattle.std.proofs.Common.{◌≡◌, ◌≢◌, ◌⊎◌, inl, inr, ℕ, ◌<◌, ◌^◌, ◌||◌, List, [], IsTrue, Bool, true, false, Option, None, Some, IfSome, refl, sym, ◌∙◌, ap, subst, arith}
use Rattle.std.proofs.lemmas.Bool.{cases_lt}
use Rattle.store_api.specs.Disk.{Standing, settle, settled, changed}
use Rattle.store_api.specs.Told.{Told}
use Rattle.files_api.specs.Folder.{Stage, File, Moves, unmoved, Folder, Label, with_change}
use Rattle.files_api.specs.Calls.{Only, Becomes, Makes, IsUsable, label_at}
use Rattle.real_edge.specs.Ledger.{Faults, is_lost, Worse}
use Rattle.real_edge.specs.Names.{file_name, file_label}
use Rattle.real_edge.specs.Pool.{AreNamed}
use Rattle.real_edge.specs.Holds.{Tied, IsKnown, has, Desk, IsAtStage, Holds}
use Rattle.real_edge.proofs.Numbers.{names_apart}
use Rattle.real_edge.proofs.Ties.{tied_like, tied_settle, tied_new}

-- a relation follows from another
pub told_from : {A B : Type 0} {R Q : A → B → Type 0} (x : Option A) (y : Option B) → Told x y R → ((a : A) (b : B) → R a b → Q a b) → Told x y Q
told_from None None told f = tt
told_from (Some a) (Some b) told f = f a b told
told_from None (Some b) told f = told
told_from (Some a) None told f = told

-- the same, with what is known where the first one tells
pub told_with : {A B : Type 0} {K : A → Type 0} {R Q : A → B → Type 0} (x : Option A) (y : Option B) → IfSome x K → Told x y R → ((a : A) (b : B) → K a → R a b → Q a b) → Told x y Q
told_with None None known told f = tt
told_with (Some a) (Some b) known told f = f a b known told
told_with None (Some b) known told f = told
told_with (Some a) None known told f = told

IsYes : Bool → Type 0
IsYes true = Unit {0}
IsYes false = ⊥

-- false isn't true
pub never : IsTrue false → ⊥
unfolding IsYes
never is = subst IsYes (sym is) tt

or_first : (a b : Bool) → IsTrue a → IsTrue (a || b)
or_first true b is = refl
or_first false b is = absurd (never is)

-- where a file is in use, some are
pub not_all : (faults : Faults) (file : ℕ) → ¬ IsTrue (is_lost faults file) → ¬ IsTrue faults.all_lost
not_all faults file used all = used (or_first faults.all_lost _ all)

pub worse_none : (faults : Faults) → Worse faults faults
worse_none faults = record { each = λ file lost. lost; all = λ lost. lost }

pub stage_worse : (is_entered : Bool) (before after : Faults) (stage : Stage) → Worse before after → IsAtStage is_entered before.all_lost stage → IsAtStage is_entered after.all_lost stage
stage_worse is_entered before after stage worse at = record {
  before = at.before;
  within = λ entered used. at.within entered (λ lost. used (worse.all lost));
}

-- files on which no more is done are no reason to know less
pub holds_worse : {H : Type 0} (label_of : H → Label) (is_entered : Bool) (desk : Desk H) (before after : Faults) (folder : Folder) (seen : ℕ → Standing) → Worse before after
    → Holds label_of is_entered desk before folder seen → Holds label_of is_entered desk after folder seen
holds_worse label_of is_entered desk before after folder seen worse holds = record {
  each = λ file fits.
      let known = holds.each file fits in
      record { tied = known.tied; sure = known.sure; sound = λ used. known.sound (λ lost. used (worse.each file lost)); clean = known.clean };
  stage = stage_worse is_entered before after folder.stage worse holds.stage;
  moves = holds.moves;
  named = holds.named;
}

-- where the store holds the folder, the calls on a file that is used tell something
pub usable : {H : Type 0} (label_of : H → Label) (desk : Desk H) (faults : Faults) (folder : Folder) (seen : ℕ → Standing) (file : ℕ) → file < 2 ^ 32 → ¬ IsTrue (is_lost faults file)
    → Holds label_of true desk faults folder seen → IsUsable folder (file_label file)
usable label_of desk faults folder seen file fits used holds = record {
  stage = holds.stage.within refl (not_all faults file used);
  sound = (holds.each file fits).sound used;
  current = ap (λ (moves : Moves). moves.turns (file_name file)) holds.moves;
}

-- what a file is known by that was opened in a folder in which none was moved
pub label_first : (folder : Folder) (name : List ℕ) (file : ℕ) (label : Label) → folder.moves ≡ unmoved → name ≡ file_name file → label ≡ label_at folder name → label ≡ file_label file
label_first folder name file label none is opened = opened ∙ ap (λ (moves : Moves). record { name = name; turn = moves.turns name }) none ∙ ap (λ (n : List ℕ). record { name = n; turn = 0 }) is

-- One file of the folder became another, and perhaps one of the store's. What is known of it is said, and the others are as they were.
pub becomes : {H : Type 0} (label_of : H → Label) (desk desk' : Desk H) (faults faults' : Faults) (old new : Folder) (file : ℕ) (seen seen' : ℕ → Standing)
    → file < 2 ^ 32 → Holds label_of true desk faults old seen → Only (file_name file) old new → Worse faults faults' → AreNamed label_of desk'.pool
    → (IsTrue desk'.is_synced → IsTrue desk.is_synced)
    → ((other : ℕ) → other ≢ file → IsTrue (has desk.changed other) → IsTrue (has desk'.changed other))
    → ((other : ℕ) → other ≢ file → seen' other ≡ seen other)
    → IsKnown (new.files (file_name file)) (seen' file) desk'.is_synced (is_lost faults' file) (has desk'.changed file)
    → Holds label_of true desk' faults' new seen'
becomes label_of desk desk' faults faults' old new file seen seen' fits holds only worse named synced marked same known = record {
  each = λ other low. elim (cases_lt other file) [
    | inl less ↦ beside other low (λ e. omega (arith, less, e))
    | inr most ↦ elim (cases_lt file other) [
      | inl more ↦ beside other low (λ e. omega (arith, more, e))
      | inr least ↦
          let e : file ≡ other = omega (arith, most, least) in
          subst (λ (n : ℕ). IsKnown (new.files (file_name n)) (seen' n) desk'.is_synced (is_lost faults' n) (has desk'.changed n)) e known
    ]
  ];
  stage = subst (λ (stage : Stage). IsAtStage true faults'.all_lost stage) (sym only.same_stage) (stage_worse true faults faults' old.stage worse holds.stage);
  moves = only.same_moves ∙ holds.moves;
  named = named;
}
  where
    beside : (other : ℕ) → other < 2 ^ 32 → (other ≢ file) → IsKnown (new.files (file_name other)) (seen' other) desk'.is_synced (is_lost faults' other) (has desk'.changed other)
    beside other low apart =
        let was = holds.each other low in
        let there = only.others (file_name other) (λ e. apart (names_apart other file low fits e)) in
        subst (λ (now : File). IsKnown now (seen' other) desk'.is_synced (is_lost faults' other) (has desk'.changed other)) (sym there) (record {
          tied = subst (λ (standing : Standing). Tied (old.files (file_name other)) standing) (sym (same other apart)) was.tied;
          sure = λ all. was.sure (synced all);
          sound = λ used. was.sound (λ lost. used (worse.each other lost));
          clean = λ clean. was.clean (λ marks. clean (marked other apart marks));
        })

settled_clean : (bytes : List ℕ) → settled bytes ≡ settled (settled bytes).bytes
unfolding settled
settled_clean bytes = refl

settle_clean : (standing : Standing) → changed settle standing ≡ settled (changed settle standing).bytes
unfolding settled changed
settle_clean standing = refl

-- a file was made where there was none, so the names aren't synced any more
pub holds_new : {H : Type 0} (label_of : H → Label) (desk : Desk H) (faults : Faults) (old new : Folder) (file : ℕ) (seen : ℕ → Standing) → file < 2 ^ 32
    → Holds label_of true desk faults old seen → Makes (file_name file) old new → Holds label_of true (record desk { is_synced = false }) faults new seen
holds_new label_of desk faults old new file seen fits holds made =
    becomes label_of desk (record desk { is_synced = false }) faults faults old new file seen seen fits holds made.only (worse_none faults) holds.named (λ is. absurd (never is)) (λ other apart marks. marks) (λ other apart. refl) (record {
      tied = tied_new (old.files (file_name file)) (new.files (file_name file)) (seen file) made.missing made.fresh (holds.each file fits).tied;
      sure = λ is. absurd (never is);
      sound = λ used. subst IsTrue (sym made.fresh.sound) refl;
      clean = λ clean. subst (λ (standing : Standing). standing ≡ settled standing.bytes) (sym made.fresh.empty) (settled_clean []);
    })

-- nothing was made, but the names count as not synced
pub holds_unsynced : {H : Type 0} (label_of : H → Label) (desk : Desk H) (faults : Faults) (folder : Folder) (seen : ℕ → Standing) → Holds label_of true desk faults folder seen
    → Holds label_of true (record desk { is_synced = false }) faults folder seen
holds_unsynced label_of desk faults folder seen holds = record {
  each = λ file fits.
      let known = holds.each file fits in
      record { tied = known.tied; sure = λ is. absurd (never is); sound = known.sound; clean = known.clean };
  stage = holds.stage;
  moves = holds.moves;
  named = holds.named;
}

-- a file was made, or nothing was done
pub holds_created : {H : Type 0} (label_of : H → Label) (desk : Desk H) (faults : Faults) (old new : Folder) (file : ℕ) (seen : ℕ → Standing) → file < 2 ^ 32
    → Holds label_of true desk faults old seen → (new ≡ old) ⊎ Makes (file_name file) old new → Holds label_of true (record desk { is_synced = false }) faults new seen
holds_created label_of desk faults old new file seen fits holds (inl same) = subst (λ (folder : Folder). Holds label_of true (record desk { is_synced = false }) faults folder seen) (sym same) (holds_unsynced label_of desk faults old seen holds)
holds_created label_of desk faults old new file seen fits holds (inr made) = holds_new label_of desk faults old new file seen fits holds made

-- the changes of a file became durable
pub holds_synced : {H : Type 0} (label_of : H → Label) (desk desk' : Desk H) (faults : Faults) (old new : Folder) (file : ℕ) (seen : ℕ → Standing) → file < 2 ^ 32 → ¬ IsTrue (is_lost faults file)
    → Holds label_of true desk faults old seen → AreNamed label_of desk'.pool → (IsTrue desk'.is_synced → IsTrue desk.is_synced)
    → ((other : ℕ) → other ≢ file → IsTrue (has desk.changed other) → IsTrue (has desk'.changed other))
    → (IsUsable old (file_label file) → Becomes (file_name file) (with_change settle (old.files (file_name file))) old new)
    → Holds label_of true desk' faults new seen
holds_synced label_of desk desk' faults old new file seen fits used holds named synced marked syncs =
    let done = syncs (usable label_of desk faults old seen file fits used holds) in
    let was = holds.each file fits in
    becomes label_of desk desk' faults faults old new file seen seen fits holds done.only (worse_none faults) named synced marked (λ other apart. refl)
    (subst (λ (now : File). IsKnown now (seen file) desk'.is_synced (is_lost faults file) (has desk'.changed file)) (sym done.gives) (record {
      tied = tied_settle (old.files (file_name file)) (seen file) was.tied;
      sure = λ all. was.sure (synced all);
      sound = was.sound;
      clean = λ clean. settle_clean (old.files (file_name file)).standing;
    }))

-- a sync of a file failed, and it is lost
pub holds_lost : {H : Type 0} (label_of : H → Label) (desk : Desk H) (faults faults' : Faults) (old new : Folder) (file : ℕ) (seen : ℕ → Standing) → file < 2 ^ 32 → ¬ IsTrue (is_lost faults file)
    → Worse faults faults' → IsTrue (is_lost faults' file) → Holds label_of true desk faults old seen
    → (IsUsable old (file_label file) → Becomes (file_name file) (record (old.files (file_name file)) { is_sound = false }) old new)
    → Holds label_of true desk faults' new seen
holds_lost label_of desk faults faults' old new file seen fits used worse lost holds syncs =
    let done = syncs (usable label_of desk faults old seen file fits used holds) in
    let was = holds.each file fits in
    becomes label_of desk desk faults faults' old new file seen seen fits holds done.only worse holds.named (λ all. all) (λ other apart marks. marks) (λ other apart. refl)
    (subst (λ (now : File). IsKnown now (seen file) desk.is_synced (is_lost faults' file) (has desk.changed file)) (sym done.gives) (record {
      tied = tied_like (old.files (file_name file)) (record (old.files (file_name file)) { is_sound = false }) (seen file) refl (λ sure. sure) was.tied;
      sure = was.sure;
      sound = λ still. absurd (still lost);
      clean = was.clean;
    }))
