-- What a call of the store leaves true, once it has ended.
use Rattle.std.proofs.Common.{◌≡◌, ◌≢◌, inl, inr, ℕ, ◌<◌, ◌≤◌, ◌^◌, ◌==◌, max, List, [], ◌∷◌, length, take, drop, IsTrue, Bool, true, false, Option, None, Some, Result, Ok, Err, IsErr, refl, sym, ◌∙◌, ap, subst, arith}
use Rattle.std.proofs.lemmas.Bool.{eq-eqb, eqb-true, ne_eqb, cond-false, cond-true}
use Rattle.std.proofs.lemmas.List.{length-take}
use Rattle.store_api.specs.Disk.{Standing, Change, changed, write, cut, settle, settled, Call, on, idle}
use Rattle.store_api.specs.Told.{MayWrite, MayCut}
use Rattle.store_api.specs.declared.store.Failed.{Failed}
use Rattle.files_api.specs.Folder.{File, Folder, IsMissing, Label}
use Rattle.files_api.specs.Calls.{Only}
use Rattle.real_edge.specs.Ledger.{Faults, is_lost, Worse}
use Rattle.real_edge.specs.Names.{file_name, file_label}
use Rattle.real_edge.specs.Pool.{AreNamed}
use Rattle.real_edge.specs.Past.{call_of, bytes_in}
use Rattle.real_edge.specs.declared.past.Step.{Step}
use Rattle.real_edge.specs.declared.past.Step.TheVariants.{Look, Write, Cut, FailedCut}
use Rattle.real_edge.specs.Holds.{IsKnown, has, Desk, Holds, PatchedOnly, CutTo, left_by, after_call, Got}
use Rattle.real_edge.specs.Desks.{desk_of, Ends}
use Rattle.real_edge.specs.declared.folder.Folder.{Folder as Run}
use Rattle.real_edge.proofs.Keeps.{becomes, worse_none, never}
use Rattle.real_edge.proofs.OpenFiles.{only_none}
use Rattle.real_edge.proofs.Patches.{tied_patched}
use Rattle.real_edge.proofs.Ties.{tied_uncut, tied_unwritten, tied_synced, tied_missing}

-- the answer of a test
pub is_used : (faults : Faults) (file : ℕ) (test : Bool) → test ≡ is_lost faults file → test ≡ false → ¬ IsTrue (is_lost faults file)
is_used faults file test is none lost = never (subst IsTrue (sym is ∙ none) lost)

-- what was looked for, where it is known which it was
pub got_there : {H : Type 0} (E : Type 0) (label_of : H → Label) (file : ℕ) (found : Option H) (handle : H) (folder : Folder) → found ≡ Some handle → Got {E = E} label_of file (Ok found) folder → label_of handle ≡ file_label file
got_there {H} E label_of file found handle folder is got = subst (λ (o : Option H). Got {E = E} label_of file (Ok o) folder) is got

pub got_none : {H : Type 0} (E : Type 0) (label_of : H → Label) (file : ℕ) (found : Option H) (folder : Folder) → found ≡ None → Got {E = E} label_of file (Ok found) folder → IsMissing (folder.files (file_name file))
got_none {H} E label_of file found folder is got = subst (λ (o : Option H). Got {E = E} label_of file (Ok o) folder) is got

pub worse_then : (before mid after : Faults) → Worse before mid → Worse mid after → Worse before after
worse_then before mid after a b = record { each = λ file lost. b.each file (a.each file lost); all = λ lost. b.all (a.all lost) }

-- the same with other files open, and more of them marked
pub holds_desk : {H : Type 0} {label_of : H → Label} {is_entered : Bool} {desk desk' : Desk H} {faults : Faults} {folder : Folder} {seen : ℕ → Standing} → AreNamed label_of desk'.pool
    → (IsTrue desk'.is_synced → IsTrue desk.is_synced) → ((other : ℕ) → IsTrue (has desk.changed other) → IsTrue (has desk'.changed other))
    → Holds label_of is_entered desk faults folder seen → Holds label_of is_entered desk' faults folder seen
holds_desk named synced marked holds = record {
  each = λ file fits.
      let known = holds.each file fits in
      record { tied = known.tied; sure = λ is. known.sure (synced is); sound = known.sound; clean = λ clean. known.clean (λ marks. clean (marked file marks)) };
  stage = holds.stage;
  moves = holds.moves;
  named = named;
}

-- the same with other files open
pub holds_pool : {H : Type 0} {label_of : H → Label} {is_entered : Bool} {desk desk' : Desk H} {faults : Faults} {folder : Folder} {seen : ℕ → Standing} → desk'.is_synced ≡ desk.is_synced → desk'.changed ≡ desk.changed → AreNamed label_of desk'.pool
    → Holds label_of is_entered desk faults folder seen → Holds label_of is_entered desk' faults folder seen
holds_pool same marks named holds = holds_desk named (λ is. subst IsTrue same is) (λ other marked. subst (λ (files : List ℕ). IsTrue (has files other)) (sym marks) marked) holds

after_here : (file : ℕ) (change : Change) (seen : ℕ → Standing) → after_call (on file change) seen file ≡ changed change (seen file)
after_here file change seen = cond-true _ _ _ (eq-eqb file file refl)

after_beside : (file other : ℕ) (change : Change) (seen : ℕ → Standing) → other ≢ file → after_call (on file change) seen other ≡ seen other
after_beside file other change seen apart = cond-false _ _ _ (ne_eqb file other (λ same. apart (sym same)))

-- one file of the store changed, and its file of the folder, of which what is known is said
pub holds_changed : {H : Type 0} (label_of : H → Label) (desk desk' : Desk H) (faults : Faults) (old new : Folder) (file : ℕ) (change : Change) (seen : ℕ → Standing)
    → file < 2 ^ 32 → Holds label_of true desk faults old seen → Only (file_name file) old new → AreNamed label_of desk'.pool
    → (IsTrue desk'.is_synced → IsTrue desk.is_synced) → ((other : ℕ) → IsTrue (has desk.changed other) → IsTrue (has desk'.changed other))
    → IsKnown (new.files (file_name file)) (changed change (seen file)) desk'.is_synced (is_lost faults file) (has desk'.changed file)
    → Holds label_of true desk' faults new (after_call (on file change) seen)
holds_changed label_of desk desk' faults old new file change seen fits holds only named synced marked known =
    becomes label_of desk desk' faults faults old new file seen (after_call (on file change) seen) fits holds only (worse_none faults) named synced (λ other apart marks. marked other marks)
    (λ other apart. after_beside file other change seen apart)
    (subst (λ (standing : Standing). IsKnown (new.files (file_name file)) standing desk'.is_synced (is_lost faults file) (has desk'.changed file)) (sym (after_here file change seen)) known)

-- a call that did nothing
pub ends_idle : {F H : Type 0} (label_of : H → Label) (step : Step) (may : Call → Type 0) (run : Run F H) (faults : Faults) (new : Folder) (seen : ℕ → Standing) → step ≡ Look → may idle
    → Holds label_of true (desk_of run) faults new seen → Ends label_of (call_of step new) may run faults new seen
ends_idle label_of step may run faults new seen look one holds =
    subst (λ (it : Step). Ends label_of (call_of it new) may run faults new seen) (sym look) (record { holds = holds; is_one = one })

pub refused_write : {T : Type 0} (file at : ℕ) (bytes : List ℕ) (answer : Result T Failed) → IsErr answer → MayWrite file at bytes answer idle
refused_write file at bytes (Ok done) err = absurd (never err)
refused_write file at bytes (Err failed) err = inl refl

pub refused_cut : {T : Type 0} (file len : ℕ) (answer : Result T Failed) → IsErr answer → MayCut file len answer idle
refused_cut file len (Ok done) err = absurd (never err)
refused_cut file len (Err failed) err = inl refl

-- a file was written within a range
pub ends_written : {F H : Type 0} (label_of : H → Label) (file at len : ℕ) (may : Call → Type 0) (desk : Desk H) (run : Run F H) (faults : Faults) (old new : Folder) (seen : ℕ → Standing)
    → file < 2 ^ 32 → Holds label_of true desk faults old seen → AreNamed label_of run.pool
    → (IsTrue run.is_synced → IsTrue desk.is_synced) → ((other : ℕ) → IsTrue (has desk.changed other) → IsTrue (has run.changed.keys other)) → IsTrue (has run.changed.keys file)
    → PatchedOnly (file_name file) at len old new → may (call_of (Write file at len) new) → Ends label_of (call_of (Write file at len) new) may run faults new seen
ends_written label_of file at len may desk run faults old new seen fits holds named synced marked here patched one =
    let was = holds.each file fits in
    record {
      holds = holds_changed label_of desk (desk_of run) faults old new file (write at len (take len (drop at (bytes_in new file)))) seen fits holds patched.only named synced marked (record {
        tied = tied_patched at len (old.files (file_name file)) (new.files (file_name file)) (seen file) patched.file was.tied;
        sure = λ is. subst IsTrue (sym patched.file.sure) (was.sure (synced is));
        sound = λ used. subst IsTrue (sym patched.file.sound) (was.sound used);
        clean = λ clean. absurd (clean here);
      });
      is_one = one;
    }

-- which call a write was
pub wrote_whole : (file at : ℕ) (bytes : List ℕ) (new : Folder) → take (length bytes) (drop at (bytes_in new file)) ≡ bytes → call_of (Write file at (length bytes)) new ≡ on file (write at (length bytes) bytes)
wrote_whole file at bytes new gives = ap (λ (piece : List ℕ). on file (write at (length bytes) piece)) gives

pub wrote_part : (T : Type 0) (file at : ℕ) (bytes : List ℕ) (failed : Failed) (new : Folder) → MayWrite {T = T} file at bytes (Err failed) (call_of (Write file at (length bytes)) new)
wrote_part T file at bytes failed new = inr (at, length bytes, take (length bytes) (drop at (bytes_in new file)), omega arith, omega arith, omega (arith, length-take (length bytes) (drop at (bytes_in new file))), refl)

-- a test for no bytes
pub is_none : (bytes : List ℕ) → true ≡ (length bytes == 0) → bytes ≡ []
is_none [] test = refl
is_none (b ∷ rest) test = absurd (omega (arith, eqb-true (length (b ∷ rest)) 0 (sym test)))

-- a write of no bytes, for which nothing was done
pub ends_unwritten : {F H : Type 0} (label_of : H → Label) (file at : ℕ) (bytes : List ℕ) (run : Run F H) (faults : Faults) (new : Folder) (seen : ℕ → Standing)
    → file < 2 ^ 32 → bytes ≡ [] → Holds label_of true (desk_of run) faults new seen → Ends label_of (call_of (Write file at 0) new) (MayWrite {T = Unit {0}} file at bytes (Ok tt)) run faults new seen
ends_unwritten label_of file at bytes run faults new seen fits none holds =
    let was = holds.each file fits in
    record {
      holds = holds_changed label_of (desk_of run) (desk_of run) faults new new file (write at 0 []) seen fits holds (only_none (file_name file) new) holds.named (λ is. is) (λ other marks. marks)
          (record { tied = tied_unwritten (new.files (file_name file)) (seen file) at was.tied; sure = was.sure; sound = was.sound; clean = was.clean });
      is_one = ap (λ (piece : List ℕ). on file (write at (length piece) piece)) (sym none);
    }

-- a file was cut
pub ends_cut : {F H T E : Type 0} (label_of : H → Label) (file len : ℕ) (result : Result T E) (may : Call → Type 0) (desk : Desk H) (run : Run F H) (faults : Faults) (old new : Folder) (seen : ℕ → Standing)
    → file < 2 ^ 32 → Holds label_of true desk faults old seen → AreNamed label_of run.pool
    → (IsTrue run.is_synced → IsTrue desk.is_synced) → ((other : ℕ) → IsTrue (has desk.changed other) → IsTrue (has run.changed.keys other)) → IsTrue (has run.changed.keys file)
    → CutTo (file_name file) len result old new → may (on file (cut len (left_by result len (new.files (file_name file))))) → Ends label_of (on file (cut len (left_by result len (new.files (file_name file))))) may run faults new seen
ends_cut label_of file len result may desk run faults old new seen fits holds named synced marked here done one =
    let was = holds.each file fits in
    record {
      holds = holds_changed label_of desk (desk_of run) faults old new file (cut len (left_by result len (new.files (file_name file)))) seen fits holds done.only named synced marked (record {
        tied = done.tied (seen file) was.tied;
        sure = λ is. subst IsTrue (sym done.sure) (was.sure (synced is));
        sound = λ used. subst IsTrue (sym done.sound) (was.sound used);
        clean = λ clean. absurd (clean here);
      });
      is_one = one;
    }

pub cut_part : (T : Type 0) (file len : ℕ) (failed : Failed) (new : Folder) → MayCut {T = T} file len (Err failed) (call_of (FailedCut file len) new)
cut_part T file len failed new = inr (max len (length (bytes_in new file)), omega arith, refl)

-- a file that is missing has no bytes
pub no_bytes : (file : File) → IsMissing file → (len : ℕ) → length file.standing.bytes ≤ len
unfolding settled
no_bytes file missing len = omega (arith, ap (λ (s : Standing). length s.bytes) missing.empty)

-- a cut of a file that is missing
pub ends_uncut : {F H : Type 0} (label_of : H → Label) (file len : ℕ) (run : Run F H) (faults : Faults) (new : Folder) (seen : ℕ → Standing)
    → file < 2 ^ 32 → IsMissing (new.files (file_name file)) → Holds label_of true (desk_of run) faults new seen → Ends label_of (call_of (Cut file len) new) (MayCut {T = Unit {0}} file len (Ok tt)) run faults new seen
ends_uncut label_of file len run faults new seen fits missing holds =
    let was = holds.each file fits in
    record {
      holds = holds_changed label_of (desk_of run) (desk_of run) faults new new file (cut len len) seen fits holds (only_none (file_name file) new) holds.named (λ is. is) (λ other marks. marks) (record {
        tied = tied_uncut (new.files (file_name file)) (seen file) len len (no_bytes (new.files (file_name file)) missing len) (omega arith) was.tied;
        sure = was.sure;
        sound = was.sound;
        clean = was.clean;
      });
      is_one = refl;
    }

-- all that was changed in a file and its name are on the disk
pub holds_settled : {H : Type 0} (label_of : H → Label) (desk : Desk H) (faults : Faults) (folder : Folder) (file : ℕ) (seen : ℕ → Standing)
    → file < 2 ^ 32 → ¬ IsTrue (has desk.changed file) → IsTrue desk.is_synced → Holds label_of true desk faults folder seen → Holds label_of true desk faults folder (after_call (on file settle) seen)
holds_settled label_of desk faults folder file seen fits clean synced holds =
    let was = holds.each file fits in
    holds_changed label_of desk desk faults folder folder file settle seen fits holds (only_none (file_name file) folder) holds.named (λ is. is) (λ other marks. marks)
    (record { tied = tied_synced (folder.files (file_name file)) (seen file) (was.clean clean) (was.sure synced) was.tied; sure = was.sure; sound = was.sound; clean = was.clean })

-- the same of a file that is missing
pub holds_missing : {H : Type 0} (label_of : H → Label) (desk : Desk H) (faults : Faults) (folder : Folder) (file : ℕ) (seen : ℕ → Standing)
    → file < 2 ^ 32 → IsMissing (folder.files (file_name file)) → Holds label_of true desk faults folder seen → Holds label_of true desk faults folder (after_call (on file settle) seen)
holds_missing label_of desk faults folder file seen fits missing holds =
    let was = holds.each file fits in
    holds_changed label_of desk desk faults folder folder file settle seen fits holds (only_none (file_name file) folder) holds.named (λ is. is) (λ other marks. marks)
    (record { tied = tied_missing (folder.files (file_name file)) (seen file) missing was.tied; sure = was.sure; sound = was.sound; clean = was.clean })

-- the length of a file that is there, and of one that is missing
pub length_seen : {H : Type 0} (label_of : H → Label) (desk : Desk H) (faults : Faults) (folder : Folder) (file len : ℕ) (seen : ℕ → Standing) → file < 2 ^ 32
    → Holds label_of true desk faults folder seen → len ≡ length (folder.files (file_name file)).standing.bytes → len ≡ length (seen file).bytes
length_seen label_of desk faults folder file len seen fits holds is = is ∙ ap length (sym (holds.each file fits).tied.same)

pub none_seen : {H : Type 0} (label_of : H → Label) (desk : Desk H) (faults : Faults) (folder : Folder) (file : ℕ) (seen : ℕ → Standing) → file < 2 ^ 32
    → Holds label_of true desk faults folder seen → IsMissing (folder.files (file_name file)) → (seen file).bytes ≡ []
unfolding settled
none_seen label_of desk faults folder file seen fits holds missing = (holds.each file fits).tied.same ∙ ap (λ (s : Standing). s.bytes) missing.empty
