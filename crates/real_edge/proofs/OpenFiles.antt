-- What is done with one open file, piece by piece.
use Rattle.std.proofs.Common.{◌≡◌, inl, inr, ⊎_elim, ℕ, ◌+◌, ◌<◌, ◌≤◌, max, List, length, take, drop, IsTrue, Option, None, Some, IfSome, Result, Ok, Err, refl, sym, ◌∙◌, ap, subst, arith}
use Rattle.std.proofs.lemmas.Bool.{cases_lt}
use Rattle.std.proofs.lemmas.List.{length-take, length-drop, take_all}
use Rattle.store_api.specs.Disk.{cut, write, changed}
use Rattle.store_api.specs.Told.{Told}
use Rattle.files_api.specs.declared.files.Failed.{Failed}
use Rattle.files_api.specs.Folder.{File, Folder, with_change, Label, Moves}
use Rattle.files_api.specs.Calls.{Looks, IsUsable, Only, Becomes, Cuts, FailsToWrite}
use Rattle.real_edge.specs.Holds.{Tied, PatchedFile, PatchedOnly, StandsUpTo, WroteFront, WroteAll, CutTo, left_by}
use Rattle.real_edge.proofs.Patches.{patched_none, patched_write, stands_none, stands_more, stands_all}
use Rattle.real_edge.proofs.Ties.{tied_cut, tied_uncut}

pub only_none : (name : List ℕ) (folder : Folder) → Only name folder folder
only_none name folder = record { same_stage = refl; same_moves = refl; others = λ other apart. refl }

pub only_then : (name : List ℕ) (old mid new : Folder) → Only name old mid → Only name mid new → Only name old new
only_then name old mid new a b = record { same_stage = b.same_stage ∙ a.same_stage; same_moves = b.same_moves ∙ a.same_moves; others = λ other apart. b.others other apart ∙ a.others other apart }

-- two relations one after the other, of what the first told before
pub told_joined : {A B C : Type 0} {R : A → B → Type 0} {Q : B → C → Type 0} {P : A → C → Type 0} (x : Option A) (y : Option B) (z : Option C) → Told x y R → Told y z Q → ((a : A) (b : B) (c : C) → R a b → Q b c → P a c) → Told x z P
told_joined None None None r q f = tt
told_joined (Some a) (Some b) (Some c) r q f = f a b c r q
told_joined None None (Some c) r q f = q
told_joined (Some a) (Some b) None r q f = q
told_joined None (Some b) z r q f = absurd r
told_joined (Some a) None z r q f = absurd r

-- the file is as it was
uncut : {T : Type 0} (name : List ℕ) (len : ℕ) (result : Result T Failed) (folder : Folder) → len ≤ left_by result len (folder.files name) → length (folder.files name).standing.bytes ≤ left_by result len (folder.files name)
    → CutTo {T = T} {E = Failed} name len result folder folder
uncut {T} name len result folder room whole = record {
  only = only_none name folder;
  there = refl;
  sure = refl;
  sound = refl;
  tied = λ seen t. tied_uncut (folder.files name) seen len (left_by result len (folder.files name)) whole room t;
}

-- as much was left of the file as of the store's
same_left : (len left : ℕ) (bytes : List ℕ) → len ≤ left → len ≤ length bytes → take (max len (length (take left bytes))) bytes ≡ take left bytes
same_left len left bytes room fits = elim (cases_lt (length bytes) left) [
  | inl longer ↦ take_all _ bytes (omega (arith, length-take left bytes, longer)) ∙ sym (take_all left bytes (omega (arith, longer)))
  | inr within ↦ ap (λ (n : ℕ). take n bytes) (omega (arith, length-take left bytes, within, room))
]

-- the file was cut
cut_off : {T : Type 0} (name : List ℕ) (len left : ℕ) (result : Result T Failed) (old new : Folder) → len ≤ left → Becomes name (with_change (cut len left) (old.files name)) old new
    → ((kept : ℕ) → kept ≡ left_by result len (with_change (cut len left) (old.files name)) → (len ≤ kept) × (take kept (old.files name).standing.bytes ≡ take left (old.files name).standing.bytes))
    → CutTo {T = T} {E = Failed} name len result old new
cut_off {T} name len left result old new room done fits = record {
  only = done.only;
  there = ap (λ (file : File). file.is_there) done.gives;
  sure = ap (λ (file : File). file.is_sure) done.gives;
  sound = ap (λ (file : File). file.is_sound) done.gives;
  tied = λ seen t. subst (λ (file : File). Tied file (changed (cut len (left_by result len file)) seen)) (sym done.gives)
      (tied_cut (old.files name) seen len left (left_by result len (with_change (cut len left) (old.files name))) room (fits _ refl).0 (fits _ refl).1 t);
}

cut_one : {T : Type 0} (label : Label) (len : ℕ) (result : Result T Failed) (old new : Folder) → IsUsable old label → len ≤ length (old.files label.name).standing.bytes → Cuts label len result old new → CutTo {T = T} {E = Failed} label.name len result old new
unfolding changed
cut_one {T} label len (Ok done) old new used fits cuts = cut_off label.name len len (Ok done) old new (omega arith) (cuts used fits) (λ kept e. (omega (arith, e), ap (λ (n : ℕ). take n (old.files label.name).standing.bytes) e))
cut_one {T} label len (Err failed) old new used fits cuts = ⊎_elim
    (λ same. subst (λ (folder : Folder). CutTo {T = T} {E = Failed} label.name len (Err failed) old folder) (sym same) (uncut label.name len (Err failed) old (omega arith) (omega arith)))
    (λ it. cut_off label.name len it.0 (Err failed) old new it.1 it.2 (λ kept e. (omega (arith, e), ap (λ (n : ℕ). take n (old.files label.name).standing.bytes) e ∙ same_left len it.0 (old.files label.name).standing.bytes it.1 fits)))
    (cuts used fits)

-- the length was read, and the file cut
pub cut_made : {T : Type 0} (x y z : Option Folder) (label : Label) (len long : ℕ) (result : Result T Failed) → len < long → Told x y Looks
    → IfSome x (λ d. IsUsable d label → long ≡ length (d.files label.name).standing.bytes) → Told y z (Cuts label len result) → Told x z (λ old new. IsUsable old label → CutTo {T = T} {E = Failed} label.name len result old new)
cut_made {T} None None None label len long result shorter looks known cuts = tt
cut_made {T} (Some a) (Some b) (Some c) label len long result shorter looks known cuts = λ used.
    cut_one label len result a c used (omega (arith, shorter, known used)) (subst (λ (folder : Folder). Cuts label len result folder c) looks cuts)
cut_made {T} None None (Some c) label len long result shorter looks known cuts = cuts
cut_made {T} (Some a) (Some b) None label len long result shorter looks known cuts = cuts
cut_made {T} None (Some b) z label len long result shorter looks known cuts = absurd looks
cut_made {T} (Some a) None z label len long result shorter looks known cuts = absurd looks

-- the length was read, and there was nothing to cut
pub cut_none : {T : Type 0} (x y : Option Folder) (label : Label) (len long : ℕ) (done : T) → long ≤ len → Told x y Looks
    → IfSome x (λ d. IsUsable d label → long ≡ length (d.files label.name).standing.bytes) → Told x y (λ old new. IsUsable old label → CutTo {T = T} {E = Failed} label.name len (Ok done) old new)
cut_none {T} None None label len long done longer looks known = tt
cut_none {T} (Some a) (Some b) label len long done longer looks known = λ used.
    subst (λ (folder : Folder). CutTo {T = T} {E = Failed} label.name len (Ok done) a folder) (sym looks) (uncut label.name len (Ok done) a (omega arith) (omega (arith, longer, known used)))
cut_none {T} None (Some b) label len long done longer looks known = looks
cut_none {T} (Some a) None label len long done longer looks known = looks

-- the length couldn't be read
pub cut_failed : (T : Type 0) (x y : Option Folder) (label : Label) (len : ℕ) (failed : Failed) → Told x y Looks → Told x y (λ old new. IsUsable old label → CutTo {T = T} {E = Failed} label.name len (Err failed) old new)
cut_failed T None None label len failed looks = tt
cut_failed T (Some a) (Some b) label len failed looks = λ used. subst (λ (folder : Folder). CutTo {T = T} {E = Failed} label.name len (Err failed) a folder) (sym looks) (uncut label.name len (Err failed) a (omega arith) (omega arith))
cut_failed T None (Some b) label len failed looks = looks
cut_failed T (Some a) None label len failed looks = looks

-- nothing was written yet
pub front_none : (name : List ℕ) (at : ℕ) (bytes : List ℕ) (folder : Folder) → WroteFront name at bytes 0 folder folder
front_none name at bytes folder = record {
  patched = record {
    only = only_none name folder;
    file = record { standing = patched_none at (length bytes) (folder.files name).standing; there = refl; sure = refl; sound = refl };
  };
  front = stands_none (folder.files name).standing.bytes at bytes;
}

-- the calls on the file tell still
still_usable : (label : Label) (at len : ℕ) (old new : Folder) → PatchedOnly label.name at len old new → IsUsable old label → IsUsable new label
still_usable label at len old new p used = record { stage = p.only.same_stage ∙ used.stage; sound = subst IsTrue (sym p.file.sound) used.sound; current = ap (λ (moves : Moves). moves.turns label.name) p.only.same_moves ∙ used.current }

-- one more write within the range
patched_more : (name : List ℕ) (at len start span : ℕ) (other : List ℕ) (old mid new : Folder) → at ≤ start → start + span ≤ at + len → length other ≤ span → PatchedOnly name at len old mid
    → Becomes name (with_change (write start span other) (mid.files name)) mid new → PatchedOnly name at len old new
patched_more name at len start span other old mid new from to long p done = record {
  only = only_then name old mid new p.only done.only;
  file = subst (λ (file : File). PatchedFile at len (old.files name) file) (sym done.gives) (record {
    standing = patched_write at len start span other (old.files name).standing (mid.files name).standing from to long p.file.standing;
    there = p.file.there;
    sure = p.file.sure;
    sound = p.file.sound;
  });
}

pub front_more : (label : Label) (at : ℕ) (bytes : List ℕ) (done count : ℕ) (rest : List ℕ) (old mid new : Folder) → rest ≡ drop done bytes → count ≤ length rest → done ≤ length bytes
    → (IsUsable old label → WroteFront label.name at bytes done old mid) → (IsUsable mid label → Becomes label.name (with_change (write (at + done) count (take count rest)) (mid.files label.name)) mid new)
    → IsUsable old label → WroteFront label.name at bytes (done + count) old new
unfolding changed
front_more label at bytes done count rest old mid new is fits within before writes used =
    let was = before used in
    let now = writes (still_usable label at (length bytes) old mid was.patched used) in
    record {
      patched = patched_more label.name at (length bytes) (at + done) count (take count rest) old mid new (omega arith) (omega (arith, fits, within, ap length is, length-drop done bytes)) (omega (arith, length-take count rest)) was.patched now;
      front = subst (λ (file : File). StandsUpTo file.standing.bytes at bytes (done + count)) (sym now.gives)
          (subst (λ (l : List ℕ). StandsUpTo (changed (write (at + done) count (take count l)) (mid.files label.name).standing).bytes at bytes (done + count)) (sym is)
          (stands_more (mid.files label.name).standing.bytes at bytes done count (omega (arith, fits, ap length is)) was.front));
    }

-- a write that failed behind the front
pub front_failed : {T E : Type 0} (label : Label) (at : ℕ) (bytes : List ℕ) (done : ℕ) (rest : List ℕ) (failed : E) (old mid new : Folder) → rest ≡ drop done bytes → done ≤ length bytes
    → (IsUsable old label → WroteFront label.name at bytes done old mid) → (IsUsable mid label → FailsToWrite label.name (at + done) rest mid new)
    → IsUsable old label → WroteAll {T = T} {E = E} label.name at bytes (Err failed) old new
front_failed label at bytes done rest failed old mid new is within before fails used =
    let was = before used in
    record {
      patched = ⊎_elim (λ same. subst (λ (folder : Folder). PatchedOnly label.name at (length bytes) old folder) (sym same) was.patched)
          (λ it. patched_more label.name at (length bytes) it.0 it.1 it.2 old mid new (omega (arith, it.3)) (omega (arith, it.4, within, ap length is, length-drop done bytes)) it.5 was.patched it.6)
          (fails (still_usable label at (length bytes) old mid was.patched used));
      gives = tt;
    }

-- all was written
pub front_whole : {T E : Type 0} (name : List ℕ) (at : ℕ) (bytes : List ℕ) (done : ℕ) (it : T) (old new : Folder) → done ≡ length bytes → WroteFront name at bytes done old new
    → WroteAll {T = T} {E = E} name at bytes (Ok it) old new
front_whole name at bytes done it old new whole was = record {
  patched = was.patched;
  gives = stands_all (new.files name).standing.bytes at bytes (subst (StandsUpTo (new.files name).standing.bytes at bytes) whole was.front);
}

-- bytes of the rest were taken, and yet it failed
pub front_stopped : {T E : Type 0} (label : Label) (at : ℕ) (bytes : List ℕ) (done count : ℕ) (rest : List ℕ) (failed : E) (old mid new : Folder) → rest ≡ drop done bytes → count ≤ length rest → done ≤ length bytes
    → (IsUsable old label → WroteFront label.name at bytes done old mid) → (IsUsable mid label → Becomes label.name (with_change (write (at + done) count (take count rest)) (mid.files label.name)) mid new)
    → IsUsable old label → WroteAll {T = T} {E = E} label.name at bytes (Err failed) old new
front_stopped label at bytes done count rest failed old mid new is fits within before writes used =
    let was = before used in
    record {
      patched = patched_more label.name at (length bytes) (at + done) count (take count rest) old mid new (omega arith) (omega (arith, fits, within, ap length is, length-drop done bytes)) (omega (arith, length-take count rest)) was.patched
          (writes (still_usable label at (length bytes) old mid was.patched used));
      gives = tt;
    }
