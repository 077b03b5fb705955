-- What a store in a folder tells of its past, call by call.
use Rattle.std.proofs.Common.{◌≡◌, ℕ, zero, suc, ◌+◌, ◌<◌, ◌^◌, ◌&&◌, List, [], ◌∷◌, ◌++◌, length, get_or, if◌then◌else◌, IsTrue, Bool, true, false, Option, None, Some, IfSome, IsSomeAnd, Result, Ok, Err, IfOk, inl, inr, ⊎_elim, ◌≤◌, length-append, refl, sym, ◌∙◌, ap, subst, arith}
use Rattle.std.proofs.lemmas.Bool.{cases_lt, and_from, ne_eqb, cond-false}
use Rattle.std.proofs.lemmas.List.{get_or_append_left}
use Rattle.std.proofs.Math.Seq.{get_or-append_seam}
use Rattle.std.proofs.Math.ListN.{get_or-eq_default}
use Rattle.store_api.specs.Disk.{now, Standing, IsLoose, Leaves, settled, Call, on, idle, standing, reads}
use Rattle.store_api.specs.Told.{Told, Adds, MayWrite, MayCut, MaySync, StopsAs}
use Rattle.store_api.specs.declared.store.Failed.{Failed}
use Rattle.files_api.specs.Folder.{File, Folder, Stage, away, made, kept, held, spoiled, File, Moves, Label, IsOnDisk, IsAllOnDisk, LeavesFile, Undoes, StopsAs as FilesStop, unmoved}
use Rattle.real_edge.specs.Ledger.{Faults, Worse}
use Rattle.real_edge.specs.Names.{file_name}
use Rattle.real_edge.specs.Pool.{AreNamed}
use Rattle.real_edge.specs.Past.{Told as Past, history, history_of, first_past, is_away, next_past, call_of, contents_below, bytes_in}
use Rattle.real_edge.specs.Kept.{Kept, moment_in, Tells, TellsTrue, Begins}
use Rattle.real_edge.specs.declared.past.Step.{Step}
use Rattle.real_edge.specs.declared.past.Step.TheVariants.{Look}
use Rattle.real_edge.specs.declared.past.Event.TheVariants.{Called, Stopped}
use Rattle.real_edge.specs.Holds.{Tied, Desk, Holds, after_call}
use Rattle.real_edge.specs.Desks.{desk_of, Ends}
use Rattle.real_edge.specs.declared.folder.Folder.{Folder as Run}
use Rattle.real_edge.proofs.Keeps.{holds_worse, never, told_from}
use Rattle.real_edge.proofs.Ties.{tied_left}

-- the count of its calls is its moment
pub counted : {H : Type 0} (label_of : H → Label) (is_entered : Bool) (desk : Desk H) (faults : Faults) (count : ℕ) (x : Option Folder) (past : Option Past) → Tells x past (TellsTrue label_of is_entered desk faults count) → count ≡ moment_in count past
counted label_of is_entered desk faults count x None true_of = refl
counted label_of is_entered desk faults count (Some folder) (Some told) true_of = sym true_of.clock
counted label_of is_entered desk faults count None (Some told) true_of = absurd true_of

-- the call is on a file whose number is a `u32`, or on none
abbrev pub IsSmall : Call → Type 0
IsSmall idle = Unit {0}
IsSmall (on file change) = file < 2 ^ 32

pub small_look : (call : Call) → call ≡ idle → IsSmall call
small_look call is = subst IsSmall (sym is) tt

pub small_write : {T : Type 0} (file at : ℕ) (bytes : List ℕ) (answer : Result T Failed) → file < 2 ^ 32 → (call : Call) → MayWrite file at bytes answer call → IsSmall call
small_write file at bytes (Ok done) fits call is = subst IsSmall (sym is) fits
small_write file at bytes (Err failed) fits call is = ⊎_elim (λ none. subst IsSmall (sym none) tt) (λ some. subst IsSmall (sym some.6) fits) is

pub small_cut : {T : Type 0} (file len : ℕ) (answer : Result T Failed) → file < 2 ^ 32 → (call : Call) → MayCut file len answer call → IsSmall call
small_cut file len (Ok done) fits call is = subst IsSmall (sym is) fits
small_cut file len (Err failed) fits call is = ⊎_elim (λ none. subst IsSmall (sym none) tt) (λ some. subst IsSmall (sym some.2) fits) is

pub small_sync : {T : Type 0} (file : ℕ) (answer : Result T Failed) → file < 2 ^ 32 → (call : Call) → MaySync file answer call → IsSmall call
small_sync file (Ok done) fits call is = subst IsSmall (sym is) fits
small_sync file (Err failed) fits call is = subst IsSmall (sym is) tt

beyond_next : (told : Past) (call : Call) → IsSmall call → ((file : ℕ) → 2 ^ 32 ≤ file → (standing (history told) file).stable ≡ 0)
    → (file : ℕ) → 2 ^ 32 ≤ file → (standing (history (record { first = told.first; began = told.began; calls = call ∷ told.calls })) file).stable ≡ 0
beyond_next told idle small before file out = before file out
beyond_next told (on changed_file change) small before file out =
    ap (λ (s : Standing). s.stable) (cond-false _ _ _ (ne_eqb changed_file file (λ same. omega (arith, small, out, same)))) ∙ before file out

-- after a call of the store what it did stands in its files
holds_next : {H : Type 0} (label_of : H → Label) (desk : Desk H) (faults : Faults) (folder : Folder) (told : Past) (call : Call) → Holds label_of true desk faults folder (after_call call (standing (history told)))
    → Holds label_of true desk faults folder (standing (history (record { first = told.first; began = told.began; calls = call ∷ told.calls })))
holds_next label_of desk faults folder told idle holds = holds
holds_next label_of desk faults folder told (on file change) holds = holds

-- a call that only looked
pub ends_looked : {F H : Type 0} (label_of : H → Label) (is_entered : Bool) (desk : Desk H) (run : Run F H) (faults faults' : Faults) (x y : Option Folder)
    → Told x y (λ old new. (seen : ℕ → Standing) → Holds label_of is_entered desk faults old seen → Holds label_of true (desk_of run) faults' new seen)
    → Told x y (λ old new. (seen : ℕ → Standing) → Holds label_of is_entered desk faults old seen → Ends label_of (call_of Look new) (λ call. call ≡ idle) run faults' new seen)
ends_looked label_of is_entered desk run faults faults' x y keeps = told_from x y keeps (λ old new keep seen holds. record { holds = keep seen holds; is_one = refl })

-- what it tells has one call more
pub tells_on : {F H : Type 0} (label_of : H → Label) (is_entered : Bool) (desk : Desk H) (run : Run F H) (faults faults' : Faults) (count : ℕ) (step : Step) (may : Call → Type 0) (x y : Option Folder) (past : Option Past)
    → Tells x past (TellsTrue label_of is_entered desk faults count)
    → Told x y (λ old new. (seen : ℕ → Standing) → Holds label_of is_entered desk faults old seen → Ends label_of (call_of step new) may run faults' new seen)
    → Told (history_of past) (history_of (next_past (Called step) y past)) (Adds may)
tells_on label_of is_entered desk run faults faults' count step may None None None true_of ends = tt
tells_on label_of is_entered desk run faults faults' count step may (Some old) (Some new) None true_of ends = tt
tells_on label_of is_entered desk run faults faults' count step may (Some old) (Some new) (Some told) true_of ends = (call_of step new, (ends (standing (history told)) true_of.holds).is_one, refl)
tells_on label_of is_entered desk run faults faults' count step may None None (Some told) true_of ends = absurd true_of
tells_on label_of is_entered desk run faults faults' count step may None (Some new) past true_of ends = absurd ends
tells_on label_of is_entered desk run faults faults' count step may (Some old) None past true_of ends = absurd ends

-- and that is so
pub tells_still : {F H : Type 0} (label_of : H → Label) (is_entered is_entered' : Bool) (desk : Desk H) (run : Run F H) (faults faults' after : Faults) (count count' : ℕ) (step : Step) (may : Call → Type 0) (x y : Option Folder) (past : Option Past)
    → IsTrue is_entered' → Worse faults' after → count' ≡ count + 1 → ((call : Call) → may call → IsSmall call) → Tells x past (TellsTrue label_of is_entered desk faults count)
    → Told x y (λ old new. (seen : ℕ → Standing) → Holds label_of is_entered desk faults old seen → Ends label_of (call_of step new) may run faults' new seen)
    → Tells y (next_past (Called step) y past) (TellsTrue label_of is_entered' (desk_of run) after count')
tells_still label_of is_entered is_entered' desk run faults faults' after count count' step may None None None entered worse more small true_of ends = tt
tells_still label_of is_entered is_entered' desk run faults faults' after count count' step may (Some old) (Some new) None entered worse more small true_of ends = tt
tells_still label_of is_entered is_entered' desk run faults faults' after count count' step may (Some old) (Some new) (Some told) entered worse more small true_of ends =
    let next : Past = record { first = told.first; began = told.began; calls = call_of step new ∷ told.calls } in
    record {
      holds = subst (λ (b : Bool). Holds label_of b (desk_of run) after new (standing (history next))) (sym entered)
          (holds_worse label_of true (desk_of run) faults' after new (standing (history next)) worse (holds_next label_of (desk_of run) faults' new told (call_of step new) (ends (standing (history told)) true_of.holds).holds));
      clock = omega (arith, true_of.clock, more);
      beyond = beyond_next told (call_of step new) (small (call_of step new) (ends (standing (history told)) true_of.holds).is_one) true_of.beyond;
    }
tells_still label_of is_entered is_entered' desk run faults faults' after count count' step may None None (Some told) entered worse more small true_of ends = absurd true_of
tells_still label_of is_entered is_entered' desk run faults faults' after count count' step may None (Some new) past entered worse more small true_of ends = absurd ends
tells_still label_of is_entered is_entered' desk run faults faults' after count count' step may (Some old) None past entered worse more small true_of ends = absurd ends

-- its moment is the next one
pub moment_next : (count count' moment moment' : ℕ) → count ≡ moment → count' ≡ moment' → count' ≡ count + 1 → moment' ≡ moment + 1
moment_next count count' moment moment' is is' more = omega (arith, is, is', more)

-- what a call answers of what the files tell is so of what the store tells
pub answer_told : {H T E : Type 0} (label_of : H → Label) (is_entered : Bool) (desk : Desk H) (faults : Faults) (count file : ℕ) (says : T → List ℕ → Type 0) (answer : Result T E) (x : Option Folder) (past : Option Past)
    → Tells x past (TellsTrue label_of is_entered desk faults count)
    → IfOk answer (λ v. IfSome x (λ old. (seen : ℕ → Standing) → Holds label_of is_entered desk faults old seen → says v (seen file).bytes))
    → IfOk answer (λ v. IfSome (history_of past) (λ h. says v (reads h file)))
answer_told label_of is_entered desk faults count file says (Err failed) x past true_of known = tt
answer_told label_of is_entered desk faults count file says (Ok v) x None true_of known = tt
answer_told label_of is_entered desk faults count file says (Ok v) (Some old) (Some told) true_of known = known (standing (history told)) true_of.holds
answer_told label_of is_entered desk faults count file says (Ok v) None (Some told) true_of known = absurd true_of

contents_length : (n : ℕ) (contents : ℕ → List ℕ) → length (contents_below n contents) ≡ n
unfolding contents_below
contents_length zero contents = refl
contents_length (suc n) contents = omega (arith, length-append (contents_below n contents) (contents n ∷ []), contents_length n contents)

-- what stands at a file's number
contents_at : (n file : ℕ) (contents : ℕ → List ℕ) → file < n → get_or (contents_below n contents) file [] ≡ contents file
unfolding contents_below
contents_at zero file contents fits = absurd (omega (arith, fits))
contents_at (suc n) file contents fits = elim (cases_lt file n) [
  | inl below ↦ get_or_append_left (contents_below n contents) (contents n ∷ []) [] file (omega (arith, below, contents_length n contents)) ∙ contents_at n file contents below
  | inr behind ↦
      let last : n ≡ file = omega (arith, behind, fits) in
      subst (λ (k : ℕ). get_or (contents_below n contents ++ (contents n ∷ [])) k [] ≡ contents n) (contents_length n contents ∙ last) (get_or-append_seam (contents_below n contents) (contents n) [] []) ∙ ap contents last
]

-- a file of which all is on the disk
tied_first : (file : File) → IsOnDisk file → Tied file (settled file.standing.bytes)
unfolding settled
tied_first file on_disk = record {
  same = refl;
  within = omega arith;
  stable = omega (arith, ap (λ (s : Standing). s.stable) on_disk.bytes);
  loose = λ place lt in_it. absurd (subst (λ (s : Standing). IsLoose s.loose place) on_disk.bytes in_it);
  unsure = λ unsure. ap length (on_disk.name unsure);
}

both_true : (x y : Bool) → (x && y) ≡ true → (x ≡ true) × (y ≡ true)
both_true true y is = (refl, is)
both_true false y is = absurd (never is)

stage_away : (stage : Stage) → is_away stage ≡ true → stage ≡ away
stage_away away is = refl
stage_away made is = absurd (never is)
stage_away kept is = absurd (never is)
stage_away held is = absurd (never is)
stage_away spoiled is = absurd (never is)

abbrev started : ℕ → Folder → Past
started began folder = record { first = contents_below (2 ^ 32) (bytes_in folder); began = began; calls = [] }

none_beyond : (first : List (List ℕ)) (file : ℕ) → length first ≤ file → (settled (get_or first file [])).stable ≡ 0
unfolding settled
none_beyond first file out = ap length (get_or-eq_default first [] {n = file} out)

-- A store that begins over a folder that no run has entered. No file is open, none is marked.
starts : {H : Type 0} (label_of : H → Label) (desk : Desk H) (faults : Faults) (began : ℕ) (folder : Folder) → IsAllOnDisk folder → folder.stage ≡ away → AreNamed label_of desk.pool → desk.is_synced ≡ false
    → TellsTrue label_of false desk faults began folder (started began folder)
starts label_of desk faults began folder on_disk at named unsynced = record {
  holds = record {
    each = λ file fits. record {
      tied = subst (λ (bytes : List ℕ). Tied (folder.files (file_name file)) (settled bytes)) (sym (contents_at (2 ^ 32) file (bytes_in folder) fits)) (tied_first (folder.files (file_name file)) (on_disk.files (file_name file)));
      sure = λ is. absurd (never (subst IsTrue unsynced is));
      sound = λ used. (on_disk.files (file_name file)).sound;
      clean = λ clean. (on_disk.files (file_name file)).bytes;
    };
    stage = record { before = λ entered. at; within = λ entered used. absurd (never entered) };
    moves = on_disk.moves;
    named = named;
  };
  clock = omega arith;
  beyond = λ file out. none_beyond (contents_below (2 ^ 32) (bytes_in folder)) file (omega (arith, contents_length (2 ^ 32) (bytes_in folder), out));
}

pub tells_first : {H : Type 0} (label_of : H → Label) (desk : Desk H) (faults : Faults) (x : Option Folder) → IfSome x (λ d. IsTrue d.is_settled → IsAllOnDisk d) → AreNamed label_of desk.pool → desk.is_synced ≡ false
    → Tells x (first_past 0 x) (TellsTrue label_of false desk faults 0)
tells_first label_of desk faults None settles named unsynced = tt
tells_first {H} label_of desk faults (Some folder) settles named unsynced = go (folder.is_settled && is_away folder.stage) refl
  where
    go : (b : Bool) → (folder.is_settled && is_away folder.stage) ≡ b → Tells (Some folder) (if b then Some (started 0 folder) else None) (TellsTrue label_of false desk faults 0)
    go false is = tt
    go true is = starts label_of desk faults 0 folder (settles (both_true folder.is_settled (is_away folder.stage) is).0) (stage_away folder.stage (both_true folder.is_settled (is_away folder.stage) is).1) named unsynced

pub begins : (x : Option Folder) → IfSome x (λ folder. IsTrue folder.is_settled → folder.stage ≡ away → IsSomeAnd (history_of (first_past 0 x)) (Begins folder))
begins None = tt
begins (Some folder) = λ is_settled at. go is_settled at (folder.is_settled && is_away folder.stage) (and_from folder.is_settled (is_away folder.stage) is_settled (ap is_away at))
  where
    go : IsTrue folder.is_settled → folder.stage ≡ away → (b : Bool) → b ≡ true → IsSomeAnd (history_of (if b then Some (started 0 folder) else None)) (Begins folder)
    go is_settled at true is = record { first = λ file fits. contents_at (2 ^ 32) file (bytes_in folder) fits; began = refl; no_calls = refl }
    go is_settled at false is = absurd (never is)

-- the same as its callers see it
pub told_call : {T : Type 0} (may : Result T Failed → Call → Type 0) (result answer : Result T Failed) (was before : Kept) (past past' : Option Past) → was ≡ before → result ≡ answer → past' ≡ past
    → Told (history_of was.past) (history_of past) (Adds (may answer)) → Told (history_of before.past) (history_of past') (Adds (may result))
told_call may result answer was before past past' same is is' told =
    subst (λ (kept : Kept). Told (history_of kept.past) (history_of past') (Adds (may result))) same
    (subst (λ r. Told (history_of was.past) (history_of past') (Adds (may r))) (sym is)
    (subst (λ (p : Option Past). Told (history_of was.past) (history_of p) (Adds (may answer))) (sym is') told))

-- what a stop of the machine leaves of the files is what the store begins with
pub tells_stopped : {H : Type 0} (label_of : H → Label) (is_entered : Bool) (desk desk' : Desk H) (faults faults' : Faults) (count : ℕ) (x y : Option Folder) (past : Option Past)
    → IfSome y (λ d. IsTrue d.is_settled → IsAllOnDisk d) → AreNamed label_of desk'.pool → desk'.is_synced ≡ false → Tells x past (TellsTrue label_of is_entered desk faults count) → Told x y FilesStop
    → Tells y (next_past Stopped y past) (TellsTrue label_of false desk' faults' count)
tells_stopped label_of is_entered desk desk' faults faults' count None None None settles named unsynced true_of stops = tt
tells_stopped label_of is_entered desk desk' faults faults' count (Some old) (Some new) None settles named unsynced true_of stops = tt
tells_stopped label_of is_entered desk desk' faults faults' count (Some old) (Some new) (Some told) settles named unsynced true_of stops =
    subst (λ (moment : ℕ). TellsTrue label_of false desk' faults' moment new (started (now (history told)) new)) true_of.clock (starts label_of desk' faults' (now (history told)) new (settles stops.settled) stops.stage named unsynced)
tells_stopped label_of is_entered desk desk' faults faults' count None None (Some told) settles named unsynced true_of stops = absurd true_of
tells_stopped label_of is_entered desk desk' faults faults' count None (Some new) past settles named unsynced true_of stops = absurd stops
tells_stopped label_of is_entered desk desk' faults faults' count (Some old) None past settles named unsynced true_of stops = absurd stops

-- where no file was moved each name has what the stop may leave of its file
left_there : (old new : Folder) (name : List ℕ) → old.moves ≡ unmoved → FilesStop old new → LeavesFile (old.files name) (new.files name)
left_there old new name none stops =
    let same : stops.files name ≡ old.files name = subst (λ (moves : Moves). Undoes [] moves.pending old.files stops.files) none stops.names name in
    subst (λ (file : File). LeavesFile file (new.files name)) same (stops.left name)

-- and that is one of the images that a stop may leave of the store
pub told_stopped : {H : Type 0} (label_of : H → Label) (is_entered : Bool) (desk : Desk H) (faults : Faults) (count : ℕ) (x y : Option Folder) (past : Option Past) → Tells x past (TellsTrue label_of is_entered desk faults count) → Told x y FilesStop
    → Told (history_of past) (history_of (next_past Stopped y past)) StopsAs
told_stopped label_of is_entered desk faults count None None None true_of stops = tt
told_stopped label_of is_entered desk faults count (Some old) (Some new) None true_of stops = tt
told_stopped label_of is_entered desk faults count (Some old) (Some new) (Some told) true_of stops = record {
  same_moment = refl;
  nothing_pending = refl;
  left = λ file. elim (cases_lt file (2 ^ 32)) [
    | inl fits ↦ subst (λ (bytes : List ℕ). Leaves (standing (history told) file) bytes) (sym (contents_at (2 ^ 32) file (bytes_in new) fits))
        (tied_left (old.files (file_name file)) (new.files (file_name file)) (standing (history told) file) (left_there old new (file_name file) true_of.holds.moves stops) (true_of.holds.each file fits).tied)
    | inr out ↦ record { long = omega (arith, true_of.beyond file out); same = λ place lt clear. absurd (omega (arith, lt, true_of.beyond file out)) }
  ];
}
told_stopped label_of is_entered desk faults count None None (Some told) true_of stops = absurd true_of
told_stopped label_of is_entered desk faults count None (Some new) past true_of stops = absurd stops
told_stopped label_of is_entered desk faults count (Some old) None past true_of stops = absurd stops

-- the same as its callers see it
pub stop_told : (was before : Kept) (past past' : Option Past) → was ≡ before → past' ≡ past → Told (history_of was.past) (history_of past) StopsAs → Told (history_of before.past) (history_of past') StopsAs
stop_told was before past past' same is told =
    subst (λ (kept : Kept). Told (history_of kept.past) (history_of past') StopsAs) same (subst (λ (p : Option Past). Told (history_of was.past) (history_of p) StopsAs) (sym is) told)
