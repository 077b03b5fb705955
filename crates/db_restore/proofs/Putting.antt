-- A restore, step by step.
use Rattle.std.proofs.Common.{◌≡◌, ◌⊎◌, inl, inr, ℕ, ◌<◌, ◌≤◌, Bool, true, false, ◌&&◌, List, [], ◌∷◌, ◌++◌, length, map, Option, Some, None, is_some, Result, Ok, Err, IfOk, OnOk, refl, sym, ap, subst, ◌∙◌, arith}
use Rattle.std.specs.Prelude.{◌==◌, cond}
use Rattle.std.specs.List.{AllByRecursion, list_all, list_any, flat_map}
use Rattle.std.specs.Map.{keys_of, lookup}
use Rattle.std.specs.Option.{option_map_or}
use Rattle.std.proofs.Math.Path.{fun_ext}
use Rattle.std.proofs.lemmas.Bool.{and_parts, eq-eqb, eqb-true}
use Rattle.std.proofs.lemmas.Bool as bool
use Rattle.kinds.specs.declared.segment.Segment.{Segment}
use Rattle.kinds.specs.declared.refusal.OpenRefused.{OpenRefused}
use Rattle.store_api.specs.Disk.{Standing, History, ImageAt, Leaves, standing, reads, now, settled}
use Rattle.store_api.specs.Runs.{EachImage, GoesOn}
use Rattle.store_api.specs.Told.{Told}
use Rattle.store_api.proofs.Runs.{each_then, goes_images, goes_later, goes_none, goes_standing, goes_then, goes_weaker, image_now, now_image, told_map, told_then}
use Rattle.store_api.proofs.Pieces.{leaves_reads}
use Rattle.inventory_rows.specs.version_groups.declared.copies.CopyRow.{CopyRow}
use Rattle.inventory_rows.specs.version_groups.declared.versions.Version.{Version}
use Rattle.inventory_rows.specs.volume_rows.declared.volume.Volume.{Volume}
use Rattle.inventory_rows.specs.Search.{copies, versions}
use Rattle.inventory_rows.specs.State.{Inv}
use Rattle.inventory.specs.Meant.{meaning}
use Rattle.contents.specs.Contents.{HasVersion, Holds, InImage}
use Rattle.vault.specs.Files.{IsOurs}
use Rattle.volume_frames.specs.Frames.{bytes_of}
use Rattle.vault.specs.Recovery.{IsInstalledAs}
use Rattle.vault.specs.Openings.{HadOne, Installed, IsSound, NotLast}
use Rattle.db_chains.specs.Reads.{OnlySettles}
use Rattle.db_losses.specs.Losses.{Losses, restored, versions_left}
use Rattle.db_losses.proofs.Flat.{versions_restored}
use Rattle.db_restore.specs.declared.done.RestoreDone.{RestoreDone}
use Rattle.db_restore.specs.declared.refused.RestoreRefused.{RestoreRefused}
use Rattle.db_restore.specs.Missing.{AreJudged, is_among}
use Rattle.db_restore.specs.Settling.{AreDurable, Judges, has_volume}
use Rattle.db_restore.specs.declared.refused.RestoreRefused.TheVariants as refused
use Rattle.kinds.specs.declared.refusal.OpenRefused.TheVariants as unread
use Rattle.db_restore.specs.Restoring.{AreAlike, IsInstalled, IsRestored, KeepsOthers, Leaves as LeavesOf, Looked, Puts, Restores, SaysDay, stopped}
use Rattle.db_restore.proofs.Holding.{AreOn, versions_stand}

pub same_of : (old mid : History) → OnlySettles old mid → reads mid ≡ reads old
same_of old mid s = fun_ext s.same

-- ---- images

-- a store that was sound is, after calls that only made files durable
pub still_sound : (old mid : History) → OnlySettles old mid → IsSound meaning old → IsSound meaning mid
still_sound old mid s sound = λ files here. sound files (s.images (now mid) files (goes_later (λ file. 4 ≤ file) old mid s.goes) (omega arith) here)

-- what an image had at the start of the later part it had at the start
pub had_before : (old mid : History) → OnlySettles old mid → (files : ℕ → List ℕ) → HadOne meaning mid files → HadOne meaning old files
had_before old mid s files had = record {
  database = had.database;
  recovers = had.recovers;
  start = had.start;
  left = s.images (now mid) had.start (goes_later (λ file. 4 ≤ file) old mid s.goes) (omega arith) had.left;
  same = had.same;
}

had_itself : (old : History) (files : ℕ → List ℕ) → IsSound meaning old → ImageAt old (now old) files → HadOne meaning old files
had_itself old files sound here = (let is = sound files here in record { database = is.0; recovers = is.1; start = files; left = here; same = is.1 })

-- so it is of each image since, while files are only made durable
pub calm_since : (p : Inv) (file day : ℕ) (skipped : List ℕ) (old new : History) → OnlySettles old new → IsSound meaning old → EachImage (now old) new (λ files. HadOne meaning old files ⊎ IsRestored p file day skipped old files)
calm_since p file day skipped old new s sound = λ moment files from to here. inl (had_itself old files sound (s.images moment files from to here))

-- what a stop may leave of one file after calls that only make files durable it might have left before
pub left_before : (old mid : History) → OnlySettles old mid → (other : ℕ) (left : List ℕ) → Leaves (standing mid other) left → Leaves (standing old other) left
left_before old mid s other left leaves =
    let files : ℕ → List ℕ = λ f. cond (f == other) left (reads mid f) in
    let here : ImageAt mid (now mid) files = image_now mid files (λ f. go f (f == other) refl) in
    let at : ImageAt old (now old) files = s.images (now mid) files (goes_later (λ file. 4 ≤ file) old mid s.goes) (omega arith) here in
    subst (λ (b : Bool). Leaves (standing old other) (cond b left (reads mid other))) (eq-eqb other other refl) (now_image old files at other)
  where
    go : (f : ℕ) (b : Bool) → (f == other) ≡ b → Leaves (standing mid f) (cond b left (reads mid f))
    go f true is = subst (λ (n : ℕ). Leaves (standing mid n) left) (sym (eqb-true f other is)) leaves
    go f false is = leaves_reads mid f

pub kept_calm : (old new : History) → OnlySettles old new → EachImage (now old) new (KeepsOthers old)
kept_calm old new s = λ moment files from to here other ours. now_image old files (s.images moment files from to here) other

kept_put : (old mid new : History) → OnlySettles old mid → GoesOn IsOurs mid new → EachImage (now old) new (KeepsOthers old)
kept_put old mid new s goes =
    each_then IsOurs old mid new (KeepsOthers old) goes (kept_calm old mid s)
    (λ moment files from to here other ours. left_before old mid s other (files other) (goes_images IsOurs mid new other (λ mine. omega (arith, mine, ours)) goes moment files from to here))

-- ---- days

-- what stops a restore behind the look at the days says nothing of them
stopped_later : (taken day : ℕ) (why : OpenRefused) → taken ≤ day → SaysDay taken day (stopped why)
stopped_later taken day (unread.ReadFault file) later = later
stopped_later taken day unread.NotFormatted later = later
stopped_later taken day (unread.Damaged file at) later = later
stopped_later taken day unread.RunFull later = later
stopped_later taken day unread.Memory later = later

pub days_of : (taken day : ℕ) (why : OpenRefused) (said : RestoreRefused) → said ≡ stopped why → taken ≤ day → SaysDay taken day said
days_of taken day why said is later = subst (SaysDay taken day) (sym is) (stopped_later taken day why later)

-- ---- what is told

pub looked_failed : {E : Type 0} (p : Inv) (file day : ℕ) (skipped : List ℕ) (why : E) (losses_why : E) (x y : Option History) → (let result : Result Losses E = Err losses_why in Told x y (Judges p skipped result)) → (let result : Result (Inv × RestoreDone) E = Err why in Told x y (Looked p file day skipped result))
looked_failed p file day skipped why losses_why x y a = told_map x y _ _ (λ old new j. record { settles = j.settles; durable = tt; left = tt }) a

pub looked_unmade : {E : Type 0} (p : Inv) (file day : ℕ) (skipped : List ℕ) (why : E) (losses : Losses) (x y : Option History) → (let result : Result Losses E = Ok losses in Told x y (Judges p skipped result)) → (let result : Result (Inv × RestoreDone) E = Err why in Told x y (Looked p file day skipped result))
looked_unmade p file day skipped why losses x y a = told_map x y _ _ (λ old new j. record { settles = j.settles; durable = tt; left = tt }) a

pub looked_made : (p left : Inv) (file day : ℕ) (skipped : List ℕ) (done : RestoreDone) (losses : Losses) (x y : Option History) → LeavesOf losses file day p left done → (let result : Result Losses OpenRefused = Ok losses in Told x y (Judges p skipped result))
    → (let result : Result (Inv × RestoreDone) OpenRefused = Ok (left, done) in Told x y (Looked p file day skipped result))
looked_made p left file day skipped done losses x y leaves a = told_map x y _ _ (λ old new j. record { settles = j.settles; durable = j.durable; left = (losses, j.judged, leaves) }) a

pub restores_none : (p : Inv) (file day : ℕ) (skipped : List ℕ) (why : RestoreRefused) (x : Option History) → (let result : Result RestoreDone RestoreRefused = Err why in Told x x (Restores p file day skipped result))
restores_none p file day skipped why None = tt
restores_none p file day skipped why (Some h) = record {
  goes = goes_none (λ other. Unit {0}) h;
  others = λ other ours. refl;
  kept = λ moment files from to here other ours. now_image h files (subst (λ (k : ℕ). ImageAt h k files) (let e : moment ≡ now h = omega (arith, from, to) in e) here) other;
  installed = tt;
  since = λ sound last. λ moment files from to here. inl (had_itself h files sound (subst (λ (k : ℕ). ImageAt h k files) (let e : moment ≡ now h = omega (arith, from, to) in e) here));
}

pub restores_unseen : {E : Type 0} (p : Inv) (file day : ℕ) (skipped : List ℕ) (why : RestoreRefused) (looked_why : E) (x y : Option History) → (let result : Result (Inv × RestoreDone) E = Err looked_why in Told x y (Looked p file day skipped result))
    → (let result : Result RestoreDone RestoreRefused = Err why in Told x y (Restores p file day skipped result))
restores_unseen p file day skipped why looked_why x y a =
    told_map x y _ _ (λ old new l. record { goes = goes_weaker (λ other. 4 ≤ other) (λ other. Unit {0}) old new (λ other ours. tt) l.settles.goes; others = λ other ours. l.settles.same other; kept = kept_calm old new l.settles; installed = tt; since = λ sound last. calm_since p file day skipped old new l.settles sound }) a

-- other files than the vault's read as before
others_same : (mid new : History) → GoesOn IsOurs mid new → (other : ℕ) → 4 ≤ other → standing new other ≡ standing mid other
others_same mid new goes other ours = goes_standing IsOurs mid new other (λ mine. omega (arith, mine, ours)) goes

any_calls : (old mid new : History) → OnlySettles old mid → GoesOn IsOurs mid new → GoesOn (λ other. Unit {0}) old new
any_calls old mid new s goes = goes_then (λ other. Unit {0}) old mid new (goes_weaker (λ other. 4 ≤ other) (λ other. Unit {0}) old mid (λ other ours. tt) s.goes) (goes_weaker IsOurs (λ other. Unit {0}) mid new (λ other mine. tt) goes)

others_of : (old mid new : History) → OnlySettles old mid → GoesOn IsOurs mid new → (other : ℕ) → 4 ≤ other → reads new other ≡ reads old other
others_of old mid new s goes other ours = ap (λ (f : Standing). f.bytes) (others_same mid new goes other ours) ∙ s.same other

since_of : {T E : Type 0} (p : Inv) (file day : ℕ) (skipped : List ℕ) (losses : Losses) (old mid new : History) (result : Result T E) → AreJudged (reads old) skipped losses p → OnlySettles old mid → Installed meaning (restored losses file day p) result mid new
    → IsSound meaning old → NotLast (reads old) → EachImage (now old) new (λ files. HadOne meaning old files ⊎ IsRestored p file day skipped old files)
since_of p file day skipped losses old mid new result judged s i sound last =
    each_then IsOurs old mid new (λ files. HadOne meaning old files ⊎ IsRestored p file day skipped old files) i.goes (calm_since p file day skipped old mid s sound)
    (λ moment files from to here. elim (i.since (still_sound old mid s sound) (subst NotLast (sym (same_of old mid s)) last) moment files from to here) [
      | inl had ↦ inl (had_before old mid s files had)
      | inr is ↦ inr (record { losses = losses; judged = judged; recovers = is })
    ])

pub restores_unput : (p left : Inv) (file day : ℕ) (skipped : List ℕ) (done : RestoreDone) (why : RestoreRefused) (put_why : OpenRefused) (x y z : Option History) → (let result : Result (Inv × RestoreDone) OpenRefused = Ok (left, done) in Told x y (Looked p file day skipped result))
    → (let result : Result RestoreDone OpenRefused = Err put_why in Told y z (Puts left done result)) → (let result : Result RestoreDone RestoreRefused = Err why in Told x z (Restores p file day skipped result))
restores_unput p left file day skipped done why put_why x y z a b =
    told_then x y z _ _ _ (λ old mid new l put.
    let result : Result RestoreDone OpenRefused = Err put_why in
    let losses : Losses = l.left.0 in
    let installs : Installed meaning (restored losses file day p) result mid new = subst (λ (v : Inv). Installed meaning v result mid new) l.left.2.is put.installs in
    record {
      goes = any_calls old mid new l.settles put.installs.goes;
      others = others_of old mid new l.settles put.installs.goes;
      kept = kept_put old mid new l.settles put.installs.goes;
      installed = tt;
      since = λ sound last. since_of p file day skipped losses old mid new result l.left.1 l.settles installs sound last;
    }) a b

-- a database was put into the files
pub put_done : (left : Inv) (done : RestoreDone) (x y : Option History) → (let result : Result (Unit {0}) OpenRefused = Ok tt in Told x y (Installed meaning left result)) → (let result : Result RestoreDone OpenRefused = Ok done in Told x y (Puts left done result))
put_done left done x y a = told_map x y _ _ (λ old new i. record { installs = record { goes = i.goes; installed = i.installed; since = i.since }; tells = refl }) a

pub put_failed : (left : Inv) (done : RestoreDone) (why : OpenRefused) (x y : Option History) → (let result : Result (Unit {0}) OpenRefused = Err why in Told x y (Installed meaning left result)) → (let result : Result RestoreDone OpenRefused = Err why in Told x y (Puts left done result))
put_failed left done why x y a = told_map x y _ _ (λ old new i. record { installs = record { goes = i.goes; installed = tt; since = i.since }; tells = tt }) a

-- ---- what the images hold

-- each segment of each copy lies on a volume that is there
abbrev pub AreThere : Inv → Type 0
AreThere p = AllByRecursion (λ w. AllByRecursion (λ c. AllByRecursion (λ s. (4 ≤ s.file) × (has_volume s.file p.stores.volumes ≡ true)) c.segments) w.copies) (versions p)

segments_on : (volumes : List (ℕ × Volume)) (skipped : List ℕ) (old mid new : History) (image : ℕ → List ℕ) → reads mid ≡ reads old → AreDurable skipped volumes mid → GoesOn IsOurs mid new → ImageAt new (now new) image → (contents : ℕ → List ℕ) → (segments : List Segment)
    → AllByRecursion (λ s. (4 ≤ s.file) × (has_volume s.file volumes ≡ true)) segments → AreOn (reads old) image skipped contents segments
segments_on volumes skipped old mid new image same durable goes here contents [] there = tt
segments_on volumes skipped old mid new image same durable goes here contents (s ∷ segments) there = (
  (λ free.
      let stands : standing new s.file ≡ settled (reads old s.file) = others_same mid new goes s.file there.0.0 ∙ durable s.file there.0.1 free ∙ ap (λ (r : ℕ → List ℕ). settled (r s.file)) same in
      subst (λ (f : Standing). Leaves f (image s.file)) stands (now_image new image here s.file)),
  segments_on volumes skipped old mid new image same durable goes here contents segments there.1,
)

copies_on : (volumes : List (ℕ × Volume)) (skipped : List ℕ) (old mid new : History) (image : ℕ → List ℕ) → reads mid ≡ reads old → AreDurable skipped volumes mid → GoesOn IsOurs mid new → ImageAt new (now new) image → (contents : ℕ → List ℕ) → (cs : List CopyRow)
    → AllByRecursion (λ c. AllByRecursion (λ s. (4 ≤ s.file) × (has_volume s.file volumes ≡ true)) c.segments) cs → AllByRecursion (λ c. AreOn (reads old) image skipped contents c.segments) cs
copies_on volumes skipped old mid new image same durable goes here contents [] there = tt
copies_on volumes skipped old mid new image same durable goes here contents (c ∷ cs) there =
    (segments_on volumes skipped old mid new image same durable goes here contents c.segments there.0, copies_on volumes skipped old mid new image same durable goes here contents cs there.1)

versions_on : (volumes : List (ℕ × Volume)) (skipped : List ℕ) (old mid new : History) (image : ℕ → List ℕ) → reads mid ≡ reads old → AreDurable skipped volumes mid → GoesOn IsOurs mid new → ImageAt new (now new) image → (contents : ℕ → List ℕ) → (ws : List Version)
    → AllByRecursion (λ w. AllByRecursion (λ c. AllByRecursion (λ s. (4 ≤ s.file) × (has_volume s.file volumes ≡ true)) c.segments) w.copies) ws → AllByRecursion (λ w. AllByRecursion (λ c. AreOn (reads old) image skipped contents c.segments) w.copies) ws
versions_on volumes skipped old mid new image same durable goes here contents [] there = tt
versions_on volumes skipped old mid new image same durable goes here contents (w ∷ ws) there =
    (copies_on volumes skipped old mid new image same durable goes here contents w.copies there.0, versions_on volumes skipped old mid new image same durable goes here contents ws there.1)

pub restores_put : (p left : Inv) (file day : ℕ) (skipped : List ℕ) (done told : RestoreDone) (x y z : Option History) → AreThere p → (let result : Result (Inv × RestoreDone) OpenRefused = Ok (left, done) in Told x y (Looked p file day skipped result))
    → (let result : Result RestoreDone OpenRefused = Ok told in Told y z (Puts left done result)) → (let result : Result RestoreDone RestoreRefused = Ok told in Told x z (Restores p file day skipped result))
restores_put p left file day skipped done told x y z there a b =
    told_then x y z _ _ _ (λ old mid new l put.
    let result : Result RestoreDone OpenRefused = Ok told in
    let losses : Losses = l.left.0 in
    let leaves = l.left.2 in
    let judged = l.left.1 in
    let same = same_of old mid l.settles in
    let installs : Installed meaning (restored losses file day p) result mid new = subst (λ (v : Inv). Installed meaning v result mid new) leaves.is put.installs in
    let is = installs.installed in
    record {
      goes = any_calls old mid new l.settles put.installs.goes;
      others = others_of old mid new l.settles put.installs.goes;
      kept = kept_put old mid new l.settles put.installs.goes;
      installed = record {
        losses = losses;
        judged = judged;
        next = is.0;
        follows = subst (λ (r : ℕ → List ℕ). IsInstalledAs meaning r is.0) same is.1;
        images = is.2;
        holds = λ contents alike. λ moment image from to here.
            let at_end : ImageAt new (now new) image = subst (λ (k : ℕ). ImageAt new k image) (let e : moment ≡ now new = omega (arith, from, to) in e) here in
            subst (λ (l : List Version). AllByRecursion (λ w. HasVersion (InImage image) (contents w.object) w) l) (sym (versions_restored losses file day p))
            (versions_stand (reads old) image skipped contents losses (versions p) judged (versions_on p.stores.volumes skipped old mid new image same l.durable installs.goes at_end contents (versions p) there)
            (subst (λ (l : List Version). AllByRecursion (λ w. AllByRecursion (λ c. bytes_of (reads old) c.segments ≡ contents w.object) w.copies) l) (versions_restored losses file day p) alike));
        versions = ap (λ (d : RestoreDone). d.versions) put.tells ∙ leaves.versions ∙ ap (λ (v : Inv). length (versions v)) leaves.is;
        copies = ap (λ (d : RestoreDone). d.copies) put.tells ∙ leaves.copies ∙ ap (λ (v : Inv). length (copies v)) leaves.is;
        lost = ap (λ (d : RestoreDone). d.lost) put.tells ∙ leaves.lost;
      };
      since = λ sound last. since_of p file day skipped losses old mid new result judged l.settles installs sound last;
    }) a b
