-- What reading a log does to its file, and that no image loses a record by it.
use Rattle.std.proofs.Common.{◌≡◌, ℕ, ◌<◌, ◌≤◌, ◌^◌, false, IsTrue, List, [], ◌∷◌, length, Result, Ok, Err, IsErr, refl, sym, ◌∙◌, ap, subst, arith}
use Rattle.std.proofs.lemmas.Bool.{eq-eqb, cond-true}
use Rattle.std.proofs.lemmas.Result.{IfOk-from_err}
use Rattle.store_api.specs.declared.store.Failed.{Failed}
use Rattle.store_api.specs.Disk.{Standing, Leaves, on, idle, settle, settled, changed, History, standing, reads, now, with_call, ImageAt}
use Rattle.store_api.specs.Runs.{GoesOn}
use Rattle.store_api.specs.Told.{Adds, MaySync}
use Rattle.store_api.proofs.Standings.{standing_on, leaves_settled}
use Rattle.store_api.proofs.Runs.{image_now, goes_later, goes_then, goes_weaker, goes_images, each_then, each_call}
use Rattle.store_api.proofs.Pieces.{with_file, image_with, image_reads, stable_within}
use Rattle.kinds.specs.declared.refusal.OpenRefused.{OpenRefused}
use Rattle.log_file.specs.Blocks.{LogEnds}
use Rattle.log_file.specs.Cursor.{Held, Place, Shows, CameTo, Looked}
use Rattle.log_file.specs.Starts.{KeepsEnd, KeepsLeft, Settled, Opened}
use Rattle.log_file.proofs.Logs.{settled_left}
use Rattle.log_file.proofs.Told.{looked_reads, looked_standing}

-- what a stop leaves of a file, all of which is on the disk now, it might have left before
left_before : (file : ℕ) (h : History) (left : List ℕ) → Leaves (settled (reads h file)) left → Leaves (standing h file) left
unfolding settled
left_before file h left leaves = record {
  long = omega (arith, stable_within h file, leaves.long);
  same = λ place lt not. leaves_settled (reads h file) left leaves place (omega (arith, lt, stable_within h file));
}

-- a sync that succeeded
settled_ok : {T E : Type 0} (file : ℕ) (done : T) (h : History) → (let result : Result T E = Ok done in Settled file result h (with_call (on file settle) h))
unfolding changed settled
settled_ok file done h =
    let same : standing (with_call (on file settle) h) file ≡ settled (reads h file) = standing_on h file settle in
    record {
      goes = record { calls = on file settle ∷ []; grew = refl; only = (refl, tt) };
      same = ap (λ (s : Standing). s.bytes) same;
      images = λ payloads each. each_call (on file settle) h (λ image. LogEnds (image file) payloads)
          (λ image left. each image (image_now h image left))
          (λ image left. settled_left (reads h file) (image file) payloads (each (reads h) (image_reads h)) (subst (λ s. Leaves s (image file)) same (left file)));
      left = each_call (on file settle) h (λ image. Leaves (standing h file) (image file)) (λ image left. left file) (λ image left. left_before file h (image file) (subst (λ s. Leaves s (image file)) same (left file)));
      durable = same;
    }

-- one that failed
settled_err : {T E : Type 0} (file : ℕ) (failed : E) (h : History) → (let result : Result T E = Err failed in Settled file result h (with_call idle h))
settled_err file failed h = record {
  goes = record { calls = idle ∷ []; grew = refl; only = tt };
  same = refl;
  images = λ payloads each. each_call idle h (λ image. LogEnds (image file) payloads) (λ image left. each image (image_now h image left)) (λ image left. each image (image_now h image left));
  left = each_call idle h (λ image. Leaves (standing h file) (image file)) (λ image left. left file) (λ image left. left file);
  durable = tt;
}

pub settled_by : {T E : Type 0} (file : ℕ) (done : T) (old new : History) → (let sync : Result (Unit {0}) Failed = Ok tt in Adds (MaySync file sync) old new) → (let result : Result T E = Ok done in Settled file result old new)
settled_by {T} {E} file done old new adds = subst (λ n. let result : Result T E = Ok done in Settled file result old n) (sym adds.2) (subst (λ c. let result : Result T E = Ok done in Settled file result old (with_call c old)) (sym adds.1) (settled_ok file done old))

pub not_settled_by : {T E : Type 0} (file : ℕ) (failed : Failed) (error : E) (old new : History) → (let sync : Result (Unit {0}) Failed = Err failed in Adds (MaySync file sync) old new) → (let result : Result T E = Err error in Settled file result old new)
not_settled_by {T} {E} file failed error old new adds = subst (λ n. let result : Result T E = Err error in Settled file result old n) (sym adds.2) (subst (λ c. let result : Result T E = Err error in Settled file result old (with_call c old)) (sym adds.1) (settled_err file error old))

-- what a stop at the end of a run may leave of the file is an image's
last_image : (file : ℕ) (h : History) (left : List ℕ) (payloads : List (List ℕ)) → ((image : ℕ → List ℕ) → ImageAt h (now h) image → LogEnds (image file) payloads) → Leaves (standing h file) left → LogEnds left payloads
unfolding with_file
last_image file h left payloads each leaves = subst (λ (l : List ℕ). LogEnds l payloads) (cond-true _ left (reads h file) (eq-eqb file file refl)) (each (with_file (reads h) file left) (image_with h file left leaves))

-- a run, and then calls that only looked
pub keeps_looked : (file : ℕ) (old mid new : History) → now old ≤ now mid → KeepsEnd file old mid → Looked mid new → KeepsEnd file old new
keeps_looked file old mid new later keeps looked payloads each =
    each_then (λ other. ⊥) old mid new (λ image. LogEnds (image file) payloads) looked (keeps payloads each)
    (λ moment image from to here. last_image file mid (image file) payloads (λ image at_mid. keeps payloads each (now mid) image later (omega arith) at_mid) (goes_images (λ other. ⊥) mid new file (λ no. no) looked moment image from to here))

-- the same of what a stop leaves of the file
pub left_looked : (file : ℕ) (old mid new : History) → standing mid file ≡ settled (reads old file) → KeepsLeft file old mid → Looked mid new → KeepsLeft file old new
left_looked file old mid new durable keeps looked =
    each_then (λ other. ⊥) old mid new (λ image. Leaves (standing old file) (image file)) looked keeps
    (λ moment image from to here. left_before file old (image file) (subst (λ s. Leaves s (image file)) durable (goes_images (λ other. ⊥) mid new file (λ no. no) looked moment image from to here)))

pub goes_looked : (file : ℕ) (old mid new : History) → GoesOn (λ other. other ≡ file) old mid → Looked mid new → GoesOn (λ other. other ≡ file) old new
goes_looked file old mid new goes looked = goes_then (λ other. other ≡ file) old mid new goes (goes_weaker (λ other. ⊥) (λ other. other ≡ file) mid new (λ other no. absurd no) looked)

-- the cursor wasn't opened
pub not_opened : (file : ℕ) (result : Result Place OpenRefused) → IsErr result → (done : Unit {0}) (old mid new : History) → (let first : Result (Unit {0}) OpenRefused = Ok done in Settled file first old mid) → Looked mid new → Opened file result old new
not_opened file result failed done old mid new first looked = record {
  goes = goes_looked file old mid new first.goes looked;
  same = looked_reads mid new file looked ∙ first.same;
  images = keeps_looked file old mid new (goes_later (λ other. other ≡ file) old mid first.goes) first.images looked;
  left = left_looked file old mid new first.durable first.left looked;
  durable = IfOk-from_err result (λ _. standing new file ≡ settled (reads old file)) failed;
  begun = IfOk-from_err result (λ cursor. CameTo (reads old file) cursor []) failed;
  small = IfOk-from_err result (λ _. length (reads old file) < 2 ^ 64) failed;
}

-- it was opened, at the start of a file of this length
pub opened_ok : (file len : ℕ) (done : Unit {0}) (held : Held) (cursor : Place) → held ≡ record { file = file; len = len; from = 0; piece = [] } → cursor ≡ record { held = held; at = 0; ended = false } → len < 2 ^ 64 → (old mid new : History) → (let first : Result (Unit {0}) OpenRefused = Ok done in Settled file first old mid)
    → Looked mid new × (len ≡ length (reads mid file)) → (let result : Result Place OpenRefused = Ok cursor in Opened file result old new)
opened_ok file len done held cursor is here small old mid new first next =
    let long : len ≡ length (reads old file) = next.1 ∙ ap length first.same in
    record {
      goes = goes_looked file old mid new first.goes next.0;
      same = looked_reads mid new file next.0 ∙ first.same;
      images = keeps_looked file old mid new (goes_later (λ other. other ≡ file) old mid first.goes) first.images next.0;
      left = left_looked file old mid new first.durable first.left next.0;
      durable = looked_standing mid new file next.0 ∙ first.durable;
      begun = subst (λ (place : Place). CameTo (reads old file) place []) (sym here) (record {
        shows = subst (Shows (reads old file)) (sym is) (record { len = long; piece = refl });
        rest = reads old file;
        whole = refl;
        at = refl;
        fits = tt;
        ended = λ e. absurd (not_true e);
      });
      small = omega (arith, long, small);
    }
  where
    not_true : IsTrue false → ⊥
    not_true e = cc
