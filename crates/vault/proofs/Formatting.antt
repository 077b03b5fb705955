-- A database is put into files, whatever they hold.
use Rattle.std.proofs.Common.{◌≡◌, inl, inr, ℕ, ◌+◌, ◌<◌, ◌≤◌, List, [], Option, Result, Ok, Err, refl, sym, ◌∙◌, ap, subst, arith}
use Rattle.std.proofs.lemmas.Bool.{cases_eq}
use Rattle.store_api.specs.Disk.{History, reads, standing, settled, now}
use Rattle.store_api.specs.Runs.{GoesOn, EachImage}
use Rattle.store_api.specs.Told.{Told}
use Rattle.store_api.proofs.Runs.{goes_then, goes_weaker, goes_standing, told_then}
use Rattle.kinds.specs.declared.refusal.OpenRefused.{OpenRefused}
use Rattle.log_file.specs.declared.writer.Log.{Log}
use Rattle.log_file.specs.Steps.{Created}
use Rattle.db_image.specs.Steps.{FirmShut, Shut}
use Rattle.db_image.proofs.One.{can_shut}
use Rattle.fields.specs.Editions.{second_form}
use Rattle.entries.specs.Meaning.{Meaning, IsMeaning}
use Rattle.vault.specs.Files.{image_file, IsOurs, IsOf}
use Rattle.vault.specs.Recovery.{IsBase}
use Rattle.vault.specs.Images.{IsImage, Replaced}
use Rattle.vault.specs.Vaults.{Holds}
use Rattle.vault.specs.Openings.{SettledBelow, SettledAll, Cleared, Formatted}
use Rattle.vault.proofs.Checkpointing.{holds_fresh, written_unspent}
use Rattle.vault.proofs.Goodness.{shut_beside, image_ours, log_ours}
use Rattle.vault.proofs.Sounding.{settled_below}
use Rattle.vault.proofs.Telling.{told_three}

-- the gate of the first image was shut
pub record First (old new : History) : Type 0 where
  pub goes : GoesOn IsOurs old new
  pub shut : ((file : ℕ) → file < 2 → standing old file ≡ settled (reads old file)) → FirmShut (standing new 0)
  pub same : standing new 1 ≡ standing old 1

-- both were
abbrev pub IsClear : History → History → Type 0
IsClear old new = let done : Result (Unit {0}) ℕ = Ok tt in Cleared done old new

-- all files were made durable
abbrev pub IsSettled : History → History → Type 0
IsSettled old new = let done : Result (Unit {0}) OpenRefused = Ok tt in SettledAll done old new

ours_one : (file : ℕ) (old new : History) → IsOurs file → GoesOn (λ other. other ≡ file) old new → GoesOn IsOurs old new
ours_one file old new ours goes = goes_weaker (λ other. other ≡ file) IsOurs old new (λ other here. subst IsOurs (sym here) ours) goes

pub first_shut : {T E : Type 0} (done : T) (old new : History) → (let result : Result T E = Ok done in Shut 0 result old new) → First old new
first_shut done old new shuts = record {
  goes = ours_one 0 old new (omega arith) shuts.within.goes;
  shut = λ durable. shuts.shut (subst Rattle.db_image.specs.Steps.CanShut (sym (durable 0 (omega arith))) (can_shut (reads old 0)));
  same = goes_standing (λ other. other ≡ 0) old new 1 (λ e. absurd (omega (arith, e))) shuts.within.goes;
}

pub both_shut : {T E : Type 0} (done : T) (old mid new : History) → First old mid → (let result : Result T E = Ok done in Shut 1 result mid new) → IsClear old new
both_shut done old mid new first shuts = record {
  goes = goes_then IsOurs old mid new first.goes (ours_one 1 mid new (omega arith) shuts.within.goes);
  shut = λ durable. (
    shut_beside (λ other. other ≡ 1) mid new shuts.within.goes 0 (λ e. absurd (omega (arith, e))) (first.shut durable),
    shuts.shut (subst Rattle.db_image.specs.Steps.CanShut (sym (first.same ∙ durable 1 (omega arith))) (can_shut (reads old 1))),
  );
}

pub log_begun : {T E : Type 0} (result : Result T E) (file : ℕ) (old mid new : History) → IsOurs file → 2 ≤ file → IsClear old mid → Created file result mid new → IsClear old new
log_begun result file old mid new ours le clear begins = record {
  goes = goes_then IsOurs old mid new clear.goes (ours_one file mid new ours begins.goes);
  shut = λ durable. (
    shut_beside (λ other. other ≡ file) mid new begins.goes 0 (λ e. absurd (omega (arith, e, le))) (clear.shut durable).0,
    shut_beside (λ other. other ≡ file) mid new begins.goes 1 (λ e. absurd (omega (arith, e, le))) (clear.shut durable).1,
  );
}

pub not_cleared : (why file : ℕ) (old mid new : History) → IsOurs file → GoesOn IsOurs old mid → GoesOn (λ other. other ≡ file) mid new → (let result : Result (Unit {0}) ℕ = Err why in Cleared result old new)
not_cleared why file old mid new ours goes more = record { goes = goes_then IsOurs old mid new goes (ours_one file mid new ours more); shut = tt }

pub of_ours : (generation file : ℕ) → IsOf generation file → IsOurs file
of_ours generation file (inl is) = subst IsOurs (sym is) (image_ours generation)
of_ours generation file (inr is) = subst IsOurs (sym is) (log_ours generation)

-- the image's file that a generation leaves alone
other_apart : (generation : ℕ) → ¬ IsOf generation (image_file (generation + 1))
other_apart generation (inl is) = absurd (omega (arith, is))
other_apart generation (inr is) = absurd (omega (arith, is))

shut_in : (h : History) (file : ℕ) → file < 2 → FirmShut (standing h 0) × FirmShut (standing h 1) → FirmShut (standing h file)
shut_in h file image shut = elim (cases_eq file 0) [
  | inl is ↦ subst (λ (n : ℕ). FirmShut (standing h n)) (sym is) shut.0
  | inr not ↦ subst (λ (n : ℕ). FirmShut (standing h n)) (let e : 1 ≡ file = omega (arith, image, not) in e) shut.1
]

module _ {D : Type 0} (m : Meaning D) (d : D) where
  -- each image of now is the base that no stop takes away
  pub holds_base : (generation : ℕ) (h : History) → Holds m generation d [] 0 h → EachImage (now h) h (IsBase m generation d)
  holds_base generation h holds moment files from to here =
      let fresh = holds_fresh m generation d h holds moment files from to here in
      record {
        recovers = record { form = second_form; generation = generation; base = d; entries = []; valid = holds.valid; newest = fresh.0; log = fresh.1; legal = tt; gives = refl };
        written = refl;
        by_image = refl;
        alone = refl;
      }

  pub not_formatted : {T E : Type 0} (why : E) (old new : History) → GoesOn IsOurs old new → (let result : Result T E = Err why in Formatted m d result old new)
  not_formatted why old new goes = record { goes = goes; installed = tt }

  -- an image of any generation, written where both gates were shut
  pub image_put : {U V : Type 0} (generation : ℕ) (log : U) (payload : List ℕ) → IsMeaning m → m.Valid second_form d → payload ≡ m.spelled second_form d → (old mid clear new : History) → SettledBelow 4 old mid → IsClear mid clear → (let put : Result U V = Ok log in Replaced generation payload put clear new) → GoesOn IsOurs old new × EachImage (now new) new (IsBase m generation d)
  image_put generation log payload law valid spelled old mid clear new below clears replaced =
      let shut = clears.shut (λ file lt. below.durable file (omega (arith, lt)) ∙ ap settled (sym (below.calm.same file))) in
      let here = shut_in clear (image_file generation) (omega arith) shut in
      let there = replaced.stands (written_unspent m law generation payload d valid spelled) (inl (here.gate, here.firm)) in (
        goes_then IsOurs old mid new below.calm.goes (goes_then IsOurs mid clear new clears.goes (goes_weaker (IsOf generation) IsOurs clear new (of_ours generation) replaced.goes)),
        holds_base generation new (record {
          image = subst (λ (p : List ℕ). IsImage new (image_file generation) generation p) spelled there.0;
          other = inl (shut_beside (IsOf generation) clear new replaced.goes (image_file (generation + 1)) (other_apart generation) (shut_in clear (image_file (generation + 1)) (omega arith) shut));
          log = there.1;
          valid = valid;
          legal = tt;
        }),
      )

  -- What is told of formatting. That all files were made durable comes last, since it is looked for.
  module _ (w x y : Option History) where
    pub told_not_cleared : (why : ℕ) (again : OpenRefused) → (let cleared : Result (Unit {0}) ℕ = Err why in Told x y (Cleared cleared)) → Told w x IsSettled → (let result : Result (Unit {0}) OpenRefused = Err again in Told w y (Formatted m d result))
    told_not_cleared why again cleared settles =
        let failed : Result (Unit {0}) ℕ = Err why in
        let result : Result (Unit {0}) OpenRefused = Err again in
        told_then w x y IsSettled (Cleared failed) (Formatted m d result) (λ h k n all clears. not_formatted again h n (goes_then IsOurs h k n all.calm.goes clears.goes)) settles cleared

    module _ (z : Option History) (generation : ℕ) (payload : List ℕ) where
      pub told_not_put : (why : ℕ) (again : OpenRefused) → Told x y IsClear → (let put : Result Log ℕ = Err why in Told y z (Replaced generation payload put)) → Told w x IsSettled → (let result : Result (Unit {0}) OpenRefused = Err again in Told w z (Formatted m d result))
      told_not_put why again cleared put settles =
          let failed : Result Log ℕ = Err why in
          let result : Result (Unit {0}) OpenRefused = Err again in
          told_three w x y z IsSettled IsClear (Replaced generation payload failed) (Formatted m d result)
          (λ h k l n all clears replaced. not_formatted again h n (goes_then IsOurs h k n all.calm.goes (goes_then IsOurs k l n clears.goes (goes_weaker (IsOf generation) IsOurs l n (of_ours generation) replaced.goes)))) settles cleared put

      pub told_put : (done : Unit {0}) (log : Log) → IsMeaning m → m.Valid second_form d → payload ≡ m.spelled second_form d → Told x y IsClear → (let put : Result Log ℕ = Ok log in Told y z (Replaced generation payload put)) → Told w x IsSettled → generation ≡ 0 → (let result : Result (Unit {0}) OpenRefused = Ok done in Told w z (Formatted m d result))
      told_put done log law valid spelled cleared put settles first =
          let made : Result Log ℕ = Ok log in
          let result : Result (Unit {0}) OpenRefused = Ok done in
          told_three w x y z IsSettled IsClear (Replaced generation payload made) (Formatted m d result)
          (λ h k l n all clears replaced.
          let is = image_put generation log payload law valid spelled h k l n (settled_below tt h k all) clears replaced in
          record { goes = is.0; installed = subst (λ (g : ℕ). EachImage (now n) n (IsBase m g d)) first is.1 }) settles cleared put
