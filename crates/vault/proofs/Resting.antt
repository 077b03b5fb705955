-- What files recover to that are all on the disk, as after a stop, each image of now recovers to.
use Rattle.std.proofs.Common.{◌≡◌, inl, inr, ℕ, ◌+◌, ◌<◌, List, refl, sym, subst, arith}
use Rattle.std.proofs.lemmas.Bool.{eq-eqb, cond-true}
use Rattle.store_api.specs.Disk.{History, reads, standing, settled, now, Leaves, ImageAt}
use Rattle.store_api.proofs.Runs.{now_image}
use Rattle.store_api.proofs.Pieces.{image_reads, image_with, with_file}
use Rattle.store_api.proofs.Standings.{leaves_firm}
use Rattle.log_file.specs.Blocks.{IsClosed}
use Rattle.log_file.proofs.Logs.{settled_left}
use Rattle.db_image.specs.declared.mark.Mark.TheVariants.{Server}
use Rattle.db_image.specs.Images.{image_bytes, NeverSpent, HasImage}
use Rattle.db_image.specs.Steps.{FirmShut}
use Rattle.db_image.proofs.One.{image_settled, stands_image, stays_shut, never_spent_less}
use Rattle.entries.specs.Meaning.{Meaning, IsMeaning}
use Rattle.vault.specs.Files.{image_file, log_file, IsOurs}
use Rattle.vault.specs.Recovery.{Newest, Headed, records_in, Recovers, RecoversWithin}
use Rattle.vault.specs.Openings.{IsSound}
use Rattle.vault.proofs.Replacing.{shut_left}
use Rattle.vault.proofs.Sounding.{both_headed, newest_unspent, within_recovers}
use Rattle.vault.proofs.Unique.{one_database}

module _ {D : Type 0} (m : Meaning D) (law : IsMeaning m) (h : History) (rests : (file : ℕ) → IsOurs file → standing h file ≡ settled (reads h file)) (sound : IsSound m h) where
  leaves_settled_now : (files : ℕ → List ℕ) → ImageAt h (now h) files → (file : ℕ) → IsOurs file → Leaves (settled (reads h file)) (files file)
  leaves_settled_now files here file ours = subst (λ s. Leaves s (files file)) (rests file ours) (now_image h files here file)

  -- an image that is there is there to stay
  image_stays : (n k : ℕ) (payload left : List ℕ) → NeverSpent Server k payload → HasImage n Server (reads h n) k payload → Leaves (settled (reads h n)) left → HasImage n Server left k payload
  image_stays n k payload left unspent has leaves =
      stands_image n k Server left payload has.allowed unspent has.small (leaves_firm (settled (reads h n)) left 0 (image_bytes Server k payload) leaves (image_settled n k Server (reads h n) payload has))

  -- and so is a gate that is shut
  shut_stays : (n : ℕ) → n < 2 → IsClosed (reads h n) → FirmShut (settled (reads h n))
  unfolding with_file
  shut_stays n lt closed = stays_shut n Server (reads h n) closed (λ left leaves.
      let here = image_with h n left (subst (λ s. Leaves s left) (sym (rests n (omega (arith, lt)))) leaves) in
      let recovered = sound (with_file (reads h) n left) here in
      subst (λ (bytes : List ℕ). Headed n bytes) (cond-true _ left (reads h n) (eq-eqb n n refl)) (both_headed (with_file (reads h) n left) recovered.1.generation n (m.spelled recovered.1.form recovered.1.base) recovered.1.newest lt))

  module _ (own : D) (w : RecoversWithin m (reads h) own) (files : ℕ → List ℕ) (here : ImageAt h (now h) files) where
    newest_stays : Newest files w.generation (m.spelled w.form w.base)
    newest_stays = record {
      stands = image_stays (image_file w.generation) w.generation (m.spelled w.form w.base) (files (image_file w.generation)) (newest_unspent m law w.form (reads h) w.generation w.base w.valid w.newest) w.newest.stands (leaves_settled_now files here (image_file w.generation) (omega arith));
      other = elim w.newest.other [
        | inl closed ↦ inl (shut_left_now closed)
        | inr older ↦ inr (
          older.0,
          older.1,
          image_stays (image_file (w.generation + 1)) older.0 older.1 (files (image_file (w.generation + 1))) (never_spent_less Server older.0 older.1 (omega (arith, older.3, w.newest.stands.allowed.0))) older.2 (leaves_settled_now files here (image_file (w.generation + 1)) (omega arith)),
          older.3,
        )
      ];
    }
      where
        shut_left_now : IsClosed (reads h (image_file (w.generation + 1))) → IsClosed (files (image_file (w.generation + 1)))
        shut_left_now closed =
            shut_left h (image_file (w.generation + 1)) (files (image_file (w.generation + 1)))
            (subst FirmShut (sym (rests (image_file (w.generation + 1)) (omega arith))) (shut_stays (image_file (w.generation + 1)) (omega arith) closed)) (now_image h files here (image_file (w.generation + 1)))

    stays_within : RecoversWithin m files own
    stays_within = record {
      form = w.form;
      generation = w.generation;
      base = w.base;
      entries = w.entries;
      valid = w.valid;
      newest = newest_stays;
      log = settled_left (reads h (log_file w.generation)) (files (log_file w.generation)) (records_in w.form w.entries) w.log (leaves_settled_now files here (log_file w.generation) (omega arith));
      legal = w.legal;
      gives = w.gives;
    }

  pub one_at_rest : (d : D) (files : ℕ → List ℕ) → Recovers m (reads h) d → ImageAt h (now h) files → RecoversWithin m files d
  one_at_rest d files recovers here =
      let is = sound (reads h) (image_reads h) in
      subst (RecoversWithin m files) (one_database m law (reads h) is.0 d (within_recovers m (reads h) is.0 is.1) recovers) (stays_within is.0 is.1 files here)
