-- A gate is looked at, and shut where it is open or isn't there.
use Rattle.std.proofs.Common.{◌≡◌, ◌≢◌, ◌⊎◌, inl, inr, ℕ, List, [], ◌∷◌, length, get_or, Result, Ok, Err, OnOk, refl, sym, ◌∙◌, ap, arith}
use Rattle.store_api.specs.declared.store.Failed.{Failed}
use Rattle.store_api.specs.Disk.{History, standing}
use Rattle.store_api.specs.Runs.{Firm, WroteSynced, ReadWithin}
use Rattle.store_api.proofs.Ranges.{wrote_then}
use Rattle.store_api.proofs.Pieces.{firm_beside}
use Rattle.db_image.specs.Steps.{FirmShut, CanShut, Shut}
use Rattle.db_image.proofs.Gates.{looked_within, keeps_shut, old_or_shut}

-- one byte is the byte that is read of it
pub one_byte : (b : List ℕ) → length b ≡ 1 → b ≡ get_or b 0 0 ∷ []
one_byte [] e = absurd cc
one_byte (x ∷ []) e = refl
one_byte (x ∷ y ∷ more) e = absurd (omega (arith, e))

module _ (file : ℕ) (buffer : List ℕ) (old mid : History) where
  -- the look failed
  pub not_looked : {T : Type 0} (failed again : Failed) → (let first : Result ℕ Failed = Err failed in ReadWithin file 0 buffer first old mid) → (let result : Result T Failed = Err again in Shut file result old mid)
  not_looked failed again read = record {
    within = looked_within file 0 1 old mid read.goes;
    shut = tt;
    keeps = keeps_shut file 1 0 old mid (λ gate. inl (omega arith)) (looked_within file 1 0 old mid read.goes);
    older = old_or_shut file old mid (looked_within file 0 1 old mid read.goes);
  }

  module _ (count : ℕ) (long : length buffer ≡ 1) (read : (let first : Result ℕ Failed = Ok count in ReadWithin file 0 buffer first old mid)) where
    -- a gate that no stop changes is what was read
    gate_read : (gate : ℕ) → Firm (standing old file) 0 (gate ∷ []) → (count ≡ 1) × (buffer ≡ gate ∷ [])
    gate_read gate firm = let r = read.piece (gate ∷ []) (sym long) firm.stands in (r.0 ∙ long, r.1)

    -- no open gate was read
    pub was_shut : {T : Type 0} (gate : ℕ) (done : T) → buffer ≡ gate ∷ [] → (count ≡ 0 → ⊥) → gate ≢ 1 → (let result : Result T Failed = Ok done in Shut file result old mid)
    was_shut gate done is some closed = record {
      within = looked_within file 0 1 old mid read.goes;
      shut = λ can. elim can [
        | inl firm ↦ record { gate = firm.0; closed = λ e. closed (let same : gate ∷ [] ≡ firm.0 ∷ [] = sym is ∙ (gate_read firm.0 firm.1).1 in cc); firm = firm_beside (λ other. ⊥) old mid file 0 (firm.0 ∷ []) (λ no. no) read.goes firm.1 }
        | inr empty ↦ absurd (some (let none : count ≡ 0 = omega (arith, read.bytes.many, ap length empty) in none))
      ];
      keeps = keeps_shut file 1 0 old mid (λ g. inl (omega arith)) (looked_within file 1 0 old mid read.goes);
      older = old_or_shut file old mid (looked_within file 0 1 old mid read.goes);
    }

    -- an open gate was read, or none
    pub was_open : {T : Type 0} (gate : ℕ) (new : History) (result : Result T Failed) → buffer ≡ gate ∷ [] → (count ≡ 0) ⊎ (gate ≡ 1) → WroteSynced file 0 (0 ∷ []) result mid new → Shut file result old new
    was_open gate new result is was wrote =
        let within = wrote_then file 0 1 old mid new (looked_within file 0 1 old mid read.goes) wrote.within in
        record {
          within = within;
          shut = on_ok result wrote;
          keeps = λ shut. absurd (elim was [
            | inl none ↦ (let one = (gate_read shut.gate shut.firm).0 in cc)
            | inr is_open ↦ shut.closed (let same : gate ∷ [] ≡ shut.gate ∷ [] = sym is ∙ (gate_read shut.gate shut.firm).1 in cc)
          ]);
          older = old_or_shut file old new within;
        }
      where
        on_ok : {T : Type 0} (r : Result T Failed) → WroteSynced file 0 (0 ∷ []) r mid new → OnOk r (CanShut (standing old file) → FirmShut (standing new file))
        on_ok (Ok d) w = λ can. record { gate = 0; closed = λ e. absurd cc; firm = w.firm (omega arith) }
        on_ok (Err e) w = tt
