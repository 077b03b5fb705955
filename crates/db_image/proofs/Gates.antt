-- The gate of an image under calls on its file.
use Rattle.std.proofs.Common.{◌≡◌, ◌≢◌, ◌⊎◌, inl, inr, ℕ, zero, suc, ◌<◌, List, [], ◌∷◌, length, take, refl, sym, subst, arith}
use Rattle.store_api.specs.Disk.{Standing, History, standing, now}
use Rattle.store_api.specs.Runs.{Stands, Firm, GoesOn, EachImage, IsOutside, WroteWithin}
use Rattle.store_api.proofs.Runs.{goes_weaker, goes_standing, each_then, each_weaker}
use Rattle.store_api.proofs.Pieces.{stands_join, firm_left, firm_right, firm_beside, firm_since}
use Rattle.log_file.specs.Blocks.{IsClosed}
use Rattle.db_image.specs.Steps.{FirmShut, CanShut, KeepsShut, OldOrShut}

-- a gate that stands there and isn't open
pub is_shut : (bytes : List ℕ) (gate : ℕ) → gate ≢ 1 → Stands bytes 0 (gate ∷ []) → IsClosed bytes
is_shut [] gate closed stands = tt
is_shut (first ∷ rest) gate closed stands = λ is_one. closed (let same : first ∷ take 0 rest ≡ gate ∷ [] = stands.same in cc)

-- whatever the gate is, it is shut, or it is open before what stands behind it
pub either_gate : (bytes piece : List ℕ) → (0 < length piece → Stands bytes 1 piece) → IsClosed bytes ⊎ Stands bytes 0 (1 ∷ piece)
either_gate [] piece behind = inl tt
either_gate (zero ∷ rest) piece behind = inl (λ e. absurd cc)
either_gate (suc (suc n) ∷ rest) piece behind = inl (λ e. absurd cc)
either_gate (suc zero ∷ rest) [] behind = inr (record { some = omega arith; same = refl })
either_gate (suc zero ∷ rest) (x ∷ piece) behind =
    inr (stands_join (1 ∷ rest) 0 (1 ∷ []) (x ∷ piece) (record { some = omega arith; same = refl }) (behind (omega arith)))

-- calls that only looked are within any range
pub looked_within : (file at len : ℕ) (old new : History) → GoesOn (λ other. ⊥) old new → WroteWithin file at len old new
looked_within file at len old new goes = record {
  goes = goes_weaker (λ other. ⊥) (λ other. other ≡ file) old new (λ other no. absurd no) goes;
  firm = λ place piece out f. firm_beside (λ other. ⊥) old new file place piece (λ no. no) goes f;
  since = λ place piece out f. firm_since (λ other. ⊥) old new file place piece (λ no. no) goes f;
  stands = λ place piece out s. subst (λ (f : Standing). Stands f.bytes place piece) (sym (goes_standing (λ other. ⊥) old new file (λ no. no) goes)) s;
}

-- calls outside the gate keep it shut
pub keeps_shut : (file at len : ℕ) (old new : History) → ((gate : ℕ) → IsOutside at len 0 (gate ∷ [])) → WroteWithin file at len old new → KeepsShut file old new
keeps_shut file at len old new out within shut = (
  record { gate = shut.gate; closed = shut.closed; firm = within.firm 0 (shut.gate ∷ []) (out shut.gate) shut.firm },
  each_weaker (now old) new _ _ (λ image stands. is_shut (image file) shut.gate shut.closed stands) (within.since 0 (shut.gate ∷ []) (out shut.gate) shut.firm),
)

-- calls on the gate alone leave it shut, or open before what stood firm behind it
pub gate_or_shut : (file : ℕ) (old new : History) (piece : List ℕ) → WroteWithin file 0 1 old new → (0 < length piece → Firm (standing old file) 1 piece) → EachImage (now old) new (λ image. IsClosed (image file) ⊎ Stands (image file) 0 (1 ∷ piece))
gate_or_shut file old new piece within firm moment image from to here =
    either_gate (image file) piece (λ some. within.since 1 piece (inr (omega arith)) (firm some) moment image from to here)

pub old_or_shut : (file : ℕ) (old new : History) → WroteWithin file 0 1 old new → OldOrShut file old new
old_or_shut file old new within piece firm = gate_or_shut file old new piece within (λ some. firm_right (standing old file) 0 (1 ∷ []) piece some firm)

-- a gate that calls keep shut, and then others, is kept shut by both
pub keeps_then : (file : ℕ) (old mid new : History) → GoesOn (λ other. other ≡ file) mid new → KeepsShut file old mid → KeepsShut file mid new → KeepsShut file old new
keeps_then file old mid new goes a b shut =
    let first = a shut in
    let second = b first.0 in
    (second.0, each_then (λ other. other ≡ file) old mid new (λ image. IsClosed (image file)) goes first.1 second.1)

-- what stood behind an open gate, that was then shut for good and is kept shut
pub older_then : (file : ℕ) (old mid new : History) → GoesOn (λ other. other ≡ file) mid new → OldOrShut file old mid → (CanShut (standing old file) → FirmShut (standing mid file)) → KeepsShut file mid new → OldOrShut file old new
older_then file old mid new goes a shut b piece firm =
    each_then (λ other. other ≡ file) old mid new (λ image. IsClosed (image file) ⊎ Stands (image file) 0 (1 ∷ piece)) goes (a piece firm)
    (each_weaker (now mid) new _ _ (λ image closed. inl closed) (b (shut (inl (1, firm_left (standing old file) 0 (1 ∷ []) piece (omega arith) firm)))).1)
