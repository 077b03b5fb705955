-- What a change of a file leaves firm, and what a stop leaves of firm pieces.
use Rattle.std.proofs.Common.{◌≡◌, ◌⊎◌, inl, inr, ⊎_elim, ℕ, ◌+◌, ◌<◌, ◌≤◌, List, length, get_or, take, refl, ◌∙◌, arith}
use Rattle.std.proofs.lemmas.Bool.{eq-eqb, ne_eqb, cond-true, cond-false}
use Rattle.std.proofs.lemmas.List.{length-take, get_or-take}
use Rattle.store_api.specs.Disk.{Standing, Leaves, Change, write, cut, settle, settled, changed, overwritten, on, History, standing, with_call}
use Rattle.store_api.specs.Runs.{Stands, Firm, IsOutside}
use Rattle.store_api.proofs.Bytes.{Stands_fits, Stands_at, Stands_from, overwritten_outside, overwritten_no_shorter}

-- a place of a piece that lies outside a range lies outside it
place_outside : (at len place k : ℕ) (piece : List ℕ) → IsOutside at len place piece → k < length piece → (place + k < at) ⊎ (at + len ≤ place + k)
place_outside at len place k piece (inl before) lt = inl (omega arith)
place_outside at len place k piece (inr behind) lt = inr (omega arith)

-- bytes that agree at each place of a piece have it alike
pub Stands_agree : (old new : List ℕ) (place : ℕ) (piece : List ℕ) → length old ≤ length new → ((k : ℕ) → k < length piece → get_or new (place + k) 0 ≡ get_or old (place + k) 0) → Stands old place piece → Stands new place piece
Stands_agree old new place piece long same s =
    Stands_from new place piece s.some (omega (arith, Stands_fits old place piece s)) (λ k lt. same k lt ∙ Stands_at old place piece s k lt)

-- what stands outside stays, where other bytes are written
pub stands_write : (bytes : List ℕ) (at span : ℕ) (written : List ℕ) (place : ℕ) (piece : List ℕ) → length written ≤ span → IsOutside at span place piece → Stands bytes place piece → Stands (overwritten bytes at written) place piece
stands_write bytes at span written place piece le out s =
    Stands_agree bytes (overwritten bytes at written) place piece (overwritten_no_shorter bytes at written) (λ k lt.
    overwritten_outside bytes at written (place + k) (⊎_elim (λ before. inl before) (λ behind. inr (omega arith)) (place_outside at span place k piece out lt))) s

-- what is firm outside stays firm, where other bytes are written
pub firm_write : (file : Standing) (at span : ℕ) (written : List ℕ) (place : ℕ) (piece : List ℕ) → length written ≤ span → IsOutside at span place piece → Firm file place piece → Firm (changed (write at span written) file) place piece
unfolding changed
firm_write file at span written place piece le out f = record {
  stands = stands_write file.bytes at span written place piece le out f.stands;
  below = f.below;
  clear = λ k from to loose. ⊎_elim (λ (here : (at ≤ k) × (k < at + span)). apart k from to here out) (λ was. f.clear k from to was) loose;
}
  where
    apart : (k : ℕ) → place ≤ k → k < place + length piece → (at ≤ k) × (k < at + span) → IsOutside at span place piece → ⊥
    apart k from to here (inl before) = omega arith
    apart k from to here (inr behind) = omega arith

-- what stands in a file that is all on the disk is firm
pub firm_settled : (bytes : List ℕ) (place : ℕ) (piece : List ℕ) → Stands bytes place piece → Firm (settled bytes) place piece
unfolding settled
firm_settled bytes place piece s = record { stands = s; below = Stands_fits bytes place piece s; clear = λ k from to loose. loose }

-- what stands before a sync is firm after it
pub firm_settle : (file : Standing) (place : ℕ) (piece : List ℕ) → Stands file.bytes place piece → Firm (changed settle file) place piece
unfolding changed
firm_settle file place piece s = firm_settled file.bytes place piece s

-- what stands before the length that a cut left stays
pub stands_cut : (bytes : List ℕ) (left place : ℕ) (piece : List ℕ) → place + length piece ≤ left → Stands bytes place piece → Stands (take left bytes) place piece
stands_cut bytes left place piece le s =
    Stands_from (take left bytes) place piece s.some (omega (arith, length-take left bytes, Stands_fits bytes place piece s)) (λ k lt. get_or-take left bytes (place + k) 0 (omega arith) ∙ Stands_at bytes place piece s k lt)

-- what is firm before both lengths of a cut stays firm
pub firm_cut : (file : Standing) (asked left place : ℕ) (piece : List ℕ) → place + length piece ≤ asked → place + length piece ≤ left → Firm file place piece → Firm (changed (cut asked left) file) place piece
unfolding changed
firm_cut file asked left place piece le_asked le_left f = record {
  stands = stands_cut file.bytes left place piece le_left f.stands;
  below = omega (arith, f.below);
  clear = f.clear;
}

-- whatever a stop leaves of the file has its firm pieces
pub leaves_firm : (file : Standing) (left : List ℕ) (place : ℕ) (piece : List ℕ) → Leaves file left → Firm file place piece → Stands left place piece
leaves_firm file left place piece leaves f =
    Stands_from left place piece f.stands.some (omega (arith, f.below, leaves.long)) (λ k lt.
    leaves.same (place + k) (omega (arith, f.below)) (f.clear (place + k) (omega arith) (omega arith)) ∙ Stands_at file.bytes place piece f.stands k lt)

-- a file that is all on the disk is left as it reads, up to its length
pub leaves_settled : (bytes left : List ℕ) → Leaves (settled bytes) left → (place : ℕ) → place < length bytes → get_or left place 0 ≡ get_or bytes place 0
unfolding settled
leaves_settled bytes left leaves place lt = leaves.same place lt (λ none. none)

-- the file that a call changes
pub standing_on : (h : History) (file : ℕ) (change : Change) → standing (with_call (on file change) h) file ≡ changed change (standing h file)
standing_on h file change = cond-true _ _ _ (eq-eqb file file refl)

-- the files that it doesn't name
pub standing_beside : (h : History) (file other : ℕ) (change : Change) → (file ≡ other → ⊥) → standing (with_call (on file change) h) other ≡ standing h other
standing_beside h file other change apart = cond-false _ _ _ (ne_eqb file other apart)
