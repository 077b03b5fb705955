-- A frame's bytes say which record it is of.
use Rattle.std.proofs.Common.{◌≡◌, ℕ, ◌+◌, ◌-◌, List, [], ◌∷◌, ◌++◌, length, take, drop, sym, ◌∙◌, ap, subst, arith, length-append, append_assoc}
use Rattle.std.specs.List.{slice_set}
use Rattle.std.proofs.lemmas.List.{length-take, take_rest}
use Rattle.std.proofs.Math.Seq.{take-append_seam, set-append_seam}
use Rattle.log_file.specs.Blocks.{Fits, block}
use Rattle.log_file.specs.Frames.{payload_of, IsFrame, without_last, EndsClosed}
use Rattle.log_file.proofs.RecordBytes.{length-block, block_then}

pub length-frame : (payload : List ℕ) → length (block payload ++ 0 ∷ []) ≡ 6 + length payload
length-frame payload = omega (arith, length-append (block payload) (0 ∷ []), length-block payload)

pub payload_back : (payload : List ℕ) → payload_of (block payload ++ 0 ∷ []) ≡ payload
payload_back payload =
    let n : length (block payload ++ 0 ∷ []) - 6 ≡ length payload = omega (arith, length-frame payload) in
    let behind : drop 5 (block payload ++ 0 ∷ []) ≡ payload ++ 0 ∷ [] = ap (drop 5) (block_then payload (0 ∷ [])) in
    ap (λ k. take k (drop 5 (block payload ++ 0 ∷ []))) n ∙ ap (take (length payload)) behind ∙ take-append_seam payload (0 ∷ [])

pub is_frame : (bytes payload : List ℕ) → bytes ≡ block payload ++ 0 ∷ [] → Fits payload → IsFrame bytes
is_frame bytes payload e fits =
    let back : payload_of bytes ≡ payload = ap payload_of e ∙ payload_back payload in
    record {
      fits = subst Fits (sym back) fits;
      whole = e ∙ ap (λ (p : List ℕ). block p ++ 0 ∷ []) (sym back);
    }

-- a frame is an open gate and the rest of it
pub split_frame : (payload frame : List ℕ) → frame ≡ block payload ++ 0 ∷ [] → frame ≡ 1 ∷ drop 1 frame
split_frame payload frame is =
    let whole = is ∙ block_then payload (0 ∷ []) in
    whole ∙ ap (λ (l : List ℕ). 1 ∷ l) (sym (ap (drop 1) whole))

-- bytes with a closed gate at the end
closed_view : (bytes front : List ℕ) → bytes ≡ front ++ 0 ∷ [] → without_last bytes ≡ front
closed_view bytes front e =
    let n : length bytes - 1 ≡ length front = omega (arith, ap length e, length-append front (0 ∷ [])) in
    ap (λ k. take k bytes) n ∙ ap (take (length front)) e ∙ take-append_seam front (0 ∷ [])

-- a record more behind others: their last gate is opened
batch_added : (old payload frame new : List ℕ) (gate : ℕ) → EndsClosed old → frame ≡ block payload ++ 0 ∷ [] → new ≡ old ++ take (length frame - 1) (drop 1 frame) → gate ≡ length old - 1 → slice_set new gate 1 ≡ (without_last old ++ block payload) ++ 0 ∷ []
batch_added old payload frame new gate closed is added at =
    let front : List ℕ = without_last old in
    let here : gate ≡ length front = at ∙ sym (omega (arith, length-take (length old - 1) old)) in
    let whole : new ≡ front ++ 0 ∷ drop 1 frame =
    added ∙ ap (λ (l : List ℕ). old ++ l) (take_rest frame 1) ∙ ap (λ (l : List ℕ). l ++ drop 1 frame) closed ∙ append_assoc front (0 ∷ []) (drop 1 frame) in
    ap (λ k. slice_set new k 1) here ∙ ap (λ (l : List ℕ). slice_set l (length front) 1) whole ∙ set-append_seam front 0 (drop 1 frame) 1
    ∙ ap (λ (l : List ℕ). front ++ l) (sym (split_frame payload frame is) ∙ is) ∙ sym (append_assoc front (block payload) (0 ∷ []))

pub batch_view : (old payload frame new : List ℕ) (gate : ℕ) → EndsClosed old → frame ≡ block payload ++ 0 ∷ [] → new ≡ old ++ take (length frame - 1) (drop 1 frame) → gate ≡ length old - 1 → without_last (slice_set new gate 1) ≡ without_last old ++ block payload
batch_view old payload frame new gate closed is added at = closed_view (slice_set new gate 1) (without_last old ++ block payload) (batch_added old payload frame new gate closed is added at)

pub batch_ends : (old payload frame new : List ℕ) (gate : ℕ) → EndsClosed old → frame ≡ block payload ++ 0 ∷ [] → new ≡ old ++ take (length frame - 1) (drop 1 frame) → gate ≡ length old - 1 → EndsClosed (slice_set new gate 1)
batch_ends old payload frame new gate closed is added at =
    let whole = batch_added old payload frame new gate closed is added at in
    whole ∙ ap (λ (l : List ℕ). l ++ 0 ∷ []) (sym (closed_view (slice_set new gate 1) (without_last old ++ block payload) whole))
