-- The DATA lines of some bytes, piece by piece.
use Rattle.std.proofs.Common.{◌≡◌, ℕ, ◌+◌, ◌-◌, ◌*◌, ◌/◌, ◌<◌, ◌≤◌, List, ◌++◌, map, sym, ◌∙◌, ap, arith, codes}
use Rattle.std.specs.List.{flat_map, range_with_len}
use Rattle.std.proofs.lemmas.List.{flat_map_more}
use Rattle.std.proofs.lemmas.List.Folds.{flat_map-map}
use Rattle.std.proofs.lemmas.List.FromFn.{map-range_with_len_more}
use Rattle.hex.specs.Hex.{encode_lower}
use Rattle.reports.specs.Pieces.{numbered}
use Rattle.command_steps.specs.Answers.{data_line, piece_of}

-- a piece that is there begins inside the bytes
pub piece_begins : (len most number : ℕ) → 0 < most → number < (len + (most - 1)) / most → most * number ≤ len
piece_begins len most number pos below =
    let whole : most * ((len + (most - 1)) / most) ≤ len + (most - 1) = grind arith in
    let more : most * (number + 1) ≤ most * ((len + (most - 1)) / most) = grind arith in
    grind arith

-- one piece more
lines_more : (front : List ℕ) (line most : ℕ) (bytes : List ℕ) (number : ℕ) → (front ++ flat_map (data_line line most bytes) (range_with_len 0 number)) ++ data_line line most bytes number ≡ front ++ flat_map (data_line line most bytes) (range_with_len 0 (number + 1))
lines_more front line most bytes number =
    let piece : ℕ → List ℕ = data_line line most bytes in
    let same : List ℕ → List ℕ = λ (l : List ℕ). l in
    ap (λ (l : List ℕ). (front ++ l) ++ piece number) (sym (flat_map-map same piece (range_with_len 0 number)))
    ∙ flat_map_more same front (map piece (range_with_len 0 number)) (piece number)
    ∙ ap (λ (ls : List (List ℕ)). front ++ flat_map same ls) (sym (map-range_with_len_more piece 0 number number (omega arith)))
    ∙ ap (λ (l : List ℕ). front ++ l) (flat_map-map same piece (range_with_len 0 (number + 1)))

-- what was put after one more DATA line
pub put_more : (front : List ℕ) (line most : ℕ) (bytes : List ℕ) (number : ℕ) (mid new text : List ℕ) → mid ≡ front ++ flat_map (data_line line most bytes) (range_with_len 0 number) → text ≡ numbered line (codes "DATA " ++ encode_lower (piece_of most bytes number)) → new ≡ mid ++ text → new ≡ front ++ flat_map (data_line line most bytes) (range_with_len 0 (number + 1))
unfolding data_line
put_more front line most bytes number mid new text was is now =
    now ∙ ap (λ (l : List ℕ). l ++ text) was ∙ ap (λ (l : List ℕ). (front ++ flat_map (data_line line most bytes) (range_with_len 0 number)) ++ l) is ∙ lines_more front line most bytes number
