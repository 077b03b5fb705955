-- Lemmas on bytes that move in pieces.
use Rattle.std.proofs.Common.{◌≡◌, ℕ, ◌+◌, ◌-◌, ◌≤◌, List, ◌++◌, length, take, drop, Option, sym, ap, ◌∙◌, subst, take-append-drop}
use Rattle.std.proofs.Math.Seq.{take-append_seam, take-add}
use Rattle.std.proofs.lemmas.List.{take_rest, drop-drop, length-take-le}
use Rattle.std.proofs.KnownBytes.{Appends-trans}
use Rattle.std.specs.Io.KnownBytes.{Appends}

-- a front was put, and then a front of the rest
pub put_more : (a b c : Option (List ℕ)) (bytes : List ℕ) (done count : ℕ) → Appends a b (take done bytes) → Appends b c (take count (take (length bytes - done) (drop done bytes)))
    → Appends a c (take (done + count) bytes)
put_more a b c bytes done count before more =
    let rest = ap (take count) (take_rest bytes done) in
    let joined = take-add done count bytes in
    subst (Appends a c) (ap (λ l. take done bytes ++ l) rest ∙ sym joined) (Appends-trans a b c _ _ before more)

-- what was copied to the front of a buffer is what went from the bytes
pub copied_front : (bytes buffer copied : List ℕ) (at count : ℕ) → count ≤ length buffer → length copied ≡ length (take count buffer) → copied ≡ take count (drop at bytes)
    → drop at bytes ≡ take count (copied ++ drop count buffer) ++ drop (at + count) bytes
copied_front bytes buffer copied at count room long same =
    let size : length copied ≡ count = long ∙ length-take-le count buffer room in
    let seam : take count (copied ++ drop count buffer) ≡ copied = subst (λ n. take n (copied ++ drop count buffer) ≡ copied) size (take-append_seam copied (drop count buffer)) in
    sym (take-append-drop count (drop at bytes)) ∙ ap (λ l. l ++ drop count (drop at bytes)) (sym (seam ∙ same))
    ∙ ap (λ l. take count (copied ++ drop count buffer) ++ l) (drop-drop count at bytes)
