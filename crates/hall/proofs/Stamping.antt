-- Stamps: they rise, and how many a moment has reached.
use Rattle.std.proofs.Common.{◌≡◌, ℕ, ◌+◌, ◌<◌, ◌≤◌, suc, zero, Bool, true, false, nat_le, List, [], ◌∷◌, ◌++◌, length, replicate, refl, ap, ◌∙◌, if◌then◌else◌, arith}
use Rattle.std.proofs.Math.Nat.{zero-add}
use Rattle.std.proofs.lemmas.Bool.{lt-leb}
use Rattle.log_file.specs.Safety.{acknowledged}
use Rattle.hall.specs.Good.{Rise}

pub rise_over : (first last : ℕ) (stamps : List ℕ) → Rise first last stamps → first ≤ last
rise_over first last [] r = r
rise_over first last (s ∷ stamps) r = let rest : s ≤ last = rise_over s last stamps r.1 in omega (arith, r.0, rest)

pub rise_later : (first last later : ℕ) (stamps : List ℕ) → Rise first last stamps → last ≤ later → Rise first later stamps
rise_later first last later [] r l = omega (arith, r, l)
rise_later first last later (s ∷ stamps) r l = (r.0, rise_later s last later stamps r.1 l)

same_rise : (n moment : ℕ) → Rise moment moment (replicate n moment)
same_rise zero moment = omega arith
same_rise (suc n) moment = (omega arith, same_rise n moment)

one_rise : (n first moment : ℕ) → first ≤ moment → Rise first moment (replicate n moment)
one_rise zero first moment l = l
one_rise (suc n) first moment l = (l, same_rise n moment)

-- stamps of the moment that is now follow
pub rise_more : (n first last moment : ℕ) (stamps : List ℕ) → Rise first last stamps → last ≤ moment → Rise first moment (stamps ++ replicate n moment)
rise_more n first last moment [] r l = one_rise n first moment (omega (arith, r, l))
rise_more n first last moment (s ∷ stamps) r l = (r.0, rise_more n s last moment stamps r.1 l)

one_or_none : (b : Bool) → (if b then 1 else 0) ≤ 1
one_or_none true = omega arith
one_or_none false = omega arith

pub few_acknowledged : (moment : ℕ) (stamps : List ℕ) → acknowledged moment stamps ≤ length stamps
few_acknowledged moment [] = omega arith
few_acknowledged moment (s ∷ stamps) =
    let one : (if nat_le s moment then 1 else 0) ≤ 1 = one_or_none (nat_le s moment) in
    let rest : acknowledged moment stamps ≤ length stamps = few_acknowledged moment stamps in
    omega (arith, one, rest)

none_acknowledged : (n moment later : ℕ) → moment < later → acknowledged moment (replicate n later) ≡ 0
none_acknowledged zero moment later l = refl
none_acknowledged (suc n) moment later l =
    ap (λ b. (if b then 1 else 0) + acknowledged moment (replicate n later)) (lt-leb later moment l) ∙ zero-add (acknowledged moment (replicate n later)) ∙ none_acknowledged n moment later l

-- a moment before them has reached none of the new ones
pub acknowledged_before : (n moment later : ℕ) (stamps : List ℕ) → moment < later → acknowledged moment (stamps ++ replicate n later) ≡ acknowledged moment stamps
acknowledged_before n moment later [] l = none_acknowledged n moment later l
acknowledged_before n moment later (s ∷ stamps) l = ap (λ k. (if nat_le s moment then 1 else 0) + k) (acknowledged_before n moment later stamps l)
