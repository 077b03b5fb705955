-- Parts of pieces, pieces side by side, and what is firm because each stop leaves it.
use Rattle.std.proofs.Common.{◌≡◌, inl, inr, cond, eqb, ℕ, suc, ◌+◌, ◌-◌, ◌<◌, ◌≤◌, List, [], ◌∷◌, ◌++◌, length, get_or, set, take, drop, refl, sym, ◌∙◌, ap, subst, arith, length-append, length-set}
use Rattle.std.proofs.lemmas.Bool.{cases_lt, cases_eq, cond_both, eq-eqb, ne_eqb, cond-true, cond-false}
use Rattle.std.proofs.lemmas.List.{length-take, length-drop, get_or-take, get_or-drop, get_or_append_left, get_or-append_right, get_or-set_same, get_or-set_other}
use Rattle.store_api.specs.Disk.{Standing, IsLoose, Leaves, Change, write, cut, settle, settled, changed, Call, on, idle, History, standing_after, standing, reads, now, ImageAt}
use Rattle.store_api.specs.Runs.{Stands, Firm, GoesOn, LeftNow, EachImage}
use Rattle.store_api.proofs.Bytes.{Stands_fits, Stands_at, Stands_from, overwritten_no_shorter}
use Rattle.store_api.proofs.Standings.{leaves_firm}
use Rattle.store_api.proofs.Runs.{image_now, goes_standing, goes_images}

-- what lies within bytes stands there
pub stands_there : (bytes : List ℕ) (at len : ℕ) → 0 < len → at + len ≤ length bytes → Stands bytes at (take len (drop at bytes))
stands_there bytes at len some fits =
    let long : length (take len (drop at bytes)) ≡ len = omega (arith, length-take len (drop at bytes), length-drop at bytes) in
    record { some = omega (arith, long, some); same = ap (λ n. take n (drop at bytes)) long }

-- two pieces of one length at one place are the same
pub stands_same : (bytes : List ℕ) (at : ℕ) (piece other : List ℕ) → length piece ≡ length other → Stands bytes at piece → Stands bytes at other → piece ≡ other
stands_same bytes at piece other long a b = sym a.same ∙ ap (λ n. take n (drop at bytes)) long ∙ b.same

-- a part of a piece stands where it lies
pub stands_part : (bytes : List ℕ) (at : ℕ) (piece : List ℕ) (from len : ℕ) → 0 < len → from + len ≤ length piece → Stands bytes at piece → Stands bytes (at + from) (take len (drop from piece))
stands_part bytes at piece from len some fits s =
    let long : length (take len (drop from piece)) ≡ len = omega (arith, length-take len (drop from piece), length-drop from piece) in
    Stands_from bytes (at + from) (take len (drop from piece)) (omega (arith, long, some)) (omega (arith, long, Stands_fits bytes at piece s)) (λ k lt.
    let here : k < len = omega (arith, long, lt) in
    ap (λ n. get_or bytes n 0) (let e : at + from + k ≡ at + (from + k) = omega arith in e) ∙ Stands_at bytes at piece s (from + k) (omega arith) ∙ sym (get_or-drop from piece k 0) ∙ sym (get_or-take len (drop from piece) k 0 here))

-- two pieces side by side are one
pub stands_join : (bytes : List ℕ) (at : ℕ) (piece more : List ℕ) → Stands bytes at piece → Stands bytes (at + length piece) more → Stands bytes at (piece ++ more)
stands_join bytes at piece more a b =
    Stands_from bytes at (piece ++ more) (omega (arith, a.some, length-append piece more)) (omega (arith, Stands_fits bytes (at + length piece) more b, length-append piece more)) (λ k lt. elim (cases_lt k (length piece)) [
      | inl first ↦ Stands_at bytes at piece a k first ∙ sym (get_or_append_left piece more 0 k first)
      | inr second ↦
          let e : at + k ≡ at + length piece + (k - length piece) = omega arith in
          ap (λ n. get_or bytes n 0) e ∙ Stands_at bytes (at + length piece) more b (k - length piece) (omega (arith, lt, length-append piece more)) ∙ sym (get_or-append_right piece more (length piece) k 0 refl second)
    ])

-- one piece is two side by side
pub stands_left : (bytes : List ℕ) (at : ℕ) (piece more : List ℕ) → 0 < length piece → Stands bytes at (piece ++ more) → Stands bytes at piece
stands_left bytes at piece more some s =
    Stands_from bytes at piece some (omega (arith, Stands_fits bytes at (piece ++ more) s, length-append piece more)) (λ k lt. Stands_at bytes at (piece ++ more) s k (omega (arith, lt, length-append piece more)) ∙ get_or_append_left piece more 0 k lt)

pub stands_right : (bytes : List ℕ) (at : ℕ) (piece more : List ℕ) → 0 < length more → Stands bytes at (piece ++ more) → Stands bytes (at + length piece) more
stands_right bytes at piece more some s =
    Stands_from bytes (at + length piece) more some (omega (arith, Stands_fits bytes at (piece ++ more) s, length-append piece more)) (λ k lt.
    ap (λ n. get_or bytes n 0) (let e : at + length piece + k ≡ at + (length piece + k) = omega arith in e)
    ∙ Stands_at bytes at (piece ++ more) s (length piece + k) (omega (arith, lt, length-append piece more))
    ∙ get_or-append_right piece more (length piece) (length piece + k) 0 refl (omega arith) ∙ ap (λ n. get_or more n 0) (let e : length piece + k - length piece ≡ k = omega arith in e))

-- the same of firm pieces
pub firm_part : (file : Standing) (at : ℕ) (piece : List ℕ) (from len : ℕ) → 0 < len → from + len ≤ length piece → Firm file at piece → Firm file (at + from) (take len (drop from piece))
firm_part file at piece from len some fits f =
    let long : length (take len (drop from piece)) ≡ len = omega (arith, length-take len (drop from piece), length-drop from piece) in
    record {
      stands = stands_part file.bytes at piece from len some fits f.stands;
      below = omega (arith, long, f.below);
      clear = λ place low high. f.clear place (omega arith) (omega (arith, long, high));
    }

pub firm_join : (file : Standing) (at : ℕ) (piece more : List ℕ) → Firm file at piece → Firm file (at + length piece) more → Firm file at (piece ++ more)
firm_join file at piece more a b = record {
  stands = stands_join file.bytes at piece more a.stands b.stands;
  below = omega (arith, b.below, length-append piece more);
  clear = λ place low high. elim (cases_lt place (at + length piece)) [
    | inl first ↦ a.clear place low first
    | inr second ↦ b.clear place second (omega (arith, high, length-append piece more))
  ];
}

pub firm_left : (file : Standing) (at : ℕ) (piece more : List ℕ) → 0 < length piece → Firm file at (piece ++ more) → Firm file at piece
firm_left file at piece more some f = record {
  stands = stands_left file.bytes at piece more some f.stands;
  below = omega (arith, f.below, length-append piece more);
  clear = λ place low high. f.clear place low (omega (arith, high, length-append piece more));
}

pub firm_right : (file : Standing) (at : ℕ) (piece more : List ℕ) → 0 < length more → Firm file at (piece ++ more) → Firm file (at + length piece) more
firm_right file at piece more some f = record {
  stands = stands_right file.bytes at piece more some f.stands;
  below = omega (arith, f.below, length-append piece more);
  clear = λ place low high. f.clear place (omega arith) (omega (arith, high, length-append piece more));
}

-- the stable length lies within the file
changed_within : (change : Change) (file : Standing) → file.stable ≤ length file.bytes → (changed change file).stable ≤ length (changed change file).bytes
unfolding changed settled
changed_within (write at span bytes) file le = omega (arith, le, overwritten_no_shorter file.bytes at bytes)
changed_within (cut asked left) file le = omega (arith, le, length-take left file.bytes)
changed_within settle file le = omega arith

after_within : (first : ℕ → List ℕ) (calls : List Call) (file : ℕ) → (standing_after first calls file).stable ≤ length (standing_after first calls file).bytes
unfolding settled
after_within first [] file = omega arith
after_within first (idle ∷ calls) file = after_within first calls file
after_within first (on other change ∷ calls) file =
    cond_both _ (changed change (standing_after first calls file)) (standing_after first calls file) (λ s. s.stable ≤ length s.bytes)
    (λ e. changed_within change (standing_after first calls file) (after_within first calls file)) (λ e. after_within first calls file)

pub stable_within : (h : History) (file : ℕ) → (standing h file).stable ≤ length (reads h file)
stable_within h file = after_within h.first h.calls file

-- a stop may leave a file as it reads
pub leaves_reads : (h : History) (file : ℕ) → Leaves (standing h file) (reads h file)
leaves_reads h file = record { long = stable_within h file; same = λ place lt clear. refl }

-- and every file so
pub image_reads : (h : History) → ImageAt h (now h) (reads h)
image_reads h = image_now h (reads h) (λ file. leaves_reads h file)

-- where each thing that a stop may leave of a file has the piece there, it is firm
pub firm_if_left : (file : Standing) (at : ℕ) (piece : List ℕ) → file.stable ≤ length file.bytes → ((left : List ℕ) → Leaves file left → Stands left at piece) → Firm file at piece
firm_if_left file at piece within each = record {
  stands = stands;
  below = omega (arith, Stands_fits (take file.stable file.bytes) at piece (each (take file.stable file.bytes) short), length-take file.stable file.bytes);
  clear = λ place low high loose.
      let long : at + length piece ≤ length file.bytes = Stands_fits file.bytes at piece stands in
      let other = set file.bytes place (suc (get_or file.bytes place 0)) in
      let here : at + (place - at) ≡ place = omega arith in
      let old : get_or file.bytes place 0 ≡ get_or piece (place - at) 0 = ap (λ n. get_or file.bytes n 0) (sym here) ∙ Stands_at file.bytes at piece stands (place - at) (omega arith) in
      let new : get_or other place 0 ≡ get_or piece (place - at) 0 = ap (λ n. get_or other n 0) (sym here) ∙ Stands_at other at piece (each other (touched place loose)) (place - at) (omega arith) in
      let lies : place < length file.bytes = omega arith in
      let is : get_or other place 0 ≡ suc (get_or file.bytes place 0) = get_or-set_same file.bytes place (suc (get_or file.bytes place 0)) 0 lies in omega (arith, old, new, is);
}
  where
    stands : Stands file.bytes at piece
    stands = each file.bytes (record { long = within; same = λ place lt clear. refl })

    short : Leaves file (take file.stable file.bytes)
    short = record { long = omega (arith, length-take file.stable file.bytes); same = λ place lt clear. get_or-take file.stable file.bytes place 0 lt }

    touched : (place : ℕ) → IsLoose file.loose place → Leaves file (set file.bytes place (suc (get_or file.bytes place 0)))
    touched place loose = record {
      long = omega (arith, within, length-set file.bytes place (suc (get_or file.bytes place 0)));
      same = λ k lt clear. get_or-set_other file.bytes place k (suc (get_or file.bytes place 0)) 0 (λ e. clear (subst (IsLoose file.loose) (sym e) loose));
    }

-- an image with one file replaced
unfoldable pub with_file : (ℕ → List ℕ) → ℕ → List ℕ → ℕ → List ℕ
with_file image file left other = cond (eqb other file) left (image other)

pub image_with : (h : History) (file : ℕ) (left : List ℕ) → Leaves (standing h file) left → ImageAt h (now h) (with_file (reads h) file left)
unfolding with_file
image_with h file left leaves = image_now h (with_file (reads h) file left) (λ other. elim (cases_eq other file) [
  | inl same ↦ subst (λ l. Leaves (standing h other) l) (sym (cond-true _ left (reads h other) (eq-eqb other file same))) (subst (λ f. Leaves (standing h f) left) (sym same) leaves)
  | inr apart ↦ subst (λ l. Leaves (standing h other) l) (sym (cond-false _ left (reads h other) (ne_eqb other file apart))) (leaves_reads h other)
])

-- where each image of now has the piece there, it is firm
pub sound_firm : (h : History) (file at : ℕ) (piece : List ℕ) → ((image : ℕ → List ℕ) → ImageAt h (now h) image → Stands (image file) at piece) → Firm (standing h file) at piece
unfolding with_file
sound_firm h file at piece each = firm_if_left (standing h file) at piece (stable_within h file) (λ left leaves.
    subst (λ l. Stands l at piece) (cond-true _ left (reads h file) (eq-eqb file file refl)) (each (with_file (reads h) file left) (image_with h file left leaves)))

-- of files that a run doesn't name, a stop leaves what it might have left before
pub left_beside : (mine theirs : ℕ → Type 0) (old new : History) (image : ℕ → List ℕ) → ((file : ℕ) → mine file → ¬ theirs file) → GoesOn theirs old new → LeftNow mine new image → LeftNow mine old image
left_beside mine theirs old new image apart goes left file is_mine = subst (λ s. Leaves s (image file)) (goes_standing theirs old new file (apart file is_mine) goes) (left file is_mine)

-- at each moment of it too
pub left_since : (mine theirs : ℕ → Type 0) (old new : History) → ((file : ℕ) → mine file → ¬ theirs file) → GoesOn theirs old new → EachImage (now old) new (LeftNow mine old)
left_since mine theirs old new apart goes moment image from to here file is_mine = goes_images theirs old new file (apart file is_mine) goes moment image from to here

-- a firm piece of a file that a run doesn't name is firm after it
pub firm_beside : (theirs : ℕ → Type 0) (old new : History) (file at : ℕ) (piece : List ℕ) → ¬ theirs file → GoesOn theirs old new → Firm (standing old file) at piece → Firm (standing new file) at piece
firm_beside theirs old new file at piece apart goes f = subst (λ s. Firm s at piece) (sym (goes_standing theirs old new file apart goes)) f

-- and stands in each image of the run's moments
pub firm_since : (theirs : ℕ → Type 0) (old new : History) (file at : ℕ) (piece : List ℕ) → ¬ theirs file → GoesOn theirs old new → Firm (standing old file) at piece → EachImage (now old) new (λ image. Stands (image file) at piece)
firm_since theirs old new file at piece apart goes f moment image from to here = leaves_firm (standing old file) (image file) at piece (goes_images theirs old new file apart goes moment image from to here) f
