-- A log that no stop can shorten, and what a stop leaves of it while a record is appended.
use Rattle.std.proofs.Common.{◌≡◌, ◌≢◌, inl, inr, ℕ, suc, ◌+◌, ◌<◌, ◌≤◌, ◌^◌, List, [], ◌∷◌, ◌++◌, length, get_or, take, drop, refl, sym, ◌∙◌, ap, subst, arith, length-append, append_assoc, drop-cons}
use Rattle.std.specs.List.{AllByRecursion}
use Rattle.std.proofs.lemmas.Bool.{cases_eq}
use Rattle.std.proofs.lemmas.List.{take-append-drop}
use Rattle.std.proofs.Math.Seq.{take-append_seam}
use Rattle.store_api.specs.Disk.{Standing, Leaves, settled, History, standing, reads, now, ImageAt}
use Rattle.store_api.specs.Runs.{Stands, Firm, GoesOn, EachImage, WroteWithin}
use Rattle.store_api.proofs.Bytes.{Stands_fits}
use Rattle.store_api.proofs.Standings.{leaves_firm, firm_settled}
use Rattle.store_api.proofs.Runs.{now_image}
use Rattle.store_api.proofs.Pieces.{firm_join, firm_left, firm_beside, firm_since}
use Rattle.log_file.specs.Blocks.{Fits, blocks, LogEnds, EndsEither}
use Rattle.log_file.specs.Sure.{IsSure}
use Rattle.log_file.proofs.RecordBytes.{blocks-join, fits-join}

-- bytes that begin with a piece are it and what follows
stands_whole : (bytes piece : List ℕ) → Stands bytes 0 piece → bytes ≡ piece ++ drop (length piece) bytes
stands_whole bytes piece s = sym (take-append-drop (length piece) bytes) ∙ ap (λ (l : List ℕ). l ++ drop (length piece) bytes) s.same

whole_stands : (bytes piece rest : List ℕ) → 0 < length piece → bytes ≡ piece ++ rest → Stands bytes 0 piece
whole_stands bytes piece rest some e = record { some = some; same = ap (take (length piece)) e ∙ take-append_seam piece rest }

-- records and a closed gate, which stand at the start, are a log that ends there
pub stands_ends : (bytes : List ℕ) (payloads : List (List ℕ)) (gate : ℕ) → Stands bytes 0 (blocks payloads ++ gate ∷ []) → gate ≢ 1 → AllByRecursion Fits payloads → LogEnds bytes payloads
stands_ends bytes payloads gate s closed fits = record {
  gate = gate;
  rest = drop (length (blocks payloads ++ gate ∷ [])) bytes;
  whole = stands_whole bytes (blocks payloads ++ gate ∷ []) s ∙ append_assoc (blocks payloads) (gate ∷ []) (drop (length (blocks payloads ++ gate ∷ [])) bytes);
  closed = closed;
  fits = fits;
}

pub ends_stands : (bytes : List ℕ) (payloads : List (List ℕ)) (ends : LogEnds bytes payloads) → Stands bytes 0 (blocks payloads ++ ends.gate ∷ [])
ends_stands bytes payloads ends =
    whole_stands bytes (blocks payloads ++ ends.gate ∷ []) ends.rest (omega (arith, length-append (blocks payloads) (ends.gate ∷ []))) (ends.whole ∙ sym (append_assoc (blocks payloads) (ends.gate ∷ []) ends.rest))

-- what a stop leaves of a sure log
pub sure_left : (h : History) (file : ℕ) (payloads : List (List ℕ)) (end : ℕ) (left : List ℕ) → IsSure h file payloads end → Leaves (standing h file) left → LogEnds left payloads
sure_left h file payloads end left sure leaves =
    stands_ends left payloads sure.gate (leaves_firm (standing h file) left 0 (blocks payloads ++ sure.gate ∷ []) leaves sure.firm) sure.closed sure.fits

pub sure_reads : (h : History) (file : ℕ) (payloads : List (List ℕ)) (end : ℕ) → IsSure h file payloads end → LogEnds (reads h file) payloads
sure_reads h file payloads end sure = stands_ends (reads h file) payloads sure.gate sure.firm.stands sure.closed sure.fits

pub sure_image : (h : History) (file : ℕ) (payloads : List (List ℕ)) (end : ℕ) (image : ℕ → List ℕ) → IsSure h file payloads end → ImageAt h (now h) image → LogEnds (image file) payloads
sure_image h file payloads end image sure here = sure_left h file payloads end (image file) sure (now_image h image here file)

-- a log that ends within a file, all of which is on the disk, is sure
pub settled_sure : (h : History) (file : ℕ) (bytes : List ℕ) (payloads : List (List ℕ)) → standing h file ≡ settled bytes → length bytes < 2 ^ 64 → LogEnds bytes payloads → IsSure h file payloads (length (blocks payloads))
settled_sure h file bytes payloads same small ends = record {
  gate = ends.gate;
  closed = ends.closed;
  firm = subst (λ s. Firm s 0 (blocks payloads ++ ends.gate ∷ [])) (sym same) (firm_settled bytes 0 (blocks payloads ++ ends.gate ∷ []) (ends_stands bytes payloads ends));
  fits = ends.fits;
  is_end = refl;
  room = let fits = Stands_fits bytes 0 (blocks payloads ++ ends.gate ∷ []) (ends_stands bytes payloads ends) in omega (arith, length-append (blocks payloads) (ends.gate ∷ []));
}

-- where a file that is all on the disk has a log that ends within it, so has each thing that a stop leaves
pub settled_left : (bytes left : List ℕ) (payloads : List (List ℕ)) → LogEnds bytes payloads → Leaves (settled bytes) left → LogEnds left payloads
settled_left bytes left payloads ends leaves =
    stands_ends left payloads ends.gate (leaves_firm (settled bytes) left 0 (blocks payloads ++ ends.gate ∷ []) leaves (firm_settled bytes 0 (blocks payloads ++ ends.gate ∷ []) (ends_stands bytes payloads ends))) ends.closed ends.fits

-- a run on other files
pub sure_beside : (theirs : ℕ → Type 0) (old new : History) (file : ℕ) (payloads : List (List ℕ)) (end : ℕ) → ¬ theirs file → GoesOn theirs old new → IsSure old file payloads end → IsSure new file payloads end
sure_beside theirs old new file payloads end apart goes sure = record {
  gate = sure.gate;
  closed = sure.closed;
  firm = firm_beside theirs old new file 0 (blocks payloads ++ sure.gate ∷ []) apart goes sure.firm;
  fits = sure.fits;
  is_end = sure.is_end;
  room = sure.room;
}

pub sure_since : (theirs : ℕ → Type 0) (old new : History) (file : ℕ) (payloads : List (List ℕ)) (end : ℕ) → ¬ theirs file → GoesOn theirs old new → IsSure old file payloads end → EachImage (now old) new (λ image. LogEnds (image file) payloads)
sure_since theirs old new file payloads end apart goes sure moment image from to here =
    stands_ends (image file) payloads sure.gate (firm_since theirs old new file 0 (blocks payloads ++ sure.gate ∷ []) apart goes sure.firm moment image from to here) sure.closed sure.fits

-- a run behind the gate
pub sure_behind : (file at len end : ℕ) (old new : History) (payloads : List (List ℕ)) → end < at → WroteWithin file at len old new → IsSure old file payloads end → IsSure new file payloads end
sure_behind file at len end old new payloads lt within sure = record {
  gate = sure.gate;
  closed = sure.closed;
  firm = within.firm 0 (blocks payloads ++ sure.gate ∷ []) (inl (omega (arith, sure.is_end, length-append (blocks payloads) (sure.gate ∷ [])))) sure.firm;
  fits = sure.fits;
  is_end = sure.is_end;
  room = sure.room;
}

pub since_behind : (file at len end : ℕ) (old new : History) (payloads : List (List ℕ)) → end < at → WroteWithin file at len old new → IsSure old file payloads end → EachImage (now old) new (λ image. LogEnds (image file) payloads)
since_behind file at len end old new payloads lt within sure moment image from to here =
    stands_ends (image file) payloads sure.gate
    (within.since 0 (blocks payloads ++ sure.gate ∷ []) (inl (omega (arith, sure.is_end, length-append (blocks payloads) (sure.gate ∷ [])))) sure.firm moment image from to here) sure.closed sure.fits

-- a piece that may be empty
Front : List ℕ → List ℕ → Type 0
Front bytes piece = take (length piece) bytes ≡ piece

-- Records in front, then a gate, then all that waited but its first gate and a closed gate: with the one gate open what waited counts,
-- and else it doesn't.
either : (bytes : List ℕ) (payloads waiting : List (List ℕ)) (tail : List ℕ) → blocks waiting ++ 0 ∷ [] ≡ 1 ∷ tail → AllByRecursion Fits waiting → AllByRecursion Fits payloads → Front bytes (blocks payloads) → Stands bytes (length (blocks payloads) + 1) tail → EndsEither bytes payloads waiting
unfolding Front
either bytes payloads waiting tail is fits all front s = elim (cases_eq gate 1) [
  | inl open_gate ↦ inr (record {
    gate = 0;
    rest = more;
    whole = whole ∙ ap (λ (g : ℕ). blocks payloads ++ (g ∷ (tail ++ more))) open_gate ∙ regroup;
    closed = λ e. absurd (omega arith);
    fits = fits-join payloads waiting all fits;
  })
  | inr closed ↦ inl (record { gate = gate; rest = tail ++ more; whole = whole; closed = closed; fits = all })
]
  where
    at : ℕ
    at = length (blocks payloads)

    gate : ℕ
    gate = get_or bytes at 0

    more : List ℕ
    more = drop (length tail) (drop (at + 1) bytes)

    long : at < length bytes
    long = omega (arith, Stands_fits bytes (length (blocks payloads) + 1) tail s)

    whole : bytes ≡ blocks payloads ++ (gate ∷ (tail ++ more))
    whole =
        sym (take-append-drop (length (blocks payloads)) bytes) ∙ ap (λ (l : List ℕ). l ++ drop (length (blocks payloads)) bytes) front
        ∙ ap (λ (l : List ℕ). blocks payloads ++ l) (drop-cons bytes (length (blocks payloads)) 0 long ∙ ap (λ (l : List ℕ). get_or bytes (length (blocks payloads)) 0 ∷ l)
        (ap (λ n. drop n bytes) (let e : suc (length (blocks payloads)) ≡ length (blocks payloads) + 1 = omega arith in e) ∙ sym (take-append-drop (length tail) (drop (length (blocks payloads) + 1) bytes)) ∙ ap (λ (l : List ℕ). l ++ drop (length tail) (drop (length (blocks payloads) + 1) bytes)) s.same))

    regroup : blocks payloads ++ (1 ∷ (tail ++ more)) ≡ blocks (payloads ++ waiting) ++ (0 ∷ more)
    regroup =
        ap (λ (l : List ℕ). blocks payloads ++ (l ++ more)) (sym is) ∙ ap (λ (l : List ℕ). blocks payloads ++ l) (append_assoc (blocks waiting) (0 ∷ []) more)
        ∙ sym (append_assoc (blocks payloads) (blocks waiting) (0 ∷ more)) ∙ ap (λ (l : List ℕ). l ++ (0 ∷ more)) (sym (blocks-join payloads waiting))

-- the records in front of a sure log's gate, firm where there are any
pub FirmFront : Standing → List ℕ → Type 0
FirmFront file [] = Unit {0}
FirmFront file (b ∷ piece) = Firm file 0 (b ∷ piece)

pub front_of : (file : Standing) (piece : List ℕ) (gate : ℕ) → Firm file 0 (piece ++ gate ∷ []) → FirmFront file piece
unfolding FirmFront
front_of file [] gate f = tt
front_of file (b ∷ piece) gate f = firm_left file 0 (b ∷ piece) (gate ∷ []) (omega arith) f

front_left : (file : Standing) (left piece : List ℕ) → Leaves file left → FirmFront file piece → Front left piece
unfolding Front FirmFront
front_left file left [] leaves f = refl
front_left file left (b ∷ piece) leaves f = (leaves_firm file left 0 (b ∷ piece) leaves f).same

front_within : (file at len : ℕ) (old new : History) (piece : List ℕ) → length piece ≤ at → WroteWithin file at len old new → FirmFront (standing old file) piece → FirmFront (standing new file) piece
unfolding FirmFront
front_within file at len old new [] le within f = tt
front_within file at len old new (b ∷ piece) le within f = within.firm 0 (b ∷ piece) (inl (omega arith)) f

front_since : (file at len : ℕ) (old new : History) (piece : List ℕ) → length piece ≤ at → WroteWithin file at len old new → FirmFront (standing old file) piece → EachImage (now old) new (λ image. Front (image file) piece)
unfolding FirmFront Front
front_since file at len old new [] le within f moment image from to here = refl
front_since file at len old new (b ∷ piece) le within f moment image from to here = (within.since 0 (b ∷ piece) (inl (omega arith)) f moment image from to here).same

front_join : (file : Standing) (piece more : List ℕ) → FirmFront file piece → Firm file (length piece) more → Firm file 0 (piece ++ more)
unfolding FirmFront
front_join file [] more f g = g
front_join file (b ∷ piece) more f g = firm_join file 0 (b ∷ piece) more f (subst (λ n. Firm file n more) (let e : length (b ∷ piece) ≡ 0 + length (b ∷ piece) = omega arith in e) g)

-- All that waited but its first gate is on the disk, with the next gate closed; then that gate is written.
module _ (file at : ℕ) (waiting : List (List ℕ)) (tail : List ℕ) (is : blocks waiting ++ 0 ∷ [] ≡ 1 ∷ tail) (fits : AllByRecursion Fits waiting) (mid new : History) (payloads : List (List ℕ)) (is_at : at ≡ length (blocks payloads)) (all : AllByRecursion Fits payloads)
    (front : FirmFront (standing mid file) (blocks payloads)) (behind : Firm (standing mid file) (at + 1) tail) (within : WroteWithin file at 1 mid new) where
  pub opened_since : EachImage (now mid) new (λ image. EndsEither (image file) payloads waiting)
  opened_since moment image from to here =
      either (image file) payloads waiting tail is fits all
      (front_since file at 1 mid new (blocks payloads) (omega arith) within front moment image from to here)
      (subst (λ n. Stands (image file) (n + 1) tail) is_at (within.since (at + 1) tail (inr (omega arith)) behind moment image from to here))

  pub opened_left : (left : List ℕ) → Leaves (standing new file) left → EndsEither left payloads waiting
  opened_left left leaves =
      either left payloads waiting tail is fits all
      (front_left (standing new file) left (blocks payloads) leaves (front_within file at 1 mid new (blocks payloads) (omega arith) within front))
      (subst (λ n. Stands left (n + 1) tail) is_at (leaves_firm (standing new file) left (at + 1) tail leaves (within.firm (at + 1) tail (inr (omega arith)) behind)))

  pub opened_sure : (end : ℕ) → Firm (standing new file) at (1 ∷ []) → end ≡ at + length (blocks waiting) → end + 1 < 2 ^ 64 → IsSure new file (payloads ++ waiting) end
  opened_sure end gate is_end small = record {
    gate = 0;
    closed = λ e. absurd (omega arith);
    firm = subst (λ (l : List ℕ). Firm (standing new file) 0 l) regroup (front_join (standing new file) (blocks payloads) (1 ∷ tail) (front_within file at 1 mid new (blocks payloads) (omega arith) within front)
        (subst (λ n. Firm (standing new file) n (1 ∷ tail)) is_at (firm_join (standing new file) at (1 ∷ []) tail gate (within.firm (at + 1) tail (inr (omega arith)) behind))));
    fits = fits-join payloads waiting all fits;
    is_end = is_end ∙ is_at_end;
    room = small;
  }
    where
      regroup : blocks payloads ++ (1 ∷ tail) ≡ blocks (payloads ++ waiting) ++ 0 ∷ []
      regroup = ap (λ (l : List ℕ). blocks payloads ++ l) (sym is) ∙ sym (append_assoc (blocks payloads) (blocks waiting) (0 ∷ [])) ∙ ap (λ (l : List ℕ). l ++ 0 ∷ []) (sym (blocks-join payloads waiting))

      is_at_end : at + length (blocks waiting) ≡ length (blocks (payloads ++ waiting))
      is_at_end = sym (ap length (blocks-join payloads waiting) ∙ length-append (blocks payloads) (blocks waiting) ∙ ap (λ n. n + length (blocks waiting)) (sym is_at))
