-- Pieces of a file that are held, and what their first bytes say.
use Rattle.std.proofs.Common.{◌≡◌, ◌⊎◌, inl, inr, ℕ, ◌+◌, ◌-◌, ◌<◌, ◌≤◌, ◌^◌, min, List, [], ◌∷◌, ◌++◌, length, take, drop, true, false, IsTrue, Option, Some, None, IfSome, Result, Ok, Err, IfOk, IfErr, refl, sym, ◌∙◌, ap, subst, arith, length-append, append_assoc}
use Rattle.std.specs.Int.{w32, to_be_bytes, from_be_bytes}
use Rattle.std.proofs.lemmas.Bool.{cases_lt}
use Rattle.std.proofs.lemmas.List.{length-drop, length-take-le, take-append-drop, drop-take, drop-drop}
use Rattle.std.proofs.Math.Seq.{take-append_seam, drop-append_seam, take-add}
use Rattle.store_api.specs.Told.{ReadsFrom}
use Rattle.kinds.specs.declared.refusal.OpenRefused.{OpenRefused}
use Rattle.kinds.specs.declared.refusal.OpenRefused.TheVariants.{ReadFault, NotFormatted, Damaged, RunFull, Memory}
use Rattle.log_file.specs.Blocks.{block, blocks, IsClosed, IsBroken, LogIs}
use Rattle.log_file.specs.Cursor.{Held, Shows, Place, CameTo, DamageBehind}
use Rattle.log_file.specs.Windows.{HeadIs, HeadBroken, HeadGives, between}
use Rattle.log_file.proofs.RecordBytes.{block_then, length-block, blocks-append, fits-append}

drop-drop_by : (n m : ℕ) (xs : List ℕ) → drop n (drop m xs) ≡ drop (m + n) xs
drop-drop_by n m xs = drop-drop n m xs

-- the front of some bytes is as long as it is
front_own : (front behind bytes : List ℕ) → front ++ behind ≡ bytes → front ≡ take (length front) bytes
front_own front behind bytes e = sym (take-append_seam front behind) ∙ ap (take (length front)) e

-- a part of a piece that is held stands in the bytes
pub part_shown : (bytes piece : List ℕ) (low at most : ℕ) → take (length piece) (drop low bytes) ≡ piece → low ≤ at → at ≤ low + length piece → take most (drop (at - low) piece) ≡ take (length (take most (drop (at - low) piece))) (drop at bytes)
part_shown bytes piece low at most is from to =
    let n : length piece ≡ (at - low) + (low + length piece - at) = omega arith in
    let behind : drop (at - low) piece ≡ take (low + length piece - at) (drop at bytes) =
    ap (drop (at - low)) (sym is ∙ ap (λ k. take k (drop low bytes)) n) ∙ drop-take (at - low) (low + length piece - at) (drop low bytes)
    ∙ ap (take (low + length piece - at)) (drop-drop_by (at - low) low bytes ∙ ap (λ k. drop k bytes) (let e : low + (at - low) ≡ at = omega arith in e)) in
    let rest = low + length piece - at in
    front_own (take most (drop (at - low) piece)) (drop most (drop (at - low) piece) ++ drop rest (drop at bytes)) (drop at bytes)
    (sym (append_assoc (take most (drop (at - low) piece)) (drop most (drop (at - low) piece)) (drop rest (drop at bytes))) ∙ ap (λ (l : List ℕ). l ++ drop rest (drop at bytes)) (take-append-drop most (drop (at - low) piece) ∙ behind) ∙ take-append-drop rest (drop at bytes))

-- a piece that was read is held
pub read_shows : (bytes : List ℕ) (file len at have read : ℕ) (buffer : List ℕ) → len ≡ length bytes → ReadsFrom bytes at buffer read → read ≤ length buffer → have ≡ min (len - at) read → Shows bytes (record { file = file; len = len; from = at; piece = take have buffer })
read_shows bytes file len at have read buffer is r le cut =
    let all : have ≡ read = omega (arith, r.many) in
    record {
      len = is;
      piece = ap (λ n. take n (drop at bytes)) (length-take-le have buffer (omega arith) ∙ all) ∙ sym r.same ∙ ap (λ n. take n buffer) (sym all);
    }

-- what the first bytes of a record say of what stands at the place
head_some : (bytes head : List ℕ) (at left len : ℕ) → at ≤ length bytes → left ≡ length bytes - at → head ≡ take (length head) (drop at bytes) → length head ≡ min left 5 → head ≡ 1 ∷ to_be_bytes w32 len → take 5 (drop at bytes) ≡ 1 ∷ to_be_bytes w32 len
head_some bytes head at left len within is front long e =
    let five : length head ≡ 5 = ap length e in
    ap (λ n. take n (drop at bytes)) (sym five) ∙ sym front ∙ e

head_closed : (here head : List ℕ) → 0 < length head → head ≡ take (length head) here → IsClosed head → IsClosed here
head_closed [] head some front closed = tt
head_closed (g ∷ here) [] some front closed = absurd (omega arith)
head_closed (g ∷ here) (h ∷ head) some front closed = λ e. closed (same_head h g head (take (length head) here) front ∙ e)
  where
    same_head : (a b : ℕ) (x y : List ℕ) → a ∷ x ≡ b ∷ y → a ≡ b
    same_head a b x y e = cc

head_broken : (here head rest : List ℕ) (left : ℕ) → left ≡ length here → 0 < left → length head ≡ min left 5 → head ≡ take (length head) here → head ≡ 1 ∷ rest
    → (left < 5) ⊎ ((2 ^ 24 < from_be_bytes w32 rest) ⊎ (left < 5 + from_be_bytes w32 rest)) → (behind : List ℕ) × (here ≡ 1 ∷ behind) × IsBroken behind
head_broken [] head rest left is some long front e why = absurd (omega arith)
head_broken (g ∷ here) [] rest left is some long front e why = absurd (omega arith)
head_broken (g ∷ here) (h ∷ head) rest left is some long front e why = (
  here,
  is_open,
  elim (cases_lt left 5) [
    | inl short ↦ inl (omega arith)
    | inr enough ↦
        let four : take 4 here ≡ rest = ap (λ n. take n here) (let e4 : 4 ≡ length head = omega arith in e4) ∙ sym (same_tail h g head (take (length head) here) front) ∙ same_tail h 1 head rest e in
        let n : from_be_bytes w32 (take 4 here) ≡ from_be_bytes w32 rest = ap (from_be_bytes w32) four in
        elim why [
          | inl short ↦ absurd (omega arith)
          | inr other ↦ elim other [ inl much ↦ inr (inl (omega arith)) | inr past ↦ inr (inr (omega arith)) ]
        ]
  ],
)
  where
    same_head : (a b : ℕ) (x y : List ℕ) → a ∷ x ≡ b ∷ y → a ≡ b
    same_head a b x y e = cc

    same_tail : (a b : ℕ) (x y : List ℕ) → a ∷ x ≡ b ∷ y → x ≡ y
    same_tail a b x y e = cc

    is_open : g ∷ here ≡ 1 ∷ here
    is_open = ap (λ k. k ∷ here) (sym (same_head h g head (take (length head) here) front) ∙ same_head h 1 head rest e)

-- a short file says that there is no record
pub head_is : (bytes head : List ℕ) (file at left : ℕ) (result : Result (Option ℕ) OpenRefused) → at ≤ length bytes → left ≡ length bytes - at → 0 < left → length head ≡ min left 5 → head ≡ take (length head) (drop at bytes) → HeadGives head left result
    → IfErr result (λ refusal. refusal ≡ Damaged file (at + 1)) → IfOk result (λ found. IfSome found (λ len. (5 + len ≤ left) × (len ≤ 2 ^ 24))) → HeadIs bytes at result
head_is bytes head file at left (Ok None) le is some long front gives err within = head_closed (drop at bytes) head (omega (arith, long)) front gives
head_is bytes head file at left (Ok (Some len)) le is some long front gives err within = (head_some bytes head at left len le is front long gives, within.1, omega (arith, within.0))
head_is bytes head file at left (Err refusal) le is some long front gives err within =
    let broken = head_broken (drop at bytes) head gives.0 left (omega (arith, length-drop at bytes)) some long front gives.1 gives.2 in
    subst (HeadBroken bytes at) (sym err) (refl, broken)

-- the cursor is before what follows the records that it has come past
came_rest : (bytes : List ℕ) (cursor : Place) (payloads : List (List ℕ)) (came : CameTo bytes cursor payloads) → drop cursor.at bytes ≡ came.rest
came_rest bytes cursor payloads came = ap (λ n. drop n bytes) came.at ∙ ap (drop (length (blocks payloads))) came.whole ∙ drop-append_seam (blocks payloads) came.rest

pub came_again : (bytes : List ℕ) (cursor : Place) (payloads : List (List ℕ)) (held : Held) → CameTo bytes cursor payloads → Shows bytes held → CameTo bytes (record { held = held; at = cursor.at; ended = cursor.ended }) payloads
came_again bytes cursor payloads held came shows = record { shows = shows; rest = came.rest; whole = came.whole; at = came.at; fits = came.fits; ended = came.ended }

pub came_end : (bytes : List ℕ) (cursor : Place) (payloads : List (List ℕ)) (held : Held) → CameTo bytes cursor payloads → Shows bytes held → IsClosed (drop cursor.at bytes) → LogIs bytes payloads × CameTo bytes (record { held = held; at = cursor.at; ended = true }) payloads
came_end bytes cursor payloads held came shows closed =
    let is : LogIs bytes payloads = record { rest = came.rest; whole = came.whole; closed = subst IsClosed (came_rest bytes cursor payloads came) closed; fits = came.fits } in
    (is, record { shows = shows; rest = came.rest; whole = came.whole; at = came.at; fits = came.fits; ended = λ yes. is })

pub came_damage : (bytes : List ℕ) (cursor : Place) (payloads : List (List ℕ)) (refusal : OpenRefused) → CameTo bytes cursor payloads → HeadBroken bytes cursor.at refusal → DamageBehind bytes payloads refusal
came_damage bytes cursor payloads (Damaged which place) came broken = record {
  rest = broken.1.0;
  whole = came.whole ∙ ap (λ (l : List ℕ). blocks payloads ++ l) (sym (came_rest bytes cursor payloads came) ∙ broken.1.1);
  fits = came.fits;
  place = omega (arith, broken.0, came.at);
  broken = broken.1.2;
}
came_damage bytes cursor payloads (ReadFault which) came broken = tt
came_damage bytes cursor payloads NotFormatted came broken = tt
came_damage bytes cursor payloads RunFull came broken = tt
came_damage bytes cursor payloads Memory came broken = tt

-- a record: its gate and its length, and as many bytes
a_record : (here payload : List ℕ) (len : ℕ) → take 5 here ≡ 1 ∷ to_be_bytes w32 len → payload ≡ take len (drop 5 here) → length payload ≡ len → here ≡ block payload ++ drop len (drop 5 here)
a_record here payload len head is long =
    sym (take-append-drop 5 here) ∙ ap (λ (l : List ℕ). l ++ drop 5 here) (head ∙ ap (λ n. 1 ∷ to_be_bytes w32 n) (sym long))
    ∙ ap (λ (l : List ℕ). 1 ∷ (to_be_bytes w32 (length payload) ++ l)) (sym (take-append-drop len (drop 5 here)) ∙ ap (λ (l : List ℕ). l ++ drop len (drop 5 here)) (sym is))
    ∙ sym (block_then payload (drop len (drop 5 here)))

pub came_on : (bytes : List ℕ) (cursor : Place) (payloads : List (List ℕ)) (held : Held) (payload : List ℕ) (len next : ℕ) → CameTo bytes cursor payloads → Shows bytes held → take 5 (drop cursor.at bytes) ≡ 1 ∷ to_be_bytes w32 len → len ≤ 2 ^ 24 → cursor.at + (5 + len) ≤ length bytes
    → payload ≡ between bytes (cursor.at + 5) (cursor.at + (5 + len)) → next ≡ cursor.at + 5 + len → CameTo bytes (record { held = held; at = next; ended = false }) (payloads ++ payload ∷ [])
came_on bytes cursor payloads held payload len next came shows head fits within is on = record {
  shows = shows;
  rest = drop len (drop 5 (drop cursor.at bytes));
  whole = came.whole ∙ ap (λ (l : List ℕ). blocks payloads ++ l) (sym (came_rest bytes cursor payloads came) ∙ a_record (drop cursor.at bytes) payload len head part long)
      ∙ sym (append_assoc (blocks payloads) (block payload) (drop len (drop 5 (drop cursor.at bytes)))) ∙ ap (λ (l : List ℕ). l ++ drop len (drop 5 (drop cursor.at bytes))) (sym (blocks-append payloads payload));
  at = on ∙ omega (arith, came.at, long, ap length (blocks-append payloads payload), length-append (blocks payloads) (block payload), length-block payload);
  fits = fits-append payloads payload came.fits (omega (arith, long));
  ended = λ yes_it_is. absurd (not_true yes_it_is);
}
  where
    not_true : IsTrue false → ⊥
    not_true e = cc

    part : payload ≡ take len (drop 5 (drop cursor.at bytes))
    part = is ∙ ap (λ n. take n (drop (cursor.at + 5) bytes)) (let e : cursor.at + (5 + len) - (cursor.at + 5) ≡ len = omega arith in e) ∙ ap (take len) (sym (drop-drop_by 5 cursor.at bytes))

    long : length payload ≡ len
    long = ap length part ∙ length-take-le len (drop 5 (drop cursor.at bytes)) (omega (arith, length-drop 5 (drop cursor.at bytes), length-drop cursor.at bytes))

-- pieces side by side
pub between_join : (bytes : List ℕ) (low mid high : ℕ) → low ≤ mid → mid ≤ high → between bytes low mid ++ between bytes mid high ≡ between bytes low high
between_join bytes low mid high a b =
    ap (λ (l : List ℕ). take (mid - low) (drop low bytes) ++ take (high - mid) l) (ap (λ n. drop n bytes) (let e : mid ≡ low + (mid - low) = omega arith in e) ∙ sym (drop-drop_by (mid - low) low bytes))
    ∙ sym (take-add (mid - low) (high - mid) (drop low bytes)) ∙ ap (λ n. take n (drop low bytes)) (let e : (mid - low) + (high - mid) ≡ high - low = omega arith in e)
