-- A record is appended by one write; what waits is made durable by a sync, and then its first gate, written and synced.
use Rattle.std.proofs.Common.{◌≡◌, ◌≢◌, inl, ℕ, ◌+◌, ◌-◌, ◌<◌, ◌≤◌, ◌^◌, min, List, [], ◌∷◌, ◌++◌, length, take, drop, Option, Result, Ok, Err, OnOk, refl, sym, ◌∙◌, ap, subst, arith, length-append, append_assoc}
use Rattle.std.proofs.lemmas.List.{append-nil, length-drop, drop-append-le, take_rest}
use Rattle.store_api.specs.declared.store.Failed.{Failed}
use Rattle.store_api.specs.Disk.{Standing, History, Leaves, standing, reads, now, ImageAt}
use Rattle.store_api.specs.Runs.{Stands, Firm, GoesOn, EachImage, Wrote, Synced, WroteSynced, WroteWithin}
use Rattle.store_api.specs.Told.{Told, Adds, MayWrite}
use Rattle.store_api.proofs.Ranges.{wrote_nothing, wrote_adds}
use Rattle.store_api.proofs.Pieces.{stands_left, stands_join}
use Rattle.store_api.proofs.Runs.{goes_none, goes_then, goes_standing, each_then, each_weaker, told_map, told_then}
use Rattle.log_file.specs.Blocks.{Fits, block, blocks, LogEnds, EndsEither}
use Rattle.log_file.specs.Sure.{IsSure, HasWaiting, IsWritten}
use Rattle.log_file.specs.Steps.{Appended, Forced, Copied, Sealed}
use Rattle.log_file.proofs.Frames.{length-frame}
use Rattle.log_file.proofs.RecordBytes.{length-block, block_then, blocks-join, blocks-append, fits-join, fits-append}
use Rattle.log_file.proofs.Logs.{sure_behind, since_behind, sure_left, sure_image, front_of, opened_since, opened_left, opened_sure}

-- whether anything waits shows in the bytes
none_waiting : (waiting : List (List ℕ)) → length (blocks waiting) ≡ 0 → waiting ≡ []
none_waiting [] e = refl
none_waiting (w ∷ waiting) e = absurd (omega (arith, e, length-append (block w) (blocks waiting), length-block w))

some_blocks : (waiting : List (List ℕ)) → 0 < length waiting → 5 ≤ length (blocks waiting)
some_blocks [] some = absurd (omega arith)
some_blocks (w ∷ waiting) some = omega (arith, length-append (block w) (blocks waiting), length-block w)

some_waiting : (waiting : List (List ℕ)) → length (blocks waiting) ≢ 0 → 0 < length waiting
some_waiting [] some = absurd (some refl)
some_waiting (w ∷ waiting) some = omega arith

-- what waits is an open gate and the rest of it
split_waiting : (waiting : List (List ℕ)) → 0 < length waiting → blocks waiting ++ 0 ∷ [] ≡ 1 ∷ drop 1 (blocks waiting ++ 0 ∷ [])
split_waiting [] some = absurd (omega arith)
split_waiting (w ∷ waiting) some =
    let whole = append_assoc (block w) (blocks waiting) (0 ∷ []) ∙ block_then w (blocks waiting ++ 0 ∷ []) in
    whole ∙ ap (λ (l : List ℕ). 1 ∷ l) (sym (ap (drop 1) whole))

-- nothing was done
pub not_appended : {E : Type 0} (file sure end : ℕ) (payload : List ℕ) (refusal : E) (h : History) → (let result : Result (Unit {0}) E = Err refusal in Appended file sure end payload result h h)
not_appended file sure end payload refusal h = record {
  goes = goes_none (λ other. other ≡ file) h;
  waits = tt;
  kept = λ payloads waiting has. has.durable;
  since = λ payloads waiting has moment image from to here. sure_image h file payloads sure image has.durable (subst (λ m. ImageAt h m image) (let e : moment ≡ now h = omega arith in e) here);
}

pub not_forced : {E : Type 0} (file sure end : ℕ) (refusal : E) (h : History) → (let result : Result (Unit {0}) E = Err refusal in Forced file sure end result h h)
not_forced file sure end refusal h = record {
  goes = goes_none (λ other. other ≡ file) h;
  durable = tt;
  since = λ payloads waiting has moment image from to here. inl (sure_image h file payloads sure image has.durable (subst (λ m. ImageAt h m image) (let e : moment ≡ now h = omega arith in e) here));
  left = λ payloads waiting has left leaves. inl (sure_left h file payloads sure left has.durable leaves);
}

-- nothing waits, and nothing is done
pub none_forced : {E : Type 0} (file sure end : ℕ) (h : History) → sure ≡ end → (let result : Result (Unit {0}) E = Ok tt in Forced file sure end result h h)
none_forced file sure end h same = record {
  goes = goes_none (λ other. other ≡ file) h;
  durable = λ payloads waiting has.
      subst (λ (n : ℕ). IsSure h file (payloads ++ waiting) n) same
      (subst (λ (l : List (List ℕ)). IsSure h file l sure) (sym (ap (λ (w : List (List ℕ)). payloads ++ w) (none_waiting waiting (omega (arith, same, has.is_end))) ∙ append-nil payloads)) has.durable);
  since = λ payloads waiting has moment image from to here. inl (sure_image h file payloads sure image has.durable (subst (λ m. ImageAt h m image) (let e : moment ≡ now h = omega arith in e) here));
  left = λ payloads waiting has left leaves. inl (sure_left h file payloads sure left has.durable leaves);
}

-- the same under another answer of the kind
pub appended_err : {E F : Type 0} (file sure end : ℕ) (payload : List ℕ) (failed : E) (refusal : F) (old new : History) → (let result : Result (Unit {0}) E = Err failed in Appended file sure end payload result old new) → (let other : Result (Unit {0}) F = Err refusal in Appended file sure end payload other old new)
appended_err file sure end payload failed refusal old new a = record { goes = a.goes; waits = tt; kept = a.kept; since = a.since }

pub appended_ok : {E F : Type 0} (file sure end : ℕ) (payload : List ℕ) (done again : Unit {0}) (old new : History) → (let result : Result (Unit {0}) E = Ok done in Appended file sure end payload result old new) → (let other : Result (Unit {0}) F = Ok again in Appended file sure end payload other old new)
appended_ok file sure end payload done again old new a = record { goes = a.goes; waits = a.waits; kept = a.kept; since = a.since }

pub forced_err : {E F : Type 0} (file sure end : ℕ) (failed : E) (refusal : F) (old new : History) → (let result : Result (Unit {0}) E = Err failed in Forced file sure end result old new) → (let other : Result (Unit {0}) F = Err refusal in Forced file sure end other old new)
forced_err file sure end failed refusal old new a = record { goes = a.goes; durable = tt; since = a.since; left = a.left }

pub forced_ok : {E F : Type 0} (file sure end : ℕ) (done again : Unit {0}) (old new : History) → (let result : Result (Unit {0}) E = Ok done in Forced file sure end result old new) → (let other : Result (Unit {0}) F = Ok again in Forced file sure end other old new)
forced_ok file sure end done again old new a = record { goes = a.goes; durable = a.durable; since = a.since; left = a.left }

module _ (file sure at : ℕ) (payload frame : List ℕ) (is : frame ≡ block payload ++ 0 ∷ []) (fits : Fits payload) where
  long : length frame ≡ 6 + length payload
  long = ap length is ∙ length-frame payload

  -- a write behind the first gate
  module _ (start len : ℕ) (old new : History) (within : WroteWithin file start len old new) where
    kept_behind : sure < start → (payloads waiting : List (List ℕ)) → HasWaiting old file payloads waiting sure at → IsSure new file payloads sure
    kept_behind lt payloads waiting has = sure_behind file start len sure old new payloads lt within has.durable

    since_first : sure < start → (payloads waiting : List (List ℕ)) → HasWaiting old file payloads waiting sure at → EachImage (now old) new (λ image. LogEnds (image file) payloads)
    since_first lt payloads waiting has = since_behind file start len sure old new payloads lt within has.durable

  -- a record more waits
  more_waits : (old new : History) (payloads waiting : List (List ℕ)) → HasWaiting old file payloads waiting sure at → IsSure new file payloads sure → at + length frame < 2 ^ 64 → Stands (reads new file) (sure + 1) (drop 1 (blocks waiting ++ frame))
      → HasWaiting new file payloads (waiting ++ payload ∷ []) sure (at + (5 + length payload))
  more_waits old new payloads waiting has durable small stands = record {
    durable = durable;
    written = λ some. subst (λ (l : List ℕ). Stands (reads new file) (sure + 1) (drop 1 l)) (ap (λ (l : List ℕ). blocks waiting ++ l) is ∙ sym (append_assoc (blocks waiting) (block payload) (0 ∷ [])) ∙ ap (λ (l : List ℕ). l ++ 0 ∷ []) (sym (blocks-append waiting payload))) stands;
    fits = fits-append waiting payload has.fits fits;
    is_end = omega (arith, has.is_end, ap length (blocks-append waiting payload), length-append (blocks waiting) (block payload), length-block payload);
    room = omega (arith, small, long);
  }

  -- the place behind the gate
  abbrev pub offset : ℕ
  offset = min (at + 1) (2 ^ 64 - 1)

  behind : (old : History) (payloads waiting : List (List ℕ)) → HasWaiting old file payloads waiting sure at → offset ≡ at + 1
  behind old payloads waiting has = omega (arith, has.room)

  -- the first record since the last force: all of it but its gate is written
  module _ (first : at ≡ sure) (old new : History) where
    waits_first : (result : Result (Unit {0}) Failed) → Wrote file offset (drop 1 frame) result old new → OnOk result (at + length frame < 2 ^ 64)
        → OnOk result ((payloads waiting : List (List ℕ)) → HasWaiting old file payloads waiting sure at → HasWaiting new file payloads (waiting ++ payload ∷ []) sure (at + (5 + length payload)))
    waits_first (Err failed) wrote small = tt
    waits_first (Ok done) wrote small = λ payloads waiting has.
        more_waits old new payloads waiting has
        (kept_behind offset (length (drop 1 frame)) old new wrote.within (omega (arith, first, behind old payloads waiting has)) payloads waiting has) small
        (subst (λ (w : List (List ℕ)). Stands (reads new file) (sure + 1) (drop 1 (blocks w ++ frame))) (sym (none_waiting waiting (omega (arith, first, has.is_end))))
        (subst (λ (n : ℕ). Stands (reads new file) n (drop 1 frame)) (behind old payloads waiting has ∙ ap (λ n. n + 1) first) (wrote.there (omega (arith, length-drop 1 frame, long)))))

    pub appended_first : (result : Result (Unit {0}) Failed) → Wrote file offset (drop 1 frame) result old new → OnOk result (at + length frame < 2 ^ 64) → Appended file sure at payload result old new
    appended_first result wrote small = record {
      goes = wrote.within.goes;
      waits = waits_first result wrote small;
      kept = λ payloads waiting has. kept_behind offset (length (drop 1 frame)) old new wrote.within (omega (arith, first, behind old payloads waiting has)) payloads waiting has;
      since = λ payloads waiting has. since_first offset (length (drop 1 frame)) old new wrote.within (omega (arith, first, behind old payloads waiting has)) payloads waiting has;
    }

  -- a later one: its gate too
  module _ (later : at ≢ sure) (old new : History) where
    some_there : (payloads waiting : List (List ℕ)) → HasWaiting old file payloads waiting sure at → 0 < length waiting
    some_there payloads waiting has = some_waiting waiting (λ e. later (omega (arith, e, has.is_end)))

    lies_behind : (payloads waiting : List (List ℕ)) → HasWaiting old file payloads waiting sure at → sure < at
    lies_behind payloads waiting has = omega (arith, has.is_end, some_blocks waiting (some_there payloads waiting has))

    waits_later : (result : Result (Unit {0}) Failed) → Wrote file at frame result old new → OnOk result (at + length frame < 2 ^ 64)
        → OnOk result ((payloads waiting : List (List ℕ)) → HasWaiting old file payloads waiting sure at → HasWaiting new file payloads (waiting ++ payload ∷ []) sure (at + (5 + length payload)))
    waits_later (Err failed) wrote small = tt
    waits_later (Ok done) wrote small = λ payloads waiting has.
        let some = some_there payloads waiting has in
        let much = some_blocks waiting some in
        let front : List ℕ = drop 1 (blocks waiting) in
        let front_long : length front ≡ length (blocks waiting) - 1 = length-drop 1 (blocks waiting) in
        let old_front : Stands (reads old file) (sure + 1) front =
        stands_left (reads old file) (sure + 1) front (0 ∷ []) (omega (arith, front_long, much))
        (subst (λ (l : List ℕ). Stands (reads old file) (sure + 1) l) (drop-append-le 1 (blocks waiting) (0 ∷ []) (omega (arith, much))) (has.written some)) in
        let new_front : Stands (reads new file) (sure + 1) front = wrote.within.stands (sure + 1) front (inl (omega (arith, front_long, much, has.is_end))) old_front in
        let there : Stands (reads new file) (sure + 1 + length front) frame = subst (λ (n : ℕ). Stands (reads new file) n frame) (let e : at ≡ sure + 1 + length front = omega (arith, front_long, much, has.is_end) in e) (wrote.there (omega (arith, long))) in
        more_waits old new payloads waiting has
        (kept_behind at (length frame) old new wrote.within (lies_behind payloads waiting has) payloads waiting has) small
        (subst (λ (l : List ℕ). Stands (reads new file) (sure + 1) l) (sym (drop-append-le 1 (blocks waiting) frame (omega (arith, much)))) (stands_join (reads new file) (sure + 1) front frame new_front there))

    pub appended_later : (result : Result (Unit {0}) Failed) → Wrote file at frame result old new → OnOk result (at + length frame < 2 ^ 64) → Appended file sure at payload result old new
    appended_later result wrote small = record {
      goes = wrote.within.goes;
      waits = waits_later result wrote small;
      kept = λ payloads waiting has. kept_behind at (length frame) old new wrote.within (lies_behind payloads waiting has) payloads waiting has;
      since = λ payloads waiting has. since_first at (length frame) old new wrote.within (lies_behind payloads waiting has) payloads waiting has;
    }

-- a sync changes nothing of what is durable
module _ (file sure : ℕ) (old mid : History) (synced : WroteWithin file 0 0 old mid) (payloads : List (List ℕ)) (durable : IsSure old file payloads sure) where
  sure_synced : IsSure mid file payloads sure
  sure_synced = sure_behind file (sure + 1) 0 sure old mid payloads (omega arith) (wrote_nothing file (sure + 1) 0 old mid synced) durable

  since_synced : EachImage (now old) mid (λ image. LogEnds (image file) payloads)
  since_synced = since_behind file (sure + 1) 0 sure old mid payloads (omega arith) (wrote_nothing file (sure + 1) 0 old mid synced) durable

-- the first sync failed: the gate is closed
pub not_synced : {F : Type 0} (file sure end : ℕ) (refusal : F) (old new : History) → WroteWithin file 0 0 old new → (let result : Result (Unit {0}) F = Err refusal in Forced file sure end result old new)
not_synced file sure end refusal old new within = record {
  goes = within.goes;
  durable = tt;
  since = λ payloads waiting has. each_weaker (now old) new _ _ (λ image ends. inl ends) (since_synced file sure old new within payloads has.durable);
  left = λ payloads waiting has left leaves. inl (sure_left new file payloads sure left (sure_synced file sure old new within payloads has.durable) leaves);
}

-- all is on the disk, and the first gate was written, or that failed
module _ (file sure end : ℕ) (some : sure ≢ end) (done : Unit {0}) (old mid new : History) (first : (let ok : Result (Unit {0}) Failed = Ok done in Synced file ok old mid)) (within : WroteWithin file sure 1 mid new) (payloads waiting : List (List ℕ)) (has : HasWaiting old file payloads waiting sure end) where
  abbrev tail : List ℕ
  tail = drop 1 (blocks waiting ++ 0 ∷ [])

  there : 0 < length waiting
  there = some_waiting waiting (λ e. some (omega (arith, e, has.is_end)))

  sure_mid : IsSure mid file payloads sure
  sure_mid = sure_synced file sure old mid first.within payloads has.durable

  tail_firm : Firm (standing mid file) (sure + 1) tail
  tail_firm = first.firm (sure + 1) tail (has.written there)

  since_both : EachImage (now old) new (λ image. EndsEither (image file) payloads waiting)
  since_both =
      each_then (λ other. other ≡ file) old mid new (λ image. EndsEither (image file) payloads waiting) within.goes
      (each_weaker (now old) mid _ _ (λ image ends. inl ends) (since_synced file sure old mid first.within payloads has.durable))
      (opened_since file sure waiting tail (split_waiting waiting there) has.fits mid new payloads sure_mid.is_end sure_mid.fits (front_of (standing mid file) (blocks payloads) sure_mid.gate sure_mid.firm) tail_firm within)

  left_both : (left : List ℕ) → Leaves (standing new file) left → EndsEither left payloads waiting
  left_both left leaves =
      opened_left file sure waiting tail (split_waiting waiting there) has.fits mid new payloads sure_mid.is_end sure_mid.fits (front_of (standing mid file) (blocks payloads) sure_mid.gate sure_mid.firm) tail_firm within left leaves

  sure_both : Firm (standing new file) sure (1 ∷ []) → IsSure new file (payloads ++ waiting) end
  sure_both gate =
      opened_sure file sure waiting tail (split_waiting waiting there) has.fits mid new payloads sure_mid.is_end sure_mid.fits (front_of (standing mid file) (blocks payloads) sure_mid.gate sure_mid.firm) tail_firm within end gate has.is_end has.room

pub forced : (file sure end : ℕ) → sure ≢ end → (done : Unit {0}) (result : Result (Unit {0}) Failed) (old mid new : History) → (let ok : Result (Unit {0}) Failed = Ok done in Synced file ok old mid) → WroteSynced file sure (1 ∷ []) result mid new → Forced file sure end result old new
forced file sure end some done (Ok again) old mid new first second = record {
  goes = goes_then (λ other. other ≡ file) old mid new first.within.goes second.within.goes;
  durable = λ payloads waiting has. sure_both file sure end some done old mid new first second.within payloads waiting has (second.firm (omega arith));
  since = λ payloads waiting has. since_both file sure end some done old mid new first second.within payloads waiting has;
  left = λ payloads waiting has. left_both file sure end some done old mid new first second.within payloads waiting has;
}
forced file sure end some done (Err failed) old mid new first second = record {
  goes = goes_then (λ other. other ≡ file) old mid new first.within.goes second.within.goes;
  durable = tt;
  since = λ payloads waiting has. since_both file sure end some done old mid new first second.within payloads waiting has;
  left = λ payloads waiting has. left_both file sure end some done old mid new first second.within payloads waiting has;
}

-- what a sure log reads as
pub sure_written : (h : History) (file : ℕ) (payloads : List (List ℕ)) (end : ℕ) → IsSure h file payloads end → IsWritten h file payloads end
sure_written h file payloads end sure = record { gate = sure.gate; closed = sure.closed; stands = sure.firm.stands; fits = sure.fits; is_end = sure.is_end; room = sure.room }

-- a run on other files leaves what was written as it is
pub written_beside : (theirs : ℕ → Type 0) (old new : History) (file : ℕ) (payloads : List (List ℕ)) (end : ℕ) → ¬ theirs file → GoesOn theirs old new → IsWritten old file payloads end → IsWritten new file payloads end
written_beside theirs old new file payloads end apart goes is = record {
  gate = is.gate;
  closed = is.closed;
  stands = subst (λ (s : Standing). Stands s.bytes 0 (blocks payloads ++ is.gate ∷ [])) (sym (goes_standing theirs old new file apart goes)) is.stands;
  fits = is.fits;
  is_end = is.is_end;
  room = is.room;
}

-- and what waits
pub waiting_beside : (theirs : ℕ → Type 0) (old new : History) (file : ℕ) (payloads waiting : List (List ℕ)) (sure end : ℕ) → ¬ theirs file → GoesOn theirs old new → IsSure new file payloads sure → HasWaiting old file payloads waiting sure end → HasWaiting new file payloads waiting sure end
waiting_beside theirs old new file payloads waiting sure end apart goes durable has = record {
  durable = durable;
  written = λ some. subst (λ (s : Standing). Stands s.bytes (sure + 1) (drop 1 (blocks waiting ++ 0 ∷ []))) (sym (goes_standing theirs old new file apart goes)) (has.written some);
  fits = has.fits;
  is_end = has.is_end;
  room = has.room;
}

-- nothing waits in a sure log
pub sure_waits : (h : History) (file : ℕ) (payloads : List (List ℕ)) (end : ℕ) → IsSure h file payloads end → HasWaiting h file payloads [] end end
sure_waits h file payloads end sure = record { durable = sure; written = λ none. absurd (omega (arith, none)); fits = tt; is_end = omega arith; room = sure.room }

-- pieces side by side, of which the first may be empty
join_front : (bytes piece more : List ℕ) → (0 < length piece → Stands bytes 0 piece) → Stands bytes (length piece) more → Stands bytes 0 (piece ++ more)
join_front bytes [] more front behind = behind
join_front bytes (b ∷ piece) more front behind = stands_join bytes 0 (b ∷ piece) more (front (omega arith)) (subst (λ (n : ℕ). Stands bytes n more) (let e : length (b ∷ piece) ≡ 0 + length (b ∷ piece) = omega arith in e) behind)

-- records were copied
pub copied : (file end : ℕ) (batch : List ℕ) (result : Result (Unit {0}) Failed) (old new : History) → Wrote file end (batch ++ 0 ∷ []) result old new → OnOk result (end + length (batch ++ 0 ∷ []) < 2 ^ 64) → Copied file end batch result old new
copied file end batch (Err failed) old new wrote small = record { goes = wrote.within.goes; written = tt }
copied file end batch (Ok done) old new wrote small = record {
  goes = wrote.within.goes;
  written = λ payloads more is are fits.
      let joined : blocks (payloads ++ more) ≡ blocks payloads ++ batch = blocks-join payloads more ∙ ap (λ (l : List ℕ). blocks payloads ++ l) (sym are) in
      record {
        gate = 0;
        closed = λ e. absurd (omega arith);
        stands =
            subst (λ (l : List ℕ). Stands (reads new file) 0 l) (sym (append_assoc (blocks payloads) batch (0 ∷ [])) ∙ ap (λ (l : List ℕ). l ++ 0 ∷ []) (sym joined))
            (join_front (reads new file) (blocks payloads) (batch ++ 0 ∷ [])
            (λ some. wrote.within.stands 0 (blocks payloads) (inl (omega (arith, is.is_end))) (stands_left (reads old file) 0 (blocks payloads) (is.gate ∷ []) some is.stands))
            (subst (λ (n : ℕ). Stands (reads new file) n (batch ++ 0 ∷ [])) is.is_end (wrote.there (omega (arith, length-append batch (0 ∷ []))))));
        fits = fits-join payloads more is.fits fits;
        is_end = omega (arith, is.is_end, ap length joined, length-append (blocks payloads) batch);
        room = omega (arith, small, length-append batch (0 ∷ []));
      };
}

pub copied_err : {E F : Type 0} (file end : ℕ) (batch : List ℕ) (failed : E) (refusal : F) (old new : History) → (let result : Result (Unit {0}) E = Err failed in Copied file end batch result old new) → (let other : Result (Unit {0}) F = Err refusal in Copied file end batch other old new)
copied_err file end batch failed refusal old new a = record { goes = a.goes; written = tt }

pub copied_ok : {E F : Type 0} (file end : ℕ) (batch : List ℕ) (done again : Unit {0}) (old new : History) → (let result : Result (Unit {0}) E = Ok done in Copied file end batch result old new) → (let other : Result (Unit {0}) F = Ok again in Copied file end batch other old new)
copied_ok file end batch done again old new a = record { goes = a.goes; written = a.written }

-- what was copied was made durable
pub sealed : {F : Type 0} (file end : ℕ) (done again : Unit {0}) (old new : History) → (let first : Result (Unit {0}) Failed = Ok done in Synced file first old new) → (let result : Result (Unit {0}) F = Ok again in Sealed file end result old new)
sealed file end done again old new synced = record {
  goes = synced.within.goes;
  sure = λ payloads is. record { gate = is.gate; closed = is.closed; firm = synced.firm 0 (blocks payloads ++ is.gate ∷ []) is.stands; fits = is.fits; is_end = is.is_end; room = is.room };
}

pub not_sealed : {F : Type 0} (file end : ℕ) (failed : Failed) (refusal : F) (old new : History) → (let first : Result (Unit {0}) Failed = Err failed in Synced file first old new) → (let result : Result (Unit {0}) F = Err refusal in Sealed file end result old new)
not_sealed file end failed refusal old new synced = record { goes = synced.within.goes; sure = tt }

-- not tried
pub not_copied : {E : Type 0} (file end : ℕ) (batch : List ℕ) (refusal : E) (h : History) → (let result : Result (Unit {0}) E = Err refusal in Copied file end batch result h h)
not_copied file end batch refusal h = record { goes = goes_none (λ other. other ≡ file) h; written = tt }

pub none_sealed : {E : Type 0} (file end : ℕ) (refusal : E) (h : History) → (let result : Result (Unit {0}) E = Err refusal in Sealed file end result h h)
none_sealed file end refusal h = record { goes = goes_none (λ other. other ≡ file) h; sure = tt }

on_ok : {T : Type 0} (r : Result T Failed) {P Q : Type 0} → (P → Q) → OnOk r P → OnOk r Q
on_ok (Ok d) f p = f p
on_ok (Err e) f p = tt

-- what is told of the write of a record that is the first since the last force
pub put_first : (x y : Option History) (file sure at place : ℕ) (piece payload frame : List ℕ) (result : Result (Unit {0}) Failed) → Told x y (Adds (MayWrite file place piece result)) → place ≡ min (at + 1) (2 ^ 64 - 1) → piece ≡ take (length frame - 1) (drop 1 frame) → frame ≡ block payload ++ 0 ∷ [] → Fits payload → at ≡ sure → OnOk result (place + length piece < 2 ^ 64)
    → Told x y (Appended file sure at payload result)
put_first x y file sure at place piece payload frame result told here is_piece is fits first small =
    let cut : piece ≡ drop 1 frame = is_piece ∙ take_rest frame 1 in
    let room : OnOk result (at + length frame < 2 ^ 64) = on_ok result (λ lt. omega (arith, lt, here, ap length cut, length-drop 1 frame, long file sure at payload frame is fits)) small in
    told_map x y (Adds (MayWrite file (min (at + 1) (2 ^ 64 - 1)) (drop 1 frame) result)) (Appended file sure at payload result) (λ old new adds. appended_first file sure at payload frame is fits first old new result (wrote_adds file (min (at + 1) (2 ^ 64 - 1)) (drop 1 frame) result old new adds) room)
    (subst (λ n. Told x y (Adds (MayWrite file n (drop 1 frame) result))) here (subst (λ (l : List ℕ). Told x y (Adds (MayWrite file place l result))) cut told))

-- and of one behind others
pub put_later : (x y : Option History) (file sure at : ℕ) (payload frame : List ℕ) (result : Result (Unit {0}) Failed) → Told x y (Adds (MayWrite file at frame result)) → frame ≡ block payload ++ 0 ∷ [] → Fits payload → at ≢ sure → OnOk result (at + length frame < 2 ^ 64)
    → Told x y (Appended file sure at payload result)
put_later x y file sure at payload frame result told is fits later small =
    told_map x y (Adds (MayWrite file at frame result)) (Appended file sure at payload result) (λ old new adds. appended_later file sure at payload frame is fits later old new result (wrote_adds file at frame result old new adds) small) told

-- of the write of records that are copied
pub put_batch : (x y : Option History) (file at : ℕ) (batch bytes : List ℕ) (result : Result (Unit {0}) Failed) → Told x y (Adds (MayWrite file at bytes result)) → bytes ≡ batch ++ 0 ∷ [] → OnOk result (at + length bytes < 2 ^ 64) → Told x y (Copied file at batch result)
put_batch x y file at batch bytes result told is small =
    told_map x y (Adds (MayWrite file at (batch ++ 0 ∷ []) result)) (Copied file at batch result) (λ old new adds. copied file at batch result old new (wrote_adds file at (batch ++ 0 ∷ []) result old new adds) (on_ok result (λ lt. omega (arith, lt, ap length is)) small))
    (subst (λ (l : List ℕ). Told x y (Adds (MayWrite file at l result))) is told)

-- of the sync and the gate
pub gate_opened : (x y z : Option History) (file sure : ℕ) (done : Unit {0}) (result : Result (Unit {0}) Failed) → (let first : Result (Unit {0}) Failed = Ok done in Told x y (Synced file first)) → Told y z (WroteSynced file sure (1 ∷ []) result)
    → Told x z (λ old new. (end : ℕ) → sure ≢ end → Forced file sure end result old new)
gate_opened x y z file sure done result first second =
    let body : Result (Unit {0}) Failed = Ok done in
    told_then x y z (Synced file body) (WroteSynced file sure (1 ∷ []) result) _ (λ old mid new synced opened end some. forced file sure end some done result old mid new synced opened) first second

pub gate_shut : (x y : Option History) (file sure : ℕ) (failed : Failed) → (let first : Result (Unit {0}) Failed = Err failed in Told x y (Synced file first))
    → Told x y (λ old new. (end : ℕ) → sure ≢ end → (let result : Result (Unit {0}) Failed = Err failed in Forced file sure end result old new))
gate_shut x y file sure failed first =
    let body : Result (Unit {0}) Failed = Err failed in
    told_map x y (Synced file body) (λ old new. (end : ℕ) → sure ≢ end → Forced file sure end body old new) (λ old new synced end some. not_synced file sure end failed old new synced.within) first
