-- A piece that is copied from one of several copies: how it came of the first of them, and of one more.
use Rattle.std.proofs.Common.{◌≡◌, ℕ, ◌+◌, ◌*◌, ◌<◌, ◌≤◌, ◌^◌, Bool, true, false, List, ◌∷◌, [], ◌++◌, length, take, drop, Result, Option, Some, None, refl, sym, ap, subst, ◌∙◌, arith}
use Rattle.std.specs.List.{AllByRecursion}
use Rattle.kinds.specs.declared.segment.Segment.{Segment}
use Rattle.store_api.specs.Cause.{NoneFell}
use Rattle.store_api.specs.Disk.{History}
use Rattle.store_api.specs.Runs.{GoesOn}
use Rattle.store_api.specs.Told.{Told}
use Rattle.store_api.proofs.Runs.{goes_then, told_map, told_then}
use Rattle.inventory_rows.specs.State.{Inv}
use Rattle.inventory_rows.specs.version_groups.declared.copies.CopyRow.{CopyRow}
use Rattle.contents.specs.Reading.{segments_in}
use Rattle.contents.proofs.Segments.{all_weaker}
use Rattle.machine.specs.Pieces.{IsCopyLost, RoseAt}
use Rattle.hall.specs.declared.copying.Copied.{Copied}
use Rattle.hall.specs.declared.copying.Copied.TheVariants.{Unread, Lost, Written, Failed}
use Rattle.hall.specs.Copying.{Copies, EndsCopied, EndsOne, ReadAndWrote, or_clear, writing}
use Rattle.std.proofs.lemmas.Option.{same_Some}
use Rattle.kinds.specs.declared.refusal.Refusal.{Refusal}
use Rattle.inventory_rows.specs.Items.{most_items}
use Rattle.inventory_rows.specs.Search.{version, versions}
use Rattle.inventory_rows.specs.pool_tables.Rows.{row_at}
use Rattle.inventory_rows.specs.version_groups.declared.versions.Version.{Version}
use Rattle.inventory_rows.proofs.of_version_groups.Lists.{version_of-object}
use Rattle.inventory_rules.specs.Valid.{is_valid}
use Rattle.inventory_rules.specs.Versions.{copies_of}
use Rattle.machine.specs.Causes.{most_bytes}
use Rattle.machine.specs.Pieces.{piece_length}
use Rattle.machine.specs.State.{object_of}
use Rattle.hall.specs.declared.seat.Seat.{Seat}
use Rattle.hall.specs.Copying.{BecomesCopied, CopiesFor, IsCopyOf}
use Rattle.hall.specs.Frames.{segments_of}
use Rattle.hall.specs.Held.{Held, purpose_of}
use Rattle.hall.specs.Reading.{AreLost, EndsBy, HasPiece, ReadsAny, calls_for, tally}
use Rattle.hall.specs.Taken.{IsSomeThat}
use Rattle.hall.proofs.Having.{all_have, calls_bounded}
use Rattle.hall.proofs.PieceReads.{in_size, take_front}
use Rattle.hall.proofs.Passing.{calls_push, each_push, found_earlier, found_last, last_has, looked_only}
use Rattle.hall.proofs.Tallying.{lost_still}

-- ---- one copy

-- it was read, or not
pub read_goes : (copies : List CopyRow) (offset : ℕ) (buffer : List ℕ) (found : Bool) (old new : Option History) → Told old new (ReadsAny copies offset buffer found) → Told old new (GoesOn (λ file. ⊥))
read_goes copies offset buffer found old new read = told_map old new (ReadsAny copies offset buffer found) (GoesOn (λ file. ⊥)) (λ h n r. r.goes) read

-- ---- the calls

module _ {S : Type 0} (told : S → Option History) (moment : S → ℕ) (faults : S → ℕ → ℕ) (all earlier : List CopyRow) (copy : CopyRow) (is : all ≡ earlier ++ copy ∷ []) (object offset : ℕ)
    (segments : List Segment) (buffer : List ℕ) where
  more_copies : (copied : Copied) (old new : S) → ReadAndWrote told moment faults earlier object offset segments buffer copied old new
      → ReadAndWrote told moment faults all object offset segments buffer copied old new
  more_copies copied old new r = record {
    mid = r.mid;
    read = found_earlier all earlier copy offset buffer true (told old) (told r.mid) is r.read;
    wrote = r.wrote;
    before = r.before;
    since = r.since;
    grew = r.grew;
    rose = r.rose;
  }

  -- one of the earlier ones was read
  pub copies_more : (copied : Copied) (old new : S) → Copies told moment faults earlier object offset segments buffer copied old new → Copies told moment faults all object offset segments buffer copied old new
  copies_more Unread old new c = c
  copies_more Lost old new c = more_copies Lost old new c
  copies_more Written old new c = more_copies Written old new c
  copies_more (Failed file) old new c = more_copies (Failed file) old new c

  then_wrote : (copied : Copied) (old half new : S) → Told (told old) (told half) (GoesOn (λ file. ⊥)) → moment old ≤ moment half → NoneFell (faults old) (faults half)
      → ReadAndWrote told moment faults (copy ∷ []) object offset segments buffer copied half new → ReadAndWrote told moment faults all object offset segments buffer copied old new
  then_wrote copied old half new looked later grew r = record {
    mid = r.mid;
    read = found_last all earlier copy offset buffer buffer false true (told old) (told half) (told r.mid) is (looked_only earlier offset buffer (told old) (told half) looked) r.read;
    wrote = r.wrote;
    before = (let b = r.before in omega (arith, later, b));
    since = r.since;
    grew = λ file. let a = grew file in let b = r.grew file in omega (arith, a, b);
    rose = r.rose;
  }

  goes_both : (x y z : Option History) → Told x y (GoesOn (λ file. ⊥)) → Told y z (GoesOn (λ file. ⊥)) → Told x z (GoesOn (λ file. ⊥))
  goes_both x y z a b = told_then x y z (GoesOn (λ file. ⊥)) (GoesOn (λ file. ⊥)) (GoesOn (λ file. ⊥)) (λ h m n one two. goes_then (λ file. ⊥) h m n one two) a b

  -- none of them was, and the last one was tried
  pub copies_last : (copied : Copied) (old half new : S) → Told (told old) (told half) (GoesOn (λ file. ⊥)) → moment old ≤ moment half → NoneFell (faults old) (faults half)
      → Copies told moment faults (copy ∷ []) object offset segments buffer copied half new → Copies told moment faults all object offset segments buffer copied old new
  copies_last Unread old half new looked later grew c = goes_both (told old) (told half) (told new) looked c
  copies_last Lost old half new looked later grew c = then_wrote Lost old half new looked later grew c
  copies_last Written old half new looked later grew c = then_wrote Written old half new looked later grew c
  copies_last (Failed file) old half new looked later grew c = then_wrote (Failed file) old half new looked later grew c

  as_written : (old new : S) → ReadAndWrote told moment faults all object offset segments buffer Lost old new → ReadAndWrote told moment faults all object offset segments buffer Written old new
  as_written old new r = record { mid = r.mid; read = r.read; wrote = r.wrote; before = r.before; since = r.since; grew = r.grew; rose = r.rose }

  -- what was written stays so, whether it is clear or not
  pub copies_clear : (copied : Copied) (clear : Bool) (result : Copied) (old new : S) → result ≡ or_clear copied clear → Copies told moment faults all object offset segments buffer copied old new
      → Copies told moment faults all object offset segments buffer result old new
  copies_clear copied clear result old new same c = subst (λ r. Copies told moment faults all object offset segments buffer r old new) (sym same) (by copied clear c)
    where
      by : (k : Copied) (b : Bool) → Copies told moment faults all object offset segments buffer k old new → Copies told moment faults all object offset segments buffer (or_clear k b) old new
      by Unread b r = r
      by Lost true r = as_written old new r
      by Lost false r = r
      by Written b r = r
      by (Failed file) b r = r

-- ---- how it ended

module _ (v : Inv) (offset count : ℕ) (all earlier : List CopyRow) (copy : CopyRow) (is : all ≡ earlier ++ copy ∷ []) (segments : List Segment) where
  abbrev IsGone : (before after : ℕ → ℕ) → CopyRow → Type 0
  IsGone before after = IsCopyLost (RoseAt before after) v offset count

  still_gone : (before mid after : ℕ → ℕ) → NoneFell mid after → (c : CopyRow) → IsGone before mid c → IsGone before after c
  still_gone before mid after grew c lost =
      lost_still (RoseAt before mid) (RoseAt before after) v (segments_in 0 offset count c.segments) (λ file risen. let le : mid file ≤ after file = grew file in omega (arith, risen, le)) lost

  all_gone : (before mid after : ℕ → ℕ) → NoneFell mid after → AllByRecursion (IsGone before mid) earlier → IsGone before after copy → AllByRecursion (IsGone before after) all
  all_gone before mid after grew first last =
      subst (AllByRecursion (IsGone before after)) (sym is) (each_push (IsGone before after) earlier copy (all_weaker (IsGone before mid) (IsGone before after) (still_gone before mid after grew) earlier first) last)

  -- none of the earlier ones was read, and the last one was tried
  copied_last : (before mid after : ℕ → ℕ) (copied : Copied) (clear : Bool) → NoneFell before mid → NoneFell mid after → AllByRecursion (IsGone before mid) earlier
      → EndsOne (IsGone before after copy) segments mid after copied → EndsBy (IsGone before after copy) clear → EndsCopied (AllByRecursion (IsGone before after) all) segments before after (or_clear copied clear)
  copied_last before mid after Unread clear rose grew first tried last = all_gone before mid after grew first tried
  copied_last before mid after Lost true rose grew first tried last = λ lost. last (last_has (IsGone before after) all earlier copy is lost)
  copied_last before mid after Lost false rose grew first tried last = all_gone before mid after grew first last
  copied_last before mid after Written clear rose grew first tried last = absurd tried
  copied_last before mid after (Failed file) clear rose grew first tried last = (tried.0, (let a : before file ≤ mid file = rose file in let b = tried.1 in omega (arith, a, b)))

  -- the same, as the calls say it
  pub copied_after : (many : ℕ) → many ≡ count → (those : List Segment) → those ≡ copy.segments → (before mid after : ℕ → ℕ) (tallied : Option ℕ) → tallied ≡ tally before v (segments_in 0 offset count those)
      → (copied : Copied) (clear : Bool) (result : Copied) → result ≡ or_clear copied clear → NoneFell before mid → NoneFell mid after → AllByRecursion (IsGone before mid) earlier
      → ((b : ℕ → ℕ) → NoneFell b mid → tallied ≡ tally b v (segments_in 0 offset many copy.segments) → EndsOne (IsCopyLost (RoseAt b after) v offset many copy) segments mid after copied)
      → ((b : ℕ → ℕ) → NoneFell b after → tallied ≡ tally b v (segments_in 0 offset many copy.segments) → EndsBy (IsCopyLost (RoseAt b after) v offset many copy) clear)
      → EndsCopied (AllByRecursion (IsGone before after) all) segments before after result
  copied_after many same those are before mid after tallied was copied clear result said rose grew first tried last =
      let tally_is : tallied ≡ tally before v (segments_in 0 offset count copy.segments) = was ∙ ap (λ l. tally before v (segments_in 0 offset count l)) are in
      let many_is : tallied ≡ tally before v (segments_in 0 offset many copy.segments) = subst (λ n. tallied ≡ tally before v (segments_in 0 offset n copy.segments)) (sym same) tally_is in
      let whole : NoneFell before after = λ file. let a = rose file in let b = grew file in omega (arith, a, b) in
      subst (λ r. EndsCopied (AllByRecursion (IsGone before after) all) segments before after r) (sym said)
      (copied_last before mid after copied clear rose grew first
      (subst (λ n. EndsOne (IsCopyLost (RoseAt before after) v offset n copy) segments mid after copied) same (tried before rose many_is))
      (subst (λ n. EndsBy (IsCopyLost (RoseAt before after) v offset n copy) clear) same (last before whole many_is)))

-- ---- time

writing_same : (copied : Copied) (clear : Bool) (count : ℕ) → writing (or_clear copied clear) count ≡ writing copied count
writing_same Unread clear count = refl
writing_same Lost true count = refl
writing_same Lost false count = refl
writing_same Written clear count = refl
writing_same (Failed file) clear count = refl

-- one copy more is tried where none of the earlier ones was read
pub time_for : (offset count many moment mid : ℕ) (all earlier : List CopyRow) (copy : CopyRow) → all ≡ earlier ++ copy ∷ [] → many ≡ count → mid ≤ moment + calls_for offset count earlier + 0
    → moment + calls_for offset count all + 2 * count < 2 ^ 62 → mid + calls_for offset many (copy ∷ []) + 2 * many < 2 ^ 62
time_for offset count many moment mid all earlier copy is same brief time =
    let parted = calls_push offset count all earlier copy is in
    let e = ap (λ n. calls_for offset n (copy ∷ [])) same in
    omega (arith, parted, e, same, brief, time)

pub brief_for : (offset count many moment mid after : ℕ) (all earlier : List CopyRow) (copy : CopyRow) (copied : Copied) (clear : Bool) (result : Copied) → all ≡ earlier ++ copy ∷ [] → many ≡ count
    → result ≡ or_clear copied clear → mid ≤ moment + calls_for offset count earlier + 0 → after ≤ mid + calls_for offset many (copy ∷ []) + writing copied many
    → after ≤ moment + calls_for offset count all + writing result count
brief_for offset count many moment mid after all earlier copy copied clear result is same said brief last =
    let parted = calls_push offset count all earlier copy is in
    let e = ap (λ n. calls_for offset n (copy ∷ [])) same in
    let w = ap (λ n. writing copied n) same in
    let u = ap (λ k. writing k count) said ∙ writing_same copied clear count in
    omega (arith, parted, e, w, u, brief, last)

-- one of the earlier ones was read
pub brief_more : (offset count moment after : ℕ) (all earlier : List CopyRow) (copy : CopyRow) (copied : Copied) (clear : Bool) (result : Copied) → all ≡ earlier ++ copy ∷ []
    → result ≡ or_clear copied clear → after ≤ moment + calls_for offset count earlier + writing copied count → after ≤ moment + calls_for offset count all + writing result count
brief_more offset count moment after all earlier copy copied clear result is said brief =
    let parted = calls_push offset count all earlier copy is in
    let u = ap (λ k. writing k count) said ∙ writing_same copied clear count in
    omega (arith, parted, u, brief)

-- ---- a ticket

same_in : {A : Type 0} (x y : A) → Some x ≡ Some y → x ≡ y
same_in x y h = same_Some x y h

pub seat_that : {A : Type 0} (P : A → Type 0) (o : Option A) (x : A) → IsSomeThat o P → Some x ≡ o → P x
seat_that P None x h is = absurd h
seat_that P (Some y) x h is = subst P (sym (same_in x y is)) h

module _ (v w : Inv) (s : Seat) (x : Version) (object count : ℕ) (buffer : List ℕ) (copies : List CopyRow) (it : IsCopyOf v s) (same : w ≡ v) (valid : is_valid w ≡ true)
    (named : object ≡ object_of (purpose_of s.purpose)) (there : Some x ≡ version object w) (many : count ≡ piece_length most_bytes s.size s.count) (room : length buffer ≡ most_bytes)
    (are : copies ≡ x.copies) where
  in_it : version (object_of (purpose_of s.purpose)) v ≡ Some x
  in_it = sym (there ∙ ap (λ k. version k w) named ∙ ap (version (object_of (purpose_of s.purpose))) same)

  sized : s.size ≡ x.size
  sized = it.size ∙ ap (λ (y : Version). y.size) (same_in it.kept x (sym it.found ∙ in_it))

  own : version x.object w ≡ Some x
  own = ap (λ k. version k w) (version_of-object object (versions w) x (sym there)) ∙ sym there

  pub taken_long : length (take count buffer) ≡ count
  taken_long = (in_size most_bytes s.size s.count count buffer room many it.space.within).0

  pub copy_room : s.count + length (take count buffer) ≤ s.size
  copy_room = (in_size most_bytes s.size s.count count buffer room many it.space.within).1

  pub copy_pieces : AllByRecursion (HasPiece w s.count (length (take count buffer))) copies
  copy_pieces =
      let small = it.space.small in
      subst (AllByRecursion (HasPiece w s.count (length (take count buffer)))) (sym are)
      (all_have w x s.count (length (take count buffer)) valid own (omega (arith, copy_room, sized)) (omega (arith, small, sized)))

  few : (calls_for s.count (length (take count buffer)) copies ≤ most_items) × (length (take count buffer) ≤ most_bytes)
  few = (
    subst (λ l. calls_for s.count (length (take count buffer)) l ≤ most_items) (sym are) (calls_bounded w x s.count (length (take count buffer)) valid own),
    (let e = taken_long in omega (arith, e, many)),
  )

  pub copy_time : (moment : ℕ) → moment + 2 ^ 24 ≤ 2 ^ 62 → moment + calls_for s.count (length (take count buffer)) copies + 2 * length (take count buffer) < 2 ^ 62
  copy_time moment time = let a = few.0 in let b = few.1 in omega (arith, a, b, time)

  writing_most : (copied : Copied) (n : ℕ) → writing copied n ≤ 2 * n
  writing_most Unread n = omega arith
  writing_most Lost n = omega arith
  writing_most Written n = omega arith
  writing_most (Failed file) n = omega arith

  pub copy_brief : (moment after : ℕ) (copied : Copied) → after ≤ moment + calls_for s.count (length (take count buffer)) copies + writing copied (length (take count buffer)) → after ≤ moment + 2 ^ 24
  copy_brief moment after copied brief =
      let a = few.0 in
      let b = few.1 in
      let c = writing_most copied (length (take count buffer)) in
      omega (arith, a, b, c, brief)

  -- what became of the ticket
  pub copy_did : {S : Type 0} (told : S → Option History) (moment : S → ℕ) (faults : S → ℕ → ℕ) (number : ℕ) (held next : Held) (old new : S) (copied : Copied) (result : Result ℕ Refusal) (front : List ℕ)
      → held.vault.database ≡ v → Some s ≡ row_at number held.seats → length front ≡ length (take count buffer)
      → Copies told moment faults copies (object_of (purpose_of s.purpose)) s.count (segments_of s.places) front copied old new
      → EndsCopied (AllByRecursion (IsCopyLost (RoseAt (faults old) (faults new)) w s.count (length (take count buffer))) copies) (segments_of s.places) (faults old) (faults new) copied
      → BecomesCopied number (take count (front ++ drop count buffer)) copied result held next
      → CopiesFor told moment faults number (row_at number held.seats) result old new held next
  copy_did told moment faults number held next old new copied result front database seat long calls ends becomes =
      let n : ℕ = length (take count buffer) in
      let bytes_are : take count (front ++ drop count buffer) ≡ front = take_front count front (drop count buffer) (long ∙ taken_long) in
      let found : version (object_of (purpose_of s.purpose)) held.vault.database ≡ Some x = ap (version (object_of (purpose_of s.purpose))) database ∙ in_it in
      let rose : ℕ → Type 0 = RoseAt (faults old) (faults new) in
      subst (λ o. CopiesFor told moment faults number o result old new held next) seat
      (record {
        bytes = front;
        copied = copied;
        long = long ∙ taken_long ∙ many;
        calls = subst (λ o. Copies told moment faults (copies_of o) (object_of (purpose_of s.purpose)) s.count (segments_of s.places) front copied old new) (sym found)
            (subst (λ l. Copies told moment faults l (object_of (purpose_of s.purpose)) s.count (segments_of s.places) front copied old new) are calls);
        ends = subst (λ k. EndsCopied (AreLost rose held.vault.database 0 s.count k (version (object_of (purpose_of s.purpose)) held.vault.database)) (segments_of s.places) (faults old) (faults new) copied) (sym long)
            (subst (λ o. EndsCopied (AreLost rose held.vault.database 0 s.count n o) (segments_of s.places) (faults old) (faults new) copied) (sym found)
            (subst (λ y. EndsCopied (AllByRecursion (IsCopyLost rose y s.count n) x.copies) (segments_of s.places) (faults old) (faults new) copied) (same ∙ sym database)
            (subst (λ l. EndsCopied (AllByRecursion (IsCopyLost rose w s.count n) l) (segments_of s.places) (faults old) (faults new) copied) are ends)));
        becomes = subst (λ b. BecomesCopied number b copied result held next) bytes_are becomes;
      })
