-- Copies that are read one after the other: what was read comes from the one that was found, and those that were passed over are lost.
use Rattle.std.proofs.Common.{◌≡◌, ℕ, ◌+◌, ◌-◌, ◌<◌, ◌≤◌, get_or, not, is_some, eqb, Bool, true, false, cond, ◌||◌, List, [], ◌∷◌, ◌++◌, length, take, filter, Option, Some, None, Result, Ok, refl, sym, ap, subst, ◌∙◌, arith}
use Rattle.std.specs.List.{AllByRecursion, sum_by}
use Rattle.std.specs.Option.{option_eq}
use Rattle.std.proofs.lemmas.Bool.{eq-eqb, eqb-true}
use Rattle.std.proofs.lemmas.List.{take_all, take_more}
use Rattle.std.proofs.lemmas.List.Sums.{sum_by_push}
use Rattle.inventory_laws.proofs.Orders.{filter-append}
use Rattle.kinds.specs.declared.segment.Segment.{Segment}
use Rattle.store_api.specs.Cause.{NoneFell}
use Rattle.store_api.specs.Disk.{History, reads}
use Rattle.store_api.specs.Runs.{GoesOn, Stands}
use Rattle.store_api.specs.Told.{Told}
use Rattle.store_api.proofs.Runs.{goes_none, goes_then, told_map, told_then}
use Rattle.inventory_rows.specs.State.{Inv}
use Rattle.inventory_rows.specs.version_groups.declared.copies.CopyRow.{CopyRow}
use Rattle.contents.specs.Contents.{FramesHave, InImage}
use Rattle.contents.specs.Reading.{Lacks, ReadPiece, segments_in}
use Rattle.contents.specs.declared.frames.Unread.{Unread}
use Rattle.contents.specs.declared.frames.Unread.TheVariants as unread
use Rattle.contents.proofs.Looking.{looked_reads}
use Rattle.contents.proofs.Segments.{Carries, all_of, all_weaker, frames_carried}
use Rattle.machine.specs.Pieces.{IsCopyLost, RoseAt, asked_copies}
use Rattle.hall.specs.Reading.{EndsBy, ReadsAny, calls_for, tally}
use Rattle.hall.proofs.Tallying.{lost_still, none_lost, none_of, risen_lost, some_lost}

-- ---- one copy

same_option : (a b : Option ℕ) → option_eq eqb a b ≡ true → a ≡ b
same_option None None h = refl
same_option None (Some b) h = absurd cc
same_option (Some a) None h = absurd cc
same_option (Some a) (Some b) h = ap Some (eqb-true a b h)

pub is_there : {A : Type 0} (o : Option A) (none : Bool) → is_some o ≡ not none → none ≡ false → is_some o ≡ true
is_there o none says is = says ∙ ap not is

pub is_gone : {A : Type 0} (o : Option A) (none : Bool) → is_some o ≡ not none → none ≡ true → o ≡ None
is_gone None none says is = refl
is_gone (Some x) none says is = let clash : true ≡ false = says ∙ ap not is in absurd cc

module _ (v : Inv) (offset count : ℕ) (copy : CopyRow) where
  abbrev segments : List Segment
  segments = segments_in 0 offset count copy.segments

  -- it isn't read, since one of them was lost before
  pub not_read : (before now : ℕ → ℕ) → NoneFell before now → (tallied : Option ℕ) → tallied ≡ None → tallied ≡ tally before v segments → IsCopyLost (RoseAt before now) v offset count copy
  not_read before now grew tallied none is = some_lost before now v grew segments (λ n was here. let clash : Some n ≡ None = sym was ∙ sym is ∙ none in absurd cc)

  -- a call on the file of one of them failed
  pub read_failed : (before old new : ℕ → ℕ) → NoneFell before old → (lacks : Unread) → Lacks segments old new lacks → IsCopyLost (RoseAt before new) v offset count copy
  read_failed before old new grew (unread.Fault file) h =
      let low : before file ≤ old file = grew file in
      risen_lost (RoseAt before new) v file segments (omega (arith, h.1, low)) h.0
  read_failed before old new grew unread.RunFull h = absurd h

  -- it was read, and the tallies are compared
  pub compared : (before new : ℕ → ℕ) → NoneFell before new → (tallied now : Option ℕ) → is_some tallied ≡ true → tallied ≡ tally before v segments → now ≡ tally new v segments
      → (same : Bool) → same ≡ option_eq eqb now tallied → EndsBy (IsCopyLost (RoseAt before new) v offset count copy) same
  compared before new grew None now some was is same test = absurd cc
  compared before new grew (Some n) now some was is true test = none_of (RoseAt before new) v segments (none_lost before new v grew segments n (sym was) (sym is ∙ same_option now (Some n) (sym test)))
  compared before new grew (Some n) now some was is false test =
      some_lost before new v grew segments (λ k first second. let equal : option_eq eqb now (Some n) ≡ true = ap (λ o. option_eq eqb o (Some n)) (is ∙ second) ∙ ap (λ o. option_eq eqb (Some k) o) (was ∙ first) ∙ eq-eqb k k refl in
      let clash : false ≡ true = test ∙ equal in cc)

pub one_looked : {T : Type 0} (copy : CopyRow) (segments : List Segment) (offset : ℕ) (buffer : List ℕ) (result : Result T Unread) (old new : Option History) → Told old new (ReadPiece segments offset buffer result)
    → Told old new (GoesOn (λ f. ⊥))
one_looked copy segments offset buffer result old new read = told_map old new (ReadPiece segments offset buffer result) (GoesOn (λ f. ⊥)) (λ h n r. r.goes) read

pub one_read : {T : Type 0} (copy : CopyRow) (segments : List Segment) (offset : ℕ) (buffer : List ℕ) (done : T) (found : Bool) (old new : Option History) → segments ≡ copy.segments
    → (let result : Result T Unread = Ok done in Told old new (ReadPiece segments offset buffer result)) → Told old new (ReadsAny (copy ∷ []) offset buffer found)
one_read {T} copy segments offset buffer done found old new same read =
    told_map old new (let result : Result T Unread = Ok done in ReadPiece segments offset buffer result) (ReadsAny (copy ∷ []) offset buffer found)
    (λ h n r. record { goes = r.goes; bytes = λ e object bytes all. r.bytes object 0 bytes (subst (λ (l : List Segment). FramesHave (InImage (reads h)) object 0 l bytes) (sym same) all.0) }) read

-- none was found
pub looked_only : (copies : List CopyRow) (offset : ℕ) (buffer : List ℕ) (old new : Option History) → Told old new (GoesOn (λ f. ⊥)) → Told old new (ReadsAny copies offset buffer false)
looked_only copies offset buffer old new looked = told_map old new (GoesOn (λ f. ⊥)) (ReadsAny copies offset buffer false) (λ h n goes. record { goes = goes; bytes = λ e. absurd cc }) looked

pub none_looked : (copies : List CopyRow) (offset : ℕ) (buffer : List ℕ) (told : Option History) → Told told told (ReadsAny copies offset buffer false)
none_looked copies offset buffer None = tt
none_looked copies offset buffer (Some h) = record { goes = goes_none (λ f. ⊥) h; bytes = λ e. absurd cc }

-- ---- some copies, and one more

each_front : {X : Type 0} (P : X → Type 0) (xs : List X) (x : X) → AllByRecursion P (xs ++ x ∷ []) → AllByRecursion P xs × P x
each_front P [] x h = (tt, h.0)
each_front P (y ∷ xs) x h = let t = each_front P xs x h.1 in ((h.0, t.0), t.1)

pub each_push : {X : Type 0} (P : X → Type 0) (xs : List X) (x : X) → AllByRecursion P xs → P x → AllByRecursion P (xs ++ x ∷ [])
each_push P [] x all one = (one, tt)
each_push P (y ∷ xs) x all one = (all.0, each_push P xs x all.1 one)

pub front_has : {X : Type 0} (P : X → Type 0) (all xs : List X) (x : X) → all ≡ xs ++ x ∷ [] → AllByRecursion P all → AllByRecursion P xs
front_has P all xs x is h = (each_front P xs x (subst (AllByRecursion P) is h)).0

pub last_has : {X : Type 0} (P : X → Type 0) (all xs : List X) (x : X) → all ≡ xs ++ x ∷ [] → AllByRecursion P all → P x
last_has P all xs x is h = (each_front P xs x (subst (AllByRecursion P) is h)).1

-- how many calls are made
pub calls_push : (offset count : ℕ) (all earlier : List CopyRow) (copy : CopyRow) → all ≡ earlier ++ copy ∷ [] → calls_for offset count all ≡ calls_for offset count earlier + calls_for offset count (copy ∷ [])
calls_push offset count all earlier copy is =
    let f : CopyRow → ℕ = λ c. length (segments_in 0 offset count c.segments) in
    ap (sum_by f) is ∙ sum_by_push f earlier copy ∙ (let one : f copy ≡ sum_by f (copy ∷ []) = (let e : f copy ≡ 0 + f copy = omega arith in e) in ap (λ n. sum_by f earlier + n) one)

-- what was read of the earlier ones is read of all
pub found_earlier : (all earlier : List CopyRow) (copy : CopyRow) (offset : ℕ) (buffer : List ℕ) (found : Bool) (old new : Option History) → all ≡ earlier ++ copy ∷ []
    → Told old new (ReadsAny earlier offset buffer found) → Told old new (ReadsAny all offset buffer found)
found_earlier all earlier copy offset buffer found old new is read =
    told_map old new (ReadsAny earlier offset buffer found) (ReadsAny all offset buffer found)
    (λ h n r. record { goes = r.goes; bytes = λ e object bytes frames. r.bytes e object bytes (front_has (λ c. FramesHave (InImage (reads h)) object 0 c.segments bytes) all earlier copy is frames) }) read

-- frames stand where they stood
frames_still : (old new : History) (object : ℕ) (segments : List Segment) (bytes : List ℕ) → GoesOn (λ f. ⊥) old new → FramesHave (InImage (reads old)) object 0 segments bytes
    → FramesHave (InImage (reads new)) object 0 segments bytes
frames_still old new object segments bytes goes h =
    frames_carried (InImage (reads old)) (InImage (reads new)) object 0 segments bytes
    (all_of (Carries (InImage (reads old)) (InImage (reads new))) (λ s piece long stands. subst (λ (l : List ℕ). Stands l s.offset piece) (sym (looked_reads old new s.file goes)) stands) segments) h

-- none of the earlier ones was found, and the last one was read
pub found_last : (all earlier : List CopyRow) (copy : CopyRow) (offset : ℕ) (first buffer : List ℕ) (before found : Bool) (old mid new : Option History) → all ≡ earlier ++ copy ∷ []
    → Told old mid (ReadsAny earlier offset first before) → Told mid new (ReadsAny (copy ∷ []) offset buffer found) → Told old new (ReadsAny all offset buffer found)
found_last all earlier copy offset first buffer before found old mid new is none read =
    told_then old mid new (ReadsAny earlier offset first before) (ReadsAny (copy ∷ []) offset buffer found) (ReadsAny all offset buffer found)
    (λ h half last one two. record {
      goes = goes_then (λ f. ⊥) h half last one.goes two.goes;
      bytes = λ e object bytes frames. two.bytes e object bytes (frames_still h half object copy.segments bytes one.goes (last_has (λ c. FramesHave (InImage (reads h)) object 0 c.segments bytes) all earlier copy is frames), tt);
    }) none read

-- ---- which are asked

abbrev pub is_asked : ℕ → CopyRow → Bool
is_asked from copy = eqb from 0 || eqb copy.pool from

asked_append : (from : ℕ) (earlier : List CopyRow) (copy : CopyRow) → asked_copies from (earlier ++ copy ∷ []) ≡ asked_copies from earlier ++ cond (is_asked from copy) (copy ∷ []) []
asked_append from earlier copy = elim (eqb from 0) as
    (λ b. cond b (earlier ++ copy ∷ []) (filter (λ c. eqb c.pool from) (earlier ++ copy ∷ []))
    ≡ cond b earlier (filter (λ c. eqb c.pool from) earlier) ++ cond (b || eqb copy.pool from) (copy ∷ []) []) [
      | true ↦ refl
      | false ↦ filter-append (λ (c : CopyRow). eqb c.pool from) earlier (copy ∷ [])
    ]

no_more : (xs : List CopyRow) → xs ++ [] ≡ xs
no_more [] = refl
no_more (x ∷ xs) = ap (λ (l : List CopyRow). x ∷ l) (no_more xs)

pub asked_not : (from : ℕ) (all earlier : List CopyRow) (copy : CopyRow) → all ≡ earlier ++ copy ∷ [] → is_asked from copy ≡ false → asked_copies from all ≡ asked_copies from earlier
asked_not from all earlier copy is out =
    ap (asked_copies from) is ∙ asked_append from earlier copy ∙ ap (λ b. asked_copies from earlier ++ cond b (copy ∷ []) []) out ∙ no_more (asked_copies from earlier)

pub asked_too : (from : ℕ) (all earlier : List CopyRow) (copy : CopyRow) → all ≡ earlier ++ copy ∷ [] → is_asked from copy ≡ true → asked_copies from all ≡ asked_copies from earlier ++ copy ∷ []
asked_too from all earlier copy is asked = ap (asked_copies from) is ∙ asked_append from earlier copy ∙ ap (λ b. asked_copies from earlier ++ cond b (copy ∷ []) []) asked

-- ---- how it ended

ends_same : (P Q : Type 0) (found : Bool) → (P → Q) → (Q → P) → EndsBy P found → EndsBy Q found
ends_same P Q true to back none = λ q. none (back q)
ends_same P Q false to back lost = to lost

module _ (v : Inv) (offset count from : ℕ) (all earlier : List CopyRow) (copy : CopyRow) (is : all ≡ earlier ++ copy ∷ []) where
  abbrev Lost : (before after : ℕ → ℕ) → CopyRow → Type 0
  Lost before after = IsCopyLost (RoseAt before after) v offset count

  -- the last one isn't asked
  pub ends_not : (before after : ℕ → ℕ) (found : Bool) → is_asked from copy ≡ false → EndsBy (AllByRecursion (Lost before after) (asked_copies from earlier)) found
      → EndsBy (AllByRecursion (Lost before after) (asked_copies from all)) found
  ends_not before after found out ends = subst (λ l. EndsBy (AllByRecursion (Lost before after) l) found) (sym (asked_not from all earlier copy is out)) ends

  -- an earlier one was found
  pub ends_earlier : (before after : ℕ → ℕ) (found : Bool) → found ≡ true → is_asked from copy ≡ true → EndsBy (AllByRecursion (Lost before after) (asked_copies from earlier)) found
      → EndsBy (AllByRecursion (Lost before after) (asked_copies from all)) true
  ends_earlier before after false was asked ends = absurd cc
  ends_earlier before after true was asked ends = λ lost. ends (front_has (Lost before after) (asked_copies from all) (asked_copies from earlier) copy (asked_too from all earlier copy is asked) lost)

  still_lost : (before mid after : ℕ → ℕ) → NoneFell mid after → (c : CopyRow) → Lost before mid c → Lost before after c
  still_lost before mid after grew c lost = lost_still (RoseAt before mid) (RoseAt before after) v (segments_in 0 offset count c.segments) (λ file risen. let le : mid file ≤ after file = grew file in omega (arith, risen, le)) lost

  -- none of the earlier ones was, and the last one was tried
  pub ends_last : (before mid after : ℕ → ℕ) (earlier_found found : Bool) → earlier_found ≡ false → NoneFell mid after → is_asked from copy ≡ true
      → EndsBy (AllByRecursion (Lost before mid) (asked_copies from earlier)) earlier_found → EndsBy (Lost before after copy) found → EndsBy (AllByRecursion (Lost before after) (asked_copies from all)) found
  ends_last before mid after true found none grew asked first last = absurd cc
  ends_last before mid after false true none grew asked first last = λ lost. last (last_has (Lost before after) (asked_copies from all) (asked_copies from earlier) copy (asked_too from all earlier copy is asked) lost)
  ends_last before mid after false false none grew asked first last =
      subst (AllByRecursion (Lost before after)) (sym (asked_too from all earlier copy is asked))
      (each_push (Lost before after) (asked_copies from earlier) copy (all_weaker (Lost before mid) (Lost before after) (still_lost before mid after grew) (asked_copies from earlier) first) last)

  -- the same, as the calls say it
  pub ends_after : (many : ℕ) → many ≡ count → (those : List Segment) → those ≡ copy.segments → (before mid after : ℕ → ℕ) (tallied : Option ℕ) → tallied ≡ tally before v (segments_in 0 offset count those)
      → (earlier_found found : Bool) → earlier_found ≡ false → NoneFell before mid → NoneFell mid after → is_asked from copy ≡ true
      → EndsBy (AllByRecursion (Lost before mid) (asked_copies from earlier)) earlier_found
      → ((b : ℕ → ℕ) → NoneFell b mid → tallied ≡ tally b v (segments_in 0 offset many copy.segments) → EndsBy (IsCopyLost (RoseAt b after) v offset many copy) found)
      → EndsBy (AllByRecursion (Lost before after) (asked_copies from all)) found
  ends_after many same those are before mid after tallied was earlier_found found none rose grew asked first tried =
      let tally_is : tallied ≡ tally before v (segments_in 0 offset count copy.segments) = was ∙ ap (λ l. tally before v (segments_in 0 offset count l)) are in
      let last : EndsBy (Lost before after copy) found =
      subst (λ n. EndsBy (IsCopyLost (RoseAt before after) v offset n copy) found) same
      (tried before rose (subst (λ n. tallied ≡ tally before v (segments_in 0 offset n copy.segments)) (sym same) tally_is)) in
      ends_last before mid after earlier_found found none grew asked first last

-- the last one, and those before it
pub split_last : (all : List CopyRow) (copy : CopyRow) → 1 ≤ length all → copy ≡ get_or all (length all - 1) copy → all ≡ take (length all - 1) all ++ copy ∷ []
split_last all copy some at =
    let n : ℕ = length all - 1 in
    let e : n + 1 ≡ length all = omega (arith, some) in
    let lt : n < length all = omega (arith, some) in
    sym (take_all (length all) all (omega arith))
    ∙ ap (λ k. take k all) (sym e)
    ∙ take_more all n copy lt
    ∙ ap (λ (c : CopyRow). take n all ++ c ∷ []) (sym at)
