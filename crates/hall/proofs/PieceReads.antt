-- A piece of an object is read, and nothing changes.
use Rattle.std.proofs.Common.{◌≡◌, ◌⊎◌, inl, inr, ℕ, ◌+◌, ◌^◌, ◌≤◌, zero, suc, Bool, true, false, cond, nat_le, if◌then◌else◌, List, [], ◌∷◌, ◌++◌, length, take, drop, Option, Some, None, Result, Ok, Err, refl, sym, ap, subst, ◌∙◌, arith}
use Rattle.std.specs.Prelude.{IfSome}
use Rattle.std.specs.List.{AllByRecursion}
use Rattle.std.specs.Option.{option_map_or}
use Rattle.std.proofs.Math.Path.{fun_ext}
use Rattle.std.proofs.lemmas.Bool.{cases_eq, eq-eqb, leb-true, ne_eqb}
use Rattle.std.proofs.lemmas.List.{drop-drop, length-take-le, take-append-drop}
use Rattle.store_api.specs.Cause.{NoneFell}
use Rattle.store_api.specs.Disk.{History, now, reads}
use Rattle.store_api.specs.Runs.{GoesOn}
use Rattle.store_api.specs.Told.{Told}
use Rattle.store_api.proofs.Runs.{told_map}
use Rattle.kinds.specs.Names.{is_same_name}
use Rattle.kinds.specs.Refusals.{bad_value, foremost, place_of, unless}
use Rattle.kinds.specs.declared.refusal.Refusal.{Refusal}
use Rattle.kinds.specs.declared.refusal.Refusal.TheVariants as refusal
use Rattle.kinds.specs.declared.segment.Digest.{Digest}
use Rattle.inventory_rows.specs.Search.{version, versions}
use Rattle.inventory_rows.specs.State.{Inv}
use Rattle.inventory_rows.specs.version_groups.declared.copies.CopyRow.{CopyRow}
use Rattle.inventory_rows.specs.version_groups.declared.versions.Version.{Version}
use Rattle.inventory_rows.proofs.of_version_groups.Lists.{version_of-object}
use Rattle.inventory_rules.specs.Journal.{Journal}
use Rattle.inventory_rules.specs.Run.{journal_of}
use Rattle.inventory_rules.specs.Versions.{gone_or_unknown, of_version}
use Rattle.contents.specs.Contents.{FramesHave, HasAll, HasVersion, InImage, InStore, with_content}
use Rattle.contents.proofs.Kept.{kept_reads}
use Rattle.steps.specs.Calls.{piece_of}
use Rattle.steps.specs.Events.{is_listed}
use Rattle.steps.specs.Events.Deed.{ReadPiece}
use Rattle.machine.specs.Causes.{has_copy_in, read_refused}
use Rattle.machine.specs.Machine.{CantRead, IsLostFor, Later, ended, read_count}
use Rattle.machine.specs.Pieces.{IsUnavailable, RoseAt, piece, piece_length}
use Rattle.machine.specs.State.{Machine, Sight, inventory, sight}
use Rattle.machine.proofs.Elsewhere.{append-all, append-none, foremost-all, none-held, unless-all}
use Rattle.hall.specs.Good.{Is, IsKept, WasSound}
use Rattle.hall.specs.Held.{Hall, Held, IsCore}
use Rattle.hall.specs.Reading.{AreLost, EndsBy, EndsRead, ReadsAny, ReadsObject, seen_by_all}
use Rattle.hall.specs.Seats.{ended_at}
use Rattle.machine.specs.Alone.{with_contents}
use Rattle.hall.specs.Steps.{IsTrusted, Steps}
use Rattle.hall.proofs.Covering.{all_each}
use Rattle.hall.proofs.Databases.{last_left}
use Rattle.hall.proofs.Dropping.{no_later}
use Rattle.hall.proofs.Ended.{ended_first, ended_has, ended_is, next_answers}
use Rattle.hall.proofs.Having.{found_has}
use Rattle.hall.proofs.Looking.{GoesOnPending, looked_at, still_is}

-- ---- bytes that were read among those of their object

-- the bytes with these in the place of as many from `offset` on
abbrev patched : (offset : ℕ) (read bytes : List ℕ) → List ℕ
patched offset read bytes = take offset bytes ++ (read ++ drop (offset + length read) bytes)

drop_front : (n : ℕ) (xs ys : List ℕ) → length xs ≡ n → drop n (xs ++ ys) ≡ ys
drop_front zero [] ys h = refl
drop_front zero (x ∷ xs) ys h = absurd (omega (arith, h))
drop_front (suc n) [] ys h = absurd (omega (arith, h))
drop_front (suc n) (x ∷ xs) ys h = drop_front n xs ys (omega (arith, h))

pub take_front : (n : ℕ) (xs ys : List ℕ) → length xs ≡ n → take n (xs ++ ys) ≡ xs
take_front zero [] ys h = refl
take_front zero (x ∷ xs) ys h = absurd (omega (arith, h))
take_front (suc n) [] ys h = absurd (omega (arith, h))
take_front (suc n) (x ∷ xs) ys h = ap (λ (l : List ℕ). x ∷ l) (take_front n xs ys (omega (arith, h)))

piece_of_patched : (offset count : ℕ) (read bytes : List ℕ) → offset ≤ length bytes → length read ≡ count → read ≡ piece offset count (patched offset read bytes)
piece_of_patched offset count read bytes within long =
    let front : length (take offset bytes) ≡ offset = length-take-le offset bytes within in
    sym (ap (take count) (drop_front offset (take offset bytes) (read ++ drop (offset + length read) bytes) front) ∙ take_front count read (drop (offset + length read) bytes) long)

patched_same : (offset count : ℕ) (read bytes : List ℕ) → length read ≡ count → read ≡ piece offset count bytes → patched offset read bytes ≡ bytes
patched_same offset count read bytes long is =
    let back : read ++ drop (offset + length read) bytes ≡ drop offset bytes =
    ap (λ n. read ++ drop (offset + n) bytes) long
    ∙ ap (λ (l : List ℕ). l ++ drop (offset + count) bytes) is
    ∙ ap (λ (l : List ℕ). take count (drop offset bytes) ++ l) (sym (drop-drop count offset bytes ∙ (let e : offset + count ≡ offset + count = refl in ap (λ n. drop n bytes) e)))
    ∙ take-append-drop count (drop offset bytes) in
    ap (λ (l : List ℕ). take offset bytes ++ l) back ∙ take-append-drop offset bytes

-- the contents with what was read in its place
abbrev seen_with : (object offset : ℕ) (read : List ℕ) → (ℕ → List ℕ) → ℕ → List ℕ
seen_with object offset read contents = with_content object (patched offset read (contents object)) contents

seen_at : (object offset : ℕ) (read : List ℕ) (contents : ℕ → List ℕ) → seen_with object offset read contents object ≡ patched offset read (contents object)
seen_at object offset read contents = ap (λ b. cond b (patched offset read (contents object)) (contents object)) (eq-eqb object object refl)

seen_same : (object offset : ℕ) (read : List ℕ) (contents : ℕ → List ℕ) → patched offset read (contents object) ≡ contents object → seen_with object offset read contents ≡ contents
seen_same object offset read contents same = fun_ext (λ other. at other (cases_eq other object))
  where
    at : (other : ℕ) → (other ≡ object) ⊎ ((other ≡ object) → ⊥) → seen_with object offset read contents other ≡ contents other
    at other (inl is) = ap (λ b. cond b (patched offset read (contents object)) (contents other)) (eq-eqb other object is) ∙ same ∙ ap contents (sym is)
    at other (inr differs) = ap (λ b. cond b (patched offset read (contents object)) (contents other)) (ne_eqb other object differs)

-- ---- what isn't refused

passes : (b : Bool) (e : Refusal) → unless b e ≡ [] → b ≡ true
passes true e h = refl
passes false e h = absurd cc

-- what no refusal says
pub record IsFree (object : ℕ) (from offset wanted : ℕ) (v : Inv) (w : Version) : Type 0 where
  pub found : version object v ≡ Some w
  pub within : offset ≤ w.size

free_of : (j : Journal) (object : ℕ) (kept : Digest) (from offset wanted : ℕ) (v : Inv) (o : Option Version)
    → of_version j object (λ w. unless (has_copy_in from w) refusal.NotFound ++ (unless (nat_le offset w.size) bad_value ++ unless (is_same_name w.digest.0 kept.0) (refusal.DigestDiffers w.digest kept))) o ≡ []
    → version object v ≡ o → (w : Version) × IsFree object from offset wanted v w
free_of j object kept from offset wanted v None none is = absurd cc
free_of j object kept from offset wanted v (Some w) none is =
    let t = append-none (unless (has_copy_in from w) refusal.NotFound) (unless (nat_le offset w.size) bad_value ++ unless (is_same_name w.digest.0 kept.0) (refusal.DigestDiffers w.digest kept)) none in
    let u = append-none (unless (nat_le offset w.size) bad_value) (unless (is_same_name w.digest.0 kept.0) (refusal.DigestDiffers w.digest kept)) t.1 in
    (w, record { found = is; within = leb-true offset w.size (passes (nat_le offset w.size) bad_value u.0) })

pub is_free : (object : ℕ) (kept : Digest) (from offset wanted : ℕ) (s : Sight) → foremost (read_refused object kept from offset wanted s) ≡ None → (w : Version) × IsFree object from offset wanted s.inventory w
is_free object kept from offset wanted s free =
    let none = none-held (read_refused object kept from offset wanted s) free in
    let t = append-none (unless (nat_le wanted (2 ^ 16)) bad_value) _ none in
    free_of s.journal object kept from offset wanted s.inventory (version object s.inventory) t.1 refl

-- why an object isn't there, as two journals tell that are the same
pub gone_by : (j k : Journal) (object : ℕ) (o : Option ℕ) → o ≡ j.removed object → j ≡ k → gone_or_unknown o ≡ gone_or_unknown (k.removed object)
gone_by j k object o said same = ap gone_or_unknown (said ∙ ap (λ (x : Journal). x.removed object) same)

-- what each refusal is
gone_all : (P : Refusal → Type 0) → P refusal.NotFound → ((n : ℕ) → P (refusal.Gone n)) → (o : Option ℕ) → P (gone_or_unknown o)
gone_all P none gone None = none
gone_all P none gone (Some n) = gone n

pub each_refusal : (P : Refusal → Type 0) → P bad_value → P refusal.NotFound → ((n : ℕ) → P (refusal.Gone n)) → ((a b : Digest) → P (refusal.DigestDiffers a b)) → (object : ℕ) (kept : Digest) (from offset wanted : ℕ)
    (s : Sight) → AllByRecursion P (read_refused object kept from offset wanted s)
each_refusal P bad none gone differs object kept from offset wanted s =
    append-all P (unless (nat_le wanted (2 ^ 16)) bad_value) _ (unless-all P (nat_le wanted (2 ^ 16)) bad_value bad) (of_found (version object s.inventory))
  where
    of_found : (o : Option Version)
        → AllByRecursion P (of_version s.journal object (λ w. unless (has_copy_in from w) refusal.NotFound ++ (unless (nat_le offset w.size) bad_value ++ unless (is_same_name w.digest.0 kept.0) (refusal.DigestDiffers w.digest kept))) o)
    of_found None = (gone_all P none gone (s.journal.removed object), tt)
    of_found (Some w) =
        append-all P (unless (has_copy_in from w) refusal.NotFound) _ (unless-all P (has_copy_in from w) refusal.NotFound none)
        (append-all P (unless (nat_le offset w.size) bad_value) _ (unless-all P (nat_le offset w.size) bad_value bad)
        (unless-all P (is_same_name w.digest.0 kept.0) (refusal.DigestDiffers w.digest kept) (differs w.digest kept)))

-- ---- a version

-- what was read into the front of a buffer
pub version_read : (w : Version) (copies : List CopyRow) (offset count : ℕ) (front back : List ℕ) (found : Bool) (old new : Option History) → copies ≡ w.copies → length front ≡ count → found ≡ true
    → Told old new (ReadsAny copies offset front found) → (let result : Result ℕ Refusal = Ok count in Told old new (ReadsObject (Some w) offset (front ++ back) result))
version_read w copies offset count front back found old new are long was read =
    told_map old new (ReadsAny copies offset front found) (let result : Result ℕ Refusal = Ok count in ReadsObject (Some w) offset (front ++ back) result)
    (λ h n r. record {
      goes = r.goes;
      bytes = λ object bytes frames.
          take_front count front back long
          ∙ r.bytes was object bytes (subst (AllByRecursion (λ (c : CopyRow). FramesHave (InImage (reads h)) object 0 c.segments bytes)) (sym are) frames)
          ∙ ap (λ n. take n (drop offset bytes)) long;
    }) read

pub version_unread : (w : Version) (copies : List CopyRow) (offset : ℕ) (front buffer : List ℕ) (found : Bool) (e : Refusal) (old new : Option History) → Told old new (ReadsAny copies offset front found)
    → (let result : Result ℕ Refusal = Err e in Told old new (ReadsObject (Some w) offset buffer result))
version_unread w copies offset front buffer found e old new read =
    told_map old new (ReadsAny copies offset front found) (let result : Result ℕ Refusal = Err e in ReadsObject (Some w) offset buffer result) (λ h n r. record { goes = r.goes; bytes = tt }) read

-- the piece is no longer than what there is from `offset` on
pub in_size : (wanted size offset count : ℕ) (buffer : List ℕ) → length buffer ≡ wanted → count ≡ piece_length wanted size offset → offset ≤ size
    → (length (take count buffer) ≡ count) × (offset + length (take count buffer) ≤ size)
in_size wanted size offset count buffer long is within =
    let few : count ≤ wanted = omega (arith, is) in
    let there : offset + count ≤ size = omega (arith, is, within) in
    let same : length (take count buffer) ≡ count = length-take-le count buffer (omega (arith, few, long)) in
    (same, omega (arith, same, there))

-- how a version was read is how its object was
pub version_ends : (rose : ℕ → Type 0) (v : Inv) (w : Version) (from offset wanted count many : ℕ) (found : Bool) → version w.object v ≡ Some w → count ≡ piece_length wanted w.size offset → many ≡ count
    → EndsBy (IsUnavailable rose v from offset many w) found
    → EndsRead rose [] v w.object from offset wanted (if found then Ok count else Err refusal.Unavailable)
version_ends rose v w from offset wanted count many found there is same ends = by found ends
  where
    is_count : count ≡ read_count w.object wanted offset v
    is_count = is ∙ ap (λ o. piece_length wanted (option_map_or (λ (x : Version). x.size) o 0) offset) (sym there)

    to : IsUnavailable rose v from offset many w → AreLost rose v from offset (read_count w.object wanted offset v) (version w.object v)
    to h = subst (λ o. AreLost rose v from offset (read_count w.object wanted offset v) o) (sym there) (subst (λ n. IsUnavailable rose v from offset n w) (same ∙ is_count) h)

    back : AreLost rose v from offset (read_count w.object wanted offset v) (version w.object v) → IsUnavailable rose v from offset many w
    back h = subst (λ n. IsUnavailable rose v from offset n w) (sym (same ∙ is_count)) (subst (λ o. AreLost rose v from offset (read_count w.object wanted offset v) o) there h)

    by : (b : Bool) → EndsBy (IsUnavailable rose v from offset many w) b → EndsRead rose [] v w.object from offset wanted (if b then Ok count else Err refusal.Unavailable)
    by true none = (refl, is_count, λ lost. none (back lost))
    by false lost = inr (refl, refl, to lost)

-- the version that is found of an object is found of its own
pub found_own : (v w : Inv) (object : ℕ) (x : Version) → w ≡ v → version object v ≡ Some x → version x.object w ≡ Some x
found_own v w object x same found = ap (λ k. version k w) (version_of-object object (versions v) x found) ∙ ap (version object) same ∙ found

-- and how it is where these refusals don't hold
pub object_ends : (rose : ℕ → Type 0) (refused : List Refusal) (v : Inv) (object other from offset wanted : ℕ) (result : Result ℕ Refusal) → foremost refused ≡ None → other ≡ object
    → EndsRead rose [] v other from offset wanted result → EndsRead rose refused v object from offset wanted result
object_ends rose refused v object other from offset wanted (Ok count) none same ends =
    subst (λ k. EndsRead rose refused v k from offset wanted (let result : Result ℕ Refusal = Ok count in result)) same (none, ends.1, ends.2)
object_ends rose refused v object other from offset wanted (Err e) none same (inl held) = absurd cc
object_ends rose refused v object other from offset wanted (Err e) none same (inr lost) =
    subst (λ k. EndsRead rose refused v k from offset wanted (let result : Result ℕ Refusal = Err e in result)) same (inr (none, lost.1, lost.2))

-- ---- the step

-- no file changed
pub reads_looked : (found : Option Version) (offset : ℕ) (buffer : List ℕ) (result : Result ℕ Refusal) (old new : Option History) → Told old new (ReadsObject found offset buffer result) → Told old new (GoesOn (λ f. ⊥))
reads_looked found offset buffer result old new read = told_map old new (ReadsObject found offset buffer result) (GoesOn (λ f. ⊥)) (λ h n r. r.goes) read

pub lost_as : (before after : Machine) (from offset count : ℕ) (o : Option Version) → AreLost (RoseAt before.counts after.counts) (inventory before.core) from offset count o → IsLostFor before after from offset count o
lost_as before after from offset count None h = h
lost_as before after from offset count (Some w) h = h

pub as_lost : (before after : Machine) (from offset count : ℕ) (o : Option Version) → IsLostFor before after from offset count o → AreLost (RoseAt before.counts after.counts) (inventory before.core) from offset count o
as_lost before after from offset count None h = h
as_lost before after from offset count (Some w) h = h

module _ {S : Type 0} (told : S → Option History) (moment : S → ℕ) (faults : S → ℕ → ℕ) (actor object : ℕ) (kept : Digest) (from offset wanted : ℕ) (hall : Hall S) where
  -- the refusals that hold, as the hall tells them
  held_is : (m : Machine) → Is told moment faults hall m
      → ended m ++ read_refused object kept from offset wanted (sight actor m.core) ≡ ended_at (moment hall.store) hall.held ++ read_refused object kept from offset wanted (seen_by_all hall.held)
  held_is m is =
      let by : Journal → Inv → List Refusal = λ j v. read_refused object kept from offset wanted (record { first = hall.held.base.number; next_file = hall.held.claims.next_file; journal = j; inventory = v; tickets = []; image = None }) in
      ap (λ (l : List Refusal). l ++ by (journal_of m.core.base m.core.journal) (inventory m.core)) (ended_is (moment hall.store) hall.held m is.core is.clock)
      ∙ ap (λ b. ended_at (moment hall.store) hall.held ++ by (journal_of b m.core.journal) (inventory m.core)) is.core.base
      ∙ ap (λ l. ended_at (moment hall.store) hall.held ++ by (journal_of hall.held.base l) (inventory m.core)) is.core.journal
      ∙ ap (λ v. ended_at (moment hall.store) hall.held ++ by (journal_of hall.held.base hall.held.vault.journal) v) (sym is.core.database)

  -- a step that may not begin
  pub reads_ended : (e : Refusal) → foremost (ended_at (moment hall.store) hall.held) ≡ Some e → Steps told moment faults actor (ReadPiece object kept from offset wanted (Err e)) hall hall
  reads_ended e full = λ m is.
      let held : foremost (ended m ++ read_refused object kept from offset wanted (sight actor m.core)) ≡ Some e =
      ap foremost (held_is m is)
      ∙ ended_first (moment hall.store) hall.held (read_refused object kept from offset wanted (seen_by_all hall.held)) e full
      (each_refusal (λ y. 1 ≤ place_of y) (omega arith) (omega arith) (λ n. omega arith) (λ a b. omega arith) object kept from offset wanted (seen_by_all hall.held)) in
      (m.contents, m, λ trusted. refl, record { number = refl; later = no_later m m.contents m refl refl; step = inl (inl held, record { core = refl; contents = refl }) }, is)

  module _ (clock : (s : S) → IfSome (told s) (λ h. now h ≡ moment s)) (pends : GoesOnPending) (store : S) (buffer : List ℕ) (free : foremost (ended_at (moment hall.store) hall.held) ≡ None)
      (grew : NoneFell (faults hall.store) (faults store)) (since : moment hall.store ≤ moment store) (soon : moment store ≤ moment hall.store + 2 ^ 24) (room : length buffer ≡ wanted) where
    abbrev after : Machine → Machine
    after m = looked_at told moment faults clock pends hall store since m

    abbrev found : Option Version
    found = version object hall.held.vault.database

    abbrev many : ℕ
    many = read_count object wanted offset hall.held.vault.database

    looked : (result : Result ℕ Refusal) → Told (told hall.store) (told store) (ReadsObject found offset buffer result) → Told (told hall.store) (told store) (GoesOn (λ f. ⊥))
    looked result read = reads_looked found offset buffer result (told hall.store) (told store) read

    later_read : (seen : ℕ → List ℕ) (m : Machine) → Is told moment faults hall m → Later (with_contents seen m) (with_contents seen (after m))
    later_read seen m is = record {
      counts = λ file. let a = ap (λ (f : ℕ → ℕ). f file) is.counts in let le = grew file in omega (arith, a, le);
      since = omega (arith, is.clock, since);
      soon = omega (arith, is.clock, soon);
    }

    none_refused : (m : Machine) → Is told moment faults hall m → foremost (read_refused object kept from offset wanted (seen_by_all hall.held)) ≡ None
        → foremost (ended m ++ read_refused object kept from offset wanted (sight actor m.core)) ≡ None
    none_refused m is none = ap foremost (held_is m is) ∙ next_answers (ended_at (moment hall.store) hall.held) (read_refused object kept from offset wanted (seen_by_all hall.held)) free ∙ none

    -- what is lost, as the machine says it
    to_machine : (seen : ℕ → List ℕ) (m : Machine) → Is told moment faults hall m → AreLost (RoseAt (faults hall.store) (faults store)) hall.held.vault.database from offset many found
        → CantRead object from offset (read_count object wanted offset (inventory m.core)) (with_contents seen m) (with_contents seen (after m))
    to_machine seen m is lost =
        lost_as (with_contents seen m) (with_contents seen (after m)) from offset (read_count object wanted offset (inventory m.core)) (version object (inventory m.core))
        (subst (λ v. AreLost (RoseAt m.counts (faults store)) v from offset (read_count object wanted offset v) (version object v)) is.core.database
        (subst (λ c. AreLost (RoseAt c (faults store)) hall.held.vault.database from offset many found) (sym is.counts) lost))

    from_machine : (seen : ℕ → List ℕ) (m : Machine) → Is told moment faults hall m
        → CantRead object from offset (read_count object wanted offset (inventory m.core)) (with_contents seen m) (with_contents seen (after m))
        → AreLost (RoseAt (faults hall.store) (faults store)) hall.held.vault.database from offset many found
    from_machine seen m is lost =
        subst (λ c. AreLost (RoseAt c (faults store)) hall.held.vault.database from offset many found) is.counts
        (subst (λ v. AreLost (RoseAt m.counts (faults store)) v from offset (read_count object wanted offset v) (version object v)) (sym is.core.database)
        (as_lost (with_contents seen m) (with_contents seen (after m)) from offset (read_count object wanted offset (inventory m.core)) (version object (inventory m.core)) lost))

    -- over a store that was sound, what was read are the machine's bytes
    as_kept : (m : Machine) → IsCore hall.held m.core → (count : ℕ) (w : Version) → found ≡ Some w → (o n : Option History) → (let result : Result ℕ Refusal = Ok count in Told o n (ReadsObject found offset buffer result))
        → IfSome o (λ h. WasSound hall.held.base hall.held.opened h → IsKept m hall.held h) → IsTrusted o hall.held → take count buffer ≡ take count (drop offset (m.contents object))
    as_kept m is count w there None n read keeps trusted = absurd trusted
    as_kept m is count w there (Some h) None read keeps trusted = absurd read
    as_kept m is count w there (Some h) (Some n) read keeps trusted =
        let k : IsKept m hall.held h = keeps trusted in
        let all : HasAll (InStore h) m.contents (inventory m.core) = last_left (HasAll (InStore h) m.contents) m.core (all_each (InStore h) m.contents _ k.firm) in
        let stands = kept_reads m.contents h (inventory m.core) all in
        let there_now : version object (inventory m.core) ≡ Some w = ap (version object) (sym is.database) ∙ there in
        let has : HasVersion (InImage (reads h)) (m.contents w.object) w = found_has (λ x. HasVersion (InImage (reads h)) (m.contents x.object) x) object (versions (inventory m.core)) w stands there_now in
        let own : w.object ≡ object = version_of-object object (versions (inventory m.core)) w there_now in
        let copies : AllByRecursion (λ (c : CopyRow). FramesHave (InImage (reads h)) object 0 c.segments (m.contents object)) w.copies =
        subst (λ k. AllByRecursion (λ (c : CopyRow). FramesHave (InImage (reads h)) k 0 c.segments (m.contents k)) w.copies) own has.copies in
        (subst (λ f. IfSome f (λ x. (k : ℕ) (bytes : List ℕ) → AllByRecursion (λ (c : CopyRow). FramesHave (InImage (reads h)) k 0 c.segments bytes) x.copies → take count buffer ≡ take count (drop offset bytes)))
        there read.bytes) object (m.contents object) copies

    reads_well : (count : ℕ) → (let result : Result ℕ Refusal = Ok count in Told (told hall.store) (told store) (ReadsObject found offset buffer result))
        → foremost (read_refused object kept from offset wanted (seen_by_all hall.held)) ≡ None → count ≡ many → ¬ AreLost (RoseAt (faults hall.store) (faults store)) hall.held.vault.database from offset many found
        → Steps told moment faults actor (ReadPiece object kept from offset wanted (Ok (take count buffer))) hall (record { store = store; held = hall.held })
    reads_well count read none is_many clear = λ m is.
        let free = is_free object kept from offset wanted (seen_by_all hall.held) none in
        let w : Version = free.0 in
        let there : version object (inventory m.core) ≡ Some w = ap (version object) (sym is.core.database) ∙ free.1.found in
        let sized : length (m.contents w.object) ≡ w.size = found_has (λ x. length (m.contents x.object) ≡ x.size) object (versions (inventory m.core)) w is.good.bytes.sized there in
        let own : w.object ≡ object = version_of-object object (versions (inventory m.core)) w there in
        let within : offset ≤ length (m.contents object) = subst (λ k. offset ≤ length (m.contents k)) own (let l = free.1.within in omega (arith, sized, l)) in
        let few : count ≤ wanted = (let e : many ≤ wanted = omega arith in omega (arith, is_many, e)) in
        let bytes : List ℕ = take count buffer in
        let long : length bytes ≡ count = length-take-le count buffer (omega (arith, few, room)) in
        let seen : ℕ → List ℕ = seen_with object offset bytes m.contents in
        let many_now : count ≡ read_count object wanted offset (inventory m.core) = is_many ∙ ap (read_count object wanted offset) is.core.database in
        let part : bytes ≡ piece offset (read_count object wanted offset (inventory m.core)) (seen object) =
        piece_of_patched offset count bytes (m.contents object) within long ∙ ap (piece offset count) (sym (seen_at object offset bytes m.contents)) ∙ ap (λ n. piece offset n (seen object)) many_now in (
          seen,
          with_contents seen (after m),
          λ trusted. seen_same object offset bytes m.contents
              (patched_same offset count bytes (m.contents object) long (as_kept m is.core count w free.1.found (told hall.store) (told store) read is.good.kept trusted)),
          record {
            number = refl;
            later = later_read seen m is;
            step = (none_refused m is none, (part, λ lost. clear (from_machine seen m is lost), record { core = refl; contents = refl }));
          },
          still_is told moment faults clock pends hall store since m (looked (Ok count) read) is,
        )

    reads_refused : (e : Refusal) → (let result : Result ℕ Refusal = Err e in Told (told hall.store) (told store) (ReadsObject found offset buffer result))
        → (foremost (read_refused object kept from offset wanted (seen_by_all hall.held)) ≡ Some e)
        ⊎ ((foremost (read_refused object kept from offset wanted (seen_by_all hall.held)) ≡ None) × (e ≡ refusal.Unavailable)
        × AreLost (RoseAt (faults hall.store) (faults store)) hall.held.vault.database from offset many found)
        → Steps told moment faults actor (ReadPiece object kept from offset wanted (Err e)) hall (record { store = store; held = hall.held })
    reads_refused e read (inl refused) = λ m is.
        let held : foremost (ended m ++ read_refused object kept from offset wanted (sight actor m.core)) ≡ Some e =
        ap foremost (held_is m is) ∙ next_answers (ended_at (moment hall.store) hall.held) (read_refused object kept from offset wanted (seen_by_all hall.held)) free ∙ refused in (
          m.contents,
          after m,
          λ trusted. refl,
          record { number = refl; later = later_read m.contents m is; step = inl (inl held, record { core = refl; contents = refl }) },
          still_is told moment faults clock pends hall store since m (looked (Err e) read) is,
        )
    reads_refused e read (inr lost) = λ m is. (
      m.contents,
      after m,
      λ trusted. refl,
      record {
        number = refl;
        later = later_read m.contents m is;
        step = inr (none_refused m is lost.0, (lost.1, to_machine m.contents m is lost.2, record { core = refl; contents = refl }));
      },
      still_is told moment faults clock pends hall store since m (looked (Err e) read) is,
    )

    pub reads_step : (result : Result ℕ Refusal) → Told (told hall.store) (told store) (ReadsObject found offset buffer result)
        → EndsRead (RoseAt (faults hall.store) (faults store)) (read_refused object kept from offset wanted (seen_by_all hall.held)) hall.held.vault.database object from offset wanted result
        → Steps told moment faults actor (ReadPiece object kept from offset wanted (piece_of result buffer)) hall (record { store = store; held = hall.held })
    reads_step (Ok count) read ends = reads_well count read ends.0 ends.1 ends.2
    reads_step (Err e) read ends = reads_refused e read ends

-- ---- its refusals

pub read_listed : (rose : ℕ → Type 0) (v : Inv) (object : ℕ) (kept : Digest) (from offset wanted : ℕ) (s : Sight) (result : Result ℕ Refusal) (buffer : List ℕ)
    → EndsRead rose (read_refused object kept from offset wanted s) v object from offset wanted result → is_listed (ReadPiece object kept from offset wanted (piece_of result buffer)) ≡ true
unfolding is_listed
read_listed rose v object kept from offset wanted s (Ok count) buffer ends = refl
read_listed rose v object kept from offset wanted s (Err e) buffer (inl refused) =
    foremost-all (λ y. is_listed (ReadPiece object kept from offset wanted (Err y)) ≡ true) (read_refused object kept from offset wanted s)
    (each_refusal (λ y. is_listed (ReadPiece object kept from offset wanted (Err y)) ≡ true) refl refl (λ n. refl) (λ a b. refl) object kept from offset wanted s) e refused
read_listed rose v object kept from offset wanted s (Err e) buffer (inr lost) = ap (λ y. is_listed (ReadPiece object kept from offset wanted (Err y))) lost.1

pub read_ended_listed : (object : ℕ) (kept : Digest) (from offset wanted moment : ℕ) (h : Held) (e : Refusal) → foremost (ended_at moment h) ≡ Some e
    → is_listed (ReadPiece object kept from offset wanted (Err e)) ≡ true
unfolding is_listed
read_ended_listed object kept from offset wanted moment h e is = ended_has (λ y. is_listed (ReadPiece object kept from offset wanted (Err y)) ≡ true) refl (λ file count. refl) moment h e is
