-- Why a commit is refused: over what the hall holds as by the machine.
use Rattle.std.proofs.Common.{◌≡◌, ℕ, ◌+◌, ◌<◌, ◌≤◌, Bool, true, false, ◌&&◌, nat_le, List, [], ◌∷◌, ◌++◌, map, length, Option, Some, None, refl, sym, ap, ◌∙◌, if◌then◌else◌, append_assoc, append-nil, arith}
use Rattle.std.specs.Prelude.{◌==◌, IfSome}
use Rattle.std.specs.List.{AllByRecursion, find}
use Rattle.std.specs.Option.{option_map_or}
use Rattle.std.proofs.lemmas.Bool.{false≢true, le-ltb, lt-ltb}
use Rattle.std.proofs.lemmas.List.{length-map}
use Rattle.kinds.specs.Names.{is_same_name}
use Rattle.kinds.specs.declared.change.PoolChange.TheVariants as store
use Rattle.kinds.specs.declared.change.Verb.TheVariants as verb
use Rattle.kinds.specs.declared.refusal.Holder.TheVariants as holder
use Rattle.kinds.specs.declared.refusal.Refusal.{Refusal}
use Rattle.kinds.specs.declared.refusal.Refusal.TheVariants as refusal
use Rattle.kinds.specs.declared.segment.Digest.{Digest}
use Rattle.kinds.specs.Refusals.{bad_value, foremost, place_of, sooner_of, unless}
use Rattle.kinds.proofs.Order.{sooner_of-assoc}
use Rattle.item_refusals.proofs.Foremost.{foremost_append}
use Rattle.entries.specs.declared.change.Change.{Change}
use Rattle.entries.specs.declared.change.Change.TheVariants as change
use Rattle.inventory_rows.specs.version_groups.Entries.{all_later}
use Rattle.inventory_rows.specs.pool_rows.PoolRows.{pool_named, volume_named}
use Rattle.inventory_rules.specs.Versions.{name_once}
use Rattle.steps.specs.declared.asked.Asked.{Asked}
use Rattle.steps.specs.declared.asked.Asked.TheVariants as asked
use Rattle.machine.specs.Causes.{are_there, asked_refused, change_refused, commit_refused, digest_refused, digests_refused, of_tickets, ticket_in_use}
use Rattle.machine.specs.Changes.{change_of}
use Rattle.machine.specs.Machine.{asked_change, has_file, held_by, held_refused, written_by}
use Rattle.machine.specs.State.{Core, Image, Sight, Ticket, digest_of, inventory, is_storing, sight, ticket}
use Rattle.machine.proofs.Elsewhere.{append-all, append-none, foremost-all, none-held, unless-all}
use Rattle.hall.specs.declared.seat.Hashed.{Hashed}
use Rattle.hall.specs.declared.seat.Hashed.TheVariants.{Done, Taking, Unhashed}
use Rattle.hall.specs.declared.seat.Purpose.{Purpose as Use}
use Rattle.hall.specs.declared.seat.Purpose.TheVariants.{Copying, Storing}
use Rattle.hall.specs.declared.seat.Seat.{Seat}
use Rattle.hall.specs.Commits.{asked_unfit, change_asked, commit_causes, differ, differs, digest_at, digest_in, digests_given, made_refused, placed_unfit, unfit}
use Rattle.hall.specs.Covered.{is_later}
use Rattle.hall.specs.Held.{BegunImage, Held, IsCore, IsHashed, begun_of, purpose_of}
use Rattle.hall.specs.Seats.{own_seat}
use Rattle.hall.specs.Sights.{image_seen, sight_of, state_of}
use Rattle.hall.proofs.Sighted.{change_forgot, forget, of_forgot, refused_forgot, sight_is, tickets_are, unfit_forgot}
use Rattle.hall.proofs.Tickets.{Matches, matches}
use Rattle.hall.proofs.Unfitting.{counted, of_all, unfit_all, unless_held}

-- ---- refusals that come late

skip_behind : (a b : Refusal) → place_of a ≤ place_of b → sooner_of (Some a) (Some b) ≡ Some a
skip_behind a b h = ap (λ t. Some (if t then b else a)) (le-ltb (place_of b) (place_of a) h)

skip_ahead : (a b : Refusal) → place_of b < place_of a → sooner_of (Some a) (Some b) ≡ Some b
skip_ahead a b h = ap (λ t. Some (if t then b else a)) (lt-ltb (place_of b) (place_of a) h)

-- one that comes later doesn't matter behind one that comes before it
behind_first : (p : Refusal) (d y : Option Refusal) → IfSome d (λ b. place_of p ≤ place_of b) → sooner_of (Some p) (sooner_of d y) ≡ sooner_of (Some p) y
behind_first p None y l = refl
behind_first p (Some d) y l = sym (sooner_of-assoc (Some p) (Some d) y) ∙ ap (λ o. sooner_of o y) (skip_behind p d l)

-- nor in front of it
before_sooner : (d : Option Refusal) (u : Refusal) (y : Option Refusal) → IfSome d (λ b. place_of u + 1 ≤ place_of b) → sooner_of d (sooner_of (Some u) y) ≡ sooner_of (Some u) y
before_sooner None u y l = refl
before_sooner (Some d) u y l = sym (sooner_of-assoc (Some d) (Some u) y) ∙ ap (λ o. sooner_of o y) (skip_ahead d u (omega (arith, l)))

abbrev AreLate : List Refusal → Type 0
AreLate es = AllByRecursion (λ e. 30 ≤ place_of e) es

late_first : (es : List Refusal) → AreLate es → (k : ℕ) → k ≤ 30 → IfSome (foremost es) (λ b. k ≤ place_of b)
late_first es late k l = go (foremost es) (foremost-all (λ e. 30 ≤ place_of e) es late) where
  go : (o : Option Refusal) → ((e : Refusal) → o ≡ Some e → 30 ≤ place_of e) → IfSome o (λ b. k ≤ place_of b)
  go None h = tt
  go (Some e) h = let at = h e refl in omega (arith, at, l)

-- Two lists of late causes give the same answer, where they stand behind causes that come before them and in front of such, and are the same where there are none of either.
late_alike : (xs ds es ss ys : List Refusal) → AllByRecursion (λ e. place_of e ≤ 12) xs → AllByRecursion (λ e. place_of e ≤ 14) ss → AreLate ds → AreLate es → (xs ≡ [] → ss ≡ [] → ds ≡ es)
    → foremost (xs ++ (ds ++ (ss ++ ys))) ≡ foremost (xs ++ (es ++ (ss ++ ys)))
late_alike xs ds es ss ys early soon late1 late2 same =
    foremost_append xs (ds ++ (ss ++ ys)) ∙ first (foremost xs) refl ∙ sym (foremost_append xs (es ++ (ss ++ ys)))
  where
    second : (o : Option Refusal) → foremost ss ≡ o → xs ≡ [] → foremost (ds ++ (ss ++ ys)) ≡ foremost (es ++ (ss ++ ys))
    second None none free = ap (λ (l : List Refusal). foremost (l ++ (ss ++ ys))) (same free (none-held ss none))
    second (Some u) at free =
        let soonest = foremost-all (λ e. place_of e ≤ 14) ss soon u at in
        let below : place_of u + 1 ≤ 30 = omega (arith, soonest) in
        let joined : foremost (ss ++ ys) ≡ sooner_of (Some u) (foremost ys) = foremost_append ss ys ∙ ap (λ o. sooner_of o (foremost ys)) at in
        foremost_append ds (ss ++ ys)
        ∙ ap (sooner_of (foremost ds)) joined
        ∙ before_sooner (foremost ds) u (foremost ys) (late_first ds late1 (place_of u + 1) below)
        ∙ sym (before_sooner (foremost es) u (foremost ys) (late_first es late2 (place_of u + 1) below))
        ∙ ap (sooner_of (foremost es)) (sym joined)
        ∙ sym (foremost_append es (ss ++ ys))

    first : (o : Option Refusal) → foremost xs ≡ o → sooner_of (foremost xs) (foremost (ds ++ (ss ++ ys))) ≡ sooner_of (foremost xs) (foremost (es ++ (ss ++ ys)))
    first None none = ap (sooner_of (foremost xs)) (second (foremost ss) refl (none-held xs none))
    first (Some p) at =
        let earliest = foremost-all (λ e. place_of e ≤ 12) xs early p at in
        let below : place_of p ≤ 30 = omega (arith, earliest) in
        ap (λ o. sooner_of o (foremost (ds ++ (ss ++ ys)))) at
        ∙ ap (sooner_of (Some p)) (foremost_append ds (ss ++ ys))
        ∙ behind_first p (foremost ds) (foremost (ss ++ ys)) (late_first ds late1 (place_of p) below)
        ∙ sym (behind_first p (foremost es) (foremost (ss ++ ys)) (late_first es late2 (place_of p) below))
        ∙ ap (sooner_of (Some p)) (sym (foremost_append es (ss ++ ys)))
        ∙ ap (λ o. sooner_of o (foremost (es ++ (ss ++ ys)))) (sym at)

-- ---- digests

digest_late : (given : Digest) (o : Option Ticket) → AreLate (digest_refused given o)
digest_late given None = tt
digest_late given (Some t) = unless-all (λ e. 30 ≤ place_of e) (is_same_name (digest_of t).0 given.0) (refusal.DigestDiffers (digest_of t) given) (omega arith)

digests_late : (given : List Digest) (numbers : List ℕ) (s : Sight) → AreLate (digests_refused given numbers s)
digests_late [] numbers s = tt
digests_late (g ∷ given) [] s = tt
digests_late (g ∷ given) (number ∷ numbers) s =
    append-all (λ e. 30 ≤ place_of e) (digest_refused g (ticket number s.tickets)) (digests_refused given numbers s) (digest_late g (ticket number s.tickets)) (digests_late given numbers s)

module _ (P : Refusal → Type 0) (other : (kept given : Digest) → P (refusal.DigestDiffers kept given)) where
  differs_all : (given : Digest) (o : Option Digest) → AllByRecursion P (differs given o)
  differs_all given None = tt
  differs_all given (Some kept) = unless-all P (is_same_name kept.0 given.0) (refusal.DigestDiffers kept given) (other kept given)

  pub differ_all : (given : List Digest) (actor : ℕ) (numbers : List ℕ) (h : Held) → AllByRecursion P (differ given actor numbers h)
  differ_all [] actor numbers h = tt
  differ_all (g ∷ given) actor [] h = tt
  differ_all (g ∷ given) actor (number ∷ numbers) h =
      append-all P (differs g (digest_at (own_seat actor number h))) (differ given actor numbers h) (differs_all g (digest_at (own_seat actor number h))) (differ_all given actor numbers h)

-- the digest of a sealed ticket for a new object is the one that is held
hashed_alike : (given : Digest) (t : Ticket) (purpose : Use) (is_sealed : Bool) (hashed : Hashed) → IsHashed purpose is_sealed hashed t.bytes → is_storing (purpose_of purpose) ≡ true → is_sealed ≡ true
    → digest_refused given (Some t) ≡ differs given (digest_in hashed)
hashed_alike given t (Storing object) true (Done kept) h new whole = ap (λ (d : Digest). unless (is_same_name d.0 given.0) (refusal.DigestDiffers d given)) (sym h)
hashed_alike given t (Storing object) true (Taking hasher) h new whole = absurd h
hashed_alike given t (Storing object) true Unhashed h new whole = absurd h
hashed_alike given t (Storing object) false kept h new whole = absurd (false≢true whole)
hashed_alike given t (Copying object aim) is_sealed kept h new whole = absurd (false≢true new)

digest_alike : (given : Digest) (key : ℕ) (o : Option Seat) (f : Option Ticket) → Matches key o f → option_map_or (λ t. unless (is_storing t.purpose) bad_value) f [] ≡ []
    → option_map_or (λ t. unless t.is_sealed (ticket_in_use t.number)) f [] ≡ [] → digest_refused given f ≡ differs given (digest_at o)
digest_alike given key None None is new whole = refl
digest_alike given key None (Some t) is new whole = absurd is
digest_alike given key (Some s) None is new whole = absurd is
digest_alike given key (Some s) (Some t) is new whole =
    hashed_alike given t s.purpose s.is_sealed s.hashed is.hashed (sym (ap is_storing is.purpose) ∙ unless_held (is_storing t.purpose) bad_value new) (sym is.is_sealed ∙ unless_held t.is_sealed (ticket_in_use t.number) whole)

module _ (actor : ℕ) (h : Held) (c : Core) (is : IsCore h c) (rises : all_later is_later c.tickets ≡ true) where
  digests_alike : (given : List Digest) (numbers : List ℕ) → of_tickets (λ t. unless (is_storing t.purpose) bad_value) numbers (sight actor c) ≡ []
      → of_tickets (λ t. unless t.is_sealed (ticket_in_use t.number)) numbers (sight actor c) ≡ [] → digests_refused given numbers (sight actor c) ≡ differ given actor numbers h
  digests_alike [] numbers new whole = refl
  digests_alike (g ∷ given) [] new whole = refl
  digests_alike (g ∷ given) (number ∷ numbers) new whole =
      let n = append-none (option_map_or (λ t. unless (is_storing t.purpose) bad_value) (ticket number (sight actor c).tickets) []) _ new in
      let w = append-none (option_map_or (λ t. unless t.is_sealed (ticket_in_use t.number)) (ticket number (sight actor c).tickets) []) _ whole in
      let one : digest_refused g (ticket number (sight actor c).tickets) ≡ differs g (digest_at (own_seat actor number h)) =
      digest_alike g number (own_seat actor number h) (ticket number (sight actor c).tickets) (matches actor number h.seats c.tickets is.tickets rises) n.0 w.0 in
      λ i. one i ++ digests_alike given numbers n.1 w.1 i

-- the digests of what is asked
abbrev digests_in : Asked → List ℕ → Sight → List Refusal
digests_in a numbers s = digests_refused (digests_given a) numbers s

-- what the machine asks of what is asked, in two parts
asked_split : (a : Asked) (numbers : List ℕ) (s : Sight) → asked_refused a numbers s ≡ asked_unfit a numbers s ++ digests_in a numbers s
asked_split (asked.Plain c) numbers s = sym (append-nil (asked_unfit (asked.Plain c) numbers s))
asked_split (asked.Backup filespace items) numbers s =
    let of : List Refusal = of_tickets (λ t. unless (is_storing t.purpose) bad_value) numbers s in
    let digests : List Digest = map (λ i. i.digest) items in
    ap (λ (n : ℕ). unless (n == length numbers) bad_value ++ (of ++ digests_refused digests numbers s)) (length-map items (λ i. i.digest))
    ∙ sym (append_assoc (unless (length items == length numbers) bad_value) of (digests_refused digests numbers s))
asked_split (asked.Hold filespace items) numbers s =
    let of : List Refusal = of_tickets (λ t. unless (is_storing t.purpose) bad_value) numbers s in
    let digests : List Digest = map (λ i. i.digest) items in
    ap (λ (n : ℕ). unless (n == length numbers) bad_value ++ (of ++ digests_refused digests numbers s)) (length-map items (λ i. i.digest))
    ∙ sym (append_assoc (unless (length items == length numbers) bad_value) of (digests_refused digests numbers s))
asked_split asked.Placed numbers s = sym (append-nil (placed_unfit numbers s))

-- ---- who holds what is taken away

pub held_forgot : (test : Ticket → Bool) → ((t : Ticket) → test (forget t) ≡ test t) → (ts : List Ticket) → held_by test (map forget ts) ≡ held_by test ts
held_forgot test same [] = refl
held_forgot test same (t ∷ ts) =
    ap (λ b. option_map_or (λ u. refusal.Busy (holder.Ticket u.number) ∷ []) (if b then Some (forget t) else find test (map forget ts)) []) (same t) ∙ go (test t) (held_forgot test same ts)
  where
    go : (b : Bool) → held_by test (map forget ts) ≡ held_by test ts
        → option_map_or (λ u. refusal.Busy (holder.Ticket u.number) ∷ []) (if b then Some (forget t) else find test (map forget ts)) [] ≡ option_map_or (λ u. refusal.Busy (holder.Ticket u.number) ∷ []) (if b then Some t else find test ts) []
    go true rest = refl
    go false rest = rest

on_volume : (o : Option ℕ) (ts : List Ticket) → option_map_or (λ it. held_by (has_file it) (map forget ts)) o [] ≡ option_map_or (λ it. held_by (has_file it) ts) o []
on_volume None ts = refl
on_volume (Some file) ts = held_forgot (has_file file) (λ t. refl) ts

in_pool : (o : Option ℕ) (ts : List Ticket) → option_map_or (λ it. held_by (λ t. t.place.pool == it) (map forget ts)) o [] ≡ option_map_or (λ it. held_by (λ t. t.place.pool == it) ts) o []
in_pool None ts = refl
in_pool (Some pool) ts = held_forgot (λ t. t.place.pool == pool) (λ t. refl) ts

-- who writes an image is known without how far it is
written_seen : (file : ℕ) (i : Option Image) → written_by file (image_seen (begun_of i)) ≡ written_by file i
written_seen file None = refl
written_seen file (Some i) = refl

held_alike : (h : Held) (c : Core) → IsCore h c → (x : Change) → held_refused x (state_of h) ≡ held_refused x c
held_alike h c is (change.Pool (store.Volume verb.Delete name number file capacity access)) =
    (λ i. option_map_or (λ it. held_by (has_file it) (tickets_are h.seats c.tickets is.tickets i)) (volume_named name (is.database i).stores) []) ∙ on_volume (volume_named name (inventory c).stores) c.tickets
held_alike h c is (change.Pool (store.Pool verb.Delete name class kind rule)) =
    (λ i. option_map_or (λ it. held_by (λ t. t.place.pool == it) (tickets_are h.seats c.tickets is.tickets i)) (pool_named name (is.database i).stores) []) ∙ in_pool (pool_named name (inventory c).stores) c.tickets
held_alike h c is (change.DbDelete file) = ap (λ (b : Option BegunImage). written_by file (image_seen b)) (sym is.image) ∙ written_seen file c.image
held_alike h c is (change.Pool (store.Volume verb.Define name number file capacity access)) = refl
held_alike h c is (change.Pool (store.Volume verb.Update name number file capacity access)) = refl
held_alike h c is (change.Pool (store.Pool verb.Define name class kind rule)) = refl
held_alike h c is (change.Pool (store.Pool verb.Update name class kind rule)) = refl
held_alike h c is (change.Pool (store.DevClass v1 class capacity)) = refl
held_alike h c is (change.Day day) = refl
held_alike h c is (change.Policy p) = refl
held_alike h c is (change.Object o) = refl
held_alike h c is (change.Backup b) = refl
held_alike h c is (change.Hold b) = refl
held_alike h c is (change.Rebind b) = refl
held_alike h c is (change.Gone b) = refl
held_alike h c is (change.Move b) = refl
held_alike h c is (change.Copy b) = refl
held_alike h c is (change.DropCopies b) = refl
held_alike h c is (change.Expire b) = refl
held_alike h c is (change.Discard b) = refl
held_alike h c is (change.Reuse file) = refl
held_alike h c is (change.DbBegin file after) = refl
held_alike h c is (change.DbEnd file) = refl

held_made : (h : Held) (c : Core) → IsCore h c → (o : Option Change) → option_map_or (λ x. held_refused x (state_of h)) o [] ≡ option_map_or (λ x. held_refused x c) o []
held_made h c is None = refl
held_made h c is (Some x) = held_alike h c is x

-- ---- all together

-- what is asked as a change is the same
pub change_alike : (actor : ℕ) (a : Asked) (numbers : List ℕ) (h : Held) (c : Core) → IsCore h c → change_asked actor a numbers h ≡ asked_change actor a numbers c
change_alike actor a numbers h c is = ap (change_of a numbers) (sight_is actor h c is) ∙ change_forgot a numbers (sight actor c)

made_alike : (actor : ℕ) (a : Asked) (numbers : List ℕ) (h : Held) (c : Core) → IsCore h c
    → made_refused actor (change_asked actor a numbers h) h ≡ change_refused actor (asked_change actor a numbers c) (sight actor c) ++ option_map_or (λ x. held_refused x c) (asked_change actor a numbers c) []
made_alike actor a numbers h c is =
    let same : change_asked actor a numbers h ≡ asked_change actor a numbers c = change_alike actor a numbers h c is in
    let refused : change_refused actor (asked_change actor a numbers c) (sight_of actor h) ≡ change_refused actor (asked_change actor a numbers c) (sight actor c) =
    ap (change_refused actor (asked_change actor a numbers c)) (sight_is actor h c is) ∙ refused_forgot actor (asked_change actor a numbers c) (sight actor c) in
    ap (λ (o : Option Change). made_refused actor o h) same ∙ (λ i. refused i ++ held_made h c is (asked_change actor a numbers c) i)

-- The foremost of what refuses a commit is the same, over what the hall holds and by the machine.
pub commit_alike : (actor : ℕ) (a : Asked) (numbers : List ℕ) (h : Held) (c : Core) → IsCore h c → all_later is_later c.tickets ≡ true
    → foremost (commit_refused actor a numbers (sight actor c) ++ option_map_or (λ x. held_refused x c) (asked_change actor a numbers c) []) ≡ foremost (commit_causes actor a numbers h)
commit_alike actor a numbers h c is rises =
    let s : Sight = sight actor c in
    let there : List Refusal = are_there numbers s in
    let once : List Refusal = unless (name_once numbers && nat_le (length numbers) 256) bad_value in
    let kind : List Refusal = asked_unfit a numbers s in
    let digests : List Refusal = digests_in a numbers s in
    let whole : List Refusal = of_tickets (λ t. unless t.is_sealed (ticket_in_use t.number)) numbers s in
    let refused : List Refusal = change_refused actor (asked_change actor a numbers c) s in
    let held : List Refusal = option_map_or (λ x. held_refused x c) (asked_change actor a numbers c) [] in
    let kept : List Refusal = differ (digests_given a) actor numbers h in
    let split : asked_refused a numbers s ≡ kind ++ digests = asked_split a numbers s in
    let left : (there ++ (once ++ ((kind ++ digests) ++ (whole ++ refused)))) ++ held ≡ (there ++ (once ++ kind)) ++ (digests ++ (whole ++ (refused ++ held))) = in_order there once kind digests whole refused held in
    let fit : unfit a numbers (sight_of actor h) ≡ unfit a numbers s = ap (unfit a numbers) (sight_is actor h c is) ∙ unfit_forgot a numbers s in
    let sealed : of_tickets (λ t. unless t.is_sealed (ticket_in_use t.number)) numbers (sight_of actor h) ≡ whole =
    ap (of_tickets (λ t. unless t.is_sealed (ticket_in_use t.number)) numbers) (sight_is actor h c is) ∙ of_forgot (λ t. unless t.is_sealed (ticket_in_use t.number)) (λ t. refl) numbers s in
    let made : made_refused actor (change_asked actor a numbers h) h ≡ refused ++ held = made_alike actor a numbers h c is in
    let right : commit_causes actor a numbers h ≡ (there ++ (once ++ kind)) ++ (kept ++ (whole ++ (refused ++ held))) =
    (λ i. fit i ++ ((kept ++ sealed i) ++ made i)) ∙ ap (λ (l : List Refusal). (there ++ (once ++ kind)) ++ l) (append_assoc kept whole (refused ++ held)) in
    ap (λ (l : List Refusal). foremost ((there ++ (once ++ (l ++ (whole ++ refused)))) ++ held)) split
    ∙ ap foremost left
    ∙ late_alike (there ++ (once ++ kind)) digests kept whole (refused ++ held)
    (unfit_all (λ e. place_of e ≤ 12) (omega arith) (omega arith) a numbers s)
    (of_all (λ e. place_of e ≤ 14) (λ t. unless t.is_sealed (ticket_in_use t.number)) (λ t. unless-all (λ e. place_of e ≤ 14) t.is_sealed (ticket_in_use t.number) (omega arith)) numbers s)
    (digests_late (digests_given a) numbers s) (differ_all (λ e. 30 ≤ place_of e) (λ kept given. omega arith) (digests_given a) actor numbers h) (λ free all. same_digests a free all)
    ∙ ap foremost (sym right)
  where
    in_order : (a b c d e f g : List Refusal) → (a ++ (b ++ ((c ++ d) ++ (e ++ f)))) ++ g ≡ (a ++ (b ++ c)) ++ (d ++ (e ++ (f ++ g)))
    in_order a b c d e f g = simp append_assoc refl

    kind_of : (a : Asked) → unfit a numbers (sight actor c) ≡ [] → asked_unfit a numbers (sight actor c) ≡ []
    kind_of a free =
        (append-none (unless (name_once numbers && nat_le (length numbers) 256) bad_value) (asked_unfit a numbers (sight actor c)) (append-none (are_there numbers (sight actor c)) _ free).1).1

    same_digests : (a : Asked) → unfit a numbers (sight actor c) ≡ [] → of_tickets (λ t. unless t.is_sealed (ticket_in_use t.number)) numbers (sight actor c) ≡ []
        → digests_in a numbers (sight actor c) ≡ differ (digests_given a) actor numbers h
    same_digests (asked.Plain x) free all = refl
    same_digests (asked.Backup filespace items) free all = digests_alike actor h c is rises (map (λ i. i.digest) items) numbers (counted (length items) numbers (sight actor c) (kind_of (asked.Backup filespace items) free)).1 all
    same_digests (asked.Hold filespace items) free all = digests_alike actor h c is rises (map (λ i. i.digest) items) numbers (counted (length items) numbers (sight actor c) (kind_of (asked.Hold filespace items) free)).1 all
    same_digests asked.Placed free all = refl
