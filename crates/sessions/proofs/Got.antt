-- A file that is read, part by part, and what its bytes are.
use Rattle.std.proofs.Common.{◌≡◌, inl, inr, ℕ, zero, suc, ◌+◌, ◌<◌, ◌≤◌, List, [], ◌∷◌, ◌++◌, length, take, drop, Option, Some, None, Result, Ok, Err, refl, sym, ap, subst, ◌∙◌, append-nil, length-append, take-add, arith}
use Rattle.std.proofs.lemmas.Grind.{flat_map-append}
use Rattle.std.proofs.lemmas.List.{drop-drop, take_all}
use Rattle.entries.specs.declared.change.Change.{Change}
use Rattle.kinds.specs.declared.refusal.Refusal.{Refusal}
use Rattle.kinds.specs.declared.refusal.Refusal.TheVariants as refused
use Rattle.client_files.specs.declared.restoring.Stored.{Stored}
use Rattle.client_files.specs.Restoring.{ReadOn, ReadsAt, read_by, read_in}
use Rattle.inventory_answers.specs.declared.lines.VersionLine.{VersionLine}
use Rattle.inventory_answers.specs.declared.query.Query.{Query}
use Rattle.inventory_answers.specs.declared.query.Query.TheVariants as query
use Rattle.inventory_answers.specs.declared.reply.Answer.{Answer}
use Rattle.inventory_answers.specs.declared.reply.Rows.{Rows}
use Rattle.inventory_answers.specs.declared.reply.Rows.TheVariants as rows
use Rattle.inventory_answers.specs.Clients.{path_versions_of}
use Rattle.inventory_rows.specs.version_groups.Entries.{on_ok}
use Rattle.inventory_rows.specs.State.{Inv}
use Rattle.machine.proofs.Runs.{fits-cut, fits-one, fits-rises}
use Rattle.machine.specs.Fits.{Fits, History, Own, Step, inv, number_after, sight_at}
use Rattle.machine.specs.Machine.{IsAnswer, read_count}
use Rattle.machine.specs.Says.{Says}
use Rattle.machine.specs.State.{Sight}
use Rattle.steps.proofs.Joining.{GoesOn, call_then, does_alone, does_made, so_call, then_call}
use Rattle.steps.specs.Calls.{Call, Does, Made, Then}
use Rattle.steps.specs.Events.{Deed, Event, event}
use Rattle.steps.specs.Events.Deed.{Ask, ReadPiece}
use Rattle.sessions.specs.Asking.{Asks, AsksPath, unasked}
use Rattle.sessions.specs.Getting.{Chooses, Gets, GetsAll, IsActiveVersion, Misses, ReadsWhole, Takes, active_line, stored_of, unread}
use Rattle.sessions.specs.declared.getting.FileRead.{FileRead}

-- ---- questions

pub asks-refused : {S A : Type 0} (did : S → List Event → S → Type 0) (p q : S) (asked : Query) (kind : A → Rows) (why e : Refusal) → Does did p q (Ask asked (Err why)) → e ≡ unasked why
    → Call did p q (λ events. Asks asked kind events (Err e))
asks-refused did p q asked kind why e d same =
    so_call did (λ events. Made (Ask asked (Err why)) events) (λ events. Asks asked kind events (Err e)) p q (does_made did p q (Ask asked (Err why)) d) (λ xs made. inl (why, same, made))

pub asks-answered : {S A : Type 0} (did : S → List Event → S → Type 0) (p q : S) (asked : Query) (kind : A → Rows) (answer : Answer) (result : Result A Refusal) → Does did p q (Ask asked (Ok answer))
    → ((x : A) → result ≡ Ok x → answer.rows ≡ kind x) → ((e : Refusal) → result ≡ Err e → e ≡ refused.Memory) → Call did p q (λ events. Asks asked kind events result)
asks-answered did p q asked kind answer (Ok x) d ok err =
    so_call did (λ events. Made (Ask asked (Ok answer)) events) (λ events. Asks asked kind events (Ok x)) p q (does_made did p q (Ask asked (Ok answer)) d) (λ xs made. (answer, ok x refl, made))
asks-answered did p q asked kind answer (Err e) d ok err =
    so_call did (λ events. Made (Ask asked (Ok answer)) events) (λ events. Asks asked kind events (Err e)) p q (does_made did p q (Ask asked (Ok answer)) d) (λ xs made. inr (answer, err e refl, made))

-- ---- which version

pub chooses-found : {S : Type 0} (did : S → List Event → S → Type 0) (p q : S) (node filespace path : List ℕ) (lines : List VersionLine) (line : VersionLine) (s : Stored)
    → Call did p q (λ events. AsksPath node filespace path events (Ok lines)) → active_line lines ≡ Some line → s ≡ stored_of line
    → Call did p q (λ events. Chooses node filespace path events (Ok s))
chooses-found did p q node filespace path lines line s a found same =
    so_call did (λ events. AsksPath node filespace path events (Ok lines)) (λ events. Chooses node filespace path events (Ok s)) p q a (λ xs f. (lines, line, f, found, same))

pub chooses-none : {S : Type 0} (did : S → List Event → S → Type 0) (p q : S) (node filespace path : List ℕ) (lines : List VersionLine)
    → Call did p q (λ events. AsksPath node filespace path events (Ok lines)) → active_line lines ≡ None
    → Call did p q (λ events. Chooses node filespace path events (Err refused.NotFound))
chooses-none did p q node filespace path lines a none =
    so_call did (λ events. AsksPath node filespace path events (Ok lines)) (λ events. Chooses node filespace path events (Err refused.NotFound)) p q a (λ xs f. inr (lines, f, none, refl))

pub chooses-unasked : {S : Type 0} (did : S → List Event → S → Type 0) (p q : S) (node filespace path : List ℕ) (e : Refusal)
    → Call did p q (λ events. AsksPath node filespace path events (Err e)) → Call did p q (λ events. Chooses node filespace path events (Err e))
chooses-unasked did p q node filespace path e a =
    so_call did (λ events. AsksPath node filespace path events (Err e)) (λ events. Chooses node filespace path events (Err e)) p q a (λ xs f. inl f)

-- ---- pieces

one_read : (s : Stored) (at room n : ℕ) (piece : List ℕ) → 0 < length piece → ReadOn s at (event n (ReadPiece s.object s.digest 0 at room (Ok piece)) ∷ [])
one_read s at room n piece some = ((room, piece, refl, some), tt)

pub takes-read : {S : Type 0} (did : S → List Event → S → Type 0) (p q : S) (s : Stored) (at room count : ℕ) (old new piece : List ℕ)
    → Does did p q (ReadPiece s.object s.digest 0 at room (Ok piece)) → new ≡ old ++ piece → length piece ≡ count → 0 < count → Call did p q (λ events. Takes s at old new events (Ok count))
takes-read did p q s at room count old new piece d put long some =
    does_alone did (λ events. Takes s at old new events (Ok count)) p q (ReadPiece s.object s.digest 0 at room (Ok piece)) d
    (λ n listed. (
      one_read s at room n piece (omega (arith, long, some)),
      put ∙ ap (λ l. old ++ l) (sym (append-nil piece)),
      ap length (append-nil piece) ∙ long,
      some,
    ))
    (λ m. absurd cc)

pub takes-refused : {S : Type 0} (did : S → List Event → S → Type 0) (p q : S) (s : Stored) (at room : ℕ) (old : List ℕ) (why e : Refusal) → Does did p q (ReadPiece s.object s.digest 0 at room (Err why))
    → e ≡ unread why → Call did p q (λ events. Takes s at old old events (Err e))
takes-refused did p q s at room old why e d same =
    so_call did (λ events. Made (ReadPiece s.object s.digest 0 at room (Err why)) events) (λ events. Takes s at old old events (Err e)) p q
    (does_made did p q (ReadPiece s.object s.digest 0 at room (Err why)) d) (λ xs made. inl (room, why, same, made))

pub takes-none : {S : Type 0} (did : S → List Event → S → Type 0) (p q : S) (s : Stored) (at room : ℕ) (old piece : List ℕ) → Does did p q (ReadPiece s.object s.digest 0 at room (Ok piece))
    → piece ≡ [] → Call did p q (λ events. Takes s at old old events (Err refused.Memory))
takes-none did p q s at room old piece d none =
    so_call did (λ events. Made (ReadPiece s.object s.digest 0 at room (Ok [])) events) (λ events. Takes s at old old events (Err refused.Memory)) p q
    (does_made did p q (ReadPiece s.object s.digest 0 at room (Ok [])) (subst (λ (l : List ℕ). Does did p q (ReadPiece s.object s.digest 0 at room (Ok l))) none d))
    (λ xs made. inr (inl (room, refl, made)))

pub takes-unkept : {S : Type 0} (did : S → List Event → S → Type 0) (p q : S) (s : Stored) (at room : ℕ) (old new piece : List ℕ) → Does did p q (ReadPiece s.object s.digest 0 at room (Ok piece))
    → 0 < length piece → Call did p q (λ events. Takes s at old new events (Err refused.Memory))
takes-unkept did p q s at room old new piece d some =
    does_alone did (λ events. Takes s at old new events (Err refused.Memory)) p q (ReadPiece s.object s.digest 0 at room (Ok piece)) d
    (λ n listed. inr (inr (one_read s at room n piece some, refl)))
    (λ m. absurd cc)

-- ---- all of it

read_in-append : (xs ys : List Event) → read_in (xs ++ ys) ≡ read_in xs ++ read_in ys
read_in-append xs ys = flat_map-append (λ (e : Event). read_by e.deed) xs ys

reads_on : (s : Stored) (at : ℕ) (xs ys : List Event) → ReadOn s at xs → ReadOn s (at + length (read_in xs)) ys → ReadOn s at (xs ++ ys)
reads_on s at [] ys a b = subst (λ (k : ℕ). ReadOn s k ys) (omega arith) b
reads_on s at (x ∷ xs) ys a b =
    let long : length (read_by x.deed ++ read_in xs) ≡ length (read_by x.deed) + length (read_in xs) = length-append (read_by x.deed) (read_in xs) in
    (a.0, reads_on s (at + length (read_by x.deed)) xs ys a.1 (subst (λ (k : ℕ). ReadOn s k ys) (omega (arith, long)) b))

-- so many bytes were read so far
abbrev pub Read : Stored → List ℕ → List Event → Type 0
Read s bytes events = ReadOn s 0 events × (read_in events ≡ bytes)

pub read-more : {S : Type 0} (did : S → List Event → S → Type 0) → GoesOn did → (p q r : S) (s : Stored) (at count : ℕ) (old new : List ℕ) → length old ≡ at → Call did p q (Read s old)
    → Call did q r (λ events. Takes s at old new events (Ok count)) → Call did p r (Read s new)
read-more did goes p q r s at count old new long a b =
    call_then did goes (Read s old) (λ events. Takes s at old new events (Ok count)) (Read s new) p q r a b
    (λ xs ys f g. (
      (let here : 0 + length (read_in xs) ≡ at = (let same : length (read_in xs) ≡ length old = ap length f.1 in omega (arith, same, long)) in
          reads_on s 0 xs ys f.0 (subst (λ (k : ℕ). ReadOn s k ys) (sym here) g.0)),
      read_in-append xs ys ∙ ap (λ l. l ++ read_in ys) f.1 ∙ sym g.1,
    ))

pub counted-more : {S : Type 0} (did : S → List Event → S → Type 0) (p q : S) (s : Stored) (at count : ℕ) (old new : List ℕ) → Call did p q (λ events. Takes s at old new events (Ok count))
    → length new ≡ length old + count
counted-more did p q s at count old new a =
    let put : new ≡ old ++ read_in a.0 = a.2.1 in
    ap length put ∙ length-append old (read_in a.0) ∙ ap (λ k. length old + k) a.2.2

pub reads-broken : {S : Type 0} (did : S → List Event → S → Type 0) → GoesOn did → (p q r : S) (s : Stored) (at : ℕ) (old new : List ℕ) (e : Refusal) → length old ≡ at → at < s.size → Call did p q (Read s old)
    → Call did q r (λ events. Takes s at old new events (Err e)) → Call did p r (λ events. ReadsWhole s events (Err e))
reads-broken did goes p q r s at old new e long less a b =
    so_call did (λ events. Then (Read s old) (Misses s at e) events) (λ events. ReadsWhole s events (Err e)) p r (then_call did goes (Read s old) (Misses s at e) p q r a b)
    (λ events f. (old, subst (λ (k : ℕ). k < s.size) (sym long) less, (f.0, f.1, f.2, f.3, subst (λ (k : ℕ). Misses s k e f.1) (sym long) f.4)))

pub reads-whole : {S : Type 0} (did : S → List Event → S → Type 0) (p q : S) (s : Stored) (bytes : List ℕ) → length bytes ≡ s.size → Call did p q (Read s bytes) → Call did p q (λ events. ReadsWhole s events (Ok bytes))
reads-whole did p q s bytes long a = so_call did (Read s bytes) (λ events. ReadsWhole s events (Ok bytes)) p q a (λ xs f. (f.0, f.1, long))

-- ---- a file

pub gets-unchosen : {S : Type 0} (did : S → List Event → S → Type 0) (p q : S) (node filespace path : List ℕ) (e : Refusal) → Call did p q (λ events. Chooses node filespace path events (Err e))
    → Call did p q (λ events. Gets node filespace path events (Err e))
gets-unchosen did p q node filespace path e a = so_call did (λ events. Chooses node filespace path events (Err e)) (λ events. Gets node filespace path events (Err e)) p q a (λ xs f. inl f)

pub gets-broken : {S : Type 0} (did : S → List Event → S → Type 0) → GoesOn did → (p q r : S) (node filespace path : List ℕ) (s : Stored) (e : Refusal) → Call did p q (λ events. Chooses node filespace path events (Ok s))
    → Call did q r (λ events. ReadsWhole s events (Err e)) → Call did p r (λ events. Gets node filespace path events (Err e))
gets-broken did goes p q r node filespace path s e a b =
    so_call did (λ events. Then (λ xs. Chooses node filespace path xs (Ok s)) (λ ys. ReadsWhole s ys (Err e)) events) (λ events. Gets node filespace path events (Err e)) p r
    (then_call did goes (λ events. Chooses node filespace path events (Ok s)) (λ events. ReadsWhole s events (Err e)) p q r a b) (λ xs f. inr (s, f))

pub gets-all : {S : Type 0} (did : S → List Event → S → Type 0) → GoesOn did → (p q r : S) (node filespace path : List ℕ) (s : Stored) (bytes : List ℕ) → Call did p q (λ events. Chooses node filespace path events (Ok s))
    → Call did q r (λ events. ReadsWhole s events (Ok bytes)) → Call did p r (λ events. Gets node filespace path events (Ok (record { object = s.object; size = s.size; bytes = bytes })))
gets-all did goes p q r node filespace path s bytes a b =
    so_call did (λ events. Then (λ xs. Chooses node filespace path xs (Ok s)) (λ ys. ReadsWhole s ys (Ok bytes)) events)
    (λ events. Gets node filespace path events (Ok (record { object = s.object; size = s.size; bytes = bytes }))) p r
    (then_call did goes (λ events. Chooses node filespace path events (Ok s)) (λ events. ReadsWhole s events (Ok bytes)) p q r a b) (λ xs f. (s, refl, refl, f))

-- ---- in a history

-- as many of the first elements as there are among so many
taken-long : (n : ℕ) (xs : List ℕ) → take (length (take n xs)) xs ≡ take n xs
taken-long zero xs = refl
taken-long (suc n) [] = refl
taken-long (suc n) (x ∷ xs) = ap (λ l. x ∷ l) (taken-long n xs)

front-of : (n : ℕ) (bytes xs : List ℕ) → bytes ≡ take n xs → bytes ≡ take (length bytes) xs
front-of n bytes xs h = h ∙ sym (taken-long n xs) ∙ ap (λ (l : List ℕ). take (length l) xs) (sym h)

piece-said : (actor : ℕ) (contents : ℕ → List ℕ) (v : Sight) (s : Stored) (at wanted : ℕ) (bytes : List ℕ) → Says actor contents v (ReadPiece s.object s.digest 0 at wanted (Ok bytes))
    → bytes ≡ take (length bytes) (drop at (contents s.object))
unfolding Says
piece-said actor contents v s at wanted bytes h = front-of (read_count s.object wanted at v.inventory) bytes (drop at (contents s.object)) h.1

by-deed : (actor : ℕ) (contents : ℕ → List ℕ) (v : Sight) (s : Stored) (at : ℕ) (deed : Deed) → ReadsAt s at deed → Says actor contents v deed
    → read_by deed ≡ take (length (read_by deed)) (drop at (contents s.object))
by-deed actor contents v s at deed r h =
    subst (λ (d : Deed). read_by d ≡ take (length (read_by d)) (drop at (contents s.object))) (sym r.2)
    (piece-said actor contents v s at r.0 r.1 (subst (λ (d : Deed). Says actor contents v d) r.2 h))

then-more : (at : ℕ) (a b all : List ℕ) → a ≡ take (length a) (drop at all) → b ≡ take (length b) (drop (at + length a) all) → a ++ b ≡ take (length (a ++ b)) (drop at all)
then-more at a b all first next =
    ap (λ (l : List ℕ). l ++ b) first ∙ ap (λ (l : List ℕ). take (length a) (drop at all) ++ l) (next ∙ ap (λ (l : List ℕ). take (length b) l) (sym (drop-drop (length a) at all)))
    ∙ sym (take-add (length a) (length b) (drop at all)) ∙ ap (λ n. take n (drop at all)) (sym (length-append a b))

reads-fit : (w : History) (actor : ℕ) (s : Stored) (at : ℕ) (old new : Own) (events : List Event) → Fits w actor old events new → ReadOn s at events
    → read_in events ≡ take (length (read_in events)) (drop at (w.contents s.object))
unfolding Fits
reads-fit w actor s at old new [] f r = refl
reads-fit w actor s at old new (e ∷ events) f r =
    then-more at (read_by e.deed) (read_in events) (w.contents s.object) (by-deed actor w.contents (sight_at w old e.n f.1.next_file) s at e.deed r.0 f.1.says)
    (reads-fit w actor s (at + length (read_by e.deed)) f.0 new events f.2 r.1)

whole-contents : (w : History) (actor : ℕ) (old new : Own) (s : Stored) (bytes : List ℕ) (events : List Event) → Fits w actor old events new → ReadsWhole s events (Ok bytes)
    → length (w.contents s.object) ≡ s.size → bytes ≡ w.contents s.object
whole-contents w actor old new s bytes events f r sized =
    let front : read_in events ≡ take (length (read_in events)) (w.contents s.object) = reads-fit w actor s 0 old new events f r.0 in
    let same : length (read_in events) ≡ length bytes = ap length r.1 in
    let long : length bytes ≡ s.size = r.2 in
    sym r.1 ∙ front ∙ take_all (length (read_in events)) (w.contents s.object) (omega (arith, same, long, sized))

no-less : (n : ℕ) (joined : Option Change) → n ≤ number_after n joined
no-less n None = omega arith
no-less n (Some c) = omega arith

abbrev pub rows_in : Result Answer Refusal → Rows
rows_in (Ok a) = a.rows
rows_in (Err e) = rows.Today

-- what was answered is what the database answers
told-rows : (log_length : ℕ) (node filespace path : List ℕ) (v : Inv) (answer : Answer) (lines : List VersionLine) → IsAnswer log_length (query.Path node filespace path) v answer → answer.rows ≡ rows.Versions lines
    → path_versions_of node filespace path v ≡ Ok lines
told-rows log_length node filespace path v answer lines (told, h, same) is =
    elim (path_versions_of node filespace path v) as (λ r. on_ok (λ rows. record { n = v.number; today = v.today; rows = rows }) (on_ok rows.Versions r) ≡ Ok told → r ≡ Ok lines) [
      | Ok it ↦ λ h. (let first : rows.Versions it ≡ rows.Versions lines = ap rows_in h ∙ ap (λ (a : Answer). a.rows) (sym same) ∙ is in cc)
      | Err e ↦ λ h. absurd cc
    ] h

-- a step comes no earlier than the number that the actor had reached, and no later than the one that it has reached then
pub step-between : (w : History) (actor : ℕ) (a b : Own) (e : Event) → Step w actor a e b → (a.reached ≤ e.n) × (e.n ≤ b.reached)
step-between w actor a b e s = (s.since, subst (λ (n : ℕ). e.n ≤ n) (sym s.has.reached) (no-less e.n s.joined))

asked-in : (w : History) (actor : ℕ) (a b : Own) (node filespace path : List ℕ) (answer : Answer) (lines : List VersionLine) (events : List Event) → answer.rows ≡ rows.Versions lines
    → Made (Ask (query.Path node filespace path) (Ok answer)) events → Fits w actor a events b
    → (n : ℕ) × (a.reached ≤ n) × (n ≤ b.reached) × (path_versions_of node filespace path (inv w n) ≡ Ok lines)
unfolding Says
asked-in w actor a b node filespace path answer lines events is (inl h) f =
    let s : Step w actor a (event h.0 (Ask (query.Path node filespace path) (Ok answer))) b = fits-one w actor a b (event h.0 (Ask (query.Path node filespace path) (Ok answer))) (subst (λ (es : List Event). Fits w actor a es b) h.1 f) in
    let between = step-between w actor a b (event h.0 (Ask (query.Path node filespace path) (Ok answer))) s in
    (h.0, between.0, between.1, told-rows s.says.1.0 node filespace path (inv w h.0) answer lines s.says.1.1 is)
asked-in w actor a b node filespace path answer lines events is (inr h) f = absurd cc

pub read-active : (w : History) (actor : ℕ) (old new : Own) (node filespace path : List ℕ) (events : List Event) (r : FileRead) → Fits w actor old events new → GetsAll node filespace path events r
    → IsActiveVersion w old.reached new.reached node filespace path r
read-active w actor old new node filespace path events r f (s, object, size, (xs, ys, cut, (lines, line, (answer, is, made), found, same), whole)) =
    let parts = fits-cut w actor old new xs ys (subst (λ (es : List Event). Fits w actor old es new) cut f) in
    let asked = asked-in w actor old parts.0 node filespace path answer lines xs is made parts.1 in
    let rises : parts.0.reached ≤ new.reached = fits-rises w actor parts.0 new ys parts.2 in
    let until : asked.0 ≤ parts.0.reached = asked.2 in
    let its : s.object ≡ line.object = ap (λ (it : Stored). it.object) same in
    let long : s.size ≡ line.size = ap (λ (it : Stored). it.size) same in (
      asked.0,
      lines,
      line,
      asked.1,
      omega arith,
      asked.3,
      found,
      object ∙ its,
      size ∙ long,
      whole.2 ∙ long,
      λ sized. whole-contents w actor parts.0 new s r.bytes ys parts.2 whole (ap (λ (n : ℕ). length (w.contents n)) its ∙ sized ∙ sym long) ∙ ap w.contents its,
    )
