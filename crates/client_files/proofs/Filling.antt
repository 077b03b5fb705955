-- How a file is sent, part by part.
use Rattle.std.proofs.Common.{◌≡◌, ◌⊎◌, inl, inr, ℕ, ◌+◌, ◌<◌, ◌≤◌, false, List, [], ◌∷◌, ◌++◌, length, take, drop, Option, None, Some, IfSome, Result, Ok, Err, refl, sym, ap, subst, ◌∙◌, append-nil, length-append, length-take-le, take-add, arith}
use Rattle.std.proofs.lemmas.Grind.{flat_map-append}
use Rattle.std.specs.List.{AllByRecursion}
use Rattle.sha2.specs.Hashers.{Holds256}
use Rattle.sha2.specs.Sha256.{sha256}
use Rattle.sha2.specs.declared.Sha256.{Sha256}
use Rattle.kinds.specs.ValueForms.{digest_with}
use Rattle.kinds.specs.declared.refusal.Refusal.{Refusal}
use Rattle.kinds.specs.declared.segment.Digest.{Digest}
use Rattle.client_trees.specs.Files.{ClientFile}
use Rattle.steps.proofs.Joining.{GoesOn, does_alone, does_made, makes_step, so_call, then_call, then_does}
use Rattle.steps.specs.Calls.{Call, Does, IsStep, Made, MakesStep, Then}
use Rattle.steps.specs.Events.{Event, event}
use Rattle.steps.specs.Events.Deed.{OpenNew, WritePiece, Seal, DropTicket}
use Rattle.tree_api.specs.Cause.{Rose}
use Rattle.client_files.specs.declared.outcome.Came.{Came}
use Rattle.client_files.specs.declared.outcome.Came.TheVariants as came
use Rattle.client_files.specs.Reading.{EndsEarly, GoesOn as Longer, TreeFails}
use Rattle.client_files.specs.Sending.{Copies, GivesUp, Writes, Wrote, behind_drop, bytes_by, is_spent_by, unopened, unwritten, written}
use Rattle.client_files.specs.Writing.{Closes, Keeps, Loads, Puts}

-- ---- pieces

-- so many bytes were written so far, and the hasher has them
pub record Sent (file : Option ClientFile) (ticket done : ℕ) (hasher : Sha256) (events : List Event) : Type 0 where
  pub bytes : List ℕ
  pub wrote : Wrote file ticket bytes events
  pub long : length bytes ≡ done
  pub held : Holds256 hasher bytes

front_none : (file : Option ClientFile) → IfSome file (λ f. take 0 f.bytes ≡ [])
front_none None = tt
front_none (Some f) = refl

pub sent-none : (file : Option ClientFile) (ticket : ℕ) (hasher : Sha256) → Holds256 hasher [] → Sent file ticket 0 hasher []
sent-none file ticket hasher held = record { bytes = []; wrote = record { only = tt; whole = refl; front = front_none file }; long = refl; held = held }

all-behind : (P : Event → Type 0) (xs : List Event) (e : Event) → AllByRecursion P xs → P e → AllByRecursion P (xs ++ e ∷ [])
all-behind P [] e h last = (last, tt)
all-behind P (x ∷ xs) e h last = (h.0, all-behind P xs e h.1 last)

front_more : (file : Option ClientFile) (bytes piece : List ℕ) → IfSome file (λ f. take (length bytes) f.bytes ≡ bytes) → IfSome file (λ f. piece ≡ take (length piece) (drop (length bytes) f.bytes))
    → IfSome file (λ f. take (length (bytes ++ piece)) f.bytes ≡ bytes ++ piece)
front_more None bytes piece h next = tt
front_more (Some f) bytes piece h next =
    ap (λ n. take n f.bytes) (length-append bytes piece) ∙ take-add (length bytes) (length piece) f.bytes ∙ ap (λ l. l ++ take (length piece) (drop (length bytes) f.bytes)) h
    ∙ ap (λ l. bytes ++ l) (sym next)

written_behind : (ticket answer : ℕ) (xs : List Event) (bytes piece : List ℕ) (n : ℕ) → written xs ≡ bytes → written (xs ++ event n (WritePiece ticket piece (Ok answer)) ∷ []) ≡ bytes ++ piece
written_behind ticket answer xs bytes piece n h =
    flat_map-append (λ (e : Event). bytes_by e.deed) xs (event n (WritePiece ticket piece (Ok answer)) ∷ [])
    ∙ ap (λ l. l ++ (piece ++ [])) h ∙ ap (λ l. bytes ++ l) (append-nil piece)

pub sent-more : {S : Type 0} (did : S → List Event → S → Type 0) → GoesOn did → (p q r : S) (file : Option ClientFile) (ticket done answer : ℕ) (piece : List ℕ) (old new : Sha256)
    → Call did p q (λ events. Sent file ticket done old events) → Does did q r (WritePiece ticket piece (Ok answer)) → IfSome file (λ f. piece ≡ take (length piece) (drop done f.bytes))
    → ((m : List ℕ) → Holds256 old m → Holds256 new (m ++ piece)) → Call did p r (λ events. Sent file ticket (done + length piece) new events)
sent-more did goes p q r file ticket done answer piece old new a d next grows =
    then_does did goes (λ events. Sent file ticket done old events) (λ events. Sent file ticket (done + length piece) new events) p q r (WritePiece ticket piece (Ok answer)) a d
    (λ xs f n listed. record {
      bytes = f.bytes ++ piece;
      wrote = record {
        only = all-behind (λ e. Writes ticket e.deed) xs (event n (WritePiece ticket piece (Ok answer))) f.wrote.only refl;
        whole = written_behind ticket answer xs f.bytes piece n f.wrote.whole;
        front = front_more file f.bytes piece f.wrote.front (subst (λ (k : ℕ). IfSome file (λ f. piece ≡ take (length piece) (drop k f.bytes))) (sym f.long) next);
      };
      long = length-append f.bytes piece ∙ ap (λ n. n + length piece) f.long;
      held = grows f.bytes f.held;
    })
    (λ xs f m. absurd cc)

-- a count that rose from a later value rose from an earlier one
rose_from : (first before after : ℕ) → first ≤ before → Rose before after → Rose first after
rose_from first before after low rose = omega (arith, low, rose)

pub tree_fails : (first before after : ℕ) (e : Refusal) → first ≤ before → TreeFails before after e → TreeFails first after e
tree_fails first before after e low h = (h.0, rose_from first before after low h.1)

-- the tree gave no next piece
pub copies-unread : {S : Type 0} (did : S → List Event → S → Type 0) (p q : S) (file : Option ClientFile) (ticket size done : ℕ) (hasher : Sha256) (first before after : ℕ) (e : Refusal)
    → Call did p q (λ events. Sent file ticket done hasher events) → done < size → first ≤ before → (TreeFails before after e ⊎ EndsEarly file done size e)
    → Call did p q (λ events. Copies file ticket size first after events (Err e))
copies-unread did p q file ticket size done hasher first before after e a less low (inl h) =
    so_call did (λ events. Sent file ticket done hasher events) (λ events. Copies file ticket size first after events (Err e)) p q a
    (λ xs f. (f.bytes, subst (λ (k : ℕ). k < size) (sym f.long) less, (xs, [], sym (append-nil xs), f.wrote, inl (refl, inl (tree_fails first before after e low h)))))
copies-unread did p q file ticket size done hasher first before after e a less low (inr h) =
    so_call did (λ events. Sent file ticket done hasher events) (λ events. Copies file ticket size first after events (Err e)) p q a
    (λ xs f. (f.bytes, subst (λ (k : ℕ). k < size) (sym f.long) less, (xs, [], sym (append-nil xs), f.wrote, inl (refl, inr (subst (λ (k : ℕ). EndsEarly file k size e) (sym f.long) h)))))

-- a piece wasn't written
pub copies-unwritten : {S : Type 0} (did : S → List Event → S → Type 0) → GoesOn did
    → (p q r : S) (file : Option ClientFile) (ticket size done : ℕ) (hasher : Sha256) (before after : ℕ) (piece : List ℕ) (why e : Refusal)
    → Call did p q (λ events. Sent file ticket done hasher events) → done < size → Does did q r (WritePiece ticket piece (Err why)) → e ≡ unwritten why
    → Call did p r (λ events. Copies file ticket size before after events (Err e))
copies-unwritten did goes p q r file ticket size done hasher before after piece why e a less d same =
    so_call did (λ events. Then (λ xs. Sent file ticket done hasher xs) (λ ys. Made (WritePiece ticket piece (Err why)) ys) events) (λ events. Copies file ticket size before after events (Err e)) p r
    (then_call did goes (λ events. Sent file ticket done hasher events) (λ events. Made (WritePiece ticket piece (Err why)) events) p q r a (does_made did q r (WritePiece ticket piece (Err why)) d))
    (λ xs f. (f.3.bytes, subst (λ (k : ℕ). k < size) (sym f.3.long) less, (f.0, f.1, f.2, f.3.wrote, inr (piece, why, same, f.4))))

-- all bytes are written
pub copies-whole : {S : Type 0} (did : S → List Event → S → Type 0) (p q : S) (file : Option ClientFile) (ticket size done : ℕ) (hasher : Sha256) (before after : ℕ) (hash : List ℕ)
    → Call did p q (λ events. Sent file ticket done hasher events) → done ≡ size → ((m : List ℕ) → Holds256 hasher m → hash ≡ sha256 m)
    → Call did p q (λ events. Copies file ticket size before after events (Ok (digest_with hash)))
copies-whole did p q file ticket size done hasher before after hash a all ends =
    so_call did (λ events. Sent file ticket done hasher events) (λ events. Copies file ticket size before after events (Ok (digest_with hash))) p q a
    (λ xs f. (f.bytes, f.wrote, f.long ∙ all, ap digest_with (ends f.bytes f.held)))

-- ---- a ticket

pub loads-broken : {S : Type 0} (did : S → List Event → S → Type 0) (p q : S) (file : Option ClientFile) (ticket size before after : ℕ) (e : Refusal)
    → Call did p q (λ events. Copies file ticket size before after events (Err e)) → Call did p q (λ events. Loads file ticket size before after events (Err e))
loads-broken did p q file ticket size before after e a =
    so_call did (λ events. Copies file ticket size before after events (Err e)) (λ events. Loads file ticket size before after events (Err e)) p q a (λ xs f. inl f)

pub loads-longer : {S : Type 0} (did : S → List Event → S → Type 0) (p q : S) (file : Option ClientFile) (ticket size first before after : ℕ) (digest : Digest) (e : Refusal)
    → Call did p q (λ events. Copies file ticket size first before events (Ok digest)) → first ≤ before → (TreeFails before after e ⊎ Longer file size e)
    → Call did p q (λ events. Loads file ticket size first after events (Err e))
loads-longer did p q file ticket size first before after digest e a low (inl h) =
    so_call did (λ events. Copies file ticket size first before events (Ok digest)) (λ events. Loads file ticket size first after events (Err e)) p q a
    (λ xs f. inr (digest, f, inl (tree_fails first before after e low h)))
loads-longer did p q file ticket size first before after digest e a low (inr h) =
    so_call did (λ events. Copies file ticket size first before events (Ok digest)) (λ events. Loads file ticket size first after events (Err e)) p q a
    (λ xs f. inr (digest, f, inr h))

pub loads-whole : {S : Type 0} (did : S → List Event → S → Type 0) (p q : S) (file : Option ClientFile) (ticket size first before after : ℕ) (digest : Digest)
    → Call did p q (λ events. Copies file ticket size first before events (Ok digest)) → IfSome file (λ f. length f.bytes ≤ size)
    → Call did p q (λ events. Loads file ticket size first after events (Ok digest))
loads-whole did p q file ticket size first before after digest a ended =
    so_call did (λ events. Copies file ticket size first before events (Ok digest)) (λ events. Loads file ticket size first after events (Ok digest)) p q a (λ xs f. (ended, f))

pub gives-back : {S : Type 0} (did : S → List Event → S → Type 0) (p q : S) (ticket : ℕ) (e : Refusal) (result : Result Came Refusal) → is_spent_by e ≡ false
    → (answer : Result (Unit {0}) Refusal) × MakesStep did p q (DropTicket ticket answer) × (result ≡ behind_drop e answer) → Call did p q (λ events. GivesUp ticket e events result)
gives-back did p q ticket e result spent d =
    so_call did (λ events. IsStep (DropTicket ticket d.0) events) (λ events. GivesUp ticket e events result) p q (makes_step did p q (DropTicket ticket d.0) d.1)
    (λ xs f. inr (spent, d.0, f, d.2))

pub keeps-written : {S : Type 0} (did : S → List Event → S → Type 0) (p q : S) (file : Option ClientFile) (ticket size before after : ℕ) (digest : Digest)
    → Call did p q (λ events. Loads file ticket size before after events (Ok digest)) → Call did p q (λ events. Keeps file ticket size before after events (Ok (came.Written ticket digest)))
keeps-written did p q file ticket size before after digest a =
    so_call did (λ events. Loads file ticket size before after events (Ok digest)) (λ events. Keeps file ticket size before after events (Ok (came.Written ticket digest))) p q a
    (λ xs f. inl (digest, f, refl))

pub keeps-given : {S : Type 0} (did : S → List Event → S → Type 0) → GoesOn did → (p q r : S) (file : Option ClientFile) (ticket size before after : ℕ) (e : Refusal) (result : Result Came Refusal)
    → Call did p q (λ events. Loads file ticket size before after events (Err e)) → Call did q r (λ events. GivesUp ticket e events result)
    → Call did p r (λ events. Keeps file ticket size before after events result)
keeps-given did goes p q r file ticket size before after e result a b =
    so_call did (λ events. Then (λ xs. Loads file ticket size before after xs (Err e)) (λ ys. GivesUp ticket e ys result) events) (λ events. Keeps file ticket size before after events result) p r
    (then_call did goes (λ events. Loads file ticket size before after events (Err e)) (λ events. GivesUp ticket e events result) p q r a b)
    (λ xs f. inr (e, f))

-- ---- a file

pub puts-unopened : {S : Type 0} (did : S → List Event → S → Type 0) (p q : S) (file : Option ClientFile) (pool size before after : ℕ) (e : Refusal) (result : Result Came Refusal)
    → Does did p q (OpenNew pool size 0 (Err e)) → result ≡ unopened e → Call did p q (λ events. Puts file pool size before after events result)
puts-unopened did p q file pool size before after e result d same =
    so_call did (λ events. Made (OpenNew pool size 0 (Err e)) events) (λ events. Puts file pool size before after events result) p q (does_made did p q (OpenNew pool size 0 (Err e)) d)
    (λ xs f. inl (e, f, same))

pub puts-opened : {S : Type 0} (did : S → List Event → S → Type 0) → GoesOn did → (p q r : S) (file : Option ClientFile) (pool size before after ticket : ℕ) (result : Result Came Refusal)
    → Does did p q (OpenNew pool size 0 (Ok ticket)) → Call did q r (λ events. Keeps file ticket size before after events result)
    → Call did p r (λ events. Puts file pool size before after events result)
puts-opened did goes p q r file pool size before after ticket result d b =
    so_call did (λ events. Then (λ xs. Made (OpenNew pool size 0 (Ok ticket)) xs) (λ ys. Keeps file ticket size before after ys result) events) (λ events. Puts file pool size before after
    events result) p r
    (then_call did goes (λ events. Made (OpenNew pool size 0 (Ok ticket)) events) (λ events. Keeps file ticket size before after events result) p q r
    (does_made did p q (OpenNew pool size 0 (Ok ticket)) d) b)
    (λ xs f. inr (ticket, f))

-- ---- its ticket is sealed

pub closes-sealed : {S : Type 0} (did : S → List Event → S → Type 0) (p q : S) (c : Came) (ticket : ℕ) (digest : Digest) → c ≡ came.Written ticket digest → Does did p q (Seal ticket (Ok tt))
    → Call did p q (λ events. Closes c events (Ok (came.Written ticket digest)))
closes-sealed did p q c ticket digest is d =
    subst (λ (x : Came). Call did p q (λ events. Closes x events (Ok (came.Written ticket digest)))) (sym is)
    (does_alone did (λ events. Closes (came.Written ticket digest) events (Ok (came.Written ticket digest))) p q (Seal ticket (Ok tt)) d (λ n listed. inl ((n, refl, listed), refl)) (λ m. absurd cc))

pub closes-given : {S : Type 0} (did : S → List Event → S → Type 0) → GoesOn did → (p q r : S) (c : Came) (ticket : ℕ) (digest : Digest) (why e : Refusal) (result : Result Came Refusal) → c ≡ came.Written ticket digest
    → Does did p q (Seal ticket (Err why)) → e ≡ unwritten why → Call did q r (λ events. GivesUp ticket e events result) → Call did p r (λ events. Closes c events result)
closes-given did goes p q r c ticket digest why e result is d same b =
    subst (λ (x : Came). Call did p r (λ events. Closes x events result)) (sym is)
    (so_call did (λ events. Then (λ xs. Made (Seal ticket (Err why)) xs) (λ ys. GivesUp ticket e ys result) events) (λ events. Closes (came.Written ticket digest) events result) p r
    (then_call did goes (λ events. Made (Seal ticket (Err why)) events) (λ events. GivesUp ticket e events result) p q r (does_made did p q (Seal ticket (Err why)) d) b)
    (λ xs f. inr (why, subst (λ (x : Refusal). Then (λ xs. Made (Seal ticket (Err why)) xs) (λ ys. GivesUp ticket x ys result) xs) same f)))

-- the bytes at the front of the buffer, as a piece
pub next_of : (file : Option ClientFile) (buffer : List ℕ) (done count : ℕ) → count ≤ length buffer → IfSome file (λ f. take count buffer ≡ take count (drop done f.bytes))
    → IfSome file (λ f. take count buffer ≡ take (length (take count buffer)) (drop done f.bytes))
next_of None buffer done count room h = tt
next_of (Some f) buffer done count room h = h ∙ ap (λ n. take n (drop done f.bytes)) (sym (length-take-le count buffer room))
