-- How a copy is read, part by part.
use Rattle.std.proofs.Common.{◌≡◌, ◌≢◌, inl, inr, ℕ, ◌+◌, ◌<◌, ◌≤◌, List, [], ◌∷◌, ◌++◌, length, take, Result, Ok, Err, refl, sym, ap, subst, ◌∙◌, append-nil, length-append, length-take-le, arith}
use Rattle.std.proofs.lemmas.Grind.{flat_map-append}
use Rattle.sha2.specs.Hashers.{Holds256}
use Rattle.sha2.specs.Sha256.{sha256}
use Rattle.sha2.specs.declared.Sha256.{Sha256}
use Rattle.kinds.specs.ValueForms.{digest_with}
use Rattle.kinds.specs.declared.refusal.Refusal.{Refusal}
use Rattle.kinds.specs.declared.refusal.Refusal.TheVariants as refused
use Rattle.kinds.specs.declared.segment.Digest.{Digest}
use Rattle.client_files.specs.Restoring.{read_by, read_in}
use Rattle.inventory_work.specs.declared.lines.CopyLine.{CopyLine}
use Rattle.steps.proofs.Joining.{GoesOn, call_of_none, call_then, does_alone, does_made, so_call}
use Rattle.steps.specs.Calls.{Call, Does, Made}
use Rattle.steps.specs.Events.{Event, event}
use Rattle.steps.specs.Events.Deed.{ReadPiece}
use Rattle.volume_audits.specs.declared.looking.Found.{Found}
use Rattle.volume_audits.specs.declared.looking.Found.TheVariants as found
use Rattle.volume_audits.specs.Looking.{Looks, Misses, ReadOn, ReadsAll, ReadsNext, unread}

-- ---- pieces

one_read : (s : CopyLine) (at room n : ℕ) (piece : List ℕ) → 0 < length piece → ReadOn s at (event n (ReadPiece s.object s.digest s.pool at room (Ok piece)) ∷ [])
one_read s at room n piece some = ((room, piece, refl, some), tt)

long_of : (count : ℕ) (buffer piece : List ℕ) → piece ≡ take count buffer → 0 < count → count ≤ length buffer → 0 < length piece
long_of count buffer piece same some few =
    let long : length (take count buffer) ≡ count = length-take-le count buffer few in
    let is : length piece ≡ length (take count buffer) = ap length same in
    omega (arith, long, is, some)

pub next-read : {S : Type 0} (did : S → List Event → S → Type 0) (p q : S) (s : CopyLine) (at room count : ℕ) (buffer piece : List ℕ) → Does did p q (ReadPiece s.object s.digest s.pool at room (Ok piece)) → piece ≡ take count buffer
    → 0 < count → count ≤ length buffer → Call did p q (λ events. ReadsNext s at buffer events (Ok count))
next-read did p q s at room count buffer piece d same some few =
    does_alone did (λ events. ReadsNext s at buffer events (Ok count)) p q (ReadPiece s.object s.digest s.pool at room (Ok piece)) d
    (λ n listed. (one_read s at room n piece (long_of count buffer piece same some few), append-nil piece ∙ same, some, few))
    (λ m. absurd cc)

pub next-refused : {S : Type 0} (did : S → List Event → S → Type 0) (p q : S) (s : CopyLine) (at room : ℕ) (buffer : List ℕ) (e : Refusal) → Does did p q (ReadPiece s.object s.digest s.pool at room (Err e))
    → Call did p q (λ events. ReadsNext s at buffer events (Err e))
next-refused did p q s at room buffer e d =
    so_call did (λ events. Made (ReadPiece s.object s.digest s.pool at room (Err e)) events) (λ events. ReadsNext s at buffer events (Err e)) p q
    (does_made did p q (ReadPiece s.object s.digest s.pool at room (Err e)) d) (λ xs made. inl (room, made))

pub next-none : {S : Type 0} (did : S → List Event → S → Type 0) (p q : S) (s : CopyLine) (at room : ℕ) (buffer piece : List ℕ) → Does did p q (ReadPiece s.object s.digest s.pool at room (Ok piece)) → piece ≡ []
    → Call did p q (λ events. ReadsNext s at buffer events (Err refused.Memory))
next-none did p q s at room buffer piece d none =
    so_call did (λ events. Made (ReadPiece s.object s.digest s.pool at room (Ok [])) events) (λ events. ReadsNext s at buffer events (Err refused.Memory)) p q
    (does_made did p q (ReadPiece s.object s.digest s.pool at room (Ok [])) (subst (λ (l : List ℕ). Does did p q (ReadPiece s.object s.digest s.pool at room (Ok l))) none d))
    (λ xs made. inr (room, made, refl))

-- ---- all bytes

-- so many bytes were read so far, and the hasher has them
pub record Read (s : CopyLine) (done : ℕ) (hasher : Sha256) (events : List Event) : Type 0 where
  pub reads : ReadOn s 0 events
  pub long : length (read_in events) ≡ done
  pub held : Holds256 hasher (read_in events)

pub read-none : (s : CopyLine) (hasher : Sha256) → Holds256 hasher [] → Read s 0 hasher []
read-none s hasher held = record { reads = tt; long = refl; held = held }

read-append : (xs ys : List Event) → read_in (xs ++ ys) ≡ read_in xs ++ read_in ys
read-append xs ys = flat_map-append (λ (e : Event). read_by e.deed) xs ys

read_behind : (s : CopyLine) (at : ℕ) (xs ys : List Event) → ReadOn s at xs → ReadOn s (at + length (read_in xs)) ys → ReadOn s at (xs ++ ys)
read_behind s at [] ys a b = subst (λ (n : ℕ). ReadOn s n ys) (omega arith) b
read_behind s at (e ∷ xs) ys a b =
    let long : length (read_by e.deed ++ read_in xs) ≡ length (read_by e.deed) + length (read_in xs) = length-append (read_by e.deed) (read_in xs) in
    (a.0, read_behind s (at + length (read_by e.deed)) xs ys a.1 (subst (λ (n : ℕ). ReadOn s n ys) (omega (arith, long)) b))

pub read-more : {S : Type 0} (did : S → List Event → S → Type 0) → GoesOn did → (p q r : S) (s : CopyLine) (done count : ℕ) (buffer : List ℕ) (hasher next : Sha256) → Call did p q (λ events. Read s done hasher events)
    → Call did q r (λ events. ReadsNext s done buffer events (Ok count)) → ((m : List ℕ) → Holds256 hasher m → Holds256 next (m ++ take count buffer)) → Call did p r (λ events. Read s (done + count) next events)
read-more did goes p q r s done count buffer hasher next a b grows =
    call_then did goes (λ events. Read s done hasher events) (λ events. ReadsNext s done buffer events (Ok count)) (λ events. Read s (done + count) next events) p q r a b
    (λ xs ys f m.
    let all : read_in (xs ++ ys) ≡ read_in xs ++ take count buffer = read-append xs ys ∙ ap (λ (l : List ℕ). read_in xs ++ l) m.1 in
    let more : length (read_in xs ++ take count buffer) ≡ length (read_in xs) + length (take count buffer) = length-append (read_in xs) (take count buffer) in
    let taken : length (take count buffer) ≡ count = length-take-le count buffer m.3 in
    let was : length (read_in xs) ≡ done = f.long in
    record {
      reads = read_behind s 0 xs ys f.reads (subst (λ (n : ℕ). ReadOn s n ys) (omega (arith, was)) m.0);
      long = ap length all ∙ omega (arith, more, taken, was);
      held = subst (λ (l : List ℕ). Holds256 next l) (sym all) (grows (read_in xs) f.held);
    })

pub read-missed : {S : Type 0} (did : S → List Event → S → Type 0) → GoesOn did → (p q r : S) (s : CopyLine) (done : ℕ) (buffer : List ℕ) (hasher : Sha256) (e : Refusal) → Call did p q (λ events. Read s done hasher events) → done < s.size
    → Call did q r (λ events. ReadsNext s done buffer events (Err e)) → Call did p r (λ events. ReadsAll s events (Err e))
read-missed did goes p q r s done buffer hasher e a less b =
    call_then did goes (λ events. Read s done hasher events) (λ events. ReadsNext s done buffer events (Err e)) (λ events. ReadsAll s events (Err e)) p q r a b
    (λ xs ys f m. (xs, ys, refl, f.reads, subst (λ (n : ℕ). n < s.size) (sym f.long) less, subst (λ (n : ℕ). Misses s n e ys) (sym f.long) m))

pub read-whole : {S : Type 0} (did : S → List Event → S → Type 0) (p q : S) (s : CopyLine) (done : ℕ) (hasher : Sha256) (hash : List ℕ) → Call did p q (λ events. Read s done hasher events) → done ≡ s.size
    → ((m : List ℕ) → Holds256 hasher m → hash ≡ sha256 m) → Call did p q (λ events. ReadsAll s events (Ok (digest_with hash)))
read-whole did p q s done hasher hash a all ends =
    so_call did (λ events. Read s done hasher events) (λ events. ReadsAll s events (Ok (digest_with hash))) p q a (λ xs f. (f.reads, f.long ∙ all, ap digest_with (ends (read_in xs) f.held)))

-- ---- a copy

pub looks-sound : {S : Type 0} (did : S → List Event → S → Type 0) (p q : S) (s : CopyLine) (digest : Digest) → s.digest ≡ digest → Call did p q (λ events. ReadsAll s events (Ok digest)) → Call did p q (λ events. Looks s events (Ok found.Sound))
looks-sound did p q s digest same a =
    so_call did (λ events. ReadsAll s events (Ok digest)) (λ events. Looks s events (Ok found.Sound)) p q a (λ xs f. inl (subst (λ (d : Digest). ReadsAll s xs (Ok d)) (sym same) f, refl))

pub looks-damaged : {S : Type 0} (did : S → List Event → S → Type 0) (p q : S) (s : CopyLine) (digest : Digest) → s.digest ≢ digest → Call did p q (λ events. ReadsAll s events (Ok digest))
    → Call did p q (λ events. Looks s events (Ok (found.Damaged digest)))
looks-damaged did p q s digest differs a =
    so_call did (λ events. ReadsAll s events (Ok digest)) (λ events. Looks s events (Ok (found.Damaged digest))) p q a (λ xs f. inr (inl (digest, f, differs, refl)))

pub looks-not : {S : Type 0} (did : S → List Event → S → Type 0) (p q : S) (s : CopyLine) (e : Refusal) (result : Result Found Refusal) → result ≡ unread e → Call did p q (λ events. ReadsAll s events (Err e))
    → Call did p q (λ events. Looks s events result)
looks-not did p q s e result is a = so_call did (λ events. ReadsAll s events (Err e)) (λ events. Looks s events result) p q a (λ xs f. inr (inr (e, f, is)))

-- what was found is told as what it is
pub looks-is : {S : Type 0} (did : S → List Event → S → Type 0) (p q : S) (s : CopyLine) (told is : Found) → told ≡ is → Call did p q (λ events. Looks s events (Ok told)) → Call did p q (λ events. Looks s events (Ok is))
looks-is did p q s told is same a = subst (λ (it : Found). Call did p q (λ events. Looks s events (Ok it))) same a
