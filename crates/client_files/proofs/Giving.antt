-- How an object is restored, part by part.
use Rattle.std.proofs.Common.{◌≡◌, ◌≢◌, ◌⊎◌, inl, inr, ℕ, ◌+◌, ◌<◌, ◌≤◌, true, false, if◌then◌else◌, List, [], ◌∷◌, ◌++◌, length, take, Option, None, Some, IfSome, Result, Ok, Err, OnOk, OnErr, refl, sym, ap, subst, ◌∙◌, append-nil, length-append, length-take-le, arith}
use Rattle.std.proofs.lemmas.Grind.{flat_map-append}
use Rattle.std.specs.Option.{option_map}
use Rattle.sha2.specs.Hashers.{Holds256}
use Rattle.sha2.specs.Sha256.{sha256}
use Rattle.sha2.specs.declared.Sha256.{Sha256}
use Rattle.kinds.specs.ValueForms.{digest_with}
use Rattle.kinds.specs.declared.refusal.Refusal.{Refusal}
use Rattle.kinds.specs.declared.refusal.Refusal.TheVariants as refused
use Rattle.kinds.specs.declared.segment.Digest.{Digest}
use Rattle.tree_api.specs.Cause.{Rose}
use Rattle.client_trees.specs.Files.{Files, IsGone, Leaves, appended, created, file_at, finished, others, removed}
use Rattle.client_trees.proofs.Calls.{at-appended, at-created, at-finished, others-appended, others-created, others-finished, others-removed}
use Rattle.steps.proofs.Joining.{GoesOn, call_of_none, call_then, does_alone, does_made, so_call}
use Rattle.steps.specs.Calls.{Call, Does, Made}
use Rattle.steps.specs.Events.{Event, event}
use Rattle.steps.specs.Events.Deed.{ReadPiece}
use Rattle.client_files.specs.declared.outcome.Gave.{Gave}
use Rattle.client_files.specs.declared.outcome.Gave.TheVariants as gave
use Rattle.client_files.specs.declared.restoring.Stored.{Stored}
use Rattle.client_files.specs.Reading.{TreeFails}
use Rattle.client_files.specs.Restoring.{Breaks, CopiesOut, HasFile, HasNone, HasOthers, Leads, LeavesTree, Misses, Moves, ReadOn, ReadsAll, Restoring, Written, given_up, is_unrestored, read_by, read_in}
use Rattle.client_files.specs.Sending.{stopping}

-- ---- a tree through several calls

leads_same : (path : List ℕ) (told : Option Files) → Leads (HasOthers path) told told
leads_same path None = tt
leads_same path (Some files) = refl

pub leads_then : (path : List ℕ) (old mid new : Option Files) → Leads (HasOthers path) old mid → Leads (HasOthers path) mid new → Leads (HasOthers path) old new
leads_then path None mid new a b = tt
leads_then path (Some old) None new a b = elim a [ ]
leads_then path (Some old) (Some mid) None a b = elim b [ ]
leads_then path (Some old) (Some mid) (Some new) a b = b ∙ a

pub leads_by : (path : List ℕ) (change : Files → Files) → ((files : Files) → others path (change files) ≡ others path files) → (old new : Option Files) → new ≡ option_map change old → Leads (HasOthers path) old new
leads_by path change stays None new h = tt
leads_by path change stays (Some old) new h = subst (λ (o : Option Files). Leads (HasOthers path) (Some old) o) (sym h) (stays old)

leads_as : (path : List ℕ) (old new : Option Files) → new ≡ old → Leads (HasOthers path) old new
leads_as path old new h = subst (λ (o : Option Files). Leads (HasOthers path) old o) (sym h) (leads_same path old)

-- a call that failed did what it is for, or nothing
pub leads_either : (path : List ℕ) (change : Files → Files) → ((files : Files) → others path (change files) ≡ others path files) → (old new : Option Files) → (new ≡ old) ⊎ (new ≡ option_map change old)
    → Leads (HasOthers path) old new
leads_either path change stays old new (inl h) = leads_as path old new h
leads_either path change stays old new (inr h) = leads_by path change stays old new h

pub leads_front : (path bytes : List ℕ) (old new : Option Files) → (new ≡ old) ⊎ ((count : ℕ) × (count ≤ length bytes) × (new ≡ option_map (appended path (take count bytes)) old)) → Leads (HasOthers path) old new
leads_front path bytes old new (inl h) = leads_as path old new h
leads_front path bytes old new (inr h) = leads_by path (appended path (take h.0 bytes)) (others-appended path (take h.0 bytes)) old new h.2

pub file_others : (path bytes : List ℕ) (mtime : ℕ) (old new : Option Files) → Leads (HasFile path bytes mtime) old new → Leads (HasOthers path) old new
file_others path bytes mtime None new h = tt
file_others path bytes mtime (Some old) None h = elim h [ ]
file_others path bytes mtime (Some old) (Some new) h = h.0

pub file_begun : (path : List ℕ) (old : Option Files) → IfSome old (λ files. file_at path files ≡ Some (record { bytes = []; mtime = 0 })) → Leads (HasFile path [] 0) old old
file_begun path None h = tt
file_begun path (Some files) h = (refl, h)

pub file_more : (path bytes more : List ℕ) (mtime : ℕ) (old mid new : Option Files) → Leads (HasFile path bytes mtime) old mid → new ≡ option_map (appended path more) mid → Leads (HasFile path (bytes ++ more) mtime) old new
file_more path bytes more mtime None mid new h e = tt
file_more path bytes more mtime (Some old) None new h e = elim h [ ]
file_more path bytes more mtime (Some old) (Some mid) new h e =
    subst (λ (o : Option Files). Leads (HasFile path (bytes ++ more) mtime) (Some old) o) (sym e)
    (others-appended path more mid ∙ h.0, at-appended path more mid (record { bytes = bytes; mtime = mtime }) h.1)

pub file_finished : (path bytes : List ℕ) (before mtime : ℕ) (old mid new : Option Files) → Leads (HasFile path bytes before) old mid → new ≡ option_map (finished path mtime) mid → Leads (HasFile path bytes mtime) old new
file_finished path bytes before mtime None mid new h e = tt
file_finished path bytes before mtime (Some old) None new h e = elim h [ ]
file_finished path bytes before mtime (Some old) (Some mid) new h e =
    subst (λ (o : Option Files). Leads (HasFile path bytes mtime) (Some old) o) (sym e)
    (others-finished path mtime mid ∙ h.0, at-finished path mtime mid (record { bytes = bytes; mtime = before }) h.1)

pub file_over : (path bytes : List ℕ) (mtime : ℕ) (old mid new : Option Files) → Leads (HasOthers path) old mid → Leads (HasFile path bytes mtime) mid new → Leads (HasFile path bytes mtime) old new
file_over path bytes mtime None mid new a b = tt
file_over path bytes mtime (Some old) None new a b = elim a [ ]
file_over path bytes mtime (Some old) (Some mid) None a b = elim b [ ]
file_over path bytes mtime (Some old) (Some mid) (Some new) a b = (b.0 ∙ a, b.1)

pub begun : (path : List ℕ) (old new : Option Files) → new ≡ option_map (created path) old → IfSome new (λ files. file_at path files ≡ Some (record { bytes = []; mtime = 0 }))
begun path None new h = subst (λ (o : Option Files). IfSome o (λ files. file_at path files ≡ Some (record { bytes = []; mtime = 0 }))) (sym h) tt
begun path (Some files) new h =
    subst (λ (o : Option Files). IfSome o (λ files. file_at path files ≡ Some (record { bytes = []; mtime = 0 }))) (sym h) (at-created path (record { bytes = []; mtime = 0 }) files)

-- ---- counts of faults

fails_in : (first before after last : ℕ) (e : Refusal) → first ≤ before → after ≤ last → TreeFails before after e → TreeFails first last e
fails_in first before after last e low high h = let rose : Rose before after = h.1 in (h.0, omega (arith, low, high, rose))

misses_in : (s : Stored) (at first before after last : ℕ) (e : Refusal) (events : List Event) → first ≤ before → after ≤ last → Misses s at before after e events → Misses s at first last e events
misses_in s at first before after last e events low high (inl h) = inl h
misses_in s at first before after last e events low high (inr (inl h)) = inr (inl h)
misses_in s at first before after last e events low high (inr (inr h)) = inr (inr (h.0, fails_in first before after last e low high h.1))

unread_in : (s : Stored) (first before after last : ℕ) (e : Refusal) (events : List Event) → first ≤ before → after ≤ last → ReadsAll s before after events (Err e) → ReadsAll s first last events (Err e)
unread_in s first before after last e events low high h = (h.0, h.1, h.2, h.3, h.4, misses_in s (length (read_in h.0)) first before after last e h.1 low high h.5)

breaks_in : (s : Stored) (before after last : ℕ) (e : Refusal) (events : List Event) → after ≤ last → Breaks s before after e events → Breaks s before last e events
breaks_in s before after last e events high (inl h) = inl (unread_in s before before after last e events (omega arith) high h)
breaks_in s before after last e events high (inr (inl h)) = inr (inl h)
breaks_in s before after last e events high (inr (inr (inl h))) = inr (inr (inl (h.0, fails_in before before after last e (omega arith) high h.1)))
breaks_in s before after last e events high (inr (inr (inr h))) = inr (inr (inr (h.0, fails_in before before after last e (omega arith) high h.1)))

-- ---- pieces

one_read : (s : Stored) (at room n : ℕ) (piece : List ℕ) → 0 < length piece → ReadOn s at (event n (ReadPiece s.object s.digest 0 at room (Ok piece)) ∷ [])
one_read s at room n piece some = ((room, piece, refl, some), tt)

long_of : (count : ℕ) (buffer piece : List ℕ) → piece ≡ take count buffer → 0 < count → count ≤ length buffer → 0 < length piece
long_of count buffer piece same some few =
    let long : length (take count buffer) ≡ count = length-take-le count buffer few in
    let is : length piece ≡ length (take count buffer) = ap length same in
    omega (arith, long, is, some)

pub moves-read : {S : Type 0} (did : S → List Event → S → Type 0) (p q : S) (s : Stored) (path : List ℕ) (at before after room count : ℕ) (old new : Option Files) (buffer piece : List ℕ)
    → Does did p q (ReadPiece s.object s.digest 0 at room (Ok piece)) → piece ≡ take count buffer → 0 < count → count ≤ length buffer → at + count ≤ s.size → new ≡ option_map (appended path (take count buffer)) old
    → Call did p q (λ events. Moves s path at before after old new buffer events (Ok count))
moves-read did p q s path at before after room count old new buffer piece d same some few within put =
    does_alone did (λ events. Moves s path at before after old new buffer events (Ok count)) p q (ReadPiece s.object s.digest 0 at room (Ok piece)) d
    (λ n listed. (one_read s at room n piece (long_of count buffer piece same some few), append-nil piece ∙ same, some, few, within, put))
    (λ m. absurd cc)

pub moves-refused : {S : Type 0} (did : S → List Event → S → Type 0) (p q : S) (s : Stored) (path : List ℕ) (at before after room : ℕ) (told : Option Files) (buffer : List ℕ) (e : Refusal)
    → Does did p q (ReadPiece s.object s.digest 0 at room (Err e)) → Call did p q (λ events. Moves s path at before after told told buffer events (Err e))
moves-refused did p q s path at before after room told buffer e d =
    so_call did (λ events. Made (ReadPiece s.object s.digest 0 at room (Err e)) events) (λ events. Moves s path at before after told told buffer events (Err e)) p q
    (does_made did p q (ReadPiece s.object s.digest 0 at room (Err e)) d) (λ xs made. (inl (room, made), leads_same path told))

pub moves-none : {S : Type 0} (did : S → List Event → S → Type 0) (p q : S) (s : Stored) (path : List ℕ) (at before after room : ℕ) (told : Option Files) (buffer piece : List ℕ)
    → Does did p q (ReadPiece s.object s.digest 0 at room (Ok piece)) → piece ≡ [] → Call did p q (λ events. Moves s path at before after told told buffer events (Err refused.Memory))
moves-none did p q s path at before after room told buffer piece d none =
    so_call did (λ events. Made (ReadPiece s.object s.digest 0 at room (Ok [])) events) (λ events. Moves s path at before after told told buffer events (Err refused.Memory)) p q
    (does_made did p q (ReadPiece s.object s.digest 0 at room (Ok [])) (subst (λ (l : List ℕ). Does did p q (ReadPiece s.object s.digest 0 at room (Ok l))) none d))
    (λ xs made. (inr (inl (room, made, refl)), leads_same path told))

pub moves-unwritten : {S : Type 0} (did : S → List Event → S → Type 0) (p q : S) (s : Stored) (path : List ℕ) (at before after room count : ℕ) (old new : Option Files) (buffer piece : List ℕ)
    → Does did p q (ReadPiece s.object s.digest 0 at room (Ok piece)) → piece ≡ take count buffer → 0 < count → count ≤ length buffer → Rose before after
    → ((new ≡ old) ⊎ ((some : ℕ) × (some ≤ length (take count buffer)) × (new ≡ option_map (appended path (take some (take count buffer))) old)))
    → Call did p q (λ events. Moves s path at before after old new buffer events (Err refused.TreeFault))
moves-unwritten did p q s path at before after room count old new buffer piece d same some few rose put =
    does_alone did (λ events. Moves s path at before after old new buffer events (Err refused.TreeFault)) p q (ReadPiece s.object s.digest 0 at room (Ok piece)) d
    (λ n listed. (inr (inr (one_read s at room n piece (long_of count buffer piece same some few), (refl, rose))), leads_front path (take count buffer) old new put))
    (λ m. absurd cc)

-- ---- all bytes

-- so many bytes were read and put behind one another so far, and the hasher has them
pub record Copied (s : Stored) (path : List ℕ) (old new : Option Files) (done : ℕ) (hasher : Sha256) (events : List Event) : Type 0 where
  pub reads : ReadOn s 0 events
  pub long : length (read_in events) ≡ done
  pub held : Holds256 hasher (read_in events)
  pub tree : Leads (HasFile path (read_in events) 0) old new

pub copied-none : (s : Stored) (path : List ℕ) (old : Option Files) (hasher : Sha256) → IfSome old (λ files. file_at path files ≡ Some (record { bytes = []; mtime = 0 })) → Holds256 hasher []
    → Copied s path old old 0 hasher []
copied-none s path old hasher begun held = record { reads = tt; long = refl; held = held; tree = file_begun path old begun }

read-append : (xs ys : List Event) → read_in (xs ++ ys) ≡ read_in xs ++ read_in ys
read-append xs ys = flat_map-append (λ (e : Event). read_by e.deed) xs ys

read_behind : (s : Stored) (at : ℕ) (xs ys : List Event) → ReadOn s at xs → ReadOn s (at + length (read_in xs)) ys → ReadOn s at (xs ++ ys)
read_behind s at [] ys a b = subst (λ (n : ℕ). ReadOn s n ys) (omega arith) b
read_behind s at (e ∷ xs) ys a b =
    let long : length (read_by e.deed ++ read_in xs) ≡ length (read_by e.deed) + length (read_in xs) = length-append (read_by e.deed) (read_in xs) in
    (a.0, read_behind s (at + length (read_by e.deed)) xs ys a.1 (subst (λ (n : ℕ). ReadOn s n ys) (omega (arith, long)) b))

pub copied-more : {S : Type 0} (did : S → List Event → S → Type 0) → GoesOn did → (p q r : S) (s : Stored) (path : List ℕ) (old mid new : Option Files) (done before after count : ℕ) (buffer : List ℕ) (hasher next : Sha256)
    → Call did p q (λ events. Copied s path old mid done hasher events) → Call did q r (λ events. Moves s path done before after mid new buffer events (Ok count))
    → ((m : List ℕ) → Holds256 hasher m → Holds256 next (m ++ take count buffer)) → Call did p r (λ events. Copied s path old new (done + count) next events)
copied-more did goes p q r s path old mid new done before after count buffer hasher next a b grows =
    call_then did goes (λ events. Copied s path old mid done hasher events) (λ events. Moves s path done before after mid new buffer events (Ok count)) (λ events. Copied s path old new (done + count) next events) p q r a b
    (λ xs ys f m.
    let all : read_in (xs ++ ys) ≡ read_in xs ++ take count buffer = read-append xs ys ∙ ap (λ (l : List ℕ). read_in xs ++ l) m.1 in
    let more : length (read_in xs ++ take count buffer) ≡ length (read_in xs) + length (take count buffer) = length-append (read_in xs) (take count buffer) in
    let taken : length (take count buffer) ≡ count = length-take-le count buffer m.3 in
    let was : length (read_in xs) ≡ done = f.long in
    record {
      reads = read_behind s 0 xs ys f.reads (subst (λ (n : ℕ). ReadOn s n ys) (omega (arith, was)) m.0);
      long = ap length all ∙ omega (arith, more, taken, was);
      held = subst (λ (l : List ℕ). Holds256 next l) (sym all) (grows (read_in xs) f.held);
      tree = subst (λ (l : List ℕ). Leads (HasFile path l 0) old new) (sym all) (file_more path (read_in xs) (take count buffer) 0 old mid new f.tree m.5);
    })

pub written-missed : {S : Type 0} (did : S → List Event → S → Type 0) → GoesOn did → (p q r : S) (s : Stored) (path : List ℕ) (old mid new : Option Files) (done first before after : ℕ) (buffer : List ℕ) (hasher : Sha256) (e : Refusal)
    → Call did p q (λ events. Copied s path old mid done hasher events) → done < s.size → first ≤ before → Call did q r (λ events. Moves s path done before after mid new buffer events (Err e))
    → Call did p r (λ events. Written s path first after old new events (Err e))
written-missed did goes p q r s path old mid new done first before after buffer hasher e a less low b =
    call_then did goes (λ events. Copied s path old mid done hasher events) (λ events. Moves s path done before after mid new buffer events (Err e)) (λ events. Written s path first after old new events (Err e)) p q r a b
    (λ xs ys f m. (
      (
        xs,
        ys,
        refl,
        f.reads,
        subst (λ (n : ℕ). n < s.size) (sym f.long) less,
        subst (λ (n : ℕ). Misses s n first after e ys) (sym f.long) (misses_in s done first before after after e ys low (omega arith) m.0),
      ),
      leads_then path old mid new (file_others path (read_in xs) 0 old mid f.tree) m.1,
    ))

pub written-whole : {S : Type 0} (did : S → List Event → S → Type 0) (p q : S) (s : Stored) (path : List ℕ) (old new : Option Files) (done before after : ℕ) (hasher : Sha256) (hash : List ℕ)
    → Call did p q (λ events. Copied s path old new done hasher events) → done ≡ s.size → ((m : List ℕ) → Holds256 hasher m → hash ≡ sha256 m)
    → Call did p q (λ events. Written s path before after old new events (Ok (digest_with hash)))
written-whole did p q s path old new done before after hasher hash a all ends =
    so_call did (λ events. Copied s path old new done hasher events) (λ events. Written s path before after old new events (Ok (digest_with hash))) p q a
    (λ xs f. ((f.reads, f.long ∙ all, ap digest_with (ends (read_in xs) f.held)), f.tree))

-- ---- a file

pub out-unbegun : {S : Type 0} (did : S → List Event → S → Type 0) (p : S) (s : Stored) (path : List ℕ) (old new : Option Files) (before after : ℕ) → did p [] p → Rose before after
    → ((new ≡ old) ⊎ (new ≡ option_map (created path) old)) → Call did p p (λ events. CopiesOut s path before after old new events (Err refused.TreeFault))
out-unbegun did p s path old new before after stays rose left =
    call_of_none did (λ events. CopiesOut s path before after old new events (Err refused.TreeFault)) p p stays
    (inr (inr (inr (refl, (refl, rose)))), leads_either path (created path) (others-created path (record { bytes = []; mtime = 0 })) old new left)

pub out-unread : {S : Type 0} (did : S → List Event → S → Type 0) (p q : S) (s : Stored) (path : List ℕ) (old mid new : Option Files) (first before after : ℕ) (e : Refusal)
    → mid ≡ option_map (created path) old → first ≤ before → Call did p q (λ events. Written s path before after mid new events (Err e)) → Call did p q (λ events. CopiesOut s path first after old new events (Err e))
out-unread did p q s path old mid new first before after e made low a =
    so_call did (λ events. Written s path before after mid new events (Err e)) (λ events. CopiesOut s path first after old new events (Err e)) p q a
    (λ xs w. (
      inl (unread_in s first before after after e xs low (omega arith) w.0),
      leads_then path old mid new (leads_by path (created path) (others-created path (record { bytes = []; mtime = 0 })) old mid made) w.1,
    ))

pub out-other : {S : Type 0} (did : S → List Event → S → Type 0) (p q : S) (s : Stored) (path : List ℕ) (old mid new : Option Files) (first before after : ℕ) (digest : Digest)
    → mid ≡ option_map (created path) old → s.digest ≢ digest → Call did p q (λ events. Written s path before after mid new events (Ok digest))
    → Call did p q (λ events. CopiesOut s path first after old new events (Err (refused.DigestDiffers s.digest digest)))
out-other did p q s path old mid new first before after digest made differs a =
    so_call did (λ events. Written s path before after mid new events (Ok digest)) (λ events. CopiesOut s path first after old new events (Err (refused.DigestDiffers s.digest digest))) p q a
    (λ xs w. (
      inr (inl (digest, w.0, differs, refl)),
      leads_then path old mid new (leads_by path (created path) (others-created path (record { bytes = []; mtime = 0 })) old mid made) (file_others path (read_in xs) 0 mid new w.1),
    ))

pub out-unfinished : {S : Type 0} (did : S → List Event → S → Type 0) (p q : S) (s : Stored) (path : List ℕ) (old mid then_ new : Option Files) (first before between after : ℕ) (digest : Digest)
    → mid ≡ option_map (created path) old → s.digest ≡ digest → first ≤ between → Rose between after → ((new ≡ then_) ⊎ (new ≡ option_map (finished path s.mtime) then_))
    → Call did p q (λ events. Written s path before between mid then_ events (Ok digest)) → Call did p q (λ events. CopiesOut s path first after old new events (Err refused.TreeFault))
out-unfinished did p q s path old mid then_ new first before between after digest made same low rose left a =
    so_call did (λ events. Written s path before between mid then_ events (Ok digest)) (λ events. CopiesOut s path first after old new events (Err refused.TreeFault)) p q a
    (λ xs w. (
      inr (inr (inl (subst (λ (d : Digest). ReadsAll s first after xs (Ok d)) (sym same) w.0, (refl, omega (arith, low, rose))))),
      leads_then path old mid new (leads_by path (created path) (others-created path (record { bytes = []; mtime = 0 })) old mid made)
          (leads_then path mid then_ new (file_others path (read_in xs) 0 mid then_ w.1) (leads_either path (finished path s.mtime) (others-finished path s.mtime) then_ new left)),
    ))

pub out-whole : {S : Type 0} (did : S → List Event → S → Type 0) (p q : S) (s : Stored) (path : List ℕ) (old mid then_ new : Option Files) (first before between after : ℕ) (digest : Digest)
    → mid ≡ option_map (created path) old → s.digest ≡ digest → new ≡ option_map (finished path s.mtime) then_
    → Call did p q (λ events. Written s path before between mid then_ events (Ok digest)) → Call did p q (λ events. CopiesOut s path first after old new events (Ok tt))
out-whole did p q s path old mid then_ new first before between after digest made same done a =
    so_call did (λ events. Written s path before between mid then_ events (Ok digest)) (λ events. CopiesOut s path first after old new events (Ok tt)) p q a
    (λ xs w. (
      subst (λ (d : Digest). ReadsAll s first after xs (Ok d)) (sym same) w.0,
      file_over path (read_in xs) s.mtime old mid new (leads_by path (created path) (others-created path (record { bytes = []; mtime = 0 })) old mid made)
          (file_finished path (read_in xs) 0 s.mtime mid then_ new w.1 done),
    ))

-- ---- all of it

pub restores-whole : {S : Type 0} (did : S → List Event → S → Type 0) (p q : S) (s : Stored) (path : List ℕ) (old new : Option Files) (before after : ℕ)
    → before ≤ after → Call did p q (λ events. CopiesOut s path before after old new events (Ok tt)) → Call did p q (λ events. Restoring s path before after old new events (Ok gave.Restored))
restores-whole did p q s path old new before after rises a =
    so_call did (λ events. CopiesOut s path before after old new events (Ok tt)) (λ events. Restoring s path before after old new events (Ok gave.Restored)) p q a
    (λ xs w. record { order = inl (w.0, refl); tree = w.1; rises = rises })

leads_gone : (path : List ℕ) (old mid new : Option Files) (before after : ℕ) → Leads (HasOthers path) old mid → new ≡ option_map (removed path) mid → IsGone path new → Leads (HasNone path before after) old new
leads_gone path None mid new before after a h gone = tt
leads_gone path (Some old) None new before after a h gone = elim a [ ]
leads_gone path (Some old) (Some mid) None before after a h gone = absurd cc
leads_gone path (Some old) (Some mid) (Some new) before after a h gone =
    (leads_then path (Some old) (Some mid) (Some new) a (leads_by path (removed path) (others-removed path) (Some mid) (Some new) h), inl gone)

with_rose : (path : List ℕ) (before after : ℕ) (old : Files) (told : Option Files) → Rose before after → Leads (HasOthers path) (Some old) told → Leads (HasNone path before after) (Some old) told
with_rose path before after old None rose l = elim l [ ]
with_rose path before after old (Some files) rose l = (l, inr rose)

leads_rose : (path : List ℕ) (old mid new : Option Files) (before after : ℕ) → Leads (HasOthers path) old mid → ((new ≡ mid) ⊎ (new ≡ option_map (removed path) mid)) → Rose before after → Leads (HasNone path before after) old new
leads_rose path None mid new before after a h rose = tt
leads_rose path (Some old) mid new before after a h rose = with_rose path before after old new rose (leads_then path (Some old) mid new a (leads_either path (removed path) (others-removed path) mid new h))

pub cleared : {E : Type 0} (path : List ℕ) (old mid new : Option Files) (first before after : ℕ) (result : Result (Unit {0}) E) → Leads (HasOthers path) old mid → Leaves result mid new (removed path)
    → OnOk result (IsGone path new) → OnErr result (Rose before after) → first ≤ before → Leads (HasNone path first after) old new
cleared path old mid new first before after (Ok done) a leaves gone rose low = leads_gone path old mid new first after a leaves.0 gone
cleared path old mid new first before after (Err e) a leaves gone rose low = leads_rose path old mid new first after a leaves.1 (omega (arith, rose, low))

given_leaves : (s : Stored) (path : List ℕ) (before after : ℕ) (events : List Event) (old new : Option Files) (e : Refusal) → Leads (HasNone path before after) old new
    → LeavesTree s path before after events old new (given_up e)
given_leaves s path before after events old new e h = elim (is_unrestored e) as (λ b. LeavesTree s path before after events old new (if b then Ok (gave.Failed e) else Err (stopping e))) [
  | true ↦ h
  | false ↦ h
]

pub restores-not : {S : Type 0} {E : Type 0} (did : S → List Event → S → Type 0) (p q : S) (s : Stored) (path : List ℕ) (old mid new : Option Files) (first before after : ℕ) (e : Refusal)
    (removing : Result (Unit {0}) E) (result : Result Gave Refusal) → Call did p q (λ events. CopiesOut s path first before old mid events (Err e)) → Leaves removing mid new (removed path)
    → OnOk removing (IsGone path new) → OnErr removing (Rose before after) → first ≤ before → before ≤ after → result ≡ given_up e
    → Call did p q (λ events. Restoring s path first after old new events result)
restores-not did p q s path old mid new first before after e removing result a leaves gone rose low high is =
    so_call did (λ events. CopiesOut s path first before old mid events (Err e)) (λ events. Restoring s path first after old new events result) p q a
    (λ xs w. record {
      order = inr (e, breaks_in s first before after e xs high w.0, is);
      tree = subst (λ (r : Result Gave Refusal). LeavesTree s path first after xs old new r) (sym is)
          (given_leaves s path first after xs old new e (cleared path old mid new first before after removing w.1 leaves gone rose low));
      rises = omega (arith, low, high);
    })
