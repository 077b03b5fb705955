-- Over objects that have the bytes that were stored nothing is damaged.
use Rattle.std.proofs.Common.{◌≡◌, ◌≢◌, ◌⊎◌, inl, inr, ℕ, zero, suc, ◌+◌, ◌≤◌, nat_le, Bool, true, false, if◌then◌else◌, List, [], ◌∷◌, ◌++◌, map, length, take, drop, Result, Ok, Err, refl, sym, ap, subst, ◌∙◌, length-append, take-add, arith}
use Rattle.std.proofs.lemmas.Bool.{false≢true}
use Rattle.std.proofs.lemmas.List.{drop-drop, take_all}
use Rattle.std.specs.List.{AllByRecursion, flat_map}
use Rattle.sha2.specs.Sha256.{sha256}
use Rattle.kinds.specs.ValueForms.{digest_with}
use Rattle.kinds.specs.declared.refusal.Refusal.{Refusal}
use Rattle.kinds.specs.declared.segment.Digest.{Digest}
use Rattle.inventory_rows.specs.version_groups.declared.copies.CopyRow.{CopyRow}
use Rattle.inventory_rows.specs.version_groups.declared.group.Group.{Group}
use Rattle.inventory_rows.specs.version_groups.declared.groups.Filespace.{Filespace}
use Rattle.inventory_rows.specs.version_groups.declared.versions.Version.{Version}
use Rattle.inventory_rows.specs.object_rows.declared.held_object.HeldRow.{HeldRow}
use Rattle.inventory_rows.specs.object_rows.Filespaces.{versions_in, versions_of}
use Rattle.inventory_rows.specs.object_rows.HeldRows.{held_versions}
use Rattle.inventory_rows.specs.Search.{lies_on, versions}
use Rattle.inventory_rows.specs.State.{Inv}
use Rattle.inventory_answers.specs.declared.query.Query.TheVariants as query
use Rattle.inventory_work.specs.declared.lines.CopyLine.{CopyLine}
use Rattle.inventory_work.specs.ByObject.{by_object, put_line}
use Rattle.inventory_work.specs.Copies.{copy_line, node_of}
use Rattle.inventory_work.specs.Lists.{only}
use Rattle.client_files.specs.Restoring.{read_by, read_in}
use Rattle.copy_attempts.proofs.Facts.{made-append}
use Rattle.copy_attempts.specs.Attempts.{stopping}
use Rattle.copy_runs.proofs.Listing.{lines_of_copies}
use Rattle.copy_runs.proofs.Outcomes.{in-before, in-behind}
use Rattle.copy_runs.proofs.Parts.{in-either}
use Rattle.copy_runs.proofs.Whole.{asks-unmade, ends-unmade, finish-is}
use Rattle.copy_runs.specs.Wanting.{IsIn}
use Rattle.machine.proofs.Runs.{fits-cut, fits-first}
use Rattle.machine.specs.Fits.{Fits, History, Own, Step, inv, last, sight_at}
use Rattle.machine.specs.Machine.{read_count}
use Rattle.machine.specs.Says.{Says}
use Rattle.machine.specs.State.{Sight}
use Rattle.steps.specs.Calls.{Then}
use Rattle.steps.specs.Events.{Deed, Event, event}
use Rattle.steps.specs.Events.Deed.{Ask, ReadPiece}
use Rattle.steps.specs.Receipts.{made}
use Rattle.volume_audits.specs.declared.audit.Audit.{Audit}
use Rattle.volume_audits.specs.declared.audit.Damaged.{Damaged}
use Rattle.volume_audits.specs.declared.audit.Verdict.{Verdict}
use Rattle.volume_audits.specs.declared.looking.Found.{Found}
use Rattle.volume_audits.specs.declared.looking.Found.TheVariants as found
use Rattle.volume_audits.specs.Auditing.{Audited, Audits, Ends, IsInOrder, Listed, damage_by}
use Rattle.volume_audits.specs.Looking.{Looks, ReadOn, ReadsAll, ReadsAt, is_unread, unread}
use Rattle.volume_audits.specs.Rows.{AreStored}
use Rattle.volume_audits.proofs.Audited.{listed-asks, looks-none}
use Rattle.volume_audits.proofs.Listed.{asked-copies}

-- ---- what is read

-- as many of the first elements as there are among so many
taken-long : (n : ℕ) (xs : List ℕ) → take (length (take n xs)) xs ≡ take n xs
taken-long zero xs = refl
taken-long (suc n) [] = refl
taken-long (suc n) (x ∷ xs) = ap (λ l. x ∷ l) (taken-long n xs)

front-of : (n : ℕ) (bytes xs : List ℕ) → bytes ≡ take n xs → bytes ≡ take (length bytes) xs
front-of n bytes xs h = h ∙ sym (taken-long n xs) ∙ ap (λ (l : List ℕ). take (length l) xs) (sym h)

piece-said : (actor : ℕ) (contents : ℕ → List ℕ) (v : Sight) (s : CopyLine) (at wanted : ℕ) (bytes : List ℕ) → Says actor contents v (ReadPiece s.object s.digest s.pool at wanted (Ok bytes))
    → bytes ≡ take (length bytes) (drop at (contents s.object))
unfolding Says
piece-said actor contents v s at wanted bytes h = front-of (read_count s.object wanted at v.inventory) bytes (drop at (contents s.object)) h.1

by-deed : (actor : ℕ) (contents : ℕ → List ℕ) (v : Sight) (s : CopyLine) (at : ℕ) (deed : Deed) → ReadsAt s at deed → Says actor contents v deed → read_by deed ≡ take (length (read_by deed)) (drop at (contents s.object))
by-deed actor contents v s at deed r h =
    subst (λ (d : Deed). read_by d ≡ take (length (read_by d)) (drop at (contents s.object))) (sym r.2)
    (piece-said actor contents v s at r.0 r.1 (subst (λ (d : Deed). Says actor contents v d) r.2 h))

then-more : (at : ℕ) (a b all : List ℕ) → a ≡ take (length a) (drop at all) → b ≡ take (length b) (drop (at + length a) all) → a ++ b ≡ take (length (a ++ b)) (drop at all)
then-more at a b all first next =
    ap (λ (l : List ℕ). l ++ b) first ∙ ap (λ (l : List ℕ). take (length a) (drop at all) ++ l) (next ∙ ap (λ (l : List ℕ). take (length b) l) (sym (drop-drop (length a) at all)))
    ∙ sym (take-add (length a) (length b) (drop at all)) ∙ ap (λ n. take n (drop at all)) (sym (length-append a b))

reads-fit : (w : History) (actor : ℕ) (s : CopyLine) (at : ℕ) (old new : Own) (events : List Event) → Fits w actor old events new → ReadOn s at events
    → read_in events ≡ take (length (read_in events)) (drop at (w.contents s.object))
unfolding Fits
reads-fit w actor s at old new [] f r = refl
reads-fit w actor s at old new (e ∷ events) f r =
    then-more at (read_by e.deed) (read_in events) (w.contents s.object) (by-deed actor w.contents (sight_at w old e.n f.1.next_file) s at e.deed r.0 f.1.says)
    (reads-fit w actor s (at + length (read_by e.deed)) f.0 new events f.2 r.1)

-- the object has as many bytes as the line says, with its SHA-256
abbrev IsStored : History → CopyLine → Type 0
IsStored w s = (length (w.contents s.object) ≡ s.size) × (s.digest ≡ digest_with (sha256 (w.contents s.object)))

read-is-kept : (w : History) (actor : ℕ) (old new : Own) (s : CopyLine) (events : List Event) (digest : Digest) → Fits w actor old events new → ReadsAll s events (Ok digest) → IsStored w s → s.digest ≡ digest
read-is-kept w actor old new s events digest f r (sized, same) =
    let long : length (read_in events) ≡ s.size = r.1 in
    let all : read_in events ≡ w.contents s.object = reads-fit w actor s 0 old new events f r.0 ∙ take_all (length (read_in events)) (w.contents s.object) (omega (arith, long, sized)) in
    same ∙ ap (λ (l : List ℕ). digest_with (sha256 l)) (sym all) ∙ sym r.2

-- ---- what is listed

put-at : {A : Type 0} (f : A → ℕ) (x l o : A) (xs : List A) (b : Bool) → (IsIn x (put_line f l xs) → IsIn x (l ∷ xs)) → IsIn x (if b then l ∷ o ∷ xs else o ∷ put_line f l xs) → IsIn x (l ∷ o ∷ xs)
put-at f x l o xs true behind m = m
put-at f x l o xs false behind (inl m) = inr (inl m)
put-at f x l o xs false behind (inr m) = elim (behind m) as (λ _. IsIn x (l ∷ o ∷ xs)) [ inl same ↦ inl same | inr there ↦ inr (inr there) ]

put-out : {A : Type 0} (f : A → ℕ) (x l : A) (xs : List A) → IsIn x (put_line f l xs) → IsIn x (l ∷ xs)
put-out f x l [] h = h
put-out f x l (o ∷ xs) h = put-at f x l o xs (nat_le (f l) (f o)) (λ m. put-out f x l xs m) h

sorted-out : {A : Type 0} (f : A → ℕ) (x : A) (xs : List A) → IsIn x (by_object f xs) → IsIn x xs
sorted-out f x [] h = absurd h
sorted-out f x (l ∷ xs) h = elim (put-out f x l (by_object f xs) h) as (λ _. IsIn x (l ∷ xs)) [ inl same ↦ inl same | inr there ↦ inr (sorted-out f x xs there) ]

flat-parts : {A B : Type 0} (f : A → List B) (x : B) (ys : List A) → IsIn x (flat_map f ys) → (y : A) × IsIn y ys × IsIn x (f y)
flat-parts f x [] h = absurd h
flat-parts {A} f x (z ∷ zs) h = elim (in-either x (f z) (flat_map f zs) h) as (λ _. (y : A) × IsIn y (z ∷ zs) × IsIn x (f y)) [
  | inl m ↦ (z, inl refl, m)
  | inr m ↦ (let r = flat-parts f x zs m in (r.0, inr r.1, r.2))
]

flat-in : {A B : Type 0} (f : A → List B) (x : B) (y : A) (ys : List A) → IsIn y ys → IsIn x (f y) → IsIn x (flat_map f ys)
flat-in f x y [] h m = absurd h
flat-in f x y (z ∷ zs) (inl h) m = in-before x (f z) (flat_map f zs) (subst (λ a. IsIn x (f a)) (sym h) m)
flat-in f x y (z ∷ zs) (inr h) m = in-behind x (f z) (flat_map f zs) (flat-in f x y zs h m)

map-in : {A B : Type 0} (f : A → B) (y : A) (ys : List A) → IsIn y ys → IsIn (f y) (map f ys)
map-in f y [] h = absurd h
map-in f y (z ∷ zs) (inl h) = inl (ap f h)
map-in f y (z ∷ zs) (inr h) = inr (map-in f y zs h)

only-out : {A : Type 0} (b : Bool) (l x : A) → IsIn x (only b l) → l ≡ x
only-out true l x (inl same) = same
only-out true l x (inr never) = absurd never
only-out false l x never = absurd never

-- a line is of a version that is kept
abbrev IsOf : CopyLine → Version → Type 0
IsOf line x = (x.object ≡ line.object) × (x.size ≡ line.size) × (x.digest ≡ line.digest)

line-of : (here : CopyRow → Bool) (node : ℕ) (x : Version) (line : CopyLine) → IsIn line (flat_map (λ (c : CopyRow). only (here c) (copy_line node x c)) x.copies) → IsOf line x
line-of here node x line m =
    let r = flat-parts (λ (c : CopyRow). only (here c) (copy_line node x c)) line x.copies m in
    let same : copy_line node x r.0 ≡ line = only-out (here r.0) (copy_line node x r.0) line r.2 in
    (ap (λ (l : CopyLine). l.object) same, ap (λ (l : CopyLine). l.size) same, ap (λ (l : CopyLine). l.digest) same)

abbrev OfKept : CopyLine → Inv → Type 0
OfKept line v = (x : Version) × IsIn x (versions v) × IsOf line x

line-kept : (here : CopyRow → Bool) (v : Inv) (line : CopyLine) → IsIn line (lines_of_copies here v) → OfKept line v
line-kept here v line m =
    let lines = λ (node : ℕ) (x : Version). flat_map (λ (c : CopyRow). only (here c) (copy_line node x c)) x.copies in
    let of_filespace = λ (f : ℕ × Filespace). flat_map (λ (g : List ℕ × Group). flat_map (lines f.1.node) g.1.versions) f.1.groups in
    let of_held = λ (h : ℕ × HeldRow). lines (node_of h.1.filespace v.clients.filespaces) h.1.held.version in
    let all : IsIn line (flat_map of_filespace v.clients.filespaces ++ flat_map of_held v.clients.held) = sorted-out (λ (l : CopyLine). l.object) line _ m in
    elim (in-either line (flat_map of_filespace v.clients.filespaces) (flat_map of_held v.clients.held) all) as (λ _. OfKept line v) [
      | inl first ↦ (
          let f = flat-parts of_filespace line v.clients.filespaces first in
          let g = flat-parts (λ (g : List ℕ × Group). flat_map (lines f.0.1.node) g.1.versions) line f.0.1.groups f.2 in
          let x = flat-parts (lines f.0.1.node) line g.0.1.versions g.2 in
          let in_group : IsIn x.0 (versions_in f.0.1.groups) = flat-in (λ (k : List ℕ × Group). k.1.versions) x.0 g.0 f.0.1.groups g.1 x.1 in
          let in_all : IsIn x.0 (versions_of v.clients.filespaces) = flat-in (λ (k : ℕ × Filespace). versions_in k.1.groups) x.0 f.0 v.clients.filespaces f.1 in_group in
          (x.0, in-before x.0 (versions_of v.clients.filespaces) (held_versions v.clients.held) in_all, line-of here f.0.1.node x.0 line x.2))
      | inr next ↦ (
          let h = flat-parts of_held line v.clients.held next in (
            h.0.1.held.version,
            in-behind h.0.1.held.version (versions_of v.clients.filespaces) (held_versions v.clients.held) (map-in (λ (k : ℕ × HeldRow). k.1.held.version) h.0 v.clients.held h.1),
            line-of here (node_of h.0.1.filespace v.clients.filespaces) h.0.1.held.version line h.2,
          ))
    ]

line-stored : (w : History) (n : ℕ) (here : CopyRow → Bool) (line : CopyLine) → AreStored w → w.base.number ≤ n → n ≤ last w → IsIn line (lines_of_copies here (inv w n)) → IsStored w line
line-stored w n here line stored low high m =
    let k = line-kept here (inv w n) line m in
    let h = stored n k.0 low high k.1 in
    let same : w.contents k.0.object ≡ w.contents line.object = ap w.contents k.2.0 in
    (ap length (sym same) ∙ h.0 ∙ k.2.1, sym k.2.2 ∙ h.1 ∙ ap (λ (l : List ℕ). digest_with (sha256 l)) same)

-- ---- what is found

unread-not : (e : Refusal) (digest : Digest) (t : Bool) → Ok (found.Damaged digest) ≡ (if t then Ok found.Unread else Err (stopping e)) → ⊥
unread-not e digest true is = absurd cc
unread-not e digest false is = absurd cc

not-damaged : (w : History) (actor : ℕ) (old new : Own) (s : CopyLine) (events : List Event) (digest : Digest) → Fits w actor old events new → IsStored w s → Looks s events (Ok (found.Damaged digest)) → ⊥
not-damaged w actor old new s events digest f stored (inl h) = absurd cc
not-damaged w actor old new s events digest f stored (inr (inl (d, reads, differs, is))) = differs (read-is-kept w actor old new s events d f reads stored)
not-damaged w actor old new s events digest f stored (inr (inr (e, reads, is))) = unread-not e digest (is_unread e) is

one-clean : (w : History) (actor : ℕ) (old new : Own) (fix : Bool) (file : ℕ) (s : CopyLine) (events : List Event) (v : Verdict) → Fits w actor old events new → IsStored w s → Audits fix file s events (Ok v)
    → (damage_by s v.found ≡ []) × (made events ≡ [])
one-clean w actor old new fix file s events v f stored (inl h) = (ap (damage_by s) h.1, looks-none s events (Ok found.Sound) h.0)
one-clean w actor old new fix file s events v f stored (inr (inl h)) = (ap (damage_by s) h.1, looks-none s events (Ok found.Unread) h.0)
one-clean w actor old new fix file s events v f stored (inr (inr (digest, is, (xs, ys, cut, looks, mends)))) =
    let parts = fits-cut w actor old new xs ys (subst (λ (es : List Event). Fits w actor old es new) cut f) in
    absurd (not-damaged w actor old parts.0 s xs digest parts.1 stored looks)

all-clean : (w : History) (actor : ℕ) (old new : Own) (fix : Bool) (file : ℕ) (lines : List CopyLine) (events : List Event) (a : Audit) → Fits w actor old events new → ((s : CopyLine) → IsIn s lines → IsStored w s)
    → Audited fix file lines events a → (a.damaged ≡ []) × (made events ≡ [])
all-clean w actor old new fix file [] events a f stored h = (ap (λ (x : Audit). x.damaged) h.1, ap made h.0)
all-clean w actor old new fix file (s ∷ lines) events a f stored (v, others, is, (xs, ys, cut, one, rest)) =
    let parts = fits-cut w actor old new xs ys (subst (λ (es : List Event). Fits w actor old es new) cut f) in
    let first = one-clean w actor old parts.0 fix file s xs v parts.1 (stored s (inl refl)) one in
    let more = all-clean w actor parts.0 new fix file lines ys others parts.2 (λ k m. stored k (inr m)) rest in (
      ap (λ (x : Audit). x.damaged) is ∙ ap (λ (l : List Damaged). l ++ others.damaged) first.0 ∙ more.0,
      ap made cut ∙ made-append xs ys ∙ ap (λ (l : List Event). l ++ made ys) first.1 ∙ more.1,
    )

from-list : (w : History) (actor : ℕ) (old new : Own) (fix : Bool) (file n : ℕ) (lines : List CopyLine) (ys us vs : List Event) (a : Audit) → ((s : CopyLine) → IsIn s lines → IsStored w s) → Fits w actor old ys new → ys ≡ us ++ vs
    → Audited fix file lines us a → made vs ≡ [] → (a.damaged ≡ []) × (made ys ≡ [])
from-list w actor old new fix file n lines ys us vs a stored f cut t none =
    let parts = fits-cut w actor old new us vs (subst (λ (es : List Event). Fits w actor old es new) cut f) in
    let h = all-clean w actor old parts.0 fix file lines us a parts.1 stored t in
    (h.0, ap made cut ∙ made-append us vs ∙ ap (λ (l : List Event). l ++ made vs) h.1 ∙ none)

pub clean : (w : History) (actor : ℕ) (old new : Own) (fix : Bool) (file : ℕ) (lines : List CopyLine) (events : List Event) (a : Audit) → AreStored w → Fits w actor old events new → IsInOrder fix file lines events a
    → (a.damaged ≡ []) × (made events ≡ [])
clean w actor old new fix file lines events a stored f (xs, ys, cut, listed, (us, vs, apart, t, fin)) =
    let first : Event = event listed.0 (Ask (query.OnVolume file) (Ok listed.1)) in
    let shape : events ≡ first ∷ ys = cut ∙ ap (λ (l : List Event). l ++ ys) listed.2 in
    let r = fits-first w actor old new first ys (subst (λ (es : List Event). Fits w actor old es new) shape f) in
    let s : Step w actor old first r.0 = r.1 in
    let told : lines ≡ lines_of_copies (lies_on file) (inv w listed.0) = asked-copies w actor old r.0 listed.0 file listed.1 lines s listed.3 in
    let kept : (k : CopyLine) → IsIn k lines → IsStored w k = λ k m. line-stored w listed.0 (lies_on file) k stored s.begun s.within (subst (λ (ls : List CopyLine). IsIn k ls) told m) in
    let h = from-list w actor r.0 new fix file listed.0 lines ys us vs a kept r.2 apart t (ends-unmade vs (finish-is vs fin).ending) in
    (h.0, ap made shape ∙ h.1)
