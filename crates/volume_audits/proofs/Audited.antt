-- Copies that are audited, one after the other.
use Rattle.std.proofs.Common.{◌≡◌, ◌⊎◌, inl, inr, ℕ, zero, suc, ◌+◌, ◌<◌, ◌≤◌, ◌==◌, get_or, Bool, true, false, if◌then◌else◌, List, [], ◌∷◌, ◌++◌, append_assoc, length, drop, drop-cons, Some, Result, Ok, Err, refl, sym, ap, subst, ◌∙◌, arith}
use Rattle.std.proofs.lemmas.List.{append-nil, drop_all}
use Rattle.std.proofs.lemmas.List.Sums.{sum_by-append}
use Rattle.std.specs.List.{AllByRecursion, sum_by}
use Rattle.kinds.specs.Refusals.{number_of}
use Rattle.kinds.specs.declared.refusal.Refusal.{Refusal}
use Rattle.kinds.specs.declared.refusal.Refusal.TheVariants as refused
use Rattle.kinds.specs.declared.segment.Digest.{Digest}
use Rattle.client_files.specs.Restoring.{read_by, read_in}
use Rattle.copy_attempts.proofs.Facts.{all-append, made-append, met-behind, some-memory}
use Rattle.copy_attempts.specs.Attempts.{is_passed, is_stopping, stopping}
use Rattle.copy_attempts.specs.Outcomes.{Met}
use Rattle.copy_runs.proofs.Ending.{ask-nothing, stopped-behind, unlisted-by}
use Rattle.copy_runs.proofs.Whole.{asks-unmade, finish-is}
use Rattle.copy_runs.specs.Ends.{AreAsking, AreEnding, Finished, Finishes, IsAsking, IsEnding, IsStopped, IsUnlisted, unlisted}
use Rattle.deletions.specs.Discarding.{TriesBy}
use Rattle.inventory_answers.specs.declared.query.Query.TheVariants as query
use Rattle.inventory_answers.specs.declared.reply.Answer.{Answer}
use Rattle.inventory_answers.specs.declared.reply.Rows.TheVariants as rows
use Rattle.inventory_work.specs.declared.lines.CopyLine.{CopyLine}
use Rattle.steps.proofs.Acknowledged.{receipts-behind}
use Rattle.steps.proofs.Joining.{GoesOn, call_then, does_alone, so_call, then_call}
use Rattle.steps.specs.declared.asked.Asked.{Asked}
use Rattle.steps.specs.Calls.{Call, Does, Made, Then}
use Rattle.steps.specs.Events.{Deed, Event, event, refusal}
use Rattle.steps.specs.Events.Deed.{Ask, Commit, ReadPiece}
use Rattle.steps.specs.Receipts.{is_forced, made, receipts}
use Rattle.steps.specs.Spent.{AreSettled, IsSettled}
use Rattle.volume_audits.specs.declared.audit.Audit.{Audit}
use Rattle.volume_audits.specs.declared.audit.Damaged.{Damaged}
use Rattle.volume_audits.specs.declared.audit.Verdict.{Verdict}
use Rattle.volume_audits.specs.declared.looking.Found.{Found}
use Rattle.volume_audits.specs.declared.looking.Found.TheVariants as found
use Rattle.volume_audits.specs.declared.mending.Dropped.{Dropped}
use Rattle.volume_audits.specs.declared.mending.Dropped.TheVariants as came
use Rattle.volume_audits.specs.Auditing.{AreAuditing, Audited, Audits, AuditsAll, Breaks, Ends, IsAuditing, Listed, Lists, VolumeAudit, damage_by, mended, noted, nothing, sound_by}
use Rattle.volume_audits.specs.Looking.{Looks, Misses, ReadOn, ReadsAll, is_unread, unread}
use Rattle.volume_audits.specs.Rows.{AreAllListed}
use Rattle.volume_audits.proofs.Listed.{all-listed}
use Rattle.volume_audits.specs.Mending.{Discards, Drops, IsMending, Mends, MendsIf, discarded_as, discarding, dropped_as, dropping, is_gone, mended_by, undropped}

-- ---- one copy

pub audits-sound : {S : Type 0} (did : S → List Event → S → Type 0) (p q : S) (fix : Bool) (file : ℕ) (line : CopyLine) → Call did p q (λ events. Looks line events (Ok found.Sound))
    → Call did p q (λ events. Audits fix file line events (Ok (record { found = found.Sound; fixed = 0 })))
audits-sound did p q fix file line a =
    so_call did (λ events. Looks line events (Ok found.Sound)) (λ events. Audits fix file line events (Ok (record { found = found.Sound; fixed = 0 }))) p q a (λ xs f. inl (f, refl, refl))

pub audits-unread : {S : Type 0} (did : S → List Event → S → Type 0) (p q : S) (fix : Bool) (file : ℕ) (line : CopyLine) → Call did p q (λ events. Looks line events (Ok found.Unread))
    → Call did p q (λ events. Audits fix file line events (Ok (record { found = found.Unread; fixed = 0 })))
audits-unread did p q fix file line a =
    so_call did (λ events. Looks line events (Ok found.Unread)) (λ events. Audits fix file line events (Ok (record { found = found.Unread; fixed = 0 }))) p q a (λ xs f. inr (inl (f, refl, refl)))

pub audits-damaged : {S : Type 0} (did : S → List Event → S → Type 0) → GoesOn did → (p q r : S) (fix : Bool) (file : ℕ) (line : CopyLine) (digest : Digest) (fixed : ℕ) → Call did p q (λ events. Looks line events (Ok (found.Damaged digest)))
    → Call did q r (λ events. MendsIf fix file line digest events (Ok fixed)) → Call did p r (λ events. Audits fix file line events (Ok (record { found = found.Damaged digest; fixed = fixed })))
audits-damaged did goes p q r fix file line digest fixed a b =
    so_call did (λ events. Then (λ xs. Looks line xs (Ok (found.Damaged digest))) (λ ys. MendsIf fix file line digest ys (Ok fixed)) events)
    (λ events. Audits fix file line events (Ok (record { found = found.Damaged digest; fixed = fixed }))) p r
    (then_call did goes (λ events. Looks line events (Ok (found.Damaged digest))) (λ events. MendsIf fix file line digest events (Ok fixed)) p q r a b) (λ xs f. inr (inr (digest, refl, f)))

pub audits-unlooked : {S : Type 0} (did : S → List Event → S → Type 0) (p q : S) (fix : Bool) (file : ℕ) (line : CopyLine) (e : Refusal) → Call did p q (λ events. Looks line events (Err e))
    → Call did p q (λ events. Audits fix file line events (Err e))
audits-unlooked did p q fix file line e a = so_call did (λ events. Looks line events (Err e)) (λ events. Audits fix file line events (Err e)) p q a (λ xs f. inl f)

pub audits-unmended : {S : Type 0} (did : S → List Event → S → Type 0) → GoesOn did → (p q r : S) (fix : Bool) (file : ℕ) (line : CopyLine) (digest : Digest) (e : Refusal) → Call did p q (λ events. Looks line events (Ok (found.Damaged digest)))
    → Call did q r (λ events. MendsIf fix file line digest events (Err e)) → Call did p r (λ events. Audits fix file line events (Err e))
audits-unmended did goes p q r fix file line digest e a b =
    so_call did (λ events. Then (λ xs. Looks line xs (Ok (found.Damaged digest))) (λ ys. MendsIf fix file line digest ys (Err e)) events) (λ events. Audits fix file line events (Err e)) p r
    (then_call did goes (λ events. Looks line events (Ok (found.Damaged digest))) (λ events. MendsIf fix file line digest events (Err e)) p q r a b) (λ xs f. inr (digest, f))

-- ---- no others

only-append : (fix : Bool) (file : ℕ) (xs ys : List Event) → AreAuditing fix file xs → AreAuditing fix file ys → AreAuditing fix file (xs ++ ys)
only-append fix file xs ys a b = all-append (λ e. IsAuditing fix file e.deed) xs ys a b

made-only : (fix : Bool) (file : ℕ) (d : Deed) (events : List Event) → Made d events → IsAuditing fix file d → AreAuditing fix file events
made-only fix file d events (inl h) is = subst (AreAuditing fix file) (sym h.1) (is, tt)
made-only fix file d events (inr h) is = subst (AreAuditing fix file) (sym h.1) tt

read-only : (fix : Bool) (file at : ℕ) (line : CopyLine) (events : List Event) → ReadOn line at events → AreAuditing fix file events
read-only fix file at line [] h = tt
read-only fix file at line (x ∷ xs) h = (inr (inl (line, at, h.0.0, Ok h.0.1, h.0.2)), read-only fix file (at + length (read_by x.deed)) line xs h.1)

misses-only : (fix : Bool) (file at : ℕ) (line : CopyLine) (e : Refusal) (events : List Event) → Misses line at e events → AreAuditing fix file events
misses-only fix file at line e events (inl (wanted, h)) = made-only fix file (ReadPiece line.object line.digest line.pool at wanted (Err e)) events h (inr (inl (line, at, wanted, Err e, refl)))
misses-only fix file at line e events (inr (wanted, h, same)) = made-only fix file (ReadPiece line.object line.digest line.pool at wanted (Ok [])) events h (inr (inl (line, at, wanted, Ok [], refl)))

all-only : (fix : Bool) (file : ℕ) (line : CopyLine) (events : List Event) (result : Result Digest Refusal) → ReadsAll line events result → AreAuditing fix file events
all-only fix file line events (Ok digest) h = read-only fix file 0 line events h.0
all-only fix file line events (Err e) (xs, ys, cut, read, less, missed) =
    subst (AreAuditing fix file) (sym cut) (only-append fix file xs ys (read-only fix file 0 line xs read) (misses-only fix file (length (read_in xs)) line e ys missed))

looks-only : (fix : Bool) (file : ℕ) (line : CopyLine) (events : List Event) (result : Result Found Refusal) → Looks line events result → AreAuditing fix file events
looks-only fix file line events result (inl h) = all-only fix file line events (Ok line.digest) h.0
looks-only fix file line events result (inr (inl h)) = all-only fix file line events (Ok h.0) h.1
looks-only fix file line events result (inr (inr h)) = all-only fix file line events (Err h.0) h.1

tries-only : {A : Type 0} (file : ℕ) (of : Result ℕ Refusal → Result A Refusal) (asked : Asked) (events : List Event) (result : Result A Refusal) → TriesBy of asked events result
    → ((answer : Result ℕ Refusal) → IsMending file (Commit asked [] answer)) → AreAuditing true file events
tries-only file of asked events result (inl h) is = subst (AreAuditing true file) (sym h.0) tt
tries-only file of asked events result (inr h) is = subst (AreAuditing true file) (sym h.2) (inr (inr (refl, is h.1)), tt)

drops-only : (file : ℕ) (line : CopyLine) (digest : Digest) (events : List Event) (result : Result Dropped Refusal) → Drops file line digest events result → AreAuditing true file events
drops-only file line digest events result h = tries-only file dropped_as (dropping file line digest) events result h (λ answer. (line, digest, answer, inl refl))

discards-only : (file : ℕ) (line : CopyLine) (digest : Digest) (events : List Event) (result : Result ℕ Refusal) → Discards file line digest events result → AreAuditing true file events
discards-only file line digest events result h = tries-only file discarded_as (discarding file line digest) events result h (λ answer. (line, digest, answer, inr refl))

mends-only : (file : ℕ) (line : CopyLine) (digest : Digest) (events : List Event) (result : Result ℕ Refusal) → Mends file line digest events result → AreAuditing true file events
mends-only file line digest events result (inl h) = drops-only file line digest events (Ok came.Gone) h.0
mends-only file line digest events result (inr (inl h)) = drops-only file line digest events (Ok came.Passed) h.0
mends-only file line digest events result (inr (inr (inl (xs, ys, cut, d, f)))) =
    subst (AreAuditing true file) (sym cut) (only-append true file xs ys (drops-only file line digest xs (Ok came.Last) d) (discards-only file line digest ys result f))
mends-only file line digest events result (inr (inr (inr h))) = drops-only file line digest events (Err h.0) h.1

if-only : (fix : Bool) (file : ℕ) (line : CopyLine) (digest : Digest) (events : List Event) (result : Result ℕ Refusal) → MendsIf fix file line digest events result → AreAuditing fix file events
if-only false file line digest events result h = subst (AreAuditing false file) (sym h.0) tt
if-only true file line digest events result h = mends-only file line digest events result h

audits-only : (fix : Bool) (file : ℕ) (line : CopyLine) (events : List Event) (result : Result Verdict Refusal) → Audits fix file line events result → AreAuditing fix file events
audits-only fix file line events (Ok v) (inl h) = looks-only fix file line events (Ok found.Sound) h.0
audits-only fix file line events (Ok v) (inr (inl h)) = looks-only fix file line events (Ok found.Unread) h.0
audits-only fix file line events (Ok v) (inr (inr (digest, is, (xs, ys, cut, l, m)))) =
    subst (AreAuditing fix file) (sym cut) (only-append fix file xs ys (looks-only fix file line xs (Ok (found.Damaged digest)) l) (if-only fix file line digest ys (Ok v.fixed) m))
audits-only fix file line events (Err e) (inl h) = looks-only fix file line events (Err e) h
audits-only fix file line events (Err e) (inr (digest, (xs, ys, cut, l, m))) =
    subst (AreAuditing fix file) (sym cut) (only-append fix file xs ys (looks-only fix file line xs (Ok (found.Damaged digest)) l) (if-only fix file line digest ys (Err e) m))

audited-only : (fix : Bool) (file : ℕ) (lines : List CopyLine) (events : List Event) (a : Audit) → Audited fix file lines events a → AreAuditing fix file events
audited-only fix file [] events a h = subst (AreAuditing fix file) (sym h.0) tt
audited-only fix file (line ∷ lines) events a (v, others, is, (xs, ys, cut, one, rest)) =
    subst (AreAuditing fix file) (sym cut) (only-append fix file xs ys (audits-only fix file line xs (Ok v) one) (audited-only fix file lines ys others rest))

-- ---- causes

stopped-met : (events : List Event) (why : Refusal) → (why ≡ refused.Memory) ⊎ Met why events → IsStopped events (stopping why)
stopped-met events why (inl memory) = inl (ap stopping memory)
stopped-met events why (inr met) = elim (is_stopping why) as (λ b. is_stopping why ≡ b → IsStopped events (if b then why else refused.Memory)) [
  | true ↦ λ t. inr (t, met)
  | false ↦ λ t. inl refl
] refl

made-met : (d : Deed) (e : Refusal) (events : List Event) → refusal d ≡ Some e → Made d events → (e ≡ refused.Memory) ⊎ Met e events
made-met d e events is (inl h) = inr (subst (λ (es : List Event). Met e es) (sym h.1) (inl is))
made-met d e events is (inr h) = inl (some-memory e d is h.0)

misses-met : (line : CopyLine) (at : ℕ) (e : Refusal) (events : List Event) → Misses line at e events → (e ≡ refused.Memory) ⊎ Met e events
misses-met line at e events (inl (wanted, h)) = made-met (ReadPiece line.object line.digest line.pool at wanted (Err e)) e events refl h
misses-met line at e events (inr (wanted, h, same)) = inl same

met-later : (xs ys events : List Event) (e : Refusal) → events ≡ xs ++ ys → (e ≡ refused.Memory) ⊎ Met e ys → (e ≡ refused.Memory) ⊎ Met e events
met-later xs ys events e cut (inl h) = inl h
met-later xs ys events e cut (inr h) = inr (subst (λ (es : List Event). Met e es) (sym cut) (met-behind (λ d. refusal d ≡ Some e) xs ys h))

unread-stopped : (events : List Event) (why e : Refusal) (t : Bool) → (why ≡ refused.Memory) ⊎ Met why events → Err e ≡ (if t then Ok found.Unread else Err (stopping why)) → IsStopped events e
unread-stopped events why e true met is = absurd cc
unread-stopped events why e false met is = (let same : e ≡ stopping why = cc in subst (IsStopped events) (sym same) (stopped-met events why met))

looks-stopped : (line : CopyLine) (events : List Event) (e : Refusal) → Looks line events (Err e) → IsStopped events e
looks-stopped line events e (inl h) = absurd cc
looks-stopped line events e (inr (inl h)) = absurd cc
looks-stopped line events e (inr (inr (why, (xs, ys, cut, read, less, missed), is))) =
    unread-stopped events why e (is_unread why) (met-later xs ys events why cut (misses-met line (length (read_in xs)) why ys missed)) is

drop-stopped : (events : List Event) (why e : Refusal) (gone last : Bool) → Met why events → Err e ≡ (if gone then Ok came.Passed else (if last then Ok came.Last else Err (stopping why))) → IsStopped events e
drop-stopped events why e true last met is = absurd cc
drop-stopped events why e false true met is = absurd cc
drop-stopped events why e false false met is = (let same : e ≡ stopping why = cc in subst (IsStopped events) (sym same) (stopped-met events why (inr met)))

met-one : (events : List Event) (n : ℕ) (asked : Asked) (why : Refusal) → events ≡ event n (Commit asked [] (Err why)) ∷ [] → Met why events
met-one events n asked why is = subst (λ (es : List Event). Met why es) (sym is) (inl refl)

drops-stopped : (file : ℕ) (line : CopyLine) (digest : Digest) (events : List Event) (e : Refusal) → Drops file line digest events (Err e) → IsStopped events e
drops-stopped file line digest events e (inl h) = (let same : e ≡ refused.Memory = cc in inl same)
drops-stopped file line digest events e (inr (n, Ok number, shape, is)) = absurd cc
drops-stopped file line digest events e (inr (n, Err why, shape, is)) = drop-stopped events why e (is_gone why) (number_of why == 12) (met-one events n (dropping file line digest) why shape) is

discard-stopped : (events : List Event) (why e : Refusal) (passed : Bool) → Met why events → ◌≡◌ {A = Result ℕ Refusal} (Err e) (if passed then Ok 0 else Err (stopping why)) → IsStopped events e
discard-stopped events why e true met is = absurd cc
discard-stopped events why e false met is = (let same : e ≡ stopping why = cc in subst (IsStopped events) (sym same) (stopped-met events why (inr met)))

discards-stopped : (file : ℕ) (line : CopyLine) (digest : Digest) (events : List Event) (e : Refusal) → Discards file line digest events (Err e) → IsStopped events e
discards-stopped file line digest events e (inl h) = (let same : e ≡ refused.Memory = cc in inl same)
discards-stopped file line digest events e (inr (n, Ok number, shape, is)) = absurd cc
discards-stopped file line digest events e (inr (n, Err why, shape, is)) = discard-stopped events why e (is_passed why) (met-one events n (discarding file line digest) why shape) is

mends-stopped : (file : ℕ) (line : CopyLine) (digest : Digest) (events : List Event) (e : Refusal) → Mends file line digest events (Err e) → IsStopped events e
mends-stopped file line digest events e (inl h) = absurd cc
mends-stopped file line digest events e (inr (inl h)) = absurd cc
mends-stopped file line digest events e (inr (inr (inl (xs, ys, cut, d, f)))) = subst (λ (es : List Event). IsStopped es e) (sym cut) (stopped-behind xs ys e (discards-stopped file line digest ys e f))
mends-stopped file line digest events e (inr (inr (inr (why, d, is)))) = (let same : e ≡ why = cc in subst (IsStopped events) (sym same) (drops-stopped file line digest events why d))

if-stopped : (fix : Bool) (file : ℕ) (line : CopyLine) (digest : Digest) (events : List Event) (e : Refusal) → MendsIf fix file line digest events (Err e) → IsStopped events e
if-stopped false file line digest events e h = absurd cc
if-stopped true file line digest events e h = mends-stopped file line digest events e h

audits-stopped : (fix : Bool) (file : ℕ) (line : CopyLine) (events : List Event) (e : Refusal) → Audits fix file line events (Err e) → IsStopped events e
audits-stopped fix file line events e (inl h) = looks-stopped line events e h
audits-stopped fix file line events e (inr (digest, (xs, ys, cut, l, m))) = subst (λ (es : List Event). IsStopped es e) (sym cut) (stopped-behind xs ys e (if-stopped fix file line digest ys e m))

-- ---- several

-- a copy behind those so far
abbrev pub added : Audit → CopyLine → Verdict → Audit
added a line v = record { sound = a.sound + sound_by v.found; damaged = a.damaged ++ damage_by line v.found; fixed = a.fixed + v.fixed }

abbrev audit_of : ℕ → List Damaged → ℕ → Audit
audit_of s d f = record { sound = s; damaged = d; fixed = f }

audit-is : (s s2 : ℕ) (d d2 : List Damaged) (f f2 : ℕ) → s ≡ s2 → d ≡ d2 → f ≡ f2 → audit_of s d f ≡ audit_of s2 d2 f2
audit-is s s2 d d2 f f2 a b c =
    ap (λ (x : ℕ). audit_of x d f) a ∙ ap (λ (x : List Damaged). audit_of s2 x f) b ∙ ap (λ (x : ℕ). audit_of s2 d2 x) c

sums : (a b c : ℕ) → (a + b) + c ≡ a + (b + c)
sums a b c = omega arith

turned : (a : ℕ) → 0 + a ≡ a + 0
turned a = omega arith

added-noted : (u v : Verdict) (l line : CopyLine) (others : Audit) → added (noted u l others) line v ≡ noted u l (added others line v)
added-noted u v l line others =
    audit-is ((sound_by u.found + others.sound) + sound_by v.found) (sound_by u.found + (others.sound + sound_by v.found)) ((damage_by l u.found ++ others.damaged) ++ damage_by line v.found)
    (damage_by l u.found ++ (others.damaged ++ damage_by line v.found)) ((u.fixed + others.fixed) + v.fixed) (u.fixed + (others.fixed + v.fixed))
    (sums (sound_by u.found) others.sound (sound_by v.found)) (append_assoc (damage_by l u.found) others.damaged (damage_by line v.found)) (sums u.fixed others.fixed v.fixed)

first-noted : (v : Verdict) (line : CopyLine) → added nothing line v ≡ noted v line nothing
first-noted v line =
    audit-is (0 + sound_by v.found) (sound_by v.found + 0) ([] ++ damage_by line v.found) (damage_by line v.found ++ []) (0 + v.fixed) (v.fixed + 0) (turned (sound_by v.found)) (sym (append-nil (damage_by line v.found))) (turned v.fixed)

audited-more : (fix : Bool) (file : ℕ) (lines : List CopyLine) (line : CopyLine) (xs ys : List Event) (a : Audit) (v : Verdict) → Audited fix file lines xs a → Audits fix file line ys (Ok v)
    → Audited fix file (lines ++ (line ∷ [])) (xs ++ ys) (added a line v)
audited-more fix file [] line xs ys a v h one =
    (v, nothing, ap (λ (x : Audit). added x line v) h.1 ∙ first-noted v line, (ys, [], ap (λ (l : List Event). l ++ ys) h.0 ∙ sym (append-nil ys), one, (refl, refl)))
audited-more fix file (l ∷ lines) line xs ys a v (u, others, is, (us, vs, cut, first, rest)) one = (
  u,
  added others line v,
  ap (λ (x : Audit). added x line v) is ∙ added-noted u v l line others,
  (us, vs ++ ys, ap (λ (k : List Event). k ++ ys) cut ∙ append_assoc us vs ys, first, audited-more fix file lines line vs ys others v rest one),
)

-- those in front of these were audited
abbrev pub UpTo : (fix : Bool) (file : ℕ) (lines left : List CopyLine) → List Event → Audit → Type 0
UpTo fix file lines left events a = (before : List CopyLine) × (lines ≡ before ++ left) × Audited fix file before events a

plus-one : (n : ℕ) → suc n ≡ n + 1
plus-one n = omega arith

up-further : (fix : Bool) (file : ℕ) (lines left : List CopyLine) (line : CopyLine) (xs ys : List Event) (a : Audit) (v : Verdict) → UpTo fix file lines (line ∷ left) xs a → Audits fix file line ys (Ok v)
    → UpTo fix file lines left (xs ++ ys) (added a line v)
up-further fix file lines left line xs ys a v (before, is, h) one = (before ++ (line ∷ []), is ∙ sym (append_assoc before (line ∷ []) left), audited-more fix file before line xs ys a v h one)

pub up-next : {S : Type 0} (did : S → List Event → S → Type 0) → GoesOn did → (p q r : S) (fix : Bool) (file : ℕ) (lines : List CopyLine) (place : ℕ) (line : CopyLine) (a : Audit) (v : Verdict)
    → drop place lines ≡ line ∷ drop (suc place) lines → Call did p q (λ events. UpTo fix file lines (drop place lines) events a) → Call did q r (λ events. Audits fix file line events (Ok v))
    → Call did p r (λ events. UpTo fix file lines (drop (place + 1) lines) events (added a line v))
up-next did goes p q r fix file lines place line a v next x y =
    subst (λ (n : ℕ). Call did p r (λ events. UpTo fix file lines (drop n lines) events (added a line v))) (plus-one place)
    (call_then did goes (λ events. UpTo fix file lines (line ∷ drop (suc place) lines) events a) (λ events. Audits fix file line events (Ok v)) (λ events. UpTo fix file lines (drop (suc place) lines) events (added a line v)) p q r
    (subst (λ (ls : List CopyLine). Call did p q (λ events. UpTo fix file lines ls events a)) next x) y
    (λ xs ys f g. up-further fix file lines (drop (suc place) lines) line xs ys a v f g))

pub up-break : {S : Type 0} (did : S → List Event → S → Type 0) → GoesOn did → (p q r : S) (fix : Bool) (file : ℕ) (lines left : List CopyLine) (line : CopyLine) (a : Audit) (e : Refusal)
    → Call did p q (λ events. UpTo fix file lines left events a) → Call did q r (λ events. Audits fix file line events (Err e)) → Call did p r (λ events. AuditsAll fix file lines events (Err e))
up-break did goes p q r fix file lines left line a e x y =
    call_then did goes (λ events. UpTo fix file lines left events a) (λ events. Audits fix file line events (Err e)) (λ events. AuditsAll fix file lines events (Err e)) p q r x y
    (λ xs ys f g. record {
      cause = stopped-behind xs ys e (audits-stopped fix file line ys e g);
      only = only-append fix file xs ys (audited-only fix file f.0 xs a f.2) (audits-only fix file line ys (Err e) g);
    })

-- no memory for a damaged copy
pub up-unnoted : {S : Type 0} (did : S → List Event → S → Type 0) → GoesOn did → (p q r : S) (fix : Bool) (file : ℕ) (lines left : List CopyLine) (line : CopyLine) (a : Audit) (v : Verdict) (e : Refusal) → e ≡ refused.Memory
    → Call did p q (λ events. UpTo fix file lines left events a) → Call did q r (λ events. Audits fix file line events (Ok v)) → Call did p r (λ events. AuditsAll fix file lines events (Err e))
up-unnoted did goes p q r fix file lines left line a v e memory x y =
    call_then did goes (λ events. UpTo fix file lines left events a) (λ events. Audits fix file line events (Ok v)) (λ events. AuditsAll fix file lines events (Err e)) p q r x y
    (λ xs ys f g. record {
      cause = inl memory;
      only = only-append fix file xs ys (audited-only fix file f.0 xs a f.2) (audits-only fix file line ys (Ok v) g);
    })

all-before : (fix : Bool) (file : ℕ) (lines before : List CopyLine) (events : List Event) (a : Audit) → lines ≡ before ++ [] → Audited fix file before events a → Audited fix file lines events a
all-before fix file lines before events a is h = subst (λ (ls : List CopyLine). Audited fix file ls events a) (sym (is ∙ append-nil before)) h

pub up-all : {S : Type 0} (did : S → List Event → S → Type 0) (p q : S) (fix : Bool) (file : ℕ) (lines : List CopyLine) (place : ℕ) (a : Audit) → length lines ≤ place
    → Call did p q (λ events. UpTo fix file lines (drop place lines) events a) → Call did p q (λ events. AuditsAll fix file lines events (Ok a))
up-all did p q fix file lines place a l x =
    so_call did (λ events. UpTo fix file lines [] events a) (λ events. Audited fix file lines events a) p q
    (subst (λ (ls : List CopyLine). Call did p q (λ events. UpTo fix file lines ls events a)) (drop_all place lines l) x) (λ xs f. all-before fix file lines f.0 xs a f.1 f.2)

-- ---- the list

pub lines-answered : {S : Type 0} (did : S → List Event → S → Type 0) (p q : S) (file : ℕ) (answer : Answer) (result : Result (List CopyLine) Refusal)
    → ((lines : List CopyLine) → result ≡ Ok lines → answer.rows ≡ rows.OnVolume lines) → ((e : Refusal) → result ≡ Err e → e ≡ refused.Memory)
    → Does did p q (Ask (query.OnVolume file) (Ok answer)) → Call did p q (λ events. Lists file events result)
lines-answered did p q file answer (Ok lines) good bad d =
    does_alone did (λ events. Lists file events (Ok lines)) p q (Ask (query.OnVolume file) (Ok answer)) d (λ n listed. (n, answer, refl, good lines refl)) (λ m. absurd cc)
lines-answered did p q file answer (Err e) good bad d =
    so_call did (λ events. IsStopped events e × AreAsking events) (λ events. Lists file events (Err e)) p q (ask-nothing did p q (query.OnVolume file) answer e (bad e refl) d) (λ xs f. (inl f.0, f.1))

pub lines-refused : {S : Type 0} (did : S → List Event → S → Type 0) (p q : S) (file : ℕ) (why e : Refusal) → e ≡ unlisted why → Does did p q (Ask (query.OnVolume file) (Err why)) → Call did p q (λ events. Lists file events (Err e))
lines-refused did p q file why e is d = subst (λ (x : Refusal). Call did p q (λ events. Lists file events (Err x))) (sym is) (unlisted-by did p q (query.OnVolume file) why d)

-- ---- the end

ending-audits : (fix : Bool) (file : ℕ) (events : List Event) → AreEnding events → AreAuditing fix file events
ending-audits fix file [] h = tt
ending-audits fix file (x ∷ xs) h = (inl h.0, ending-audits fix file xs h.1)

asking-audits : (fix : Bool) (file : ℕ) (events : List Event) → AreAsking events → AreAuditing fix file events
asking-audits fix file [] h = tt
asking-audits fix file (x ∷ xs) h = (inl (inl h.0), asking-audits fix file xs h.1)

abbrev pub ended_by : Audit → Result (Unit {0}) Refusal → Result Audit Refusal
ended_by a (Ok done) = Ok a
ended_by a (Err e) = Err e

then-ended : (fix : Bool) (file : ℕ) (lines : List CopyLine) (a : Audit) (xs ys : List Event) (result : Result (Unit {0}) Refusal) → Audited fix file lines xs a → Finishes ys result → Ends fix file lines (xs ++ ys) (ended_by a result)
then-ended fix file lines a xs ys (Ok done) f g = (xs, ys, refl, f, g)
then-ended fix file lines a xs ys (Err e) f g = record { cause = stopped-behind xs ys e g.0; only = only-append fix file xs ys (audited-only fix file lines xs a f) (ending-audits fix file ys g.1) }

pub ends : {S : Type 0} (did : S → List Event → S → Type 0) → GoesOn did → (p q r : S) (fix : Bool) (file : ℕ) (lines : List CopyLine) (a : Audit) (result : Result (Unit {0}) Refusal)
    → Call did p q (λ events. AuditsAll fix file lines events (Ok a)) → Call did q r (λ events. Finishes events result) → Call did p r (λ events. Ends fix file lines events (ended_by a result))
ends did goes p q r fix file lines a result x y =
    call_then did goes (λ events. Audited fix file lines events a) (λ events. Finishes events result) (λ events. Ends fix file lines events (ended_by a result)) p q r x y
    (λ xs ys f g. then-ended fix file lines a xs ys result f g)

-- ---- what was mended

mended-append : (xs ys : List Event) → mended (xs ++ ys) ≡ mended xs + mended ys
mended-append xs ys = sum_by-append (λ e. mended_by e.deed) xs ys

apart : (xs ys events : List Event) → events ≡ xs ++ ys → mended (made events) ≡ mended (made xs) + mended (made ys)
apart xs ys events cut = ap (λ (l : List Event). mended (made l)) cut ∙ ap mended (made-append xs ys) ∙ mended-append (made xs) (made ys)

read-none : (line : CopyLine) (at : ℕ) (events : List Event) → ReadOn line at events → made events ≡ []
read-none line at [] h = refl
read-none line at (x ∷ xs) h =
    ap (λ (d : Deed). made (event x.n d ∷ xs)) h.0.2 ∙ read-none line (at + length (read_by x.deed)) xs h.1

made-none : (line : CopyLine) (at wanted : ℕ) (answer : Result (List ℕ) Refusal) (events : List Event) → Made (ReadPiece line.object line.digest line.pool at wanted answer) events → made events ≡ []
made-none line at wanted answer events (inl h) = ap made h.1
made-none line at wanted answer events (inr h) = ap made h.1

pub looks-none : (line : CopyLine) (events : List Event) (result : Result Found Refusal) → Looks line events result → made events ≡ []
looks-none line events result (inl h) = read-none line 0 events h.0.0
looks-none line events result (inr (inl h)) = read-none line 0 events h.1.0
looks-none line events result (inr (inr (e, (xs, ys, cut, read, less, inl (wanted, m)), is))) =
    ap made cut ∙ made-append xs ys ∙ ap (λ (l : List Event). l ++ made ys) (read-none line 0 xs read) ∙ made-none line (length (read_in xs)) wanted (Err e) ys m
looks-none line events result (inr (inr (e, (xs, ys, cut, read, less, inr (wanted, m, same)), is))) =
    ap made cut ∙ made-append xs ys ∙ ap (λ (l : List Event). l ++ made ys) (read-none line 0 xs read) ∙ made-none line (length (read_in xs)) wanted (Ok []) ys m

-- a transaction that was refused isn't made, and one that was made takes one away
drop-gone : (why : Refusal) (gone last : Bool) → Ok came.Gone ≡ (if gone then Ok came.Passed else (if last then Ok came.Last else Err (stopping why))) → ⊥
drop-gone why true last is = absurd cc
drop-gone why false true is = absurd cc
drop-gone why false false is = absurd cc

gone-mended : (file : ℕ) (line : CopyLine) (digest : Digest) (events : List Event) → Drops file line digest events (Ok came.Gone) → mended (made events) ≡ 1
gone-mended file line digest events (inl h) = absurd cc
gone-mended file line digest events (inr (n, Ok number, shape, is)) = ap (λ (l : List Event). mended (made l)) shape
gone-mended file line digest events (inr (n, Err why, shape, is)) = absurd (drop-gone why (is_gone why) (number_of why == 12) is)

passed-unmade : (file : ℕ) (line : CopyLine) (digest : Digest) (events : List Event) → Drops file line digest events (Ok came.Passed) → mended (made events) ≡ 0
passed-unmade file line digest events (inl h) = absurd cc
passed-unmade file line digest events (inr (n, Ok number, shape, is)) = absurd cc
passed-unmade file line digest events (inr (n, Err why, shape, is)) = ap (λ (l : List Event). mended (made l)) shape

last-unmade : (file : ℕ) (line : CopyLine) (digest : Digest) (events : List Event) → Drops file line digest events (Ok came.Last) → mended (made events) ≡ 0
last-unmade file line digest events (inl h) = absurd cc
last-unmade file line digest events (inr (n, Ok number, shape, is)) = absurd cc
last-unmade file line digest events (inr (n, Err why, shape, is)) = ap (λ (l : List Event). mended (made l)) shape

passed-is : (why : Refusal) (count : ℕ) (passed : Bool) → Ok count ≡ (if passed then Ok 0 else Err (stopping why)) → count ≡ 0
passed-is why count true is = cc
passed-is why count false is = absurd cc

discards-mended : (file : ℕ) (line : CopyLine) (digest : Digest) (events : List Event) (count : ℕ) → Discards file line digest events (Ok count) → mended (made events) ≡ count
discards-mended file line digest events count (inl h) = absurd cc
discards-mended file line digest events count (inr (n, Ok number, shape, is)) = (let same : count ≡ 1 = cc in ap (λ (l : List Event). mended (made l)) shape ∙ sym same)
discards-mended file line digest events count (inr (n, Err why, shape, is)) = ap (λ (l : List Event). mended (made l)) shape ∙ sym (passed-is why count (is_passed why) is)

mends-mended : (file : ℕ) (line : CopyLine) (digest : Digest) (events : List Event) (count : ℕ) → Mends file line digest events (Ok count) → mended (made events) ≡ count
mends-mended file line digest events count (inl h) = (let is : Ok count ≡ Ok 1 = h.1 in let same : count ≡ 1 = cc in gone-mended file line digest events h.0 ∙ sym same)
mends-mended file line digest events count (inr (inl h)) = (let is : Ok count ≡ Ok 0 = h.1 in let same : count ≡ 0 = cc in passed-unmade file line digest events h.0 ∙ sym same)
mends-mended file line digest events count (inr (inr (inl (xs, ys, cut, d, f)))) =
    let first : mended (made xs) ≡ 0 = last-unmade file line digest xs d in
    let behind : mended (made ys) ≡ count = discards-mended file line digest ys count f in
    let all : mended (made events) ≡ mended (made xs) + mended (made ys) = apart xs ys events cut in
    omega (arith, first, behind, all)
mends-mended file line digest events count (inr (inr (inr h))) = absurd cc

if-mended : (fix : Bool) (file : ℕ) (line : CopyLine) (digest : Digest) (events : List Event) (count : ℕ) → MendsIf fix file line digest events (Ok count) → mended (made events) ≡ count
if-mended false file line digest events count h = (let is : Ok count ≡ Ok 0 = h.1 in let same : count ≡ 0 = cc in ap (λ (l : List Event). mended (made l)) h.0 ∙ sym same)
if-mended true file line digest events count h = mends-mended file line digest events count h

audits-mended : (fix : Bool) (file : ℕ) (line : CopyLine) (events : List Event) (v : Verdict) → Audits fix file line events (Ok v) → mended (made events) ≡ v.fixed
audits-mended fix file line events v (inl h) = ap mended (looks-none line events (Ok found.Sound) h.0) ∙ sym h.2
audits-mended fix file line events v (inr (inl h)) = ap mended (looks-none line events (Ok found.Unread) h.0) ∙ sym h.2
audits-mended fix file line events v (inr (inr (digest, is, (xs, ys, cut, l, m)))) =
    let first : mended (made xs) ≡ 0 = ap mended (looks-none line xs (Ok (found.Damaged digest)) l) in
    let behind : mended (made ys) ≡ v.fixed = if-mended fix file line digest ys v.fixed m in
    let all : mended (made events) ≡ mended (made xs) + mended (made ys) = apart xs ys events cut in
    omega (arith, first, behind, all)

audited-mended : (fix : Bool) (file : ℕ) (lines : List CopyLine) (events : List Event) (a : Audit) → Audited fix file lines events a → mended (made events) ≡ a.fixed
audited-mended fix file [] events a h = ap (λ (l : List Event). mended (made l)) h.0 ∙ sym (ap (λ (x : Audit). x.fixed) h.1)
audited-mended fix file (line ∷ lines) events a (v, others, is, (xs, ys, cut, one, rest)) =
    let first : mended (made xs) ≡ v.fixed = audits-mended fix file line xs v one in
    let behind : mended (made ys) ≡ others.fixed = audited-mended fix file lines ys others rest in
    let all : mended (made events) ≡ mended (made xs) + mended (made ys) = apart xs ys events cut in
    let sum : a.fixed ≡ v.fixed + others.fixed = ap (λ (x : Audit). x.fixed) is in
    omega (arith, first, behind, all, sum)

-- ---- the whole

pub listed-asks : (file : ℕ) (lines : List CopyLine) (events : List Event) → Listed file events lines → AreAsking events
listed-asks file lines events h = subst AreAsking (sym h.2) ((query.OnVolume file, Ok h.1, refl), tt)

-- behind questions, and before all was made durable, what joined is what is acknowledged
acknowledged : (xs us vs : List Event) → AreAsking xs → is_forced vs ≡ true → receipts vs ≡ [] → receipts (xs ++ (us ++ vs)) ≡ made us
acknowledged xs us vs asks forced none =
    ap receipts (sym (append_assoc xs us vs)) ∙ receipts-behind (xs ++ us) vs forced ∙ ap (λ (l : List Event). made (xs ++ us) ++ l) none ∙ append-nil (made (xs ++ us))
    ∙ made-append xs us ∙ ap (λ (l : List Event). l ++ made us) (asks-unmade xs asks)

auditing-settled : (fix : Bool) (file : ℕ) (d : Deed) (later : List Event) → IsAuditing fix file d → IsSettled d later
auditing-settled fix file d later (inl (inl h)) = subst (λ (k : Deed). IsSettled k later) (sym h.2) tt
auditing-settled fix file d later (inl (inr h)) = subst (λ (k : Deed). IsSettled k later) (sym h.1) tt
auditing-settled fix file d later (inr (inl h)) = subst (λ (k : Deed). IsSettled k later) (sym h.4) tt
auditing-settled fix file d later (inr (inr (is, (line, digest, answer, inl h)))) = subst (λ (k : Deed). IsSettled k later) (sym h) tt
auditing-settled fix file d later (inr (inr (is, (line, digest, answer, inr h)))) = subst (λ (k : Deed). IsSettled k later) (sym h) tt

only-settled : (fix : Bool) (file : ℕ) (events : List Event) → AreAuditing fix file events → AreSettled events
only-settled fix file [] h = tt
only-settled fix file (x ∷ xs) h = (auditing-settled fix file x.deed xs h.0, only-settled fix file xs h.1)

done-of : (fix : Bool) (file : ℕ) (lines : List CopyLine) (xs ys : List Event) (result : Result Audit Refusal) → Listed file xs lines → Ends fix file lines ys result → VolumeAudit fix file (xs ++ ys) result
done-of fix file lines xs ys (Ok a) listed (us, vs, cut, t, f) =
    let fin = finish-is vs f in
    let asks : AreAsking xs = listed-asks file lines xs listed in
    let only : AreAuditing fix file (xs ++ ys) = only-append fix file xs ys (asking-audits fix file xs asks)
    (subst (AreAuditing fix file) (sym cut) (only-append fix file us vs (audited-only fix file lines us a t) (ending-audits fix file vs fin.ending))) in
    record {
      came = record {
        lines = lines;
        fixed = sym (ap (λ (l : List Event). mended (receipts (xs ++ l))) cut ∙ ap mended (acknowledged xs us vs asks fin.forced fin.none) ∙ audited-mended fix file lines us a t);
        order = (xs, ys, refl, listed, (us, vs, cut, t, f));
        row = subst (λ (l : List Event). AreAllListed file lines (l ++ ys)) (sym listed.2) (all-listed file listed.0 listed.1 lines ys listed.3);
      };
      only = only;
      settled = only-settled fix file (xs ++ ys) only;
    }
done-of fix file lines xs ys (Err e) listed f =
    let only : AreAuditing fix file (xs ++ ys) = only-append fix file xs ys (asking-audits fix file xs (listed-asks file lines xs listed)) f.only in
    record {
      came = inl (stopped-behind xs ys e f.cause);
      only = only;
      settled = only-settled fix file (xs ++ ys) only;
    }

pub whole : {S : Type 0} (did : S → List Event → S → Type 0) → GoesOn did → (p q r : S) (fix : Bool) (file : ℕ) (lines those : List CopyLine) (result : Result Audit Refusal) → those ≡ lines
    → Call did p q (λ events. Lists file events (Ok lines)) → Call did q r (λ events. Ends fix file those events result) → Call did p r (λ events. VolumeAudit fix file events result)
whole did goes p q r fix file lines those result same a b =
    call_then did goes (λ events. Listed file events lines) (λ events. Ends fix file lines events result) (λ events. VolumeAudit fix file events result) p q r a
    (subst (λ (ls : List CopyLine). Call did q r (λ events. Ends fix file ls events result)) same b) (λ xs ys f g. done-of fix file lines xs ys result f g)

pub whole-not : {S : Type 0} (did : S → List Event → S → Type 0) (p q : S) (fix : Bool) (file : ℕ) (e : Refusal) → Call did p q (λ events. Lists file events (Err e)) → Call did p q (λ events. VolumeAudit fix file events (Err e))
whole-not did p q fix file e a =
    so_call did (λ events. Lists file events (Err e)) (λ events. VolumeAudit fix file events (Err e)) p q a
    (λ xs f. record { came = f.0; only = asking-audits fix file xs f.1; settled = only-settled fix file xs (asking-audits fix file xs f.1) })

pub next-line : (lines : List CopyLine) (place : ℕ) (line : CopyLine) → place < length lines → line ≡ get_or lines place line → drop place lines ≡ line ∷ drop (suc place) lines
next-line lines place line l is = drop-cons lines place line l ∙ ap (λ (k : CopyLine). k ∷ drop (suc place) lines) (sym is)

-- what was noted of a copy stands behind those so far
pub added-as : (s f k : ℕ) (d d2 : List Damaged) (line : CopyLine) (v : Verdict) → k ≡ sound_by v.found → d2 ≡ d ++ damage_by line v.found
    → added (record { sound = s; damaged = d; fixed = f }) line v ≡ record { sound = s + k; damaged = d2; fixed = f + v.fixed }
added-as s f k d d2 line v is more = audit-is (s + sound_by v.found) (s + k) (d ++ damage_by line v.found) d2 (f + v.fixed) (f + v.fixed) (ap (λ (n : ℕ). s + n) (sym is)) (sym more) refl

pub few-more : (more count place : ℕ) → count ≤ place → more ≤ 1 → count + more ≤ place + 1
few-more more count place few h = omega arith
