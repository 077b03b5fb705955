-- A step that was noted is one event.
use Rattle.std.proofs.Common.{◌≡◌, ◌⊎◌, inl, inr, ℕ, List, [], ◌∷◌, ◌++◌, Some, true, refl, sym, ap, ◌∙◌, Result, Ok, Err, IfOk, subst}
use Rattle.std.proofs.lemmas.List.{append-nil}
use Rattle.kinds.specs.declared.refusal.Holder.{Holder}
use Rattle.kinds.specs.declared.refusal.Refusal.{Refusal}
use Rattle.kinds.specs.declared.refusal.Refusal.TheVariants.{Memory, Busy}
use Rattle.kinds.specs.declared.segment.Digest.{Digest}
use Rattle.steps.specs.Calls.{forced, piece_of}
use Rattle.steps.specs.Events.{Deed, event, is_listed, refusal, refusal_in}
use Rattle.steps.specs.Events.Deed.{OpenNew, OpenCopy, WritePiece, CopyPiece, Seal, Commit, DropTicket, ReadPiece, Ask, Image, Reuse, Force}
use Rattle.plain_hall.specs.declared.trace.Kind.TheVariants as kind
use Rattle.plain_hall.specs.declared.trace.Mark.{Mark}
use Rattle.plain_hall.specs.declared.trace.Trace.{Trace}
use Rattle.plain_hall.specs.Kinds.{is_told, kind_of, raised}
use Rattle.plain_hall.specs.Traces.{Added, Adds, Did, Dropped, Ended, Same}
use Rattle.plain_hall.specs.Laws.{nothing}

-- what a step did, of what is kept
abbrev pub Stepped : Trace → Trace → Deed → Type 0
Stepped old new deed = ((n : ℕ) × Did old (event n deed ∷ []) new × (is_listed deed ≡ true)) ⊎ ((refusal deed ≡ Some Memory) × Did old [] new)

listed : (deed : Deed) → is_told (kind_of deed) (refusal deed) ≡ true → is_listed deed ≡ true
unfolding is_listed
listed (OpenNew pool size prefer answer) h = h
listed (OpenCopy object aim avoid answer) h = h
listed (WritePiece ticket bytes answer) h = h
listed (CopyPiece ticket answer) h = h
listed (Seal ticket answer) h = h
listed (Commit asked tickets answer) h = h
listed (DropTicket ticket answer) h = h
listed (ReadPiece object kept from offset wanted answer) h = h
listed (Ask query answer) h = h
listed (Image picture answer) h = h
listed (Reuse file answer) h = h
listed (Force answer) h = h

same : (t : Trace) → Same t t
same t = record { marks = refl; whole = refl; refused = refl; actor = refl }

none : (old mid new : Trace) → Same old mid → Same mid new → Did old [] new
none old mid new a b = record {
  marks = λ h. (sym (b.whole ∙ a.whole) ∙ h, b.marks ∙ a.marks ∙ sym (append-nil old.marks.items));
  refused = b.refused ∙ a.refused;
  actor = b.actor ∙ a.actor;
}

behind : (old mid new : Trace) (marks : List Mark) → Same old mid → Added mid marks new → Added old marks new
behind old mid new marks a b = λ h. (sym a.whole ∙ (b h).0, (b h).1 ∙ ap (λ (zs : List Mark). zs ++ marks) a.marks)

added : (old mid new : Trace) (deed : Deed) (n : ℕ) → Same old mid → Adds (kind_of deed) n (refusal deed) mid new → Did old (event n deed ∷ []) new
added old mid new deed n a b = record {
  marks = behind old mid new (record { n = n; kind = kind_of deed; refusal = refusal deed } ∷ []) a b.marks;
  refused = b.refused ∙ ap (λ (count : ℕ). raised count (refusal deed)) a.refused;
  actor = b.actor ∙ a.actor;
}

pub noted : (old mid new : Trace) (deed : Deed) → Same old mid → Ended (kind_of deed) (refusal deed) mid new → Stepped old new deed
noted old mid new deed a (inl b) = inl (b.0, added old mid new deed b.0 a b.1, listed deed b.1.told)
noted old mid new deed a (inr b) = inr (b.0, none old mid new a b.1)

-- there was no room to note a step
pub wanted : (old new : Trace) (deed : Deed) → Same old new → refusal deed ≡ Some Memory → Stepped old new deed
wanted old new deed a h = inr (h, none old old new (same old) a)

piece-refusal : (r : Result ℕ Refusal) (bytes : List ℕ) → refusal_in r ≡ refusal_in (piece_of r bytes)
piece-refusal (Ok count) bytes = refl
piece-refusal (Err e) bytes = refl

-- of a read, whose bytes stand in a buffer
pub noted_read : (old mid new : Trace) (object : ℕ) (kept : Digest) (from offset wanted : ℕ) (r : Result ℕ Refusal) (bytes : List ℕ)
    → Same old mid → Ended kind.ReadPiece (refusal_in r) mid new → Stepped old new (ReadPiece object kept from offset wanted (piece_of r bytes))
noted_read old mid new object kept from offset wanted r bytes a b =
    noted old mid new (ReadPiece object kept from offset wanted (piece_of r bytes)) a (subst (λ e. Ended kind.ReadPiece e mid new) (piece-refusal r bytes) b)

-- A ticket that is dropped is one event, also where there was no room to note it.
pub dropped : (old new : Trace) (n ticket : ℕ) (answer : Result (Unit {0}) Refusal) → Dropped n answer old new
    → (m : ℕ) × Did old (event m (DropTicket ticket answer) ∷ []) new × (is_listed (DropTicket ticket answer) ≡ true)
dropped old new n ticket answer a = (n, added old old new (DropTicket ticket answer) n (same old) a, listed (DropTicket ticket answer) a.told)

-- what a step answered is what it did
pub as_answered : {A : Type 0} (Is : A → Type 0) (answer told : Result A Refusal) → IfOk answer Is → IfOk told (λ x. answer ≡ Ok x) → IfOk told Is
as_answered Is answer (Ok x) h e = subst (λ r. IfOk r Is) e h
as_answered Is answer (Err e) h w = tt

-- who waits makes no step
pub let_others_come : (old new : Trace) (told : Result (Unit {0}) Refusal) (holder : Holder) → new ≡ old → (told ≡ Ok tt) ⊎ (told ≡ Err (Busy holder))
    → Did old [] new × ((told ≡ Ok tt) ⊎ (told ≡ Err (Busy holder)) ⊎ (told ≡ Err Memory))
let_others_come old new told holder e (inl h) = (subst (λ t. Did old [] t) (sym e) (nothing old), inl h)
let_others_come old new told holder e (inr h) = (subst (λ t. Did old [] t) (sym e) (nothing old), inr (inl h))

-- or, where a transaction isn't forced yet, the step that makes all durable
pub made_all_durable : (old new : Trace) (answer : Result ℕ Refusal) (told : Result (Unit {0}) Refusal) → told ≡ forced answer → Stepped old new (Force answer)
    → (r : Result ℕ Refusal) × (told ≡ forced r) × Stepped old new (Force r)
made_all_durable old new answer told e d = (answer, e, d)
