-- Steps that are given as values, and those that aren't made for want of memory.
use Rattle.std.proofs.Common.{◌≡◌, ◌⊎◌, inl, inr, ℕ, ◌+◌, ◌<◌, nat_le, Bool, false, List, [], ◌++◌, length, take, drop, Option, None, Result, Ok, Err, refl, sym, ap, subst, ◌∙◌, arith}
use Rattle.std.proofs.lemmas.Bool.{lt-leb}
use Rattle.std.proofs.lemmas.List.{append-nil, drop_all, take_all}
use Rattle.store_api.specs.Disk.{History}
use Rattle.kinds.specs.Refusals.{bad_value, foremost, unless}
use Rattle.kinds.specs.declared.refusal.Refusal.{Refusal}
use Rattle.kinds.specs.declared.refusal.Refusal.TheVariants.{Memory}
use Rattle.kinds.specs.declared.segment.Digest.{Digest}
use Rattle.machine.specs.Causes.{most_bytes, read_refused}
use Rattle.machine.specs.Machine.{Later, Reads, ended}
use Rattle.machine.specs.State.{Machine, sight}
use Rattle.machine.proofs.Elsewhere.{append-none, none-held}
use Rattle.steps.specs.declared.image.ImageKind.{ImageKind}
use Rattle.steps.specs.declared.image.ImageReply.{ImageReply}
use Rattle.steps.specs.Events.Deed.{Image, ReadPiece}
use Rattle.hall.specs.Held.{Hall}
use Rattle.machine.specs.Alone.{with_contents}
use Rattle.hall.specs.Steps.{Steps}

no_later : (m : Machine) → Later m m
no_later m = record {
  counts = λ file. omega arith;
  since = omega arith;
  soon = omega arith;
}

-- ---- longer reads than a piece

module _ (actor object : ℕ) (kept : Digest) (from offset : ℕ) where
  abbrev held : ℕ → Machine → List Refusal
  held count m = ended m ++ read_refused object kept from offset count (sight actor m.core)

  abbrev read_rest : Machine → List Refusal
  read_rest m = read_refused object kept from offset 0 (sight actor m.core)

  -- all of them are refused alike
  long_alike : (len wanted : ℕ) (m : Machine) → nat_le len most_bytes ≡ false → nat_le wanted most_bytes ≡ false → held len m ≡ held wanted m
  long_alike len wanted m long high = ap (λ b. ended m ++ (unless b bad_value ++ read_rest m)) (long ∙ sym high)

  -- and they are
  long_held : (len : ℕ) (m : Machine) → nat_le len most_bytes ≡ false → foremost (held len m) ≡ None → ⊥
  long_held len m long none =
      let all : read_refused object kept from offset len (sight actor m.core) ≡ [] = (append-none (ended m) _ (none-held (held len m) none)).1 in
      not_bad (nat_le len most_bytes) (append-none (unless (nat_le len most_bytes) bad_value) _ all).0 long
    where
      not_bad : (b : Bool) → unless b bad_value ≡ [] → b ≡ false → ⊥
      not_bad b none is = absurd cc

  long_reads : (len wanted : ℕ) (old new : Machine) (answer : Result (List ℕ) Refusal) → nat_le len most_bytes ≡ false → nat_le wanted most_bytes ≡ false
      → Reads actor object kept from offset len old new answer → Reads actor object kept from offset wanted old new answer
  long_reads len wanted old new (Ok bytes) long high r = absurd (long_held len old long r.0)
  long_reads len wanted old new (Err e) long high (inl (inl is, stays)) = inl (inl (ap foremost (sym (long_alike len wanted old long high)) ∙ is), stays)
  long_reads len wanted old new (Err e) long high (inl (inr memory, stays)) = inl (inr memory, stays)
  long_reads len wanted old new (Err e) long high (inr fails) = absurd (long_held len old long fails.0)

-- a buffer is as long as it was wanted, or longer than a piece as that is
abbrev pub IsLong : (len wanted : ℕ) → Type 0
IsLong len wanted = (len ≡ wanted) ⊎ ((most_bytes < len) × (most_bytes < wanted))

module _ {S : Type 0} (told : S → Option History) (moment : S → ℕ) (faults : S → ℕ → ℕ) (actor : ℕ) where
  module _ (object : ℕ) (kept : Digest) (from offset : ℕ) where
    as_long : (old new : Hall S) (len wanted : ℕ) (answer : Result (List ℕ) Refusal) → IsLong len wanted → Steps told moment faults actor (ReadPiece object kept from offset len answer) old new
        → Steps told moment faults actor (ReadPiece object kept from offset wanted answer) old new
    as_long old new len wanted answer (inl same) steps = subst (λ n. Steps told moment faults actor (ReadPiece object kept from offset n answer) old new) same steps
    as_long old new len wanted answer (inr longer) steps = λ m is.
        let r = steps m is in (
          r.0,
          r.1,
          r.2,
          record {
            number = r.3.number;
            later = r.3.later;
            step = long_reads actor object kept from offset len wanted (with_contents r.0 m) r.1 answer (lt-leb len most_bytes longer.0) (lt-leb wanted most_bytes longer.1) r.3.step;
          },
          r.4,
        )

    -- what was read into a buffer of this length
    pub as_read : (old new : Hall S) (count len wanted : ℕ) (seen given : Result (List ℕ) Refusal) → count ≡ len → IsLong len wanted → seen ≡ given
        → Steps told moment faults actor (ReadPiece object kept from offset count seen) old new → Steps told moment faults actor (ReadPiece object kept from offset wanted given) old new
    as_read old new count len wanted seen given same long is steps =
        subst (λ (r : Result (List ℕ) Refusal). Steps told moment faults actor (ReadPiece object kept from offset wanted r) old new) is
        (as_long old new len wanted seen long (subst (λ n. Steps told moment faults actor (ReadPiece object kept from offset n seen) old new) same steps))

    -- there was no memory for a buffer
    pub unread : (hall : Hall S) (wanted : ℕ) → Steps told moment faults actor (ReadPiece object kept from offset wanted (Err Memory)) hall hall
    unread hall wanted = λ m is.
        (m.contents, m, λ trusted. refl, record { number = refl; later = no_later m; step = inl (inr refl, record { core = refl; contents = refl }) }, is)

  -- an image of this kind
  pub of_kind : (kind given : ImageKind) (answer : Result ImageReply Refusal) (old new : Hall S) → kind ≡ given → Steps told moment faults actor (Image given answer) old new
      → Steps told moment faults actor (Image kind answer) old new
  of_kind kind given answer old new is steps = subst (λ k. Steps told moment faults actor (Image k answer) old new) (sym is) steps

-- a buffer that was lent whole, cut to what was read
pub cut_back : (count len : ℕ) (into items : List ℕ) → length into ≡ length items → length items ≡ len → take count (take len (into ++ drop (length into) items)) ≡ take count into
cut_back count len into items same long =
    ap (λ (l : List ℕ). take count l)
    (ap (λ (l : List ℕ). take len (into ++ l)) (drop_all (length into) items (omega (arith, same))) ∙ ap (λ (l : List ℕ). take len l) (append-nil into) ∙ take_all len into (omega (arith, same, long)))
