-- How what stands in frames is made firm, file by file.
use Rattle.std.proofs.Common.{◌≡◌, inl, inr, ℕ, ◌+◌, ◌<◌, ◌≤◌, List, [], ◌∷◌, ◌++◌, length, get_or, take, Option, None, Some, Result, Ok, Err, refl, sym, ap, subst, ◌∙◌}
use Rattle.std.specs.Prelude.{IfSome}
use Rattle.std.specs.List.{AllByRecursion}
use Rattle.std.proofs.lemmas.Bool.{cases_eq}
use Rattle.std.proofs.lemmas.List.{take_all, take_more}
use Rattle.kinds.specs.declared.segment.Segment.{Segment}
use Rattle.store_api.specs.Disk.{History, reads, settled}
use Rattle.store_api.specs.Runs.{Synced}
use Rattle.store_api.specs.declared.store.Failed.{Failed}
use Rattle.store_api.proofs.Ranges.{wrote_none, wrote_nothing}
use Rattle.store_api.specs.Told.{Told}
use Rattle.store_api.proofs.Runs.{goes_standing, told_then}
use Rattle.inventory_laws.proofs.Lists.{each_also}
use Rattle.space.specs.declared.places.Placed.{Placed}
use Rattle.hall.specs.Frames.{IsSettled, SyncedAll, SyncedOnce, WroteEach, segments_of}
use Rattle.hall.proofs.Frames.{each_snoc, place_is, within_segments}

-- ---- one file

pub once_again : {T E : Type 0} (done : T) (last : Option ℕ) (file : ℕ) (h : History) → last ≡ Some file → (let result : Result T E = Ok done in SyncedOnce last file result h h)
once_again done last file h is = record {
  within = wrote_none file 0 0 h;
  same = refl;
  firm = λ settled. subst (λ o. IfSome o (IsSettled h)) is settled;
}

pub once_synced : {T : Type 0} (last : Option ℕ) (file : ℕ) (result : Result T Failed) (old new : History) → Synced file result old new → SyncedOnce last file result old new
once_synced last file (Ok done) old new s = record { within = s.within; same = s.same; firm = λ _. s.durable ∙ ap settled (sym s.same) }
once_synced last file (Err e) old new s = record { within = s.within; same = s.same; firm = tt }

-- ---- all of them

-- The files of the segments in front of the one with this number were synced, the last of them last.
pub record SyncedTo (all : List Segment) (i : ℕ) (last : Option ℕ) (old new : History) : Type 0 where
  pub wrote : WroteEach (take i all) old new
  pub same : (file : ℕ) → reads new file ≡ reads old file
  pub synced : IfSome last (IsSettled new)
  pub firm : AllByRecursion (λ s. IsSettled new s.file) (take i all)

pub synced_begins : (all : List Segment) (h : History) → SyncedTo all 0 None h h
synced_begins all h = record { wrote = refl; same = λ file. refl; synced = tt; firm = tt }

both_joined : {A : Type 0} (P : A → Type 0) (xs : List A) (x : A) → AllByRecursion P xs → P x → AllByRecursion P (xs ++ x ∷ [])
both_joined P [] x a p = (p, tt)
both_joined P (y ∷ xs) x a p = (a.0, both_joined P xs x a.1 p)

module _ (all : List Segment) (i : ℕ) (d : Segment) (lt : i < length all) where
  abbrev here : Segment
  here = get_or all i d

  next : take (i + 1) all ≡ take i all ++ here ∷ []
  next = take_more all i d lt

  -- how a file reads behind the call
  reads_on : {T : Type 0} {E : Type 0} (last : Option ℕ) (result : Result T E) (mid new : History) → SyncedOnce last here.file result mid new → (file : ℕ) → reads new file ≡ reads mid file
  reads_on last result mid new s file = elim (cases_eq file here.file) as (λ _. reads new file ≡ reads mid file) [
    | inl e ↦ subst (λ n. reads new n ≡ reads mid n) (sym e) s.same
    | inr other ↦ ap (λ x. x.bytes) (goes_standing (λ n. n ≡ here.file) mid new file other s.within.goes)
  ]

  still : {T : Type 0} {E : Type 0} (last : Option ℕ) (result : Result T E) (mid new : History) → SyncedOnce last here.file result mid new → IsSettled new here.file → (file : ℕ) → IsSettled mid file
      → IsSettled new file
  still last result mid new s firm file was = elim (cases_eq file here.file) as (λ _. IsSettled new file) [
    | inl e ↦ subst (λ n. IsSettled new n) (sym e) firm
    | inr other ↦ goes_standing (λ n. n ≡ here.file) mid new file other s.within.goes ∙ was ∙ ap settled (sym (reads_on last result mid new s file))
  ]

  pub synced_next : {T E : Type 0} (done : T) (last : Option ℕ) (old mid new : History) → SyncedTo all i last old mid → (let result : Result T E = Ok done in SyncedOnce last here.file result mid new)
      → SyncedTo all (i + 1) (Some here.file) old new
  synced_next {T} {E} done last old mid new to s =
      let result : Result T E = Ok done in
      let firm : IsSettled new here.file = s.firm to.synced in
      record {
        wrote = subst (λ l. WroteEach l old new) (sym next) (each_snoc (take i all) here old mid new to.wrote (wrote_nothing here.file here.offset (32 + here.len) mid new s.within));
        same = λ file. reads_on last result mid new s file ∙ to.same file;
        synced = firm;
        firm = subst (λ l. AllByRecursion (λ r. IsSettled new r.file) l) (sym next)
            (both_joined (λ r. IsSettled new r.file) (take i all) here
            (each_also (λ r. IsSettled mid r.file) (λ r. IsSettled new r.file) (take i all) (λ r was. still last result mid new s firm r.file was) to.firm) firm);
      }

  pub synced_fails : {T E U F : Type 0} (e : E) (f : F) (last : Option ℕ) (old mid new : History) → SyncedTo all i last old mid → (let result : Result T E = Err e in SyncedOnce last here.file result mid new)
      → (let result : Result U F = Err f in SyncedAll all result old new)
  synced_fails {T} {E} e f last old mid new to s =
      let result : Result T E = Err e in
      record {
        wrote = (i + 1, subst (λ l. WroteEach l old new) (sym next) (each_snoc (take i all) here old mid new to.wrote (wrote_nothing here.file here.offset (32 + here.len) mid new s.within)));
        same = λ file. reads_on last result mid new s file ∙ to.same file;
        firm = tt;
      }

pub synced_done : {T E : Type 0} (all : List Segment) (i : ℕ) (last : Option ℕ) (done : T) (old new : History) → length all ≤ i → SyncedTo all i last old new
    → (let result : Result T E = Ok done in SyncedAll all result old new)
synced_done all i last done old new le to = record {
  wrote = (i, to.wrote);
  same = to.same;
  firm = subst (λ l. AllByRecursion (λ r. IsSettled new r.file) l) (take_all i all le) to.firm;
}

-- ---- places

module _ (places : List Placed) (i : ℕ) (d : Placed) (lt : i < length places) where
  abbrev all_of : List Segment
  all_of = segments_of places

  abbrev one : Segment
  one = (get_or places i d).segment

  pub synced_place : (T E : Type 0) (done : T) (last : Option ℕ) (x y z : Option History) → Told x y (SyncedTo all_of i last)
      → (let result : Result T E = Ok done in Told y z (SyncedOnce last one.file result)) → Told x z (SyncedTo all_of (i + 1) (Some one.file))
  synced_place T E done last x y z b w =
      told_then x y z _ _ _ (λ old mid new b w.
      subst (λ (s : Segment). SyncedTo all_of (i + 1) (Some s.file) old new) (place_is places i d lt)
      (synced_next all_of i d.segment (within_segments places i d lt) done last old mid new b
      (subst (λ (s : Segment). let result : Result T E = Ok done in SyncedOnce last s.file result mid new) (sym (place_is places i d lt)) w))) b w

  pub synced_place_fails : (T E U F : Type 0) (e : E) (f : F) (last : Option ℕ) (x y z : Option History) → Told x y (SyncedTo all_of i last)
      → (let result : Result T E = Err e in Told y z (SyncedOnce last one.file result)) → (let result : Result U F = Err f in Told x z (SyncedAll all_of result))
  synced_place_fails T E U F e f last x y z b w =
      told_then x y z _ _ _ (λ old mid new b w.
      synced_fails all_of i d.segment (within_segments places i d lt) {T = T} {E = E} {U = U} {F = F} e f last old mid new b
      (subst (λ (s : Segment). let result : Result T E = Err e in SyncedOnce last s.file result mid new) (sym (place_is places i d lt)) w)) b w
