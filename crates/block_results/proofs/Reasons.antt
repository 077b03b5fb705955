-- Each step of the machine that was refused has its cause at the state that it met.
use Rattle.std.proofs.Common.{◌≡◌, ◌⊎◌, inl, inr, ℕ, ◌+◌, ◌^◌, Bool, true, false, nat_lt, List, [], ◌∷◌, ◌++◌, length, Option, Some, None, Result, Ok, Err, refl, sym, subst, ◌∙◌}
use Rattle.std.proofs.lemmas.List.{append-nil}
use Rattle.std.proofs.lemmas.Option.{same_Some}
use Rattle.item_refusals.proofs.Foremost.{foremost_append}
use Rattle.kinds.specs.Refusals.{foremost, unless}
use Rattle.kinds.specs.declared.refusal.Refusal.{Refusal}
use Rattle.kinds.specs.declared.refusal.Refusal.TheVariants as refused
use Rattle.space.specs.declared.aim.Aim.TheVariants as aim
use Rattle.kinds.specs.declared.segment.Digest.{Digest}
use Rattle.inventory_rows.specs.version_groups.declared.versions.Version.{Version}
use Rattle.inventory_rows.specs.Search.{version}
use Rattle.space.specs.declared.aim.Aim.{Aim}
use Rattle.steps.specs.declared.image.ImageKind.{ImageKind}
use Rattle.steps.specs.declared.image.ImageReply.{ImageReply}
use Rattle.steps.specs.declared.image.ImageKind.TheVariants as image
use Rattle.steps.specs.Events.{Deed, Event, refusal}
use Rattle.steps.specs.Events.Deed.{OpenNew, OpenCopy, WritePiece, CopyPiece, Seal, Commit, DropTicket, ReadPiece, Ask, Image, Reuse, Force}
use Rattle.machine.proofs.Elsewhere.{sooner-one}
use Rattle.machine.specs.Alone.{Moves, behind, with_contents}
use Rattle.machine.specs.Causes.{image_refused}
use Rattle.machine.specs.Machine.{BeginsBackup, Case, DropsTicket, ForceFails, IsLostFor, IsPlaced, Places, Stays, StopsShort, can_place_copy, can_place_new, ended, in_progress, placing_refused, read_count, next_count, size_of, space}
use Rattle.machine.specs.State.{Machine, Place, inventory, object_of, sight}
use Rattle.block_results.specs.Refusing.{Failed, HasNoPlace, IsRefusedFor, IsUnended, IsUnread, bounds, held_reasons, own_reasons}

-- ---- the foremost of several lists

parts-of : (xs ys : List Refusal) (e : Refusal) → foremost (xs ++ ys) ≡ Some e → (foremost xs ≡ Some e) ⊎ (foremost ys ≡ Some e)
parts-of xs ys e h = sooner-one (foremost xs) (foremost ys) e (sym (foremost_append xs ys) ∙ h)

placed-for : (can : Bool) (Is : Result Place Refusal → Type 0) (placed : Result Place Refusal) (e : Refusal) → IsPlaced can Is placed → foremost (placing_refused can placed) ≡ Some e → Is (Err e)
placed-for true Is (Ok place) e at h = absurd cc
placed-for true Is (Err f) e at h = subst (λ (x : Refusal). Is (Err x)) (same_Some f e h) at
placed-for false Is placed e at h = absurd cc

module _ (places : Places) (actor : ℕ) (old new : Machine) where
  abbrev For : Deed → Refusal → Type 0
  For deed e = IsRefusedFor places actor deed old new e

  of-own : (deed : Deed) (e : Refusal) → foremost (own_reasons actor deed (sight actor old.core)) ≡ Some e → For deed e
  of-own deed e h = inl h

  of-place : (deed : Deed) (e : Refusal) → HasNoPlace places actor deed old e → For deed e
  of-place deed e h = inr (inl h)

  of-held : (deed : Deed) (e : Refusal) → foremost (held_reasons actor deed old.core) ≡ Some e → For deed e
  of-held deed e h = inr (inr (inl h))

  of-bounds : (deed : Deed) (e : Refusal) → foremost (bounds deed old.core) ≡ Some e → For deed e
  of-bounds deed e h = inr (inr (inr (inl h)))

  of-ended : (deed : Deed) (e : Refusal) → foremost (ended old) ≡ Some e → For deed e
  of-ended deed e h = inr (inr (inr (inr (inl h))))

  of-failed : (deed : Deed) (e : Refusal) → Failed actor deed old new e → For deed e
  of-failed deed e h = inr (inr (inr (inr (inr (inl h)))))

  of-memory : (deed : Deed) (e : Refusal) → e ≡ refused.Memory → For deed e
  of-memory deed e h = inr (inr (inr (inr (inr (inr h)))))

  failed-as : (deed : Deed) (e f : Refusal) → e ≡ f → Failed actor deed old new f → For deed e
  failed-as deed e f is h = of-failed deed e (subst (λ (x : Refusal). Failed actor deed old new x) (sym is) h)

  -- a step that asks for nothing of others
  alone-for : (deed : Deed) (e : Refusal) (F : Type 0) (S : Type 0) → (((foremost (ended old ++ own_reasons actor deed (sight actor old.core)) ≡ Some e) ⊎ (e ≡ refused.Memory)) × S)
      ⊎ ((foremost (ended old ++ own_reasons actor deed (sight actor old.core)) ≡ None) × F) → (F → For deed e) → For deed e
  alone-for deed e F S (inl (inl h, s)) fails = (elim (parts-of (ended old) (own_reasons actor deed (sight actor old.core)) e h) as (λ _. For deed e) [
    | inl x ↦ of-ended deed e x
    | inr x ↦ of-own deed e x
  ])
  alone-for deed e F S (inl (inr m, s)) fails = of-memory deed e m
  alone-for deed e F S (inr (none, f)) fails = fails f

  -- one for which these may stand in its way
  others-for : (deed : Deed) (e : Refusal) (others : List Refusal) (F : Type 0) (S : Type 0)
      → (((foremost (ended old ++ (own_reasons actor deed (sight actor old.core) ++ others)) ≡ Some e) ⊎ (e ≡ refused.Memory)) × S)
      ⊎ ((foremost (ended old ++ (own_reasons actor deed (sight actor old.core) ++ others)) ≡ None) × F) → (foremost others ≡ Some e → For deed e) → (F → For deed e) → For deed e
  others-for deed e others F S (inl (inl h, s)) held fails = (elim (parts-of (ended old) (own_reasons actor deed (sight actor old.core) ++ others) e h) as (λ _. For deed e) [
    | inl x ↦ of-ended deed e x
    | inr x ↦ elim (parts-of (own_reasons actor deed (sight actor old.core)) others e x) as (λ _. For deed e) [
      | inl y ↦ of-own deed e y
      | inr y ↦ held y
    ]
  ])
  others-for deed e others F S (inl (inr m, s)) held fails = of-memory deed e m
  others-for deed e others F S (inr (none, f)) held fails = fails f

  dropped-for : (deed : Deed) (number : ℕ) (e : Refusal) → DropsTicket actor number old e new → For deed e
  dropped-for deed number e (t, file, mine, on, is, rose, becomes) = failed-as deed e (refused.WriteFault file) is rose

  placed-or : (deed : Deed) (e : Refusal) (can : Bool) (Is : Result Place Refusal → Type 0) (placed : Result Place Refusal) (more : List Refusal) → IsPlaced can Is placed → (Is (Err e) → For deed e)
      → (foremost more ≡ Some e → For deed e) → foremost (placing_refused can placed ++ more) ≡ Some e → For deed e
  placed-or deed e can Is placed more at place rest h = (elim (parts-of (placing_refused can placed) more e h) as (λ _. For deed e) [
    | inl x ↦ place (placed-for can Is placed e at x)
    | inr x ↦ rest x
  ])

  stopped-for : (e : Refusal) → StopsShort actor old e new → (k : Result ImageReply Refusal) → For (Image image.Next k) e
  stopped-for e (i, mine, inl (is_backup, is, rose, becomes)) k = failed-as (Image image.Next k) e (refused.WriteFault i.file) is rose
  stopped-for e (i, mine, inr (inl (is_backup, whole, is, full, becomes))) k = failed-as (Image image.Next k) e refused.InventoryFull is (i, mine, is_backup, full)
  stopped-for e (i, mine, inr (inr (file, count, moment, core, is, fault, left, rest))) k = failed-as (Image image.Next k) e (refused.LogFault file count) is fault

  begun-for : (kind : ImageKind) (after : Option ℕ) (e : Refusal) → held_reasons actor (Image kind (Err e)) old.core ≡ in_progress old.core.image
      → BeginsBackup actor after (image_refused kind (sight actor old.core)) old new (Err e) → For (Image kind (Err e)) e
  begun-for kind after e same h =
      others-for (Image kind (Err e)) e (in_progress old.core.image) _ _ h (λ x. of-held (Image kind (Err e)) e (subst (λ (l : List Refusal). foremost l ≡ Some e) (sym same) x))
      (λ f. elim f as (λ _. For (Image kind (Err e)) e) [
        | inl g ↦ failed-as (Image kind (Err e)) e (refused.LogFault g.0 g.1) g.2 g.3
        | inr g ↦ failed-as (Image kind (Err e)) e (refused.WriteFault old.core.next_file) g.1 g.2
      ])

  image-for : (kind : ImageKind) (e : Refusal) → Case places actor (Image kind (Err e)) old new → For (Image kind (Err e)) e
  image-for image.Checkpoint e h =
      others-for (Image image.Checkpoint (Err e)) e (in_progress old.core.image ++ unless (nat_lt (old.core.generation + 1) (2 ^ 62)) refused.InventoryFull) _ _ h
      (λ x. elim (parts-of (in_progress old.core.image) (unless (nat_lt (old.core.generation + 1) (2 ^ 62)) refused.InventoryFull) e x) as (λ _. For (Image image.Checkpoint (Err e)) e) [
        | inl y ↦ of-held (Image image.Checkpoint (Err e)) e y
        | inr y ↦ of-bounds (Image image.Checkpoint (Err e)) e y
      ])
      (λ f. failed-as (Image image.Checkpoint (Err e)) e (refused.LogFault f.0 f.1) f.4 f.5)
  image-for image.Backup e h = begun-for image.Backup None e refl h
  image-for (image.Since after) e h = begun-for (image.Since after) (Some after) e refl h
  image-for image.Next e h = alone-for (Image image.Next (Err e)) e _ _ h (λ f. stopped-for e f (Err e))

  new-for : (number size prefer : ℕ) (e : Refusal) → Case places actor (OpenNew number size prefer (Err e)) old new → For (OpenNew number size prefer (Err e)) e
  new-for number size prefer e (placed, at, h) =
      let d : Deed = OpenNew number size prefer (Err e) in
      let can : Bool = can_place_new number size (sight actor old.core) in
      others-for d e _ _ _ h
      (λ x. placed-or d e can (places (inventory old.core) (space old.core) actor size (aim.New number) prefer 0) placed _ at (λ y. of-place d e y) (λ y. of-bounds d e y) x) (λ f. absurd f)

  copy-for : (object : ℕ) (a : Aim) (avoid : ℕ) (e : Refusal) → Case places actor (OpenCopy object a avoid (Err e)) old new → For (OpenCopy object a avoid (Err e)) e
  copy-for object a avoid e (placed, at, h) =
      let d : Deed = OpenCopy object a avoid (Err e) in
      let can : Bool = can_place_copy object a (inventory old.core) in
      others-for d e _ _ _ h
      (λ x. placed-or d e can (places (inventory old.core) (space old.core) actor (size_of object (inventory old.core)) a 0 avoid) placed _ at (λ y. of-place d e y) (λ y. of-bounds d e y) x) (λ f. absurd f)

  -- a step that was refused so
  case-for : (deed : Deed) (e : Refusal) → refusal deed ≡ Some e → Case places actor deed old new → For deed e
  case-for (OpenNew number size prefer (Ok x)) e is h = absurd cc
  case-for (OpenNew number size prefer (Err f)) e is h = subst (λ (x : Refusal). For (OpenNew number size prefer (Err f)) x) (same_Some f e is) (new-for number size prefer f h)
  case-for (OpenCopy object a avoid (Ok x)) e is h = absurd cc
  case-for (OpenCopy object a avoid (Err f)) e is h = subst (λ (x : Refusal). For (OpenCopy object a avoid (Err f)) x) (same_Some f e is) (copy-for object a avoid f h)
  case-for (WritePiece number bytes (Ok x)) e is h = absurd cc
  case-for (WritePiece number bytes (Err f)) e is h =
      subst (λ (x : Refusal). For (WritePiece number bytes (Err f)) x) (same_Some f e is) (alone-for (WritePiece number bytes (Err f)) f _ _ h (λ d. dropped-for (WritePiece number bytes (Err f)) number f d))
  case-for (CopyPiece number (Ok x)) e is h = absurd cc
  case-for (CopyPiece number (Err f)) e is h =
      subst (λ (x : Refusal). For (CopyPiece number (Err f)) x) (same_Some f e is)
      (alone-for (CopyPiece number (Err f)) f _ _ h (λ d. elim d as (λ _. For (CopyPiece number (Err f)) f) [
        | inl g ↦ failed-as (CopyPiece number (Err f)) f refused.Unavailable g.2 (g.0, g.1, g.3)
        | inr g ↦ dropped-for (CopyPiece number (Err f)) number f g
      ]))
  case-for (Seal number (Ok x)) e is h = absurd cc
  case-for (Seal number (Err f)) e is h = subst (λ (x : Refusal). For (Seal number (Err f)) x) (same_Some f e is) (alone-for (Seal number (Err f)) f _ _ h (λ d. dropped-for (Seal number (Err f)) number f d))
  case-for (Commit asked numbers (Ok x)) e is h = absurd cc
  case-for (Commit asked numbers (Err f)) e is h =
      subst (λ (x : Refusal). For (Commit asked numbers (Err f)) x) (same_Some f e is)
      (others-for (Commit asked numbers (Err f)) f _ _ _ h (λ x. of-held (Commit asked numbers (Err f)) f x) (λ d. failed-as (Commit asked numbers (Err f)) f (refused.LogFault d.1 d.2) d.4 d.5))
  case-for (DropTicket number (Ok x)) e is h = absurd cc
  case-for (DropTicket number (Err f)) e is h = subst (λ (x : Refusal). For (DropTicket number (Err f)) x) (same_Some f e is) (alone-for (DropTicket number (Err f)) f ⊥ _ h (λ d. absurd d))
  case-for (ReadPiece object kept from offset wanted (Ok x)) e is h = absurd cc
  case-for (ReadPiece object kept from offset wanted (Err f)) e is h =
      subst (λ (x : Refusal). For (ReadPiece object kept from offset wanted (Err f)) x) (same_Some f e is)
      (alone-for (ReadPiece object kept from offset wanted (Err f)) f _ _ h (λ d. failed-as (ReadPiece object kept from offset wanted (Err f)) f refused.Unavailable d.0 d.1))
  case-for (Ask query (Ok x)) e is h = absurd cc
  case-for (Ask query (Err f)) e is h = subst (λ (x : Refusal). For (Ask query (Err f)) x) (same_Some f e is) (alone-for (Ask query (Err f)) f ⊥ _ h (λ d. absurd d))
  case-for (Image kind (Ok x)) e is h = absurd cc
  case-for (Image kind (Err f)) e is h = subst (λ (x : Refusal). For (Image kind (Err f)) x) (same_Some f e is) (image-for kind f h)
  case-for (Reuse file (Ok x)) e is h = absurd cc
  case-for (Reuse file (Err f)) e is h =
      subst (λ (x : Refusal). For (Reuse file (Err f)) x) (same_Some f e is)
      (others-for (Reuse file (Err f)) f _ _ _ h (λ x. of-held (Reuse file (Err f)) f x) (λ d. failed-as (Reuse file (Err f)) f (refused.LogFault d.0 d.1) d.2 d.3))
  case-for (Force (Ok x)) e is h = absurd cc
  case-for (Force (Err f)) e is h =
      subst (λ (x : Refusal). For (Force (Err f)) x) (same_Some f e is)
      (alone-for (Force (Err f)) f (ForceFails old f new) (Stays old new)
      (subst (λ (l : List Refusal). (((foremost l ≡ Some f) ⊎ (f ≡ refused.Memory)) × Stays old new) ⊎ ((foremost l ≡ None) × ForceFails old f new)) (sym (append-nil (ended old))) h)
      (λ (d : ForceFails old f new). failed-as (Force (Err f)) f (refused.LogFault d.0 d.1) d.2 d.3))

-- ---- other bytes

-- of what is said the bytes of the objects are no part
lost-front : (contents : ℕ → List ℕ) (old next : Machine) (from offset count : ℕ) (found : Option Version) → IsLostFor (with_contents contents old) next from offset count found → IsLostFor old next from offset count found
lost-front contents old next from offset count None h = h
lost-front contents old next from offset count (Some w) h = h

lost-back : (contents : ℕ → List ℕ) (old next : Machine) (from offset count : ℕ) (found : Option Version) → IsLostFor old next from offset count found → IsLostFor old (with_contents contents next) from offset count found
lost-back contents old next from offset count None h = h
lost-back contents old next from offset count (Some w) h = h

unread-front : (actor : ℕ) (deed : Deed) (contents : ℕ → List ℕ) (old next : Machine) → IsUnread actor deed (with_contents contents old) next → IsUnread actor deed old next
unread-front actor (CopyPiece number answer) contents old next (t, mine, h) = (t, mine, lost-front contents old next 0 (length t.bytes) (next_count t) (version (object_of t.purpose) (inventory old.core)) h)
unread-front actor (ReadPiece object kept from offset wanted answer) contents old next h =
    lost-front contents old next from offset (read_count object wanted offset (inventory old.core)) (version object (inventory old.core)) h
unread-front actor deed contents old next h = absurd h

unread-back : (actor object : ℕ) (kept : Digest) (from offset wanted : ℕ) (answer : Result (List ℕ) Refusal) (contents : ℕ → List ℕ) (old next : Machine) → IsUnread actor (ReadPiece object kept from offset wanted answer) old next
    → IsUnread actor (ReadPiece object kept from offset wanted answer) old (with_contents contents next)
unread-back actor object kept from offset wanted answer contents old next h = lost-back contents old next from offset (read_count object wanted offset (inventory old.core)) (version object (inventory old.core)) h

unended-front : (actor : ℕ) (deed : Deed) (contents : ℕ → List ℕ) (old : Machine) → IsUnended actor deed (with_contents contents old) → IsUnended actor deed old
unended-front actor (Image image.Next answer) contents old h = h
unended-front actor deed contents old h = absurd h

failed-front : (actor : ℕ) (deed : Deed) (contents : ℕ → List ℕ) (old next : Machine) (e : Refusal) → Failed actor deed (with_contents contents old) next e → Failed actor deed old next e
failed-front actor deed contents old next (refused.WriteFault file) h = h
failed-front actor deed contents old next (refused.LogFault file count) h = h
failed-front actor deed contents old next refused.Unavailable h = unread-front actor deed contents old next h
failed-front actor deed contents old next refused.InventoryFull h = unended-front actor deed contents old h
failed-front actor deed contents old next e h = absurd h

failed-back : (actor object : ℕ) (kept : Digest) (from offset wanted : ℕ) (answer : Result (List ℕ) Refusal) (contents : ℕ → List ℕ) (old next : Machine) (e : Refusal) → Failed actor (ReadPiece object kept from offset wanted answer) old next e
    → Failed actor (ReadPiece object kept from offset wanted answer) old (with_contents contents next) e
failed-back actor object kept from offset wanted answer contents old next (refused.WriteFault file) h = h
failed-back actor object kept from offset wanted answer contents old next (refused.LogFault file count) h = h
failed-back actor object kept from offset wanted answer contents old next refused.Unavailable h = unread-back actor object kept from offset wanted answer contents old next h
failed-back actor object kept from offset wanted answer contents old next refused.InventoryFull h = absurd h
failed-back actor object kept from offset wanted answer contents old next e h = absurd h

place-front : (places : Places) (actor : ℕ) (deed : Deed) (contents : ℕ → List ℕ) (old : Machine) (e : Refusal) → HasNoPlace places actor deed (with_contents contents old) e → HasNoPlace places actor deed old e
place-front places actor (OpenNew pool size prefer answer) contents old e h = h
place-front places actor (OpenCopy object a avoid answer) contents old e h = h
place-front places actor deed contents old e h = absurd h

for-front : (places : Places) (actor : ℕ) (deed : Deed) (contents : ℕ → List ℕ) (old next : Machine) (e : Refusal) → IsRefusedFor places actor deed (with_contents contents old) next e → IsRefusedFor places actor deed old next e
for-front places actor deed contents old next e (inl h) = inl h
for-front places actor deed contents old next e (inr (inl h)) = inr (inl (place-front places actor deed contents old e h))
for-front places actor deed contents old next e (inr (inr (inl h))) = inr (inr (inl h))
for-front places actor deed contents old next e (inr (inr (inr (inl h)))) = inr (inr (inr (inl h)))
for-front places actor deed contents old next e (inr (inr (inr (inr (inl h))))) = inr (inr (inr (inr (inl h))))
for-front places actor deed contents old next e (inr (inr (inr (inr (inr (inl h)))))) = inr (inr (inr (inr (inr (inl (failed-front actor deed contents old next e h))))))
for-front places actor deed contents old next e (inr (inr (inr (inr (inr (inr h)))))) = inr (inr (inr (inr (inr (inr h)))))

read-back : (places : Places) (actor object : ℕ) (kept : Digest) (from offset wanted : ℕ) (answer : Result (List ℕ) Refusal) (contents : ℕ → List ℕ) (old next : Machine) (e : Refusal)
    → IsRefusedFor places actor (ReadPiece object kept from offset wanted answer) old next e → IsRefusedFor places actor (ReadPiece object kept from offset wanted answer) old (with_contents contents next) e
read-back places actor object kept from offset wanted answer contents old next e (inl h) = inl h
read-back places actor object kept from offset wanted answer contents old next e (inr (inl h)) = absurd h
read-back places actor object kept from offset wanted answer contents old next e (inr (inr (inl h))) = inr (inr (inl h))
read-back places actor object kept from offset wanted answer contents old next e (inr (inr (inr (inl h)))) = inr (inr (inr (inl h)))
read-back places actor object kept from offset wanted answer contents old next e (inr (inr (inr (inr (inl h))))) = inr (inr (inr (inr (inl h))))
read-back places actor object kept from offset wanted answer contents old next e (inr (inr (inr (inr (inr (inl h)))))) =
    inr (inr (inr (inr (inr (inl (failed-back actor object kept from offset wanted answer contents old next e h))))))
read-back places actor object kept from offset wanted answer contents old next e (inr (inr (inr (inr (inr (inr h)))))) = inr (inr (inr (inr (inr (inr h)))))

behind-for : (places : Places) (actor : ℕ) (deed : Deed) (contents : ℕ → List ℕ) (old next : Machine) (e : Refusal) → IsRefusedFor places actor deed old next e → IsRefusedFor places actor deed old (behind deed contents next) e
behind-for places actor (OpenNew number size prefer answer) contents old next e h = h
behind-for places actor (OpenCopy object a avoid answer) contents old next e h = h
behind-for places actor (WritePiece number bytes answer) contents old next e h = h
behind-for places actor (CopyPiece number answer) contents old next e h = h
behind-for places actor (Seal number answer) contents old next e h = h
behind-for places actor (Commit asked numbers answer) contents old next e h = h
behind-for places actor (DropTicket number answer) contents old next e h = h
behind-for places actor (ReadPiece object kept from offset wanted answer) contents old next e h = read-back places actor object kept from offset wanted answer contents old next e h
behind-for places actor (Ask query answer) contents old next e h = h
behind-for places actor (Image kind answer) contents old next e h = h
behind-for places actor (Reuse file answer) contents old next e h = h
behind-for places actor (Force answer) contents old next e h = h

-- so each step of a run of turns
pub moved-for : (trusted : Type 0) (places : Places) (actor : ℕ) (t : Event) (old new : Machine) (e : Refusal) → Moves trusted places actor t old new → refusal t.deed ≡ Some e → IsRefusedFor places actor t.deed old new e
moved-for trusted places actor t old new e m is =
    let made : IsRefusedFor places actor t.deed old m.next e = for-front places actor t.deed m.seen old m.next e (case-for places actor (with_contents m.seen old) m.next t.deed e is m.made.step) in
    subst (λ (n : Machine). IsRefusedFor places actor t.deed old n e) (sym m.left) (behind-for places actor t.deed old.contents old m.next e made)
