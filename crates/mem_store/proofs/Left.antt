-- What a stop of a store in memory leaves of a file is one of the things that a stop may leave.
use Rattle.std.proofs.Common.{◌≡◌, inl, inr, ⊎_elim, cond, eqb, not, Bool, true, false, ◌&&◌, ◌||◌, ℕ, zero, suc, ◌+◌, ◌-◌, ◌/◌, ◌%◌, ◌≤◌, List, [], ◌∷◌, ◌++◌, length, take, drop, replicate, refl, sym, ◌∙◌, ap, subst, arith, append_assoc}
use Rattle.std.specs.Int.{bit_at}
use Rattle.std.proofs.lemmas.Bool.{cases_Bool, cond-true, cond-false, cond_both, and_right, or_parts, or_right}
use Rattle.std.proofs.lemmas.List.{append-nil, length-take, length-replicate, get_or-take}
use Rattle.store_api.specs.Disk.{Standing, Leaves, settled, changed, overwritten, idle, standing_after}
use Rattle.store_api.specs.Runs.{AgreesOutside}
use Rattle.store_api.proofs.Bytes.{overwritten_outside, overwritten_no_shorter}
use Rattle.store_api.proofs.Images.{write_left}
use Rattle.mem_store.specs.declared.entry.Kind.{Kind}
use Rattle.mem_store.specs.declared.entry.Kind.TheVariants.{Write, FailedWrite, Cut, Sync}
use Rattle.mem_store.specs.declared.entry.Entry.{Entry}
use Rattle.mem_store.specs.declared.files.Files.{Files}
use Rattle.mem_store.specs.Files.{content_of}
use Rattle.mem_store.specs.Entries.{change_of, undo, undone, first_of, calls_onto, Agrees}
use Rattle.mem_store.specs.Stops.{is_sync, has_sync, has_write, is_pending, pending_writes, synced, half_written, chosen, kept, kept_one, redone, stopped}
use Rattle.mem_store.proofs.Added.{standing_idles, calls_snoc}

-- a write differs in its range alone
agrees_overwritten : (at len stable start : ℕ) (piece before bytes : List ℕ) → at ≤ start → start + length piece ≤ at + len → AgreesOutside at len stable before bytes → AgreesOutside at len stable before (overwritten bytes start piece)
agrees_overwritten at len stable start piece before bytes from to a = record {
  long = omega (arith, a.long, overwritten_no_shorter bytes start piece);
  same = λ place lt out. overwritten_outside bytes start piece place (⊎_elim (λ low. inl (omega arith)) (λ high. inr (omega arith)) out) ∙ a.same place lt out;
}

-- and so does what the choice makes of it
agrees_chosen : (choice number : ℕ) (is_last : Bool) (at stable : ℕ) (piece bytes : List ℕ) → stable ≤ length bytes → AgreesOutside at (length piece) stable bytes (chosen choice number is_last at piece bytes)
agrees_chosen choice number is_last at stable piece bytes long =
    cond_both (is_last && eqb (bit_at choice 63) 1) (half_written at piece bytes) (cond bit (overwritten bytes at piece) bytes) (AgreesOutside at (length piece) stable bytes) (λ e. half)
    (λ e. cond_both bit (overwritten bytes at piece) bytes (AgreesOutside at (length piece) stable bytes) (λ e. whole) (λ e. same))
  where
    bit : Bool
    bit = eqb (bit_at choice (number % 63)) 1

    same : AgreesOutside at (length piece) stable bytes bytes
    same = record { long = long; same = λ place lt out. refl }

    whole : AgreesOutside at (length piece) stable bytes (overwritten bytes at piece)
    whole = agrees_overwritten at (length piece) stable at piece bytes bytes (omega arith) (omega arith) same

    half : AgreesOutside at (length piece) stable bytes (half_written at piece bytes)
    half =
        agrees_overwritten at (length piece) stable (at + length piece / 2) (replicate (length piece - length piece / 2) 165) bytes (overwritten bytes at (take (length piece / 2) piece)) (omega arith)
        (omega (arith, length-replicate {A = ℕ} (length piece - length piece / 2) 165))
        (agrees_overwritten at (length piece) stable at (take (length piece / 2) piece) bytes bytes (omega arith) (omega (arith, length-take (length piece / 2) piece)) same)

-- a pending call done again
kept_leaves : (kind : Kind) (choice number : ℕ) (is_last : Bool) (at : ℕ) (piece bytes : List ℕ) (file : Standing) → is_sync kind ≡ false → Leaves file bytes → Leaves (changed (change_of kind at piece) file) (kept kind choice number is_last at piece bytes)
unfolding changed
kept_leaves Write choice number is_last at piece bytes file h leaves =
    write_left file at (length piece) piece bytes (chosen choice number is_last at piece bytes) (omega arith) leaves (agrees_chosen choice number is_last at file.stable piece bytes leaves.long)
kept_leaves FailedWrite choice number is_last at piece bytes file h leaves =
    write_left file at (length piece) [] bytes (chosen choice number is_last at piece bytes) (omega arith) leaves (agrees_chosen choice number is_last at file.stable piece bytes leaves.long)
kept_leaves Cut choice number is_last at piece bytes file h leaves = record {
  long = omega (arith, length-take at bytes, leaves.long);
  same = λ place lt clear. get_or-take at bytes place 0 (omega arith) ∙ leaves.same place (omega arith) clear ∙ sym (get_or-take at file.bytes place 0 (omega arith));
}
kept_leaves Sync choice number is_last at piece bytes file h leaves = cc

module _ (first : ℕ → List ℕ) (choice file : ℕ) (content : List ℕ) where
  -- the file after some of the calls
  after : List Entry → Standing
  after older = standing_after first (calls_onto [] older) file

  after_same : (older : List Entry) (e : Entry) → eqb e.file file ≡ false → after (older ++ e ∷ []) ≡ after older
  unfolding after
  after_same older e apart = ap (λ cs. standing_after first cs file) (calls_snoc [] older e) ∙ cond-false _ _ _ apart ∙ standing_idles first e.idles (calls_onto [] older) file

  after_more : (older : List Entry) (e : Entry) → eqb e.file file ≡ true → after (older ++ e ∷ []) ≡ changed (change_of e.kind e.at e.bytes.items) (after older)
  unfolding after
  after_more older e here =
      ap (λ cs. standing_after first cs file) (calls_snoc [] older e) ∙ cond-true _ _ _ here
      ∙ ap (changed (change_of e.kind e.at e.bytes.items)) (standing_idles first e.idles (calls_onto [] older) file)

  -- at each place the file reads as its bytes with the later calls undone
  Splits : List Entry → List Entry → Type 0
  Splits older rest = (n : ℕ) → (after (older ++ take n rest)).bytes ≡ undone (drop n rest) file content

  splits_next : (older : List Entry) (e : Entry) (newer : List Entry) → Splits older (e ∷ newer) → Splits (older ++ e ∷ []) newer
  unfolding Splits
  splits_next older e newer s n = ap (λ l. (after l).bytes) (append_assoc older (e ∷ []) (take n newer)) ∙ s (suc n)

  splits_here : (older rest : List Entry) → Splits older rest → (after older).bytes ≡ undone rest file content
  unfolding Splits
  splits_here older rest s = ap (λ l. (after l).bytes) (sym (append-nil older)) ∙ s zero

  -- with no sync among them all calls are undone
  synced_undone : (rest : List Entry) → has_sync rest file ≡ false → synced rest file content ≡ undone rest file content
  synced_undone [] none = refl
  synced_undone (e ∷ newer) none =
      let parts = or_parts (is_sync e.kind && eqb e.file file) (has_sync newer file) none in
      let rest : synced newer file content ≡ undone newer file content = synced_undone newer parts.1 in
      ap (λ x. cond (eqb e.file file && not (is_sync e.kind) && not x) (undo e (synced newer file content)) (synced newer file content)) parts.1
      ∙ ap (λ x. cond (eqb e.file file && not (is_sync e.kind) && not false) (undo e x) x) rest
      ∙ ap (λ x. cond x (undo e (undone newer file content)) (undone newer file content)) (test (eqb e.file file) (is_sync e.kind) parts.0)
    where
      test : (a s : Bool) → (s && a) ≡ false → (a && not s && not false) ≡ a
      test true true h = cc
      test true false h = refl
      test false s h = refl

  -- a call that isn't pending
  not_pending : (e : Entry) (newer : List Entry) → has_sync newer file ≡ true → is_pending e newer file ≡ false
  not_pending e newer is = ap (λ x. eqb e.file file && not (is_sync e.kind) && not x) is ∙ and_right (eqb e.file file && not (is_sync e.kind)) (not true) refl

  elsewhere : (a s x : Bool) → a ≡ false → (a && not s && not x) ≡ false
  elsewhere true s x h = cc
  elsewhere false s x h = refl

  synced_sync : (a s x : Bool) → s ≡ true → (a && not s && not x) ≡ false
  synced_sync true true x h = refl
  synced_sync true false x h = cc
  synced_sync false s x h = refl

  pending_here : (a s x : Bool) → a ≡ true → s ≡ false → x ≡ false → (a && not s && not x) ≡ true
  pending_here true false false a s x = refl
  pending_here true false true a s x = cc
  pending_here true true z a s x = cc
  pending_here false y z a s x = cc

  -- what may be left after one more call, where no sync comes after it
  one_left : (older : List Entry) (e : Entry) (newer : List Entry) (bytes : List ℕ) → Splits older (e ∷ newer) → (has_sync (e ∷ newer) file ≡ false → Leaves (after older) bytes)
      → (has_sync (e ∷ newer) file ≡ true → bytes ≡ synced (e ∷ newer) file content) → has_sync newer file ≡ false → Leaves (after (older ++ e ∷ [])) (kept_one choice older e newer file bytes)
  unfolding changed settled
  one_left older e newer bytes s leaves is none = elim (cases_Bool (eqb e.file file)) [
    | inr apart ↦
        subst (λ l. Leaves (after (older ++ e ∷ [])) l) (sym (cond-false _ again bytes (elsewhere (eqb e.file file) (is_sync e.kind) (has_sync newer file) apart)))
        (subst (λ f. Leaves f bytes) (sym (after_same older e apart)) (leaves (ap (λ x. x || has_sync newer file) (and_right (is_sync e.kind) (eqb e.file file) apart) ∙ none)))
    | inl here ↦ elim (cases_Bool (is_sync e.kind)) [
      | inl sync ↦
          let now : bytes ≡ (after (older ++ e ∷ [])).bytes =
          is (ap (λ x. x && eqb e.file file || has_sync newer file) sync ∙ ap (λ x. (true && x) || has_sync newer file) here)
          ∙ cond-false _ (undo e (synced newer file content)) _ (synced_sync (eqb e.file file) (is_sync e.kind) (has_sync newer file) sync) ∙ synced_undone newer none
          ∙ sym (splits_here (older ++ e ∷ []) newer (splits_next older e newer s)) in
          let all : after (older ++ e ∷ []) ≡ settled (after older).bytes = after_more older e here ∙ settle_of e.kind sync e.at e.bytes.items (after older) in
          let same : bytes ≡ (after older).bytes = now ∙ ap (λ (f : Standing). f.bytes) all in
          subst (λ l. Leaves (after (older ++ e ∷ [])) l) (sym (cond-false _ again bytes (synced_sync (eqb e.file file) (is_sync e.kind) (has_sync newer file) sync)))
          (subst (λ f. Leaves f bytes) (sym all) (subst (λ l. Leaves (settled (after older).bytes) l) (sym same) (record { long = omega arith; same = λ place lt clear. refl })))
      | inr other ↦
          subst (λ l. Leaves (after (older ++ e ∷ [])) l) (sym (cond-true _ again bytes (pending_here (eqb e.file file) (is_sync e.kind) (has_sync newer file) here other none)))
          (subst (λ f. Leaves f again) (sym (after_more older e here))
          (kept_leaves e.kind choice (pending_writes older file) (not (has_write newer file)) e.at e.bytes.items bytes (after older) other
          (leaves (ap (λ x. x && eqb e.file file || has_sync newer file) other ∙ none))))
    ]
  ]
    where
      again : List ℕ
      again = kept e.kind choice (pending_writes older file) (not (has_write newer file)) e.at e.bytes.items bytes

      settle_of : (k : Kind) → is_sync k ≡ true → (at : ℕ) (piece : List ℕ) (f : Standing) → changed (change_of k at piece) f ≡ settled f.bytes
      settle_of Write h at piece f = cc
      settle_of FailedWrite h at piece f = cc
      settle_of Cut h at piece f = cc
      settle_of Sync h at piece f = refl

  -- what is left after all calls
  left_from : (older rest : List Entry) (bytes : List ℕ) → Splits older rest → (has_sync rest file ≡ false → Leaves (after older) bytes) → (has_sync rest file ≡ true → bytes ≡ synced rest file content)
      → Leaves (after (older ++ rest)) (redone choice older rest file bytes)
  left_from older [] bytes s leaves is = subst (λ l. Leaves (after l) bytes) (sym (append-nil older)) (leaves refl)
  left_from older (e ∷ newer) bytes s leaves is =
      subst (λ l. Leaves (after l) (redone choice (older ++ e ∷ []) newer file (kept_one choice older e newer file bytes))) (append_assoc older (e ∷ []) newer)
      (left_from (older ++ e ∷ []) newer (kept_one choice older e newer file bytes) (splits_next older e newer s) (one_left older e newer bytes s leaves is)
      (λ later. cond-false _ _ bytes (not_pending e newer later) ∙ is (ap (λ x. (is_sync e.kind && eqb e.file file) || x) later ∙ or_right (is_sync e.kind && eqb e.file file) true refl)
      ∙ cond-false _ _ _ (not_pending e newer later)))

  left_all : (all : List Entry) → Splits [] all → Leaves (after all) (stopped choice all file content)
  unfolding after settled
  left_all all s = left_from [] all (synced all file content) s (λ none. subst (λ l. Leaves (settled (first file)) l) (sym (synced_undone all none ∙ sym (splits_here [] all s))) (record { long = omega arith; same = λ place lt clear. refl })) (λ is. refl)

-- what the store leaves of a file
pub left_stopped : (files : Files) (entries : List Entry) (idles choice file : ℕ) → Agrees files entries
    → Leaves (standing_after (first_of files entries) (replicate idles idle ++ calls_onto [] entries) file) (stopped choice entries file (content_of files file))
unfolding Splits after
left_stopped files entries idles choice file agrees =
    subst (λ s. Leaves s (stopped choice entries file (content_of files file))) (sym (standing_idles (first_of files entries) idles (calls_onto [] entries) file))
    (left_all (first_of files entries) choice file (content_of files file) entries (λ n. agrees n file))
