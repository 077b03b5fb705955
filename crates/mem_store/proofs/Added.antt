-- One more entry at the end of the list.
use Rattle.std.proofs.Common.{◌≡◌, ◌≢◌, inl, inr, cond, eqb, ℕ, zero, suc, ◌-◌, ◌≤◌, List, [], ◌∷◌, ◌++◌, length, get_or, take, drop, replicate, refl, sym, ◌∙◌, ap, subst, arith, length-append}
use Rattle.std.proofs.lemmas.Bool.{cases_lt, cases_eq, eq-eqb, ne_eqb, cond-true, cond-false}
use Rattle.std.proofs.lemmas.List.{length-take, length-drop, take_all, drop_all, take-append-le, drop-append-le, get_or_append_left, get_or-append_right}
use Rattle.store_api.specs.Disk.{Standing, changed, settled, Call, on, idle, standing_after, overwritten}
use Rattle.mem_store.specs.declared.entry.Kind.{Kind}
use Rattle.mem_store.specs.declared.entry.Kind.TheVariants.{Write, FailedWrite, Cut, Sync}
use Rattle.mem_store.specs.declared.entry.Entry.{Entry}
use Rattle.mem_store.specs.declared.files.Files.{Files}
use Rattle.mem_store.specs.Files.{content_of, room_of, reach}
use Rattle.mem_store.specs.Entries.{change_of, applied, undo, undone, first_of, calls_onto, Agrees, HasRoom, IsEntryOf}
use Rattle.mem_store.proofs.Undo.{undo_applied}

-- calls with no effect change no file
pub standing_idles : (first : ℕ → List ℕ) (n : ℕ) (calls : List Call) (file : ℕ) → standing_after first (replicate n idle ++ calls) file ≡ standing_after first calls file
standing_idles first zero calls file = refl
standing_idles first (suc n) calls file = standing_idles first n calls file

pub calls_snoc : (calls : List Call) (es : List Entry) (e : Entry) → calls_onto calls (es ++ e ∷ []) ≡ on e.file (change_of e.kind e.at e.bytes.items) ∷ (replicate e.idles idle ++ calls_onto calls es)
calls_snoc calls [] e = refl
calls_snoc calls (x ∷ es) e = calls_snoc (on x.file (change_of x.kind x.at x.bytes.items) ∷ (replicate x.idles idle ++ calls)) es e

-- the newest call is undone first
pub undone_snoc : (es : List Entry) (e : Entry) (file : ℕ) (bytes : List ℕ) → undone (es ++ e ∷ []) file bytes ≡ undone es file (cond (eqb e.file file) (undo e bytes) bytes)
undone_snoc [] e file bytes = refl
undone_snoc (x ∷ es) e file bytes = ap (λ b. cond (eqb x.file file) (undo x b) b) (undone_snoc es e file bytes)

-- what a file reads as after its change
pub bytes_changed : (kind : Kind) (at : ℕ) (bytes : List ℕ) (file : Standing) → (changed (change_of kind at bytes) file).bytes ≡ applied kind at bytes file.bytes
unfolding changed settled
bytes_changed Write at bytes file = refl
bytes_changed FailedWrite at bytes file = refl
bytes_changed Cut at bytes file = refl
bytes_changed Sync at bytes file = refl

-- files and entries, and the same with one call more
module _ (old new : Files) (es : List Entry) (e : Entry)
    (same : (other : ℕ) → other ≢ e.file → content_of new other ≡ content_of old other)
    (done : content_of new e.file ≡ applied e.kind e.at e.bytes.items (content_of old e.file))
    (back : undo e (content_of new e.file) ≡ content_of old e.file) where
  -- the call undone
  undone_one : (file : ℕ) → cond (eqb e.file file) (undo e (content_of new file)) (content_of new file) ≡ content_of old file
  undone_one file = elim (cases_eq e.file file) [
    | inl is ↦ cond-true _ _ _ (eq-eqb e.file file is) ∙ subst (λ f. undo e (content_of new f) ≡ content_of old f) is back
    | inr apart ↦ cond-false _ _ _ (ne_eqb e.file file apart) ∙ same file (λ is. apart (sym is))
  ]

  -- what the files had at first is the same
  pub first_same : (file : ℕ) → first_of new (es ++ e ∷ []) file ≡ first_of old es file
  first_same file = undone_snoc es e file (content_of new file) ∙ ap (undone es file) (undone_one file)

  firsts : first_of new (es ++ e ∷ []) ≡ first_of old es
  firsts = λ i file. first_same file i

  -- the file after the call
  after_one : Agrees old es → (file : ℕ) → (standing_after (first_of old es) (calls_onto [] (es ++ e ∷ [])) file).bytes ≡ content_of new file
  after_one agrees file =
      ap (λ cs. (standing_after (first_of old es) cs file).bytes) (calls_snoc [] es e) ∙ elim (cases_eq e.file file) [
        | inl is ↦
            ap (λ (s : Standing). s.bytes) (cond-true _ (changed (change_of e.kind e.at e.bytes.items) before) before (eq-eqb e.file file is))
            ∙ bytes_changed e.kind e.at e.bytes.items before ∙ ap (applied e.kind e.at e.bytes.items) (was ∙ ap (content_of old) (sym is)) ∙ sym done ∙ ap (content_of new) is
        | inr apart ↦
            ap (λ (s : Standing). s.bytes) (cond-false _ (changed (change_of e.kind e.at e.bytes.items) before) before (ne_eqb e.file file apart)) ∙ was ∙ sym (same file (λ is. apart (sym is)))
      ]
    where
      before : Standing
      before = standing_after (first_of old es) (replicate e.idles idle ++ calls_onto [] es) file

      was : before.bytes ≡ content_of old file
      was =
          ap (λ (s : Standing). s.bytes) (standing_idles (first_of old es) e.idles (calls_onto [] es) file)
          ∙ ap (λ l. (standing_after (first_of old es) (calls_onto [] l) file).bytes) (sym (take_all (length es) es (omega arith)))
          ∙ agrees (length es) file ∙ ap (λ l. undone l file (content_of old file)) (drop_all (length es) es (omega arith))

  pub agrees_added : Agrees old es → Agrees new (es ++ e ∷ [])
  agrees_added agrees k file = ap (λ f. (standing_after f (calls_onto [] (take k (es ++ e ∷ []))) file).bytes) firsts ∙ elim (cases_lt (length es) k) [
    | inl all ↦
        let long : length (es ++ e ∷ []) ≤ k = omega (arith, length-append es (e ∷ [])) in
        ap (λ l. (standing_after (first_of old es) (calls_onto [] l) file).bytes) (take_all k (es ++ e ∷ []) long) ∙ after_one agrees file
        ∙ ap (λ l. undone l file (content_of new file)) (sym (drop_all k (es ++ e ∷ []) long))
    | inr part ↦
        ap (λ l. (standing_after (first_of old es) (calls_onto [] l) file).bytes) (take-append-le k es (e ∷ []) part) ∙ agrees k file
        ∙ ap (undone (drop k es) file) (sym (undone_one file)) ∙ sym (undone_snoc (drop k es) e file (content_of new file))
        ∙ ap (λ l. undone l file (content_of new file)) (sym (drop-append-le k es (e ∷ []) part))
  ]

-- room stays, where none is given back, and there is room for the new entry
pub room_added : (old new : Files) (es : List Entry) (e : Entry) → ((other : ℕ) → room_of old other ≤ room_of new other) → HasRoom old es → reach e.at e.bytes.items ≤ room_of new e.file → reach e.at e.old.items ≤ room_of new e.file → HasRoom new (es ++ e ∷ [])
room_added old new es e more has here back k d lt = elim (cases_lt k (length es)) [
  | inl first ↦
      let x = get_or es k d in
      let h = has k d first in
      let at_least = more x.file in
      subst (λ (y : Entry). (reach y.at y.bytes.items ≤ room_of new y.file) × (reach y.at y.old.items ≤ room_of new y.file)) (sym (get_or_append_left es (e ∷ []) d k first)) (omega (arith, h.0, at_least), omega (arith, h.1, at_least))
  | inr last ↦
      let is : k - length es ≡ 0 = omega (arith, lt, length-append es (e ∷ [])) in
      subst (λ (y : Entry). (reach y.at y.bytes.items ≤ room_of new y.file) × (reach y.at y.old.items ≤ room_of new y.file)) (sym (get_or-append_right es (e ∷ []) (length es) k d refl last ∙ ap (λ n. get_or (e ∷ []) n d) is)) (here, back)
]

-- the bytes that a call took away lie in the file
reach_taken : (at : ℕ) (old : List ℕ) (span : ℕ) (was : List ℕ) → old ≡ take span (drop at was) → reach at old ≤ length was
reach_taken at [] span was is = omega arith
reach_taken at (b ∷ old) span was is = omega (arith, ap length is, length-take span (drop at was), length-drop at was)

-- what is known once a call was done and its entry was pushed
module _ (old mid new : Files) (es : List Entry) (e : Entry) (idles file : ℕ) (kind : Kind) (at : ℕ) (bytes : List ℕ)
    (is : IsEntryOf e idles file kind at bytes (content_of old file))
    (kept : (other : ℕ) → content_of mid other ≡ content_of old other)
    (same : (other : ℕ) → other ≢ file → content_of new other ≡ content_of mid other)
    (done : content_of new file ≡ applied kind at bytes (content_of mid file)) where
  others : (other : ℕ) → other ≢ e.file → content_of new other ≡ content_of old other
  others other apart = same other (λ same_file. apart (same_file ∙ sym is.same_file)) ∙ kept other

  did : content_of new file ≡ applied kind at bytes (content_of old file)
  did = done ∙ ap (applied kind at bytes) (kept file)

  did_e : content_of new e.file ≡ applied e.kind e.at e.bytes.items (content_of old e.file)
  did_e =
      ap (content_of new) is.same_file ∙ did ∙ sym (ap (λ k. applied k at bytes (content_of old file)) is.same_kind) ∙ sym (ap (λ a. applied e.kind a bytes (content_of old file)) is.same_at)
      ∙ sym (ap (λ b. applied e.kind e.at b (content_of old file)) is.same_bytes) ∙ sym (ap (λ f. applied e.kind e.at e.bytes.items (content_of old f)) is.same_file)

  back : undo e (content_of new e.file) ≡ content_of old e.file
  back =
      ap (λ f. undo e (content_of new f)) is.same_file ∙ ap (undo e) did
      ∙ ap (λ n. take n (overwritten (applied kind at bytes (content_of old file)) e.at e.old.items)) is.was_long
      ∙ ap (λ a. take (length (content_of old file)) (overwritten (applied kind at bytes (content_of old file)) a e.old.items)) is.same_at
      ∙ ap (λ o. take (length (content_of old file)) (overwritten (applied kind at bytes (content_of old file)) at o)) is.took
      ∙ undo_applied kind at bytes (content_of old file) ∙ ap (content_of old) (sym is.same_file)

  pub add_agrees : (items : List Entry) → items ≡ es ++ e ∷ [] → Agrees old es → Agrees new items
  add_agrees items pushed agrees = subst (Agrees new) (sym pushed) (agrees_added old new es e others did_e back agrees)

  pub add_first : (items : List Entry) → items ≡ es ++ e ∷ [] → (other : ℕ) → first_of new items other ≡ first_of old es other
  add_first items pushed other = ap (λ l. first_of new l other) pushed ∙ first_same old new es e others did_e back other

  pub add_calls : (items : List Entry) → items ≡ es ++ e ∷ [] → calls_onto [] items ≡ on file (change_of kind at bytes) ∷ (replicate idles idle ++ calls_onto [] es)
  add_calls items pushed =
      ap (calls_onto []) pushed ∙ calls_snoc [] es e ∙ ap (λ f. on f (change_of e.kind e.at e.bytes.items) ∷ (replicate e.idles idle ++ calls_onto [] es)) is.same_file
      ∙ ap (λ k. on file (change_of k e.at e.bytes.items) ∷ (replicate e.idles idle ++ calls_onto [] es)) is.same_kind
      ∙ ap (λ a. on file (change_of kind a e.bytes.items) ∷ (replicate e.idles idle ++ calls_onto [] es)) is.same_at
      ∙ ap (λ b. on file (change_of kind at b) ∷ (replicate e.idles idle ++ calls_onto [] es)) is.same_bytes
      ∙ ap (λ n. on file (change_of kind at bytes) ∷ (replicate n idle ++ calls_onto [] es)) is.same_idles

  pub add_room : (items : List Entry) → items ≡ es ++ e ∷ [] → ((other : ℕ) → room_of old other ≤ room_of mid other) → ((other : ℕ) → room_of mid other ≤ room_of new other)
      → reach at bytes ≤ room_of mid file → length (content_of old file) ≤ room_of mid file → HasRoom old es → HasRoom new items
  add_room items pushed more again fits fits_old has =
      subst (HasRoom new) (sym pushed) (room_added old new es e (λ other. omega (arith, more other, again other)) has
      (subst (λ b. reach e.at b ≤ room_of new e.file) (sym is.same_bytes) (subst (λ a. reach a bytes ≤ room_of new e.file) (sym is.same_at) (subst (λ f. reach at bytes ≤ room_of new f) (sym is.same_file) (omega (arith, fits, again file)))))
      (subst (λ a. reach a e.old.items ≤ room_of new e.file) (sym is.same_at) (subst (λ f. reach at e.old.items ≤ room_of new f) (sym is.same_file)
      (omega (arith, reach_taken at e.old.items _ (content_of old file) is.took, fits_old, again file)))))
