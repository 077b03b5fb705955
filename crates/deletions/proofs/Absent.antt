-- The volume is there where its deletion begins, and at its end it isn't, and no copy lies on it.
use Rattle.std.proofs.Common.{◌≡◌, ℕ, ◌==◌, ◌&&◌, cond, Bool, true, false, is_some, List, [], ◌∷◌, ◌++◌, map, filter, Option, Some, None, Result, Ok, Err, refl, sym, ap, subst, ◌∙◌, if◌then◌else◌, inl, inr}
use Rattle.std.proofs.lemmas.Bool.{eqb-true, false≢true}
use Rattle.std.specs.BTreeMap.{is_at}
use Rattle.std.specs.List.{find, flat_map, list_all, list_any}
use Rattle.std.specs.Ordering.{nat_cmp}
use Rattle.kinds.specs.Refusals.{foremost, number_of, refusal_of}
use Rattle.kinds.specs.declared.refusal.Refusal.{Refusal}
use Rattle.kinds.specs.declared.refusal.Refusal.TheVariants as refused
use Rattle.kinds.specs.declared.segment.Segment.{Segment}
use Rattle.inventory_rows.specs.version_groups.declared.copies.CopyRow.{CopyRow}
use Rattle.inventory_rows.specs.version_groups.Entries.{on_ok}
use Rattle.inventory_rows.specs.volume_rows.declared.volume.Volume.{Volume}
use Rattle.inventory_rows.specs.pool_tables.Rows.{row_at}
use Rattle.inventory_rows.specs.pool_rows.PoolRows.{PoolRows}
use Rattle.inventory_rows.specs.Search.{copies, pool, segments_on}
use Rattle.inventory_rows.specs.State.{Inv}
use Rattle.inventory_rows.proofs.of_object_rows.Stands.{at-eqb}
use Rattle.inventory_rules.specs.Valid.{is_of_pool, is_valid}
use Rattle.inventory_laws.proofs.Facts.{facts_of, first, rest}
use Rattle.inventory_answers.specs.declared.lines.VolumeLine.{VolumeLine}
use Rattle.inventory_answers.specs.declared.query.Query.TheVariants as query
use Rattle.inventory_answers.specs.declared.reply.Answer.{Answer}
use Rattle.inventory_answers.specs.declared.reply.Rows.{Rows}
use Rattle.inventory_answers.specs.declared.reply.Rows.TheVariants as rows
use Rattle.inventory_answers.specs.Stores.{volume_line, volume_lines, volume_lines_of}
use Rattle.inventory_work.specs.declared.lines.CopyLine.{CopyLine}
use Rattle.inventory_work.specs.Copies.{has_volume}
use Rattle.steps.specs.Events.{event}
use Rattle.steps.specs.Events.Deed.{Ask}
use Rattle.machine.specs.Fits.{History, Own, Step, inv}
use Rattle.machine.specs.Machine.{IsAnswer}
use Rattle.machine.specs.Says.{Says, is_elsewhere}
use Rattle.deletions.specs.declared.row.Row.{Row}
use Rattle.deletions.specs.Volumes.{row_found, row_in}

-- ---- where it begins

-- a line with this file number is that of a row
row-there : (file : ℕ) (s : PoolRows) (vs : List (ℕ × Volume)) (row : Row) → row_found (find (λ l. l.file == file) (flat_map (volume_lines_of s None) vs)) ≡ Ok row → is_some (row_at file vs) ≡ true
row-there file s [] row h = absurd cc
row-there file s (e ∷ vs) row h =
    elim (is_at (nat_cmp file) e.0) as (λ b. is_at (nat_cmp file) e.0 ≡ b → is_some (cond b (Some e.1) (row_at file vs)) ≡ true) [
      | true ↦ λ t. refl
      | false ↦ λ t. row-there file s vs row (later (sym (at-eqb file e.0) ∙ t))
    ] refl where
      later : (e.0 == file) ≡ false → row_found (find (λ l. l.file == file) (flat_map (volume_lines_of s None) vs)) ≡ Ok row
      later other = subst (λ (b : Bool). row_found (if b then Some (volume_line s e) else find (λ l. l.file == file) (flat_map (volume_lines_of s None) vs)) ≡ Ok row) other h

abbrev rows_told : Result Answer Refusal → Rows
rows_told (Ok a) = a.rows
rows_told (Err e) = rows.Today

told-volumes : (log_length : ℕ) (v : Inv) (answer : Answer) (lines : List VolumeLine) → IsAnswer log_length (query.Volumes None None) v answer → answer.rows ≡ rows.Volumes lines
    → lines ≡ volume_lines None None v.stores
told-volumes log_length v answer lines h is =
    let told : rows.Volumes (volume_lines None None v.stores) ≡ h.0.rows = ap rows_told h.1 in
    let both : rows.Volumes lines ≡ rows.Volumes (volume_lines None None v.stores) = sym is ∙ ap (λ (x : Answer). x.rows) h.2 ∙ sym told in
    cc

pub was-there : (w : History) (actor : ℕ) (a b : Own) (n file : ℕ) (answer : Answer) (lines : List VolumeLine) (row : Row) → Step w actor a (event n (Ask (query.Volumes None None) (Ok answer))) b
    → answer.rows ≡ rows.Volumes lines → row_in file lines ≡ Ok row → has_volume file (inv w n) ≡ true
unfolding Says
was-there w actor a b n file answer lines row s is found =
    row-there file (inv w n).stores (inv w n).stores.volumes row
    (ap (λ (ls : List VolumeLine). row_in file ls) (sym (told-volumes s.says.1.0 (inv w n) answer lines s.says.1.1 is)) ∙ found)

-- ---- where it ends

abbrev answer_of : Inv → Result (List CopyLine) Refusal → Result Answer Refusal
answer_of v r = on_ok (λ (x : Rows). record { n = v.number; today = v.today; rows = x }) (on_ok rows.OnVolume r)

absent-by : (v : Inv) (lines : List CopyLine) (b : Bool) (e : Refusal) → foremost (refusal_of (answer_of v (if b then Ok lines else Err refused.NotFound))) ≡ Some e → b ≡ false
absent-by v lines true e h = absurd cc
absent-by v lines false e h = refl

own-ten : (e : Refusal) → (number_of e == 10) ≡ true → is_elsewhere e ≡ true → ⊥
own-ten e ten away =
    false≢true (subst (λ (k : ℕ). list_any (λ n. n == k) (20 ∷ 21 ∷ 24 ∷ 25 ∷ 31 ∷ 40 ∷ 41 ∷ 50 ∷ []) ≡ true) (eqb-true (number_of e) 10 ten) away)

pub is-absent : (w : History) (actor : ℕ) (a b : Own) (n file : ℕ) (e : Refusal) → (number_of e == 10) ≡ true → Step w actor a (event n (Ask (query.OnVolume file) (Err e))) b → has_volume file (inv w n) ≡ false
unfolding Says
is-absent w actor a b n file e ten s = elim s.says as (λ _. has_volume file (inv w n) ≡ false) [
  | inl held ↦ absent-by (inv w n) _ (has_volume file (inv w n)) e held
  | inr away ↦ absurd (own-ten e ten away)
]

-- ---- no copy lies on it

none-here : (file p : ℕ) (volumes : List (ℕ × Volume)) (segments : List Segment) → is_some (row_at file volumes) ≡ false → list_all (λ s. is_of_pool p (row_at s.file volumes)) segments ≡ true
    → filter (λ s. s.file == file) segments ≡ []
none-here file p volumes [] gone cites = refl
none-here file p volumes (s ∷ segments) gone cites =
    elim (s.file == file) as (λ b. (s.file == file) ≡ b → cond b (s ∷ filter (λ x. x.file == file) segments) (filter (λ x. x.file == file) segments) ≡ []) [
      | true ↦ λ t.
          let there : is_of_pool p (row_at s.file volumes) ≡ true = first (is_of_pool p (row_at s.file volumes)) (list_all (λ x. is_of_pool p (row_at x.file volumes)) segments) cites in
          absurd (nowhere (row_at file volumes) gone (ap (λ (n : ℕ). is_of_pool p (row_at n volumes)) (sym (eqb-true s.file file t)) ∙ there))
      | false ↦ λ t. none-here file p volumes segments gone (rest (is_of_pool p (row_at s.file volumes)) (list_all (λ x. is_of_pool p (row_at x.file volumes)) segments) cites)
    ] refl where
      nowhere : (o : Option Volume) → is_some o ≡ false → is_of_pool p o ≡ true → ⊥
      nowhere None g h = false≢true h
      nowhere (Some x) g h = false≢true (sym g)

abbrev cited : Inv → ℕ × CopyRow → Bool
cited v e = is_some (pool e.1.pool v) && list_all (λ s. is_of_pool e.1.pool (row_at s.file v.stores.volumes)) e.1.segments

abbrev here : ℕ → ℕ × CopyRow → List (ℕ × Segment)
here file e = map (λ (s : Segment). (e.0, s)) (filter (λ s. s.file == file) e.1.segments)

none-on : (file : ℕ) (v : Inv) (cs : List (ℕ × CopyRow)) → has_volume file v ≡ false → list_all (cited v) cs ≡ true → flat_map (here file) cs ≡ []
none-on file v [] gone cites = refl
none-on file v (e ∷ cs) gone cites =
    let one : cited v e ≡ true = first (cited v e) (list_all (cited v) cs) cites in
    let none : filter (λ s. s.file == file) e.1.segments ≡ [] = none-here file e.1.pool v.stores.volumes e.1.segments gone (rest (is_some (pool e.1.pool v)) (list_all (λ s. is_of_pool e.1.pool (row_at s.file v.stores.volumes)) e.1.segments) one) in
    ap (λ (ss : List Segment). map (λ (s : Segment). (e.0, s)) ss ++ flat_map (here file) cs) none ∙ none-on file v cs gone (rest (cited v e) (list_all (cited v) cs) cites)

pub none-lies : (file : ℕ) (v : Inv) → is_valid v ≡ true → has_volume file v ≡ false → segments_on file v ≡ []
none-lies file v valid gone = none-on file v (copies v) gone (facts_of v valid).copies_cite
