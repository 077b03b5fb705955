-- A vault is opened over what a store has.
use Rattle.std.proofs.Common.{◌≡◌, ◌≢◌, inl, inr, ℕ, ◌+◌, ◌<◌, List, ◌∷◌, Bool, length, Option, None, Some, IfSome, Result, Ok, Err, refl, sym, ◌∙◌, subst, arith}
use Rattle.std.proofs.Math.Path.{fun_ext}
use Rattle.std.proofs.lemmas.Bool.{cases_eq, eq-eqb, cond-true}
use Rattle.store_api.specs.Disk.{History, reads, standing, settled, now, Leaves}
use Rattle.store_api.specs.Runs.{Firm, EachImage}
use Rattle.store_api.specs.Told.{Told}
use Rattle.store_api.proofs.Runs.{goes_standing, goes_later}
use Rattle.store_api.proofs.Pieces.{image_reads, image_with, with_file}
use Rattle.kinds.specs.declared.refusal.OpenRefused.{OpenRefused}
use Rattle.kinds.specs.declared.refusal.OpenRefused.TheVariants.{ReadFault, NotFormatted, Damaged, RunFull, Memory}
use Rattle.log_file.specs.Blocks.{IsClosed, LogIs, LogEnds, blocks}
use Rattle.log_file.specs.Cursor.{Looked}
use Rattle.log_file.specs.Sure.{IsSure}
use Rattle.log_file.specs.Sure as log
use Rattle.log_file.proofs.RecordBytes.{one_log}
use Rattle.log_file.proofs.Told.{looked_standing}
use Rattle.db_image.specs.declared.mark.Mark.TheVariants.{Server}
use Rattle.db_image.specs.Images.{image_bytes, NeverSpent, HasImage}
use Rattle.db_image.specs.Steps.{FirmShut}
use Rattle.db_image.proofs.One.{one, opened, image_settled, stays_shut, never_spent_less, has_never_spent}
use Rattle.fields.specs.Editions.{Edition}
use Rattle.entries.specs.Meaning.{Meaning, IsMeaning, form_byte}
use Rattle.vault.specs.Files.{image_file, log_file, IsOurs}
use Rattle.vault.specs.Recovery.{Older, Newest, Headed, LogDamaged, Recovers, RecoversWithin, records_in}
use Rattle.vault.specs.Images.{IsImage, StaysOlder}
use Rattle.vault.specs.Vaults.{State, HoldsIn, IsGoodIn}
use Rattle.vault.specs.Openings.{IsSound, HadOne, Calm, SettledBelow, SettledAll, SaysNothing, FindsNewest, HeadsRefused, BaseRefused, FindsBase, LogRefused, Replayed, SaysWhy, ImagesAre, form_of, Recovered}
use Rattle.vault.proofs.Replaying.{same_base}
use Rattle.vault.proofs.Calming.{calm_then, calm_looked, calm_file}
use Rattle.vault.proofs.Goodness.{log_ours}

-- an image of the other file is older than the newest
older_less : (files : ℕ → List ℕ) (generation other : ℕ) (payload found : List ℕ) → Newest files generation payload → image_file (generation + 1) ≡ image_file other → HasImage (image_file other) Server (files (image_file other)) other found → other < generation
older_less files generation other payload found newest same has = elim (subst (λ (n : ℕ). Older generation n (files n)) same newest.other) [
  | inl closed ↦ absurd (opened (image_file other) other Server (files (image_file other)) found has closed)
  | inr older ↦ (let is = (one (image_file other) older.0 other Server (files (image_file other)) older.1 found older.2 has).0 in omega (arith, is, older.3))
]

-- a log that ends within its bytes is a log
pub ends_log : (bytes : List ℕ) (payloads : List (List ℕ)) → LogEnds bytes payloads → LogIs bytes payloads
ends_log bytes payloads ends = record { rest = ends.gate ∷ ends.rest; whole = ends.whole; closed = ends.closed; fits = ends.fits }

-- where the gate that ends the log lies within the file, the files recover all the same
pub within_recovers : {D : Type 0} (m : Meaning D) (files : ℕ → List ℕ) (d : D) → RecoversWithin m files d → Recovers m files d
within_recovers m files d r = record {
  form = r.form;
  generation = r.generation;
  base = r.base;
  entries = r.entries;
  valid = r.valid;
  newest = r.newest;
  log = ends_log _ _ r.log;
  legal = r.legal;
  gives = r.gives;
}

-- files have one newest image at most
pub newest_one : (files : ℕ → List ℕ) (generation other : ℕ) (payload found : List ℕ) → Newest files generation payload → Newest files other found → (generation ≡ other) × (payload ≡ found)
newest_one files generation other payload found a b = elim (cases_eq (image_file generation) (image_file other)) [
  | inl same ↦ one (image_file other) generation other Server (files (image_file other)) payload found (subst (λ (n : ℕ). HasImage n Server (files n) generation payload) same a.stands) b.stands
  | inr apart ↦ (
      let less = older_less files generation other payload found a (omega (arith, apart)) b.stands in
      let more = older_less files other generation found payload b (omega (arith, apart)) a.stands in
      absurd (omega (arith, less, more)))
]

-- whatever follows it, the newest image isn't spent
pub newest_unspent : {D : Type 0} (m : Meaning D) (law : IsMeaning m) (form : Edition) (files : ℕ → List ℕ) (generation : ℕ) (base : D) → m.Valid form base → Newest files generation (m.spelled form base) → NeverSpent Server generation (m.spelled form base)
newest_unspent m law form files generation base valid newest =
    let begins = law.begins form base valid in
    subst (NeverSpent Server generation) (sym begins.1) (has_never_spent (image_file generation) generation (form_byte form) Server (files (image_file generation)) begins.0 (subst (λ (p : List ℕ). HasImage (image_file generation) Server (files (image_file generation)) generation p) begins.1 newest.stands))

-- and each of the two files has an image or a shut gate
pub both_headed : (files : ℕ → List ℕ) (generation file : ℕ) (payload : List ℕ) → Newest files generation payload → file < 2 → Headed file (files file)
both_headed files generation file payload newest lt = elim (cases_eq file (image_file generation)) [
  | inl is ↦ inr (generation, payload, subst (λ (n : ℕ). HasImage n Server (files n) generation payload) (sym is) newest.stands)
  | inr apart ↦ (
      let is : image_file (generation + 1) ≡ file = omega (arith, apart, lt) in
      subst (λ (n : ℕ). Headed n (files n)) is (elim newest.other [ inl closed ↦ inl closed | inr older ↦ inr (older.0, older.1, older.2) ]))
]

-- why it was refused
heads_why : {D : Type 0} (m : Meaning D) (files : ℕ → List ℕ) (refusal : OpenRefused) → HeadsRefused files refusal → SaysWhy m files refusal
heads_why m files (Damaged file at) is = elim is [ inl first ↦ inl first | inr second ↦ inr (inl second) ]
heads_why m files NotFormatted is = is
heads_why m files (ReadFault file) is = tt
heads_why m files RunFull is = tt
heads_why m files Memory is = tt

base_why : {D : Type 0} (m : Meaning D) (files : ℕ → List ℕ) (generation : ℕ) (payload : List ℕ) (refusal : OpenRefused) → Newest files generation payload → BaseRefused m generation payload refusal → SaysWhy m files refusal
base_why m files generation payload (Damaged file at) newest is = inr (inr (inl (generation, payload, newest, is.2, is.0, is.1)))
base_why m files generation payload NotFormatted newest is = absurd is
base_why m files generation payload (ReadFault file) newest is = tt
base_why m files generation payload RunFull newest is = tt
base_why m files generation payload Memory newest is = tt

log_why : {D : Type 0} (m : Meaning D) (form : Edition) (files : ℕ → List ℕ) (generation file : ℕ) (base : D) (refusal : OpenRefused) → file ≡ log_file generation → m.Valid form base → Newest files generation (m.spelled form base) → LogRefused form m base file (files file) refusal → SaysWhy m files refusal
log_why m form files generation file base (Damaged which at) is_log valid newest is =
    inr (inr (inr (record { form = form; generation = generation; base = base; valid = valid; newest = newest; is_log = is.0 ∙ is_log; damage = subst (λ (n : ℕ). LogDamaged form m base (files n) at) (sym is.0) is.1 })))
log_why m form files generation file base NotFormatted is_log valid newest is = absurd is
log_why m form files generation file base (ReadFault which) is_log valid newest is = tt
log_why m form files generation file base RunFull is_log valid newest is = tt
log_why m form files generation file base Memory is_log valid newest is = tt

nothing_why : {D : Type 0} (m : Meaning D) (files : ℕ → List ℕ) (refusal : OpenRefused) → SaysNothing refusal → SaysWhy m files refusal
nothing_why m files (Damaged file at) is = absurd is
nothing_why m files NotFormatted is = absurd is
nothing_why m files (ReadFault file) is = tt
nothing_why m files RunFull is = tt
nothing_why m files Memory is = tt

-- what is known of what the files read as holds of what they read as at the start
same_reads : (old mid : History) → SettledBelow 4 old mid → reads mid ≡ reads old
same_reads old mid below = fun_ext (λ file. below.calm.same file)

looked_below : (old mid new : History) → SettledBelow 4 old mid → Looked mid new → SettledBelow 4 old new
looked_below old mid new below looked = record { calm = calm_then old mid new below.calm (calm_looked mid new looked); durable = λ file lt. looked_standing mid new file looked ∙ below.durable file lt }

-- the newest image was found, and its payload is the spelling of this database in this form
pub record Based {D : Type 0} (form : Edition) (m : Meaning D) (generation : ℕ) (base : D) (old new : History) : Type 0 where
  pub below : SettledBelow 4 old new
  pub newest : Newest (reads old) generation (m.spelled form base)
  pub valid : m.Valid form base

pub record Found (generation : ℕ) (old new : History) : Type 0 where
  pub below : SettledBelow 4 old new
  pub payload : List ℕ
  pub newest : Newest (reads old) generation payload

-- a call, with what holds of the store before it
pub told_with : (x y : Option History) (R : History → History → Type 0) (P : History → Type 0) → Told x y R → IfSome x P → Told x y (λ old new. R old new × P old)
told_with None None R P r p = tt
told_with None (Some new) R P r p = absurd r
told_with (Some old) None R P r p = absurd r
told_with (Some old) (Some new) R P r p = (r, p)

pub settled_below : {T E : Type 0} (done : T) (old new : History) → (let result : Result T E = Ok done in SettledAll result old new) → SettledBelow 4 old new
settled_below done old new all = record { calm = all.calm; durable = λ file lt. all.durable file lt }

pub newest_is : (generation : ℕ) (old mid new : History) → SettledBelow 4 old mid → Looked mid new × FindsNewest (reads mid) (Ok generation) → Found generation old new
newest_is generation old mid new below next = record {
  below = looked_below old mid new below next.0;
  payload = next.1.0;
  newest = subst (λ (files : ℕ → List ℕ). Newest files generation next.1.0) (same_reads old mid below) next.1.1;
}

module _ {D : Type 0} (m : Meaning D) where
  pub base_is : (generation : ℕ) (base : D) (first : Bool) (old mid new : History) → Found generation old mid → Looked mid new × ((payload : List ℕ) → Newest (reads mid) generation payload → FindsBase m generation payload (Ok (base, first))) → Based (form_of first) m generation base old new
  base_is generation base first old mid new found next =
      let spells = next.1 found.payload (subst (λ (files : ℕ → List ℕ). Newest files generation found.payload) (sym (same_reads old mid found.below)) found.newest) in
      record {
        below = looked_below old mid new found.below next.0;
        newest = subst (λ (p : List ℕ). Newest (reads old) generation p) spells.1 found.newest;
        valid = spells.0;
      }

  -- while it is read each image is one of the start
  pub had_one : (old h : History) → Calm old h → IsSound m old → EachImage (now old) h (HadOne m old)
  had_one old h calm sound moment files from to here =
      let start = calm.images moment files from to here in
      let is = sound files start in
      record { database = is.0; recovers = is.1; start = files; left = start; same = is.1 }

  refused_so : (refusal : OpenRefused) (old new : History) → Calm old new → SaysWhy m (reads old) refusal → (let result : Result (State D × Bool) OpenRefused = Err refusal in Recovered m result old new)
  refused_so refusal old new calm why = record { calm = calm; recovers = tt; images = tt; says = why; good = λ sound. tt; good_now = λ sound. tt }

  pub not_settled : {T : Type 0} (refusal : OpenRefused) (old new : History) → SaysNothing refusal → (let first : Result T OpenRefused = Err refusal in SettledAll first old new) → (let result : Result (State D × Bool) OpenRefused = Err refusal in Recovered m result old new)
  not_settled refusal old new nothing all = refused_so refusal old new all.calm (nothing_why m (reads old) refusal nothing)

  pub no_newest : (refusal : OpenRefused) (old mid new : History) → SettledBelow 4 old mid → Looked mid new × FindsNewest (reads mid) (Err refusal) → (let result : Result (State D × Bool) OpenRefused = Err refusal in Recovered m result old new)
  no_newest refusal old mid new below next =
      refused_so refusal old new (looked_below old mid new below next.0).calm (heads_why m (reads old) refusal (subst (λ (files : ℕ → List ℕ). HeadsRefused files refusal) (same_reads old mid below) next.1))

  pub no_base : (generation : ℕ) (refusal : OpenRefused) (old mid new : History) → Found generation old mid → Looked mid new × ((payload : List ℕ) → Newest (reads mid) generation payload → FindsBase m generation payload (Err refusal)) → (let result : Result (State D × Bool) OpenRefused = Err refusal in Recovered m result old new)
  no_base generation refusal old mid new found next =
      refused_so refusal old new (looked_below old mid new found.below next.0).calm
      (base_why m (reads old) generation found.payload refusal found.newest (next.1 found.payload (subst (λ (files : ℕ → List ℕ). Newest files generation found.payload) (sym (same_reads old mid found.below)) found.newest)))

  module _ (law : IsMeaning m) (first : Bool) (generation file : ℕ) (is_log : file ≡ log_file generation) (base d : D) (old mid new : History) (based : Based (form_of first) m generation base old mid) where
    abbrev form : Edition
    form = form_of first

    module _ (result : Result log.State OpenRefused) (replayed : Replayed form m base file result d mid new) where
      calm_new : Calm old new
      calm_new = calm_then old mid new based.below.calm (calm_file file mid new (subst IsOurs (sym is_log) (log_ours generation)) replayed.goes replayed.same replayed.left)

    pub not_replayed : (refusal : OpenRefused) → (let result : Result log.State OpenRefused = Err refusal in Replayed form m base file result d mid new) → (let result : Result (State D × Bool) OpenRefused = Err refusal in Recovered m result old new)
    not_replayed refusal replayed =
        refused_so refusal old new (calm_new (Err refusal) replayed)
        (log_why m form (reads old) generation file base refusal is_log based.valid based.newest (subst (λ (bytes : List ℕ). LogRefused form m base file bytes refusal) (based.below.calm.same file) replayed.damaged))

    module _ (end : log.State) (replayed : (let result : Result log.State OpenRefused = Ok end in Replayed form m base file result d mid new)) where
      there : (n : ℕ) → IsOurs n → n ≢ file → standing new n ≡ settled (reads old n)
      there n ours apart = goes_standing (λ other. other ≡ file) mid new n apart replayed.goes ∙ based.below.durable n ours

      log_read : LogIs (reads old (log_file generation)) (records_in form replayed.replays.entries)
      log_read = subst (λ (n : ℕ). LogIs (reads old n) (records_in form replayed.replays.entries)) is_log (subst (λ (bytes : List ℕ). LogIs bytes (records_in form replayed.replays.entries)) (based.below.calm.same file) replayed.replays.log)

      is_image : (n k : ℕ) (payload : List ℕ) → n < 2 → NeverSpent Server k payload → HasImage n Server (reads old n) k payload → IsImage new n k payload
      is_image n k payload lt unspent has = record {
        firm = subst (λ s. Firm s 0 (image_bytes Server k payload)) (sym (there n (omega (arith, lt)) (λ e. absurd (omega (arith, lt, e, is_log))))) (image_settled n k Server (reads old n) payload has);
        allowed = has.allowed;
        unspent = unspent;
        small = has.small;
      }

      module _ (sound : IsSound m new) where
        -- a gate that is shut is there to stay
        shut_there : (n : ℕ) → n < 2 → IsClosed (reads old n) → FirmShut (standing new n)
        unfolding with_file
        shut_there n lt closed =
            let is = there n (omega (arith, lt)) (λ e. absurd (omega (arith, lt, e, is_log))) in
            subst FirmShut (sym is) (stays_shut n Server (reads old n) closed (λ left leaves.
            let recovered = sound (with_file (reads new) n left) (image_with new n left (subst (λ s. Leaves s left) (sym is) leaves)) in
            subst (λ (bytes : List ℕ). Headed n bytes) (cond-true _ left (reads new n) (eq-eqb n n refl))
            (both_headed (with_file (reads new) n left) recovered.1.generation n (m.spelled recovered.1.form recovered.1.base) recovered.1.newest lt)))

        older_there : StaysOlder generation (image_file (generation + 1)) new
        older_there = elim based.newest.other [
          | inl closed ↦ inl (shut_there (image_file (generation + 1)) (omega arith) closed)
          | inr older ↦ inr (
            older.0,
            older.1,
            is_image (image_file (generation + 1)) older.0 older.1 (omega arith) (never_spent_less Server older.0 older.1 (omega (arith, older.3, based.newest.stands.allowed.0))) older.2,
            older.3,
          )
        ]

        ends_there : LogEnds (reads old (log_file generation)) (records_in form replayed.replays.entries)
        ends_there =
            let files : reads new ≡ reads old = fun_ext (λ n. (calm_new (Ok end) replayed).same n) in
            let found = sound (reads new) (image_reads new) in
            let recovered = subst (λ (read : ℕ → List ℕ). RecoversWithin m read found.0) files found.1 in
            let same = newest_one (reads old) generation recovered.generation (m.spelled form base) (m.spelled recovered.form recovered.base) based.newest recovered.newest in
            let bases = same_base m law form recovered.form base recovered.base based.valid recovered.valid same.1 in
            let here : LogEnds (reads old (log_file generation)) (records_in recovered.form recovered.entries) = subst (λ (k : ℕ). LogEnds (reads old (log_file k)) (records_in recovered.form recovered.entries)) (sym same.0) recovered.log in
            let ends = subst (λ (f : Edition). LogEnds (reads old (log_file generation)) (records_in f recovered.entries)) (sym bases.0) here in
            subst (LogEnds (reads old (log_file generation))) (sym (one_log (reads old (log_file generation)) (records_in form replayed.replays.entries) (records_in form recovered.entries) log_read (ends_log (reads old (log_file generation)) (records_in form recovered.entries) ends))) ends

        sure_there : IsSure new (log_file generation) (records_in form replayed.replays.entries) end.end
        sure_there =
            subst (IsSure new (log_file generation) (records_in form replayed.replays.entries)) (sym replayed.replays.is_end) (subst (λ (n : ℕ). IsSure new n (records_in form replayed.replays.entries) (length (blocks (records_in form replayed.replays.entries)))) is_log
            (replayed.sure (records_in form replayed.replays.entries) (subst (λ (bytes : List ℕ). LogEnds bytes (records_in form replayed.replays.entries)) (sym (based.below.calm.same file)) (subst (λ (n : ℕ). LogEnds (reads old n) (records_in form replayed.replays.entries)) (sym is_log) ends_there))))

        good_there : (vault : State D) → vault.generation ≡ generation → vault.database ≡ d → vault.end ≡ end.end → vault.sure ≡ vault.end → vault.forced ≡ length vault.journal → IsGoodIn form m vault new
        good_there vault at has ends none all = record {
          base = base;
          entries = replayed.replays.entries;
          holds = subst (λ (k : ℕ). HoldsIn form m k base replayed.replays.entries vault.end new) (sym at) (subst (λ (e : ℕ). HoldsIn form m generation base replayed.replays.entries e new) (sym ends) (record {
            image = is_image (image_file generation) generation (m.spelled form base) (omega arith) (newest_unspent m law form (reads old) generation base based.valid based.newest) based.newest.stands;
            other = older_there;
            log = sure_there;
            valid = based.valid;
            legal = replayed.replays.legal;
          }));
          gives = has ∙ replayed.replays.gives;
          none = none;
          all = all;
        }

      -- a store that was sound is sound: each of its images is one that a stop might have left before
      sound_since : IsSound m old → IsSound m new
      sound_since sound files here =
          let calm = calm_new (Ok end) replayed in
          sound files (calm.images (now new) files (goes_later IsOurs old new calm.goes) (omega arith) here)

      pub is_opened : (vault : State D) → vault.generation ≡ generation → vault.database ≡ d → vault.end ≡ end.end → vault.sure ≡ vault.end → vault.forced ≡ length vault.journal → (let result : Result (State D × Bool) OpenRefused = Ok (vault, first) in Recovered m result old new)
      is_opened vault at has ends none all = record {
        calm = calm_new (Ok end) replayed;
        recovers = (
          record {
            form = form;
            generation = generation;
            base = base;
            entries = replayed.replays.entries;
            valid = based.valid;
            newest = based.newest;
            log = log_read;
            legal = replayed.replays.legal;
            gives = has ∙ replayed.replays.gives;
          },
          refl,
          sym at,
        );
        images = subst (λ (k : ℕ). ImagesAre k old new) (sym at) (record { payload = m.spelled form base; newest = based.newest; durable = λ n lt. there n (omega (arith, lt)) (λ e. absurd (omega (arith, lt, e, is_log))) });
        says = tt;
        good = λ sound. good_there (sound_since sound) vault at has ends none all;
        good_now = λ sound. good_there sound vault at has ends none all;
      }
