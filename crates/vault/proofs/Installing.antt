-- A database is put in the place of what files recover to.
use Rattle.std.proofs.Common.{◌≡◌, ◌⊎◌, ⊎_elim, inl, inr, ℕ, ◌+◌, ◌<◌, ◌^◌, Bool, List, Option, None, Some, Result, Ok, Err, OnOk, refl, sym, subst, arith}
use Rattle.std.proofs.lemmas.Bool.{cases_lt}
use Rattle.store_api.specs.Disk.{History, reads, now, ImageAt}
use Rattle.store_api.specs.Runs.{GoesOn, EachImage}
use Rattle.store_api.specs.Told.{Told}
use Rattle.store_api.proofs.Runs.{told_map, goes_none, goes_then, goes_weaker, goes_later, each_then}
use Rattle.store_api.proofs.Pieces.{image_reads}
use Rattle.kinds.specs.declared.refusal.OpenRefused.{OpenRefused}
use Rattle.kinds.specs.declared.refusal.OpenRefused.TheVariants.{NotFormatted, Damaged}
use Rattle.log_file.specs.declared.writer.Log.{Log}
use Rattle.db_image.specs.declared.mark.Mark.TheVariants.{Server}
use Rattle.db_image.specs.Images.{NeverSpent}
use Rattle.fields.specs.Editions.{Edition, second_form}
use Rattle.entries.specs.Meaning.{Meaning, IsMeaning}
use Rattle.vault.specs.Files.{IsOurs, IsOf}
use Rattle.vault.specs.Recovery.{Recovers, RecoversWithin, IsBase, IsNext, IsInstalledAs}
use Rattle.vault.specs.Images.{Replaced}
use Rattle.vault.specs.Vaults.{State, IsGoodIn}
use Rattle.vault.specs.Openings.{form_of, Recovered, ImagesAre, Formatted, HadOne, PutBehind, Installed, SaysWhy}
use Rattle.vault.proofs.Checkpointing.{replaced_since, images_stay, holds_behind, written_unspent}
use Rattle.vault.proofs.Goodness.{good_image, good_since}
use Rattle.vault.proofs.Formatting.{of_ours, holds_base}
use Rattle.vault.proofs.Sounding.{within_recovers, had_one}
use Rattle.vault.proofs.Unique.{is_formatted, not_damaged_there}

-- what an answer brings, one step on
on_ok : {T E : Type 0} (r : Result T E) {P Q : Type 0} → (P → Q) → OnOk r P → OnOk r Q
on_ok (Ok x) f p = f p
on_ok (Err e) f p = tt

-- behind the last generation it is 0 again
first_again : (generation : ℕ) → (generation + 1 < 2 ^ 62 → ⊥) → IsNext generation 0
first_again generation last = inr (elim (cases_lt (generation + 1) (2 ^ 62)) [ inl few ↦ absurd (last few) | inr le ↦ le ], refl)

module _ {D : Type 0} (m : Meaning D) (vault : State D) (d : D) where
  -- nothing was done
  pub none_put : {T E : Type 0} (why : E) (h : History) → (let result : Result T E = Err why in PutBehind m vault d result h h)
  none_put why h = record { goes = goes_none IsOurs h; installed = tt; since = λ few form good moment files from to here. inl (good_since m (λ file. ⊥) vault h h (λ file ours no. no) (goes_none (λ file. ⊥) h) good moment files from to here) }

  -- it was behind the last generation
  pub put_again : {T E : Type 0} (result : Result T E) (old new : History) → (vault.generation + 1 < 2 ^ 62 → ⊥) → Formatted m d result old new → PutBehind m vault d result old new
  put_again (Ok done) old new last formatted = record { goes = formatted.goes; installed = λ start are. (0, first_again vault.generation last, formatted.installed); since = λ few. absurd (last few) }
  put_again (Err why) old new last formatted = record { goes = formatted.goes; installed = tt; since = λ few. absurd (last few) }

  module _ (payload : List ℕ) (law : IsMeaning m) (valid : m.Valid second_form d) (spelled : payload ≡ m.spelled second_form d) (old new : History) where
    unspent : NeverSpent Server (vault.generation + 1) payload
    unspent = written_unspent m law (vault.generation + 1) payload d valid spelled

    since : {U V : Type 0} (put : Result U V) → Replaced (vault.generation + 1) payload put old new → vault.generation + 1 < 2 ^ 62 → (form : Edition) → IsGoodIn form m vault old → EachImage (now old) new (λ files. RecoversWithin m files vault.database ⊎ RecoversWithin m files d)
    since put replaced few form good moment files from to here =
        ⊎_elim (λ before. inl (subst (RecoversWithin m files) (sym good.gives) before)) (λ after. inr after)
        (replaced_since m vault.generation good.base good.entries vault.end d valid payload spelled unspent old new form good.holds put replaced moment files from to here)

    ours : {U V : Type 0} (put : Result U V) → Replaced (vault.generation + 1) payload put old new → GoesOn IsOurs old new
    ours put replaced = goes_weaker (IsOf (vault.generation + 1)) IsOurs old new (of_ours (vault.generation + 1)) replaced.goes

    not_put : {T E U V : Type 0} (why : E) (failed : V) → (let put : Result U V = Err failed in Replaced (vault.generation + 1) payload put old new) → (let result : Result T E = Err why in PutBehind m vault d result old new)
    not_put why failed replaced = record { goes = ours (Err failed) replaced; installed = tt; since = since (Err failed) replaced }

    is_put : {T E U V : Type 0} (done : T) (log : U) → vault.generation + 1 < 2 ^ 62 → (let put : Result U V = Ok log in Replaced (vault.generation + 1) payload put old new) → (let result : Result T E = Ok done in PutBehind m vault d result old new)
    is_put {T} {E} {U} {V} done log few replaced = record {
      goes = ours (Ok log) replaced;
      installed = λ start are. (vault.generation + 1, inl (few, refl), installed start are);
      since = since
          (Ok log) replaced;
    }
      where
        installed : (start : History) → ImagesAre vault.generation start old → EachImage (now new) new (IsBase m (vault.generation + 1) d)
        installed start are =
            let stay = images_stay vault.generation start old few are in
            holds_base m d (vault.generation + 1) new (holds_behind {T = U} {E = V} m vault.generation are.payload d valid payload spelled unspent old new stay.0 stay.1 log replaced)

-- what is told of it, where the image is of the next generation
module _ {D : Type 0} (m : Meaning D) (vault : State D) (d : D) (law : IsMeaning m) (valid : m.Valid second_form d) (x y : Option History) (next : ℕ) (payload : List ℕ) (spelled : payload ≡ m.spelled second_form d) where
  pub told_not_put : (why : OpenRefused) (failed : ℕ) → (let put : Result Log ℕ = Err failed in Told x y (Replaced next payload put)) → next ≡ vault.generation + 1 → (let result : Result (Unit {0}) OpenRefused = Err why in Told x y (PutBehind m vault d result))
  told_not_put why failed put is =
      let made : Result Log ℕ = Err failed in
      let result : Result (Unit {0}) OpenRefused = Err why in
      told_map x y (Replaced next payload made) (PutBehind m vault d result) (λ old new replaced. not_put m vault d payload law valid spelled old new why failed (subst (λ (k : ℕ). Replaced k payload made old new) is replaced)) put

  pub told_put : (done : Unit {0}) (log : Log) → (let put : Result Log ℕ = Ok log in Told x y (Replaced next payload put)) → next ≡ vault.generation + 1 → vault.generation + 1 < 2 ^ 62 → (let result : Result (Unit {0}) OpenRefused = Ok done in Told x y (PutBehind m vault d result))
  told_put done log put is few =
      let made : Result Log ℕ = Ok log in
      let result : Result (Unit {0}) OpenRefused = Ok done in
      told_map x y (Replaced next payload made) (PutBehind m vault d result) (λ old new replaced. is_put m vault d payload law valid spelled old new done log few (subst (λ (k : ℕ). Replaced k payload made old new) is replaced)) put

module _ {D : Type 0} (m : Meaning D) (law : IsMeaning m) (d : D) (old mid new : History) where
  pub installed_behind : {T E : Type 0} (vault : State D) (first : Bool) (result : Result T E) → (let opening : Result (State D × Bool) OpenRefused = Ok (vault, first) in Recovered m opening old mid) → PutBehind m vault d result mid new → Installed m d result old new
  installed_behind vault first result opened put = record {
    goes = goes_then IsOurs old mid new opened.calm.goes put.goes;
    installed = on_ok result (λ f. as_next (f old opened.images)) put.installed;
    since = λ sound few.
        each_then IsOurs old mid new (λ files. HadOne m old files ⊎ RecoversWithin m files d) put.goes (λ moment files from to here. inl (had_one m old mid opened.calm sound moment files from to here))
        (λ moment files from to here. ⊎_elim
        (λ before. inl (record {
          database = vault.database;
          recovers = before;
          start = reads mid;
          left = opened.calm.images (now mid) (reads mid) (goes_later IsOurs old mid opened.calm.goes) (omega arith) (image_reads mid);
          same = good_image m vault mid (reads mid) (opened.good sound) (image_reads mid);
        }))
        (λ after. inr after)
        (put.since (few vault.generation opened.images.payload opened.images.newest) (form_of first) (opened.good sound) moment files from to here));
  }
    where
      as_next : (next : ℕ) × IsNext vault.generation next × EachImage (now new) new (IsBase m next d) → (next : ℕ) × IsInstalledAs m (reads old) next × EachImage (now new) new (IsBase m next d)
      as_next is =
          let recovers : Recovers m (reads old) vault.database = opened.recovers.0 in
          (is.0, inl (vault.database, recovers, subst (λ (g : ℕ). IsNext g is.0) (sym opened.recovers.2) is.1), is.2)

  pub installed_again : {T E : Type 0} (refusal : OpenRefused) (result : Result T E) → (((e : D) → Recovers m (reads old) e → SaysWhy m (reads old) refusal → ⊥)) → (let opening : Result (State D × Bool) OpenRefused = Err refusal in Recovered m opening old mid) → Formatted m d result mid new → Installed m d result old new
  installed_again refusal result none opened formatted = record {
    goes = goes_then IsOurs old mid new opened.calm.goes formatted.goes;
    installed = on_ok result (λ each. (0, inr ((λ e recovers. none e recovers opened.says), refl), each)) formatted.installed;
    since = λ sound few. absurd (let is = sound (reads old) (image_reads old) in
        none is.0 (within_recovers m (reads old) is.0 is.1) opened.says);
  }

  pub not_formatted : (e : D) → Recovers m (reads old) e → SaysWhy m (reads old) NotFormatted → ⊥
  not_formatted e recovers says = is_formatted m law (reads old) e recovers says

  pub not_damaged : (file at : ℕ) (e : D) → Recovers m (reads old) e → SaysWhy m (reads old) (Damaged file at) → ⊥
  not_damaged file at e recovers says = not_damaged_there m law (reads old) e recovers file at says

-- the files couldn't be read
pub not_read : {D T E : Type 0} (m : Meaning D) (d : D) (why : E) (refusal : OpenRefused) (old new : History) → (let opening : Result (State D × Bool) OpenRefused = Err refusal in Recovered m opening old new) → (let result : Result T E = Err why in Installed m d result old new)
not_read m d why refusal old new opened = record {
  goes = opened.calm.goes;
  installed = tt;
  since = λ sound few moment files from to here. (let start = opened.calm.images moment files from to here in let is = sound files start in inl (record { database = is.0; recovers = is.1; start = files; left = start; same = is.1 }));
}

pub told_none_put : {D : Type 0} (x : Option History) (m : Meaning D) (vault : State D) (d : D) (why : OpenRefused) → Told x x (λ old new. let result : Result (Unit {0}) OpenRefused = Err why in PutBehind m vault d result old new)
told_none_put None m vault d why = tt
told_none_put (Some h) m vault d why = none_put m vault d why h

pub told_not_read : {D : Type 0} (x : Option History) (m : Meaning D) (d : D) (why : OpenRefused) → Told x x (λ old new. let result : Result (Unit {0}) OpenRefused = Err why in Installed m d result old new)
told_not_read None m d why = tt
told_not_read (Some h) m d why = record {
  goes = goes_none IsOurs h;
  installed = tt;
  since = λ sound few moment files from to here. (let start = subst (λ (k : ℕ). ImageAt h k files) (let e : moment ≡ now h = omega (arith, from, to) in e) here in let is = sound files start in inl (record { database = is.0; recovers = is.1; start = files; left = start; same = is.1 }));
}
