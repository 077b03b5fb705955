-- One file of a chain is looked at.
use Rattle.std.proofs.Common.{◌≡◌, ◌≢◌, ◌⊎◌, inl, inr, ℕ, ◌<◌, ◌≤◌, ◌^◌, ◌+◌, ◌-◌, ◌&&◌, Bool, true, false, List, [], ◌∷◌, Option, None, Some, Result, Ok, Err, IfOk, IfErr, OnOk, IfSome, refl, sym, ◌∙◌, ap, subst, arith}
use Rattle.std.specs.Prelude.{Vec, nat_le}
use Rattle.std.specs.declared.alloc.Global.{Global}
use Rattle.std.proofs.lemmas.Bool.{leb-true, le-leb, and_parts, and_from}
use Rattle.std.proofs.lemmas.List.{append-nil}
use Rattle.store_api.specs.Cause.{Rose, NoneFell}
use Rattle.store_api.specs.Disk.{Standing, History, standing, reads, settled}
use Rattle.store_api.specs.Runs.{GoesOn}
use Rattle.store_api.specs.Told.{Told}
use Rattle.store_api.proofs.Runs.{goes_none, goes_then, goes_weaker, goes_standing, told_then, told_map}
use Rattle.kinds.specs.declared.refusal.OpenRefused.{OpenRefused}
use Rattle.kinds.specs.declared.refusal.OpenRefused.TheVariants as unread
use Rattle.log_file.specs.Blocks.{IsClosed}
use Rattle.log_file.specs.Cursor.{Looked, MayRefuse}
use Rattle.log_file.specs.Windows.{IfReads, NoDamage}
use Rattle.log_file.specs.Starts.{Settled}
use Rattle.log_file.proofs.Told.{told_reads, looked_reads, looked_standing, told_same}
use Rattle.db_image.specs.declared.mark.Mark.TheVariants.{Backup}
use Rattle.db_image.specs.Images.{HasImage}
use Rattle.db_image.specs.Reads.{SaysDamage}
use Rattle.db_image.specs.Reads as image
use Rattle.db_image.proofs.One.{one as one_image, opened, not_damaged}
use Rattle.entries.specs.Meaning.{Meaning, IsMeaning}
use Rattle.backup_payloads.specs.Increments.{Increment, IsIncrement, last_number}
use Rattle.backup_payloads.specs.Payloads.{IsPayload, IsOnly}
use Rattle.backup_payloads.specs.declared.payload.Payload.{Payload}
use Rattle.backup_payloads.specs.declared.payload.Payload.TheVariants as payload
use Rattle.db_chains.specs.declared.refused.ChainRefused.{ChainRefused}
use Rattle.db_chains.specs.declared.refused.ChainRefused.TheVariants as refused
use Rattle.db_chains.specs.declared.backup.Found.{Found}
use Rattle.db_chains.specs.declared.backup.Kind.{Kind}
use Rattle.db_chains.specs.declared.backup.Kind.TheVariants.{Whole, Since}
use Rattle.db_chains.specs.Chains.{IsBackupFile, IsBackup, NoBackup, last_of}
use Rattle.db_chains.specs.Looks.{is_backup_file, lasting, IsLasting, FindsImage, Reads, HoldsKind, HoldsNone, IsOfKind, FindsBackup, FoundOf, Looks}
use Rattle.db_chains.specs.Reads.{OnlySettles, MayRefuseChain}
use Rattle.db_chains.proofs.Settling.{settles_none, settles_then, settles_file, settles_looked}
use Rattle.db_chains.proofs.Unique.{one_held}

-- ---- which files

pub is_possible : (file : ℕ) → is_backup_file file ≡ true → IsBackupFile file
is_possible file h = (let parts = and_parts (nat_le 4 file) (nat_le file (2 ^ 32 - 3)) h in (leb-true 4 file parts.0, (let below : file ≤ 2 ^ 32 - 3 = leb-true file (2 ^ 32 - 3) parts.1 in omega (arith, below))))

-- ---- why a file isn't read

pub of_chain : (file : ℕ) (before after : ℕ → ℕ) (moment : ℕ) (why : OpenRefused) (chain : ChainRefused) → IsBackupFile file → MayRefuse file before after moment why → Some chain ≡ lasting why → MayRefuseChain before after moment chain × IsLasting chain
of_chain file before after moment (unread.ReadFault which) chain possible may is = subst (λ (r : ChainRefused). MayRefuseChain before after moment r × IsLasting r) (let e : chain ≡ refused.ReadFault which = (let whole : Some chain ≡ Some (refused.ReadFault which) = is in cc) in sym e)
    ((subst IsBackupFile (sym may.0) possible, subst (λ (n : ℕ). Rose (before n) (after n)) (sym may.0) may.1), tt)
of_chain file before after moment unread.NotFormatted chain possible may is = absurd may
of_chain file before after moment (unread.Damaged which at) chain possible may is = absurd (let whole : Some chain ≡ None = is in cc)
of_chain file before after moment unread.RunFull chain possible may is = subst (λ (r : ChainRefused). MayRefuseChain before after moment r × IsLasting r) (let e : chain ≡ refused.RunFull = (let whole : Some chain ≡ Some refused.RunFull = is in cc) in sym e) (may, tt)
of_chain file before after moment unread.Memory chain possible may is = subst (λ (r : ChainRefused). MayRefuseChain before after moment r × IsLasting r) (let e : chain ≡ refused.Memory = (let whole : Some chain ≡ Some refused.Memory = is in cc) in sym e) (tt, tt)

-- what speaks of damage finds no image
pub no_image : (file : ℕ) (before after : ℕ → ℕ) (moment : ℕ) (why : OpenRefused) (bytes : List ℕ) → MayRefuse file before after moment why → None ≡ lasting why → SaysDamage file Backup bytes why → FindsImage file bytes None
no_image file before after moment (unread.ReadFault which) bytes may is says = absurd (let whole : None ≡ Some (refused.ReadFault which) = is in cc)
no_image file before after moment unread.NotFormatted bytes may is says = absurd may
no_image file before after moment (unread.Damaged which at) bytes may is says = λ number held has. not_damaged file number at Backup bytes held has says.1
no_image file before after moment unread.RunFull bytes may is says = absurd (let whole : None ≡ Some refused.RunFull = is in cc)
no_image file before after moment unread.Memory bytes may is says = absurd (let whole : None ≡ Some refused.Memory = is in cc)

pub image_there : (file : ℕ) (bytes : List ℕ) (found : Option (ℕ × Vec ℕ Global)) → (let result : Result (Option (ℕ × Vec ℕ Global)) OpenRefused = Ok found in image.FindsImage file Backup bytes result) → FindsImage file bytes found
image_there file bytes None closed = λ number held has. opened file number Backup bytes held has closed
image_there file bytes (Some found) has = has

-- ---- a file is read

-- it wasn't made durable
pub not_settled : {E : Type 0} (file : ℕ) (failed : E) (why : ChainRefused) (old new : History) → IsBackupFile file → (let result : Result (Unit {0}) E = Err failed in Settled file result old new) → (let result : Result (Option (ℕ × Vec ℕ Global)) ChainRefused = Err why in Reads file result old new)
not_settled file failed why old new possible s = record { goes = s.goes; settles = settles_file file old new possible.0 s.goes s.same s.left; durable = tt; finds = tt }

module _ (file : ℕ) (possible : IsBackupFile file) where
  looked_goes : (done : Unit {0}) (old mid new : History) → (let result : Result (Unit {0}) OpenRefused = Ok done in Settled file result old mid) → Looked mid new → GoesOn (λ other. other ≡ file) old new
  looked_goes done old mid new s looked = goes_then (λ other. other ≡ file) old mid new s.goes (goes_weaker (λ other. ⊥) (λ other. other ≡ file) mid new (λ other no. absurd no) looked)

  looked_settles : (done : Unit {0}) (old mid new : History) → (let result : Result (Unit {0}) OpenRefused = Ok done in Settled file result old mid) → Looked mid new → OnlySettles old new
  looked_settles done old mid new s looked = settles_then old mid new (settles_file file old mid possible.0 s.goes s.same s.left) (settles_looked mid new looked)

  pub not_read : (done : Unit {0}) (why : ChainRefused) (x y z : Option History) → Told x y (λ old new. let result : Result (Unit {0}) OpenRefused = Ok done in Settled file result old new) → Told y z Looked
      → Told x z (λ old new. let result : Result (Option (ℕ × Vec ℕ Global)) ChainRefused = Err why in Reads file result old new)
  not_read done why x y z s looked = told_then x y z _ Looked _ (λ old mid new s looked. record { goes = looked_goes done old mid new s looked; settles = looked_settles done old mid new s looked; durable = tt; finds = tt }) s looked

  pub was_read : (done : Unit {0}) (found : Option (ℕ × Vec ℕ Global)) (x y z : Option History) → Told x y (λ old new. let result : Result (Unit {0}) OpenRefused = Ok done in Settled file result old new) → Told y z Looked → IfReads y file (λ bytes. FindsImage file bytes found)
      → Told x z (λ old new. let result : Result (Option (ℕ × Vec ℕ Global)) ChainRefused = Ok found in Reads file result old new)
  was_read done found x y z s looked finds =
      told_then x y z _ (λ old new. Looked old new × FindsImage file (reads old file) found) _
      (λ old mid new s both. record {
        goes = looked_goes done old mid new s both.0;
        settles = looked_settles done old mid new s both.0;
        durable = looked_standing mid new file both.0 ∙ s.durable;
        finds = subst (λ (bytes : List ℕ). FindsImage file bytes found) s.same both.1;
      }) s (told_reads y z file (λ bytes. FindsImage file bytes found) Looked (λ old new. Looked old new × FindsImage file (reads old file) found) (λ old new a b. (a, b)) looked finds)

-- ---- what a payload holds

module _ {D : Type 0} {m : Meaning D} (law : IsMeaning m) where
  -- a payload that holds something with another number holds nothing with this one
  pub none_of_this : (bytes : List ℕ) (number : ℕ) (held : Payload D) → IsPayload m bytes held → number ≢ last_of m held → HoldsNone m bytes number
  none_of_this bytes number held is apart = λ other also same. apart (same ∙ ap (last_of m) (one_held {m = m} law bytes other held also is))

-- ---- a file is looked at

module _ {D : Type 0} (m : Meaning D) (file : ℕ) where
  no_backup : (files : ℕ → List ℕ) → FindsImage file (files file) None → NoBackup m files file
  no_backup files none = λ number held is. none number is.payload is.image

  pub look_none : (old new : History) → (let result : Result (Option (ℕ × Vec ℕ Global)) ChainRefused = Ok None in Reads file result old new) → (let result : Result (Option (Found D)) ChainRefused = Ok None in Looks m file result old new)
  look_none old new r = record { goes = r.goes; settles = r.settles; durable = tt; finds = no_backup (reads old) r.finds }

  kind_there : (files : ℕ → List ℕ) (image : ℕ × Vec ℕ Global) (kind : Kind D) → IsBackupFile file → HasImage file Backup (files file) image.0 image.1.items → HoldsKind m image.1.items image.0 kind → IsOfKind m files file image.0 image.1.items kind
  kind_there files image (Whole d) possible has is = record { payload = image.1.items; possible = possible; image = has; holds = is.0; numbered = is.1 }
  kind_there files image (Since after base) possible has is =
      (is.0, record { payload = image.1.items; possible = possible; image = has; holds = is.1; numbered = is.2 }, is.1, is.3, is.4)

  -- what the image is found to be
  pub look_of : (image : ℕ × Vec ℕ Global) (result : Result (Option (Found D)) ChainRefused) (old new : History) → IsBackupFile file → FoundOf m image result
      → (let found : Result (Option (ℕ × Vec ℕ Global)) ChainRefused = Ok (Some image) in Reads file found old new) → Looks m file result old new
  look_of image (Ok None) old new possible none r = record {
    goes = r.goes;
    settles = r.settles;
    durable = tt;
    finds = λ number held is.
        (let same = one_image file number image.0 Backup (reads old file) is.payload image.1.items is.image r.finds in
        none held (subst (λ (bytes : List ℕ). IsPayload m bytes held) same.1 is.holds) (sym same.0 ∙ is.numbered));
  }
  look_of image (Ok (Some found)) old new possible is r = record {
    goes = r.goes;
    settles = r.settles;
    durable = r.durable;
    finds = subst (λ (n : ℕ). IsOfKind m (reads old) file n found.payload.items found.kind) (sym is.0)
        (subst (λ (p : Vec ℕ Global). IsOfKind m (reads old) file image.0 p.items found.kind) (sym is.1) (kind_there (reads old) image found.kind possible r.finds is.2));
  }
  look_of image (Err why) old new possible is r = record { goes = r.goes; settles = r.settles; durable = tt; finds = tt }
