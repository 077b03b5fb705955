-- The newest image is found, and its payload read.
use Rattle.std.proofs.Common.{◌≡◌, inl, inr, ℕ, ◌+◌, ◌<◌, ◌≤◌, ◌^◌, ◌%◌, ◌++◌, List, Option, None, Some, IfSome, Ok, Err, refl, sym, ◌∙◌, ap, subst, arith}
use Rattle.std.specs.Option.{option_map}
use Rattle.std.proofs.lemmas.Bool.{cases_lt, lt-ltb, le-ltb}
use Rattle.store_api.specs.Disk.{History, reads}
use Rattle.store_api.specs.Told.{Told}
use Rattle.kinds.specs.declared.refusal.OpenRefused.{OpenRefused}
use Rattle.kinds.specs.declared.refusal.OpenRefused.TheVariants.{ReadFault, NotFormatted, Damaged, RunFull, Memory}
use Rattle.log_file.specs.Blocks.{IsClosed}
use Rattle.log_file.specs.Cursor.{MayRefuse, Looked}
use Rattle.log_file.specs.Windows.{IfReads}
use Rattle.log_file.proofs.Told.{looked_reads}
use Rattle.db_image.specs.declared.mark.Mark.TheVariants.{Server}
use Rattle.db_image.specs.declared.head.Head.{Head}
use Rattle.db_image.specs.Images.{HasImage}
use Rattle.db_image.specs.Reads.{FindsHead, SaysDamage}
use Rattle.db_image.proofs.One.{one, opened, not_damaged, head_image}
use Rattle.fields.specs.Editions.{first_form}
use Rattle.entries.specs.Meaning.{Meaning, IsMeaning, Spells}
use Rattle.vault.specs.Files.{image_file}
use Rattle.vault.specs.Recovery.{Older, Newest, Headed}
use Rattle.vault.specs.Openings.{greater, FindsNewest, HeadsRefused, BaseRefused}

-- what holds of both images' files, where the store tells
pub heads_all : (x y : Option History) (P Q : List ℕ → Type 0) (R : History → Type 0) → ((h : History) → P (reads h 0) → Q (reads h 1) → R h) → Told x y Looked → IfReads x 0 P → IfReads y 1 Q → IfSome x R
heads_all None None P Q R f looked p q = tt
heads_all None (Some new) P Q R f looked p q = tt
heads_all (Some old) None P Q R f looked p q = absurd looked
heads_all (Some old) (Some new) P Q R f looked p q = f old p (subst Q (looked_reads old new 1 looked) q)

-- what holds of one file, where the store tells
pub reads_some : (x : Option History) (file : ℕ) (P : List ℕ → Type 0) (R : History → Type 0) → ((h : History) → P (reads h file) → R h) → IfReads x file P → IfSome x R
reads_some None file P R f p = tt
reads_some (Some h) file P R f p = f h p

-- the newest image, by its files
newest_at : (files : ℕ → List ℕ) (here there generation : ℕ) (payload : List ℕ) → here ≡ image_file generation → there ≡ image_file (generation + 1) → HasImage here Server (files here) generation payload → Older generation there (files there) → Newest files generation payload
newest_at files here there generation payload is other has older = record {
  stands = subst (λ (n : ℕ). HasImage n Server (files n) generation payload) is has;
  other = subst (λ (n : ℕ). Older generation n (files n)) other older;
}

only_here : (files : ℕ → List ℕ) (here there generation : ℕ) → generation % 2 ≡ here → there ≡ (generation + 1) % 2 → (payload : List ℕ) → HasImage here Server (files here) generation payload → Older generation there (files there) → FindsNewest files (Ok generation)
only_here files here there generation is other payload has older = (payload, newest_at files here there generation payload (sym is) other has older)

abbrev IsThere : Option ℕ → Type 0
IsThere None = ⊥
IsThere (Some n) = Unit {0}

pub newest_found : (files : ℕ → List ℕ) (first second : Option Head) (generation : ℕ) → FindsHead 0 Server (files 0) (Ok first) → FindsHead 1 Server (files 1) (Ok second)
    → greater (option_map (λ (head : Head). head.number) first) (option_map (λ (head : Head). head.number) second) ≡ Some generation → FindsNewest files (Ok generation)
newest_found files None None generation a b e = absurd (subst IsThere (sym e) tt)
newest_found files (Some first) None generation a b e =
    let is : first.number ≡ generation = (let some : Some first.number ≡ Some generation = e in cc) in
    let image = head_image 0 first.number first.len Server (files 0) a in
    subst (λ (n : ℕ). FindsNewest files (Ok n)) is (only_here files 0 1 first.number image.1.allowed.1 (omega (arith, image.1.allowed.1)) image.0 image.1 (inl b))
newest_found files None (Some second) generation a b e =
    let is : second.number ≡ generation = (let some : Some second.number ≡ Some generation = e in cc) in
    let image = head_image 1 second.number second.len Server (files 1) b in
    subst (λ (n : ℕ). FindsNewest files (Ok n)) is (only_here files 1 0 second.number image.1.allowed.1 (omega (arith, image.1.allowed.1)) image.0 image.1 (inl a))
newest_found files (Some first) (Some second) generation a b e =
    let zero_image = head_image 0 first.number first.len Server (files 0) a in
    let one_image = head_image 1 second.number second.len Server (files 1) b in
    elim (cases_lt first.number second.number) [
      | inl less ↦ (
          let chosen : greater (Some first.number) (Some second.number) ≡ Some second.number = rw (lt-ltb first.number second.number less) refl in
          let is : second.number ≡ generation = (let some : Some second.number ≡ Some generation = sym chosen ∙ e in cc) in
          subst (λ (n : ℕ). FindsNewest files (Ok n)) is (only_here files 1 0 second.number one_image.1.allowed.1 (omega (arith, one_image.1.allowed.1)) one_image.0 one_image.1 (inr (first.number, zero_image.0, zero_image.1, less))))
      | inr more ↦ (
          let chosen : greater (Some first.number) (Some second.number) ≡ Some first.number = rw (le-ltb first.number second.number more) refl in
          let is : first.number ≡ generation = (let some : Some first.number ≡ Some generation = sym chosen ∙ e in cc) in
          let less : second.number < first.number = omega (arith, more, zero_image.1.allowed.1, one_image.1.allowed.1) in
          subst (λ (n : ℕ). FindsNewest files (Ok n)) is (only_here files 0 1 first.number zero_image.1.allowed.1 (omega (arith, zero_image.1.allowed.1)) zero_image.0 zero_image.1 (inr (second.number, one_image.0, one_image.1, less))))
    ]

pub none_found : (files : ℕ → List ℕ) (first second : Option Head) → FindsHead 0 Server (files 0) (Ok first) → FindsHead 1 Server (files 1) (Ok second)
    → greater (option_map (λ (head : Head). head.number) first) (option_map (λ (head : Head). head.number) second) ≡ None → FindsNewest files (Err NotFormatted)
none_found files None None a b e = (a, b)
none_found files (Some first) None a b e = absurd (subst IsThere e tt)
none_found files None (Some second) a b e = absurd (subst IsThere e tt)
none_found files (Some first) (Some second) a b e = absurd (subst IsThere e tt)

headed : (file : ℕ) (bytes : List ℕ) (found : Option Head) → FindsHead file Server bytes (Ok found) → Headed file bytes
headed file bytes None closed = inl closed
headed file bytes (Some head) has = let image = head_image file head.number head.len Server bytes has in inr (head.number, image.0, image.1)

-- the second head was refused
pub second_refused : (files : ℕ → List ℕ) (first : Option Head) (refusal : OpenRefused) (before after : ℕ → ℕ) (moment : ℕ) → MayRefuse 1 before after moment refusal → FindsHead 0 Server (files 0) (Ok first) → SaysDamage 1 Server (files 1) refusal → HeadsRefused files refusal
second_refused files first (Damaged which at) before after moment may a b = inr (b.0, headed 0 (files 0) first a, b.1)
second_refused files first NotFormatted before after moment may a b = absurd may
second_refused files first (ReadFault which) before after moment may a b = tt
second_refused files first RunFull before after moment may a b = tt
second_refused files first Memory before after moment may a b = tt

module _ {D : Type 0} (m : Meaning D) (files : ℕ → List ℕ) (generation file : ℕ) (is : file ≡ image_file generation) where
  stands_there : (payload : List ℕ) → Newest files generation payload → HasImage file Server (files file) generation payload
  stands_there payload newest = subst (λ (n : ℕ). HasImage n Server (files n) generation payload) (sym is) newest.stands

  -- the image was refused
  pub image_refused : (refusal : OpenRefused) (before after : ℕ → ℕ) (moment : ℕ) → MayRefuse file before after moment refusal → SaysDamage file Server (files file) refusal → (payload : List ℕ) → Newest files generation payload → BaseRefused m generation payload refusal
  image_refused (Damaged which at) before after moment may says payload newest = absurd (not_damaged file generation at Server (files file) payload (stands_there payload newest) says.1)
  image_refused NotFormatted before after moment may says payload newest = absurd may
  image_refused (ReadFault which) before after moment may says payload newest = tt
  image_refused RunFull before after moment may says payload newest = tt
  image_refused Memory before after moment may says payload newest = tt

  -- the payload that was read is that of the newest image
  pub payload_is : (number : ℕ) (found payload : List ℕ) → HasImage file Server (files file) number found → Newest files generation payload → found ≡ payload
  payload_is number found payload has newest = (one file number generation Server (files file) found payload has (stands_there payload newest)).1

  pub not_shut : (payload : List ℕ) → IsClosed (files file) → Newest files generation payload → ⊥
  not_shut payload closed newest = opened file generation Server (files file) payload (stands_there payload newest) closed

-- an image of the last generation whose payload is in the first form is none
pub last_spent : {D : Type 0} (m : Meaning D) (law : IsMeaning m) (files : ℕ → List ℕ) (generation : ℕ) (payload : List ℕ) (d : D) → Spells m first_form payload d → 2 ^ 62 ≤ generation + 1 → Newest files generation payload → ⊥
last_spent m law files generation payload d spells last newest =
    let begins = law.begins first_form d spells.0 in
    newest.stands.unspent (omega (arith, last, newest.stands.allowed.0), (begins.0 ++ newest.stands.rest, ap (λ (l : List ℕ). l ++ newest.stands.rest) (spells.1 ∙ begins.1)))
