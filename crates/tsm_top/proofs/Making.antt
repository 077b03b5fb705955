-- A new database is made, and perhaps a script is run over it; and how all of a call ended.
use Rattle.std.proofs.Common.{◌≡◌, ◌⊎◌, ⊎_elim, inl, inr, ℕ, ◌<◌, ◌≤◌, Bool, false, Option, None, Some, is_some, IfSome, List, Result, Ok, refl, sym, ◌∙◌, subst, arith}
use Rattle.store_api.specs.Cause.{NoneFell}
use Rattle.store_api.specs.Disk.{History, now, reads}
use Rattle.store_api.specs.Told.{Told}
use Rattle.store_api.proofs.Pieces.{image_reads}
use Rattle.store_api.proofs.Runs.{goes_later}
use Rattle.fields.specs.Editions.{first_form, second_form}
use Rattle.kinds.specs.declared.refusal.OpenRefused.{OpenRefused}
use Rattle.kinds.specs.declared.refusal.OpenRefused.TheVariants as refused
use Rattle.entries.specs.declared.entry.Entry.{Entry}
use Rattle.block_results.specs.command_steps.Clients.{Client}
use Rattle.inventory.specs.Meant.{meaning}
use Rattle.inventory.specs.Meaningful.{is_meaning}
use Rattle.inventory_rows.specs.Fresh.{fresh}
use Rattle.inventory_rows.specs.State.{Inv}
use Rattle.script_loop.specs.declared.ends.End.{End}
use Rattle.vault.specs.Openings.{Calm, is_formatted as has_gate, Formatted, SaysWhy, MayRefuseLooking, MayRefuseFormatting}
use Rattle.vault.specs.Recovery.{Recovers, IsBase}
use Rattle.vault.proofs.Sounding.{ends_log, newest_one, within_recovers}
use Rattle.vault.proofs.Unique.{one_database, one_form, is_formatted, not_damaged_there}
use Rattle.hall.specs.Protected.{HadBackups}
use Rattle.hall.proofs.BackupsOpened.{had_fresh}
use Rattle.hall_turns.proofs.Stops.{new_sound}
use Rattle.tsm_top.specs.declared.note.Note.{Note}
use Rattle.tsm_top.specs.Serve.{Command, format, run, fresh_run, Closing, no_command, formatted, exists, refused_opening, restored, untold, unread, HasCause, OpensNot, IsNone, IsNew, Had, HasImage, RunsOver, StartsAt, Sure, Spares, SparesAll, Opens, Later, RanScript, RoseBetween}

-- files that hold a new database recover to it alone
new_base : (h : History) → IsNew (Some h) → IsBase meaning 0 fresh (reads h)
new_base h new = new (now h) (reads h) (omega arith) (omega arith) (image_reads h)

new_recovers : (h : History) → IsNew (Some h) → Recovers meaning (reads h) fresh
new_recovers h new = within_recovers meaning (reads h) fresh (new_base h new).recovers

-- and whatever they recover to is in the form that is written
new_form : (h : History) → IsNew (Some h) → (d : Inv) (is : Recovers meaning (reads h) d) → is.form ≡ second_form
new_form h new d is =
    let base = new_base h new in
    let r = base.recovers in
    let own : Recovers meaning (reads h) fresh = record { form = r.form; generation = r.generation; base = r.base; entries = r.entries; valid = r.valid; newest = r.newest; log = ends_log _ _ r.log; legal = r.legal; gives = r.gives } in
    one_form meaning is_meaning (reads h) d fresh is own ∙ base.written

never_refused : (h : History) (refusal : OpenRefused) → IsNew (Some h) → (refusal ≡ refused.NotFormatted) ⊎ ((file : ℕ) × (at : ℕ) × (refusal ≡ refused.Damaged file at)) → SaysWhy meaning (reads h) refusal → ⊥
never_refused h refusal new (inl is) says = is_formatted meaning is_meaning (reads h) fresh (new_recovers h new) (subst (λ (r : OpenRefused). SaysWhy meaning (reads h) r) is says)
never_refused h refusal new (inr (file, at, is)) says = not_damaged_there meaning is_meaning (reads h) fresh (new_recovers h new) file at (subst (λ (r : OpenRefused). SaysWhy meaning (reads h) r) is says)

tells_nothing : (x y : Option History) (refusal : OpenRefused) → is_some y ≡ is_some x → IsNew y → (refusal ≡ refused.NotFormatted) ⊎ ((file : ℕ) × (at : ℕ) × (refusal ≡ refused.Damaged file at)) → IsNone y refusal → is_some x ≡ false
tells_nothing x None refusal same new is says = sym same
tells_nothing x (Some h) refusal same new is says = absurd (never_refused h refusal new is says)

rises : (before mid after : ℕ → ℕ) (file : ℕ) → NoneFell before mid → RoseBetween mid after file → RoseBetween before after file
rises before mid after file none rose = omega (arith, none file, rose)

-- why a database that was just made isn't opened
pub new_not : (x y : Option History) (refusal : OpenRefused) (last : ℕ) (before mid after : ℕ → ℕ) → is_some y ≡ is_some x → IsNew y → NoneFell before mid → OpensNot run y last (RoseBetween mid after) refusal → OpensNot fresh_run x last (RoseBetween before after) refusal
new_not x y (refused.ReadFault file) last before mid after same new none not = (not.0, rises before mid after file none not.1)
new_not x y (refused.Damaged file at) last before mid after same new none not = (not.0, tells_nothing x y (refused.Damaged file at) same new (inr (file, at, refl)) not.1)
new_not x y refused.NotFormatted last before mid after same new none not = tells_nothing x y refused.NotFormatted same new (inl refl) not
new_not x y refused.RunFull last before mid after same new none not = not
new_not x y refused.Memory last before mid after same new none not = not

new_over : (x y : Option History) (base : Inv) → is_some y ≡ is_some x → HasImage false x → IsNew y → RunsOver run y base → RunsOver fresh_run x base
new_over None y base same had new over = (had, tt)
new_over (Some a) None base same had new over = absurd (cc)
new_over (Some a) (Some h) base same had new over = (had, one_database meaning is_meaning (reads h) base fresh over (new_recovers h new))

new_sure : (first : ℕ → List ℕ) (x y : Option History) → is_some y ≡ is_some x → IsNew y → Sure fresh_run first x → Sure run first y
new_sure first x None same new known = absurd (cc)
new_sure first x (Some h) same new known = new_sound first h (λ moment image from to here. (new moment image from to here).recovers)

-- it lists no backup
new_had : (y : Option History) → IsNew y → Had run y
new_had None new = tt
new_had (Some h) new = λ v is_v. subst (λ (w : Inv). HadBackups w (now h) h) (one_database meaning is_meaning (reads h) fresh v (new_recovers h new) is_v) (had_fresh h)

-- its newest image is of generation 0, and it is opened as that
new_starts : (x y : Option History) (start : ℕ) → is_some y ≡ is_some x → IsNew y → StartsAt run y start → StartsAt fresh_run x start
new_starts None y start same new starts = tt
new_starts (Some a) None start same new starts = absurd (cc)
new_starts (Some a) (Some h) start same new starts =
    let base = new_base h new in
    let is = starts.1.0 in
    let at : is.generation ≡ 0 = (newest_one (reads h) is.generation base.recovers.generation (meaning.spelled is.form is.base) (meaning.spelled base.recovers.form base.recovers.base) is.newest base.recovers.newest).0 ∙ base.by_image in
    elim starts.1.1 [
      | inl written ↦ written.1 ∙ at
      | inr before ↦ absurd (let none : first_form ≡ second_form = sym before.0 ∙ new_form h new starts.0 is in cc)
    ]

pub tells_on : (R : History → History → Type 0) (x y : Option History) → Told x y R → is_some y ≡ is_some x
tells_on R None None t = refl
tells_on R (Some a) (Some b) t = refl
tells_on R None (Some b) t = absurd t
tells_on R (Some a) None t = absurd t

-- a script that was run over it
pub new_script : (x y left_told : Option History) (k : Client) (before after : ℕ → ℕ) (opened last : ℕ) (end : End) (status : ℕ) (journal : List Entry) (stamps : List ℕ) (notes : List Note) (base : Option Inv) (generation : ℕ) (script left was is : Option (List ℕ)) → is_some y ≡ is_some x → HasImage false x → IsNew y →
    RanScript run k y left_told before after opened last end status journal stamps notes base generation script left was is → RanScript fresh_run k x left_told before after opened last end status journal stamps notes base generation script left was is
new_script x y left_told k before after opened last end status journal stamps notes base generation script left was is same had new ran = record {
  code = ran.code;
  database = ran.database;
  base_is = ran.base_is;
  over = new_over x y ran.database same had new ran.over;
  rest = ran.rest;
  rise = ran.rise;
  start = ran.start;
  starts = new_starts x y ran.start same new ran.starts;
  whole = ran.whole;
  sound = λ contents known. ran.sound contents (new_sure contents x y same new known);
  backups = λ contents known had. ran.backups contents (new_sure contents x y same new known) (new_had y new);
}

-- opening it changes nothing that is read
spared_calm : (x y : Option History) → IsNew x → Told x y SparesAll → Told x y Calm
spared_calm None None new spared = tt
spared_calm None (Some b) new spared = absurd spared
spared_calm (Some a) None new spared = absurd spared
spared_calm (Some a) (Some b) new spared = spared.files.calm (new_form a new)

-- so what is new stays so meanwhile
calm_new : (x y : Option History) → Told x y Calm → IsNew x → IsNew y
calm_new None None calm new = tt
calm_new None (Some b) calm new = absurd calm
calm_new (Some a) None calm new = absurd calm
calm_new (Some a) (Some b) calm new = λ moment files from to here. new (now a) files (omega arith) (omega arith) (calm.images moment files (later_now a b calm from) to here)
  where
    later_now : (a b : History) → Calm a b → {moment : ℕ} → now b ≤ moment → now a ≤ moment
    later_now a b calm le = (let grew : now a ≤ now b = goes_later (λ f. f < 4) a b calm.goes in omega (arith, grew, le))

-- a new database was made, and then opened
pub opens_new : (x y z : Option History) → is_some y ≡ is_some x → HasImage false x → IsNew y → Told y z SparesAll → Opens fresh_run x z
opens_new x y z same had new spared = (had, tells_on SparesAll y z spared ∙ same, calm_new y z (spared_calm y z new spared) new)

-- a new database that couldn't be opened
pub refused_spares : (x y z : Option History) → is_some y ≡ is_some x → HasImage false x → Told y z SparesAll → Spares fresh_run x z
refused_spares x y z same had spared = inr (had, tells_on SparesAll y z spared ∙ same)

-- ---- calls one after the other

pub later_then : {S : Type 0} (moment : S → ℕ) (faults : S → ℕ → ℕ) (a b c : S) → Later moment faults a b → Later moment faults b c → Later moment faults a c
later_then moment faults a b c first second = record {
  counts = λ file. (let one = first.counts file in let two = second.counts file in omega (arith, one, two));
  time = (let one = first.time in let two = second.time in omega (arith, one, two));
}

-- ---- how a database is made

pub is_new : (T E : Type 0) (done : T) (made : Inv) (x y : Option History) → made ≡ fresh → (let result : Result T E = Ok done in Told x y (Formatted meaning made result)) → IsNew y
is_new T E done made x None is t = tt
is_new T E done made None (Some b) is t = absurd t
is_new T E done made (Some a) (Some b) is t = rw (sym is) t.installed

pub looked_not : (x : Option History) (refusal : OpenRefused) (last : ℕ) (before after : ℕ → ℕ) → MayRefuseLooking before after last refusal → OpensNot format x last (RoseBetween before after) refusal
looked_not x (refused.ReadFault file) last before after may = (let two : file < 2 = may.0 in omega (arith, two), may.1)
looked_not x (refused.Damaged file at) last before after may = may
looked_not x refused.NotFormatted last before after may = may
looked_not x refused.RunFull last before after may = may
looked_not x refused.Memory last before after may = tt

pub formats_not : (x : Option History) (refusal : OpenRefused) (last : ℕ) (before mid after : ℕ → ℕ) → NoneFell before mid → MayRefuseFormatting mid after last refusal → OpensNot format x last (RoseBetween before after) refusal
formats_not x (refused.ReadFault file) last before mid after none may = (may.0, rises before mid after file none may.1)
formats_not x (refused.Damaged file at) last before mid after none may = may
formats_not x refused.NotFormatted last before mid after none may = may
formats_not x refused.RunFull last before mid after none may = may
formats_not x refused.Memory last before mid after none may = tt

pub has_image : (b : Bool) (x : Option History) → IfSome x (λ h. ◌≡◌ {A = Bool} b (has_gate (reads h))) → HasImage b x
has_image b None is = tt
has_image b (Some h) is = sym is

-- ---- what is asked

-- what caused a call's end, where one command is asked, is what did where the words ask it
pub asked_one : (one : Command) (asked : Command → Type 0) → asked one → (why : Closing) (told left : Option History) (last : ℕ) (before after : ℕ → ℕ) → HasCause (λ command. command ≡ one) why told left last before after → HasCause asked why told left last before after
asked_one one asked is no_command told left last before after cause = absurd (cause.0 one refl)
asked_one one asked is formatted told left last before after (same, had, tells, new) = (subst (λ (c : Command). asked c) (sym same) is, had, tells, new)
asked_one one asked is exists told left last before after (same, had, looked) = (⊎_elim (λ first. inl (subst (λ (c : Command). asked c) (sym first) is)) (λ second. inr (subst (λ (c : Command). asked c) (sym second) is)) same, had, looked)
asked_one one asked is (refused_opening why) told left last before after (command, same, not, spares) = (command, subst (λ (c : Command). asked c) (sym same) is, not, spares)
asked_one one asked is (restored file came) told left last before after (day, skipped, same, from, not) = (day, skipped, subst (λ (c : Command). asked c) (sym same) is, from, not)
asked_one one asked is (untold file came) told left last before after (day, skipped, same, from) = (day, skipped, subst (λ (c : Command). asked c) (sym same) is, from)
asked_one one asked is unread told left last before after cause = cause
