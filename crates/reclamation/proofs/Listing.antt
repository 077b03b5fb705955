-- What questions were answered: the copies on a volume, the volumes of a database, and those that are to be emptied.
use Rattle.std.proofs.Common.{◌≡◌, ℕ, Bool, true, false, List, None, Result, Ok, Err, sym, ap, ◌∙◌, if◌then◌else◌}
use Rattle.kinds.specs.declared.refusal.Refusal.{Refusal}
use Rattle.kinds.specs.declared.refusal.Refusal.TheVariants as refused
use Rattle.inventory_rows.specs.version_groups.Entries.{on_ok}
use Rattle.inventory_rows.specs.Search.{lies_on}
use Rattle.inventory_rows.specs.State.{Inv}
use Rattle.inventory_answers.specs.declared.lines.VolumeLine.{VolumeLine}
use Rattle.inventory_answers.specs.declared.query.Query.TheVariants as query
use Rattle.inventory_answers.specs.declared.reply.Answer.{Answer}
use Rattle.inventory_answers.specs.declared.reply.Rows.{Rows}
use Rattle.inventory_answers.specs.declared.reply.Rows.TheVariants as rows
use Rattle.inventory_answers.specs.Stores.{volume_lines}
use Rattle.inventory_work.specs.declared.lines.CopyLine.{CopyLine}
use Rattle.inventory_work.specs.Copies.{has_pool, has_volume}
use Rattle.inventory_work.specs.Volumes.{eligible_in}
use Rattle.steps.specs.Events.{event}
use Rattle.steps.specs.Events.Deed.{Ask}
use Rattle.machine.specs.Fits.{History, Own, Step, inv}
use Rattle.machine.specs.Machine.{IsAnswer}
use Rattle.machine.specs.Says.{Says}
use Rattle.copy_runs.proofs.Listing.{lines_of_copies}

-- the copies on the volume, as they are listed
abbrev pub copies_on : (file : ℕ) → Inv → List CopyLine
copies_on file v = lines_of_copies (lies_on file) v

abbrev rows_told : Result Answer Refusal → Rows
rows_told (Ok a) = a.rows
rows_told (Err e) = rows.Today

abbrev answer_of : Inv → Result (List CopyLine) Refusal → Result Answer Refusal
answer_of v r = on_ok (λ (x : Rows). record { n = v.number; today = v.today; rows = x }) (on_ok rows.OnVolume r)

told-copies : (v : Inv) (b : Bool) (xs : List CopyLine) (told : Answer) → answer_of v (if b then Ok xs else Err refused.NotFound) ≡ Ok told → told.rows ≡ rows.OnVolume xs
told-copies v true xs told h = sym (ap rows_told h)
told-copies v false xs told h = absurd cc

told-on : (log_length file : ℕ) (v : Inv) (answer : Answer) (lines : List CopyLine) → IsAnswer log_length (query.OnVolume file) v answer → answer.rows ≡ rows.OnVolume lines → lines ≡ copies_on file v
told-on log_length file v answer lines h is =
    let told : h.0.rows ≡ rows.OnVolume (copies_on file v) = told-copies v (has_volume file v) (copies_on file v) h.0 h.1 in
    let both : rows.OnVolume lines ≡ rows.OnVolume (copies_on file v) = sym is ∙ ap (λ (x : Answer). x.rows) h.2 ∙ told in
    cc

pub asked-copies : (w : History) (actor : ℕ) (a b : Own) (n file : ℕ) (answer : Answer) (lines : List CopyLine) → Step w actor a (event n (Ask (query.OnVolume file) (Ok answer))) b
    → answer.rows ≡ rows.OnVolume lines → lines ≡ copies_on file (inv w n)
unfolding Says
asked-copies w actor a b n file answer lines s is = told-on s.says.1.0 file (inv w n) answer lines s.says.1.1 is

pub told-volumes : (log_length : ℕ) (v : Inv) (answer : Answer) (lines : List VolumeLine) → IsAnswer log_length (query.Volumes None None) v answer → answer.rows ≡ rows.Volumes lines
    → lines ≡ volume_lines None None v.stores
told-volumes log_length v answer lines h is =
    let told : rows.Volumes (volume_lines None None v.stores) ≡ h.0.rows = ap rows_told h.1 in
    let both : rows.Volumes lines ≡ rows.Volumes (volume_lines None None v.stores) = sym is ∙ ap (λ (x : Answer). x.rows) h.2 ∙ sym told in
    cc

pub asked-volumes : (w : History) (actor : ℕ) (a b : Own) (n : ℕ) (answer : Answer) (lines : List VolumeLine) → Step w actor a (event n (Ask (query.Volumes None None) (Ok answer))) b
    → answer.rows ≡ rows.Volumes lines → lines ≡ volume_lines None None (inv w n).stores
unfolding Says
asked-volumes w actor a b n answer lines s is = told-volumes s.says.1.0 (inv w n) answer lines s.says.1.1 is

abbrev files_of : Inv → Result (List ℕ) Refusal → Result Answer Refusal
files_of v r = on_ok (λ (x : Rows). record { n = v.number; today = v.today; rows = x }) (on_ok rows.Eligible r)

told-files : (v : Inv) (b : Bool) (xs : List ℕ) (told : Answer) → files_of v (if b then Ok xs else Err refused.NotFound) ≡ Ok told → told.rows ≡ rows.Eligible xs
told-files v true xs told h = sym (ap rows_told h)
told-files v false xs told h = absurd cc

told-eligible : (log_length pool threshold : ℕ) (v : Inv) (answer : Answer) (files : List ℕ) → IsAnswer log_length (query.Eligible pool threshold) v answer → answer.rows ≡ rows.Eligible files
    → files ≡ eligible_in pool threshold v.stores
told-eligible log_length pool threshold v answer files h is =
    let told : h.0.rows ≡ rows.Eligible (eligible_in pool threshold v.stores) = told-files v (has_pool pool v) (eligible_in pool threshold v.stores) h.0 h.1 in
    let both : rows.Eligible files ≡ rows.Eligible (eligible_in pool threshold v.stores) = sym is ∙ ap (λ (x : Answer). x.rows) h.2 ∙ told in
    cc

pub asked-eligible : (w : History) (actor : ℕ) (a b : Own) (n pool threshold : ℕ) (answer : Answer) (files : List ℕ) → Step w actor a (event n (Ask (query.Eligible pool threshold) (Ok answer))) b
    → answer.rows ≡ rows.Eligible files → files ≡ eligible_in pool threshold (inv w n).stores
unfolding Says
asked-eligible w actor a b n pool threshold answer files s is = told-eligible s.says.1.0 pool threshold (inv w n) answer files s.says.1.1 is
