-- The copies that lie on a volume are on the list.
use Rattle.std.proofs.Common.{◌≡◌, ℕ, Bool, true, false, if◌then◌else◌, List, [], ◌∷◌, ◌++◌, Result, Ok, Err, refl, sym, ap, subst, ◌∙◌}
use Rattle.kinds.specs.declared.refusal.Refusal.{Refusal}
use Rattle.kinds.specs.declared.refusal.Refusal.TheVariants as refused
use Rattle.inventory_rows.specs.version_groups.Entries.{on_ok}
use Rattle.inventory_rows.specs.Search.{lies_on}
use Rattle.inventory_rows.specs.State.{Inv}
use Rattle.inventory_answers.specs.declared.query.Query.TheVariants as query
use Rattle.inventory_answers.specs.declared.reply.Answer.{Answer}
use Rattle.inventory_answers.specs.declared.reply.Rows.{Rows}
use Rattle.inventory_answers.specs.declared.reply.Rows.TheVariants as rows
use Rattle.inventory_work.specs.declared.lines.CopyLine.{CopyLine}
use Rattle.inventory_work.specs.Copies.{has_volume}
use Rattle.machine.proofs.Runs.{fits-first}
use Rattle.machine.specs.Fits.{History, Own, Step, inv}
use Rattle.machine.specs.Machine.{IsAnswer}
use Rattle.machine.specs.Says.{Says}
use Rattle.copy_runs.proofs.Listing.{copy-listed, lines_of_copies}
use Rattle.copy_runs.specs.Wanting.{IsIn}
use Rattle.steps.specs.Events.{Event, event}
use Rattle.steps.specs.Events.Deed.{Ask}
use Rattle.volume_audits.specs.Rows.{AreAllListed}

abbrev rows_told : Result Answer Refusal → Rows
rows_told (Ok a) = a.rows
rows_told (Err e) = rows.Today

abbrev answer_of : Inv → Result (List CopyLine) Refusal → Result Answer Refusal
answer_of v r = on_ok (λ (x : Rows). record { n = v.number; today = v.today; rows = x }) (on_ok rows.OnVolume r)

told-copies : (v : Inv) (b : Bool) (xs : List CopyLine) (told : Answer) → answer_of v (if b then Ok xs else Err refused.NotFound) ≡ Ok told → told.rows ≡ rows.OnVolume xs
told-copies v true xs told h = sym (ap rows_told h)
told-copies v false xs told h = absurd cc

told-on : (log_length file : ℕ) (v : Inv) (answer : Answer) (lines : List CopyLine) → IsAnswer log_length (query.OnVolume file) v answer → answer.rows ≡ rows.OnVolume lines → lines ≡ lines_of_copies (lies_on file) v
told-on log_length file v answer lines h is =
    let told : h.0.rows ≡ rows.OnVolume (lines_of_copies (lies_on file) v) = told-copies v (has_volume file v) (lines_of_copies (lies_on file) v) h.0 h.1 in
    let both : rows.OnVolume lines ≡ rows.OnVolume (lines_of_copies (lies_on file) v) = sym is ∙ ap (λ (x : Answer). x.rows) h.2 ∙ told in
    cc

pub asked-copies : (w : History) (actor : ℕ) (a b : Own) (n file : ℕ) (answer : Answer) (lines : List CopyLine) → Step w actor a (event n (Ask (query.OnVolume file) (Ok answer))) b → answer.rows ≡ rows.OnVolume lines
    → lines ≡ lines_of_copies (lies_on file) (inv w n)
unfolding Says
asked-copies w actor a b n file answer lines s is = told-on s.says.1.0 file (inv w n) answer lines s.says.1.1 is

pub all-listed : (file n : ℕ) (answer : Answer) (lines : List CopyLine) (ys : List Event) → answer.rows ≡ rows.OnVolume lines → AreAllListed file lines (event n (Ask (query.OnVolume file) (Ok answer)) ∷ ys)
all-listed file n answer lines ys is = λ w actor a b fits object copy there on_it.
    let r = fits-first w actor a b (event n (Ask (query.OnVolume file) (Ok answer))) ys fits in
    let told : lines ≡ lines_of_copies (lies_on file) (inv w n) = asked-copies w actor a r.0 n file answer lines r.1 is in
    let l = copy-listed (lies_on file) object copy (inv w n) there on_it in
    (l.0, subst (λ (ls : List CopyLine). IsIn l.0 ls) (sym told) l.2, record { is_of = l.1.0; in_pool = l.1.1; lies = l.1.2 })
