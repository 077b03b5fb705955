-- A call that is to make a database makes one, where the store has none, no count of faults rose and there is memory.
use Rattle.std.proofs.Common.{◌≡◌, ◌⊎◌, ⊎_elim, inl, inr, ℕ, ◌-◌, ◌^◌, true, false, Option, None, Some, List, [], ◌∷◌, length, map, codes, refl, sym, ◌∙◌, ap, subst, arith}
use Rattle.std.specs.Prelude.{◌≤◌, String, string_bytes}
use Rattle.std.specs.declared.alloc.Global.{Global}
use Rattle.store_api.specs.Disk.{History, reads}
use Rattle.kinds.specs.declared.refusal.OpenRefused.TheVariants as opening
use Rattle.entries.specs.declared.entry.Entry.{Entry}
use Rattle.inventory_rows.specs.State.{Inv}
use Rattle.vault.specs.Openings.{is_formatted}
use Rattle.program_words.specs.Words.{wanted}
use Rattle.tsm_top.specs.Legal.{FormatsWell, NoneRose}
use Rattle.tsm_top.specs.Serve.{Asks, Closing, Command, HasCause, HasImage, OpensNot, RoseBetween, Shuts, closing_status, exists, format, formatted, fresh_run, no_command, refused_opening, restore, restored, run, unread, untold}
use Rattle.tsm_top.specs.declared.note.Note.{Note}

abbrev first_length : List (List ℕ) → ℕ
first_length [] = 0
first_length (word ∷ words) = length word

module _ (words : List (String Global)) (asks : map string_bytes words ≡ codes "format" ∷ []) where
  -- the words ask nothing else
  no_run : Asks words run → ⊥
  no_run is = (let same : ◌≡◌ {A = ℕ} 6 3 = ap first_length (sym asks ∙ is) in absurd (omega (arith, same)))

  no_fresh : Asks words fresh_run → ⊥
  no_fresh is = (let same : ◌≡◌ {A = ℕ} 6 5 = ap first_length (sym asks ∙ is) in absurd (omega (arith, same)))

  no_restore : (file day : ℕ) (skipped : List ℕ) → Asks words (restore file day skipped) → ⊥
  no_restore file day skipped is =
      let none : ◌≡◌ {A = Option (ℕ × ℕ × List ℕ)} None (Some (file, day, skipped)) = subst (λ (ws : List (List ℕ)). wanted ws ≡ Some (file, day, skipped)) asks is in
      absurd (cc none)

  module _ (told left : Option History) (last : ℕ) (before after : ℕ → ℕ) (h : History) (is : told ≡ Some h) (has_none : is_formatted (reads h) ≡ false) (none : NoneRose before after) where
    no_image : HasImage true told → ⊥
    no_image has = (let there : is_formatted (reads h) ≡ true = subst (HasImage true) is has in absurd (cc (sym there ∙ has_none)))

    no_damage : (command : Command) (file at : ℕ) → Asks words command → OpensNot command told last (RoseBetween before after) (opening.Damaged file at) → ⊥
    no_damage format file at asked not = absurd not
    no_damage run file at asked not = no_run asked
    no_damage fresh_run file at asked not = no_fresh asked
    no_damage (restore backup day skipped) file at asked not = absurd not

    no_other : (command : Command) → Asks words command → OpensNot command told last (RoseBetween before after) opening.NotFormatted → ⊥
    no_other format asked not = absurd not
    no_other run asked not = no_run asked
    no_other fresh_run asked not = no_fresh asked
    no_other (restore backup day skipped) asked not = absurd not

    late : (command : Command) → OpensNot command told last (RoseBetween before after) opening.RunFull → 2 ^ 62 - 2 ^ 24 ≤ last
    late format not = not
    late run not = not
    late fresh_run not = not
    late (restore backup day skipped) not = not

    own : (why : Closing) → HasCause (Asks words) why told left last before after → ((why ≡ formatted) × (closing_status why ≡ 0)) ⊎ ((closing_status why ≡ 8) ⊎ ((closing_status why ≡ 9) × (2 ^ 62 - 2 ^ 24 ≤ last)))
    own no_command cause = absurd (cause.0 format asks)
    own formatted cause = inl (refl, refl)
    own exists cause = absurd (no_image cause.1)
    own (refused_opening (opening.ReadFault file)) (command, asked, (ours, rose), spares) = absurd (none file rose)
    own (refused_opening (opening.Damaged file at)) (command, asked, not, spares) = absurd (no_damage command file at asked not)
    own (refused_opening opening.NotFormatted) (command, asked, not, spares) = absurd (no_other command asked not)
    own (refused_opening opening.RunFull) (command, asked, not, spares) = inr (inr (refl, late command not))
    own (refused_opening opening.Memory) cause = inr (inl refl)
    own (restored file came) (day, skipped, asked, tells, may) = absurd (no_restore file day skipped asked)
    own (untold file came) cause = inr (inl refl)
    own unread cause = inr (inl refl)

    pub formats_well : (why : Closing) (put_before put_after : Option (List ℕ)) (sink_rose : Type 0) (status : ℕ) (journal : List Entry) (stamps : List ℕ) (notes : List Note) (base : Option Inv) (generation opened : ℕ) → HasCause (Asks words) why told left last before after
        → Shuts why put_before put_after sink_rose status journal stamps notes base generation opened last → FormatsWell why sink_rose status last
    formats_well why put_before put_after sink_rose status journal stamps notes base generation opened cause shut =
        ⊎_elim (λ put. ⊎_elim (λ made. inl (made.0, put.0 ∙ made.1)) (λ others. ⊎_elim (λ memory. inr (inl (put.0 ∙ memory))) (λ full. inr (inr (inr (put.0 ∙ full.0, full.1)))) others) (own why cause))
        (λ sink. inr (inr (inl (sink.0, sink.1)))) shut.line
