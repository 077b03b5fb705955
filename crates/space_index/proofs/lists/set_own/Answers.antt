use Rattle.std.proofs.Common.{◌≡◌, ℕ, Option, Some, None, inl, inr, subst, sym, ap, ◌∙◌}
use Rattle.std.specs.Option.{option_map}
use Rattle.std.proofs.lemmas.Bool.{cases_eq}
use Rattle.pool_tables.specs.Rows.{row_at}
use Rattle.space.specs.declared.site.Site.{Site}
use Rattle.space_index.specs.declared.by_pool.Listing.{Listing}
use Rattle.space_index.specs.declared.held.Held.{Held}
use Rattle.space_index.specs.Claimed.{lone, with_held}
use Rattle.space_index.specs.Tails.{AreElse, IsOwnListing, filling_room, home_by, own_home}
use Rattle.space_index.proofs.Listings.{holds_else, own_alone, own_apart, own_same}
use Rattle.space_index.proofs.lists.set_own.Goals as goal

-- another actor's list stays
stays : (actor file : ℕ) (o : Option Listing) (sites others : ℕ → Option Site) (helds : ℕ → Option Held) (h : Held) → AreElse file sites others → helds file ≡ Some h → (lone h.actors ≡ Some actor → ⊥) → IsOwnListing o (λ q. own_home actor (sites q) (helds q))
    → IsOwnListing o (λ q. own_home actor (others q) (helds q))
stays actor file o sites others helds h same held other is =
    own_same o (λ q. own_home actor (sites q) (helds q)) (λ q. own_home actor (others q) (helds q)) (λ q. elim (cases_eq q file) [
      | inl here ↦ none (sites q) q here ∙ sym (none (others q) q here)
      | inr apart ↦ ap (λ (x : Option Site). own_home actor x (helds q)) (sym (same q apart))
    ]) is where
      none : (x : Option Site) (q : ℕ) → q ≡ file → own_home actor x (helds q) ≡ None
      none x q here = ap (own_home actor x) (ap helds here ∙ held) ∙ own_apart actor x h other

none_some : (n : ℕ) → (let o : Option ℕ = None in o ≡ Some n) → ⊥
none_some n h = cc

pub returns-in_default : goal.returns-in_default
returns-in_default c = λ actor sites others helds is same here held.
    stays actor c.args.file (row_at actor c.args.own.now.entries) sites others helds c.args.held.now same held (λ only. none_some actor (sym c.in_default.is ∙ c.lone.ensures ∙ only)) is

pub returns : goal.returns
returns c = λ actor sites others helds is same here held.
    let who = c.in-Some.actor in
    let h = c.args.held.now in
    let only : lone h.actors ≡ Some who = sym c.lone.ensures ∙ c.in-Some.is in
    elim (cases_eq actor who) [
      | inl mine ↦ subst (λ (a : ℕ). IsOwnListing (row_at a c.args.own.now.entries) (λ q. own_home a (sites q) (helds q)) → IsOwnListing (row_at a c.set_for.new.own.entries) (λ q. own_home a (others q) (helds q))) (sym mine)
          (λ was. c.in_ok-set_for.ensures.here (λ q. own_home who (sites q) (helds q)) (λ q. own_home who (others q) (helds q)) was (holds_else (own_home who) c.args.file sites others helds same)
          (ap (own_home who (others c.args.file)) held ∙ own_alone who (others c.args.file) h only ∙ sym (c.own_home.ensures ∙ sym (ap (λ (x : Option Site). home_by filling_room (option_map (with_held h) x)) here)))) is
      | inr apart ↦
          subst (λ (o : Option Listing). IsOwnListing o (λ q. own_home actor (others q) (helds q))) (sym (c.in_ok-set_for.ensures.others actor apart))
          (stays actor c.args.file (row_at actor c.args.own.now.entries) sites others helds h same held (λ other. apart (same_some actor who (sym other ∙ only))) is)
    ] where
      same_some : (a b : ℕ) → Some a ≡ Some b → a ≡ b
      same_some a b e = cc
