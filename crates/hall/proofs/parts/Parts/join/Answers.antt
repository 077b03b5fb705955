use Rattle.std.proofs.Common.{◌≡◌, None, length, refl, sym, ap, subst, ◌∙◌, rules}
use Rattle.store_api.specs.Told.{Told}
use Rattle.inventory.specs.Meant.{meaning}
use Rattle.inventory_rules.specs.Journal.{no_journal}
use Rattle.inventory_rules.specs.Transactions.{refused}
use Rattle.vault.specs.Vaults.{Waits}
use Rattle.hall.specs.Held.{Held}
use Rattle.hall.proofs.Indexed.{kept_behind, made_of, noted_there, unjoined_refused}
use Rattle.hall.proofs.JoinAnswers.{all_refused, join_is, join_told, vault_stays}
use Rattle.hall.proofs.parts.Parts.join.Goals as goal

pub returns-clause-told : goal.returns-clause-told
returns-clause-told g c = λ joined.
    join_told _ _ _ c.args.self.now c.args.entry c.join-result.result c.join-result.new.vault c.drop_seats.new.self c.self.view_is
    (ap (λ (h : Held). h.vault) c.drop_seats.ensures ∙ vault_stays c.args.numbers.now _) c.join-result.ensures.told

pub returns-clause-err : goal.returns-clause-err
returns-clause-err g c =
    all_refused c.args.self.now c.args.entry c.args.numbers.now (g.S.Store.faults_of c.args.store.now) (g.S.Store.faults_of c.join-result.new.store) c.join-result.result c.join-result.new.vault c.drop_seats.new.self
    (c.join-result.new.store ≡ c.args.store.now) _ c.self.view_is
    (join_is c.args.entry.change c.args.numbers.now _ c.args.self.now c.join-result.new.vault c.make_room.new.space c.draw.new.space c.drawn_by-file.result c.join-result.new.stamps.items c.drop_seats.new.self c.self.view_is
    c.join-result.ensures.items c.in-Ok.ensures.noted c.draw.ensures c.drawn_by-file.ensures c.drop_seats.ensures) (search rules) c.join-result.ensures.err

pub returns-then-journal-count-clause-told : goal.returns-then-journal-count-clause-told
returns-then-journal-count-clause-told g c = λ joined.
    subst (λ (h : Held). Told (g.S.Store.told c.args.store.now) (g.S.Store.told c.join-result.new.store) (Waits meaning h.vault c.args.entry c.join-result.result c.join-result.new.vault)) c.self.view_is c.join-result.ensures.told

pub returns-then-journal-count-clause-err : goal.returns-then-journal-count-clause-err
returns-then-journal-count-clause-err g c =
    unjoined_refused c.args.self.now _ c.args.entry c.args.numbers.now (g.S.Store.faults_of c.args.store.now) (g.S.Store.faults_of c.join-result.new.store) c.join-result.result c.join-result.new.vault
    c.join-result.new.stamps.items c.make_room.new.space c.forget-then-journal-count.new.self c.in-Ok.number _ (c.join-result.new.store ≡ c.args.store.now) c.self.view_is c.requires.sure c.requires.short
    (ap length (sym c.journal.ensures) ∙ c.if-journal-count.true ∙ ap length c.journal-count.ensures)
    c.join-result.ensures.items c.in-Ok.ensures.number c.in-Ok.ensures.noted c.forget-then-journal-count.ensures refl c.join-result.ensures.err

pub invariant_of-self-2 : goal.invariant_of-self-2
invariant_of-self-2 g c = (
  c.join-result.ensures.keeps c.self.inside.base c.self.invariant.0,
  kept_behind c.follow.new.index c.join-result.new.vault.database.stores c.make_room.new.space c.draw.new.space c.drawn_by-file.result c.draw.ensures
      (c.follow.ensures c.self.inside.vault c.args.entry (ap length c.journal-count.ensures) (λ is. made_of c.join-result.result c.join-result.ensures.ok (sym c.is_ok.ensures.value ∙ is))
      (c.in-Ok.ensures.legal (subst (λ (h : Held). refused no_journal c.args.entry.change h.vault.database ≡ None) (sym c.self.view_is) c.requires.legal)) c.named_in-named.ensures
      (noted_there c.in-Ok.number _ _ c.self.inside.space c.make_room.new.space c.in-Ok.ensures.number c.in-Ok.ensures.noted) (c.in-Ok.ensures.index c.self.inside.vault.database.stores c.self.invariant.1)),
)
