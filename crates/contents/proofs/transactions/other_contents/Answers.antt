use Rattle.inventory_laws.specs.inventory_rows.Search.{versions}
use Rattle.contents.specs.Contents.{InImage, InStore}
use Rattle.contents.proofs.Brought.{have_one_more, have_same}
use Rattle.contents.proofs.transactions.other_contents.Goals as goal

pub returns-clause-kept : goal.returns-clause-kept
returns-clause-kept k contents other h v same kept = have_same (InStore h) contents other (versions v) same kept

pub returns-clause-held : goal.returns-clause-held
returns-clause-held k contents other image v same held = have_same (InImage image) contents other (versions v) same held

pub returns-clause-new_kept : goal.returns-clause-new_kept
returns-clause-new_kept k contents object bytes h v none kept = have_one_more (InStore h) contents object bytes v none kept

pub returns-clause-new_held : goal.returns-clause-new_held
returns-clause-new_held k contents image object bytes v none held = have_one_more (InImage image) contents object bytes v none held
