use Rattle.crew.proofs.known.Keeper.begin.Given as goal

-- the actor that begins
abbrev pub ghosts-begin_actor : goal.ghosts-begin_actor
ghosts-begin_actor g a = record { actor = a.actor }
