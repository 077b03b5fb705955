use Rattle.tsm_top.proofs.Completing.{sound_well, whole_well}
use Rattle.tsm_top.proofs.laws.legal_scripts_end_well.Goals as goal

pub returns-clause-whole : goal.returns-clause-whole
returns-clause-whole c =
    λ command k told left_told before after opened last end status journal stamps notes base generation script left was is ran all plain none legal.
    whole_well command k told left_told before after opened last end status journal stamps notes base generation script left was is ran all plain none legal

pub returns-clause-sound : goal.returns-clause-sound
returns-clause-sound c =
    λ command k told left_told before after opened last end status journal stamps notes base generation script left was is ran all plain none contents sure legal.
    sound_well command k told left_told before after opened last end status journal stamps notes base generation script left was is ran all plain none contents sure legal
