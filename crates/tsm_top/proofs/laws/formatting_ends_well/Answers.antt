use Rattle.tree_api.specs.Cause.{Rose as RoseIn}
use Rattle.tsm_top.proofs.Formatting.{formats_well}
use Rattle.tsm_top.proofs.laws.formatting_ends_well.Goals as goal

pub returns : goal.returns
returns c words why told left last before after put_before put_after sink_before sink_after status journal stamps notes base generation opened cause shut asks h is has_none none =
    formats_well words asks told left last before after h is has_none none why put_before put_after (RoseIn sink_before sink_after) status journal stamps notes base generation opened cause shut
