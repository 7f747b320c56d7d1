mod AppendLemmas
mod EndLemmas
mod LinesLemmas
mod OpenLemmas
mod RunLemmas
mod StageLemmas
mod StepLemmas
mod TakenLemmas
