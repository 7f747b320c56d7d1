mod RefusalLemmas
mod SoundLemmas
mod TextLemmas
mod ToldLemmas
mod WordsLemmas
