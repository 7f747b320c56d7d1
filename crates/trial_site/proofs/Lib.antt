mod DisksLemmas
