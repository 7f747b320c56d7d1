mod LineLemmas
mod RowLemmas
