mod PlanLemmas
mod StretchLemmas
mod FileLemmas
mod SpanLemmas
