mod LayoutLemmas
