pub mod ChainLemmas
pub mod JoinLemmas
pub mod LayoutLemmas
pub mod TakeLemmas
pub mod RunLemmas
pub mod PlaceLemmas
pub mod HoleLemmas
pub mod OpenLemmas
