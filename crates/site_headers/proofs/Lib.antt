pub mod SpaceLemmas
pub mod FrontLemmas
pub mod CatalogueLemmas
