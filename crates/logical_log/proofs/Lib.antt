pub mod StandsLemmas
pub mod PassLemmas
pub mod BatchLemmas
pub mod ResetLemmas
pub mod FormatLemmas
pub mod OpenLemmas
pub mod PlacesLemmas
pub mod RecordsLemmas
