pub mod Rings
pub mod PartsLaws
pub mod MovesLaws
pub mod FitLaws
pub mod RoomLaws
pub mod TellsLaws
pub mod PassedLaws
