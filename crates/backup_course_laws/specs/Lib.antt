pub mod UpkeepLaws
pub mod SavingLaws
pub mod SavedLaws
pub mod ArchivingLaws
pub mod SpacesLaws
pub mod Passing
