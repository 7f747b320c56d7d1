-- What a chunk shows of a state: its first page as the header, the record of the state, and pages at a place.
pub use Rattle.lane_advance.specs.Places.{picture_of}
