mod DiskSteps
mod Moving
mod RecordedLemmas
mod Replays
mod Tearing
mod Zeroing
