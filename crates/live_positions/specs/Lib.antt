pub mod ResetPoints
