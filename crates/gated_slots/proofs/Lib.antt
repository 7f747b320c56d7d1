mod Appending
mod Counting
