mod Copying
mod Keeping
