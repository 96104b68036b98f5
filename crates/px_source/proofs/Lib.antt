mod Given
mod Repeats
