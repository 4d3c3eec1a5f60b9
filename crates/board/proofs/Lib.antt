mod Spelling
mod Reading
mod Taking
mod Counting
mod Sums
