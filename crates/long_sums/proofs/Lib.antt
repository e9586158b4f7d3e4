mod Longs
mod Passed
