mod Made
mod Runs
