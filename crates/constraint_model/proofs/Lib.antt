mod Runs
mod Reading
mod WordParts
mod StateSets
mod Parts
