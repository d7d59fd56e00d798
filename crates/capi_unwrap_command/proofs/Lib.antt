pub mod ArgumentNames
