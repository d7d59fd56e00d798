pub mod Suites
pub mod StoredKeys
