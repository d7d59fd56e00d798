pub mod StoredKeys
