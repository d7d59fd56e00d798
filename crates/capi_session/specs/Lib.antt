pub mod SessionBytes
