pub mod SessionCiphers
