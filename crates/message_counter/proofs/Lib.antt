pub mod CounterBytes
