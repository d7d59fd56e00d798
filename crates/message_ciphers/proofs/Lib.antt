pub mod PaddedData
pub mod AesLaws
pub mod ToyLaws
pub mod CounterIv
pub mod AesBytes
