pub mod SavedParts
pub mod DecodeEncode
pub mod EncodeDecode
pub mod SavedExamples
pub mod SavingExamples
pub mod SavedReadBack
pub mod SessionLengths
pub mod AnsweredNumbers
