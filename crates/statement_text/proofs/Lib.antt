pub mod Decimal
pub mod EventLines
pub mod Lines
pub mod Pieces
pub mod Room
pub mod SentenceParts
