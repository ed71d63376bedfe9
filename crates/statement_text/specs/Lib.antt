pub mod Buffer
pub mod InnerContracts
pub mod Printed
pub mod PrintedSentences
pub mod Sentence
pub mod Text
